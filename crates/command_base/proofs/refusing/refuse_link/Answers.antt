use Rattle.std.proofs.Common.{ap, subst, ◌∙◌}
use Rattle.file_open.specs.Causes as opening
use Rattle.link_rules.specs.Causes.{meaning_of, of_file}
use Rattle.link_rules.specs.Chains.{BadLink, ChainLoop, ChainTooLong, GeometryMismatch, LinkageMismatch}
use Rattle.vhdx_format.specs.Rules.{BadLocator, NoParentName}
use Rattle.command_base.specs.Causes.{of_chain}
use Rattle.command_base.specs.Commands.{Reports}
use Rattle.command_base.proofs.RuleSaid.{link_said}
use Rattle.command_base.proofs.Said.{reports_for}
use Rattle.command_base.proofs.refusing.refuse_link.Goals as goal

pub returns-in-Unopened : goal.returns-in-Unopened
returns-in-Unopened g c =
    reports_for (λ r. of_chain (meaning_of r)) _ _ _ _ _ c.args.refusal _ c.in-Unopened.is
    (subst (λ f. Reports (of_chain (of_file f (opening.meaning_of c.in-Unopened.refusal))) (g.K.Sink.written c.args.out.now) (g.K.Sink.written c.refuse_opening.new.out) (g.K.Sink.faults c.args.out.now) (g.K.Sink.faults c.refuse_opening.new.out) c.refuse_opening.result)
    c.as_str.ensures c.refuse_opening.ensures)

pub returns-in-BadLocator : goal.returns-in-BadLocator
returns-in-BadLocator g c =
    reports_for (λ r. of_chain (meaning_of r)) _ _ _ _ _ c.args.refusal _ c.in-BadLocator.is
    (link_said _ _ _ _ _ c.bad_locator_line.result _ _ (ap (λ f. BadLink f (BadLocator c.in-BadLocator.entry)) c.as_str-in-BadLocator.ensures) c.bad_locator_line.ensures c.refuse.ensures)

pub returns-in-NoParentName : goal.returns-in-NoParentName
returns-in-NoParentName g c =
    reports_for (λ r. of_chain (meaning_of r)) _ _ _ _ _ c.args.refusal _ c.in-NoParentName.is
    (link_said _ _ _ _ _ c.no_parent_name_line.result _ _ (ap (λ f. BadLink f NoParentName) c.as_str-in-NoParentName.ensures) c.no_parent_name_line.ensures c.refuse-in-NoParentName.ensures)

pub returns-in-ChainLoop : goal.returns-in-ChainLoop
returns-in-ChainLoop g c =
    reports_for (λ r. of_chain (meaning_of r)) _ _ _ _ _ c.args.refusal _ c.in-ChainLoop.is
    (link_said _ _ _ _ _ c.loop_line.result _ _ (ap (λ f. ChainLoop f c.as_str-in-ChainLoop-2.result.now) c.as_str-in-ChainLoop.ensures ∙ ap (ChainLoop c.in-ChainLoop.file) c.as_str-in-ChainLoop-2.ensures) c.loop_line.ensures c.refuse-in-ChainLoop.ensures)

pub returns-in-ChainTooLong : goal.returns-in-ChainTooLong
returns-in-ChainTooLong g c =
    reports_for (λ r. of_chain (meaning_of r)) _ _ _ _ _ c.args.refusal _ c.in-ChainTooLong.is
    (link_said _ _ _ _ _ c.chain_too_long_line.result _ _ (ap ChainTooLong c.as_str-in-ChainTooLong.ensures) c.chain_too_long_line.ensures c.refuse-in-ChainTooLong.ensures)

pub returns-in-LinkageMismatch : goal.returns-in-LinkageMismatch
returns-in-LinkageMismatch g c =
    reports_for (λ r. of_chain (meaning_of r)) _ _ _ _ _ c.args.refusal _ c.in-LinkageMismatch.is
    (link_said _ _ _ _ _ c.linkage_line.result _ _ (ap (λ f. LinkageMismatch f c.in-LinkageMismatch.wanted c.in-LinkageMismatch.second c.in-LinkageMismatch.found) c.as_str-in-LinkageMismatch.ensures) c.linkage_line.ensures c.refuse-in-LinkageMismatch.ensures)

pub returns-in-GeometryMismatch : goal.returns-in-GeometryMismatch
returns-in-GeometryMismatch g c =
    reports_for (λ r. of_chain (meaning_of r)) _ _ _ _ _ c.args.refusal _ c.in-GeometryMismatch.is
    (link_said _ _ _ _ _ c.geometry_line.result _ _ (ap (λ f. GeometryMismatch f c.in-GeometryMismatch.child c.in-GeometryMismatch.parent) c.as_str-in-GeometryMismatch.ensures) c.geometry_line.ensures c.refuse-in-GeometryMismatch.ensures)

pub returns-in-NoRoom : goal.returns-in-NoRoom
returns-in-NoRoom g c = reports_for (λ r. of_chain (meaning_of r)) _ _ _ _ _ c.args.refusal _ c.in-NoRoom.is c.out_of_memory.ensures
