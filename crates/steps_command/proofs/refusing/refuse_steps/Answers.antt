use Rattle.command_base.specs.Refusals.{IsBase, MetadataFull, NotInChain}
use Rattle.steps_command.specs.Sessions.{meaning_of_steps}
use Rattle.steps_command.specs.declared.refusal.StepsRefusal.TheVariants as steps
use Rattle.printing.specs.declared.status.Status.TheVariants.{Refused}
use Rattle.command_base.proofs.RuleSaid.{named_said}
use Rattle.command_base.proofs.Said.{refusal_sent, reports_for}
use Rattle.steps_command.proofs.refusing.refuse_steps.Goals as goal

pub returns-in-ReadOnly : goal.returns-in-ReadOnly
returns-in-ReadOnly g c = reports_for meaning_of_steps _ _ _ _ _ c.args.refusal steps.ReadOnly c.in-ReadOnly.is (refusal_sent _ _ _ _ Refused _ _ c.call_line.result c.call_line.ensures c.refuse.ensures)

pub returns-in-Spent : goal.returns-in-Spent
returns-in-Spent g c =
    reports_for meaning_of_steps _ _ _ _ _ c.args.refusal (steps.Spent c.in-Spent.number) c.in-Spent.is (refusal_sent _ _ _ _ Refused _ _ c.call_line-in-Spent.result c.call_line-in-Spent.ensures c.refuse-in-Spent.ensures)

pub returns-in-NotInChain : goal.returns-in-NotInChain
returns-in-NotInChain g c =
    reports_for meaning_of_steps _ _ _ _ _ c.args.refusal (steps.NotInChain c.in-NotInChain.name) c.in-NotInChain.is
    (named_said _ _ _ _ _ c.not_in_chain_line.result NotInChain _ c.in-NotInChain.name c.as_str.ensures c.not_in_chain_line.ensures c.refuse-in-NotInChain.ensures)

pub returns-in-IsBase : goal.returns-in-IsBase
returns-in-IsBase g c =
    reports_for meaning_of_steps _ _ _ _ _ c.args.refusal (steps.IsBase c.in-IsBase.name) c.in-IsBase.is
    (named_said _ _ _ _ _ c.is_base_line.result IsBase _ c.in-IsBase.name c.as_str-in-IsBase.ensures c.is_base_line.ensures c.refuse-in-IsBase.ensures)

pub returns-in-MetadataFull : goal.returns-in-MetadataFull
returns-in-MetadataFull g c =
    reports_for meaning_of_steps _ _ _ _ _ c.args.refusal (steps.MetadataFull c.in-MetadataFull.file) c.in-MetadataFull.is
    (named_said _ _ _ _ _ c.metadata_full_line.result MetadataFull _ c.in-MetadataFull.file c.as_str-in-MetadataFull.ensures c.metadata_full_line.ensures c.refuse-in-MetadataFull.ensures)

pub returns-in-LocatorTooLarge : goal.returns-in-LocatorTooLarge
returns-in-LocatorTooLarge g c =
    reports_for meaning_of_steps _ _ _ _ _ c.args.refusal (steps.LocatorTooLarge c.in-LocatorTooLarge.len) c.in-LocatorTooLarge.is
    (refusal_sent _ _ _ _ Refused _ _ c.locator_too_large_line.result c.locator_too_large_line.ensures c.refuse-in-LocatorTooLarge.ensures)

pub returns-in-IdUnfit : goal.returns-in-IdUnfit
returns-in-IdUnfit g c =
    reports_for meaning_of_steps _ _ _ _ _ c.args.refusal (steps.IdUnfit c.in-IdUnfit.id) c.in-IdUnfit.is (refusal_sent _ _ _ _ Refused _ _ c.unfit_line.result c.unfit_line.ensures c.refuse-in-IdUnfit.ensures)
