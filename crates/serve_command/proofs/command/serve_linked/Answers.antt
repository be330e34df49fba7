use Rattle.std.proofs.Common.{ap, refl, subst, sym, ◌∙◌}
use Rattle.std.specs.Prelude.{is_some}
use Rattle.chain_core.specs.declared.starting.Mode.TheVariants.{Guests}
use Rattle.store_model.specs.Disk.{WhereTold}
use Rattle.store_model.specs.Folder.{AreAway}
use Rattle.link_rules.specs.Chains.{names_of}
use Rattle.serve_session.specs.Back.{any_failed}
use Rattle.serve_session.specs.Endings.{ending_of}
use Rattle.serve_session.specs.Served.{asked_by}
use Rattle.serve_session.specs.Written.{IsWritten}
use Rattle.serve_command.specs.Guests.{source_of}
use Rattle.steps_command.specs.Sessions.{NotRunOver}
use Rattle.command_base.specs.declared.refusal.ChainRefusal.TheVariants as chain
use Rattle.steps_command.specs.declared.refusal.StepsRefusal.TheVariants as steps
use Rattle.steps_command.proofs.Over.{not_lent}
use Rattle.command_base.proofs.Said.{err_as}
use Rattle.serve_command.proofs.Handing.{back_ran, mapped, none_stops, script_run}
use Rattle.serve_command.proofs.ServedOver.{served_back}
use Rattle.serve_command.proofs.command.serve_linked.Goals as goal

pub returns-in_err-names-clause-err : goal.returns-in_err-names-clause-err
returns-in_err-names-clause-err g c =
    err_as (NotRunOver Guests (source_of c.args.merging) c.args.linked.now _ _ _ _) c.from_residual.result (steps.Chain chain.NoRoom) c.from_residual.ensures.1 (not_lent Guests (source_of c.args.merging) c.args.linked.now _ _ _ chain.NoRoom c.requires.chain.idle c.requires.chain.chain refl)

pub give_back-requires : goal.give_back-requires
give_back-requires g c =
    let b = c.in_ok-begun.ensures.begins in
    let s = c.serve_begun-store in
    let t = script_run g.H.S.Store.disk (source_of c.args.merging) _ _ c.args.linked.now _ _ _ _ c.in_ok-begun.begun b (is_some c.args.last) _ c.args.lines.now s.result.1 (g.H.S.Store.disk s.result.0) c.requires.last s.ensures.served s.ensures.unserved in
    subst (λ o. WhereTold o (λ folder. WhereTold (g.H.S.Store.disk s.result.0).told (λ trace. AreAway trace folder))) (sym c.give_back_sets.ensures.folder)
    (served_back (source_of c.args.merging) c.args.linked.now (g.H.Host.hosted c.args.host.now) (g.H.Host.hosted c.begin_linked.new.host) b.lent (g.H.S.Store.disk s.result.0) (g.I.Ids.drawn c.args.ids.now) (g.I.Ids.drawn c.begin_linked.new.ids) c.requires.chain b.lends
    (asked_by c.args.lines.now) t.guests t.history (ending_of s.result.1.run s.result.1.unread) s.result.1.merged t.ran)

pub returns-clause-ran : goal.returns-clause-ran
returns-clause-ran g c =
    let b = c.in_ok-begun.ensures.begins in
    let s = c.serve_begun-store in
    let run = s.result.1 in
    let names = c.as_slice-names.result.now in
    let t = script_run g.H.S.Store.disk (source_of c.args.merging) _ _ c.args.linked.now _ _ _ _ c.in_ok-begun.begun b (is_some c.args.last) _ c.args.lines.now run (g.H.S.Store.disk s.result.0) c.requires.last s.ensures.served s.ensures.unserved in
    record {
      guests = t.guests;
      history = t.history;
      served =
          back_ran (source_of c.args.merging) c.args.linked.now (g.H.Host.hosted c.args.host.now) (g.H.Host.hosted c.begin_linked.new.host) (g.H.Host.hosted c.give_back_sets.new.host) (g.H.Host.hosted c.give_back.new.self) b.lent (g.H.S.Store.disk s.result.0)
          (g.I.Ids.drawn c.args.ids.now) (g.I.Ids.drawn c.begin_linked.new.ids) c.requires.chain b.lends (any_failed s.result.2.items) c.give_back_sets.ensures.folder c.give_back_sets.ensures.past c.give_back_sets.ensures.count
          c.give_back.ensures.folder c.give_back.ensures.past c.give_back.ensures.count c.give_back.ensures.untold c.give_back.ensures.told
          (asked_by c.args.lines.now) t.guests t.history (ending_of run.run run.unread) run.merged s.ensures.back (none_stops (source_of c.args.merging) (is_some c.args.last) run.merged c.requires.last s.ensures.without) t.ran;
      written =
          subst (λ ns. IsWritten ns c.args.lines.now t.guests t.history run.run run.tally) (mapped names ∙ c.as_slice-names.ensures ∙ c.in_ok-names.ensures ∙ ap names_of c.as_slice.ensures) t.written;
    }
