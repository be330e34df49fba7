use Rattle.std.proofs.Common.{refl, subst, sym, ◌∷◌, []}
use Rattle.std.specs.Prelude.{is_some}
use Rattle.chain_core.specs.Starting.{IsOfDisk}
use Rattle.chain_core.specs.declared.starting.Mode.TheVariants.{Guests}
use Rattle.store_model.specs.Disk.{WhereTold}
use Rattle.store_model.specs.Folder.{AreAway}
use Rattle.serve_session.specs.Back.{any_failed}
use Rattle.serve_command.specs.Guests.{source_of}
use Rattle.steps_command.specs.Sessions.{NotRunOver}
use Rattle.command_base.specs.declared.refusal.ChainRefusal.TheVariants as chain
use Rattle.steps_command.specs.declared.refusal.StepsRefusal.TheVariants as steps
use Rattle.steps_command.proofs.Over.{not_lent}
use Rattle.command_base.proofs.Said.{err_as}
use Rattle.serve_command.proofs.Handing.{back_ran, none_stops}
use Rattle.serve_command.proofs.ServedOver.{served_back}
use Rattle.nbd_session.specs.Connected.{asked_by_client, ending_of_client}
use Rattle.nbd_command.proofs.Clients.{client_run, size_most, size_some}
use Rattle.nbd_command.proofs.command.serve_linked.Goals as goal

pub returns-in_err-names-clause-err : goal.returns-in_err-names-clause-err
returns-in_err-names-clause-err g c =
    err_as (NotRunOver Guests (source_of c.args.merging) c.args.linked.now _ _ _ _) c.from_residual.result (steps.Chain chain.NoRoom) c.from_residual.ensures.1 (not_lent Guests (source_of c.args.merging) c.args.linked.now _ _ _ chain.NoRoom c.requires.chain.idle c.requires.chain.chain refl)

pub serve_begun_client-store-requires-clause-some : goal.serve_begun_client-store-requires-clause-some
serve_begun_client-store-requires-clause-some g c κs within =
    size_some c.args.linked.now.files c.size_of.result c.requires.chain.line (subst (λ fs. IsOfDisk fs c.size_of.result) c.as_slice-files.ensures c.size_of.ensures) c.requires.chain.served

pub serve_begun_client-store-requires-clause-most : goal.serve_begun_client-store-requires-clause-most
serve_begun_client-store-requires-clause-most g c κs within =
    size_most c.args.linked.now.files c.size_of.result c.requires.chain.line (subst (λ fs. IsOfDisk fs c.size_of.result) c.as_slice-files.ensures c.size_of.ensures) c.requires.chain.served

pub give_back-requires : goal.give_back-requires
give_back-requires g c =
    let b = c.in_ok-begun.ensures.begins in
    let s = c.serve_begun_client-store in
    let run = s.result.1 in
    let t = client_run g.H.S.Store.disk (source_of c.args.merging) _ c.args.linked.now _ _ _ _ c.in_ok-begun.begun b (is_some c.args.last) _ _ _ run (g.H.S.Store.disk s.result.0) c.requires.last s.ensures.served s.ensures.unserved in
    subst (λ o. WhereTold o (λ folder. WhereTold (g.H.S.Store.disk s.result.0).told (λ trace. AreAway trace folder))) (sym c.give_back_sets.ensures.folder)
    (served_back (source_of c.args.merging) c.args.linked.now (g.H.Host.hosted c.args.host.now) (g.H.Host.hosted c.begin_linked.new.host) b.lent (g.H.S.Store.disk s.result.0) (g.I.Ids.drawn c.args.ids.now) (g.I.Ids.drawn c.begin_linked.new.ids) c.requires.chain b.lends
    (asked_by_client t.calls) (t.outcomes ∷ []) t.history (ending_of_client run) run.merged t.ran)

pub returns-clause-ran : goal.returns-clause-ran
returns-clause-ran g c =
    let b = c.in_ok-begun.ensures.begins in
    let s = c.serve_begun_client-store in
    let run = s.result.1 in
    let t = client_run g.H.S.Store.disk (source_of c.args.merging) _ c.args.linked.now _ _ _ _ c.in_ok-begun.begun b (is_some c.args.last) _ _ _ run (g.H.S.Store.disk s.result.0) c.requires.last s.ensures.served s.ensures.unserved in
    record {
      export = _;
      calls = t.calls;
      outcomes = t.outcomes;
      history = t.history;
      offered = record { name = refl; size = subst (λ fs. IsOfDisk fs c.size_of.result) c.as_slice-files.ensures c.size_of.ensures; writable = refl };
      connected = t.connected;
      over =
          back_ran (source_of c.args.merging) c.args.linked.now (g.H.Host.hosted c.args.host.now) (g.H.Host.hosted c.begin_linked.new.host) (g.H.Host.hosted c.give_back_sets.new.host) (g.H.Host.hosted c.give_back.new.self) b.lent (g.H.S.Store.disk s.result.0)
          (g.I.Ids.drawn c.args.ids.now) (g.I.Ids.drawn c.begin_linked.new.ids) c.requires.chain b.lends (any_failed s.result.2.items) c.give_back_sets.ensures.folder c.give_back_sets.ensures.past c.give_back_sets.ensures.count
          c.give_back.ensures.folder c.give_back.ensures.past c.give_back.ensures.count c.give_back.ensures.untold c.give_back.ensures.told
          (asked_by_client t.calls) (t.outcomes ∷ []) t.history (ending_of_client run) run.merged s.ensures.back (none_stops (source_of c.args.merging) (is_some c.args.last) run.merged c.requires.last s.ensures.without) t.ran;
    }
