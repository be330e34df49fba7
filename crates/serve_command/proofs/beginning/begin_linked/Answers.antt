use Rattle.std.proofs.Common.{Err, List, ap, subst, sym, ◌∙◌, []}
use Rattle.chain_core.specs.declared.starting.Mode.TheVariants.{Guests}
use Rattle.chain_model.specs.Members.{NoneTwice}
use Rattle.command_base.proofs.Followed.{last_once}
use Rattle.command_base.proofs.Said.{err_as}
use Rattle.command_base.specs.Commands.{AreOpened}
use Rattle.link_rules.specs.Chains.{names_of}
use Rattle.link_rules.specs.Folders.{contents}
use Rattle.link_rules.specs.declared.linked.LinkedFile.{LinkedFile}
use Rattle.serve_command.specs.Guests.{source_of, workers_of}
use Rattle.serve_command.proofs.Handing.{begins_over}
use Rattle.steps_command.proofs.Lending.{lent_chain}
use Rattle.steps_command.proofs.Over.{not_lent}
use Rattle.steps_command.proofs.OverAll.{linked_back, linked_not_run}
use Rattle.steps_command.specs.Sessions.{NotRunOver}
use Rattle.steps_command.specs.declared.refusal.StepsRefusal.TheVariants as steps
use Rattle.serve_command.proofs.beginning.begin_linked.Goals as goal

pub attach-requires-clause-once : goal.attach-requires-clause-once
attach-requires-clause-once g c = subst (λ (fs : List LinkedFile). NoneTwice (names_of fs)) (sym c.as_slice-files.ensures) (last_once c.args.linked.now.retired (names_of c.args.linked.now.files) c.requires.chain.once)

pub attach-requires-clause-opened : goal.attach-requires-clause-opened
attach-requires-clause-opened g c t told = subst (AreOpened (contents t)) (sym c.as_slice-files.ensures) (c.requires.chain.chain t told).opened

pub returns-in_err-store-clause-err : goal.returns-in_err-store-clause-err
returns-in_err-store-clause-err g c =
    err_as (NotRunOver Guests (source_of c.args.merging) c.args.linked.now _ _ _ _) c.from_residual.result (steps.Chain c.in_err-store.field-0.0) c.from_residual.ensures.1
    (not_lent Guests (source_of c.args.merging) c.args.linked.now _ _ _ c.in_err-store.field-0.0 c.requires.chain.idle c.requires.chain.chain c.in_err-store.ensures.err)

pub begin_lent-requires-clause-chain : goal.begin_lent-requires-clause-chain
begin_lent-requires-clause-chain g c = lent_chain c.args.linked.now c.as_slice-files.result.now (g.H.Host.hosted c.args.host.now) (g.H.Host.hosted c.attach.new.host) (g.H.S.Store.disk c.in_ok-store.store) c.as_slice-files.ensures c.requires.chain c.in_ok-store.ensures.ok

pub give_back-requires : goal.give_back-requires
give_back-requires g c =
    linked_back Guests (source_of c.args.merging) c.args.linked.now c.as_slice-files.result.now c.args.names.now [] (Err c.in-Err.refusal) (g.H.Host.hosted c.args.host.now) (g.H.Host.hosted c.attach.new.host) (g.H.S.Store.disk c.in_ok-store.store)
    (g.H.S.Store.disk c.in-Err.store) (g.I.Ids.drawn c.args.ids.now) (g.I.Ids.drawn c.begin_lent.new.ids) c.as_slice-files.ensures (c.requires.names ∙ ap names_of (sym c.as_slice-files.ensures)) c.requires.chain c.in_ok-store.ensures.ok tt c.in-Err.ensures.err

pub returns-in-Ok-clause-begins : goal.returns-in-Ok-clause-begins
returns-in-Ok-clause-begins g c =
    begins_over g.H.S.Store.disk (source_of c.args.merging) c.args.guests (workers_of c.args.merging) c.args.linked.now c.as_slice-files.result.now (g.H.Host.hosted c.args.host.now) (g.H.Host.hosted c.attach.new.host) (g.I.Ids.drawn c.args.ids.now) (g.I.Ids.drawn c.begin_lent.new.ids)
    (g.H.S.Store.disk c.in_ok-store.store) c.in-Ok.begun c.as_slice-files.ensures c.in_ok-store.ensures.ok c.in-Ok.ensures.begins c.in-Ok.ensures.size

pub returns-in-Err-clause-err : goal.returns-in-Err-clause-err
returns-in-Err-clause-err g c =
    linked_not_run Guests (source_of c.args.merging) c.args.linked.now c.as_slice-files.result.now c.args.names.now [] (Err c.in-Err.refusal) (g.H.Host.hosted c.args.host.now) (g.H.Host.hosted c.attach.new.host) (g.H.S.Store.disk c.in_ok-store.store)
    (g.H.S.Store.disk c.in-Err.store) (g.I.Ids.drawn c.args.ids.now) (g.I.Ids.drawn c.begin_lent.new.ids) c.as_slice-files.ensures (c.requires.names ∙ ap names_of (sym c.as_slice-files.ensures)) c.requires.chain c.in_ok-store.ensures.ok tt c.in-Err.ensures.err
    (g.H.Host.hosted c.give_back.new.self) tt c.give_back.ensures.folder c.give_back.ensures.past c.give_back.ensures.count
