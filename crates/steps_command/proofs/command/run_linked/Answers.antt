use Rattle.std.proofs.Common.{List, refl, subst, sym, ◌∙◌}
use Rattle.command_base.proofs.Followed.{last_once}
use Rattle.chain_model.specs.Members.{NoneTwice}
use Rattle.link_rules.specs.Chains.{names_of}
use Rattle.link_rules.specs.Folders.{contents}
use Rattle.link_rules.specs.declared.linked.LinkedFile.{LinkedFile}
use Rattle.command_base.specs.Commands.{AreOpened}
use Rattle.steps_command.specs.Sessions.{NotRunOver}
use Rattle.command_base.specs.declared.refusal.ChainRefusal.TheVariants as chain
use Rattle.steps_command.specs.declared.refusal.StepsRefusal.TheVariants as steps
use Rattle.steps_command.proofs.Lending.{lent_chain}
use Rattle.steps_command.proofs.Over.{not_lent}
use Rattle.steps_command.proofs.OverAll.{barred, linked_back, linked_not_run, linked_ran}
use Rattle.command_base.proofs.Said.{err_as}
use Rattle.steps_command.proofs.command.run_linked.Goals as goal

pub returns-in_err-check_mode-clause-err : goal.returns-in_err-check_mode-clause-err
returns-in_err-check_mode-clause-err g c =
    let e = c.in_err-check_mode.ensures.err in
    let host = g.H.Host.hosted c.args.host.now in
    let drawn = g.I.Ids.drawn c.args.ids.now in
    err_as (NotRunOver c.args.mode c.args.source.now c.args.linked.now host host drawn drawn) c.from_residual.result c.in_err-check_mode.field-0.0 c.from_residual.ensures.1
    (subst (NotRunOver c.args.mode c.args.source.now c.args.linked.now host host drawn drawn) (sym e.0) (barred c.args.mode c.args.source.now c.args.linked.now host drawn c.requires.chain.idle c.requires.chain.chain e.1))

pub returns-in_err-names-clause-err : goal.returns-in_err-names-clause-err
returns-in_err-names-clause-err g c =
    err_as (NotRunOver c.args.mode c.args.source.now c.args.linked.now _ _ _ _) c.from_residual-in_err-names.result (steps.Chain chain.NoRoom) c.from_residual-in_err-names.ensures.1 (not_lent c.args.mode c.args.source.now c.args.linked.now _ _ _ chain.NoRoom c.requires.chain.idle c.requires.chain.chain refl)

pub attach-requires-clause-once : goal.attach-requires-clause-once
attach-requires-clause-once g c = subst (λ (fs : List LinkedFile). NoneTwice (names_of fs)) (sym c.as_slice-files.ensures) (last_once c.args.linked.now.retired (names_of c.args.linked.now.files) c.requires.chain.once)

pub attach-requires-clause-opened : goal.attach-requires-clause-opened
attach-requires-clause-opened g c t told = subst (AreOpened (contents t)) (sym c.as_slice-files.ensures) (c.requires.chain.chain t told).opened

pub returns-in_err-store-clause-err : goal.returns-in_err-store-clause-err
returns-in_err-store-clause-err g c =
    err_as (NotRunOver c.args.mode c.args.source.now c.args.linked.now _ _ _ _) c.from_residual-in_err-store.result (steps.Chain c.in_err-store.field-0.0) c.from_residual-in_err-store.ensures.1
    (not_lent c.args.mode c.args.source.now c.args.linked.now _ _ _ c.in_err-store.field-0.0 c.requires.chain.idle c.requires.chain.chain c.in_err-store.ensures.err)

pub run_on-store-requires-clause-chain : goal.run_on-store-requires-clause-chain
run_on-store-requires-clause-chain g c = lent_chain c.args.linked.now c.as_slice-files.result.now (g.H.Host.hosted c.args.host.now) (g.H.Host.hosted c.attach.new.host) (g.H.S.Store.disk c.in_ok-store.store) c.as_slice-files.ensures c.requires.chain c.in_ok-store.ensures.ok

pub give_back-requires : goal.give_back-requires
give_back-requires g c =
    linked_back c.args.mode c.args.source.now c.args.linked.now c.as_slice-files.result.now c.as_slice.result.now c.args.lines.now c.run_on-store.result.1 (g.H.Host.hosted c.args.host.now) (g.H.Host.hosted c.attach.new.host)
    (g.H.S.Store.disk c.in_ok-store.store) (g.H.S.Store.disk c.run_on-store.result.0) (g.I.Ids.drawn c.args.ids.now) (g.I.Ids.drawn c.run_on-store.new.ids) c.as_slice-files.ensures (c.as_slice.ensures ∙ c.in_ok-names.ensures) c.requires.chain
    c.in_ok-store.ensures.ok c.run_on-store.ensures.ran c.run_on-store.ensures.err

pub returns-clause-ran : goal.returns-clause-ran
returns-clause-ran g c =
    linked_ran c.args.mode c.args.source.now c.args.linked.now c.as_slice-files.result.now c.as_slice.result.now c.args.lines.now c.run_on-store.result.1 (g.H.Host.hosted c.args.host.now) (g.H.Host.hosted c.attach.new.host)
    (g.H.S.Store.disk c.in_ok-store.store) (g.H.S.Store.disk c.run_on-store.result.0) (g.I.Ids.drawn c.args.ids.now) (g.I.Ids.drawn c.run_on-store.new.ids) c.as_slice-files.ensures (c.as_slice.ensures ∙ c.in_ok-names.ensures) c.requires.chain
    c.in_ok-store.ensures.ok c.run_on-store.ensures.ran c.run_on-store.ensures.err (g.H.Host.hosted c.give_back.new.self) c.in_ok-check_mode.ensures.ok c.give_back.ensures.folder c.give_back.ensures.past c.give_back.ensures.count

pub returns-clause-err : goal.returns-clause-err
returns-clause-err g c =
    linked_not_run c.args.mode c.args.source.now c.args.linked.now c.as_slice-files.result.now c.as_slice.result.now c.args.lines.now c.run_on-store.result.1 (g.H.Host.hosted c.args.host.now) (g.H.Host.hosted c.attach.new.host)
    (g.H.S.Store.disk c.in_ok-store.store) (g.H.S.Store.disk c.run_on-store.result.0) (g.I.Ids.drawn c.args.ids.now) (g.I.Ids.drawn c.run_on-store.new.ids) c.as_slice-files.ensures (c.as_slice.ensures ∙ c.in_ok-names.ensures) c.requires.chain
    c.in_ok-store.ensures.ok c.run_on-store.ensures.ran c.run_on-store.ensures.err (g.H.Host.hosted c.give_back.new.self) c.in_ok-check_mode.ensures.ok c.give_back.ensures.folder c.give_back.ensures.past c.give_back.ensures.count
