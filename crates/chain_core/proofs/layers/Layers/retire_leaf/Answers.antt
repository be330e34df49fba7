use Rattle.std.proofs.Common.{refl}
use Rattle.chain_core.specs.Finished.{Finishes}
use Rattle.chain_core.specs.declared.layers.Layers.{Layers}
use Rattle.vx_base.proofs.Handed.{handed}
use Rattle.chain_core.proofs.LeafPuts.{some_kept}
use Rattle.chain_core.proofs.RetireLeaf.{clear_low, clear_merge, clear_settled, finish_retired, first_ready, hand_can, hand_session, hand_target, hand_there, identify_merge, identify_next, identify_ready, identify_session, identify_there, leaf_session, retire_can, retire_merge, retire_session, second_ready, settle_low, stopped_fifth, stopped_first, stopped_fourth, stopped_second, stopped_sixth, stopped_third, target_low, target_session}
use Rattle.chain_core.proofs.layers.Layers.retire_leaf.Goals as goal

pub returns-in_err-settle : goal.returns-in_err-settle
returns-in_err-settle g c =
    let L0 : Layers = c.args.self.now in
    let d0 = g.S.Store.disk c.args.store.now in
    let q = c.requires in
    let kept = some_kept L0.retiring q.merge in
    let r = kept.0 in
    handed (Finishes L0 c.settle.new.self d0 (g.S.Store.disk c.settle.new.store)) c.from_residual.result c.in_err-settle.field-0.0 c.from_residual.ensures
    (stopped_first L0 r d0 q.none kept.1 q.copied q.ready c.settle.new.self (g.S.Store.disk c.settle.new.store) c.in_err-settle.field-0.0 c.in_err-settle.ensures)

pub settle-requires-2-clause-ready : goal.settle-requires-2-clause-ready
settle-requires-2-clause-ready g c =
    let L0 : Layers = c.args.self.now in
    let d0 = g.S.Store.disk c.args.store.now in
    let q = c.requires in
    let kept = some_kept L0.retiring q.merge in
    let r = kept.0 in
    first_ready L0 r d0 q.none kept.1 q.copied q.ready c.settle.new.self (g.S.Store.disk c.settle.new.store) c.in_ok-settle.ensures

pub settle-requires-2-clause-low : goal.settle-requires-2-clause-low
settle-requires-2-clause-low g c =
    let L0 : Layers = c.args.self.now in
    let d0 = g.S.Store.disk c.args.store.now in
    let q = c.requires in
    let kept = some_kept L0.retiring q.merge in
    let r = kept.0 in
    settle_low L0 r d0 q.none kept.1 q.copied q.ready c.settle.new.self (g.S.Store.disk c.settle.new.store) c.in_ok-settle.ensures q.low

pub returns-in_err-settle-2 : goal.returns-in_err-settle-2
returns-in_err-settle-2 g c =
    let L0 : Layers = c.args.self.now in
    let d0 = g.S.Store.disk c.args.store.now in
    let q = c.requires in
    let kept = some_kept L0.retiring q.merge in
    let r = kept.0 in
    handed (Finishes L0 c.settle-2.new.self d0 (g.S.Store.disk c.settle-2.new.store)) c.from_residual-in_err-settle-2.result c.in_err-settle-2.field-0.0 c.from_residual-in_err-settle-2.ensures
    (stopped_second L0 r d0 q.none kept.1 q.copied q.ready c.settle.new.self (g.S.Store.disk c.settle.new.store) c.in_ok-settle.ensures c.settle-2.new.self (g.S.Store.disk c.settle-2.new.store) c.in_err-settle-2.field-0.0 c.in_err-settle-2.ensures)

pub clear-requires-clause-ready : goal.clear-requires-clause-ready
clear-requires-clause-ready g c =
    let L0 : Layers = c.args.self.now in
    let d0 = g.S.Store.disk c.args.store.now in
    let q = c.requires in
    let kept = some_kept L0.retiring q.merge in
    let r = kept.0 in
    second_ready L0 r d0 q.none kept.1 q.copied q.ready c.settle.new.self (g.S.Store.disk c.settle.new.store) c.in_ok-settle.ensures c.settle-2.new.self (g.S.Store.disk c.settle-2.new.store) c.in_ok-settle-2.ensures

pub clear-requires-clause-low : goal.clear-requires-clause-low
clear-requires-clause-low g c =
    let L0 : Layers = c.args.self.now in
    let d0 = g.S.Store.disk c.args.store.now in
    let q = c.requires in
    let kept = some_kept L0.retiring q.merge in
    let r = kept.0 in
    clear_low L0 r d0 q.none kept.1 q.copied q.ready c.settle.new.self (g.S.Store.disk c.settle.new.store) c.in_ok-settle.ensures c.settle-2.new.self (g.S.Store.disk c.settle-2.new.store) c.in_ok-settle-2.ensures q.low

pub returns-in_err-clear : goal.returns-in_err-clear
returns-in_err-clear g c =
    let L0 : Layers = c.args.self.now in
    let d0 = g.S.Store.disk c.args.store.now in
    let q = c.requires in
    let kept = some_kept L0.retiring q.merge in
    let r = kept.0 in
    handed (Finishes L0 c.clear.new.self d0 (g.S.Store.disk c.clear.new.store)) c.from_residual-in_err-clear.result c.in_err-clear.field-0.0 c.from_residual-in_err-clear.ensures
    (stopped_third L0 r d0 q.none kept.1 q.copied q.ready c.settle.new.self (g.S.Store.disk c.settle.new.store) c.in_ok-settle.ensures c.settle-2.new.self (g.S.Store.disk c.settle-2.new.store) c.in_ok-settle-2.ensures c.clear.new.self (g.S.Store.disk c.clear.new.store) c.in_err-clear.field-0.0 c.in_err-clear.ensures)

pub retire-requires-clause-can : goal.retire-requires-clause-can
retire-requires-clause-can g c =
    let L0 : Layers = c.args.self.now in
    let d0 = g.S.Store.disk c.args.store.now in
    let q = c.requires in
    let kept = some_kept L0.retiring q.merge in
    let r = kept.0 in
    retire_can L0 r d0 q.none kept.1 q.copied q.ready c.settle.new.self (g.S.Store.disk c.settle.new.store) c.in_ok-settle.ensures c.settle-2.new.self (g.S.Store.disk c.settle-2.new.store) c.in_ok-settle-2.ensures c.clear.new.self (g.S.Store.disk c.clear.new.store) c.in_ok-clear.ensures q.low

pub returns-in_err-retire : goal.returns-in_err-retire
returns-in_err-retire g c =
    let L0 : Layers = c.args.self.now in
    let d0 = g.S.Store.disk c.args.store.now in
    let q = c.requires in
    let kept = some_kept L0.retiring q.merge in
    let r = kept.0 in
    handed (Finishes L0 c.retire.new.self d0 (g.S.Store.disk c.retire.new.store)) c.from_residual-in_err-retire.result c.in_err-retire.field-0.0 c.from_residual-in_err-retire.ensures
    (stopped_fourth L0 r d0 q.none kept.1 q.copied q.ready c.settle.new.self (g.S.Store.disk c.settle.new.store) c.in_ok-settle.ensures c.settle-2.new.self (g.S.Store.disk c.settle-2.new.store) c.in_ok-settle-2.ensures c.clear.new.self (g.S.Store.disk c.clear.new.store) c.in_ok-clear.ensures c.retire.new.self (g.S.Store.disk c.retire.new.store) c.in_err-retire.field-0.0 c.in_err-retire.ensures)

pub identify-requires-clause-there : goal.identify-requires-clause-there
identify-requires-clause-there g c =
    let L0 : Layers = c.args.self.now in
    let d0 = g.S.Store.disk c.args.store.now in
    let q = c.requires in
    let kept = some_kept L0.retiring q.merge in
    let r = kept.0 in
    identify_there L0 r d0 q.none kept.1 q.copied q.ready c.settle.new.self (g.S.Store.disk c.settle.new.store) c.in_ok-settle.ensures c.settle-2.new.self (g.S.Store.disk c.settle-2.new.store) c.in_ok-settle-2.ensures c.clear.new.self (g.S.Store.disk c.clear.new.store) c.in_ok-clear.ensures c.retire.new.self (g.S.Store.disk c.retire.new.store) c.in_ok-retire.ensures

pub identify-requires-clause-session : goal.identify-requires-clause-session
identify-requires-clause-session g c =
    let L0 : Layers = c.args.self.now in
    let d0 = g.S.Store.disk c.args.store.now in
    let q = c.requires in
    let kept = some_kept L0.retiring q.merge in
    let r = kept.0 in
    identify_session L0 r d0 q.none kept.1 q.copied q.ready c.settle.new.self (g.S.Store.disk c.settle.new.store) c.in_ok-settle.ensures c.settle-2.new.self (g.S.Store.disk c.settle-2.new.store) c.in_ok-settle-2.ensures c.clear.new.self (g.S.Store.disk c.clear.new.store) c.in_ok-clear.ensures c.retire.new.self (g.S.Store.disk c.retire.new.store) c.in_ok-retire.ensures

pub identify-requires-clause-ready : goal.identify-requires-clause-ready
identify-requires-clause-ready g c =
    let L0 : Layers = c.args.self.now in
    let d0 = g.S.Store.disk c.args.store.now in
    let q = c.requires in
    let kept = some_kept L0.retiring q.merge in
    let r = kept.0 in
    identify_ready L0 r d0 q.none kept.1 q.copied q.ready c.settle.new.self (g.S.Store.disk c.settle.new.store) c.in_ok-settle.ensures c.settle-2.new.self (g.S.Store.disk c.settle-2.new.store) c.in_ok-settle-2.ensures c.clear.new.self (g.S.Store.disk c.clear.new.store) c.in_ok-clear.ensures c.retire.new.self (g.S.Store.disk c.retire.new.store) c.in_ok-retire.ensures

pub identify-requires-clause-next : goal.identify-requires-clause-next
identify-requires-clause-next g c =
    let L0 : Layers = c.args.self.now in
    let d0 = g.S.Store.disk c.args.store.now in
    let q = c.requires in
    let kept = some_kept L0.retiring q.merge in
    let r = kept.0 in
    identify_next L0 r d0 q.none kept.1 q.copied q.ready c.settle.new.self (g.S.Store.disk c.settle.new.store) c.in_ok-settle.ensures c.settle-2.new.self (g.S.Store.disk c.settle-2.new.store) c.in_ok-settle-2.ensures c.clear.new.self (g.S.Store.disk c.clear.new.store) c.in_ok-clear.ensures c.retire.new.self (g.S.Store.disk c.retire.new.store) c.in_ok-retire.ensures

pub returns-in_err-identify : goal.returns-in_err-identify
returns-in_err-identify g c =
    let L0 : Layers = c.args.self.now in
    let d0 = g.S.Store.disk c.args.store.now in
    let q = c.requires in
    let kept = some_kept L0.retiring q.merge in
    let r = kept.0 in
    handed (Finishes L0 c.identify.new.self d0 (g.S.Store.disk c.identify.new.store)) c.from_residual-in_err-identify.result c.in_err-identify.field-0.0 c.from_residual-in_err-identify.ensures
    (stopped_fifth L0 r d0 q.none kept.1 q.copied q.ready c.settle.new.self (g.S.Store.disk c.settle.new.store) c.in_ok-settle.ensures c.settle-2.new.self (g.S.Store.disk c.settle-2.new.store) c.in_ok-settle-2.ensures c.clear.new.self (g.S.Store.disk c.clear.new.store) c.in_ok-clear.ensures c.retire.new.self (g.S.Store.disk c.retire.new.store) c.in_ok-retire.ensures c.identify.new.self (g.S.Store.disk c.identify.new.store) c.in_err-identify.field-0.0 c.in_err-identify.ensures)

pub hand_over-requires-clause-can : goal.hand_over-requires-clause-can
hand_over-requires-clause-can g c =
    let L0 : Layers = c.args.self.now in
    let d0 = g.S.Store.disk c.args.store.now in
    let q = c.requires in
    let kept = some_kept L0.retiring q.merge in
    let r = kept.0 in
    hand_can L0 r d0 q.none kept.1 q.copied q.ready c.settle.new.self (g.S.Store.disk c.settle.new.store) c.in_ok-settle.ensures c.settle-2.new.self (g.S.Store.disk c.settle-2.new.store) c.in_ok-settle-2.ensures c.clear.new.self (g.S.Store.disk c.clear.new.store) c.in_ok-clear.ensures c.retire.new.self (g.S.Store.disk c.retire.new.store) c.in_ok-retire.ensures c.identify.new.self (g.S.Store.disk c.identify.new.store) c.in_ok-identify.ensures q.low

pub returns-in_err-hand_over : goal.returns-in_err-hand_over
returns-in_err-hand_over g c =
    let L0 : Layers = c.args.self.now in
    let d0 = g.S.Store.disk c.args.store.now in
    let q = c.requires in
    let kept = some_kept L0.retiring q.merge in
    let r = kept.0 in
    handed (Finishes L0 c.hand_over.new.self d0 (g.S.Store.disk c.hand_over.new.store)) c.from_residual-in_err-hand_over.result c.in_err-hand_over.field-0.0 c.from_residual-in_err-hand_over.ensures
    (stopped_sixth L0 r d0 q.none kept.1 q.copied q.ready c.settle.new.self (g.S.Store.disk c.settle.new.store) c.in_ok-settle.ensures c.settle-2.new.self (g.S.Store.disk c.settle-2.new.store) c.in_ok-settle-2.ensures c.clear.new.self (g.S.Store.disk c.clear.new.store) c.in_ok-clear.ensures c.retire.new.self (g.S.Store.disk c.retire.new.store) c.in_ok-retire.ensures c.identify.new.self (g.S.Store.disk c.identify.new.store) c.in_ok-identify.ensures c.hand_over.new.self (g.S.Store.disk c.hand_over.new.store) c.in_err-hand_over.field-0.0 c.in_err-hand_over.ensures)

pub returns : goal.returns
returns g c =
    let L0 : Layers = c.args.self.now in
    let d0 = g.S.Store.disk c.args.store.now in
    let q = c.requires in
    let kept = some_kept L0.retiring q.merge in
    let r = kept.0 in
    finish_retired L0 r d0 q.none kept.1 q.copied q.ready c.settle.new.self (g.S.Store.disk c.settle.new.store) c.in_ok-settle.ensures c.settle-2.new.self (g.S.Store.disk c.settle-2.new.store) c.in_ok-settle-2.ensures c.clear.new.self (g.S.Store.disk c.clear.new.store) c.in_ok-clear.ensures c.retire.new.self (g.S.Store.disk c.retire.new.store) c.in_ok-retire.ensures c.identify.new.self (g.S.Store.disk c.identify.new.store) c.in_ok-identify.ensures c.hand_over.new.self (g.S.Store.disk c.hand_over.new.store) c.in_ok-hand_over.ensures _ refl refl refl refl refl

pub settle-requires-clause-session : goal.settle-requires-clause-session
settle-requires-clause-session g c =
    let L0 : Layers = c.args.self.now in
    let d0 = g.S.Store.disk c.args.store.now in
    let q = c.requires in
    let kept = some_kept L0.retiring q.merge in
    let r = kept.0 in
    target_session L0 r d0 q.none kept.1 q.copied q.ready

pub settle-requires-clause-ready : goal.settle-requires-clause-ready
settle-requires-clause-ready g c = c.requires.ready

pub settle-requires-clause-low : goal.settle-requires-clause-low
settle-requires-clause-low g c =
    let L0 : Layers = c.args.self.now in
    let d0 = g.S.Store.disk c.args.store.now in
    let q = c.requires in
    let kept = some_kept L0.retiring q.merge in
    let r = kept.0 in
    target_low L0 r d0 q.none kept.1 q.copied q.ready q.low

pub settle-requires-2-clause-session : goal.settle-requires-2-clause-session
settle-requires-2-clause-session g c =
    let L0 : Layers = c.args.self.now in
    let d0 = g.S.Store.disk c.args.store.now in
    let q = c.requires in
    let kept = some_kept L0.retiring q.merge in
    let r = kept.0 in
    leaf_session L0 r d0 q.none kept.1 q.copied q.ready c.settle.new.self (g.S.Store.disk c.settle.new.store) c.in_ok-settle.ensures

pub clear-requires-clause-merge : goal.clear-requires-clause-merge
clear-requires-clause-merge g c =
    let L0 : Layers = c.args.self.now in
    let d0 = g.S.Store.disk c.args.store.now in
    let q = c.requires in
    let kept = some_kept L0.retiring q.merge in
    let r = kept.0 in
    clear_merge L0 r d0 q.none kept.1 q.copied q.ready c.settle.new.self (g.S.Store.disk c.settle.new.store) c.in_ok-settle.ensures c.settle-2.new.self (g.S.Store.disk c.settle-2.new.store) c.in_ok-settle-2.ensures

pub clear-requires-clause-settled : goal.clear-requires-clause-settled
clear-requires-clause-settled g c =
    let L0 : Layers = c.args.self.now in
    let d0 = g.S.Store.disk c.args.store.now in
    let q = c.requires in
    let kept = some_kept L0.retiring q.merge in
    let r = kept.0 in
    clear_settled L0 r d0 q.none kept.1 q.copied q.ready c.settle.new.self (g.S.Store.disk c.settle.new.store) c.in_ok-settle.ensures c.settle-2.new.self (g.S.Store.disk c.settle-2.new.store) c.in_ok-settle-2.ensures

pub retire-requires-clause-merge : goal.retire-requires-clause-merge
retire-requires-clause-merge g c =
    let L0 : Layers = c.args.self.now in
    let d0 = g.S.Store.disk c.args.store.now in
    let q = c.requires in
    let kept = some_kept L0.retiring q.merge in
    let r = kept.0 in
    retire_merge L0 r d0 q.none kept.1 q.copied q.ready c.settle.new.self (g.S.Store.disk c.settle.new.store) c.in_ok-settle.ensures c.settle-2.new.self (g.S.Store.disk c.settle-2.new.store) c.in_ok-settle-2.ensures c.clear.new.self (g.S.Store.disk c.clear.new.store) c.in_ok-clear.ensures

pub retire-requires-clause-session : goal.retire-requires-clause-session
retire-requires-clause-session g c =
    let L0 : Layers = c.args.self.now in
    let d0 = g.S.Store.disk c.args.store.now in
    let q = c.requires in
    let kept = some_kept L0.retiring q.merge in
    let r = kept.0 in
    retire_session L0 r d0 q.none kept.1 q.copied q.ready c.settle.new.self (g.S.Store.disk c.settle.new.store) c.in_ok-settle.ensures c.settle-2.new.self (g.S.Store.disk c.settle-2.new.store) c.in_ok-settle-2.ensures c.clear.new.self (g.S.Store.disk c.clear.new.store) c.in_ok-clear.ensures

pub identify-requires-clause-merge : goal.identify-requires-clause-merge
identify-requires-clause-merge g c =
    let L0 : Layers = c.args.self.now in
    let d0 = g.S.Store.disk c.args.store.now in
    let q = c.requires in
    let kept = some_kept L0.retiring q.merge in
    let r = kept.0 in
    identify_merge L0 r d0 q.none kept.1 q.copied q.ready c.settle.new.self (g.S.Store.disk c.settle.new.store) c.in_ok-settle.ensures c.settle-2.new.self (g.S.Store.disk c.settle-2.new.store) c.in_ok-settle-2.ensures c.clear.new.self (g.S.Store.disk c.clear.new.store) c.in_ok-clear.ensures c.retire.new.self (g.S.Store.disk c.retire.new.store) c.in_ok-retire.ensures

pub hand_over-requires-clause-there : goal.hand_over-requires-clause-there
hand_over-requires-clause-there g c =
    let L0 : Layers = c.args.self.now in
    let d0 = g.S.Store.disk c.args.store.now in
    let q = c.requires in
    let kept = some_kept L0.retiring q.merge in
    let r = kept.0 in
    hand_there L0 r d0 q.none kept.1 q.copied q.ready c.settle.new.self (g.S.Store.disk c.settle.new.store) c.in_ok-settle.ensures c.settle-2.new.self (g.S.Store.disk c.settle-2.new.store) c.in_ok-settle-2.ensures c.clear.new.self (g.S.Store.disk c.clear.new.store) c.in_ok-clear.ensures c.retire.new.self (g.S.Store.disk c.retire.new.store) c.in_ok-retire.ensures c.identify.new.self (g.S.Store.disk c.identify.new.store) c.in_ok-identify.ensures

pub hand_over-requires-clause-target : goal.hand_over-requires-clause-target
hand_over-requires-clause-target g c =
    let L0 : Layers = c.args.self.now in
    let d0 = g.S.Store.disk c.args.store.now in
    let q = c.requires in
    let kept = some_kept L0.retiring q.merge in
    let r = kept.0 in
    hand_target L0 r d0 q.none kept.1 q.copied q.ready c.settle.new.self (g.S.Store.disk c.settle.new.store) c.in_ok-settle.ensures c.settle-2.new.self (g.S.Store.disk c.settle-2.new.store) c.in_ok-settle-2.ensures c.clear.new.self (g.S.Store.disk c.clear.new.store) c.in_ok-clear.ensures c.retire.new.self (g.S.Store.disk c.retire.new.store) c.in_ok-retire.ensures c.identify.new.self (g.S.Store.disk c.identify.new.store) c.in_ok-identify.ensures

pub hand_over-requires-clause-session : goal.hand_over-requires-clause-session
hand_over-requires-clause-session g c =
    let L0 : Layers = c.args.self.now in
    let d0 = g.S.Store.disk c.args.store.now in
    let q = c.requires in
    let kept = some_kept L0.retiring q.merge in
    let r = kept.0 in
    hand_session L0 r d0 q.none kept.1 q.copied q.ready c.settle.new.self (g.S.Store.disk c.settle.new.store) c.in_ok-settle.ensures c.settle-2.new.self (g.S.Store.disk c.settle-2.new.store) c.in_ok-settle-2.ensures c.clear.new.self (g.S.Store.disk c.clear.new.store) c.in_ok-clear.ensures c.retire.new.self (g.S.Store.disk c.retire.new.store) c.in_ok-retire.ensures c.identify.new.self (g.S.Store.disk c.identify.new.store) c.in_ok-identify.ensures
