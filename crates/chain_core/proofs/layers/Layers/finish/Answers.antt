use Rattle.std.proofs.Common.{refl, sym, subst, ap, ◌∙◌, ◌≡◌, ◌+◌, ◌<◌, ◌^◌, length}
use Rattle.std.specs.Prelude.{Err, IfSome, Ok}
use Rattle.std.proofs.lemmas.List.{length-map}
use Rattle.std.specs.Vec.{vec_len}
use Rattle.layer_session.specs.FileLayers.{number_of}
use Rattle.chain_core.specs.Finished.{ChangesFile, Finishes, IsAllMarked, UpdatesBy}
use Rattle.chain_core.specs.declared.layers.Layers.{Layers}
use Rattle.chain_core.proofs.Copied.{low_on}
use Rattle.chain_core.proofs.Exchanged.{child_session, child_waits, exchanged_low, exchanged_numbers}
use Rattle.chain_core.proofs.Finishes.{finish_done, finish_stopped_first, finish_stopped_second, finish_stopped_third, settled_ready}
use Rattle.vx_base.proofs.Handed.{handed}
use Rattle.chain_core.proofs.Places.{alone, merge_of, is_none, leaf_merge}
use Rattle.chain_core.proofs.Numbers.{five_of_five, four_of_five, length_items, within_len}
use Rattle.chain_core.proofs.Stopped.{leaf_copied}
use Rattle.chain_core.specs.Sessions.{marks_in}
use Rattle.chain_core.proofs.layers.Layers.finish.Goals as goal

pub returns-in_err-settle : goal.returns-in_err-settle
returns-in_err-settle g c =
    let L0 : Layers = c.args.self.now in
    let L1 : Layers = c.settle.new.self in
    let u = c.in-Some.merge in
    let is = c.in-Some.is in
    let d0 = g.S.Store.disk c.args.store.now in
    let d1 = g.S.Store.disk c.settle.new.store in
    handed (Finishes L0 L1 d0 d1) c.from_residual.result c.in_err-settle.field-0.0 c.from_residual.ensures (finish_stopped_first L0 L1 u d0 d1 is c.requires.ready c.in_err-settle.field-0.0 c.in_err-settle.ensures)

pub settle-requires-2-clause-session : goal.settle-requires-2-clause-session
settle-requires-2-clause-session g c =
    let L0 : Layers = c.args.self.now in
    let L1 : Layers = c.settle.new.self in
    let u = c.in-Some.merge in
    let is = c.in-Some.is in
    let d0 = g.S.Store.disk c.args.store.now in
    let d1 = g.S.Store.disk c.settle.new.store in
    let first = c.in_ok-settle.ensures in
    child_session L1 u d1 (first.merge ∙ is) (settled_ready (u.source + 2) L0 L1 u d0 d1 is c.requires.ready first)

pub settle-requires-2-clause-ready : goal.settle-requires-2-clause-ready
settle-requires-2-clause-ready g c =
    let L0 : Layers = c.args.self.now in
    let L1 : Layers = c.settle.new.self in
    let u = c.in-Some.merge in
    let is = c.in-Some.is in
    let d0 = g.S.Store.disk c.args.store.now in
    let d1 = g.S.Store.disk c.settle.new.store in
    settled_ready (u.source + 2) L0 L1 u d0 d1 is c.requires.ready c.in_ok-settle.ensures

pub settle-requires-2-clause-low : goal.settle-requires-2-clause-low
settle-requires-2-clause-low g c =
    let L0 : Layers = c.args.self.now in
    let L1 : Layers = c.settle.new.self in
    let e = c.settle.ensures in
    low_on (2 ^ 63 + 3 + 1) (2 ^ 63 + 5) L1 four_of_five (exchanged_low (c.in-Some.merge.source + 2) e.was e.now L0 L1 e.exchanged e.changed.parts e.changed.number (2 ^ 63 + 3) c.requires.low)

pub returns-in_err-settle-2 : goal.returns-in_err-settle-2
returns-in_err-settle-2 g c =
    let L0 : Layers = c.args.self.now in
    let L1 : Layers = c.settle.new.self in
    let L2 : Layers = c.settle-2.new.self in
    let u = c.in-Some.merge in
    let is = c.in-Some.is in
    let d0 = g.S.Store.disk c.args.store.now in
    let d1 = g.S.Store.disk c.settle.new.store in
    let d2 = g.S.Store.disk c.settle-2.new.store in
    handed (Finishes L0 L2 d0 d2) c.from_residual-in_err-settle-2.result c.in_err-settle-2.field-0.0 c.from_residual-in_err-settle-2.ensures
    (finish_stopped_second L0 L1 u d0 d1 is c.requires.ready L2 d2 c.in_ok-settle.ensures c.in_err-settle-2.field-0.0 c.in_err-settle-2.ensures)

pub relink-requires-clause-ready : goal.relink-requires-clause-ready
relink-requires-clause-ready g c =
    let L0 : Layers = c.args.self.now in
    let L1 : Layers = c.settle.new.self in
    let L2 : Layers = c.settle-2.new.self in
    let u = c.in-Some.merge in
    let is = c.in-Some.is in
    let d0 = g.S.Store.disk c.args.store.now in
    let d1 = g.S.Store.disk c.settle.new.store in
    let d2 = g.S.Store.disk c.settle-2.new.store in
    let first = c.in_ok-settle.ensures in
    settled_ready u.source L1 L2 u d1 d2 (first.merge ∙ is) (settled_ready (u.source + 2) L0 L1 u d0 d1 is c.requires.ready first) c.in_ok-settle-2.ensures

pub relink-requires-clause-low : goal.relink-requires-clause-low
relink-requires-clause-low g c =
    let L0 : Layers = c.args.self.now in
    let L1 : Layers = c.settle.new.self in
    let L2 : Layers = c.settle-2.new.self in
    let e = c.settle.ensures in
    let f = c.settle-2.ensures in
    low_on (2 ^ 63 + 3 + 1 + 1) (2 ^ 63 + 5) L2 five_of_five
    (exchanged_low c.in-Some.merge.source f.was f.now L1 L2 f.exchanged f.changed.parts f.changed.number (2 ^ 63 + 3 + 1)
    (exchanged_low (c.in-Some.merge.source + 2) e.was e.now L0 L1 e.exchanged e.changed.parts e.changed.number (2 ^ 63 + 3) c.requires.low))

pub relink-requires-clause-settled : goal.relink-requires-clause-settled
relink-requires-clause-settled g c =
    let L1 : Layers = c.settle.new.self in
    let L2 : Layers = c.settle-2.new.self in
    let second = c.in_ok-settle-2.ensures in
    child_waits second.was second.now L1 L2 c.in-Some.merge (second.merge ∙ c.settle.ensures.merge ∙ c.in-Some.is) second.exchanged second.changed.empty

pub returns-in_err-relink : goal.returns-in_err-relink
returns-in_err-relink g c =
    let L0 : Layers = c.args.self.now in
    let L1 : Layers = c.settle.new.self in
    let L2 : Layers = c.settle-2.new.self in
    let L3 : Layers = c.relink.new.self in
    let u = c.in-Some.merge in
    let is = c.in-Some.is in
    let d0 = g.S.Store.disk c.args.store.now in
    let d1 = g.S.Store.disk c.settle.new.store in
    let d2 = g.S.Store.disk c.settle-2.new.store in
    let d3 = g.S.Store.disk c.relink.new.store in
    let first = c.in_ok-settle.ensures in
    let second = c.in_ok-settle-2.ensures in
    let fault = c.in_err-relink.field-0.0 in
    let third : ChangesFile (UpdatesBy u.relink) u.source L2 L3 d2 d3 (Err fault) = subst (λ o. IfSome o (λ w. ChangesFile (UpdatesBy w.relink) w.source L2 L3 d2 d3 (Err fault))) (second.merge ∙ first.merge ∙ is) c.in_err-relink.ensures in
    handed (Finishes L0 L3 d0 d3) c.from_residual-in_err-relink.result fault c.from_residual-in_err-relink.ensures
    (finish_stopped_third L0 L1 u d0 d1 is c.requires.ready L2 d2 first L3 d3 second (subst (λ o. IfSome (marks_in o c.args.self.now.retiring) IsAllMarked) is c.requires.copied) fault third)

pub remove-requires : goal.remove-requires
remove-requires g c =
    let L1 : Layers = c.settle.new.self in
    let L0 : Layers = c.args.self.now in
    let L2 : Layers = c.settle-2.new.self in
    let L3 : Layers = c.relink.new.self in
    let u = c.in-Some.merge in
    let d0 = g.S.Store.disk c.args.store.now in
    let d2 = g.S.Store.disk c.settle-2.new.store in
    let d3 = g.S.Store.disk c.relink.new.store in
    let e = c.settle.ensures in
    let f = c.settle-2.ensures in
    let k : ChangesFile (UpdatesBy u.relink) u.source L2 L3 d2 d3 c.relink.result =
    subst (λ o. IfSome o (λ w. ChangesFile (UpdatesBy w.relink) w.source L2 L3 d2 d3 c.relink.result)) (f.merge ∙ e.merge ∙ c.in-Some.is) c.relink.ensures in
    let numbers = exchanged_numbers u.source k.was k.now L2 L3 k.exchanged k.changed.parts ∙ exchanged_numbers u.source f.was f.now L1 L2 f.exchanged f.changed.parts ∙ exchanged_numbers (u.source + 2) e.was e.now L0 L1 e.exchanged e.changed.parts in
    let long : length L3.below.items ≡ length L0.below.items = sym (length-map L3.below.items number_of) ∙ ap length numbers ∙ length-map L0.below.items number_of in
    let room : u.source + 1 < length L0.below.items = (merge_of L0 u d0 c.in-Some.is c.requires.ready).there in
    within_len u.source (length L0.below.items) (length L3.below.items) (vec_len L3.below) room long (length_items L3.below)

pub returns : goal.returns
returns g c =
    let L0 : Layers = c.args.self.now in
    let L1 : Layers = c.settle.new.self in
    let L2 : Layers = c.settle-2.new.self in
    let L3 : Layers = c.relink.new.self in
    let u = c.in-Some.merge in
    let is = c.in-Some.is in
    let d0 = g.S.Store.disk c.args.store.now in
    let d1 = g.S.Store.disk c.settle.new.store in
    let d2 = g.S.Store.disk c.settle-2.new.store in
    let d3 = g.S.Store.disk c.relink.new.store in
    let first = c.in_ok-settle.ensures in
    let second = c.in_ok-settle-2.ensures in
    let third : ChangesFile (UpdatesBy u.relink) u.source L2 L3 d2 d3 (Ok tt) = subst (λ o. IfSome o (λ w. ChangesFile (UpdatesBy w.relink) w.source L2 L3 d2 d3 (Ok tt))) (second.merge ∙ first.merge ∙ is) c.in_ok-relink.ensures in
    finish_done L0 L1 u d0 d1 is c.requires.ready L2 d2 first L3 d3 second (subst (λ o. IfSome (marks_in o c.args.self.now.retiring) IsAllMarked) is c.requires.copied) _ third refl refl refl (third.retiring ∙ second.retiring ∙ first.retiring ∙ alone L0 u d0 is c.requires.ready) c.remove.ensures.items

pub retire_leaf-requires-clause-none : goal.retire_leaf-requires-clause-none
retire_leaf-requires-clause-none g c = is_none c.args.self.now.merge c.in_default.not-Some

pub retire_leaf-requires-clause-merge : goal.retire_leaf-requires-clause-merge
retire_leaf-requires-clause-merge g c = leaf_merge c.args.self.now (is_none c.args.self.now.merge c.in_default.not-Some) c.requires.merge

pub retire_leaf-requires-clause-copied : goal.retire_leaf-requires-clause-copied
retire_leaf-requires-clause-copied g c = leaf_copied c.args.self.now (is_none c.args.self.now.merge c.in_default.not-Some) c.requires.copied
