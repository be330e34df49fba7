use Rattle.std.proofs.Common.{refl, sym, subst, ap, length, ◌∙◌, ◌+◌, ℕ, List, true, ◌≡◌, ◌<◌, ◌^◌, map}
use Rattle.std.proofs.lemmas.List.{with_items_is}
use Rattle.std.specs.Vec.{with_items}
use Rattle.chain_core.specs.Copying.{MarksIn, PutsAt, AreLow}
use Rattle.chain_core.specs.declared.layers.Layers.{Layers}
use Rattle.chain_core.proofs.Places.{alone, is_none, leaf_merge, merge_of}
use Rattle.chain_core.proofs.TargetPuts.{marked_err, marked_ok, stamp_none, target_put, too_none}
use Rattle.chain_core.proofs.Numbers.{length_items}
use Rattle.layer_session.specs.declared.file_layer.FileLayer.{FileLayer}
use Rattle.layer_session.specs.FileLayers.{AreReadyFiles, log_number}
use Rattle.chain_core.specs.Sessions.{is_session_at}
use Rattle.chain_core.proofs.layers.Layers.put_piece.Goals as goal

pub returns-then-is_ok : goal.returns-then-is_ok
returns-then-is_ok g c =
    let old : Layers = c.args.self.now in
    let u = c.in-Some.merge in
    let piece = c.args.piece.now in
    let before = g.S.Store.disk c.args.store.now in
    let after = g.S.Store.disk c.put_at-done.new.store in
    let r = c.put_at-done.result in
    let new : Layers = record old { below = with_items old.below c.put_at-done.new.layers; merge = c.mark.new.merge } in
    let put : PutsAt (u.source + 1) piece old.below.items new.below.items before after r =
    subst (λ now. PutsAt (u.source + 1) piece old.below.items now before after r) (sym (with_items_is old.below c.put_at-done.new.layers (c.put_at-done.auto.layers ∙ ap length c.as_mut_slice-below.ensures.value ∙ length_items old.below)))
    (subst (λ was. PutsAt (u.source + 1) piece was c.put_at-done.new.layers before after r) c.as_mut_slice-below.ensures.value c.put_at-done.ensures.put) in
    let single = alone old u before c.in-Some.is c.requires.ready in
    target_put old new u piece before after r c.in-Some.is c.requires.ready refl refl put (c.requires.stamp ∙ stamp_none old piece.stripe single)
    (marked_ok piece.stripe old new r (sym c.is_ok.ensures.value ∙ c.if-is_ok.true) (subst (λ (n : ℕ). MarksIn n old.merge c.mark.new.merge) c.stripe.ensures c.mark.ensures.marks) (too_none piece.stripe old.retiring old.retiring single refl))

pub returns-else-is_ok : goal.returns-else-is_ok
returns-else-is_ok g c =
    let old : Layers = c.args.self.now in
    let u = c.in-Some.merge in
    let piece = c.args.piece.now in
    let before = g.S.Store.disk c.args.store.now in
    let after = g.S.Store.disk c.put_at-done.new.store in
    let r = c.put_at-done.result in
    let new : Layers = record old { below = with_items old.below c.put_at-done.new.layers } in
    let put : PutsAt (u.source + 1) piece old.below.items new.below.items before after r =
    subst (λ now. PutsAt (u.source + 1) piece old.below.items now before after r) (sym (with_items_is old.below c.put_at-done.new.layers (c.put_at-done.auto.layers ∙ ap length c.as_mut_slice-below.ensures.value ∙ length_items old.below)))
    (subst (λ was. PutsAt (u.source + 1) piece was c.put_at-done.new.layers before after r) c.as_mut_slice-below.ensures.value c.put_at-done.ensures.put) in
    target_put old new u piece before after r c.in-Some.is c.requires.ready refl refl put (c.requires.stamp ∙ stamp_none old piece.stripe (alone old u before c.in-Some.is c.requires.ready))
    (marked_err piece.stripe old new r (sym c.is_ok.ensures.value ∙ c.if-is_ok.false) refl refl)

pub put_behind-requires-clause-none : goal.put_behind-requires-clause-none
put_behind-requires-clause-none g c = is_none c.args.self.now.merge c.in_default.not-Some

pub put_behind-requires-clause-merge : goal.put_behind-requires-clause-merge
put_behind-requires-clause-merge g c = leaf_merge c.args.self.now (is_none c.args.self.now.merge c.in_default.not-Some) c.requires.merge

pub put_at-done-requires-clause-session : goal.put_at-done-requires-clause-session
put_at-done-requires-clause-session g c = subst (λ (b : List FileLayer). is_session_at b (c.in-Some.merge.source + 1) ≡ true) (sym c.as_mut_slice-below.ensures.value) (merge_of c.args.self.now c.in-Some.merge (g.S.Store.disk c.args.store.now) c.in-Some.is c.requires.ready).target

pub put_at-done-requires-clause-there : goal.put_at-done-requires-clause-there
put_at-done-requires-clause-there g c = subst (λ (b : List FileLayer). c.in-Some.merge.source + 1 < length b) (sym c.as_mut_slice-below.ensures.value) (merge_of c.args.self.now c.in-Some.merge (g.S.Store.disk c.args.store.now) c.in-Some.is c.requires.ready).there

pub put_at-done-requires-clause-ready : goal.put_at-done-requires-clause-ready
put_at-done-requires-clause-ready g c = subst (λ (b : List FileLayer). AreReadyFiles c.args.self.now.geometry (g.S.Store.disk c.args.store.now) b) (sym c.as_mut_slice-below.ensures.value) c.requires.ready.below

pub put_at-done-requires-clause-low : goal.put_at-done-requires-clause-low
put_at-done-requires-clause-low g c = subst (λ (b : List FileLayer). AreLow (2 ^ 63 + 3) (map log_number b)) (sym c.as_mut_slice-below.ensures.value) c.requires.low.1

pub put_at-done-requires-clause-fits : goal.put_at-done-requires-clause-fits
put_at-done-requires-clause-fits g c = c.requires.fits
