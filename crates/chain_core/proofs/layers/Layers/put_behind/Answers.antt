use Rattle.std.proofs.Common.{refl, sym, subst, ap, length, ◌∙◌, ℕ, List, true, ◌≡◌, ◌<◌, ◌+◌, ◌^◌, map}
use Rattle.std.proofs.lemmas.List.{with_items_is}
use Rattle.std.specs.Vec.{with_items}
use Rattle.chain_core.specs.Copying.{MarksToo, PutsAt, stamp_in, AreLow}
use Rattle.chain_core.specs.declared.layers.Layers.{Layers}
use Rattle.chain_core.proofs.LeafPuts.{behind_put, none_marked, some_kept}
use Rattle.chain_core.proofs.TargetPuts.{marked_err, marked_ok}
use Rattle.chain_core.proofs.Numbers.{length_items}
use Rattle.layer_session.specs.declared.file_layer.FileLayer.{FileLayer}
use Rattle.layer_session.specs.FileLayers.{AreReadyFiles, log_number}
use Rattle.chain_core.specs.Sessions.{is_session_at}
use Rattle.chain_core.proofs.Places.{retiring_of}
use Rattle.chain_core.proofs.layers.Layers.put_behind.Goals as goal

pub returns-then-is_ok : goal.returns-then-is_ok
returns-then-is_ok g c =
    let old : Layers = c.args.self.now in
    let piece = c.args.piece.now in
    let before = g.S.Store.disk c.args.store.now in
    let after = g.S.Store.disk c.put_at-done.new.store in
    let r = c.put_at-done.result in
    let new : Layers = record old { below = with_items old.below c.put_at-done.new.layers; retiring = c.mark_too.new.retiring } in
    let kept = some_kept old.retiring c.requires.merge in
    let put : PutsAt 0 piece old.below.items new.below.items before after r =
    subst (λ now. PutsAt 0 piece old.below.items now before after r) (sym (with_items_is old.below c.put_at-done.new.layers (c.put_at-done.auto.layers ∙ ap length c.as_mut_slice-below.ensures.value ∙ length_items old.below)))
    (subst (λ was. PutsAt 0 piece was c.put_at-done.new.layers before after r) c.as_mut_slice-below.ensures.value c.put_at-done.ensures.put) in
    behind_put old new kept.0 piece before after r c.requires.none kept.1 c.requires.ready refl refl put c.requires.none (c.requires.stamp ∙ ap (λ o. stamp_in o piece.stripe) kept.1) c.requires.stripe
    (marked_ok piece.stripe old new r (sym c.is_ok.ensures.value ∙ c.if-is_ok.true) (none_marked piece.stripe old.merge c.requires.none) (subst (λ (n : ℕ). MarksToo n old.retiring c.mark_too.new.retiring) c.stripe.ensures c.mark_too.ensures.marks))

pub returns-else-is_ok : goal.returns-else-is_ok
returns-else-is_ok g c =
    let old : Layers = c.args.self.now in
    let piece = c.args.piece.now in
    let before = g.S.Store.disk c.args.store.now in
    let after = g.S.Store.disk c.put_at-done.new.store in
    let r = c.put_at-done.result in
    let new : Layers = record old { below = with_items old.below c.put_at-done.new.layers } in
    let kept = some_kept old.retiring c.requires.merge in
    let put : PutsAt 0 piece old.below.items new.below.items before after r =
    subst (λ now. PutsAt 0 piece old.below.items now before after r) (sym (with_items_is old.below c.put_at-done.new.layers (c.put_at-done.auto.layers ∙ ap length c.as_mut_slice-below.ensures.value ∙ length_items old.below)))
    (subst (λ was. PutsAt 0 piece was c.put_at-done.new.layers before after r) c.as_mut_slice-below.ensures.value c.put_at-done.ensures.put) in
    behind_put old new kept.0 piece before after r c.requires.none kept.1 c.requires.ready refl refl put c.requires.none (c.requires.stamp ∙ ap (λ o. stamp_in o piece.stripe) kept.1) c.requires.stripe
    (marked_err piece.stripe old new r (sym c.is_ok.ensures.value ∙ c.if-is_ok.false) refl refl)

pub put_at-done-requires-clause-session : goal.put_at-done-requires-clause-session
put_at-done-requires-clause-session g c = subst (λ (b : List FileLayer). is_session_at b (0) ≡ true) (sym c.as_mut_slice-below.ensures.value) (retiring_of c.args.self.now (g.S.Store.disk c.args.store.now) c.requires.merge c.requires.ready).1.target

pub put_at-done-requires-clause-there : goal.put_at-done-requires-clause-there
put_at-done-requires-clause-there g c = subst (λ (b : List FileLayer). 0 < length b) (sym c.as_mut_slice-below.ensures.value) (retiring_of c.args.self.now (g.S.Store.disk c.args.store.now) c.requires.merge c.requires.ready).1.there

pub put_at-done-requires-clause-ready : goal.put_at-done-requires-clause-ready
put_at-done-requires-clause-ready g c = subst (λ (b : List FileLayer). AreReadyFiles c.args.self.now.geometry (g.S.Store.disk c.args.store.now) b) (sym c.as_mut_slice-below.ensures.value) c.requires.ready.below

pub put_at-done-requires-clause-low : goal.put_at-done-requires-clause-low
put_at-done-requires-clause-low g c = subst (λ (b : List FileLayer). AreLow (2 ^ 63 + 3) (map log_number b)) (sym c.as_mut_slice-below.ensures.value) c.requires.low.1

pub put_at-done-requires-clause-fits : goal.put_at-done-requires-clause-fits
put_at-done-requires-clause-fits g c = c.requires.fits
