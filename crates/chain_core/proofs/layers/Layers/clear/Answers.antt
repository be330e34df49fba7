use Rattle.std.proofs.Common.{refl, sym, subst, ap, length, ◌∙◌, List, true, ◌≡◌, ◌<◌, ◌+◌, ◌^◌, map}
use Rattle.std.proofs.lemmas.List.{with_items_is}
use Rattle.std.specs.Prelude.{IfSome}
use Rattle.std.specs.Vec.{with_items}
use Rattle.chain_core.specs.Finished.{ChangesFile, Clears, IsReplaced, UpdatesBy, at_lower}
use Rattle.chain_core.specs.declared.layers.Layers.{Layers}
use Rattle.chain_core.proofs.Numbers.{length_items}
use Rattle.chain_core.proofs.Places.{none_left, retiring_of}
use Rattle.layer_session.specs.declared.file_layer.FileLayer.{FileLayer}
use Rattle.layer_session.specs.FileLayers.{WaitsForNone, log_number}
use Rattle.chain_core.specs.Copying.{AreLow}
use Rattle.chain_core.specs.Sessions.{first_layer, is_session_at}
use Rattle.chain_core.specs.Ending.{AreAllReady}
use Rattle.chain_core.proofs.RetireStays.{all_ready}
use Rattle.log_format.specs.PendingPages.{HasOnePageEach}
use Rattle.chain_core.proofs.layers.Layers.clear.Goals as goal

pub returns-in-Some-clear : goal.returns-in-Some-clear
returns-in-Some-clear g c =
    let old : Layers = c.args.self.now in
    let pages = c.in-Some-clear.pages in
    let before = g.S.Store.disk c.args.store.now in
    let after = g.S.Store.disk c.update_at.new.store in
    let new : Layers = record old { below = with_items old.below c.update_at.new.layers } in
    let e = c.update_at.ensures in
    let replaced : IsReplaced 0 e.was e.now old.below.items new.below.items =
    subst (λ l. IsReplaced 0 e.was e.now old.below.items l) (sym (with_items_is old.below c.update_at.new.layers (c.update_at.auto.layers ∙ ap length c.as_mut_slice.ensures.value ∙ length_items old.below)))
    (subst (λ l. IsReplaced 0 e.was e.now l c.update_at.new.layers) c.as_mut_slice.ensures.value e.replaced) in
    let changed : UpdatesBy pages e.was e.now before after c.update_at.result = subst (λ p. UpdatesBy p e.was e.now before after c.update_at.result) c.as_slice.ensures.pages e.changed in
    let done : ChangesFile (UpdatesBy pages) 1 old new before after c.update_at.result =
    record { was = e.was; now = e.now; geometry = refl; merge = refl; retiring = refl; exchanged = at_lower 0 refl refl replaced; changed = changed } in
    let cleared : Clears c.in-Some.retiring.clear old new before after c.update_at.result = subst (λ o. Clears o old new before after c.update_at.result) (sym c.in-Some-clear.is) done in
    subst (λ o. IfSome o (λ r. Clears r.clear old new before after c.update_at.result)) (sym c.in-Some.is) cleared

pub returns-in_default : goal.returns-in_default
returns-in_default g c = absurd (none_left c.args.self.now.retiring c.in_default.not-Some c.requires.merge)

pub update_at-requires-clause-there : goal.update_at-requires-clause-there
update_at-requires-clause-there g c = subst (λ (b : List FileLayer). 0 < length b) (sym c.as_mut_slice.ensures.value) (retiring_of c.args.self.now (g.S.Store.disk c.args.store.now) c.requires.merge c.requires.ready).1.there

pub update_at-requires-clause-session : goal.update_at-requires-clause-session
update_at-requires-clause-session g c = subst (λ (b : List FileLayer). is_session_at b 0 ≡ true) (sym c.as_mut_slice.ensures.value) (retiring_of c.args.self.now (g.S.Store.disk c.args.store.now) c.requires.merge c.requires.ready).1.target

pub update_at-requires-clause-ready : goal.update_at-requires-clause-ready
update_at-requires-clause-ready g c =
    let disk = g.S.Store.disk c.args.store.now in
    subst (λ (b : List FileLayer). AreAllReady disk b) (sym c.as_mut_slice.ensures.value) (all_ready c.args.self.now.geometry disk c.args.self.now.below.items c.requires.ready.below)

pub update_at-requires-clause-low : goal.update_at-requires-clause-low
update_at-requires-clause-low g c = subst (λ (b : List FileLayer). AreLow (2 ^ 63 + 5) (map log_number b)) (sym c.as_mut_slice.ensures.value) c.requires.low.1

pub update_at-requires-clause-apart : goal.update_at-requires-clause-apart
update_at-requires-clause-apart g c = subst HasOnePageEach (sym c.as_slice.ensures.pages) c.as_slice.ensures.apart

pub update_at-requires-clause-settled : goal.update_at-requires-clause-settled
update_at-requires-clause-settled g c = subst (λ (b : List FileLayer). IfSome (first_layer b) WaitsForNone) (sym c.as_mut_slice.ensures.value) c.requires.settled
