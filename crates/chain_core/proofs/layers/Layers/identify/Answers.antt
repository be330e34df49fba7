use Rattle.std.proofs.Common.{refl, sym, subst, ap, length, ◌∙◌}
use Rattle.std.proofs.lemmas.List.{with_items_is}
use Rattle.std.specs.Prelude.{IfSome}
use Rattle.std.specs.Vec.{with_items}
use Rattle.chain_core.specs.Finished.{ChangesFile, Identifies, IsReplaced, at_lower}
use Rattle.chain_core.specs.declared.layers.Layers.{Layers}
use Rattle.chain_core.proofs.Numbers.{length_items}
use Rattle.chain_core.proofs.Places.{none_left}
use Rattle.chain_core.proofs.layers.Layers.identify.Goals as goal

pub returns : goal.returns
returns g c =
    let old : Layers = c.args.self.now in
    let before = g.S.Store.disk c.args.store.now in
    let after = g.S.Store.disk c.identify_first.new.store in
    let new : Layers = record old { below = with_items old.below c.identify_first.new.layers } in
    let e = c.identify_first.ensures in
    let replaced : IsReplaced 0 e.was e.now old.below.items new.below.items =
    subst (λ l. IsReplaced 0 e.was e.now old.below.items l) (sym (with_items_is old.below c.identify_first.new.layers (c.identify_first.auto.layers ∙ ap length c.as_mut_slice.ensures.value ∙ length_items old.below)))
    (subst (λ l. IsReplaced 0 e.was e.now l c.identify_first.new.layers) c.as_mut_slice.ensures.value e.replaced) in
    let done : ChangesFile (Identifies c.in-Some.retiring.third) 1 old new before after c.identify_first.result =
    record { was = e.was; now = e.now; geometry = refl; merge = refl; retiring = refl; exchanged = at_lower 0 refl refl replaced; changed = e.changed } in
    subst (λ o. IfSome o (λ r. ChangesFile (Identifies r.third) 1 old new before after c.identify_first.result)) (sym c.in-Some.is) done

pub returns-in_default : goal.returns-in_default
returns-in_default g c = absurd (none_left c.args.self.now.retiring c.in_default.not-Some c.requires.merge)
