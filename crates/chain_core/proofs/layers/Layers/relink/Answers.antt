use Rattle.std.proofs.Common.{refl, sym, subst, ap, length, ◌∙◌, ◌-◌, ◌+◌, ◌≡◌, ℕ}
use Rattle.std.proofs.lemmas.List.{with_items_is}
use Rattle.std.specs.Prelude.{IfSome, Some}
use Rattle.std.specs.Vec.{with_items}
use Rattle.layer_session.specs.Updating.{Turns}
use Rattle.store_model.specs.Disk.{WhereTold}
use Rattle.chain_core.specs.Finished.{ChangesFile, IsReplaced, UpdatesBy, at_leaf, at_lower}
use Rattle.chain_core.specs.declared.layers.Layers.{Layers}
use Rattle.chain_core.proofs.Exchanged.{child_turned, turns_of}
use Rattle.chain_core.proofs.Numbers.{back_one, length_items, none_below}
use Rattle.chain_core.proofs.Places.{none_left, leaf_not_none, merge_of}
use Rattle.chain_core.proofs.layers.Layers.relink.Goals as goal

pub returns-then-place-gt0 : goal.returns-then-place-gt0
returns-then-place-gt0 g c =
    let old : Layers = c.args.self.now in
    let u = c.in-Some.merge in
    let before = g.S.Store.disk c.args.store.now in
    let after = g.S.Store.disk c.update_at.new.store in
    let new : Layers = record old { below = with_items old.below c.update_at.new.layers } in
    let e = c.update_at.ensures in
    let at : ℕ = u.source - 1 in
    let place : u.source ≡ at + 1 = back_one u.source c.if-place-gt0.true in
    let replaced : IsReplaced at e.was e.now old.below.items new.below.items =
    subst (λ l. IsReplaced at e.was e.now old.below.items l) (sym (with_items_is old.below c.update_at.new.layers (c.update_at.auto.layers ∙ ap length c.as_mut_slice.ensures.value ∙ length_items old.below)))
    (subst (λ l. IsReplaced at e.was e.now l c.update_at.new.layers) c.as_mut_slice.ensures.value e.replaced) in
    let changed : UpdatesBy u.relink e.was e.now before after c.update_at.result = subst (λ pages. UpdatesBy pages e.was e.now before after c.update_at.result) c.as_slice-pages.ensures.pages e.changed in
    let done : ChangesFile (UpdatesBy u.relink) u.source old new before after c.update_at.result =
    record { was = e.was; now = e.now; geometry = refl; merge = refl; retiring = refl; exchanged = at_lower at place refl replaced; changed = changed } in
    subst (λ o. IfSome o (λ w. ChangesFile (UpdatesBy w.relink) w.source old new before after c.update_at.result)) (sym c.in-Some.is) done

pub update-requires-clause-turns : goal.update-requires-clause-turns
update-requires-clause-turns g c =
    let old : Layers = c.args.self.now in
    let u = c.in-Some.merge in
    let before = g.S.Store.disk c.args.store.now in
    let place : u.source ≡ 0 = none_below u.source c.if-place-gt0.false in
    subst (λ pages. WhereTold before.told (Turns c.in-Some-leaf.leaf pages)) (sym c.as_slice-pages.ensures.pages)
    (turns_of c.in-Some-leaf.leaf u.relink before.told (child_turned c.in-Some-leaf.leaf c.in-Some-leaf.leaf old old u before c.in-Some.is c.requires.ready (at_leaf place c.in-Some-leaf.is c.in-Some-leaf.is refl)))

pub returns-in-Some-leaf : goal.returns-in-Some-leaf
returns-in-Some-leaf g c =
    let old : Layers = c.args.self.now in
    let u = c.in-Some.merge in
    let before = g.S.Store.disk c.args.store.now in
    let after = g.S.Store.disk c.update.new.store in
    let place : u.source ≡ 0 = none_below u.source c.if-place-gt0.false in
    let was = c.in-Some-leaf.leaf in
    let new : Layers = record old { leaf = Some c.update.new.self } in
    let now = c.update.new.self in
    let changed : UpdatesBy c.as_slice-pages.result.now was now before after c.update.result = record {
      moments = c.update.ensures.moments;
      has = c.update.ensures.updated;
      ready = c.update.ensures.ready;
      empty = c.update.ensures.empty;
      number = c.update.ensures.number;
      header = c.update.ensures.header;
      parts = c.update.ensures.parts;
      counts = c.update.ensures.counts;
      err = c.update.ensures.err;
    } in
    let done : ChangesFile (UpdatesBy u.relink) u.source old new before after c.update.result = record {
      was = was;
      now = now;
      geometry = refl;
      merge = refl;
      retiring = refl;
      exchanged = at_leaf place c.in-Some-leaf.is refl refl;
      changed = subst (λ pages. UpdatesBy pages was now before after c.update.result) c.as_slice-pages.ensures.pages changed;
    } in
    subst (λ o. IfSome o (λ w. ChangesFile (UpdatesBy w.relink) w.source old new before after c.update.result)) (sym c.in-Some.is) done

pub returns-in_default : goal.returns-in_default
returns-in_default g c = absurd (none_left c.args.self.now.merge c.in_default.not-Some c.requires.merge)

pub returns-in-None : goal.returns-in-None
returns-in-None g c = absurd (leaf_not_none c.args.self.now c.in-None.is (merge_of c.args.self.now c.in-Some.merge (g.S.Store.disk c.args.store.now) c.in-Some.is c.requires.ready).session)
