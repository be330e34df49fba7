use Rattle.std.proofs.Common.{refl, sym, subst, ap, length, ◌∙◌, ◌-◌, ◌+◌, ◌≡◌, ℕ}
use Rattle.std.proofs.lemmas.List.{with_items_is}
use Rattle.std.specs.Vec.{with_items}
use Rattle.chain_core.specs.Finished.{IsReplaced, at_leaf, at_lower, IsSessionOf}
use Rattle.chain_core.specs.declared.layers.Layers.{Layers}
use Rattle.chain_core.proofs.Numbers.{back_one, length_items, none_below}
use Rattle.chain_core.proofs.Places.{leaf_not_none}
use Rattle.chain_core.proofs.layers.Layers.settle.Goals as goal

pub returns-then-place-gt0 : goal.returns-then-place-gt0
returns-then-place-gt0 g c =
    let old : Layers = c.args.self.now in
    let new : Layers = record old { below = with_items old.below c.settle_at.new.layers } in
    let e = c.settle_at.ensures in
    let at : ℕ = c.args.place - 1 in
    let place : c.args.place ≡ at + 1 = back_one c.args.place c.if-place-gt0.true in
    let replaced : IsReplaced at e.was e.now old.below.items new.below.items =
    subst (λ l. IsReplaced at e.was e.now old.below.items l) (sym (with_items_is old.below c.settle_at.new.layers (c.settle_at.auto.layers ∙ ap length c.as_mut_slice.ensures.value ∙ length_items old.below)))
    (subst (λ l. IsReplaced at e.was e.now l c.settle_at.new.layers) c.as_mut_slice.ensures.value e.replaced) in
    record { was = e.was; now = e.now; geometry = refl; merge = refl; retiring = refl; exchanged = at_lower at place refl replaced; changed = e.changed }

pub returns-in-Some : goal.returns-in-Some
returns-in-Some g c =
    let place : c.args.place ≡ 0 = none_below c.args.place c.if-place-gt0.false in
    record {
      was = c.in-Some.leaf;
      now = c.commit.new.self;
      geometry = refl;
      merge = refl;
      retiring = refl;
      exchanged = at_leaf place c.in-Some.is refl refl;
      changed = record {
        moments = c.commit.ensures.moments;
        has = c.commit.ensures.committed;
        ready = c.commit.ensures.ready;
        empty = c.commit.ensures.empty;
        number = c.commit.ensures.number;
        header = c.commit.ensures.header;
        parts = c.commit.ensures.parts;
        counts = c.commit.ensures.counts;
        err = c.commit.ensures.err;
      };
    }

pub returns-in-None : goal.returns-in-None
returns-in-None g c = absurd (leaf_not_none c.args.self.now c.in-None.is (subst (λ (n : ℕ). IsSessionOf c.args.self.now n) (none_below c.args.place c.if-place-gt0.false) c.requires.session))
