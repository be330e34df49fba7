use Rattle.std.proofs.Common.{◌≡◌, ◌≢◌, ◌+◌, ◌*◌, ◌≤◌, ◌<◌, ◌∙◌, true, length, List, ℕ, ap, refl, subst, sym, arith}
use Rattle.std.proofs.lemmas.List.{with_items_is}
use Rattle.vhdx_format.specs.SectorBitmaps.{HasRunSet, bit_of}
use Rattle.merge_core.proofs.Marked.{AreKept, behind_still, marked_low, marked_other, marks_added}
use Rattle.merge_core.proofs.marks.Marks.mark.Goals as goal

pub invariant_of-self : goal.invariant_of-self
invariant_of-self c =
    let m = c.args.self.now in
    let kept : AreKept m.bits.items m.stripes m.low m.gap m.until = record { sized = m.sized; within = m.within; below = m.below; bounds = m.bounds; behind = m.behind; stops = m.stops } in
    let ran = subst (λ (bits : List ℕ). HasRunSet bits c.set.new.bits c.args.stripe 1 true) c.as_mut_slice.ensures.value c.set.ensures in
    let shown = c.as_slice.ensures.value ∙ with_items_is m.bits c.set.new.bits (c.set.auto.bits ∙ c.as_mut_slice.ensures.len) in
    let k = subst (λ (bits : List ℕ). AreKept bits m.stripes c.past_gap-self.result m.gap m.until) (sym (with_items_is m.bits c.set.new.bits (c.set.auto.bits ∙ c.as_mut_slice.ensures.len)))
    (marked_low m.bits.items c.set.new.bits (c.set.auto.bits ∙ ap length c.as_mut_slice.ensures.value) m.stripes m.low m.gap m.until c.args.stripe kept c.requires.there ran c.if-stripe-self.true c.past_gap-self.result c.past_gap-self.ensures.from c.past_gap-self.ensures.to
    (subst (λ (bits : List ℕ). (t : ℕ) → c.args.stripe + 1 ≤ t → t < c.past_gap-self.result → bit_of bits t ≡ 1) shown c.past_gap-self.ensures.set)
    (subst (λ (bits : List ℕ). c.past_gap-self.result < m.stripes → bit_of bits c.past_gap-self.result ≢ 1) shown c.past_gap-self.ensures.stops)) in
    record { sized = k.sized; within = k.within; below = k.below; bounds = k.bounds; behind = k.behind; stops = k.stops }

pub invariant_of-self-else-stripe-self : goal.invariant_of-self-else-stripe-self
invariant_of-self-else-stripe-self c =
    let m = c.args.self.now in
    let kept : AreKept m.bits.items m.stripes m.low m.gap m.until = record { sized = m.sized; within = m.within; below = m.below; bounds = m.bounds; behind = m.behind; stops = m.stops } in
    let ran = subst (λ (bits : List ℕ). HasRunSet bits c.set.new.bits c.args.stripe 1 true) c.as_mut_slice.ensures.value c.set.ensures in
    let k = subst (λ (bits : List ℕ). AreKept bits m.stripes m.low m.gap m.until) (sym (with_items_is m.bits c.set.new.bits (c.set.auto.bits ∙ c.as_mut_slice.ensures.len)))
    (marked_other m.bits.items c.set.new.bits (c.set.auto.bits ∙ ap length c.as_mut_slice.ensures.value) m.stripes m.low m.gap m.until c.args.stripe kept c.requires.there ran c.if-stripe-self.false) in
    record { sized = k.sized; within = k.within; below = k.below; bounds = k.bounds; behind = k.behind; stops = k.stops }

pub returns-then-stripe-self : goal.returns-then-stripe-self
returns-then-stripe-self c = record {
  marks = marks_added c.args.self.now.bits.items c.as_mut_slice.result.now c.set.new.bits _ c.as_mut_slice.ensures.value (with_items_is c.args.self.now.bits c.set.new.bits (c.set.auto.bits ∙ c.as_mut_slice.ensures.len)) c.set.auto.bits c.args.stripe c.args.self.now.stripes c.requires.there c.args.self.now.sized c.set.ensures;
  stripes = refl;
}

pub returns-else-stripe-self : goal.returns-else-stripe-self
returns-else-stripe-self c = record {
  marks = marks_added c.args.self.now.bits.items c.as_mut_slice.result.now c.set.new.bits _ c.as_mut_slice.ensures.value (with_items_is c.args.self.now.bits c.set.new.bits (c.set.auto.bits ∙ c.as_mut_slice.ensures.len)) c.set.auto.bits c.args.stripe c.args.self.now.stripes c.requires.there c.args.self.now.sized c.set.ensures;
  stripes = refl;
}

pub set-requires : goal.set-requires
set-requires c =
    let long : length c.as_mut_slice.result.now ≡ length c.args.self.now.bits.items = ap length c.as_mut_slice.ensures.value in
    omega (arith, c.requires.there, c.args.self.now.sized, long)

pub past_gap-self-requires : goal.past_gap-self-requires
past_gap-self-requires c =
    let m = c.args.self.now in
    let kept : AreKept m.bits.items m.stripes m.low m.gap m.until = record { sized = m.sized; within = m.within; below = m.below; bounds = m.bounds; behind = m.behind; stops = m.stops } in
    let ran = subst (λ (bits : List ℕ). HasRunSet bits c.set.new.bits c.args.stripe 1 true) c.as_mut_slice.ensures.value c.set.ensures in
    let same : length c.set.new.bits ≡ length m.bits.items = c.set.auto.bits ∙ ap length c.as_mut_slice.ensures.value in
    let shown = c.as_slice.ensures.value ∙ with_items_is m.bits c.set.new.bits (c.set.auto.bits ∙ c.as_mut_slice.ensures.len) in
    record {
      order = omega (arith, c.requires.there);
      within = subst (λ (bits : List ℕ). m.stripes ≤ 8 * length bits) (sym shown) (omega (arith, same, m.sized));
      until = m.bounds;
      behind = subst (λ (bits : List ℕ). (t : ℕ) → m.gap ≤ t → t < m.until → bit_of bits t ≡ 1) (sym shown) (behind_still m.bits.items c.set.new.bits same m.stripes m.low m.gap m.until c.args.stripe kept c.requires.there ran);
    }
