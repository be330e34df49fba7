use Rattle.std.proofs.Common.{◌+◌, ◌-◌, ◌∙◌, false, length, List, ℕ, ap, refl, subst, sym, arith}
use Rattle.std.proofs.lemmas.List.{with_items_is}
use Rattle.vhdx_format.specs.SectorBitmaps.{HasRunSet}
use Rattle.merge_core.proofs.Marked.{AreKept, behind_all, below_low, in_gap, marks_left}
use Rattle.merge_core.proofs.marks.Marks.unmark_range.Goals as goal

pub invariant_of-self : goal.invariant_of-self
invariant_of-self c =
    let m = c.args.self.now in
    let kept : AreKept m.bits.items m.stripes m.low m.gap m.until = record { sized = m.sized; within = m.within; below = m.below; bounds = m.bounds; behind = m.behind; stops = m.stops } in
    let ran = subst (λ (bits : List ℕ). HasRunSet bits c.set_range.new.bits c.args.first (c.args.last - c.args.first + 1) false) c.as_mut_slice.ensures.value c.set_range.ensures in
    let k = subst (λ (bits : List ℕ). AreKept bits m.stripes c.args.first (c.args.last + 1) m.low) (sym (with_items_is m.bits c.set_range.new.bits (c.set_range.auto.bits ∙ c.as_mut_slice.ensures.len)))
    (below_low m.bits.items c.set_range.new.bits (c.set_range.auto.bits ∙ ap length c.as_mut_slice.ensures.value) m.stripes m.low m.gap m.until c.args.first c.args.last kept c.requires.order c.requires.there ran c.if-first-self.true) in
    record { sized = k.sized; within = k.within; below = k.below; bounds = k.bounds; behind = k.behind; stops = k.stops }

pub invariant_of-self-then-first-self-2 : goal.invariant_of-self-then-first-self-2
invariant_of-self-then-first-self-2 c =
    let m = c.args.self.now in
    let kept : AreKept m.bits.items m.stripes m.low m.gap m.until = record { sized = m.sized; within = m.within; below = m.below; bounds = m.bounds; behind = m.behind; stops = m.stops } in
    let ran = subst (λ (bits : List ℕ). HasRunSet bits c.set_range.new.bits c.args.first (c.args.last - c.args.first + 1) false) c.as_mut_slice.ensures.value c.set_range.ensures in
    let k = subst (λ (bits : List ℕ). AreKept bits m.stripes m.low c.max-self.result m.until) (sym (with_items_is m.bits c.set_range.new.bits (c.set_range.auto.bits ∙ c.as_mut_slice.ensures.len)))
    (in_gap m.bits.items c.set_range.new.bits (c.set_range.auto.bits ∙ ap length c.as_mut_slice.ensures.value) m.stripes m.low m.gap m.until c.args.first c.args.last kept c.requires.order c.requires.there ran (omega (arith, c.if-first-self.false)) c.max-self.result (omega (arith, c.max-self.ensures)) (omega (arith, c.max-self.ensures))) in
    record { sized = k.sized; within = k.within; below = k.below; bounds = k.bounds; behind = k.behind; stops = k.stops }

pub invariant_of-self-else-first-self-2 : goal.invariant_of-self-else-first-self-2
invariant_of-self-else-first-self-2 c =
    let m = c.args.self.now in
    let kept : AreKept m.bits.items m.stripes m.low m.gap m.until = record { sized = m.sized; within = m.within; below = m.below; bounds = m.bounds; behind = m.behind; stops = m.stops } in
    let ran = subst (λ (bits : List ℕ). HasRunSet bits c.set_range.new.bits c.args.first (c.args.last - c.args.first + 1) false) c.as_mut_slice.ensures.value c.set_range.ensures in
    let k = subst (λ (bits : List ℕ). AreKept bits m.stripes m.low m.gap m.until) (sym (with_items_is m.bits c.set_range.new.bits (c.set_range.auto.bits ∙ c.as_mut_slice.ensures.len)))
    (behind_all m.bits.items c.set_range.new.bits (c.set_range.auto.bits ∙ ap length c.as_mut_slice.ensures.value) m.stripes m.low m.gap m.until c.args.first c.args.last kept c.requires.order c.requires.there ran (omega (arith, c.if-first-self.false)) (omega (arith, c.if-first-self-2.false))) in
    record { sized = k.sized; within = k.within; below = k.below; bounds = k.bounds; behind = k.behind; stops = k.stops }

pub returns-then-first-self : goal.returns-then-first-self
returns-then-first-self c = record {
  marks = marks_left c.args.self.now.bits.items c.as_mut_slice.result.now c.set_range.new.bits _ c.as_mut_slice.ensures.value (with_items_is c.args.self.now.bits c.set_range.new.bits (c.set_range.auto.bits ∙ c.as_mut_slice.ensures.len)) c.set_range.auto.bits c.args.first c.args.last c.requires.order c.set_range.ensures;
  stripes = refl;
}

pub returns-then-first-self-2 : goal.returns-then-first-self-2
returns-then-first-self-2 c = record {
  marks = marks_left c.args.self.now.bits.items c.as_mut_slice.result.now c.set_range.new.bits _ c.as_mut_slice.ensures.value (with_items_is c.args.self.now.bits c.set_range.new.bits (c.set_range.auto.bits ∙ c.as_mut_slice.ensures.len)) c.set_range.auto.bits c.args.first c.args.last c.requires.order c.set_range.ensures;
  stripes = refl;
}

pub returns-else-first-self-2 : goal.returns-else-first-self-2
returns-else-first-self-2 c = record {
  marks = marks_left c.args.self.now.bits.items c.as_mut_slice.result.now c.set_range.new.bits _ c.as_mut_slice.ensures.value (with_items_is c.args.self.now.bits c.set_range.new.bits (c.set_range.auto.bits ∙ c.as_mut_slice.ensures.len)) c.set_range.auto.bits c.args.first c.args.last c.requires.order c.set_range.ensures;
  stripes = refl;
}
