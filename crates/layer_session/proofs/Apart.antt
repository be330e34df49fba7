-- The blocks of one sound table.
use Rattle.std.proofs.Common.{◌≡◌, ℕ, ◌+◌, ◌<◌, ◌≤◌, ◌⊎◌, true, false, List, refl, sym, subst, ◌∙◌, arith, inl, inr}
use Rattle.std.proofs.lemmas.Bool.{cases_lt, cases_eq, cases_Bool}
use Rattle.vx_base.specs.declared.parts.Parts.{Parts}
use Rattle.vhdx_format.specs.Fields.{overlaps}
use Rattle.vhdx_format.specs.FileParts.{shape_of, taken_areas}
use Rattle.vhdx_format.specs.HeldBlocks.{Area, HoldsBlock, IsSoundTable, bitmap, payload}
use Rattle.vhdx_format.specs.Layers.{Shape, chunk_ratio_of}
use Rattle.vhdx_format.proofs.LayerLemmas.{entries_apart}
use Rattle.vhdx_format.proofs.SizeLemmas.{block_least, ratio_in_range}
use Rattle.layer_session.specs.Keeping.{AreBeside}
use Rattle.layer_session.proofs.Alike.{AreSizes, off_range}

module _ (parts : Parts) (sizes : AreSizes parts) (now : List ℕ) (sound : IsSoundTable (shape_of parts) (taken_areas parts) now) where
  abbrev p : Shape
  p = shape_of parts

  pub meet : (i j x : ℕ) (a b : Area) → HoldsBlock p now i a → HoldsBlock p now j b → (i ≡ j → ⊥) → a.at ≤ x → x < a.at + a.len → b.at ≤ x → x < b.at + b.len → ⊥
  meet i j x a b ha hb other from to ofrom oto = by_order (cases_lt i j) (cases_Bool (overlaps a.at a.len b.at b.len)) (cases_Bool (overlaps b.at b.len a.at a.len))
    where
      no_range : (x < b.at) ⊎ (b.at + b.len ≤ x) → ⊥
      no_range (inl l) = omega arith
      no_range (inr l) = omega arith

      no_other : (x < a.at) ⊎ (a.at + a.len ≤ x) → ⊥
      no_other (inl l) = omega arith
      no_other (inr l) = omega arith

      by_order : (i < j) ⊎ (j ≤ i) → (overlaps a.at a.len b.at b.len ≡ true) ⊎ (overlaps a.at a.len b.at b.len ≡ false) → (overlaps b.at b.len a.at a.len ≡ true) ⊎ (overlaps b.at b.len a.at a.len ≡ false) → ⊥
      by_order (inl l) (inl o) any = sound.apart i j (l, (a, b, ha, hb, o))
      by_order (inl l) (inr n) any = no_range (off_range a.at a.len b.at b.len x n from to)
      by_order (inr l) any (inl o) = sound.apart j i (by_ne (cases_lt j i), (b, a, hb, ha, o))
        where
          by_ne : (j < i) ⊎ (i ≤ j) → j < i
          by_ne (inl k) = k
          by_ne (inr k) = absurd (other (omega (arith, l, k)))
      by_order (inr l) any (inr n) = no_other (off_range b.at b.len a.at a.len x n ofrom oto)

  some_len : (i : ℕ) (a : Area) → HoldsBlock p now i a → 0 < a.len
  some_len i _ (payload e st) = let l = block_least p.block sizes.block in omega (arith, l)
  some_len i _ (bitmap e st) = omega arith

  one_area : (i : ℕ) (a b : Area) → HoldsBlock p now i a → HoldsBlock p now i b → a ≡ b
  one_area i _ _ (payload e st) (payload f tu) = refl
  one_area i _ _ (bitmap e st) (bitmap f tu) = refl
  one_area i _ _ (payload e st) (bitmap f tu) = absurd ((entries_apart (chunk_ratio_of p) (ratio_in_range p.sector p.block sizes.sector sizes.block).0).kinds e.block f.chunk (sym e.at_index ∙ f.at_index))
  one_area i _ _ (bitmap e st) (payload f tu) = absurd ((entries_apart (chunk_ratio_of p) (ratio_in_range p.sector p.block sizes.sector sizes.block).0).kinds f.block e.chunk (sym f.at_index ∙ e.at_index))

  -- each block is beside each other one of its own table
  pub beside_self : AreBeside parts now now
  beside_self i j a b ha hb = by_index (cases_eq i j)
    where
      by_index : (i ≡ j) ⊎ (i ≡ j → ⊥) → ((i ≡ j) × (a ≡ b)) ⊎ ((a.at + a.len ≤ b.at) ⊎ (b.at + b.len ≤ a.at))
      by_index (inl e) = inl (e, one_area i a b ha (subst (λ k. HoldsBlock p now k b) (sym e) hb))
      by_index (inr n) = inr (by_place (cases_lt b.at (a.at + a.len)) (cases_lt a.at (b.at + b.len)) (cases_lt a.at b.at))
        where
          by_place : (b.at < a.at + a.len) ⊎ (a.at + a.len ≤ b.at) → (a.at < b.at + b.len) ⊎ (b.at + b.len ≤ a.at) → (a.at < b.at) ⊎ (b.at ≤ a.at) → (a.at + a.len ≤ b.at) ⊎ (b.at + b.len ≤ a.at)
          by_place (inr k) any other = inl k
          by_place (inl k) (inr m) other = inr m
          by_place (inl k) (inl m) (inl o) = absurd (meet i j b.at a b ha hb n (omega arith) (omega arith) (omega arith) (let l = some_len j b hb in omega (arith, l)))
          by_place (inl k) (inl m) (inr o) = absurd (meet i j a.at a b ha hb n (omega arith) (let l = some_len i a ha in omega (arith, l)) (omega arith) (omega arith))
