-- Which bits of a mask a read leaves.
use Rattle.std.proofs.Common.{◌≡◌, ℕ, ◌+◌, ◌-◌, ◌*◌, ◌<◌, ◌≤◌, ◌⊎◌, Bool, List, length, refl, ◌∙◌, arith, inl, inr}
use Rattle.std.proofs.lemmas.Bool.{cases_lt}
use Rattle.vhdx_format.specs.SectorBitmaps.{HasRunSet, bit_of}
use Rattle.layer_session.specs.Found.{KeepsFound, KeepsOthers}
use Rattle.layer_session.proofs.Owned.{run_rest}

pub others_none : (at count : ℕ) (m : List ℕ) → KeepsOthers at count m m
others_none at count m k below out = refl

pub others_set : (m n : List ℕ) (at count : ℕ) (on : Bool) → HasRunSet m n at count on → at + count ≤ 8 * length m → KeepsOthers at count m n
others_set m n at count on run inside = run_rest m n at count on run inside

-- the front of them
pub others_front : (at n count : ℕ) (m0 m1 : List ℕ) → n ≤ count → KeepsOthers at n m0 m1 → KeepsOthers at count m0 m1
others_front at n count m0 m1 few h k below (inl x) = h k below (inl x)
others_front at n count m0 m1 few h k below (inr x) = h k below (inr (omega (arith, x, few)))

-- and those behind
pub others_then : (at n count : ℕ) (m0 m1 m2 : List ℕ) → n ≤ count → length m1 ≡ length m0 → KeepsOthers at n m0 m1 → KeepsOthers (at + n) (count - n) m1 m2 → KeepsOthers at count m0 m2
others_then at n count m0 m1 m2 few long one two k below (inl x) = two k (omega (arith, below, long)) (inl (omega (arith, x))) ∙ one k below (inl x)
others_then at n count m0 m1 m2 few long one two k below (inr x) = two k (omega (arith, below, long)) (inr (omega (arith, x, few))) ∙ one k below (inr (omega (arith, x, few)))

pub found_none : (m : List ℕ) → KeepsFound m m
found_none m k below on = on

-- where none of them was found
pub found_missing : (at count : ℕ) (m n : List ℕ) → ((i : ℕ) → at ≤ i → i < at + count → bit_of m i ≡ 0) → KeepsOthers at count m n → KeepsFound m n
found_missing at count m n none h k below on = by (cases_lt k at) (cases_lt k (at + count))
  where
    by : (k < at) ⊎ (at ≤ k) → (k < at + count) ⊎ (at + count ≤ k) → bit_of n k ≡ 1
    by (inl x) any = h k below (inl x) ∙ on
    by (inr x) (inr y) = h k below (inr y) ∙ on
    by (inr x) (inl y) = absurd (let off = none k x y in omega (arith, off, on))

pub found_then : (m0 m1 m2 : List ℕ) → length m1 ≡ length m0 → KeepsFound m0 m1 → KeepsFound m1 m2 → KeepsFound m0 m2
found_then m0 m1 m2 long one two k below on = two k (omega (arith, below, long)) (one k below on)
