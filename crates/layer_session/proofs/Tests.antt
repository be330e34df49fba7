-- A test of the places of tables.
use Rattle.std.proofs.Common.{◌≡◌, ℕ, zero, suc, ◌+◌, ◌<◌, ◌≤◌, ◌⊎◌, ◌&&◌, ◌||◌, ◌==◌, Bool, true, false, List, refl, sym, ap, ◌∙◌, arith, inl, inr, eq-eqb}
use Rattle.std.specs.Prelude.{nat_le, nat_lt}
use Rattle.std.proofs.lemmas.Bool.{cases_eq, eqb-true, leb-true, ltb-true, and_parts}
use Rattle.vx_base.specs.declared.parts.Parts.{Parts}
use Rattle.vhdx_format.specs.AllocationTables.{bitmap_index_of}
use Rattle.vhdx_format.specs.Fields.{megabyte}
use Rattle.vhdx_format.specs.FileParts.{shape_of}
use Rattle.vhdx_format.specs.Layers.{Shape, chunk_count, chunk_ratio_of, place_at, state_at}
use Rattle.layer_session.specs.Calls.{is_among}
use Rattle.layer_session.specs.Keeping.{IsTablePlace, bitmap as bitmap_place, entries, metadata, regions}
use Rattle.layer_session.proofs.Beside.{among}

or_cases : (x y : Bool) → (x || y) ≡ true → (x ≡ true) ⊎ (y ≡ true)
or_cases true y e = inl refl
or_cases false y e = inr e

or_left : (x y : Bool) → x ≡ true → (x || y) ≡ true
or_left true y e = refl
or_left false y e = cc

or_right : (x y : Bool) → y ≡ true → (x || y) ≡ true
or_right true y e = refl
or_right false y e = e

pub and_both : (x y : Bool) → x ≡ true → y ≡ true → (x && y) ≡ true
and_both true y e f = f
and_both false y e f = cc

pub any_below : (ℕ → Bool) → ℕ → Bool
any_below f zero = false
any_below f (suc n) = f n || any_below f n

any_from : (f : ℕ → Bool) (n : ℕ) → any_below f n ≡ true → (c : ℕ) × (c < n) × (f c ≡ true)
unfolding any_below
any_from f zero e = cc
any_from f (suc n) e = by_first (or_cases (f n) (any_below f n) e) (any_from f n)
  where
    by_first : (f n ≡ true) ⊎ (any_below f n ≡ true) → (any_below f n ≡ true → (c : ℕ) × (c < n) × (f c ≡ true)) → (c : ℕ) × (c < suc n) × (f c ≡ true)
    by_first (inl k) rest = (n, omega arith, k)
    by_first (inr k) rest = let r = rest k in (r.0, omega (arith, r.1), r.2)

any_to : (f : ℕ → Bool) (n c : ℕ) → c < n → f c ≡ true → any_below f n ≡ true
unfolding any_below
any_to f zero c below e = absurd (omega (arith, below))
any_to f (suc n) c below e = by_last (cases_eq c n) (λ less. any_to f n c less e)
  where
    by_last : (c ≡ n) ⊎ (c ≡ n → ⊥) → (c < n → any_below f n ≡ true) → (f n || any_below f n) ≡ true
    by_last (inl k) rest = or_left (f n) (any_below f n) (ap f (sym k) ∙ e)
    by_last (inr k) rest = or_right (f n) (any_below f n) (rest (omega (arith, below, k)))

is_from : (first count i : ℕ) → is_among first count i ≡ true → (first ≤ i) × (i < first + count)
is_from first count i e = let b = and_parts (nat_le first i) (nat_lt i (first + count)) e in (leb-true first i b.0, ltb-true i (first + count) b.1)

module _ (parts : Parts) (file : List ℕ) where
  abbrev p : Shape
  p = shape_of parts

  abbrev index_of : ℕ → ℕ
  index_of c = bitmap_index_of c (chunk_ratio_of p)

  abbrev in_bitmap : ℕ → ℕ → Bool
  in_bitmap i c = (state_at p file (index_of c) == 6) && is_among (place_at p file (index_of c)) megabyte i

  -- the place is a table's
  abbrev pub is_place : ℕ → Bool
  is_place i = is_among 196608 131072 i || (is_among parts.bat_at parts.bat_len i || (is_among parts.meta_at parts.meta_len i || (parts.parent && any_below (in_bitmap i) (chunk_count p))))

  pub place_to : (i : ℕ) → IsTablePlace parts file i → is_place i ≡ true
  place_to i (regions a b) = or_left _ _ (among 196608 131072 i a (omega (arith, b)))
  place_to i (entries a b) = or_right (is_among 196608 131072 i) _ (or_left _ _ (among parts.bat_at parts.bat_len i a b))
  place_to i (metadata a b) = or_right (is_among 196608 131072 i) _ (or_right (is_among parts.bat_at parts.bat_len i) _ (or_left _ _ (among parts.meta_at parts.meta_len i a b)))
  place_to i (bitmap_place index be six a b) =
      let at = be.at_index in
      let state : (state_at p file (index_of be.chunk) == 6) ≡ true = eq-eqb (state_at p file (index_of be.chunk)) 6 (ap (state_at p file) (sym at) ∙ six) in
      let place : place_at p file index ≡ place_at p file (index_of be.chunk) = ap (place_at p file) at in
      let in_block : is_among (place_at p file (index_of be.chunk)) megabyte i ≡ true = among (place_at p file (index_of be.chunk)) megabyte i (omega (arith, a, place)) (omega (arith, b, place)) in
      or_right (is_among 196608 131072 i) _ (or_right (is_among parts.bat_at parts.bat_len i) _ (or_right (is_among parts.meta_at parts.meta_len i) _
      (and_both parts.parent _ be.parent (any_to (in_bitmap i) (chunk_count p) be.chunk be.on_disk (and_both _ _ state in_block)))))

  pub place_from : (i : ℕ) → is_place i ≡ true → IsTablePlace parts file i
  place_from i e = one (or_cases (is_among 196608 131072 i) _ e)
    where
      bits : parts.parent ≡ true → any_below (in_bitmap i) (chunk_count p) ≡ true → IsTablePlace parts file i
      bits parent k =
          let r = any_from (in_bitmap i) (chunk_count p) k in
          let b = and_parts (state_at p file (index_of r.0) == 6) (is_among (place_at p file (index_of r.0)) megabyte i) r.2 in
          let w = is_from (place_at p file (index_of r.0)) megabyte i b.1 in
          bitmap_place (index_of r.0) (record { parent = parent; chunk = r.0; on_disk = r.1; at_index = refl }) (eqb-true (state_at p file (index_of r.0)) 6 b.0) w.0 w.1

      three : (is_among parts.meta_at parts.meta_len i ≡ true) ⊎ ((parts.parent && any_below (in_bitmap i) (chunk_count p)) ≡ true) → IsTablePlace parts file i
      three (inl k) = let w = is_from parts.meta_at parts.meta_len i k in metadata w.0 w.1
      three (inr k) = let b = and_parts parts.parent (any_below (in_bitmap i) (chunk_count p)) k in bits b.0 b.1

      two : (is_among parts.bat_at parts.bat_len i ≡ true) ⊎ ((is_among parts.meta_at parts.meta_len i || (parts.parent && any_below (in_bitmap i) (chunk_count p))) ≡ true) → IsTablePlace parts file i
      two (inl k) = let w = is_from parts.bat_at parts.bat_len i k in entries w.0 w.1
      two (inr k) = three (or_cases (is_among parts.meta_at parts.meta_len i) _ k)

      one : (is_among 196608 131072 i ≡ true) ⊎ ((is_among parts.bat_at parts.bat_len i || (is_among parts.meta_at parts.meta_len i || (parts.parent && any_below (in_bitmap i) (chunk_count p)))) ≡ true) → IsTablePlace parts file i
      one (inl k) = let w = is_from 196608 131072 i k in regions w.0 (omega (arith, w.1))
      one (inr k) = two (or_cases (is_among parts.bat_at parts.bat_len i) _ k)
