-- Room that is left, by what the allocator tests.
use Rattle.std.proofs.Common.{◌≡◌, ℕ, ◌+◌, ◌-◌, ◌*◌, ◌≤◌, ◌⊎◌, ◌==◌, ◌&&◌, ◌||◌, Bool, true, false, cond, List, [], ◌∷◌, map, refl, sym, subst, ◌∙◌, arith, inl, inr, eq-eqb}
use Rattle.std.specs.Prelude.{count_by, nat_le}
use Rattle.std.proofs.lemmas.Bool.{and_parts, eqb-true, le-leb, leb-true, or_cases}
use Rattle.std.proofs.Math.Nat.{mul-le-mul_right}
use Rattle.block_alloc.specs.declared.freed.Freed.{Freed}
use Rattle.block_alloc.specs.Spaces as spaces
use Rattle.block_alloc.specs.Spaces.{Space, fits_in, is_usable, limit, usable}
use Rattle.layer_session.specs.Steps.{HasRoomFor}
use Rattle.block_alloc.proofs.Fitting.{fits_after_bitmap, given_if_fits, count_cons}

-- what the test means
abbrev Fits : ℕ → ℕ → ℕ → ℕ → ℕ → Type 0
Fits p u b n free = ((p - free ≡ 0) × (b ≡ 0)) ⊎ (n + (p - free) * u + b ≤ limit)

tested : (p u b n free : ℕ) → (((p - free == 0) && (b == 0)) || nat_le (n + (p - free) * u + b) limit) ≡ true → Fits p u b n free
tested p u b n free h = by_or (or_cases ((p - free == 0) && (b == 0)) (nat_le (n + (p - free) * u + b) limit) h)
  where
    by_or : (((p - free == 0) && (b == 0)) ≡ true) ⊎ (nat_le (n + (p - free) * u + b) limit ≡ true) → Fits p u b n free
    by_or (inl x) = let y = and_parts (p - free == 0) (b == 0) x in inl (eqb-true (p - free) 0 y.0, eqb-true b 0 y.1)
    by_or (inr x) = inr (leb-true _ _ x)

passes : (p u b n free : ℕ) → Fits p u b n free → (((p - free == 0) && (b == 0)) || nat_le (n + (p - free) * u + b) limit) ≡ true
passes p u b n free (inl (x, y)) = let e : (p - free == 0) ≡ true = eq-eqb _ _ x in let f : (b == 0) ≡ true = eq-eqb _ _ y in rw (e, f) refl
passes p u b n free (inr x) = let e : nat_le (n + (p - free) * u + b) limit ≡ true = le-leb _ _ x in or_true _ _ e
  where
    or_true : (x y : Bool) → y ≡ true → (x || y) ≡ true
    or_true true y h = refl
    or_true false y h = h

-- with no fewer places and no more bitmap blocks
more_fits : (p u b c n free more : ℕ) → free ≤ more → c ≤ b → Fits p u b n free → Fits p u c n more
more_fits p u b c n free more l m (inl (x, y)) = inl (omega (arith, x, l), omega (arith, y, m))
more_fits p u b c n free more l m (inr x) = inr (let e : (p - more) * u ≤ (p - free) * u = mul-le-mul_right u (omega (arith, l)) in omega (arith, e, x, m))

pub fits_fewer : (p u b c : ℕ) (s : Space) → c ≤ b → fits_in p u b s ≡ true → fits_in p u c s ≡ true
fits_fewer p u b c s l h = passes p u c s.next (usable u s) (more_fits p u b c s.next (usable u s) (usable u s) (omega arith) l (tested p u b s.next (usable u s) h))

usable_more : (u : ℕ) (fs : List Freed) → count_by (is_usable u) fs ≤ count_by (is_usable u) (map spaces.committed fs)
usable_more u [] = omega arith
usable_more u (f ∷ fs) =
    let rest = usable_more u fs in
    let one = count_cons u f fs in
    let two = count_cons u (spaces.committed f) (map spaces.committed fs) in
    let here : cond (is_usable u f) 1 0 ≤ cond (is_usable u (spaces.committed f)) 1 0 = by_test f.committed (f.units == u) in
    omega (arith, rest, one, two, here)
  where
    by_test : (c e : Bool) → cond (c && e) 1 0 ≤ cond (true && e) 1 0
    by_test true e = omega arith
    by_test false true = omega arith
    by_test false false = omega arith

pub fits_committed : (p u b : ℕ) (s : Space) → fits_in p u b s ≡ true → fits_in p u b (record s { freed = map spaces.committed s.freed }) ≡ true
fits_committed p u b s h =
    passes p u b s.next (count_by (is_usable u) (map spaces.committed s.freed))
    (more_fits p u b b s.next (usable u s) (count_by (is_usable u) (map spaces.committed s.freed)) (usable_more u s.freed) (omega arith) (tested p u b s.next (usable u s) h))

pub fits_then : (p u b : ℕ) (s now : Space) → (now ≡ s) ⊎ (now ≡ record s { freed = map spaces.committed s.freed }) → fits_in p u b s ≡ true → fits_in p u b now ≡ true
fits_then p u b s now (inl e) h = subst (λ (x : Space). fits_in p u b x ≡ true) (sym e) h
fits_then p u b s now (inr e) h = subst (λ (x : Space). fits_in p u b x ≡ true) (sym e) (fits_committed p u b s h)

-- and then the blocks are given in whatever order
pub room_of_fits : (u p b : ℕ) (s : Space) → fits_in p u b s ≡ true → HasRoomFor u p b s
room_of_fits u p b s h blocks e f = sym (given_if_fits p u b s blocks e f) ∙ h

-- a sector bitmap block is taken, or was not wanted
pub fits_grown : (p u b : ℕ) (s : Space) → fits_in p u (1 + b) s ≡ true → (spaces.has_room 1 s ≡ true) × (fits_in p u b (spaces.grown 1 s) ≡ true)
fits_grown p u b s h = fits_after_bitmap p u b s h
