-- Room for what a call still takes, after one of its takings, and after a place was left.
use Rattle.std.proofs.Common.{◌≡◌, ℕ, zero, suc, ◌+◌, ◌==◌, ◌&&◌, Bool, true, false, All, List, [], ◌∷◌, ◌++◌, length, Option, Some, None, refl, ap, ◌∙◌, arith, if◌then◌else◌}
use Rattle.std.specs.Prelude.{nat_lt}
use Rattle.std.proofs.lemmas.Bool.{and_parts}
use Rattle.block_alloc.specs.declared.freed.Freed.{Freed}
use Rattle.block_alloc.specs.Spaces.{Block, Payload, Bitmap, Space, all_given, bitmaps_of, can_take, can_take_by, grown, has_room, is_usable, lesser, lowest, payloads_of, taken, taken_by, with_freed, without}
use Rattle.layer_session.specs.Steps.{HasRoomFor}

-- ---- one taking

-- so many of each
some_of : ℕ → ℕ → List Block
some_of zero zero = []
some_of zero (suc m) = Bitmap ∷ some_of zero m
some_of (suc n) m = Payload ∷ some_of n m

payloads_some : (n m : ℕ) → payloads_of (some_of n m) ≡ n
unfolding payloads_of some_of
payloads_some zero zero = refl
payloads_some zero (suc m) = payloads_some zero m
payloads_some (suc n) m = let e = payloads_some n m in omega (arith, e)

bitmaps_some : (n m : ℕ) → bitmaps_of (some_of n m) ≡ m
unfolding bitmaps_of some_of
bitmaps_some zero zero = refl
bitmaps_some zero (suc m) = let e = bitmaps_some zero m in omega (arith, e)
bitmaps_some (suc n) m = bitmaps_some n m

pub room_taken : (units n m : ℕ) (s : Space) → HasRoomFor units (1 + n) m s → (can_take units s ≡ true) × HasRoomFor units n m (taken units s)
unfolding all_given payloads_of bitmaps_of
room_taken units n m s h = (
  (and_parts (can_take units s) (all_given units (some_of n m) (taken units s)) (h (Payload ∷ some_of n m) (ap (λ k. 1 + k) (payloads_some n m)) (bitmaps_some n m))).0,
  λ blocks p b. (and_parts (can_take units s) (all_given units blocks (taken units s)) (h (Payload ∷ blocks) (ap (λ k. 1 + k) p) b)).1,
)

pub room_grown : (units n m : ℕ) (s : Space) → HasRoomFor units n (1 + m) s → (has_room 1 s ≡ true) × HasRoomFor units n m (grown 1 s)
unfolding all_given payloads_of bitmaps_of
room_grown units n m s h = (
  (and_parts (has_room 1 s) (all_given units (some_of n m) (grown 1 s)) (h (Bitmap ∷ some_of n m) (payloads_some n m) (ap (λ k. 1 + k) (bitmaps_some n m)))).0,
  λ blocks p b. (and_parts (has_room 1 s) (all_given units blocks (grown 1 s)) (h (Bitmap ∷ blocks) p (ap (λ k. 1 + k) b))).1,
)

-- ---- places whose freeing isn't committed give nothing

rest_uncommitted : (u : Freed) (us : List Freed) → All (λ (f : Freed). f.committed ≡ false) (u ∷ us) → All (λ (f : Freed). f.committed ≡ false) us
rest_uncommitted u us h = λ k d b. h (suc k) d (omega (arith, b))

unusable : (units : ℕ) (u : Freed) → u.committed ≡ false → is_usable units u ≡ false
unusable units u h = rw h refl

lowest_none : (units : ℕ) (us : List Freed) → All (λ (f : Freed). f.committed ≡ false) us → lowest units us ≡ None
unfolding lowest
lowest_none units [] h = refl
lowest_none units (u ∷ us) h = let e : is_usable units u ≡ false = unusable units u (h 0 u (omega arith)) in rw e (lowest_none units us (rest_uncommitted u us h))

lowest_beside : (units : ℕ) (fs us : List Freed) → All (λ (f : Freed). f.committed ≡ false) us → lowest units (fs ++ us) ≡ lowest units fs
unfolding lowest
lowest_beside units [] us h = lowest_none units us h
lowest_beside units (f ∷ fs) us h = ap (λ o. if is_usable units f then Some (lesser f.at o) else o) (lowest_beside units fs us h)

without_none : (units at : ℕ) (us : List Freed) → All (λ (f : Freed). f.committed ≡ false) us → without units at us ≡ us
unfolding without
without_none units at [] h = refl
without_none units at (u ∷ us) h = let e : is_usable units u ≡ false = unusable units u (h 0 u (omega arith)) in rw e (ap (λ (z : List Freed). u ∷ z) (without_none units at us (rest_uncommitted u us h)))

without_beside : (units at : ℕ) (fs us : List Freed) → All (λ (f : Freed). f.committed ≡ false) us → without units at (fs ++ us) ≡ without units at fs ++ us
unfolding without
without_beside units at [] us h = without_none units at us h
without_beside units at (f ∷ fs) us h = by_test (is_usable units f && (f.at == at)) (without_beside units at fs us h)
  where
    by_test : (b : Bool) → without units at (fs ++ us) ≡ without units at fs ++ us → (if b then fs ++ us else f ∷ without units at (fs ++ us)) ≡ (if b then fs else f ∷ without units at fs) ++ us
    by_test true e = refl
    by_test false e = ap (λ (z : List Freed). f ∷ z) e

-- the space with further such places
abbrev more_freed : Space → List Freed → Space
more_freed s us = record s { freed = s.freed ++ us }

taken_beside : (units : ℕ) (s : Space) (us : List Freed) → All (λ (f : Freed). f.committed ≡ false) us → taken units (more_freed s us) ≡ more_freed (taken units s) us
taken_beside units s us h = ap (taken_by units (more_freed s us)) (lowest_beside units s.freed us h) ∙ by_place (lowest units s.freed)
  where
    by_place : (o : Option ℕ) → taken_by units (more_freed s us) o ≡ more_freed (taken_by units s o) us
    by_place None = refl
    by_place (Some at) = ap (λ (z : List Freed). let x : Space = record s { freed = z } in x) (without_beside units at s.freed us h)

can_beside : (units : ℕ) (s : Space) (us : List Freed) → All (λ (f : Freed). f.committed ≡ false) us → can_take units (more_freed s us) ≡ can_take units s
can_beside units s us h = ap (can_take_by units (more_freed s us)) (lowest_beside units s.freed us h) ∙ by_place (lowest units s.freed)
  where
    by_place : (o : Option ℕ) → can_take_by units (more_freed s us) o ≡ can_take_by units s o
    by_place None = refl
    by_place (Some at) = refl

given_beside : (units : ℕ) (blocks : List Block) (s : Space) (us : List Freed) → All (λ (f : Freed). f.committed ≡ false) us → all_given units blocks (more_freed s us) ≡ all_given units blocks s
unfolding all_given
given_beside units [] s us h = refl
given_beside units (Payload ∷ blocks) s us h =
    ap (λ b. b && all_given units blocks (taken units (more_freed s us))) (can_beside units s us h)
    ∙ ap (λ b. can_take units s && b) (ap (all_given units blocks) (taken_beside units s us h) ∙ given_beside units blocks (taken units s) us h)
given_beside units (Bitmap ∷ blocks) s us h = ap (λ b. has_room 1 s && b) (given_beside units blocks (grown 1 s) us h)

pub room_freed : (units n m at len : ℕ) (s : Space) → HasRoomFor units n m s → HasRoomFor units n m (with_freed at len s)
room_freed units n m at len s h = by_room (nat_lt (length s.freed) 1024)
  where
    all_more : All (λ (f : Freed). f.committed ≡ false) (record { at = at; units = len; committed = false } ∷ [])
    all_more zero d b = refl
    all_more (suc k) d b = absurd (omega (arith, b))

    by_room : (b : Bool) → HasRoomFor units n m (if b then record s { freed = s.freed ++ record { at = at; units = len; committed = false } ∷ [] } else s)
    by_room true = λ blocks p q. given_beside units blocks s (record { at = at; units = len; committed = false } ∷ []) all_more ∙ h blocks p q
    by_room false = h
