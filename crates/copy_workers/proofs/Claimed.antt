-- What a worker claims in a sweep.
use Rattle.std.proofs.Common.{◌≡◌, ◌⊎◌, inl, inr, ◌+◌, ◌*◌, ◌<◌, ◌≤◌, ◌==◌, ◌++◌, ◌∷◌, ℕ, zero, suc, Bool, true, false, List, [], length, refl, sym, ap, subst, ◌∙◌, arith, eqb-true, length-append}
use Rattle.std.specs.Prelude.{if◌then◌else◌, None}
use Rattle.std.specs.List.{AllByRecursion}
use Rattle.std.proofs.lemmas.Bool.{eqb-false}
use Rattle.std.proofs.lemmas.List.{append_assoc, append-nil}
use Rattle.seats.specs.Counting.{HasNoRepeats, once_at, times}
use Rattle.seats.proofs.Counting.{times-append}
use Rattle.shared_chain.specs.declared.basis.Basis.{Basis}
use Rattle.shared_chain.specs.declared.basis.Step.{Step}
use Rattle.shared_chain.specs.Bases.{Contains, HasStripe}
use Rattle.shared_chain.specs.Laws.{contains_itself}
use Rattle.shared_chain.specs.Seats.{HasWorked, KeepsSeat}
use Rattle.turn_lock.specs.Seats.{Known}
use Rattle.turn_lock.proofs.Fronts.{starts-length}
use Rattle.copy_workers.specs.Sweeps.{AreLeft, IsLeft}
use Rattle.copy_workers.specs.declared.worker.Worker.{Worker}
use Rattle.copy_workers.proofs.Turns.{none_worked, swept_later, worked_most, worked_twice}

-- ---- numbers below a limit, each at most once

abbrev sum_to : (ℕ → ℕ) → ℕ → ℕ
sum_to f zero = 0
sum_to f (suc n) = sum_to f n + f n

sum_both : (f g : ℕ → ℕ) (n : ℕ) → sum_to (λ x. f x + g x) n ≡ sum_to f n + sum_to g n
sum_both f g zero = refl
sum_both f g (suc n) = omega (arith, sum_both f g n)

sum_same : (f g : ℕ → ℕ) (n : ℕ) → ((x : ℕ) → f x ≡ g x) → sum_to f n ≡ sum_to g n
sum_same f g zero same = refl
sum_same f g (suc n) same = omega (arith, sum_same f g n same, same n)

sum_few : (f : ℕ → ℕ) (n : ℕ) → ((x : ℕ) → f x ≤ 1) → sum_to f n ≤ n
sum_few f zero one = omega arith
sum_few f (suc n) one = omega (arith, sum_few f n one, one n)

other_none : (x y : ℕ) → (y == x) ≡ false → once_at x y ≡ 0
other_none x y other = ap (λ b. if b then 1 else 0) other

sum_none : (y n : ℕ) → n ≤ y → sum_to (λ x. once_at x y) n ≡ 0
sum_none y zero high = refl
sum_none y (suc n) high = go (sum_none y n (omega (arith, high))) (y == n) refl
  where
    go : sum_to (λ x. once_at x y) n ≡ 0 → (b : Bool) → (y == n) ≡ b → sum_to (λ x. once_at x y) n + once_at n y ≡ 0
    go below true e = absurd (let same = eqb-true y n e in omega (arith, high, same))
    go below false e = omega (arith, below, other_none n y e)

sum_once : (y n : ℕ) → y < n → sum_to (λ x. once_at x y) n ≡ 1
sum_once y zero low = absurd (omega (arith, low))
sum_once y (suc n) low = go (sum_once y n) (y == n) refl
  where
    go : (y < n → sum_to (λ x. once_at x y) n ≡ 1) → (b : Bool) → (y == n) ≡ b → sum_to (λ x. once_at x y) n + once_at n y ≡ 1
    go below true e =
        let same = eqb-true y n e in
        let here : once_at n y ≡ 1 = ap (λ b. if b then 1 else 0) e in
        omega (arith, sum_none y n (omega (arith, same)), here)
    go below false e = omega (arith, below (let other = eqb-false y n e in omega (arith, low, other)), other_none n y e)

times_front : (x y : ℕ) (ys : List ℕ) → times x (y ∷ ys) ≡ once_at x y + times x ys
times_front x y ys = let one : times x (y ∷ []) ≡ once_at x y = omega arith in omega (arith, times-append x (y ∷ []) ys, one)

sum_zero : (n : ℕ) → sum_to (λ x. times x []) n ≡ 0
sum_zero zero = refl
sum_zero (suc n) = omega (arith, sum_zero n)

length_is : (n : ℕ) (xs : List ℕ) → AllByRecursion (λ k. k < n) xs → length xs ≡ sum_to (λ x. times x xs) n
length_is n [] low = sym (sum_zero n)
length_is n (y ∷ ys) low =
    let split = sum_same (λ x. times x (y ∷ ys)) (λ x. once_at x y + times x ys) n (λ x. times_front x y ys) ∙ sum_both (λ x. once_at x y) (λ x. times x ys) n in
    omega (arith, split, sum_once y n low.0, length_is n ys low.1)

few_numbers : (n : ℕ) (before xs : List ℕ) → AllByRecursion (λ k. k < n) xs → HasNoRepeats (before ++ xs) → length xs ≤ n
few_numbers n before xs low once =
    let most = sum_few (λ x. times x xs) n (λ x. omega (arith, once x, times-append x before xs)) in
    omega (arith, length_is n xs low, most)

-- ---- a sweep

below_push : (n k : ℕ) (xs : List ℕ) → AllByRecursion (λ j. j < n) xs → k < n → AllByRecursion (λ j. j < n) (xs ++ k ∷ [])
below_push n k [] low less = (less, tt)
below_push n k (x ∷ xs) low less = (low.0, below_push n k xs low.1 less)

stripe_parts : (stripe : ℕ) (xs ys : List ℕ) → HasStripe stripe (xs ++ ys) → HasStripe stripe xs ⊎ HasStripe stripe ys
stripe_parts stripe [] ys h = inr h
stripe_parts stripe (x ∷ xs) ys (inl e) = inl (inl e)
stripe_parts stripe (x ∷ xs) ys (inr h) = go (stripe_parts stripe xs ys h)
  where
    go : HasStripe stripe xs ⊎ HasStripe stripe ys → HasStripe stripe (x ∷ xs) ⊎ HasStripe stripe ys
    go (inl a) = inl (inr a)
    go (inr b) = inr b

module _ {S T : Type 0} where
  -- so it is of a stripe whatever comes behind it
  left_later : (stripe : ℕ) (a b c d : Known Step (Basis S T)) (n m : ℕ) → Contains b.basis a.basis → length a.seen ≤ length b.seen → IsLeft stripe b c n → KeepsSeat c d → (0 < n → 0 < m) → IsLeft stripe a d m
  left_later stripe a b c d n m knows grown (inl swept) keeps more = inl (swept_later stripe a b c d knows grown swept keeps)
  left_later stripe a b c d n m knows grown (inr some) keeps more = inr (more some)

  -- four turns were taken at most for each number that was claimed
  pub record Swept (limit : ℕ) (old new : Worker S T) : Type 0 where
    pub gained : List ℕ
    pub is : new.claim.numbers ≡ old.claim.numbers ++ gained
    pub low : AllByRecursion (λ k. k < limit) gained
    pub worked : HasWorked (4 * length gained) old.seat new.seat
    pub left : AreLeft old.claim.numbers new.claim.numbers old.seat new.seat new.unfetched

  pub none_swept : (limit : ℕ) (w : Worker S T) → w.seat.turn ≡ None → Swept limit w w
  none_swept limit w free = record { gained = []; is = sym (append-nil w.claim.numbers); low = tt; worked = none_worked w.seat 0 free; left = record { each = λ stripe h. inl h } }

  pub swept_same : (limit : ℕ) (old mid new : Worker S T) → Swept limit old mid → new.claim.numbers ≡ mid.claim.numbers → new.seat ≡ mid.seat → new.unfetched ≡ mid.unfetched → Swept limit old new
  swept_same limit old mid new s numbers seat count = record {
    gained = s.gained;
    is = numbers ∙ s.is;
    low = s.low;
    worked = subst (HasWorked (4 * length s.gained) old.seat) (sym seat) s.worked;
    left = subst (λ ns. AreLeft old.claim.numbers ns old.seat new.seat new.unfetched) (sym numbers)
        (subst (λ n. AreLeft old.claim.numbers mid.claim.numbers old.seat new.seat n) (sym count) (subst (λ t. AreLeft old.claim.numbers mid.claim.numbers old.seat t mid.unfetched) (sym seat) s.left));
  }

  -- one more number
  pub swept_on : (limit k : ℕ) (old mid new : Worker S T) → Swept limit old mid → k < limit → new.claim.numbers ≡ mid.claim.numbers ++ k ∷ [] → HasWorked 4 mid.seat new.seat → IsLeft k mid.seat new.seat new.unfetched → (0 < mid.unfetched → 0 < new.unfetched) → Swept limit old new
  swept_on limit k old mid new s less is w now more = record {
    gained = s.gained ++ k ∷ [];
    is = is ∙ ap (λ xs. xs ++ k ∷ []) s.is ∙ append_assoc old.claim.numbers s.gained (k ∷ []);
    low = below_push limit k s.gained s.low less;
    worked = subst (λ n. HasWorked (4 * n) old.seat new.seat) (sym (length-append s.gained (k ∷ [])))
        (worked_most (4 * length s.gained + 4) (4 * (length s.gained + 1)) old.seat new.seat (omega arith) (worked_twice (4 * length s.gained) 4 old.seat mid.seat new.seat s.worked w));
    left = record { each = λ stripe h. by_number stripe (stripe_parts stripe mid.claim.numbers (k ∷ []) (subst (HasStripe stripe) is h)) };
  }
    where
      by_number : (stripe : ℕ) → HasStripe stripe mid.claim.numbers ⊎ HasStripe stripe (k ∷ []) → HasStripe stripe old.claim.numbers ⊎ IsLeft stripe old.seat new.seat new.unfetched
      by_number stripe (inl before) = earlier (s.left.each stripe before)
        where
          earlier : HasStripe stripe old.claim.numbers ⊎ IsLeft stripe old.seat mid.seat mid.unfetched → HasStripe stripe old.claim.numbers ⊎ IsLeft stripe old.seat new.seat new.unfetched
          earlier (inl own) = inl own
          earlier (inr done) = inr (left_later stripe old.seat old.seat mid.seat new.seat mid.unfetched new.unfetched (contains_itself old.seat.basis) (omega arith) done w.keeps more)
      by_number stripe (inr (inl e)) =
          inr (left_later stripe old.seat mid.seat new.seat new.seat new.unfetched new.unfetched s.worked.keeps.basis (starts-length mid.seat.seen old.seat.seen s.worked.keeps.seen) (subst (λ n. IsLeft n mid.seat new.seat new.unfetched) (sym e) now) (none_worked new.seat 0 w.keeps.free).keeps (λ some. some))
      by_number stripe (inr (inr never)) = absurd never

  -- and the turn that finishes
  pub swept_all : (limit : ℕ) (old mid new : Worker S T) → Swept limit old mid → HasNoRepeats mid.claim.numbers → HasWorked 1 mid.seat new.seat → HasWorked (4 * limit + 1) old.seat new.seat
  swept_all limit old mid new s once w =
      let all = worked_twice (4 * length s.gained) 1 old.seat mid.seat new.seat s.worked w in
      let few = few_numbers limit old.claim.numbers s.gained s.low (subst HasNoRepeats s.is once) in
      record { keeps = all.keeps; drawn = omega (arith, all.drawn, few); own = all.own }

  pub swept_then : (limit : ℕ) (old mid new : Worker S T) → Swept limit old mid → HasWorked 1 mid.seat new.seat → new.claim.numbers ≡ mid.claim.numbers → new.unfetched ≡ mid.unfetched → AreLeft old.claim.numbers new.claim.numbers old.seat new.seat new.unfetched
  swept_then limit old mid new s w same count = record { each = λ stripe h. go stripe (s.left.each stripe (subst (HasStripe stripe) same h)) }
    where
      go : (stripe : ℕ) → HasStripe stripe old.claim.numbers ⊎ IsLeft stripe old.seat mid.seat mid.unfetched → HasStripe stripe old.claim.numbers ⊎ IsLeft stripe old.seat new.seat new.unfetched
      go stripe (inl own) = inl own
      go stripe (inr done) = inr (left_later stripe old.seat old.seat mid.seat new.seat mid.unfetched new.unfetched (contains_itself old.seat.basis) (omega arith) done w.keeps (λ some. omega (arith, some, count)))
