-- Whether readers that guests give back have failed.
use Rattle.std.proofs.Common.{◌≡◌, ◌+◌, ◌-◌, ◌^◌, ◌<◌, ◌≤◌, ◌++◌, ◌∷◌, ◌||◌, ℕ, zero, suc, Bool, true, false, List, [], length, refl, sym, ap, ap₂, ◌∙◌, arith, length-append, ltb-false, ltb-true}
use Rattle.std.specs.Prelude.{min, nat_lt}
use Rattle.std.proofs.Math.Nat.{le-min, min-eq_left, min-eq_right}
use Rattle.store_model.specs.Disk.{Sealed}
use Rattle.read_plan.proofs.Failing.{some_lt}
use Rattle.serve_session.specs.Back.{any_failed}
use Rattle.read_plan.specs.Reading.{has_failed}

or_false : (b : Bool) → (b || false) ≡ b
or_false true = refl
or_false false = refl

or_true : (b : Bool) → (b || true) ≡ true
or_true true = refl
or_true false = refl

or_assoc : (a b c : Bool) → (a || (b || c)) ≡ ((a || b) || c)
or_assoc true b c = refl
or_assoc false b c = refl

-- there is one of two counts where there is one of either
pub lt_or : (n m : ℕ) → nat_lt 0 (n + m) ≡ (nat_lt 0 n || nat_lt 0 m)
lt_or zero m = ap (nat_lt 0) {x = 0 + m} {y = m} (omega arith)
lt_or (suc n) m = some_lt (suc n + m) (omega arith) ∙ sym (ap (λ b. b || nat_lt 0 m) (some_lt (suc n) (omega arith)))

-- one set more
pub any_snoc : (sets : List (List Sealed)) (one : List Sealed) → any_failed (sets ++ one ∷ []) ≡ (any_failed sets || has_failed one)
any_snoc [] one = or_false (has_failed one)
any_snoc (s ∷ sets) one = ap (λ b. has_failed s || b) (any_snoc sets one) ∙ or_assoc (has_failed s) (any_failed sets) (has_failed one)

-- of guests whose reads failed so often, and one guest more
pub any_more : (sets : List (List Sealed)) (one : List Sealed) (n m : ℕ) → any_failed sets ≡ nat_lt 0 n → has_failed one ≡ nat_lt 0 m → any_failed (sets ++ one ∷ []) ≡ nat_lt 0 (n + m)
any_more sets one n m all last = any_snoc sets one ∙ ap₂ (λ a b. a || b) all last ∙ sym (lt_or n m)

-- a list with one more at its end has one
pub snoc_lt : {A : Type 0} (xs : List A) (x : A) → nat_lt 0 (length (xs ++ x ∷ [])) ≡ true
snoc_lt xs x = let n = length-append xs (x ∷ []) in some_lt (length (xs ++ x ∷ [])) (omega (arith, n))

-- a count of 64 bits with more, which is some where either is
pub sat_some : (a m w r : ℕ) → m ≡ w → r ≡ min (a + m) (2 ^ 64 - 1) → nat_lt 0 r ≡ (nat_lt 0 a || nat_lt 0 w)
sat_some a m w r same is = go (nat_lt (a + m) (2 ^ 64 - 1)) refl
  where
    go : (b : Bool) → nat_lt (a + m) (2 ^ 64 - 1) ≡ b → nat_lt 0 r ≡ (nat_lt 0 a || nat_lt 0 w)
    go true e = ap (nat_lt 0) (is ∙ min-eq_left (let low = ltb-true (a + m) (2 ^ 64 - 1) e in omega (arith, low)) ∙ ap (λ k. a + k) same) ∙ lt_or a w
    go false e =
        let high = ltb-false (a + m) (2 ^ 64 - 1) e in
        ap (nat_lt 0) (is ∙ min-eq_right high) ∙ sym (some_lt (a + w) (omega (arith, high, same))) ∙ lt_or a w

-- no more
pub sat_none : (a m r : ℕ) → m ≡ 0 → a < 2 ^ 64 → r ≡ min (a + m) (2 ^ 64 - 1) → r ≡ a
sat_none a m r none few is = is ∙ min-eq_left (omega (arith, none, few)) ∙ omega (arith, none)

-- it is no less
pub sat_least : (a m r : ℕ) → a < 2 ^ 64 → r ≡ min (a + m) (2 ^ 64 - 1) → a ≤ r
sat_least a m r few is = let k : a ≤ min (a + m) (2 ^ 64 - 1) = le-min (omega arith) (omega (arith, few)) in omega (arith, k, is)

-- of what failed so often, and one set more
pub any_sat : (old : Bool) (sets : List (List Sealed)) (one : List Sealed) (a w r : ℕ) → any_failed sets ≡ (old || nat_lt 0 a) → has_failed one ≡ nat_lt 0 w → nat_lt 0 r ≡ (nat_lt 0 a || nat_lt 0 w) → any_failed (sets ++ one ∷ []) ≡ (old || nat_lt 0 r)
any_sat old sets one a w r all last some = any_snoc sets one ∙ ap₂ (λ x y. x || y) all last ∙ sym (or_assoc old (nat_lt 0 a) (nat_lt 0 w)) ∙ ap (λ b. old || b) (sym some)
