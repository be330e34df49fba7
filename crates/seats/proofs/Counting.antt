-- How often a number stands in a longer list, and the numbers between two, each once.
use Rattle.std.proofs.Common.{◌≡◌, ℕ, ◌+◌, ◌<◌, ◌≤◌, List, [], ◌∷◌, ◌++◌, cond, arith}
use Rattle.std.specs.Prelude.{◌==◌}
use Rattle.std.proofs.lemmas.List.Sums.{sum_by_push, sum_by-append}
use Rattle.std.proofs.lemmas.Bool.Decides.{nat_tests}
use Rattle.seats.specs.Counting.{times, once_between, once_at}

pub times-push : (x : ℕ) (xs : List ℕ) (y : ℕ) → times x (xs ++ y ∷ []) ≡ times x xs + once_at x y
times-push x xs y = sum_by_push (λ (z : ℕ). cond (z == x) 1 0) xs y

pub times-append : (x : ℕ) (xs ys : List ℕ) → times x (xs ++ ys) ≡ times x xs + times x ys
times-append x xs ys = sum_by-append (λ (z : ℕ). cond (z == x) 1 0) xs ys

pub once_at-itself : (x : ℕ) → once_at x x ≡ 1
once_at-itself x = grind (arith, nat_tests)

pub once_between-le : (x a b : ℕ) → once_between x a b ≤ 1
once_between-le x a b = grind (arith, nat_tests)

pub once_between-in : (x a b : ℕ) → 1 ≤ once_between x a b → (a ≤ x) × (x < b)
once_between-in x a b h = (grind (arith, nat_tests), grind (arith, nat_tests))

pub once_between-same : (x a b c : ℕ) → x < b → x < c → once_between x a b ≡ once_between x a c
once_between-same x a b c h l = grind (arith, nat_tests)

pub once_between-more : (x a b : ℕ) → a ≤ b → once_between x a (b + 1) ≡ once_between x a b + once_at x b
once_between-more x a b h = grind (arith, nat_tests)

pub once_between-less : (x a b : ℕ) → a < b → once_between x (a + 1) b + once_at x a ≡ once_between x a b
once_between-less x a b h = grind (arith, nat_tests)

pub once_between-none : (x a : ℕ) → once_between x a a ≡ 0
once_between-none x a = grind (arith, nat_tests)
