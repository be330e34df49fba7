-- How often a number stands in a list, and where it is to stand there once.
use Rattle.std.specs.Prelude.{ℕ, ◌≤◌, ◌==◌, ◌&&◌, List, count_by, nat_lt, nat_le, if◌then◌else◌}

-- how often x stands in the list
abbrev pub times : ℕ → List ℕ → ℕ
times x xs = count_by (λ y. y == x) xs

abbrev pub HasNoRepeats : List ℕ → Type 0
HasNoRepeats xs = (x : ℕ) → times x xs ≤ 1

-- 1 where `low` is at most x and x is below `high`, and else 0
abbrev pub once_between : ℕ → ℕ → ℕ → ℕ
once_between x low high = if nat_le low x && nat_lt x high then 1 else 0

abbrev pub once_at : ℕ → ℕ → ℕ
once_at x y = if y == x then 1 else 0
