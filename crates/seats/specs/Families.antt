-- The first seat of a table, the seats that are split from it, and those that are joined into it again.
use Rattle.std.specs.Prelude.{◌≡◌, ℕ, ◌+◌, ◌^◌, ◌≤◌, Bool, true, List, length, sum_by, if◌then◌else◌}
use mathlib.Core.Option.{some}
use lib.ListN.{get_elem?}
use Rattle.seats.specs.declared.Family.{Family}

-- a seat from which none was split, and into which none was joined
abbrev pub newborn : Bool → Family
newborn is_first = record { is_first = is_first; splits = 0; joins = 0 }

abbrev pub with_split : Family → Family
with_split f = record f { splits = f.splits + 1 }

abbrev pub with_join : Family → Family
with_join f = record f { joins = f.joins + 1 }

-- every seat that was split from the first is joined into it
abbrev pub AllJoined : Family → Type 0
AllJoined f = f.joins ≡ f.splits

-- a seat is spent where it was joined into another
abbrev pub live_count : Bool → ℕ
live_count is_spent = if is_spent then 0 else 1

-- where the seat is the first, it counts the seats that were split from it, and those that were joined into it
abbrev pub Counts : (all live id : ℕ) → Family → Type 0
Counts all live id f = f.is_first ≡ true → (id ≡ 0) × (all ≡ f.splits + 1) × (live + f.joins ≡ f.splits + 1)

-- what a rule says of all seats, each by its view
pub record IsFamily {V : Type 0} (family : V → Family) (is_spent : V → Bool) (views : List V) : Type 0 where
  pub counts : (id : ℕ) (v : V) → get_elem? views id ≡ some v → Counts (length views) (sum_by (λ u. live_count (is_spent u)) views) id (family v)
  pub few : length views ≤ 2 ^ 32 + 1
