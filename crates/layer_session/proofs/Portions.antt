-- A portion of a call, its first sectors, and the rest behind it.
use Rattle.std.proofs.Common.{◌≡◌, ℕ, zero, suc, ◌+◌, ◌-◌, ◌^◌, ◌<◌, ◌≤◌, Fits, w64, arith}
use Rattle.std.specs.Prelude.{min}
use Rattle.layer_session.proofs.Joining.{IsOutside, part_outside}

-- some are left
pub some_count : (count : ℕ) → (count ≡ 0 → ⊥) → 0 < count
some_count zero none = absurd (none (let e : 0 ≡ 0 = omega arith in e))
some_count (suc count) none = omega arith

pub below_next : (k : ℕ) → k < k + 1
below_next k = omega arith

-- the least of two is no more than either
pub least_first : (n a b : ℕ) → n ≡ min a b → n ≤ a
least_first n a b is = omega (arith, is)

pub least_second : (n a b : ℕ) → n ≡ min a b → n ≤ b
least_second n a b is = omega (arith, is)

-- the rest of some sectors of a disk lies on it
pub rest_on : (first len count sectors : ℕ) → len ≤ count → first + count ≤ sectors → first + len + (count - len) ≤ sectors
rest_on first len count sectors fits on_disk = omega (arith, fits, on_disk)

-- the portion is less than all where there is a rest
pub rest_some : (len count : ℕ) → 0 < count - len → len < count
rest_some len count more = omega (arith, more)

-- what is outside all is outside the portion
pub front_outside : (first count len : ℕ) → len ≤ count → IsOutside first count first len
front_outside first count len fits = part_outside first count first len (omega arith) (omega (arith, fits))

-- a place behind another in a file is a number
pub place_behind : (next place long bytes : ℕ) → next ≡ min (place + long) (2 ^ 64 - 1) → long ≡ bytes → place + bytes ≤ 2 ^ 63 → next ≡ place + bytes
place_behind next place long bytes is same low = omega (arith, is, same, low)

-- as many plans as a layer has
pub few_plans : (len : ℕ) → len ≡ 257 → len < 2 ^ 16
few_plans len is = omega (arith, is)

-- numbers that fit
pub few_fit : (n : ℕ) → n ≤ 2 ^ 46 → Fits w64 n
few_fit n few = omega (arith, few)

pub part_fits : (at len count : ℕ) → len ≤ count → at + count < 2 ^ 64 → Fits w64 (at + len)
part_fits at len count fits end = omega (arith, fits, end)
