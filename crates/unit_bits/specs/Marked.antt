-- Units of a file that are marked, as they are kept.
use Rattle.std.specs.Prelude.{◌≡◌, ℕ, ◌+◌, ◌<◌, ◌≤◌, ◌==◌, ◌&&◌, ◌||◌, Bool, false, nat_le, nat_lt}
use Rattle.unit_bits.specs.Words.{bit_of}
use Rattle.unit_bits.specs.declared.bits.UnitBits.{UnitBits}

-- which units are marked
abbrev pub marks_of : UnitBits → ℕ → Bool
marks_of bits t = bit_of bits.words.items t == 1

-- how many units there are
abbrev pub count_of : UnitBits → ℕ
count_of bits = bits.count

-- t is one of the units of a block
abbrev pub is_in : ℕ → ℕ → ℕ → Bool
is_in unit units t = nat_le unit t && nat_lt t (unit + units)

-- all units of a block are there, and none of them is marked
pub record IsFree (count : ℕ) (marks : ℕ → Bool) (unit units : ℕ) : Type 0 where
  pub there : unit + units ≤ count
  pub unmarked : (t : ℕ) → unit ≤ t → t < unit + units → marks t ≡ false

-- with the units of a block marked
abbrev pub with_block : ℕ → ℕ → (ℕ → Bool) → ℕ → Bool
with_block unit units marks t = is_in unit units t || marks t
