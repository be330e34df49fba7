-- Marks of a disk's stripes, as they are kept.
use Rattle.std.specs.Prelude.{◌≡◌, ◌<◌, ℕ, ◌==◌, ◌&&◌, Bool, true, false, not, nat_le}
use Rattle.vhdx_format.specs.SectorBitmaps.{bit_of}
use Rattle.merge_core.specs.declared.marks.Marks.{Marks}

-- which stripes are marked
abbrev pub marks_of : Marks → ℕ → Bool
marks_of m t = bit_of m.bits.items t == 1

-- with the marks of the stripes from `first` to `last` taken away
abbrev pub without_marks : ℕ → ℕ → (ℕ → Bool) → ℕ → Bool
without_marks first last marks t = not (nat_le first t && nat_le t last) && marks t

-- the lowest of so many stripes that isn't marked
pub record IsLowest (stripes : ℕ) (marks : ℕ → Bool) (t : ℕ) : Type 0 where
  pub there : t < stripes
  pub unmarked : marks t ≡ false
  pub below : (u : ℕ) → u < t → marks u ≡ true
