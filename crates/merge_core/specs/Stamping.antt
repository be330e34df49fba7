-- Stamps of a disk's stripes, as they are kept.
use Rattle.std.specs.Prelude.{ℕ, ◌&&◌, nat_le, if◌then◌else◌, slice_index}
use Rattle.merge_core.specs.declared.stamps.Stamps.{Stamps}

-- the stamp of each stripe
abbrev pub stamps_of : Stamps → ℕ → ℕ
stamps_of s t = slice_index s.words.items t

-- with this stamp for the stripes from `first` to `last`
abbrev pub with_stamps : ℕ → ℕ → ℕ → (ℕ → ℕ) → ℕ → ℕ
with_stamps first last stamp stamps t = if nat_le first t && nat_le t last then stamp else stamps t
