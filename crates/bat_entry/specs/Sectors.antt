-- Where a block's sectors stand, by its state and whether the file has a parent, [MS-VHDX] 2.5.1.1.
use Rattle.std.specs.Prelude.{◌≡◌, ◌≢◌, ℕ, Bool, true, false}
use Rattle.bat_entry.specs.declared.BlockSectors.{BlockSectors}
use Rattle.bat_entry.specs.declared.BlockSectors.TheVariants.{Here, Marked, Absent, Zeros}

-- In state 6 (fully present) they are here; in 7 (partially present, where there is a parent) those whose bits are set; in 0 (not
-- present) they are the parent's, if there is one; else (0 and 7 without a parent, 1 undefined, 2 zero, 3 unmapped) they are zeros.
abbrev pub StandAs : Bool → ℕ → BlockSectors → Type 0
StandAs parent state Here = state ≡ 6
StandAs parent state Marked = (state ≡ 7) × (parent ≡ true)
StandAs parent state Absent = (state ≡ 0) × (parent ≡ true)
StandAs parent state Zeros = (state ≢ 6) × (state ≡ 7 → parent ≡ false) × (state ≡ 0 → parent ≡ false)
