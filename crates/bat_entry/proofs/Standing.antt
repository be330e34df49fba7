-- What the answer of `sectors_of` says of an entry's state.
use Rattle.std.proofs.Common.{◌≡◌, ℕ, ◌%◌, Bool, true, false, subst}
use Rattle.std.specs.Prelude.{◌≢◌}
use Rattle.bat_entry.specs.declared.BlockSectors.{BlockSectors}
use Rattle.bat_entry.specs.declared.BlockSectors.TheVariants.{Here, Marked, Absent, Zeros}
use Rattle.bat_entry.specs.Sectors.{StandAs}

pub here : (parent : Bool) (word : ℕ) (found : BlockSectors) → found ≡ Here → StandAs parent (word % 8) found → word % 8 ≡ 6
here parent word found is stand = subst (StandAs parent (word % 8)) is stand

pub marked : (parent : Bool) (word : ℕ) (found : BlockSectors) → found ≡ Marked → StandAs parent (word % 8) found → (word % 8 ≡ 7) × (parent ≡ true)
marked parent word found is stand = subst (StandAs parent (word % 8)) is stand

pub absent : (parent : Bool) (word : ℕ) (found : BlockSectors) → found ≡ Absent → StandAs parent (word % 8) found → (word % 8 ≡ 0) × (parent ≡ true)
absent parent word found is stand = subst (StandAs parent (word % 8)) is stand

pub zeros : (parent : Bool) (word : ℕ) (found : BlockSectors) → found ≡ Zeros → StandAs parent (word % 8) found
    → (word % 8 ≢ 6) × (word % 8 ≡ 7 → parent ≡ false) × (word % 8 ≡ 0 → parent ≡ false)
zeros parent word found is stand = subst (StandAs parent (word % 8)) is stand
