-- What is known of blocks that are kept in mind.
use Rattle.std.specs.Prelude.{◌≡◌, ℕ, ◌+◌, ◌<◌, ◌≤◌, Bool, true, List, All}
use Rattle.std.specs.List.{AllPairs}
use Rattle.block_table.specs.declared.overlaps.Block.{Block}
use Rattle.block_table.specs.Overlaps.{HaveCommonUnit}
use Rattle.block_table.specs.Findings.{AreBelow}

-- two blocks have no unit together
abbrev pub AreApart : Block → Block → Type 0
AreApart a b = HaveCommonUnit a b → ⊥

-- the block has units, and each is marked
pub record IsMarked (marks : ℕ → Bool) (b : Block) : Type 0 where
  pub some : 0 < b.units
  pub units : (t : ℕ) → b.unit ≤ t → t < b.unit + b.units → marks t ≡ true

-- no two of the blocks have a unit together, and all their units are marked
pub record AreMarkedApart (marks : ℕ → Bool) (blocks : List Block) : Type 0 where
  pub apart : AllPairs AreApart blocks
  pub marked : All (IsMarked marks) blocks

-- what is kept knows of blocks that stand in order, below the n-th entry, each with an end
pub record IsBelow {K : Type 0} (knows : K → List Block → Type 0) (n : ℕ) (kept : K) : Type 0 where
  pub blocks : List Block
  pub known : knows kept blocks
  pub are : AreBelow n blocks
