-- Sectors of blocks that a file doesn't have: their entries are in state 0 (not present), and the file has a parent, [MS-VHDX] 2.5.1.1.
use Rattle.std.specs.Prelude.{◌≡◌, ℕ, ◌+◌, ◌-◌, ◌*◌, ◌/◌, ◌%◌, ◌<◌, ◌≤◌, ◌==◌, ◌&&◌, Bool, true, false, List, None, min}
use Rattle.store_model.specs.Disk.{Disk}
use Rattle.vhdx_format.specs.Layers.{Shape, entry_of, state_at}
use Rattle.table_pages.specs.declared.tables.Tables.{Tables}
use Rattle.chain_model.specs.Layers as chain
use Rattle.layer_session.specs.ByTables.{WhereHeld}
use Rattle.layer_session.specs.declared.file_layer.FileLayer.{FileLayer}
use Rattle.layer_session.specs.declared.file_layer.FileLayer.TheVariants.{Session, Read}

-- a sector lies in such a block
abbrev pub is_absent : Shape → List ℕ → ℕ → Bool
is_absent p file s = (state_at p file (entry_of p s) == 0) && p.parent

-- Of so many sectors from `first` on this many lie in such blocks, before the first of them that doesn't.
pub record AreAbsent (p : Shape) (file : List ℕ) (first count n : ℕ) : Type 0 where
  pub most : n ≤ count
  pub absent : (i : ℕ) → i < n → is_absent p file (first + i) ≡ true
  pub ends : n < count → is_absent p file (first + n) ≡ false

-- how many sectors there are from this one to the end of 512 blocks, of which its own is the first
abbrev pub sectors_looked_at : Shape → ℕ → ℕ
sectors_looked_at p first = (512 * p.block - first * p.sector % p.block) / p.sector

-- So it is found by tables, of sectors in 512 blocks at most.
abbrev pub FindsAbsent : Tables → Disk → ℕ → ℕ → ℕ → Type 0
FindsAbsent t disk first count n = WhereHeld t disk (λ p file. AreAbsent p file first (min count (sectors_looked_at p first)) n)

-- a layer has none of so many sectors from `first` on
abbrev pub OwnsNone : chain.Layer → ℕ → ℕ → Type 0
OwnsNone layer first n = (i : ℕ) → i < n → layer (first + i) ≡ None

-- the tables by which a file is read
abbrev pub tables_of : FileLayer → Tables
tables_of (Session l) = l.tables
tables_of (Read l) = l.tables
