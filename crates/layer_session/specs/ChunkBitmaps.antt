-- The sector bitmap block of a chunk before the steps of a call: it is there, or it is to be made.
use Rattle.std.specs.Prelude.{◌≡◌, ℕ, ◌+◌, ◌*◌, ◌^◌, ◌<◌, ◌≤◌, true, length}
use Rattle.vhdx_format.specs.Layers.{bitmap_entry_of, state_at}
use Rattle.store_model.specs.Disk.{Disk}
use Rattle.table_pages.specs.Held.{shape_of}
use Rattle.table_pages.specs.declared.tables.TableParts.{TableParts}
use Rattle.block_alloc.specs.Spaces as spaces
use Rattle.layer_session.specs.ByTables.{HaveBits, IsBitmapEntryAtHand, NameIn, WhereHeld}
use Rattle.layer_session.specs.declared.file.Layer.{Layer}
use Rattle.layer_session.specs.declared.preparing.Bits.{Bits}

-- These are bits of one chunk, some of them.
pub record LieInChunk (chunk : ℕ) (bits : Bits) : Type 0 where
  pub from : chunk * 2 ^ 23 ≤ bits.first
  pub some : bits.first < bits.end
  pub to : bits.end ≤ chunk * 2 ^ 23 + 2 ^ 23

-- The sector bitmap block of a sector's chunk is missing, in a file with a parent, and may be made: there is a unit for it, the page of its
-- entry is among the changed ones, and there is room for that and so many pages of its bits.
pub record LacksBitmap (l : Layer) (disk : Disk) (sector pages : ℕ) : Type 0 where
  pub parent : l.tables.parts.parent ≡ true
  pub missing : WhereHeld l.tables disk (λ p file. state_at p file (bitmap_entry_of p sector) ≡ 6 → ⊥)
  pub room : spaces.has_room 1 l.space ≡ true
  pub entry : IsBitmapEntryAtHand l.tables.parts sector l.tables.pending
  pub few : length l.tables.pending + 1 + pages ≤ 120

-- A chunk's plans, of those for so many sectors from `first` on, name its sector bitmap block, as a layer of these sizes holds it, and the
-- pages of the bits that they change are among the changed ones.
pub record HasBitmap (parts : TableParts) (l : Layer) (disk : Disk) (chunk first count : ℕ) : Type 0 where
  pub at_hand : HaveBits chunk (shape_of parts) l.tables l.plans.items first count
  pub there : NameIn chunk parts l.tables disk l.plans.items first count
