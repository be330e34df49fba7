-- Tables that can be read, and what reading them leaves.
use Rattle.std.specs.Prelude.{◌≡◌, ◌⊎◌, ℕ, ◌+◌, ◌%◌, ◌<◌, ◌≤◌, true, List, length}
use Rattle.vhdx_format.specs.Fields.{megabyte}
use Rattle.vhdx_format.specs.HeldBlocks.{HasGoodStates, IsBitmapEntry}
use Rattle.vhdx_format.specs.Layers.{bitmap_entry_of, entry_of, place_at, state_at}
use Rattle.store_model.specs.Disk.{Disk, WhereTold}
use Rattle.store_model.specs.File.{seen}
use Rattle.store_model.specs.Trace.{file_of}
use Rattle.table_pages.specs.Held.{AreTablesIn, HasTables, IsAsHeld, bitmap_place, held_file, shape_of}
use Rattle.table_pages.specs.Pages.{is_kept}
use Rattle.table_pages.specs.declared.tables.TableParts.{TableParts}
use Rattle.table_pages.specs.declared.tables.Tables.{Tables}

-- the chunk of a partially present block has its sector bitmap block, which lies in a file of so many bytes
pub record HasBitmaps (parts : TableParts) (file : List ℕ) (len : ℕ) : Type 0 where
  pub there : (s : ℕ) → s < parts.sectors → parts.parent ≡ true → state_at (shape_of parts) file (entry_of (shape_of parts) s) ≡ 7
      → state_at (shape_of parts) file (bitmap_entry_of (shape_of parts) s) ≡ 6
  pub within : (s : ℕ) → s < parts.sectors → parts.parent ≡ true → state_at (shape_of parts) file (bitmap_entry_of (shape_of parts) s) ≡ 6
      → bitmap_place parts file s + megabyte ≤ len

-- Tables that can be read: their file is there, and where the store tells its content, they are that file's, each entry has a
-- state of its kind, and the sector bitmap blocks that are needed are there.
pub record AreReadable (t : Tables) (disk : Disk) : Type 0 where
  pub there : t.parts.file < disk.files
  pub sizes : HasTables t.parts
  pub tables : AreTablesIn t disk
  pub states : WhereTold disk.told (λ trace. HasGoodStates (shape_of t.parts) (held_file t trace))
  pub bitmaps : WhereTold disk.told (λ trace. HasBitmaps t.parts (held_file t trace) (length (seen (file_of trace t.parts.file))))

-- the sector bitmap block that covers a sector is there
abbrev pub AreBitsThere : ℕ → Tables → Disk → Type 0
AreBitsThere sector t disk = WhereTold disk.told (λ trace. state_at (shape_of t.parts) (held_file t trace) (bitmap_entry_of (shape_of t.parts) sector) ≡ 6)

-- a page of the table, or of a sector bitmap block
pub data IsTablePage (parts : TableParts) (file : List ℕ) (at : ℕ) : Type 0 where
  entries : parts.bat_at ≤ at → at + 4096 ≤ parts.bat_at + parts.bat_len → IsTablePage parts file at
  bitmap : (index : ℕ) → IsBitmapEntry (shape_of parts) index → state_at (shape_of parts) file index ≡ 6
      → place_at (shape_of parts) file index ≤ at → at + 4096 ≤ place_at (shape_of parts) file index + megabyte → IsTablePage parts file at

-- what is kept in memory was kept before, or is a page of the tables
pub record KeepsTables (old new : Tables) (file : List ℕ) : Type 0 where
  pub only : (at : ℕ) → at % 4096 ≡ 0 → is_kept at new.cache ≡ true → (is_kept at old.cache ≡ true) ⊎ IsTablePage old.parts file at

-- Tables were read, and nothing was changed.
pub record HasRead (old new : Tables) (disk : Disk) : Type 0 where
  pub as_held : IsAsHeld old new disk
  pub keeps : WhereTold disk.told (λ trace. KeepsTables old new (held_file old trace))
