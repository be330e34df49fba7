-- What clauses say of tables, of what they hold, and of plans by them.
use Rattle.std.specs.Prelude.{◌≡◌, ℕ, ◌+◌, ◌-◌, ◌*◌, ◌/◌, ◌%◌, ◌^◌, ◌≤◌, Bool, true, List, length, if◌then◌else◌}
use Rattle.vhdx_format.specs.declared.log_entry.Page.{Page}
use Rattle.vhdx_format.specs.Fields.{megabyte}
use Rattle.vhdx_format.specs.Layers.{Shape, bitmap_entry_of, entry_of}
use Rattle.store_model.specs.Disk.{Disk, WhereTold}
use Rattle.store_model.specs.File.{seen}
use Rattle.store_model.specs.Trace.{file_of}
use Rattle.log_format.specs.PendingPages.{has_place}
use Rattle.table_pages.specs.Held.{AreChanged, AreTables, KeepsWithin, SetsBlock, bit_pages, entry_place, held_file, shape_of}
use Rattle.table_pages.specs.Pages.{page_place}
use Rattle.table_pages.specs.declared.tables.TableParts.{TableParts}
use Rattle.table_pages.specs.declared.tables.Tables.{Tables}
use Rattle.layer_session.specs.Bringing.{HasBits, InChunk, NamesBitmap, most_bit_pages}
use Rattle.layer_session.specs.Calls.{AddsOwned, HasOwned}
use Rattle.layer_session.specs.Planning.{EachRun, IsLooked}
use Rattle.layer_session.specs.Reading.{AreStored, layer_by, marked_layer, run_layer}
use Rattle.layer_session.specs.declared.planning.Plan.{Plan}
use Rattle.layer_session.specs.declared.planning.Wanted.{Wanted}
use Rattle.layer_session.specs.declared.preparing.Bits.{Bits}
use Rattle.layer_session.specs.declared.preparing.Missing.{Missing}

-- ---- as they are held

-- Where the store tells its content, P holds of the tables' sizes and of their file as held.
abbrev pub WhereHeld : Tables → Disk → (Shape → List ℕ → Type 0) → Type 0
WhereHeld t disk P = WhereTold disk.told (λ trace. P (shape_of t.parts) (held_file t trace))

-- The page of the entry of a sector's block is among these changed ones,
abbrev pub IsEntryAtHand : TableParts → ℕ → List Page → Type 0
IsEntryAtHand parts sector pages = has_place (page_place (entry_place parts (entry_of (shape_of parts) sector))) pages ≡ true

-- and the page of the entry of its sector bitmap block.
abbrev pub IsBitmapEntryAtHand : TableParts → ℕ → List Page → Type 0
IsBitmapEntryAtHand parts sector pages = has_place (page_place (entry_place parts (bitmap_entry_of (shape_of parts) sector))) pages ≡ true

-- The pages of these bits of a sector bitmap block, whose entry this is, are among these changed ones.
abbrev pub AreBitsAtHand : ℕ → Bits → List Page → Type 0
AreBitsAtHand word bits pages = AreChanged (word / 2 ^ 20 * megabyte) (bits.first % 2 ^ 23 / 32768) (bit_pages (bits.first % 2 ^ 23) (bits.end - bits.first)) pages

-- In each file whose tables these are, the bits of so many sectors from `first` on were set or cleared, in the sector bitmap block of
-- this entry, if that lies in the file.
abbrev pub SetsMarks : ℕ → ℕ → ℕ → Bool → Tables → Tables → Type 0
SetsMarks word first count on old new =
    (file : List ℕ) → AreTables old.parts file old.pending old.cache → word / 2 ^ 20 * megabyte + megabyte ≤ length file → SetsBlock (word / 2 ^ 20 * megabyte) (first % 2 ^ 23) count on old new file

-- No pages are kept in memory but those that were, and those of the table of entries.
abbrev pub KeepsInTable : Tables → Tables → Type 0
KeepsInTable old new = KeepsWithin old.parts.bat_at (old.parts.bat_at + old.parts.bat_len) old new

-- ---- what is read by them

-- The bytes of each sector whose block is there lie in the tables' file, and no changed page over them.
abbrev pub HasStored : Tables → Disk → Type 0
HasStored t disk = WhereTold disk.told (λ trace. AreStored (shape_of t.parts) (seen (file_of trace t.parts.file)) (held_file t trace))

-- So many sectors from a place on lie in the file.
abbrev pub LieIn : TableParts → Disk → ℕ → ℕ → Type 0
LieIn parts disk place count = WhereTold disk.told (λ trace. place + parts.sector * count ≤ length (seen (file_of trace parts.file)))

-- Sectors are those that stand one after the other in the file from a place on, all of them or none;
abbrev pub HasOwnedRun : TableParts → Disk → Bool → ℕ → ℕ → ℕ → List ℕ → List ℕ → List ℕ → List ℕ → Type 0
HasOwnedRun parts disk has place count at old_mask new_mask old new =
    WhereTold disk.told (λ trace. HasOwned (run_layer has (seen (file_of trace parts.file)) place parts.sector) parts.sector 0 count at old_mask new_mask old new)

-- those of them whose bits are set.
abbrev pub HasOwnedMarked : TableParts → Disk → List ℕ → ℕ → ℕ → ℕ → ℕ → List ℕ → List ℕ → List ℕ → List ℕ → Type 0
HasOwnedMarked parts disk bits skip place count at old_mask new_mask old new =
    WhereTold disk.told (λ trace. HasOwned (marked_layer bits skip (seen (file_of trace parts.file)) place parts.sector) parts.sector 0 count at old_mask new_mask old new)

-- Sectors are those that the tables' layer has,
abbrev pub HasOwnedBy : Tables → Disk → ℕ → ℕ → ℕ → List ℕ → List ℕ → List ℕ → List ℕ → Type 0
HasOwnedBy t disk first count at old_mask new_mask old new = WhereTold disk.told (λ trace. HasOwned (layer_by t trace) t.parts.sector first count at old_mask new_mask old new)

-- or are added to what was found.
abbrev pub AddsOwnedBy : Tables → Disk → ℕ → ℕ → ℕ → List ℕ → List ℕ → List ℕ → List ℕ → Type 0
AddsOwnedBy t disk first count at old_mask new_mask old new = WhereTold disk.told (λ trace. AddsOwned (layer_by t trace) t.parts.sector first count at old_mask new_mask old new)

-- ---- plans by them

-- What was looked at, by a file of these numbers as these tables hold it.
abbrev pub IsLookedBy : TableParts → Tables → Disk → Bool → List Plan → ℕ → ℕ → ℕ → Wanted → Type 0
IsLookedBy parts t disk trims plans k first count all = WhereTold disk.told (λ trace. IsLooked (shape_of parts) (held_file t trace) trims plans k first count all)

-- no more blocks and no more sector bitmap blocks than this are wanted
abbrev pub WantsAtMost : ℕ → Wanted → Type 0
WantsAtMost most all = (all.blocks ≤ most) × (all.bitmaps ≤ most)

-- The plans of a chunk, of those of so many sectors from `first` on, name its sector bitmap block, as these tables hold it.
abbrev pub NameIn : ℕ → TableParts → Tables → Disk → List Plan → ℕ → ℕ → Type 0
NameIn chunk parts t disk plans first count = WhereTold disk.told (λ trace. EachRun (shape_of parts) plans (InChunk chunk (NamesBitmap (shape_of parts) (held_file t trace))) 0 first count)

-- So do those of the first sector's chunk,
abbrev pub NameNear : Tables → Disk → List Plan → ℕ → ℕ → Type 0
NameNear t disk plans first count = NameIn (first / 2 ^ 23) t.parts t disk plans first count

-- and those of the last one's.
abbrev pub NameFar : Tables → Disk → List Plan → ℕ → ℕ → Type 0
NameFar t disk plans first count = NameIn ((first + count - 1) / 2 ^ 23) t.parts t disk plans first count

-- The pages of the bits that the plans of a chunk change are among the tables' changed ones.
abbrev pub HaveBits : ℕ → Shape → Tables → List Plan → ℕ → ℕ → Type 0
HaveBits chunk p t plans first count = EachRun p plans (InChunk chunk (HasBits t)) 0 first count

-- how many pages are brought for both chunks at most: of a missing sector bitmap block that of its entry, else those of the bits
abbrev pub most_brought : Missing → Shape → ℕ → ℕ
most_brought missing p count = (if missing.near then 1 else most_bit_pages p count) + (if missing.far then 1 else most_bit_pages p count)

-- how many for a chunk at most where its sector bitmap block is made, if it's missing: none else
abbrev pub most_made : Bool → Shape → ℕ → ℕ
most_made missing p count = if missing then 1 + most_bit_pages p count else 0
