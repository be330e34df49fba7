-- The steps of an update: bytes that are laid and written, and what a region becomes by them.
use Rattle.std.specs.Prelude.{◌≡◌, ◌<◌, ℕ, ◌+◌, ◌-◌, ◌&&◌, nat_le, Bool, false, List, [], ◌∷◌, Option, Some, None, Result, Ok, Err, length, find, ◌≤◌, if◌then◌else◌}
use Rattle.vx_base.specs.Fields.{u16_at}
use Rattle.store_model.specs.Disk.{Disk, LeavesBy, WhereTold}
use Rattle.vhdx_format.specs.declared.log_entry.Page.{Page}
use Rattle.vhdx_format.specs.declared.metadata.MetadataEntry.{MetadataEntry}
use Rattle.vhdx_format.specs.Fields.{written_over, u16_bytes}
use Rattle.vhdx_format.specs.MetadataTables.{is_outside, metadata_entries}
use Rattle.vhdx_format.specs.Updates.{items_end, is_full_table, with_changed, with_new, with_entry, with_value, entry_place, offset_of}
use Rattle.meta_edit.specs.declared.ItemKind.{ItemKind}
use Rattle.meta_edit.specs.declared.MetaRefusal.{MetaRefusal}
use Rattle.meta_edit.specs.declared.MetaRefusal.TheVariants.{LocatorTooLarge, MetadataFull, Store, NoRoom}
use Rattle.meta_edit.specs.declared.laying.LaidFile.{LaidFile}
use Rattle.meta_edit.specs.Edits.{Answers, IsInside, IsNotTooLarge, NamesFile, fault_of, flags_of, id_of, is_of_kind, region_of}
use Rattle.meta_edit.specs.Pages.{ArePages, HasMetadata, laid_file, with_pages}

-- a file of the store whose metadata stand in their place, and the pages laid over them
pub record IsLaid (laid : LaidFile) (disk : Disk) : Type 0 where
  pub there : laid.file < disk.files
  pub parts : HasMetadata laid.parts.now
  pub over : ArePages laid.parts.now laid.over.now
  pub inside : IsInside laid.parts.now laid.file disk

-- where the content is told: the later pages are the earlier ones, with these bytes changed in the file
abbrev pub WritesLaid : LaidFile → ℕ → List ℕ → Disk → List Page → List Page → Type 0
WritesLaid laid at bytes disk old new =
    WhereTold disk.told (λ trace. with_pages new (laid_file trace laid.file laid.over.now)
    ≡ written_over (with_pages old (laid_file trace laid.file laid.over.now)) at bytes)

-- a refusal that comes from outside, and says nothing of the bytes: want of memory, or a fault
abbrev pub IsFromOutside : MetaRefusal → Type 0
IsFromOutside (LocatorTooLarge len) = ⊥
IsFromOutside (MetadataFull full) = ⊥
IsFromOutside (Store fault) = Unit {0}
IsFromOutside NoRoom = Unit {0}

-- the file s is the file f with n bytes r from m on
pub record Shows (m n : ℕ) (f s r : List ℕ) : Type 0 where
  pub is : s ≡ written_over f m r
  pub len : length r ≡ n

-- the file with the pages over it is the file with this region
abbrev pub ShowsLaid : LaidFile → List ℕ → List Page → List ℕ → Type 0
ShowsLaid laid file pages region = Shows laid.parts.now.meta_at laid.parts.now.meta_len file (with_pages pages file) region

-- Pages that change the region so, where the content is told; so many more than before, at most.
pub record IsPut (laid : LaidFile) (change : List ℕ → List ℕ) (more : ℕ) (before : List Page) (old new : Disk) (pages : List Page) : Type 0 where
  pub shown : WhereTold old.told (λ trace. (region : List ℕ) → ShowsLaid laid (laid_file trace laid.file laid.over.now) before region
      → ShowsLaid laid (laid_file trace laid.file laid.over.now) pages (change region))
  pub within : ArePages laid.parts.now pages
  pub few : length pages ≤ length before + more
  pub store : new ≡ old

-- a refusal from outside, and the store that it leaves
pub record IsFault (file : ℕ) (old new : Disk) (refusal : MetaRefusal) : Type 0 where
  pub outside : IsFromOutside refusal
  pub store : LeavesBy file old new (fault_of refusal)

abbrev pub PutsInRegion : LaidFile → (List ℕ → List ℕ) → ℕ → List Page → Disk → Disk → Result (List Page) MetaRefusal → Type 0
PutsInRegion laid change more before old new (Ok pages) = IsPut laid change more before old new pages
PutsInRegion laid change more before old new (Err refusal) = IsFault laid.file old new refusal

-- For every store: the pages lie in the metadata's region, and are few.
pub record IsUpdate (laid : LaidFile) (old new : Disk) (pages : List Page) : Type 0 where
  pub within : ArePages laid.parts.now pages
  pub few : length pages ≤ 22
  pub store : new ≡ old

-- a refusal of this file's, and the store that it leaves
pub record IsRefused (file : ℕ) (old new : Disk) (refusal : MetaRefusal) : Type 0 where
  pub names : NamesFile file refusal
  pub short : IsNotTooLarge refusal
  pub store : LeavesBy file old new (fault_of refusal)

abbrev pub EndsUpdate : LaidFile → Disk → Disk → Result (List Page) MetaRefusal → Type 0
EndsUpdate laid old new (Ok pages) = IsUpdate laid old new pages
EndsUpdate laid old new (Err refusal) = IsRefused laid.file old new refusal

-- what is answered, going by the region's bytes
abbrev pub AnswersLaid : LaidFile → Disk → (List ℕ → Option (List ℕ)) → Result (List Page) MetaRefusal → Type 0
AnswersLaid laid disk changed result = Answers laid.parts.now laid.file laid.over.now disk (λ bytes. changed (region_of laid.parts.now bytes)) result

-- n bytes from a place on with a page laid over them, where it lies among them
abbrev pub part_with : ℕ → List ℕ → Page → List ℕ
part_with at part page =
    if nat_le at page.at && nat_le (page.at + 4096) (at + length part) then written_over part (page.at - at) page.bytes else part

-- the same of pages, one after another
unfoldable pub part_with_all : ℕ → List ℕ → List Page → List ℕ
part_with_all at part [] = part
part_with_all at part (page ∷ pages) = part_with_all at (part_with at part page) pages

-- the region with a value written over an item's old one
abbrev pub changed_there : List ℕ → MetadataEntry → List ℕ → List ℕ
changed_there region old value = with_entry (written_over region old.at value) old.index (offset_of old.at value) (length value)

-- the region with a value at a place, and an item's entry saying so
abbrev pub moved_to : List ℕ → ℕ → MetadataEntry → List ℕ → Option (List ℕ)
moved_to region place old value = with_value (with_entry region old.index place (length value)) place value

-- the region with these bytes as one entry more, and a value at a place
abbrev pub added_there : List ℕ → ℕ → List ℕ → ℕ → List ℕ → List ℕ
added_there region n entry place value = written_over (written_over (written_over region 10 (u16_bytes (n + 1))) (entry_place (n + 1)) entry) place value

-- each item of a table of a region of this length lies in its place, and the table has no more entries than it may
pub record IsSoundTable (region_len : ℕ) (table : List ℕ) : Type 0 where
  pub count : u16_at table 10 ≤ 2047
  pub placed : (p : MetadataEntry → Bool) (entry : MetadataEntry) → find p (metadata_entries table) ≡ Some entry → is_outside region_len entry ≡ false

-- the region with an item changed that a table has or hasn't
abbrev pub found_in_table : ItemKind → List ℕ → List ℕ → List ℕ → Option MetadataEntry → Option (List ℕ)
found_in_table kind table value region (Some old) = with_changed region (items_end (metadata_entries table)) old value
found_in_table kind table value region None =
    with_new region (is_full_table (metadata_entries table)) (u16_at table 10) (items_end (metadata_entries table)) (id_of kind) (flags_of kind) value

-- the region with this item's value changed, going by a table
abbrev pub item_in_table : ItemKind → List ℕ → List ℕ → List ℕ → Option (List ℕ)
item_in_table kind table value region = found_in_table kind table value region (find (is_of_kind kind) (metadata_entries table))
