-- What an update of one item answers.
use Rattle.std.specs.Prelude.{◌≡◌, ℕ, ◌+◌, ◌^◌, ◌-◌, min, Bool, List, [], Option, Some, None, Result, Ok, Err, length, IsOk, ◌≤◌}
use Rattle.store_model.specs.Disk.{Disk, WhereTold}
use Rattle.store_model.specs.File.{seen}
use Rattle.store_model.specs.Trace.{file_of}
use Rattle.store_model.specs.declared.fault.StoreFault.{StoreFault}
use Rattle.vhdx_format.specs.declared.TheConstants.{PARENT_LOCATOR, RETIRED}
use Rattle.vhdx_format.specs.declared.log_entry.Page.{Page}
use Rattle.vhdx_format.specs.declared.metadata.Metadata.{Metadata}
use Rattle.vhdx_format.specs.declared.metadata.MetadataEntry.{MetadataEntry}
use Rattle.vhdx_format.specs.Fields.{bytes_at, written_over}
use Rattle.vhdx_format.specs.MetadataTables.{is_item, is_retired_item, read_metadata}
use Rattle.vhdx_format.specs.Texts.{text_units, units_bytes}
use Rattle.vhdx_format.specs.Updates.{updated}
use Rattle.vx_base.specs.declared.parts.Parts.{Parts}
use Rattle.meta_edit.specs.declared.ItemKind.{ItemKind}
use Rattle.meta_edit.specs.declared.ItemKind.TheVariants.{Locator, Retired}
use Rattle.meta_edit.specs.declared.MetaRefusal.{MetaRefusal}
use Rattle.meta_edit.specs.declared.MetaRefusal.TheVariants.{LocatorTooLarge, MetadataFull, Store, NoRoom}
use Rattle.meta_edit.specs.Pages.{laid_file, with_pages}

-- the items that are changed: their entries, their identifiers, and the flags of a new entry
abbrev pub is_of_kind : ItemKind → MetadataEntry → Bool
is_of_kind Locator = is_item PARENT_LOCATOR
is_of_kind Retired = is_retired_item

abbrev pub id_of : ItemKind → List ℕ
id_of Locator = PARENT_LOCATOR
id_of Retired = RETIRED

abbrev pub flags_of : ItemKind → ℕ
flags_of Locator = 4
flags_of Retired = 1

-- the metadata's region
abbrev pub region_of : Parts → List ℕ → List ℕ
region_of parts file = bytes_at file parts.meta_at parts.meta_len

-- the file whose metadata's region is this
abbrev pub with_region : Parts → List ℕ → List ℕ → List ℕ
with_region parts file region = written_over file parts.meta_at region

-- the region with this item's value changed, where there is room
abbrev pub changed_item : ItemKind → Parts → List ℕ → List ℕ → Option (List ℕ)
changed_item kind parts value file = updated (region_of parts file) (is_of_kind kind) (id_of kind) (flags_of kind) value

-- what the region says: the metadata, where it breaks no rule
abbrev pub HasSoundMetadata : Parts → List ℕ → Type 0
HasSoundMetadata parts file = IsOk (read_metadata (region_of parts file) parts.bat_len)

-- The pages turn the file into the one with the changed region; and where there is none, there is no room.
abbrev pub Gives : Parts → List ℕ → Option (List ℕ) → List Page → Type 0
Gives parts file None pages = ⊥
Gives parts file (Some region) pages = with_pages pages file ≡ with_region parts file region

abbrev pub AnswersUpdate : Parts → List ℕ → Option (List ℕ) → Result (List Page) MetaRefusal → Type 0
AnswersUpdate parts file region (Ok pages) = Gives parts file region pages
AnswersUpdate parts file region (Err (LocatorTooLarge len)) = Unit {0}
AnswersUpdate parts file region (Err (MetadataFull full)) = region ≡ None
AnswersUpdate parts file region (Err (Store fault)) = Unit {0}
AnswersUpdate parts file region (Err NoRoom) = Unit {0}

-- the fault of the store that it tells
abbrev pub fault_of : MetaRefusal → Option StoreFault
fault_of (Store fault) = Some fault
fault_of other = None

-- of the file's own: a full region is this file's
abbrev pub NamesFile : ℕ → MetaRefusal → Type 0
NamesFile file (LocatorTooLarge len) = Unit {0}
NamesFile file (MetadataFull full) = full ≡ file
NamesFile file (Store fault) = fault.file ≡ file
NamesFile file NoRoom = Unit {0}

-- too large by its length, as far as a number of 64 bits can say it
abbrev pub IsTooLarge : ℕ → MetaRefusal → Type 0
IsTooLarge n (LocatorTooLarge len) = len ≡ min n (2 ^ 64 - 1)
IsTooLarge n (MetadataFull full) = ⊥
IsTooLarge n (Store fault) = ⊥
IsTooLarge n NoRoom = ⊥

abbrev pub IsNotTooLarge : MetaRefusal → Type 0
IsNotTooLarge (LocatorTooLarge len) = ⊥
IsNotTooLarge (MetadataFull full) = Unit {0}
IsNotTooLarge (Store fault) = Unit {0}
IsNotTooLarge NoRoom = Unit {0}

-- the value of a retired item
abbrev pub retired_value : Option (List ℕ) → List ℕ
retired_value None = []
retired_value (Some name) = units_bytes (text_units name)

-- With the pages laid over it, a file whose metadata are read is read with the new locator, and else as before.
abbrev pub LocatorIsRead : Parts → List ℕ → List ℕ → List Page → Type 0
LocatorIsRead parts file value pages =
    (m : Metadata) → read_metadata (region_of parts file) parts.bat_len ≡ Ok m
    → read_metadata (region_of parts (with_pages pages file)) parts.bat_len ≡ Ok (record m { locator = Some value })

-- The same of the retired name: it is read with the new one, or with none.
abbrev pub RetiredIsRead : Parts → List ℕ → Option (List ℕ) → List Page → Type 0
RetiredIsRead parts file to pages =
    (m : Metadata) → read_metadata (region_of parts file) parts.bat_len ≡ Ok m
    → read_metadata (region_of parts (with_pages pages file)) parts.bat_len ≡ Ok (record m { retired = to })

-- ---- the same where the content is told, of the file with earlier pages laid over it

abbrev pub IsInside : Parts → ℕ → Disk → Type 0
IsInside parts file disk = WhereTold disk.told (λ trace. parts.meta_at + parts.meta_len ≤ length (seen (file_of trace file)))

abbrev pub IsSound : Parts → ℕ → List Page → Disk → Type 0
IsSound parts file over disk = WhereTold disk.told (λ trace. HasSoundMetadata parts (laid_file trace file over))

abbrev pub Answers : Parts → ℕ → List Page → Disk → (List ℕ → Option (List ℕ)) → Result (List Page) MetaRefusal → Type 0
Answers parts file over disk region result =
    WhereTold disk.told (λ trace. AnswersUpdate parts (laid_file trace file over) (region (laid_file trace file over)) result)

abbrev pub ReadsLocator : Parts → ℕ → List Page → Disk → List ℕ → List Page → Type 0
ReadsLocator parts file over disk value pages = WhereTold disk.told (λ trace. LocatorIsRead parts (laid_file trace file over) value pages)

abbrev pub ReadsRetired : Parts → ℕ → List Page → Disk → Option (List ℕ) → List Page → Type 0
ReadsRetired parts file over disk to pages = WhereTold disk.told (λ trace. RetiredIsRead parts (laid_file trace file over) to pages)
