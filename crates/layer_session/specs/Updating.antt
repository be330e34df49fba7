-- An entry of the log that changes a file's metadata.
use Rattle.std.specs.Prelude.{◌≡◌, ℕ, ◌+◌, ◌-◌, ◌%◌, ◌≤◌, false, All, List, [], length, map, Option, Some, Ok}
use Rattle.vx_base.specs.Fields.{bytes_at}
use Rattle.vhdx_format.specs.MetadataTables.{read_metadata}
use Rattle.vhdx_format.specs.SettledFiles.{with_updates}
use Rattle.vhdx_format.specs.WrittenEntries.{page_update}
use Rattle.vhdx_format.specs.declared.log_entry.Page.{Page}
use Rattle.vhdx_format.specs.declared.metadata.Metadata.{Metadata}
use Rattle.store_model.specs.File.{seen}
use Rattle.store_model.specs.Trace.{Trace, file_of}
use Rattle.chain_model.specs.Images.{Placed, RegionBytes}
use Rattle.chain_model.specs.Members.{Ties}
use Rattle.chain_model.specs.Sessions.{GoesOver}
use Rattle.layer_session.specs.declared.file.Layer.{Layer}
use Rattle.layer_session.specs.Keeping.{Serves}

-- a whole page of a region
pub record IsInRegion (region : RegionBytes) (page : Page) : Type 0 where
  pub aligned : page.at % 4096 ≡ 0
  pub whole : length page.bytes ≡ 4096
  pub first : region.at ≤ page.at
  pub last : page.at + 4096 ≤ region.at + length region.bytes

-- the bytes of a region with pages of it laid over it, one after another
abbrev pub region_with : RegionBytes → List Page → List ℕ
region_with region pages = with_updates (map (λ page. record { at = page.at - region.at; bytes = page.bytes }) pages) region.bytes

-- Whatever the file's metadata are read as, these bytes are read as that, changed so.
abbrev pub IsReadThen : ℕ → Placed → List ℕ → (Metadata → Metadata) → Type 0
IsReadThen table_len file region changed = (m : Metadata) → read_metadata file.metadata.bytes table_len ≡ Ok m → read_metadata region table_len ≡ Ok (changed m)

-- Pages turn a file's metadata into these bytes, and so its ties into these: with them the region is read as before, but for its
-- locator and its retired name. `table_len` is how long the region of the file's table of blocks is.
pub record TurnsInto (table_len : ℕ) (pages : List Page) (file : Placed) (ties : Ties) (region : List ℕ) : Type 0 where
  pub inside : All (IsInRegion file.metadata) pages
  pub region_is : region ≡ region_with file.metadata pages
  pub reads : IsReadThen table_len file region (λ m. record m { locator = ties.locator; retired = ties.retired })
  pub ties_are : ties ≡ record (file.member.ties) { locator = ties.locator; retired = ties.retired }

-- how long that is in a layer's file
abbrev pub own_len : Layer → ℕ
own_len l = l.tables.parts.bat_len

-- the file with these ties and these metadata, and no loose sector
abbrev pub turned : Ties → List ℕ → Placed → Placed
turned ties region file = record file { member = record (file.member) { ties = ties }; is_loose = λ s. false; metadata = record (file.metadata) { bytes = region } }

-- the pages turn the metadata of what the layer serves
pub record Turns (l : Layer) (pages : List Page) (trace : Trace) : Type 0 where
  pub file : Placed
  pub ties : Ties
  pub region : List ℕ
  pub serves : Serves l trace file
  pub into : TurnsInto (own_len l) pages file ties region

-- At each moment from old to new each image of the file shows it as before, or with what the pages turn its metadata into.
pub record UpdatesOver (l : Layer) (pages : List Page) (old new : Trace) : Type 0 where
  pub over : (file : Placed) (ties : Ties) (region : List ℕ) → Serves l old file → TurnsInto (own_len l) pages file ties region
      → GoesOver file (turned ties region file) old new

-- And then the layer serves it so.
pub record HasUpdated (old_l new_l : Layer) (pages : List Page) (old new : Trace) : Type 0 where
  pub serves : (file : Placed) (ties : Ties) (region : List ℕ) → Serves old_l old file → TurnsInto (own_len old_l) pages file ties region
      → Serves new_l new (turned ties region file)

-- ---- where such pages come from

-- A file's metadata are read, and say what ties it.
pub record SaysTies (table_len : ℕ) (file : Placed) : Type 0 where
  pub m : Metadata
  pub is : read_metadata file.metadata.bytes table_len ≡ Ok m
  pub locator : m.locator ≡ file.member.ties.locator
  pub retired : m.retired ≡ file.member.ties.retired

-- A file has these bytes as its metadata's region, and the pages lie in it.
pub record HasRegion (file : Placed) (pages : List Page) (bytes : List ℕ) : Type 0 where
  pub inside : All (IsInRegion file.metadata) pages
  pub within : file.metadata.at + length file.metadata.bytes ≤ length bytes
  pub same : bytes_at bytes file.metadata.at (length file.metadata.bytes) ≡ file.metadata.bytes

-- its region with the pages laid over the file
abbrev pub laid_region : Placed → List Page → List ℕ → List ℕ
laid_region file pages bytes = bytes_at (with_updates (map page_update pages) bytes) file.metadata.at (length file.metadata.bytes)

-- What is known of the metadata of a file that a layer serves.
pub record PagesTurn : Type 0 where
  -- they are read
  pub says : (l : Layer) (trace : Trace) (file : Placed) → Serves l trace file → SaysTies (own_len l) file
  -- where nothing waits for a commit a read gives them
  pub stands : (l : Layer) (trace : Trace) (file : Placed) (pages : List Page) → Serves l trace file → l.tables.pending ≡ []
      → All (IsInRegion file.metadata) pages → HasRegion file pages (seen (file_of trace file.number))
  -- Pages that were built of any file with this region, and give it another locator, turn them,
  pub locator : (l : Layer) (trace : Trace) (file : Placed) (pages : List Page) (bytes value : List ℕ) → Serves l trace file → HasRegion file pages bytes
      → IsReadThen (own_len l) file (laid_region file pages bytes) (λ m. record m { locator = Some value })
      → TurnsInto (own_len l) pages file (record (file.member.ties) { locator = Some value }) (laid_region file pages bytes)
  -- and so do those that give it another retired name, or none.
  pub retired : (l : Layer) (trace : Trace) (file : Placed) (pages : List Page) (bytes : List ℕ) (to : Option (List ℕ)) → Serves l trace file → HasRegion file pages bytes
      → IsReadThen (own_len l) file (laid_region file pages bytes) (λ m. record m { retired = to })
      → TurnsInto (own_len l) pages file (record (file.member.ties) { retired = to }) (laid_region file pages bytes)
