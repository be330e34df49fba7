-- What a layer keeps between two calls: its file as held, what was last committed, and what a crash may leave since.
use Rattle.std.specs.Prelude.{◌≡◌, ◌⊎◌, ℕ, ◌+◌, ◌*◌, ◌%◌, ◌^◌, ◌<◌, ◌≤◌, Bool, true, false, All, List, length, get_or, None, Ok}
use Rattle.vx_base.specs.Fields.{zeros}
use Rattle.vx_base.specs.declared.parts.Parts.{Parts}
use Rattle.vhdx_format.specs.declared.log_entry.Page.{Page}
use Rattle.vhdx_format.specs.Fields.{megabyte}
use Rattle.vhdx_format.specs.FileParts.{shape_of, taken_areas, read_parts}
use Rattle.vhdx_format.specs.HeldBlocks.{Area, HoldsBlock, IsBitmapEntry, IsSoundTable}
use Rattle.vhdx_format.specs.Layers.{Shape, entry_of, state_at, place_at, layer_sector, sector_bit}
use Rattle.store_model.specs.Disk.{Disk, WhereTold}
use Rattle.store_model.specs.File.{seen}
use Rattle.store_model.specs.Trace.{Trace, file_of}
use Rattle.table_pages.specs.Held.{AreTables, HasTables, held}
use Rattle.table_pages.specs.Held as tables
use Rattle.table_pages.specs.declared.tables.Tables.{Tables}
use Rattle.table_pages.specs.Pages.{is_kept}
use Rattle.log_write.specs.Sessions.{IsKept, IsRunning}
use Rattle.log_write.specs.Writing.{CanCommit, IsOfTables}
use Rattle.block_alloc.specs.declared.freed.Freed.{Freed}
use Rattle.chain_model.specs.Layers as chain
use Rattle.chain_model.specs.Members.{ties_of}
use Rattle.chain_model.specs.Images.{Placed, metadata_of, name_of}
use Rattle.layer_session.specs.declared.file.Layer.{Layer}

-- ---- places of a file

-- A place is one of the tables of a file of these numbers: the copies of its region table, its table of entries, its metadata, or
-- a sector bitmap block that it holds.
pub data IsTablePlace (parts : Parts) (file : List ℕ) (i : ℕ) : Type 0 where
  regions : 196608 ≤ i → i < 327680 → IsTablePlace parts file i
  entries : parts.bat_at ≤ i → i < parts.bat_at + parts.bat_len → IsTablePlace parts file i
  metadata : parts.meta_at ≤ i → i < parts.meta_at + parts.meta_len → IsTablePlace parts file i
  bitmap : (index : ℕ) → IsBitmapEntry (shape_of parts) index → state_at (shape_of parts) file index ≡ 6
      → place_at (shape_of parts) file index ≤ i → i < place_at (shape_of parts) file index + megabyte → IsTablePlace parts file i

-- the places of the tables are among these
pub record Covers (parts : Parts) (file : List ℕ) (tables : ℕ → Bool) : Type 0 where
  pub covers : (i : ℕ) → IsTablePlace parts file i → tables i ≡ true
  -- and none of them belongs to header copies or log
  pub beside : (i : ℕ) → IsTablePlace parts file i → IsKept parts.header i

-- A place holds a byte of a sector: the sector's block is in the file, partially or fully.
pub record StandsAt (p : Shape) (file : List ℕ) (s i : ℕ) : Type 0 where
  pub there : (state_at p file (entry_of p s) ≡ 6) ⊎ (state_at p file (entry_of p s) ≡ 7)
  pub from : place_at p file (entry_of p s) + s * p.sector % p.block ≤ i
  pub to : i < place_at p file (entry_of p s) + s * p.sector % p.block + p.sector

-- Sectors of one block are the file's, and stand together from this place of it on.
pub record IsRunAt (p : Shape) (file : List ℕ) (first count place : ℕ) : Type 0 where
  pub some : 0 < count
  pub run : first * p.sector % p.block + count * p.sector ≤ p.block
  pub there : (state_at p file (entry_of p first) ≡ 6) ⊎ (state_at p file (entry_of p first) ≡ 7)
  pub place_is : place ≡ place_at p file (entry_of p first) + first * p.sector % p.block
  pub marked : (s : ℕ) → first ≤ s → s < first + count → state_at p file (entry_of p first) ≡ 7 → sector_bit p file s ≡ 1

-- Sectors of one partially present block stand, those of them that the file has, from this place of it on.
pub record IsPartAt (p : Shape) (file : List ℕ) (first count place : ℕ) : Type 0 where
  pub run : first * p.sector % p.block + count * p.sector ≤ p.block
  pub seven : state_at p file (entry_of p first) ≡ 7
  pub place_is : place ≡ place_at p file (entry_of p first) + first * p.sector % p.block

-- ---- the file as held

-- the layer of a file of these numbers: off the disk it owns nothing
pub record IsLayerOf (p : Shape) (file : List ℕ) (layer : chain.Layer) : Type 0 where
  pub on_disk : (s : ℕ) → s < p.sectors → layer s ≡ layer_sector p file s
  pub off_disk : (s : ℕ) → p.sectors ≤ s → layer s ≡ None

-- changed pages lie at places of tables
abbrev pub AreOfTables : Parts → List ℕ → List Page → Type 0
AreOfTables parts file pages = All (λ (page : Page). (i : ℕ) → page.at ≤ i → i < page.at + 4096 → IsTablePlace parts file i) pages

-- As held by these tables the file has these numbers, its blocks are sound, and this is its layer.
pub record HoldsLayer (t : Tables) (parts : Parts) (layer : chain.Layer) (file : List ℕ) : Type 0 where
  pub sizes : HasTables t.parts
  pub shape : tables.shape_of t.parts ≡ shape_of parts
  pub region : t.parts.bat_len ≡ parts.bat_len
  pub most : length file ≤ 2 ^ 63
  pub pages : AreTables t.parts file t.pending t.cache
  pub numbers : read_parts parts.header (held t.pending file) ≡ Ok parts
  pub sound : IsSoundTable (shape_of parts) (taken_areas parts) (held t.pending file)
  pub of_tables : AreOfTables parts (held t.pending file) t.pending
  pub has : IsLayerOf (shape_of parts) (held t.pending file) layer

abbrev pub IsHeld : Layer → Parts → chain.Layer → List ℕ → Type 0
IsHeld l = HoldsLayer l.tables

-- ---- what was committed

-- These are the bytes that the file stood for at its last commit. But for the places that were written since, a read still
-- gives them; and those are none of the tables'.
pub record IsCommitted (parts : Parts) (written : ℕ → Bool) (bytes file : List ℕ) : Type 0 where
  pub long : length bytes ≤ length file
  pub numbers : read_parts parts.header bytes ≡ Ok parts
  pub sound : IsSoundTable (shape_of parts) (taken_areas parts) bytes
  pub same : (i : ℕ) → i < length bytes → IsKept parts.header i → (written i ≡ true) ⊎ (get_or file i 0 ≡ get_or bytes i 0)

-- A sector that isn't loose: committed it is as held, and no byte of it was written since.
pub record IsClean (p : Shape) (written : ℕ → Bool) (layer : chain.Layer) (bytes : List ℕ) (s : ℕ) : Type 0 where
  pub same : layer_sector p bytes s ≡ layer s
  pub unwritten : (i : ℕ) → StandsAt p bytes s i → written i ≡ false

-- the bytes of a place in units
abbrev pub area_of : Freed → Area
area_of f = record { at = f.at * megabyte; len = f.units * megabyte }

-- a range of the file, of which nothing is the log's, a region's, or before them
pub record IsPlaced (parts : Parts) (len : ℕ) (range : Area) : Type 0 where
  pub low : megabyte ≤ range.at
  pub within : range.at + range.len ≤ len
  pub off_log : (range.at + range.len ≤ parts.header.log_at) ⊎ (parts.header.log_at + parts.header.log_len ≤ range.at)
  pub off_table : (range.at + range.len ≤ parts.bat_at) ⊎ (parts.bat_at + parts.bat_len ≤ range.at)
  pub off_metadata : (range.at + range.len ≤ parts.meta_at) ⊎ (parts.meta_at + parts.meta_len ≤ range.at)

-- a range of the file is no block's
pub record IsNobodys (parts : Parts) (file : List ℕ) (range : Area) : Type 0 where
  pub apart : (index : ℕ) (block : Area) → HoldsBlock (shape_of parts) file index block → (range.at + range.len ≤ block.at) ⊎ (block.at + block.len ≤ range.at)

-- A block as held is the committed one of its entry, at its place, or it has no byte with any committed block.
abbrev pub AreBeside : Parts → List ℕ → List ℕ → Type 0
AreBeside parts bytes now =
    (i j : ℕ) (a b : Area) → HoldsBlock (shape_of parts) now i a → HoldsBlock (shape_of parts) bytes j b
    → ((i ≡ j) × (a ≡ b)) ⊎ ((a.at + a.len ≤ b.at) ⊎ (b.at + b.len ≤ a.at))

-- The space of the file: its next block goes behind the file's end, and a place that was freed is no block's: no longer as
-- held, and once that is committed no longer as committed.
pub record HasSpace (l : Layer) (parts : Parts) (bytes file : List ℕ) : Type 0 where
  pub next : length file ≤ l.space.next * megabyte
  pub tight : l.space.next * megabyte < length file + megabyte
  pub placed : All (λ (f : Freed). IsPlaced parts (length file) (area_of f)) l.space.freed
  pub freed : All (λ (f : Freed). IsNobodys parts (held l.tables.pending file) (area_of f)) l.space.freed
  pub committed : All (λ (f : Freed). f.committed ≡ true → IsNobodys parts bytes (area_of f)) l.space.freed

-- ---- a layer in a session

-- A layer, and what the store tells, serve a file as the chain sees it: as held the file has this layer; what a crash leaves of
-- it has the layer outside the loose sectors.
pub record Serves (l : Layer) (trace : Trace) (file : Placed) : Type 0 where
  pub within : file.number < length trace.attached
  pub number : file.number ≡ l.tables.parts.file
  pub name : name_of trace.attached file.number ≡ file.member.name
  pub parts : Parts
  pub header : parts.header ≡ l.log.header
  pub ties : file.member.ties ≡ ties_of parts
  pub metadata : file.metadata ≡ metadata_of parts (held l.tables.pending (seen (file_of trace file.number)))
  pub as_held : IsHeld l parts file.member.layer (seen (file_of trace file.number))
  -- what was committed, and the places of tables and of payload written since
  pub bytes : List ℕ
  pub tables : ℕ → Bool
  pub written : ℕ → Bool
  pub running : IsRunning l.log tables (length bytes) written (file_of trace file.number)
  pub committed : IsCommitted parts written bytes (seen (file_of trace file.number))
  pub covered : Covers parts bytes tables
  pub clean : (s : ℕ) → s < parts.geometry.sectors → file.is_loose s ≡ false → IsClean (shape_of parts) written file.member.layer bytes s
  -- the blocks as held, and the pages in memory
  pub covered_held : Covers parts (held l.tables.pending (seen (file_of trace file.number))) tables
  pub only : (i : ℕ) → tables i ≡ true → IsTablePlace parts (held l.tables.pending (seen (file_of trace file.number))) i
  pub changed : All (IsOfTables tables) l.tables.pending
  pub kept : (at i : ℕ) → at % 4096 ≡ 0 → is_kept at l.tables.cache ≡ true → at ≤ i → i < at + 4096 → tables i ≡ true
  pub can : All (CanCommit l.log) l.tables.pending
  pub beside : AreBeside parts bytes (held l.tables.pending (seen (file_of trace file.number)))
  pub space : HasSpace l parts bytes (seen (file_of trace file.number))

-- The layer can be read: it knows its file's tables, which for a store that tells its content are those of the file.
pub record IsReadable (l : Layer) (disk : Disk) : Type 0 where
  pub there : l.tables.parts.file < disk.files
  pub sizes : HasTables l.tables.parts
  pub told : WhereTold disk.told (λ trace. (parts : Parts) × ((layer : chain.Layer) × IsHeld l parts layer (seen (file_of trace l.tables.parts.file))))

-- It can be written.
pub record IsReady (l : Layer) (disk : Disk) : Type 0 where
  pub readable : IsReadable l disk
  pub one_file : l.log.file ≡ l.tables.parts.file
  pub next : l.log.len ≤ l.space.next * megabyte
  -- a unit goes into an entry
  pub most : l.space.next ≤ 2 ^ 44
  pub clear : l.zeros.items ≡ zeros megabyte
  pub plans : length l.plans.items ≡ 257
  pub told : WhereTold disk.told (λ trace. (file : Placed) × Serves l trace file)
