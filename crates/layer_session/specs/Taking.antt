-- A place is taken for a block, and what a step leaves of the file for the steps behind it.
use Rattle.std.specs.Prelude.{◌≡◌, ◌≢◌, ◌⊎◌, ℕ, ◌+◌, ◌*◌, ◌/◌, ◌%◌, ◌^◌, ◌<◌, ◌≤◌, true, false, All, List, length, get_or, Option, Some, None, if◌then◌else◌}
use Rattle.vx_base.specs.declared.parts.Parts.{Parts}
use Rattle.vhdx_format.specs.Fields.{megabyte}
use Rattle.vhdx_format.specs.HeldBlocks.{Area}
use Rattle.vhdx_format.specs.Layers.{Shape, bitmap_entry_of, entry_of, place_at, sector_bit, state_at, table_entry}
use Rattle.store_model.specs.Disk.{Disk, WhereBothTold}
use Rattle.store_model.specs.File.{seen}
use Rattle.store_model.specs.Trace.{Trace, file_of}
use Rattle.store_model.specs.declared.fault.StoreFault.{StoreFault}
use Rattle.log_format.specs.PendingPages.{has_place}
use Rattle.table_pages.specs.Held.{AreChanged, bit_pages, entry_place, held, shape_of}
use Rattle.table_pages.specs.Pages.{page_place}
use Rattle.table_pages.specs.declared.tables.Tables.{Tables}
use Rattle.block_alloc.specs.declared.freed.Freed.{Freed}
use Rattle.chain_model.specs.Images.{Placed}
use Rattle.chain_model.specs.Layers as chain
use Rattle.chain_model.specs.Moments.{IsPhase}
use Rattle.chain_model.specs.Sessions.{ShowsFile}
use Rattle.layer_session.specs.Calls.{Fails, HasPut, HoldsRest, own_bytes, own_file, with_zeros}
use Rattle.layer_session.specs.Keeping.{IsHeld, IsNobodys, IsPlaced, IsReadable, IsReady, Serves, area_of}
use Rattle.layer_session.specs.Planning.{is_making}
use Rattle.layer_session.specs.Steps.{HasRoomFor, IsMade, first_in_block, held_by}
use Rattle.layer_session.specs.declared.file.Layer.{Layer}
use Rattle.layer_session.specs.declared.file.LayerFault.{LayerFault}
use Rattle.layer_session.specs.declared.file.LayerFault.TheVariants.{Write}
use Rattle.layer_session.specs.declared.planning.Plan.{Plan}
use Rattle.layer_session.specs.declared.planning.Step.{Step}
use Rattle.layer_session.specs.declared.planning.Step.TheVariants.{Drop, Leave}

-- ---- what stays

-- In a file with a parent a sector's bitmap block has the entry that it had; and where that block is there, the sector's bit is as it was.
pub record HasSameBits (p : Shape) (old new : List ℕ) (s : ℕ) : Type 0 where
  pub bitmap : p.parent ≡ true → table_entry p new (bitmap_entry_of p s) ≡ table_entry p old (bitmap_entry_of p s)
  pub bit : p.parent ≡ true → state_at p old (bitmap_entry_of p s) ≡ 6 → sector_bit p new s ≡ sector_bit p old s

-- And its block has the entry that it had.
pub record HasSameEntries (p : Shape) (old new : List ℕ) (s : ℕ) : Type 0 where
  pub entry : table_entry p new (entry_of p s) ≡ table_entry p old (entry_of p s)
  pub bits : HasSameBits p old new s

-- so it is with all sectors of the disk
pub record KeepsEntries (old new : Layer) (before after : Trace) : Type 0 where
  pub all : (s : ℕ) → s < old.tables.parts.sectors → HasSameEntries (shape_of old.tables.parts) (held_by old before) (held_by new after) s

-- so it is with those of other blocks than that of one sector
pub record KeepsOthers (old new : Layer) (first : ℕ) (before after : Trace) : Type 0 where
  pub others : (s : ℕ) → s < old.tables.parts.sectors → entry_of (shape_of old.tables.parts) s ≢ entry_of (shape_of old.tables.parts) first
      → HasSameEntries (shape_of old.tables.parts) (held_by old before) (held_by new after) s

-- What a step that takes so many places leaves for the steps behind it: changed pages are changed ones still, and there is a place for
-- as many blocks as there was, but for those.
pub record LeavesRest (old new : Layer) (takes : ℕ) : Type 0 where
  pub only : new ≡ record old { tables = new.tables; log = new.log; space = new.space }
  pub parts : new.tables.parts ≡ old.tables.parts
  pub log : new.log ≡ record (old.log) { len = new.log.len }
  pub pages : (at : ℕ) → has_place at old.tables.pending ≡ true → has_place at new.tables.pending ≡ true
  pub room : (blocks : ℕ) → HasRoomFor (old.tables.parts.block / megabyte) (takes + blocks) 0 old.space → HasRoomFor (old.tables.parts.block / megabyte) blocks 0 new.space

-- how many places a planned step takes
abbrev pub takes_of : Plan → ℕ
takes_of plan = if is_making plan.step then 1 else 0

-- ---- how a step ends

-- It was done: these sectors were put, and the layer can be written on.
pub record IsDone (old new : Layer) (first count : ℕ) (change : chain.Layer → chain.Layer) (before after : Disk) : Type 0 where
  pub put : WhereBothTold (HasPut old new first count change) before.told after.told
  pub ready : IsReady new after
  pub counts : after ≡ record before { told = after.told }
  pub parts : new.tables.parts ≡ old.tables.parts
  pub number : new.log.number ≡ old.log.number
  pub header : new.log.header ≡ old.log.header

-- A change of the file failed: nothing else stops it. The layer is read on, and outside these sectors it holds what it held.
pub record IsBroken (old new : Layer) (first count : ℕ) (before after : Disk) (fault : LayerFault) : Type 0 where
  pub cause : StoreFault
  pub written : fault ≡ Write cause
  pub fails : Fails (own_file old) before after fault
  pub readable : IsReadable new after
  pub holds : WhereBothTold (HoldsRest old new first count) before.told after.told
  pub parts : new.tables.parts ≡ old.tables.parts
  pub number : new.log.number ≡ old.log.number
  pub header : new.log.header ≡ old.log.header

-- ---- a place for a block

-- A range that a block may have: it lies where one may, it is nobody's, as held and as committed, and none of the freed places that
-- are kept has a byte of it.
pub record IsUnused (l : Layer) (trace : Trace) (file : Placed) (serves : Serves l trace file) (range : Area) : Type 0 where
  pub placed : IsPlaced serves.parts (length (seen (file_of trace file.number))) range
  pub held : IsNobodys serves.parts (held l.tables.pending (seen (file_of trace file.number))) range
  pub committed : IsNobodys serves.parts serves.bytes range
  pub spare : All (λ (f : Freed). ((area_of f).at + (area_of f).len ≤ range.at) ⊎ (range.at + range.len ≤ (area_of f).at)) l.space.freed

-- a file is served, and a range of it is unused
pub record HasUnused (l : Layer) (trace : Trace) (range : Area) (file : Placed) : Type 0 where
  pub serves : Serves l trace file
  pub unused : IsUnused l trace file serves range

-- so many bytes from a place on are part of a range
pub record IsPartOf (range : Area) (place count : ℕ) : Type 0 where
  pub low : range.at ≤ place
  pub high : place + count ≤ range.at + range.len

-- these bytes are zeros, and all others are as they were
pub record IsCleared (place count : ℕ) (old new : List ℕ) : Type 0 where
  pub as_long : length new ≡ length old
  pub clear : (i : ℕ) → place ≤ i → i < place + count → get_or new i 0 ≡ 0
  pub others : (i : ℕ) → (i < place) ⊎ (place + count ≤ i) → get_or new i 0 ≡ get_or old i 0

-- While a part of an unused range is made zeros each image shows the file as before, and no more of it loose.
pub record ClearsOver (l : Layer) (place count : ℕ) (old new : Trace) : Type 0 where
  pub over : (file : Placed) (range : Area) → HasUnused l old range file → IsPartOf range place count → IsPhase file.number (ShowsFile file) old new

-- Then the file is served as before, and the range is unused still.
pub record HasCleared (l : Layer) (place count : ℕ) (old new : Trace) : Type 0 where
  pub unused : (file : Placed) (range : Area) → HasUnused l old range file → IsPartOf range place count → HasUnused l new range file
  pub held : (file : Placed) (range : Area) → HasUnused l old range file → IsPartOf range place count → IsCleared place count (held_by l old) (held_by l new)

-- After a failed change of such a part the layer holds what it held.
pub record HoldsBeside (l : Layer) (place count : ℕ) (old new : Trace) : Type 0 where
  pub holds : (file : Placed) (range : Area) → HasUnused l old range file → IsPartOf range place count → (parts : Parts) × IsHeld l parts file.member.layer (own_bytes l new)

-- A place was taken for a block: what was served is served still, the place is unused, and as held its bytes are zeros.
pub record HasTaken (old new : Layer) (unit : ℕ) (before after : Trace) : Type 0 where
  pub unused : (file : Placed) → Serves old before file → HasUnused new after (record { at = unit * megabyte; len = old.tables.parts.block }) file
  pub clear : (i : ℕ) → unit * megabyte ≤ i → i < unit * megabyte + old.tables.parts.block → get_or (held_by new after) i 0 ≡ 0
  pub same : KeepsEntries old new before after

-- ---- a block gets a place

-- A block may get a place in a state: fully present where it is zeros; partially where the file doesn't have it, its sector bitmap
-- block is there, and none of its sectors is marked.
pub data MayBeMade (p : Shape) (file : List ℕ) (first state : ℕ) : Type 0 where
  whole : state ≡ 6 → state_at p file (entry_of p first) < 4 → (state_at p file (entry_of p first) ≢ 0) ⊎ (p.parent ≡ false) → MayBeMade p file first state
  in_part : state ≡ 7 → p.parent ≡ true → state_at p file (entry_of p first) ≡ 0
      → ((s : ℕ) → s < p.sectors → entry_of p s ≡ entry_of p first → (state_at p file (bitmap_entry_of p s) ≡ 6) × (sector_bit p file s ≢ 1)) → MayBeMade p file first state

-- It has one, and the sector's bytes stand there. No sector has changed, and no bit.
pub record HasMade (old new : Layer) (first state place : ℕ) (before after : Trace) : Type 0 where
  pub serves : (file : Placed) → Serves old before file → Serves new after file
  pub state_is : state_at (shape_of old.tables.parts) (held_by new after) (entry_of (shape_of old.tables.parts) first) ≡ state
  pub place_is : place ≡ place_at (shape_of old.tables.parts) (held_by new after) (entry_of (shape_of old.tables.parts) first) + first * old.tables.parts.sector % old.tables.parts.block
  pub bits : (s : ℕ) → s < old.tables.parts.sectors → HasSameBits (shape_of old.tables.parts) (held_by old before) (held_by new after) s
  pub others : KeepsOthers old new first before after

-- the pages that a block made in part changes are changed ones: that of its entry, and those of all its bits
pub record HasPagesOfPart (t : Tables) (first count word : ℕ) : Type 0 where
  pub entry : has_place (page_place (entry_place t.parts (entry_of (shape_of t.parts) first))) t.pending ≡ true
  pub bits : AreChanged (word / 2 ^ 20 * megabyte) (first_in_block (shape_of t.parts) first % 2 ^ 23 / 32768) (bit_pages (first_in_block (shape_of t.parts) first % 2 ^ 23) (t.parts.block / t.parts.sector)) t.pending

-- The file doesn't have a sector's block, and its parent may; by this word its sector bitmap block is there.
pub record IsAbsent (p : Shape) (file : List ℕ) (first word : ℕ) : Type 0 where
  pub parent : p.parent ≡ true
  pub absent : state_at p file (entry_of p first) ≡ 0
  pub there : word % 8 ≡ 6
  pub word_is : word ≡ table_entry p file (bitmap_entry_of p first)

-- What is planned for a block is done, but for writing its sectors: they are to be written at a place, or they are zeros without one.
abbrev pub IsReadied : Layer → Layer → ℕ → ℕ → Option ℕ → Trace → Trace → Type 0
IsReadied old new first count None before after = HasPut old new first count (with_zeros old.tables.parts.sector first count) before after
IsReadied old new first count (Some place) before after = IsMade old new first count place before after

-- a step after which a block has no place
abbrev pub IsTrimming : Step → Type 0
IsTrimming step = (step ≡ Drop) ⊎ (step ≡ Leave)
