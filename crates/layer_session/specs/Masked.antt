-- Sectors of one block are put that a mask names: all others stay.
use Rattle.std.specs.Prelude.{◌≡◌, ℕ, ◌+◌, ◌-◌, ◌*◌, ◌/◌, ◌%◌, ◌^◌, ◌<◌, ◌≤◌, ◌==◌, ◌&&◌, ◌||◌, Bool, true, false, List, Some, if◌then◌else◌}
use Rattle.vx_base.specs.Fields.{bytes_at}
use Rattle.vx_base.specs.declared.parts.Parts.{Parts}
use Rattle.vhdx_format.specs.Fields.{megabyte}
use Rattle.vhdx_format.specs.Layers.{Shape, bitmap_entry_of, entry_of, place_at, state_at, table_entry}
use Rattle.vhdx_format.specs.SectorBitmaps.{bit_of}
use Rattle.store_model.specs.Disk.{Disk, WhereBothTold}
use Rattle.store_model.specs.Trace.{Trace}
use Rattle.store_model.specs.declared.fault.StoreFault.{StoreFault}
use Rattle.table_pages.specs.Held.{AreChanged, bit_pages, shape_of}
use Rattle.table_pages.specs.declared.tables.Tables.{Tables}
use Rattle.chain_model.specs.Images.{Placed}
use Rattle.chain_model.specs.Layers as chain
use Rattle.chain_model.specs.Moments.{IsPhase}
use Rattle.chain_model.specs.PhaseLaws.{loosened}
use Rattle.chain_model.specs.Sessions.{ShowsFile}
use Rattle.layer_session.specs.Calls.{Fails, is_among, own_bytes, own_file, placed_with}
use Rattle.layer_session.specs.Keeping.{IsHeld, IsReadable, IsReady, IsRunAt, Serves}
use Rattle.layer_session.specs.Steps.{held_by}
use Rattle.layer_session.specs.declared.file.Layer.{Layer}
use Rattle.layer_session.specs.declared.file.LayerFault.{LayerFault}
use Rattle.layer_session.specs.declared.file.LayerFault.TheVariants.{Write}
use Rattle.layer_session.specs.declared.masked.Spot.{Spot}

-- ---- of the call

-- of `count` sectors from `first` on the mask names this one, by its bits from `at` on
abbrev pub is_masked : ℕ → ℕ → ℕ → List ℕ → ℕ → Bool
is_masked first count at mask s = is_among first count s && (bit_of mask (at + (s - first)) == 1)

-- the layer with these bytes in the sectors that the mask names
abbrev pub with_masked : ℕ → ℕ → ℕ → ℕ → List ℕ → List ℕ → chain.Layer → chain.Layer
with_masked z first count at mask bytes layer s = if is_masked first count at mask s then Some (bytes_at bytes (z * (s - first)) z) else layer s

-- a sector is loose after a call if it was, or if the call named it
abbrev pub loose_or : (ℕ → Bool) → Placed → ℕ → Bool
loose_or named file s = file.is_loose s || named s

-- At each moment from old to new, whatever is answered, each image of the file shows it as before, but with the named sectors
-- loose too. No other file is changed.
pub record PutsNamed (l : Layer) (named : ℕ → Bool) (old new : Trace) : Type 0 where
  pub over : (file : Placed) → Serves l old file → IsPhase file.number (ShowsFile (loosened (loose_or named file) file)) old new

-- After Ok the layer serves the file with those sectors.
pub record HasPutNamed (old_l new_l : Layer) (named : ℕ → Bool) (layer : chain.Layer → chain.Layer) (old new : Trace) : Type 0 where
  pub serves : (file : Placed) → Serves old_l old file → Serves new_l new (placed_with (layer file.member.layer) (loose_or named file) file)

-- After a failed change the layer is read on: outside the named sectors it holds what it held.
pub record HoldsUnnamed (old_l new_l : Layer) (named : ℕ → Bool) (old new : Trace) : Type 0 where
  pub holds : (file : Placed) → Serves old_l old file
      → (parts : Parts) × ((layer : chain.Layer) × IsHeld new_l parts layer (own_bytes new_l new) × ((s : ℕ) → named s ≡ false → layer s ≡ file.member.layer s))

-- ---- of its steps

-- A sector's block is partially in the file, and the sector's place in it is this one; the sector bitmap block with its bit has this
-- entry, and is in the file.
pub record StandsInPart (p : Shape) (file : List ℕ) (first place bitmap : ℕ) : Type 0 where
  pub seven : state_at p file (entry_of p first) ≡ 7
  pub place_is : place ≡ place_at p file (entry_of p first) + first * p.sector % p.block
  pub parent : p.parent ≡ true
  pub there : bitmap % 8 ≡ 6
  pub bitmap_is : bitmap ≡ table_entry p file (bitmap_entry_of p first)

-- so many sectors, or none of them
abbrev pub all_or_none : Bool → ℕ → ℕ
all_or_none is_all count = if is_all then count else 0

-- Sectors of one block, which has a place, stand at this spot; or they are to be marked first.
pub record IsSpot (p : Shape) (file : List ℕ) (first count : ℕ) (spot : Spot) : Type 0 where
  pub whole : spot.marks ≡ false → IsRunAt p file first count spot.place
  pub part : spot.marks ≡ true → StandsInPart p file first spot.place spot.bitmap

-- The pages of their bits are among the changed ones, if they are to be marked.
pub record HasMarkPages (t : Tables) (first count : ℕ) (spot : Spot) : Type 0 where
  pub bits : spot.marks ≡ true → AreChanged (spot.bitmap / 2 ^ 20 * megabyte) (first % 2 ^ 23 / 32768) (bit_pages (first % 2 ^ 23) count) t.pending

-- spots that are to be marked first, or those that aren't, are as they were
pub record KeepsSpots (old new : Layer) (marks : Bool) (before after : Trace) : Type 0 where
  pub spots : (first count : ℕ) (spot : Spot) → spot.marks ≡ marks → 0 < count → first + count ≤ old.tables.parts.sectors
      → IsSpot (shape_of old.tables.parts) (held_by old before) first count spot → IsSpot (shape_of old.tables.parts) (held_by new after) first count spot

-- A block of which the file has no sector has a place: what was served is served still.
pub record HasEmpty (old new : Layer) (first place bitmap : ℕ) (before after : Trace) : Type 0 where
  pub serves : (file : Placed) → Serves old before file → Serves new after file
  pub stands : StandsInPart (shape_of old.tables.parts) (held_by new after) first place bitmap

-- ---- how they end

-- The named sectors were put, and the layer can be written on.
pub record IsDoneNamed (old new : Layer) (named : ℕ → Bool) (change : chain.Layer → chain.Layer) (before after : Disk) : Type 0 where
  pub put : WhereBothTold (HasPutNamed old new named change) before.told after.told
  pub ready : IsReady new after
  pub counts : after ≡ record before { told = after.told }
  pub parts : new.tables.parts ≡ old.tables.parts
  pub number : new.log.number ≡ old.log.number
  pub header : new.log.header ≡ old.log.header

-- A change of the file failed: the layer is read on, and outside the named sectors it holds what it held.
pub record IsBrokenNamed (old new : Layer) (named : ℕ → Bool) (before after : Disk) (fault : LayerFault) : Type 0 where
  pub cause : StoreFault
  pub written : fault ≡ Write cause
  pub fails : Fails (own_file old) before after fault
  pub readable : IsReadable new after
  pub holds : WhereBothTold (HoldsUnnamed old new named) before.told after.told
  pub parts : new.tables.parts ≡ old.tables.parts
  pub number : new.log.number ≡ old.log.number
  pub header : new.log.header ≡ old.log.header
