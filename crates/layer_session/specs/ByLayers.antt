-- What clauses say of layers: how a call leaves them, and what it put.
use Rattle.std.specs.Prelude.{◌≡◌, ◌⊎◌, ℕ, ◌/◌, Bool, true, List, map, Result, Err}
use Rattle.vx_base.specs.declared.parts.Parts.{Parts}
use Rattle.vhdx_format.specs.Fields.{megabyte}
use Rattle.vhdx_format.specs.HeldBlocks.{Area}
use Rattle.store_model.specs.Disk.{Disk, WhereBothTold, WhereTold}
use Rattle.store_model.specs.Trace.{Trace}
use Rattle.table_pages.specs.Held.{shape_of}
use Rattle.block_alloc.specs.Spaces as spaces
use Rattle.block_alloc.specs.Spaces.{Space}
use Rattle.chain_model.specs.Images.{Placed}
use Rattle.chain_model.specs.Layers as chain
use Rattle.layer_session.specs.Bringing.{SaysAllSame, SaysSameBut}
use Rattle.layer_session.specs.ByTables.{NameFar, NameNear}
use Rattle.layer_session.specs.Calls.{AddsOwned, HasKept, HasPut, HoldsRest, own_bytes, sectors_in, with_bytes, with_zeros}
use Rattle.layer_session.specs.Keeping.{IsHeld, IsReadable, IsReady}
use Rattle.layer_session.specs.Masked.{HasPutNamed, HoldsUnnamed, IsDoneNamed, IsSpot, is_masked, with_masked}
use Rattle.layer_session.specs.Planning.{ArePlanned}
use Rattle.layer_session.specs.Steps.{Wants, held_by}
use Rattle.layer_session.specs.Taking.{HasUnused, HoldsBeside, IsDone, IsPartOf}
use Rattle.layer_session.specs.declared.file.Layer.{Layer}
use Rattle.layer_session.specs.declared.file.LayerFault.{LayerFault}
use Rattle.layer_session.specs.declared.file.LayerFault.TheVariants.{FileFull}
use Rattle.layer_session.specs.declared.masked.Spot.{Spot}

-- ---- how a call leaves a layer

-- A refused call: the layer can be written on, and serves what it served.
abbrev pub ServesOn : Layer → Layer → Disk → Disk → Type 0
ServesOn old new before after = IsReady new after × WhereBothTold (HasKept old new) before.told after.told

-- A failed change: the layer is read on, and outside so many sectors from `first` on it holds what it held;
abbrev pub ReadsOn : Layer → Layer → ℕ → ℕ → Disk → Disk → Type 0
ReadsOn old new first count before after = IsReadable new after × WhereBothTold (HoldsRest old new first count) before.told after.told

-- outside those that the mask names;
abbrev pub ReadsOnUnnamed : Layer → Layer → (ℕ → Bool) → Disk → Disk → Type 0
ReadsOnUnnamed old new named before after = IsReadable new after × WhereBothTold (HoldsUnnamed old new named) before.told after.told

-- and where bytes of an unused range were to be cleared, all that it held.
abbrev pub ReadsOnBeside : Layer → ℕ → ℕ → Disk → Disk → Type 0
ReadsOnBeside l place count before after = IsReadable l after × WhereBothTold (HoldsBeside l place count) before.told after.told

-- P of the unit at the file's end, if the answer is that the file is full
abbrev pub OnFull : {T : Type 0} → Result T LayerFault → (ℕ → Type 0) → Type 0
OnFull result P = (next : ℕ) → result ≡ Err (FileFull next) → P next

-- ---- what it put

-- So many sectors from `first` on have these bytes, and the layer can be written on;
abbrev pub HasWritten : Layer → Layer → ℕ → ℕ → List ℕ → Disk → Disk → Type 0
HasWritten old new first count bytes before after = IsDone old new first count (with_bytes old.tables.parts.sector first count bytes) before after

-- they are zeros;
abbrev pub HasZeroed : Layer → Layer → ℕ → ℕ → Disk → Disk → Type 0
HasZeroed old new first count before after = IsDone old new first count (with_zeros old.tables.parts.sector first count) before after

-- those of them that the mask names have these bytes.
abbrev pub HasWrittenMasked : Layer → Layer → ℕ → ℕ → ℕ → List ℕ → List ℕ → Disk → Disk → Type 0
HasWrittenMasked old new first count at mask bytes before after =
    IsDoneNamed old new (is_masked first count at mask) (with_masked old.tables.parts.sector first count at mask bytes) before after

-- The layer serves the file with these bytes from sector `first` on;
abbrev pub HasPutBytes : Layer → Layer → ℕ → List ℕ → Disk → Disk → Type 0
HasPutBytes old new first bytes before after =
    WhereBothTold (HasPut old new first (sectors_in old bytes) (with_bytes old.tables.parts.sector first (sectors_in old bytes) bytes)) before.told after.told

-- with zeros there;
abbrev pub HasPutZeros : Layer → Layer → ℕ → ℕ → Disk → Disk → Type 0
HasPutZeros old new first count before after = WhereBothTold (HasPut old new first count (with_zeros old.tables.parts.sector first count)) before.told after.told

-- with these bytes in those that the mask names.
abbrev pub HasPutMasked : Layer → Layer → ℕ → ℕ → List ℕ → List ℕ → Disk → Disk → Type 0
HasPutMasked old new first count mask bytes before after =
    WhereBothTold (HasPutNamed old new (is_masked first count 0 mask) (with_masked old.tables.parts.sector first count 0 mask bytes)) before.told after.told

-- ---- what its tables say

-- of each block and chunk what they said
abbrev pub TellsAllSame : Layer → Layer → Trace → Trace → Type 0
TellsAllSame old new before after = SaysAllSame (shape_of old.tables.parts) (held_by old before) (held_by new after)

-- and of each chunk but this one
abbrev pub TellsSameBut : ℕ → Layer → Layer → Trace → Trace → Type 0
TellsSameBut chunk old new before after = SaysSameBut (shape_of old.tables.parts) chunk (held_by old before) (held_by new after)

-- Sectors of one block of a file of the old layer's sizes stand at this spot, as the new one holds it.
abbrev pub StandAtSpot : Layer → Layer → Disk → ℕ → ℕ → Spot → Type 0
StandAtSpot old new disk first count spot = WhereTold disk.told (λ trace. IsSpot (shape_of old.tables.parts) (held_by new trace) first count spot)

-- ---- what it plans

-- The layer has planned, with trims or without, what is to be done with each block of so many sectors from `first` on.
abbrev pub HasPlanned : Layer → Disk → ℕ → ℕ → Type 0
HasPlanned l disk first count = WhereTold disk.told (λ trace. (trims : Bool) × ArePlanned (shape_of l.tables.parts) (held_by l trace) trims l.plans.items 0 first count)

-- What the old layer has planned, the new one wants.
abbrev pub WantsPlanned : Layer → Layer → ℕ → ℕ → Bool → Disk → Disk → Type 0
WantsPlanned old new first count trims before after =
    WhereBothTold (λ earlier later. ArePlanned (shape_of old.tables.parts) (held_by old earlier) trims old.plans.items 0 first count → Wants new 0 first count trims later) before.told after.told

-- The new layer's plans in the chunk of the first of these sectors name its sector bitmap block, as the old one holds it;
abbrev pub PlansNameNear : Layer → Layer → Disk → ℕ → ℕ → Type 0
PlansNameNear old new disk first count = NameNear old.tables disk new.plans.items first count

-- those in the last one's do.
abbrev pub PlansNameFar : Layer → Layer → Disk → ℕ → ℕ → Type 0
PlansNameFar old new disk first count = NameFar old.tables disk new.plans.items first count

-- ---- reading

-- Whatever numbers and layer it holds the file with: the layer adds what it owns.
abbrev pub AddsHeld : Layer → Disk → ℕ → ℕ → ℕ → List ℕ → List ℕ → List ℕ → List ℕ → Type 0
AddsHeld l disk first count at old_mask new_mask old new =
    (parts : Parts) (layer : chain.Layer) → WhereTold disk.told (λ trace. IsHeld l parts layer (own_bytes l trace) → AddsOwned layer l.tables.parts.sector first count at old_mask new_mask old new)

-- ---- space

-- the space is as it was, or its freed places are committed ones
abbrev pub MayCommit : Space → Space → Type 0
MayCommit old new = (new ≡ old) ⊎ (new ≡ record old { freed = map spaces.committed old.freed })

-- what fits in the old space fits in the new one
abbrev pub KeepsRoom : Space → Space → Type 0
KeepsRoom old new = (payloads units bitmaps : ℕ) → spaces.fits_in payloads units bitmaps old ≡ true → spaces.fits_in payloads units bitmaps new ≡ true

-- A place was taken for a block: but for that, and for the length of the log's file, the layer is as it was.
abbrev pub HasTakenBlock : Layer → Layer → Type 0
HasTakenBlock old new = new ≡ record old { log = record (old.log) { len = new.log.len }; space = spaces.taken (old.tables.parts.block / megabyte) old.space }

-- so many bytes from a place on are part of a range that is unused
abbrev pub LieUnused : Layer → Disk → ℕ → ℕ → Type 0
LieUnused l disk place count = WhereTold disk.told (λ trace. (range : Area) × ((file : Placed) × (HasUnused l trace range file × IsPartOf range place count)))
