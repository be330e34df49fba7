-- Sealing the files that a session only reads.
use Rattle.std.specs.Prelude.{◌≡◌, ◌≢◌, ◌<◌, ℕ, Bool, true, false, not, is_some, All, List, [], ◌∷◌, ◌++◌, length, map, Option, None, Some}
use Rattle.std.specs.List.{AllByRecursion}
use Rattle.store_model.specs.Disk.{Disk, ReadFailed, Sealed, WhereTold, changed, reader_of}
use Rattle.store_model.specs.File.{File, Seal, is_synced, seen, with_op}
use Rattle.store_model.specs.Trace.{Trace, file_of}
use Rattle.store_model.specs.declared.fault.SealFault.{SealFault}
use Rattle.store_model.specs.declared.fault.SealFault.TheVariants.{NoRoom, Store}
use Rattle.layer_session.specs.FileLayers.{table_parts}
use Rattle.layer_session.specs.declared.file_layer.FileLayer.{FileLayer}
use Rattle.layer_session.specs.declared.file_layer.FileLayer.TheVariants.{Read, Session}
use Rattle.read_plan.specs.Reading.{is_among}
use Rattle.sealed_layer.specs.Planned.{files_in}
use Rattle.sealed_layer.specs.Sealed.{CanReadSealed, HoldsSealed}
use Rattle.chain_model.specs.Images.{Placed}
use Rattle.chain_model.specs.Layers.{Layer as SectorLayer}
use Rattle.chain_model.specs.Merges.{Piece}
use Rattle.chain_model.specs.Stripes.{stripe_count}
use Rattle.merge_core.specs.Pieces.{IsTaken}
use Rattle.chain_core.specs.Copying.{Takes, source_number}
use Rattle.chain_core.specs.Finished.{IsSucceeded, succeeded_by}
use Rattle.chain_core.specs.Laws.{AllLeftBehind}
use Rattle.chain_core.specs.Planned.{AreReadersOf}
use Rattle.chain_core.specs.Sessions.{is_session_at}
use Rattle.chain_core.specs.States.{AreWritten, IsServing, State}
use Rattle.chain_core.specs.declared.layers.Layers.{Layers}
use Rattle.chain_core.specs.declared.layers.Underway.{Underway}
use Rattle.chain_core.specs.declared.sealing.SealedSource.{SealedSource}

-- ---- which files

-- the numbers of those files that are only read, in order
abbrev pub read_numbers : List FileLayer → List ℕ
read_numbers [] = []
read_numbers (Session l ∷ layers) = read_numbers layers
read_numbers (Read l ∷ layers) = l.tables.parts.file ∷ read_numbers layers

-- nothing of these files is unsynced
abbrev pub AreSynced : List ℕ → Trace → Type 0
AreSynced numbers trace = AllByRecursion (λ n. is_synced (file_of trace n) ≡ true) numbers

-- A file can be sealed: it is in the store, and nothing of it is unsynced.
pub record CanSeal (disk : Disk) (n : ℕ) : Type 0 where
  pub there : n < disk.files
  pub within : WhereTold disk.told (λ trace. n < length trace.attached)
  pub synced : WhereTold disk.told (λ trace. is_synced (file_of trace n) ≡ true)

-- ---- what is done

-- the store once these files were sealed, one after the other
abbrev pub sealed_in : List ℕ → Disk → Disk
sealed_in [] disk = disk
sealed_in (n ∷ numbers) disk = sealed_in numbers (changed n Seal disk)

-- one reader of each of these files as they are now
abbrev pub readers_of : List ℕ → Disk → List Sealed
readers_of numbers disk = map (λ n. reader_of n disk) numbers

-- Why no more was sealed while these files were left: memory ran out, or a read of the first of them failed.
abbrev pub StopsAt : List ℕ → Disk → Disk → SealFault → Type 0
StopsAt left old new NoRoom = new ≡ old
StopsAt [] old new (Store fault) = ⊥
StopsAt (n ∷ left) old new (Store fault) = ReadFailed n old new fault

-- Of these files the first ones were sealed, or none was, and then it stopped.
pub record StopsSealing (numbers : List ℕ) (old new : Disk) (fault : SealFault) : Type 0 where
  pub sealed : List ℕ
  pub left : List ℕ
  pub each : numbers ≡ sealed ++ left
  pub stops : StopsAt left (sealed_in sealed old) new fault

-- ---- what stays

-- A file is as it was, but that it may have been sealed since.
pub data IsKept (old : File) : File → Type 0 where
  as_it_was : IsKept old old
  sealed : (file : File) → IsKept old file → IsKept old (with_op Seal file)

-- The session goes on: each state that it served it serves, and what it doesn't change stays from now on; what it left behind is left
-- behind, and readers that it had are its readers. Each file has the bytes that it had, and is synced where it was; and none is changed but
-- those that are only read.
pub record GoesOnSealed (layers : Layers) (old new : Trace) : Type 0 where
  pub serves : (v : State) → IsServing layers v old → IsServing layers (record v { since = new }) new
  pub left : (v : State) → IsServing layers v old → AllLeftBehind v → AllLeftBehind (record v { since = new })
  pub readers : (v : State) (set : List Sealed) → IsServing layers v old → AreReadersOf v set → AreReadersOf (record v { since = new }) set
  pub bytes : (n : ℕ) → seen (file_of new n) ≡ seen (file_of old n)
  pub synced : (n : ℕ) → is_synced (file_of new n) ≡ is_synced (file_of old n)
  pub kept : (n : ℕ) → IsKept (file_of old n) (file_of new n)
  pub others : (n : ℕ) → AllByRecursion (λ read. read ≢ n) (read_numbers layers.below.items) → file_of new n ≡ file_of old n

-- Of each state that it served, and by which it changes just the files in sessions, each set has readers of that state as it is now.
pub record ReadForSession (layers : Layers) (sets : List (List Sealed)) (old new : Trace) : Type 0 where
  pub readers : (v : State) → IsServing layers v old → AreWritten v.writes layers.below.items → All (AreReadersOf (record v { since = new })) sets

-- ---- what can be sealed

-- A session whose leaf is in one changes just the files that are in sessions,
abbrev pub SessionsWriteTheirs : Type 0
SessionsWriteTheirs = (layers : Layers) (v : State) (trace : Trace) → IsServing layers v trace → is_some layers.leaf ≡ true → AreWritten v.writes layers.below.items

-- and nothing of the others is unsynced.
abbrev pub ReadFilesAreSynced : Type 0
ReadFilesAreSynced = (layers : Layers) (v : State) (trace : Trace) → IsServing layers v trace → AreWritten v.writes layers.below.items → AreSynced (read_numbers layers.below.items) trace

-- ---- the source of a merge

-- a merge is under way whose source isn't the leaf, and is only read
abbrev pub reads_in : List FileLayer → Option Underway → Bool
reads_in below None = false
reads_in below (Some u) = not (is_session_at below u.source)

abbrev pub reads_source : Layers → Bool
reads_source layers = reads_in layers.below.items layers.merge

-- What readers read the source of a merge by, which isn't the leaf: its file, and a layer of the chain's disk. A reader that tells what the file has
-- can be read by it; and what is taken of what it finds there is a true piece, in each state that the session serves.
pub record IsSealedSource (layers : Layers) (disk : Disk) (s : SealedSource) : Type 0 where
  pub file : s.file ≡ source_number layers
  pub geometry : s.geometry ≡ layers.geometry
  pub stripes : s.stripes ≡ stripe_count layers.geometry.sector layers.geometry.sectors
  pub alone : layers.retiring ≡ None
  pub sector : (table_parts s.layer).sector ≡ layers.geometry.sector
  pub sectors : (table_parts s.layer).sectors ≡ layers.geometry.sectors
  pub can : (reader : Sealed) → reader.content ≡ (reader_of s.file disk).content → CanReadSealed s.layer reader
  pub finds : (piece : Piece) → piece.stamp ≡ 0 → WhereTold disk.told (λ trace. (layer : SectorLayer) → HoldsSealed s.layer (files_in trace s.file) layer → IsTaken layers.geometry.sector layer piece) → Takes layers disk piece

-- ---- readers

-- In a session whose leaf is in one: readers of files that are only read, each of which tells what its file has, are readers of its state.
abbrev pub ReadersOfSession : Type 0
ReadersOfSession =
    (layers : Layers) (v : State) (trace : Trace) (readers : List Sealed) → IsServing layers v trace → is_some layers.leaf ≡ true
    → All (λ s. (is_among (read_numbers layers.below.items) s.file ≡ true) × (s.content ≡ Some (files_in trace s.file))) readers → AreReadersOf v readers

-- Readers of a state are those of the state behind the merge of its leaf.
abbrev pub ReadersSucceed : Type 0
ReadersSucceed =
    (id : List ℕ) (v : State) (target : Placed) (below : List Placed) (layers : Layers) (now : Trace) (readers : List Sealed)
    → AreReadersOf v readers → (done : IsSucceeded id v target below layers now) → AreReadersOf (succeeded_by v done.top done.others done.leaf now) readers
