-- The end of a session, file by file: those below the leaf from the base upward, and then the leaf.
use Rattle.std.specs.Prelude.{◌≡◌, ◌⊎◌, ◌^◌, ◌-◌, ◌<◌, ℕ, Bool, true, false, List, [], ◌∷◌, ◌++◌, Option, Some, None, Result, Ok, Err}
use Rattle.std.specs.List.{AllByRecursion}
use Rattle.store_model.specs.Disk.{Disk, WhereBothTold}
use Rattle.store_model.specs.File.{is_synced, seen}
use Rattle.store_model.specs.Plans.{FailsToChange}
use Rattle.store_model.specs.Trace.{Trace, file_of}
use Rattle.store_model.specs.declared.fault.StoreFault.{StoreFault}
use Rattle.chain_model.specs.Images.{Placed}
use Rattle.chain_model.specs.Moments.{EachOpensToPrefix}
use Rattle.chain_model.specs.PhaseLaws.{IsNamedOnce}
use Rattle.chain_model.specs.Sessions.{IsKept, IsServed}
use Rattle.layer_session.specs.Calls.{own_file, settled}
use Rattle.layer_session.specs.FileLayers.{FileIsReady, HasSession, HaveFiles, IsNumbered, number_of}
use Rattle.layer_session.specs.Unnamed.{NamesNoLog}
use Rattle.layer_session.specs.declared.file.Layer.{Layer}
use Rattle.layer_session.specs.declared.file_layer.FileLayer.{FileLayer}
use Rattle.chain_core.specs.Answering.{EachOpensNow, HasEnded}
use Rattle.chain_core.specs.States.{AreWritten, IsLoose, LeavesOthers, State, dirty_now, files_of, others_of, sector_of}
use Rattle.chain_core.specs.declared.layers.Layers.{Layers}

-- ---- for every store

-- each of some files can be read, and written where it is in a session
abbrev pub AreAllReady : Disk → List FileLayer → Type 0
AreAllReady disk layers = AllByRecursion (λ l. FileIsReady l disk) layers

-- and the numbers of the last entries of their logs leave room for more
abbrev pub AreNumbered : List FileLayer → Type 0
AreNumbered layers = AllByRecursion (IsNumbered (2 ^ 64 - 2 ^ 32)) layers

-- one of these files, which is in a session, has this number in the store
abbrev pub IsInSession : List FileLayer → ℕ → Type 0
IsInSession [] number = ⊥
IsInSession (l ∷ layers) number = (HasSession l × (number_of l ≡ number)) ⊎ IsInSession layers number

abbrev pub IsLeaf : Option Layer → ℕ → Type 0
IsLeaf None number = ⊥
IsLeaf (Some leaf) number = own_file leaf ≡ number

-- the leaf, in its session, or one of the other files has this number
abbrev pub IsOfSession : Layers → ℕ → Type 0
IsOfSession layers number = IsLeaf layers.leaf number ⊎ IsInSession layers.below.items number

-- A change failed of a file of the store with such a number.
pub record SomeChangeFailed (is_such : ℕ → Type 0) (old new : Disk) (fault : StoreFault) : Type 0 where
  pub such : is_such fault.file
  pub within : fault.file < old.files
  pub fails : FailsToChange fault.file old new fault

-- ---- where content is told

-- A file's session has ended: a crash leaves the file with nothing loose, and if it may have been changed nothing of it is unsynced, and it
-- names no log.
pub record HasEndedFile (writes : ℕ → Bool) (trace : Trace) (file : Placed) : Type 0 where
  pub kept : IsKept trace (settled file)
  pub synced : writes file.number ≡ true → is_synced (file_of trace file.number) ≡ true
  pub no_log : writes file.number ≡ true → NamesNoLog (seen (file_of trace file.number))

-- of files that are only read nothing is loose
abbrev pub AreTight : (ℕ → Bool) → List Placed → Type 0
AreTight writes files = AllByRecursion (λ f. writes f.number ≡ false → (s : ℕ) → f.is_loose s ≡ false) files

-- A session comes to its end: of the files below the leaf the last ones are ended, and the first ones, which these layers have, are not yet.
pub record IsEnding (v : State) (layers : List FileLayer) (first last : List Placed) (trace : Trace) : Type 0 where
  pub once : IsNamedOnce trace
  pub served : IsServed (sector_of v) v.opening v.history v.leaf v.retired (files_of v) trace
  pub loose : IsLoose (dirty_now v) v.top v.rest
  pub files : others_of v.rest ≡ first ++ last
  pub have : HaveFiles layers trace first
  pub tight : AreTight v.writes first
  pub written : AreWritten v.writes layers
  pub ended : AllByRecursion (HasEndedFile v.writes trace) last
  pub still : LeavesOthers v trace
  pub past : EachOpensToPrefix (sector_of v) v.opening v.history (λ s. false) v.leaf v.began trace

-- All of them are ended, each moment opening to the history's disk outside the dirty sectors; or an end failed.
abbrev pub EndsOn : State → Trace → Trace → Result (Unit {0}) StoreFault → Type 0
EndsOn v trace now (Ok done) = EachOpensNow v trace now × IsEnding v [] [] (others_of v.rest) now
EndsOn v trace now (Err fault) = HasEnded v trace now

-- so it is for each state whose session comes to its end so
abbrev pub EndsOnTold : List FileLayer → Disk → Disk → Result (Unit {0}) StoreFault → Type 0
EndsOnTold layers before after result =
    WhereBothTold (λ trace now. (v : State) (first last : List Placed) → IsEnding v layers first last trace → EndsOn v trace now result) before.told after.told
