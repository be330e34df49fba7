-- Repairing a file of a folder, by its name.
use Rattle.std.specs.Prelude.{◌≡◌, ◌^◌, ◌-◌, ◌≤◌, ⊤, ℕ, false, List, [], ◌∷◌, Option, Some, Result, Ok, Err}
use Rattle.store_model.specs.Disk.{WhereTold}
use Rattle.store_model.specs.File.{File, seen}
use Rattle.store_model.specs.Folder.{Held, Hosted, file_named}
use Rattle.store_model.specs.Moments.{Throughout}
use Rattle.torn_match.specs.TornMatches.{EachUntorn}
use Rattle.vx_base.specs.declared.parts.Parts.{Parts}
use Rattle.vhdx_format.specs.OpenedFiles.{OpensFile}
use Rattle.vhdx_format.specs.SettledFiles.{StandsFor}
use Rattle.shown_ids.specs.Shown.{shown}
use Rattle.make_file.specs.Identifiers.{Draws, is_unfit}
use Rattle.file_open.specs.Causes.{IfCause, Meaning, refuses, host_failed, store_failed, no_memory, cause_of, meaning_of}
use Rattle.file_open.specs.Effects.{IsLongEnough}
use Rattle.file_open.specs.Opening.{Refusal}
use Rattle.link_rules.specs.Chains.{OpensIn}
use Rattle.link_rules.specs.Effects.{HasReplayed, HostStopped, StaysIdle, StoreFailed}
use Rattle.link_rules.specs.Folders.{Contents, contents}
use Rattle.file_repair.specs.Repaired.{IsRepaired}
use Rattle.file_repair.specs.Repairing.{DrawsOne, IsUnfitFor, RepairsAlike}
use Rattle.file_repair.specs.declared.refusal.RepairRefusal.{RepairRefusal}
use Rattle.file_repair.specs.declared.refusal.RepairRefusal.TheVariants.{Open, IdUnfit, Store, NoRoom}

-- ---- the folder

-- A file at a later moment: untouched, or the one of this name, which has P.
pub data IsTouched (P : File → File → Type 0) (name : List ℕ) (held : Held) : Held → Type 0 where
  untouched : IsTouched P name held held
  touched : (before after : File) → held.name ≡ name → held.file ≡ Some before → P before after → IsTouched P name held (record held { file = Some after })

-- so it is with each file of a folder
abbrev pub TouchesOne : (File → File → Type 0) → List ℕ → List Held → List Held → Type 0
TouchesOne P name [] [] = ⊤
TouchesOne P name [] (later ∷ now) = ⊥
TouchesOne P name (held ∷ folder) [] = ⊥
TouchesOne P name (held ∷ folder) (later ∷ now) = IsTouched P name held later × TouchesOne P name folder now

-- each of its images without a torn match has the layer of the file, if that was no shorter than what it stood for
abbrev pub KeepsImages : File → File → Type 0
KeepsImages before after = IsLongEnough (seen before) → EachUntorn (RepairsAlike (seen before)) after

abbrev pub OnlyRepairs : List ℕ → Option (List Held) → Option (List Held) → Type 0
OnlyRepairs name before now = WhereTold before (λ folder. (after : List Held) × (now ≡ Some after) × TouchesOne KeepsImages name folder after)

-- so it was at each moment
abbrev pub RepairsSafely : List ℕ → Hosted → Hosted → Type 0
RepairsSafely name before now = WhereTold before.folder (λ folder. Throughout (TouchesOne KeepsImages name folder) before now)

-- ---- the answer

-- The file of this name is opened, and the identifier can be a new one of it. It is repaired with that one, if its header's number
-- isn't near its end.
pub record IsRepairedIn (name id : List ℕ) (folder now : List Held) : Type 0 where
  pub file : List ℕ
  pub parts : Parts
  pub bytes : List ℕ
  pub there : contents folder name ≡ Some file
  pub opens : OpensFile file (Ok parts)
  pub stands : StandsFor file bytes
  pub fit : is_unfit (shown parts bytes) id ≡ false
  pub after : File
  pub is : file_named name now ≡ Some after
  pub repaired : parts.header.number ≤ 2 ^ 64 - 2 ^ 32 → IsRepaired parts bytes id after

-- the file of this name can't have the identifier for a new one
abbrev pub IsUnfitIn : Contents → List ℕ → List ℕ → Type 0
IsUnfitIn files name id = (bytes : List ℕ) × (files name ≡ Some bytes) × IsUnfitFor bytes id

-- what is drawn, and what is answered by its cause
abbrev pub AnswersRepair : List ℕ → Option (List (List ℕ)) → Option (List (List ℕ)) → Option (List Held) → Option (List Held) → Result (Unit {0}) RepairRefusal → Type 0
AnswersRepair name before now old new (Ok done) = (id : List ℕ) × Draws (id ∷ []) before now × WhereTold old (λ folder. WhereTold new (IsRepairedIn name id folder))
AnswersRepair name before now old new (Err (Open refusal)) = (now ≡ before) × WhereTold old (λ folder. IfCause (OpensIn (contents folder) name) (cause_of refusal))
AnswersRepair name before now old new (Err (IdUnfit id)) = Draws (id ∷ []) before now × WhereTold old (λ folder. IsUnfitIn (contents folder) name id)
AnswersRepair name before now old new (Err (Store fault)) = DrawsOne before now
AnswersRepair name before now old new (Err NoRoom) = DrawsOne before now

-- ---- the host

-- nothing of any file is unsynced, and no call failed
pub record EndsQuietly (old new : Hosted) : Type 0 where
  pub idle : StaysIdle old.folder new.folder
  pub quiet : new.faults ≡ old.faults

-- where it isn't opened: one that a rule refuses holds what it stood for
abbrev pub LeavesUnopened : List ℕ → Hosted → Hosted → Meaning Refusal → Type 0
LeavesUnopened name old new (refuses refusal) = HasReplayed (name ∷ []) old new
LeavesUnopened name old new (host_failed fault) = HostStopped old new fault.count
LeavesUnopened name old new (store_failed fault) = StoreFailed old new fault.count
LeavesUnopened name old new no_memory = EndsQuietly old new

abbrev pub LeavesRepair : List ℕ → Hosted → Hosted → Result (Unit {0}) RepairRefusal → Type 0
LeavesRepair name old new (Ok done) = EndsQuietly old new
LeavesRepair name old new (Err (Open refusal)) = LeavesUnopened name old new (meaning_of refusal)
LeavesRepair name old new (Err (IdUnfit id)) = HasReplayed (name ∷ []) old new
LeavesRepair name old new (Err (Store fault)) = StoreFailed old new fault.count
LeavesRepair name old new (Err NoRoom) = EndsQuietly old new
