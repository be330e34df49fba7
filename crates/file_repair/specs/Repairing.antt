-- Repairing a file, from its opening on.
use Rattle.std.specs.Prelude.{◌≡◌, ◌^◌, ◌-◌, ◌≤◌, ℕ, Bool, true, false, List, [], ◌∷◌, Option, Result, Ok, Err}
use Rattle.store_model.specs.Disk.{Disk, WhereTold, WhereBothTold}
use Rattle.store_model.specs.File.{is_synced, seen}
use Rattle.store_model.specs.Trace.{Trace, file_of}
use Rattle.torn_match.specs.TornMatches.{ChangesUntorn}
use Rattle.vx_base.specs.declared.parts.Parts.{Parts}
use Rattle.vhdx_format.specs.OpenedFiles.{OpensFile}
use Rattle.vhdx_format.specs.Rules.{BrokenRule}
use Rattle.vhdx_format.specs.SettledFiles.{StandsFor}
use Rattle.shown_ids.specs.Shown.{shown}
use Rattle.make_file.specs.Identifiers.{Draws, is_unfit}
use Rattle.file_open.specs.Causes.{AnswersOpening, meaning_of}
use Rattle.file_open.specs.Effects.{CallFailed, HasOpened, IsLongEnough, LeavesOpened, OpensAlike, RanOut, StaysSynced}
use Rattle.file_repair.specs.Repaired.{IsRepaired, KeepsLayer}
use Rattle.file_repair.specs.declared.refusal.RepairRefusal.{RepairRefusal}
use Rattle.file_repair.specs.declared.refusal.RepairRefusal.TheVariants.{Open, IdUnfit, Store, NoRoom}

-- ---- the answer

-- One identifier was drawn.
abbrev pub DrawsOne : Option (List (List ℕ)) → Option (List (List ℕ)) → Type 0
DrawsOne before now = (id : List ℕ) × Draws (id ∷ []) before now

-- The file is opened, and the identifier can't be a new one of it.
pub record IsUnfitFor (file id : List ℕ) : Type 0 where
  pub parts : Parts
  pub bytes : List ℕ
  pub opens : OpensFile file (Ok parts)
  pub stands : StandsFor file bytes
  pub unfit : is_unfit (shown parts bytes) id ≡ true

-- The file is opened, and the identifier can be a new one of it. If it was synced, it is repaired with that one then.
pub record HasRepaired (file : ℕ) (id : List ℕ) (old new : Trace) : Type 0 where
  pub parts : Parts
  pub bytes : List ℕ
  pub opens : OpensFile (seen (file_of old file)) (Ok parts)
  pub stands : StandsFor (seen (file_of old file)) bytes
  pub fit : is_unfit (shown parts bytes) id ≡ false
  pub repaired : is_synced (file_of old file) ≡ true → parts.header.number ≤ 2 ^ 64 - 2 ^ 32 → IsRepaired parts bytes id (file_of new file)

-- What is drawn, what is answered by its cause, and the file that is repaired: the first rule that the file breaks refuses it, and then
-- no identifier is drawn; of a file that is opened one is drawn, and told if it is unfit. A fault and want of memory say nothing of the file.
abbrev pub AnswersRepair : ℕ → Option (List (List ℕ)) → Option (List (List ℕ)) → Option Trace → Option Trace → Result (Unit {0}) RepairRefusal → Type 0
AnswersRepair file before now old new (Ok done) = (id : List ℕ) × Draws (id ∷ []) before now × WhereBothTold (HasRepaired file id) old new
AnswersRepair file before now old new (Err (Open refusal)) = (now ≡ before) × WhereTold old (λ t. AnswersOpening (seen (file_of t file)) (Err refusal))
AnswersRepair file before now old new (Err (IdUnfit id)) = Draws (id ∷ []) before now × WhereTold old (λ t. IsUnfitFor (seen (file_of t file)) id)
AnswersRepair file before now old new (Err (Store fault)) = DrawsOne before now
AnswersRepair file before now old new (Err NoRoom) = DrawsOne before now

-- no count has changed, and what was synced is synced still
pub record HasEnded (file : ℕ) (old new : Disk) : Type 0 where
  pub counts : new ≡ record old { told = new.told }
  pub told : WhereBothTold (StaysSynced file) old.told new.told

-- what is left of the store: by opening, where that refuses; else but for a call that failed only content has changed
abbrev pub LeavesRepaired : ℕ → Disk → Disk → Result (Unit {0}) RepairRefusal → Type 0
LeavesRepaired file old new (Ok done) = HasEnded file old new
LeavesRepaired file old new (Err (Open refusal)) = LeavesOpened file old new (meaning_of refusal)
LeavesRepaired file old new (Err (IdUnfit id)) = HasOpened file old new
LeavesRepaired file old new (Err (Store fault)) = CallFailed file old new fault
LeavesRepaired file old new (Err NoRoom) = RanOut file old new

-- ---- the file

-- Of a file that is opened, whose header's number isn't near its end, the image has the numbers and the layer. Of one that breaks a rule
-- it is opened as the file was.
pub record RepairsAlike (file image : List ℕ) : Type 0 where
  pub keeps : (parts : Parts) (bytes : List ℕ) → OpensFile file (Ok parts) → StandsFor file bytes → parts.header.number ≤ 2 ^ 64 - 2 ^ 32 → KeepsLayer parts bytes image
  pub refused : (rule : BrokenRule) → OpensFile file (Err rule) → OpensAlike file image

-- At each moment since, if the file was synced and long enough, so it is of each of its images without a torn match, and no other
-- file is changed.
abbrev pub RepairsMoments : ℕ → Option Trace → Option Trace → Type 0
RepairsMoments file old new =
    WhereTold old (λ before. is_synced (file_of before file) ≡ true → IsLongEnough (seen (file_of before file))
    → WhereBothTold (ChangesUntorn file (RepairsAlike (seen (file_of before file)))) old new)
