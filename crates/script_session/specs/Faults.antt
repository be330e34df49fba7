-- What a script's lines say of the store's counts of faults.
use Rattle.std.specs.Prelude.{◌≡◌, ◌⊎◌, ◌<◌, ◌≤◌, ⊤, ℕ, List, Option, None, Some, IfErr, IfSome}
use Rattle.std.specs.List.{AllByRecursion}
use Rattle.store_model.specs.Disk.{Disk}
use Rattle.store_model.specs.declared.fault.StoreFault.{StoreFault}
use Rattle.guest_model.specs.declared.refusal.ChainRefusal.{ChainRefusal}
use Rattle.guest_model.specs.declared.refusal.ChainRefusal.TheVariants.{Broken, ReadFault}
use Rattle.merge_core.specs.declared.piece.Piece.{Piece}
use Rattle.chain_core.specs.Sessions.{Session}
use Rattle.script.specs.declared.form.Line.{Line}
use Rattle.script_session.specs.Answers.{AnswersLines}
use Rattle.script_session.specs.Told.{Told, last_fault}

-- The store counts this fault: one of its files has had so many reads fail, or so many changes.
pub record Counts (disk : Disk) (fault : StoreFault) : Type 0 where
  pub within : fault.file < disk.files
  pub some : 0 < fault.count
  pub counted : (fault.count ≡ disk.failed_reads fault.file) ⊎ (fault.count ≡ disk.failed_changes fault.file)

-- a change of one of so many files failed, as often in all as is counted of it
abbrev pub IsFailedChange : ℕ → (ℕ → ℕ) → StoreFault → Type 0
IsFailedChange files changes fault = (fault.file < files) × (0 < fault.count) × (fault.count ≡ changes fault.file)

-- What a line is told of a fault, where this one broke the session, if one did: a read of a file failed, of which at least so many have; or
-- that one.
abbrev pub IsFaultOf : ℕ → (ℕ → ℕ) → Option StoreFault → ChainRefusal → Type 0
IsFaultOf files reads broke (ReadFault file count) = (file < files) × (0 < count) × (count ≤ reads file)
IsFaultOf files reads broke (Broken file count) = broke ≡ Some (record { file = file; count = count })
IsFaultOf files reads broke other = ⊤

-- The store counts the last fault that refused a line, which is the one that broke the session if one did, and else that of a read;
-- where none refused one the counts stay.
pub record CountsFaults (told : List Told) (old new : Session) : Type 0 where
  pub files : new.disk.files ≡ old.disk.files
  pub last : IfSome (last_fault told) (Counts new.disk)
  pub broken : IfSome new.broken (λ fault. last_fault told ≡ Some fault)
  pub unbroken : new.broken ≡ None → IfSome (last_fault told) (λ fault. fault.count ≡ new.disk.failed_reads fault.file)
  pub quiet : last_fault told ≡ None → new.disk ≡ record (old.disk) { told = new.disk.told }
  pub each : AllByRecursion (λ t. IfErr t (IsFaultOf new.disk.files new.disk.failed_reads new.broken)) told
  pub change : IfSome new.broken (IsFailedChange new.disk.files new.disk.failed_changes)
  pub none : new.broken ≡ None → new.disk.failed_changes ≡ old.disk.failed_changes
  pub reads : (file : ℕ) → old.disk.failed_reads file ≤ new.disk.failed_reads file

-- What lines and a session's end were told of faults is what is counted of so many files, their failed reads and changes: of the end a change;
-- where it tells none no change failed.
pub record FaultsAreTold (told : List Told) (ended : Option StoreFault) (files : ℕ) (before reads changes : ℕ → ℕ) : Type 0 where
  pub each : AllByRecursion (λ t. IfErr t (IsFaultOf files reads ended)) told
  pub end : IfSome ended (IsFailedChange files changes)
  pub none : ended ≡ None → changes ≡ before

-- so it is of lines from a session on that isn't broken
abbrev pub LinesCountFaults : Type 0
LinesCountFaults =
    (number : ℕ) (lines : List Line) (told : List Told) (old new : Session) (slot left : Piece) → 0 < old.disk.files → old.broken ≡ None → AnswersLines number lines told old slot new left
    → CountsFaults told old new
