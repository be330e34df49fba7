-- What a shared chain says of its store's counts of faults.
use Rattle.std.specs.Prelude.{◌≡◌, ◌<◌, ◌≤◌, ℕ, Option, None, Some, Result, Err, IfErr, IfSome, OnOk}
use Rattle.store_model.specs.Disk.{Disk}
use Rattle.store_model.specs.declared.fault.StoreFault.{StoreFault}
use Rattle.guest_model.specs.declared.refusal.ChainRefusal.{ChainRefusal}
use Rattle.guest_model.specs.declared.refusal.ChainRefusal.TheVariants as refusals
use Rattle.script_session.specs.Faults.{Counts}

-- the last fault that refused a call, behind an answer
abbrev pub fault_after : Option StoreFault → Result ℕ ChainRefusal → Option StoreFault
fault_after fault (Err (refusals.Broken file count)) = Some (record { file = file; count = count })
fault_after fault (Err (refusals.ReadFault file count)) = Some (record { file = file; count = count })
fault_after fault other = fault

-- a change of a file failed, as often in all as is counted of it
abbrev pub CountsChange : Disk → StoreFault → Type 0
CountsChange disk fault = (fault.file < disk.files) × (0 < fault.count) × (fault.count ≡ disk.failed_changes fault.file)

-- a read of a file failed, as often in all as is counted of it
abbrev pub CountsRead : Disk → StoreFault → Type 0
CountsRead disk fault = (fault.file < disk.files) × (0 < fault.count) × (fault.count ≡ disk.failed_reads fault.file)

-- A session's store now, and as it was when the session had begun: the last fault that refused a call is counted, which is the one that
-- broke the session if one did, and else that of a read; where none refused one the counts stay. No count falls.
pub record AreCounted (first now : Disk) (broken fault : Option StoreFault) : Type 0 where
  pub files : now.files ≡ first.files
  pub last : IfSome fault (Counts now)
  pub quiet : fault ≡ None → now ≡ record first { told = now.told }
  pub broke : IfSome broken (λ f. (fault ≡ Some f) × CountsChange now f)
  pub unbroken : broken ≡ None → (now.failed_changes ≡ first.failed_changes) × IfSome fault (λ f. f.count ≡ now.failed_reads f.file)
  pub reads : (file : ℕ) → first.failed_reads file ≤ now.failed_reads file

-- So it is behind the end of the session, which fails by a change.
pub record EndsCounted (first after : Disk) (fault : Option StoreFault) (closed : Result (Unit {0}) StoreFault) : Type 0 where
  pub files : after.files ≡ first.files
  pub last : IfSome fault (Counts after)
  pub end : IfErr closed (CountsChange after)
  pub quiet : fault ≡ None → OnOk closed (after ≡ record first { told = after.told })
  pub none : OnOk closed (after.failed_changes ≡ first.failed_changes)
