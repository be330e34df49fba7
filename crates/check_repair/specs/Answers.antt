-- What the code's findings stand for, and what looking for them leaves of the store.
use Rattle.std.specs.Prelude.{◌≡◌, ℕ, List, ◌++◌, map, Option, Some, Result, Ok, Err}
use Rattle.store_model.specs.Disk.{Disk}
use Rattle.store_model.specs.declared.fault.SealFault.{SealFault}
use Rattle.store_model.specs.declared.fault.SealFault.TheVariants.{Store, NoRoom}
use Rattle.parent_locator.specs.Listing.{fault_rule}
use Rattle.vhdx_format.specs.Rules.{BrokenRule}
use Rattle.file_open.specs.Causes.{cause_of}
use Rattle.file_open.specs.Effects.{CallFailed, HasOpened, RanOut}
use Rattle.file_open.specs.Opening.{Refusal, Breaks}
use Rattle.file_open.specs.declared.refusal.OpenRefusal.{OpenRefusal}
use Rattle.check_repair.specs.Findings as findings
use Rattle.check_repair.specs.Findings.{Finding, Finds}
use Rattle.check_repair.specs.declared.looking.CopyFault.{CopyFault}
use Rattle.check_repair.specs.declared.looking.CopyFault.TheVariants.{HeaderCopy, RegionCopy, LogNamed}
use Rattle.check_repair.specs.declared.looking.Findings.{Findings}

-- the refusals stand for these rules
abbrev pub told_rule : BrokenRule → Option Refusal
told_rule rule = Some (Breaks rule)

abbrev pub MeanRules : List OpenRefusal → List BrokenRule → Type 0
MeanRules refusals rules = map cause_of refusals ≡ map told_rule rules

abbrev pub AreRules : List OpenRefusal → Type 0
AreRules refusals = (rules : List BrokenRule) × MeanRules refusals rules

abbrev pub copy_finding : CopyFault → Finding
copy_finding (HeaderCopy copy) = findings.HeaderCopy copy
copy_finding (RegionCopy copy) = findings.RegionCopy copy
copy_finding LogNamed = findings.LogNamed

-- what was found is just what is wrong with the file
pub record AreFound (file : List ℕ) (found : Findings) : Type 0 where
  pub rules : List BrokenRule
  pub mean : MeanRules found.rules.items rules
  pub just : Finds file (map findings.Breaks (rules ++ map fault_rule found.locator.items) ++ map copy_finding found.copies.items)

-- the file's log was replayed, so that it has the bytes that it stood for; or a call of the store failed, or memory ran out
abbrev pub LeavesChecked : {A : Type 0} → ℕ → Disk → Disk → Result A SealFault → Type 0
LeavesChecked file old new (Ok x) = HasOpened file old new
LeavesChecked file old new (Err (Store fault)) = CallFailed file old new fault
LeavesChecked file old new (Err NoRoom) = RanOut file old new
