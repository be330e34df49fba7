-- A refusal that is handed on, and a read into new memory that failed.
use Rattle.std.proofs.Common.{◌≡◌, ℕ, Result, Ok, Err, refl, sym, subst}
use Rattle.std.specs.Result.{IsErr, IsErrAnd}
use Rattle.store_model.specs.Disk.{Disk, LeavesBy, fault_in}
use Rattle.store_model.specs.declared.fault.SealFault.{SealFault}
use Rattle.store_model.specs.declared.fault.SealFault.TheVariants.{Store, NoRoom}
use Rattle.vhdx_format.specs.Rules.{BrokenRule, Answers}
use Rattle.metadata_table.specs.declared.MetadataRefusal.{MetadataRefusal}
use Rattle.metadata_table.specs.Refusals.{StandsForNoRule, fault_of, of_fault, rule_of}

pub no_rule : (fault : SealFault) → StandsForNoRule (of_fault fault)
no_rule (Store fault) = refl
no_rule NoRoom = refl

pub says_nothing : {A : Type 0} (meaning : Result A BrokenRule) (fault : SealFault) → Answers {A = A} rule_of (Err (of_fault fault)) meaning
says_nothing meaning (Store fault) = tt
says_nothing meaning NoRoom = tt

pub left : (file : ℕ) (old new : Disk) (fault : SealFault) → LeavesBy file old new (fault_in fault) → LeavesBy file old new (fault_of (of_fault fault))
left file old new (Store fault) h = h
left file old new NoRoom h = h
