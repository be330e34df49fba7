-- A read into new memory that failed.
use Rattle.std.proofs.Common.{◌≡◌, ℕ, List, Result, Ok, Err, sym, ap, subst}
use Rattle.std.specs.Prelude.{IfErr}
use Rattle.std.specs.Result.{IsErrAnd}
use Rattle.store_model.specs.Disk as disk
use Rattle.store_model.specs.Disk.{Disk, fault_in}
use Rattle.store_model.specs.declared.fault.SealFault.{SealFault}
use Rattle.store_model.specs.declared.fault.SealFault.TheVariants.{Store, NoRoom}
use Rattle.vhdx_format.specs.Rules.{Refuses}
use Rattle.vx_base.specs.declared.parts.Header.{Header}
use Rattle.file_open.specs.Causes.{Leaves, LeavesStore, cause_of, of_fault}
use Rattle.file_open.specs.Effects.{FailsToSettle}
use Rattle.file_open.specs.Opening.{Refusal}
use Rattle.file_open.specs.Steps.{IsCut}
use Rattle.file_open.specs.declared.refusal.OpenRefusal.{OpenRefusal}
use Rattle.file_open.proofs.Leaving.{read_failed}

-- it says nothing of the file
pub says_nothing : {A : Type 0} (whole : Result A Refusal) (fault : SealFault) → Refuses (cause_of (of_fault fault)) whole
says_nothing whole (Store fault) = tt
says_nothing whole NoRoom = tt

pub not_cut : (header : Header) (file : List ℕ) (fault : SealFault) → IsCut header file (cause_of (of_fault fault))
not_cut header file (Store fault) = tt
not_cut header file NoRoom = tt

-- and leaves its content
pub read_told : (file : ℕ) (old new : Disk) (fault : SealFault) → disk.LeavesBy file old new (fault_in fault) → new.told ≡ old.told
read_told file old new (Store fault) h = ap (λ (d : Disk). d.told) h.stays
read_told file old new NoRoom h = ap (λ (d : Disk). d.told) h

left : (file : ℕ) (old new : Disk) (fault : SealFault) → disk.LeavesBy file old new (fault_in fault) → Leaves file old new (of_fault fault)
left file old new (Store fault) h = h
left file old new NoRoom h = h

pub unread_left : {A : Type 0} (file : ℕ) (old new : Disk) (result : Result A OpenRefusal) (fault : SealFault) → IsErrAnd result (λ e. e ≡ of_fault fault) → disk.LeavesBy file old new (fault_in fault) → LeavesStore file old new result
unread_left file old new (Ok x) fault is h = absurd is
unread_left file old new (Err e) fault is h = subst (Leaves file old new) (sym is) (left file old new fault h)

unsettled : (file : ℕ) (old new : Disk) (fault : SealFault) → disk.LeavesBy file old new (fault_in fault) → FailsToSettle file old new (of_fault fault)
unsettled file old new (Store fault) h = read_failed file old new fault h
unsettled file old new NoRoom h = h

pub unread_log : {A : Type 0} (file : ℕ) (old new : Disk) (result : Result A OpenRefusal) (fault : SealFault) → IsErrAnd result (λ e. e ≡ of_fault fault) → disk.LeavesBy file old new (fault_in fault) → IfErr result (FailsToSettle file old new)
unread_log file old new (Ok x) fault is h = absurd is
unread_log file old new (Err e) fault is h = subst (FailsToSettle file old new) (sym is) (unsettled file old new fault h)
