-- A file that was lent to be looked at.
use Rattle.std.proofs.Common.{◌≡◌, ℕ, true, List, [], ◌∷◌, Option, Some, None, Result, Ok, Err, refl, sym, ap, subst, ◌∙◌}
use Rattle.std.specs.Prelude.{option_map}
use Rattle.std.specs.Result.{IsErrAnd}
use Rattle.store_model.specs.Disk.{Disk, WhereTold, WhereBothTold}
use Rattle.store_model.specs.File.{seen}
use Rattle.store_model.specs.Folder.{Held, Hosted, HasFailed, KeepsStore, RoseWhere, attached_trace, given_back, has_name, seen_named}
use Rattle.store_model.specs.Trace.{Trace, file_of}
use Rattle.store_model.specs.declared.fault.SealFault.{SealFault}
use Rattle.store_model.specs.declared.fault.SealFault.TheVariants.{Store, NoRoom}
use Rattle.file_open.specs.Causes.{AnswersBy, IfCause, Meaning, refuses, host_failed, store_failed, no_memory, cause_in, cause_of, meaning_of, of_fault}
use Rattle.file_open.specs.Effects.{KeepsFile}
use Rattle.file_open.specs.Opening.{Refusal}
use Rattle.file_open.specs.declared.refusal.OpenRefusal.{OpenRefusal}
use Rattle.link_rules.specs.Folders.{AllIdle, Lends, LendsNone, contents}
use Rattle.link_rules.proofs.Lent.{lent_replayed, memory_stopped, missing_file, only_kept, seen-attached, seen_there, store_stopped, unlent_leaves}
use Rattle.check_repair.specs.Answers.{AreFound, LeavesChecked}
use Rattle.check_repair.specs.declared.looking.Findings.{Findings}
use Rattle.named_file.specs.Looks.{LeavesLook, LeavesLookBy, LooksIn, missing, present}

-- ---- a file that isn't lent

unlent_looks : (name : List ℕ) (old new : Hosted) (meaning : Meaning Refusal) → LendsNone name old new meaning → WhereTold old.folder (λ f. IfCause (LooksIn (contents f) name) (cause_in meaning))
unlent_looks name old new (refuses refusal) (is, none, same) f told = subst (λ r. LooksIn (contents f) name (Err r)) (sym is) (missing (ap (option_map seen) (missing_file name f (none f told))))
unlent_looks name old new (host_failed fault) h f told = tt
unlent_looks name old new (store_failed fault) h f told = absurd h
unlent_looks name old new no_memory h f told = tt

unlent_left : (name : List ℕ) (old new : Hosted) (meaning : Meaning Refusal) → WhereTold old.folder AllIdle → LendsNone name old new meaning → LeavesLookBy old new meaning
unlent_left name old new (refuses refusal) idle (is, none, same) = (is, same)
unlent_left name old new (host_failed fault) idle h = let m : Meaning Refusal = host_failed fault in unlent_leaves name old new m idle h
unlent_left name old new (store_failed fault) idle h = absurd h
unlent_left name old new no_memory idle h = let m : Meaning Refusal = no_memory in unlent_leaves name old new m idle h

pub unlent_answers : (name : List ℕ) (old new : Hosted) (result : Result Findings OpenRefusal) (refusal : OpenRefusal) → IsErrAnd result (λ e. e ≡ refusal) → LendsNone name old new (meaning_of refusal)
    → WhereTold old.folder (λ f. AnswersBy (LooksIn (contents f) name) cause_of result)
unlent_answers name old new (Ok found) refusal is h f told = absurd is
unlent_answers name old new (Err e) refusal is h f told = subst (λ e. IfCause (LooksIn (contents f) name) (cause_of e)) (sym is) (unlent_looks name old new (meaning_of refusal) h f told)

pub unlent_leaves_look : (name : List ℕ) (old new : Hosted) (result : Result Findings OpenRefusal) (refusal : OpenRefusal) → IsErrAnd result (λ e. e ≡ refusal) → WhereTold old.folder AllIdle → LendsNone name old new (meaning_of refusal)
    → LeavesLook name old new result
unlent_leaves_look name old new (Ok found) refusal is idle h = absurd is
unlent_leaves_look name old new (Err e) refusal is idle h = subst (λ e. LeavesLookBy old new (meaning_of e)) (sym is) (unlent_left name old new (meaning_of refusal) idle h)

-- ---- a file that was looked at

pub found_there : (name : List ℕ) (old mid : Hosted) (lent : Disk) (found : Findings) → WhereTold old.folder AllIdle → Lends name old mid lent → WhereTold lent.told (λ t. AreFound (seen (file_of t 0)) found)
    → WhereTold old.folder (λ f. LooksIn (contents f) name (Ok found))
found_there name old mid lent found idle lends has f told =
    let before : lent.told ≡ Some (attached_trace (name ∷ []) f) = ap (λ (d : Disk). d.told) lends.disk_is ∙ ap (option_map (attached_trace (name ∷ []))) told in
    present (seen_named name f) found (seen_there name f (idle f told) (lends.there f told)) (subst (λ bytes. AreFound bytes found) (seen-attached name f) (has (attached_trace (name ∷ []) f) before))

-- a fault says nothing of the file
pub fault_answers : (name : List ℕ) (old : Hosted) (result : Result Findings OpenRefusal) (fault : SealFault) → IsErrAnd result (λ e. e ≡ of_fault fault) → WhereTold old.folder (λ f. AnswersBy (LooksIn (contents f) name) cause_of result)
fault_answers name old (Ok found) fault is f told = absurd is
fault_answers name old (Err e) (Store fault) is f told = subst (λ e. IfCause (LooksIn (contents f) name) (cause_of e)) (sym is) tt
fault_answers name old (Err e) NoRoom is f told = subst (λ e. IfCause (LooksIn (contents f) name) (cause_of e)) (sym is) tt

module _ (name : List ℕ) (old mid new : Hosted) (lent disk : Disk) (lends : Lends name old mid lent) (kept : WhereBothTold (KeepsFile 0) lent.told disk.told) (idle : WhereTold old.folder AllIdle)
    (back_is : WhereTold disk.told (λ trace. new.folder ≡ option_map (given_back trace) mid.folder)) (untold_is : disk.told ≡ None → mid.folder ≡ None → new.folder ≡ None) (count : RoseWhere (HasFailed disk) mid.faults new.faults) (past_is : KeepsStore disk mid new) where
  pub looked_left : (found : Findings) → LeavesChecked {A = Findings} 0 lent disk (Ok found) → LeavesLook name old new (Ok found)
  looked_left found h = lent_replayed name old mid new lent disk lends (only_kept lent.told disk.told kept) idle back_is untold_is count past_is h

  pub fault_left : (result : Result Findings OpenRefusal) (fault : SealFault) → IsErrAnd result (λ e. e ≡ of_fault fault) → LeavesChecked {A = Findings} 0 lent disk (Err fault) → LeavesLook name old new result
  fault_left (Ok found) fault is h = absurd is
  fault_left (Err e) (Store fault) is h = subst (λ e. LeavesLookBy old new (meaning_of e)) (sym is) (store_stopped name old mid new lent disk lends kept idle back_is untold_is count past_is fault h)
  fault_left (Err e) NoRoom is h = subst (λ e. LeavesLookBy old new (meaning_of e)) (sym is) (memory_stopped name old mid new lent disk lends kept idle back_is untold_is count past_is h)
