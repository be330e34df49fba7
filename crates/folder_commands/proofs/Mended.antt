-- A repair, from its file to what is printed.
use Rattle.std.proofs.Common.{◌≡◌, ℕ, List, Option, Some, None, Result, Ok, Err, inl, inr, refl, sym, subst, ◌∙◌}
use Rattle.std.specs.Prelude.{codes}
use Rattle.store_model.specs.Disk.{WhereTold}
use Rattle.store_model.specs.Folder.{Hosted}
use Rattle.file_open.specs.Causes.{IfCause, Meaning, refuses, host_failed, store_failed, no_memory, cause_in, meaning_of}
use Rattle.file_open.specs.Opening as opening
use Rattle.link_rules.specs.Causes.{of_file}
use Rattle.link_rules.specs.Chains.{OpensIn}
use Rattle.link_rules.specs.Folders.{AllIdle, contents}
use Rattle.make_file.specs.Makes.{outside}
use Rattle.file_repair.specs.declared.refusal.RepairRefusal.{RepairRefusal}
use Rattle.file_repair.specs.declared.refusal.RepairRefusal.TheVariants.{Open, IdUnfit, Store, NoRoom}
use Rattle.named_file.specs.Repairs.{AnswersRepair, LeavesRepair, LeavesUnopened}
use Rattle.printing.specs.Sent.{Sent, cut, whole}
use Rattle.printing.specs.declared.status.Status.{Status}
use Rattle.printing.specs.declared.status.Status.TheVariants.{Done, Refused, Fault, NoMemory}
use Rattle.command_base.specs.Causes.{meaning_of_repair, of_chain}
use Rattle.command_base.specs.Checks.{IsReplayedAt}
use Rattle.command_base.specs.Commands.{Ended, Reports}
use Rattle.command_base.specs.Refusals.{Refusal}
use Rattle.folder_commands.specs.Repairs.{DrawsAtMostOne, IsRepairText, RefusesRepair, ShowsRepaired, id_unfit, repaired_line, unopened}
use Rattle.folder_commands.proofs.Checked.{replayed_at}
use Rattle.command_base.proofs.Said.{CountsIn, UnlessStoreFailed, WhereRefused, no_memory_ended, refused_ended, shown_ended}

-- ---- what is left

module _ (name : List ℕ) (old new : Hosted) where
  unopened_counted : (m : Meaning opening.Refusal) → LeavesUnopened name old new m → CountsIn old new (of_chain (of_file name m))
  unopened_counted (refuses refusal) h = h.quiet
  unopened_counted (host_failed fault) h = (h.rose, h.told, h.healthy)
  unopened_counted (store_failed fault) h = (h.rose, h.some, h.last)
  unopened_counted no_memory h = h.quiet

  counted : (refusal : RepairRefusal) → LeavesRepair name old new (Err refusal) → CountsIn old new (meaning_of_repair name refusal)
  counted (Open refusal) h = unopened_counted (meaning_of refusal) h
  counted (IdUnfit id) h = h.quiet
  counted (Store fault) h = (h.rose, h.some, h.last)
  counted NoRoom h = h.quiet

  abbrev StaysIdle : Type 0
  StaysIdle = WhereTold old.folder (λ f. WhereTold new.folder AllIdle)

  unopened_idle : (m : Meaning opening.Refusal) → LeavesUnopened name old new m → UnlessStoreFailed (of_chain (of_file name m)) StaysIdle
  unopened_idle (refuses refusal) h = h.idle
  unopened_idle (host_failed fault) h = h.idle
  unopened_idle (store_failed fault) h = tt
  unopened_idle no_memory h = h.idle

  pub left_idle : (refusal : RepairRefusal) → LeavesRepair name old new (Err refusal) → UnlessStoreFailed (meaning_of_repair name refusal) StaysIdle
  left_idle (Open refusal) h = unopened_idle (meaning_of refusal) h
  left_idle (IdUnfit id) h = h.idle
  left_idle (Store fault) h = tt
  left_idle NoRoom h = h.idle

  unopened_kept : (m : Meaning opening.Refusal) → LeavesUnopened name old new m → WhereRefused (of_chain (of_file name m)) (IsReplayedAt name old.folder new.folder)
  unopened_kept (refuses refusal) h = replayed_at name old new h
  unopened_kept (host_failed fault) h = tt
  unopened_kept (store_failed fault) h = tt
  unopened_kept no_memory h = tt

  pub left_kept : (refusal : RepairRefusal) → LeavesRepair name old new (Err refusal) → WhereRefused (meaning_of_repair name refusal) (IsReplayedAt name old.folder new.folder)
  left_kept (Open refusal) h = unopened_kept (meaning_of refusal) h
  left_kept (IdUnfit id) h = replayed_at name old new h
  left_kept (Store fault) h = tt
  left_kept NoRoom h = tt

-- ---- what is drawn

module _ (name : List ℕ) (before now : Option (List (List ℕ))) (old new : Hosted) where
  pub draws_for : (result : Result (Unit {0}) RepairRefusal) → AnswersRepair name before now old.folder new.folder result → DrawsAtMostOne before now
  draws_for (Ok done) (id, draws, repaired) = inr (id, draws)
  draws_for (Err (Open refusal)) (same, opens) = inl same
  draws_for (Err (IdUnfit id)) (draws, unfit) = inr (id, draws)
  draws_for (Err (Store fault)) h = inr h
  draws_for (Err NoRoom) h = inr h

  -- ---- what refuses it

  same_refusal : (x y : Refusal) → Some x ≡ Some y → x ≡ y
  same_refusal x y e = cc

  unopened_refuses : (m : Meaning opening.Refusal) → now ≡ before → WhereTold old.folder (λ f. IfCause (OpensIn (contents f) name) (cause_in m)) → (r : Refusal) → cause_in (of_chain (of_file name m)) ≡ Some r
      → RefusesRepair name (outside old before) (outside new now) r
  unopened_refuses (refuses refusal) same opens r e = subst (RefusesRepair name (outside old before) (outside new now)) (same_refusal _ r e) (unopened refusal opens same)
  unopened_refuses (host_failed fault) same opens r e = let none : None ≡ Some r = e in cc
  unopened_refuses (store_failed fault) same opens r e = let none : None ≡ Some r = e in cc
  unopened_refuses no_memory same opens r e = let none : None ≡ Some r = e in cc

  refuses_by : (refusal : RepairRefusal) → AnswersRepair name before now old.folder new.folder (Err refusal) → (r : Refusal) → cause_in (meaning_of_repair name refusal) ≡ Some r → RefusesRepair name (outside old before) (outside new now) r
  refuses_by (Open refusal) (same, opens) r e = unopened_refuses (meaning_of refusal) same opens r e
  refuses_by (IdUnfit id) (draws, unfit) r e = subst (RefusesRepair name (outside old before) (outside new now)) (same_refusal _ r e) (id_unfit id draws unfit)
  refuses_by (Store fault) h r e = let none : None ≡ Some r = e in cc
  refuses_by NoRoom h r e = let none : None ≡ Some r = e in cc

  -- ---- what is printed

  module _ (sunk after : Option (List ℕ)) (rises rose : ℕ) (status : Status) where
    abbrev EndsAs : Type 0
    EndsAs = Ended (IsRepairText name (outside old before) (outside new now)) old.faults new.faults sunk after rises rose status

    pub no_memory_repaired : new.faults ≡ old.faults → Sent sunk after rises rose NoMemory (codes "no memory\n") status → EndsAs
    no_memory_repaired same sent = no_memory_ended (ShowsRepaired name (outside old before) (outside new now)) (RefusesRepair name (outside old before) (outside new now)) old new sunk after rises rose status same sent

    pub repaired_ended : (done : Unit {0}) → AnswersRepair name before now old.folder new.folder (Ok done) → LeavesRepair name old new (Ok done) → Sent sunk after rises rose Done (repaired_line name) status → EndsAs
    repaired_ended done (id, draws, repaired) left sent =
        shown_ended (ShowsRepaired name (outside old before) (outside new now)) (RefusesRepair name (outside old before) (outside new now)) old new sunk after rises rose status (repaired_line name)
        (record { text_is = refl; id = id; drawn = draws; repaired = repaired }) left.quiet sent

    pub unrepaired_ended : (refusal : RepairRefusal) → AnswersRepair name before now old.folder new.folder (Err refusal) → LeavesRepair name old new (Err refusal) → Reports (meaning_of_repair name refusal) sunk after rises rose status → EndsAs
    unrepaired_ended refusal answers left reports =
        refused_ended (ShowsRepaired name (outside old before) (outside new now)) (RefusesRepair name (outside old before) (outside new now)) old new sunk after rises rose status (meaning_of_repair name refusal) (refuses_by refusal answers)
        (counted name old new refusal left) reports

-- ---- statuses

not_refused : (before after : Option (List ℕ)) (old new : ℕ) (meant : Status) (text : List ℕ) (status : Status) → (meant ≡ Refused → ⊥) → Sent before after old new meant text status → status ≡ Refused → ⊥
not_refused before after old new meant text status refused (whole is sent same) h = refused (sym is ∙ h)
not_refused before after old new meant text status refused (cut is n sent rose) h = let e : Fault ≡ Refused = sym is ∙ h in cc

pub done_not_refused : (before after : Option (List ℕ)) (old new : ℕ) (text : List ℕ) (status : Status) → Sent before after old new Done text status → status ≡ Refused → ⊥
done_not_refused before after old new text status sent = not_refused before after old new Done text status (λ e. cc) sent

pub no_memory_not_refused : (before after : Option (List ℕ)) (old new : ℕ) (text : List ℕ) (status : Status) → Sent before after old new NoMemory text status → status ≡ Refused → ⊥
no_memory_not_refused before after old new text status sent = not_refused before after old new NoMemory text status (λ e. cc) sent
