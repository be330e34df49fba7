-- A check, from the look at its file to what is printed.
use Rattle.std.proofs.Common.{◌≡◌, ◌⊎◌, ℕ, List, [], ◌∷◌, ◌++◌, map, Option, Some, None, Ok, Err, inl, inr, refl, sym, ap, subst, ◌∙◌}
use Rattle.std.specs.Prelude.{codes}
use Rattle.store_model.specs.Disk.{WhereTold}
use Rattle.store_model.specs.Folder.{Held, Hosted}
use Rattle.vhdx_format.specs.Rules.{BrokenRule}
use Rattle.parent_locator.specs.Listing.{fault_rule}
use Rattle.file_open.specs.Causes.{IfCause, Meaning, refuses, host_failed, store_failed, no_memory, cause_in}
use Rattle.file_open.specs.Opening.{FileMissing}
use Rattle.file_open.specs.Opening as opening
use Rattle.file_open.specs.declared.refusal.OpenRefusal.{OpenRefusal}
use Rattle.link_rules.specs.Causes.{of_file}
use Rattle.link_rules.specs.Chains.{Unopened}
use Rattle.link_rules.specs.Effects.{HasReplayed, KeepsEach, Replays, Within}
use Rattle.link_rules.specs.Folders.{AllIdle, contents}
use Rattle.link_rules.specs.Touches.{TouchesSafely}
use Rattle.link_rules.proofs.Composing.{replays_keep}
use Rattle.link_rules.proofs.Lent.{idle_as, none_kept}
use Rattle.link_rules.proofs.Safe.{none_safely}
use Rattle.check_repair.specs.Answers.{MeanRules, copy_finding, told_rule}
use Rattle.check_repair.specs.Findings.{Breaks, Finding, Finds}
use Rattle.check_repair.specs.declared.looking.Findings as code
use Rattle.named_file.specs.Looks.{LeavesLookBy, LooksIn, missing, present}
use Rattle.printing.specs.Sent.{Sent, cut, whole}
use Rattle.printing.specs.declared.status.Status.{Status}
use Rattle.printing.specs.declared.status.Status.TheVariants.{Done, Refused, Usage, Fault, NoMemory, Findings}
use Rattle.command_base.specs.Causes.{of_chain}
use Rattle.command_base.specs.Checks.{HasFindings, IsCheckText, IsReplayedAt, OnlyLooks, RefusesMissing, ShowsClean, missing as gone}
use Rattle.command_base.specs.Commands.{Ended, Reports, SaysFindings, clean, listed, ran_out}
use Rattle.command_base.specs.Printed.{IsText, ShowsFault}
use Rattle.command_base.specs.Refusals.{OfChain, Refusal}
use Rattle.folder_commands.proofs.Listed.{same_cons}
use Rattle.command_base.proofs.Said.{CountsIn, UnlessStoreFailed, ended_by, no_memory_ended, refused_ended, shown_ended}

-- ---- the files

looks_by : (name : List ℕ) (old new : Hosted) → Within KeepsEach old.folder new.folder → TouchesSafely (λ f other. other ≡ name) old new → OnlyLooks name old.folder new.folder
looks_by name old new each touches f told = let m = each f told in (m.0, m.1, record { safe = (touches f told).now m.0 m.1; alike = m.2 })

pub looks_none : (name : List ℕ) (host : Hosted) → OnlyLooks name host.folder host.folder
looks_none name host = looks_by name host host (none_kept host host refl) (none_safely (λ f other. other ≡ name) host)

pub looks_replayed : (name : List ℕ) (old new : Hosted) → HasReplayed (name ∷ []) old new → TouchesSafely (λ f other. other ≡ name) old new → OnlyLooks name old.folder new.folder
looks_replayed name old new h touches = looks_by name old new (λ f told. let m = h.files f told in (m.0, m.1, replays_keep (name ∷ []) (contents f) (contents m.0) m.2)) touches

left_each : (old new : Hosted) (m : Meaning opening.Refusal) → LeavesLookBy old new m → Within KeepsEach old.folder new.folder
left_each old new (refuses refusal) (is, same) = none_kept old new (ap (λ (h : Hosted). h.folder) same)
left_each old new (host_failed fault) h = h.files
left_each old new (store_failed fault) h = h.files
left_each old new no_memory h = h.files

pub looks_left : (name : List ℕ) (old new : Hosted) (m : Meaning opening.Refusal) → LeavesLookBy old new m → TouchesSafely (λ f other. other ≡ name) old new → OnlyLooks name old.folder new.folder
looks_left name old new m h touches = looks_by name old new (left_each old new m h) touches

-- a file that is replayed
pub replayed_at : (name : List ℕ) (old new : Hosted) → HasReplayed (name ∷ []) old new → IsReplayedAt name old.folder new.folder
replayed_at name old new h f told g also = let m = h.files f told in subst (λ (x : List Held). Replays (name ∷ []) (contents f) (contents x)) (same_folder m.0 g (sym m.1 ∙ also)) m.2 where
  same_folder : (x y : List Held) → Some x ≡ Some y → x ≡ y
  same_folder x y e = cc

-- ---- the counts, and what is unsynced

counted : (name : List ℕ) (old new : Hosted) (m : Meaning opening.Refusal) → LeavesLookBy old new m → CountsIn old new (of_chain (of_file name m))
counted name old new (refuses refusal) (is, same) = ap (λ (h : Hosted). h.faults) same
counted name old new (host_failed fault) h = (h.rose, h.told, h.healthy)
counted name old new (store_failed fault) h = (h.rose, h.some, h.last)
counted name old new no_memory h = h.quiet

pub left_idle : (name : List ℕ) (old new : Hosted) (m : Meaning opening.Refusal) → WhereTold old.folder AllIdle → LeavesLookBy old new m → UnlessStoreFailed (of_chain (of_file name m)) (WhereTold old.folder (λ f. WhereTold new.folder AllIdle))
left_idle name old new (refuses refusal) idle (is, same) = idle_as old new (ap (λ (h : Hosted). h.folder) same) idle
left_idle name old new (host_failed fault) idle h = h.idle
left_idle name old new (store_failed fault) idle h = tt
left_idle name old new no_memory idle h = h.idle

-- ---- what is printed

check_said : (before now : Hosted) (name : List ℕ) (status : Status) (text : List ℕ) → IsText (ShowsClean before.folder name) (RefusesMissing before.folder name) (ShowsFault before now) status text → IsCheckText before now name status text
check_said before now name Done text h = h
check_said before now name Refused text h = h
check_said before now name Usage text h = h
check_said before now name Fault text h = h
check_said before now name NoMemory text h = h
check_said before now name Findings text h = absurd h

module _ (before now : Hosted) (name : List ℕ) (sunk after : Option (List ℕ)) (old new : ℕ) (status : Status) where
  abbrev EndsAs : (Status → List ℕ → Type 0) → Type 0
  EndsAs is_text = Ended is_text before.faults now.faults sunk after old new status

  as_check : EndsAs (IsText (ShowsClean before.folder name) (RefusesMissing before.folder name) (ShowsFault before now)) → EndsAs (IsCheckText before now name)
  as_check h = record {
    printed = record { meant = h.printed.meant; text = h.printed.text; said = check_said before now name h.printed.meant h.printed.text h.printed.said; sent = h.printed.sent };
    rose = h.rose;
    quiet = h.quiet;
    command = h.command;
  }

  pub no_memory_checked : now.faults ≡ before.faults → Sent sunk after old new NoMemory (codes "no memory\n") status → EndsAs (IsCheckText before now name)
  no_memory_checked same sent = as_check (no_memory_ended (ShowsClean before.folder name) (RefusesMissing before.folder name) before now sunk after old new status same sent)

  -- what was found was said
  pub found_ended : (findings : List Finding) → WhereTold before.folder (λ f. HasFindings (contents f) name findings) → now.faults ≡ before.faults → SaysFindings name findings sunk after old new status → EndsAs (IsCheckText before now name)
  found_ended findings finds same (clean none sent) =
      as_check (shown_ended (ShowsClean before.folder name) (RefusesMissing before.folder name) before now sunk after old new status (codes "clean\n")
      (record { text_is = refl; finds = subst (λ (fs : List Finding). WhereTold before.folder (λ f. HasFindings (contents f) name fs)) none finds }) same sent)
  found_ended findings finds same (listed some sent) =
      ended_by (IsCheckText before now name) before.faults now.faults sunk after old new Findings status _
      (record { said = record { findings = findings; some = some; text_is = refl; finds = finds }; rose = λ h. cc; quiet = λ h. same; command = λ h. cc }) sent
  found_ended findings finds same (ran_out sent) = no_memory_checked same sent

  -- or why nothing was found
  refused_missing : (m : Meaning opening.Refusal) → LeavesLookBy before now m → WhereTold before.folder (λ f. IfCause (LooksIn (contents f) name) (cause_in m)) → (r : Refusal) → cause_in (of_chain (of_file name m)) ≡ Some r → RefusesMissing before.folder name r
  refused_missing (refuses refusal) (is, same) looks r e =
      subst (RefusesMissing before.folder name) (as_file is ∙ same_refusal _ _ e) (gone (λ f told. by_look (contents f) (subst (λ x. LooksIn (contents f) name (Err x)) is (looks f told))))
    where
      same_refusal : (x y : Refusal) → Some x ≡ Some y → x ≡ y
      same_refusal x y e = cc

      as_file : refusal ≡ FileMissing → OfChain (Unopened name FileMissing) ≡ OfChain (Unopened name refusal)
      as_file is = ap (λ x. OfChain (Unopened name x)) (sym is)

      by_look : (files : List ℕ → Option (List ℕ)) → LooksIn files name (Err FileMissing) → files name ≡ None
      by_look files (missing none) = none
  refused_missing (host_failed fault) h looks r e = let none : None ≡ Some r = e in cc
  refused_missing (store_failed fault) h looks r e = let none : None ≡ Some r = e in cc
  refused_missing no_memory h looks r e = let none : None ≡ Some r = e in cc

  pub unfound_ended : (m : Meaning opening.Refusal) → LeavesLookBy before now m → WhereTold before.folder (λ f. IfCause (LooksIn (contents f) name) (cause_in m)) → Reports (of_chain (of_file name m)) sunk after old new status
      → EndsAs (IsCheckText before now name)
  unfound_ended m h looks reports =
      as_check (refused_ended (ShowsClean before.folder name) (RefusesMissing before.folder name) before now sunk after old new status (of_chain (of_file name m)) (refused_missing m h looks) (counted name before now m h) reports)

-- ---- what was found

rules_once : (refusals : List OpenRefusal) (a b : List BrokenRule) → MeanRules refusals a → MeanRules refusals b → a ≡ b
rules_once refusals a b m n = same_rules a b (sym m ∙ n) where
  one_same : (x y : BrokenRule) → told_rule x ≡ told_rule y → x ≡ y
  one_same x y e = cc

  same_rules : (a b : List BrokenRule) → map told_rule a ≡ map told_rule b → a ≡ b
  same_rules [] [] e = refl
  same_rules [] (y ∷ b) e = let never : [] ≡ told_rule y ∷ map told_rule b = e in cc
  same_rules (x ∷ a) [] e = let never : told_rule x ∷ map told_rule a ≡ [] = e in cc
  same_rules (x ∷ a) (y ∷ b) e =
      let both = same_cons (told_rule x) (told_rule y) (map told_rule a) (map told_rule b) e in
      ap (λ z. z ∷ a) (one_same x y both.0) ∙ ap (λ zs. y ∷ zs) (same_rules a b both.1)

pub found_in : (folder : Option (List Held)) (name : List ℕ) (found : code.Findings) (rules : List BrokenRule) → MeanRules found.rules.items rules → WhereTold folder (λ f. LooksIn (contents f) name (Ok found))
    → WhereTold folder (λ f. HasFindings (contents f) name (map Breaks (rules ++ map fault_rule found.locator.items) ++ map copy_finding found.copies.items))
found_in folder name found rules mean looks f told = by_look (looks f told) where
  by_look : LooksIn (contents f) name (Ok found) → HasFindings (contents f) name (map Breaks (rules ++ map fault_rule found.locator.items) ++ map copy_finding found.copies.items)
  by_look (present bytes _ had are) = (
    bytes,
    had,
    subst (λ (rs : List BrokenRule). Finds bytes (map Breaks (rs ++ map fault_rule found.locator.items) ++ map copy_finding found.copies.items)) (rules_once found.rules.items are.rules rules are.mean mean) are.just,
  )

-- ---- statuses

not_found : (before after : Option (List ℕ)) (old new : ℕ) (meant : Status) (text : List ℕ) (status : Status) → (meant ≡ Done → ⊥) → (meant ≡ Findings → ⊥) → Sent before after old new meant text status → (status ≡ Done) ⊎ (status ≡ Findings) → ⊥
not_found before after old new meant text status done found (whole is sent same) (inl h) = done (sym is ∙ h)
not_found before after old new meant text status done found (whole is sent same) (inr h) = found (sym is ∙ h)
not_found before after old new meant text status done found (cut is n sent rose) (inl h) = let e : Fault ≡ Done = sym is ∙ h in cc
not_found before after old new meant text status done found (cut is n sent rose) (inr h) = let e : Fault ≡ Findings = sym is ∙ h in cc

pub no_memory_found : (before after : Option (List ℕ)) (old new : ℕ) (text : List ℕ) (status : Status) → Sent before after old new NoMemory text status → (status ≡ Done) ⊎ (status ≡ Findings) → ⊥
no_memory_found before after old new text status sent = not_found before after old new NoMemory text status (λ e. cc) (λ e. cc) sent

pub reported_found : (m : Meaning Refusal) (before after : Option (List ℕ)) (old new : ℕ) (status : Status) → Reports m before after old new status → (status ≡ Done) ⊎ (status ≡ Findings) → ⊥
reported_found (refuses refusal) before after old new status (inl sent) = not_found before after old new Refused _ status (λ e. cc) (λ e. cc) sent
reported_found (refuses refusal) before after old new status (inr sent) = no_memory_found before after old new _ status sent
reported_found (host_failed fault) before after old new status sent = not_found before after old new Fault _ status (λ e. cc) (λ e. cc) sent
reported_found (store_failed fault) before after old new status sent = not_found before after old new Fault _ status (λ e. cc) (λ e. cc) sent
reported_found no_memory before after old new status sent = no_memory_found before after old new _ status sent
