-- What was found is answered with its status.
use Rattle.std.proofs.Common.{◌≡◌, ◌≢◌, ℕ, ◌<◌, List, Option, Some, None, Result, Ok, Err, ◌⊎◌, inl, inr, refl, sym, ap, subst, ◌∙◌}
use Rattle.std.specs.Result.{IsErrAnd}
use Rattle.std.specs.Prelude.{IfErr, IfOk, MatchOption, MatchResult, String, codes, string_bytes}
use Rattle.store_model.specs.Cause.{Rose}
use Rattle.store_model.specs.Disk.{WhereTold}
use Rattle.store_model.specs.Folder.{Held, Hosted}
use Rattle.store_model.specs.Moments.{LastReturnedCounts}
use Rattle.vx_base.specs.declared.NoRoom.{NoRoom}
use Rattle.file_open.specs.Causes.{Meaning, refuses, host_failed, store_failed, no_memory, cause_in}
use Rattle.link_rules.specs.Folders.{ReturnsHealthy}
use Rattle.command_base.specs.Commands.{Ended, Reports}
use Rattle.command_base.specs.Folders.{LastReturned}
use Rattle.printing.specs.Answers.{fault_line}
use Rattle.make_file.specs.declared.refusal.MakeRefusal.{MakeRefusal}
use Rattle.command_base.specs.Making.{made_line}
use Rattle.command_base.specs.Causes.{meaning_of_make}
use Rattle.printing.specs.Sent.{Sent, cut, whole}
use Rattle.command_base.specs.Printed.{IsText, ShowsFault, of_host, of_store}
use Rattle.command_base.specs.Refusals.{Refusal}
use Rattle.command_line.specs.Requests.{plain}
use Rattle.command_line.specs.Words.{Asks, AsksNothing}
use Rattle.command_line.specs.declared.request.Request.{Request}
use Rattle.printing.specs.declared.status.Status.{Status}
use Rattle.printing.specs.declared.status.Status.TheVariants.{Done, Refused, Usage, Fault, NoMemory}

-- The host's count rose where a call of the host or of a store failed, and else it stays.
abbrev pub CountsIn : {R : Type 0} → Hosted → Hosted → Meaning R → Type 0
CountsIn before now (refuses refusal) = now.faults ≡ before.faults
CountsIn before now (host_failed fault) = Rose before.faults now.faults × (fault.count ≡ now.faults) × ReturnsHealthy before now
CountsIn before now (store_failed fault) =
    Rose before.faults now.faults × (0 < fault.count) × WhereTold before.folder (λ folder. LastReturnedCounts fault.count before now)
CountsIn before now no_memory = now.faults ≡ before.faults

-- the count of the store that came back last, by its file
pub counts_as : (count : ℕ) (before now : Hosted) (folder : Option (List Held)) → WhereTold folder (λ f. LastReturnedCounts count before now)
    → WhereTold folder (λ f. LastReturned (λ last. (file : ℕ) × ((count ≡ last.failed_reads file) ⊎ (count ≡ last.failed_changes file))) before now)
counts_as count before now folder h f told past is =
    let b = h f told past is in
    let c = b.2 in
    (b.0, b.1, c.last, c.between, c.now_is, (c.file, c.counted))

-- this is so, but where a call of a store failed
abbrev pub UnlessStoreFailed : {R : Type 0} → Meaning R → Type 0 → Type 0
UnlessStoreFailed (refuses refusal) P = P
UnlessStoreFailed (host_failed fault) P = P
UnlessStoreFailed (store_failed fault) P = Unit {0}
UnlessStoreFailed no_memory P = P

-- this is so, where it is refused by a rule
abbrev pub WhereRefused : {R : Type 0} → Meaning R → Type 0 → Type 0
WhereRefused (refuses refusal) P = P
WhereRefused (host_failed fault) P = Unit {0}
WhereRefused (store_failed fault) P = Unit {0}
WhereRefused no_memory P = Unit {0}

-- a refusal's line was said, or memory ran out for it
pub refusal_sent : {Z : Type 0} (before after : Option (List ℕ)) (old new : ℕ) (meant status : Status) (text : List ℕ) (line : Result (String Z) NoRoom) → IfOk line (λ l. string_bytes l ≡ text)
    → MatchResult line (λ l. Sent before after old new meant (string_bytes l) status) (λ _. Sent before after old new NoMemory (codes "no memory\n") status)
    → Sent before after old new meant text status ⊎ Sent before after old new NoMemory (codes "no memory\n") status
refusal_sent before after old new meant status text (Ok l) is sent = inl (subst (λ t. Sent before after old new meant t status) is sent)
refusal_sent before after old new meant status text (Err e) is sent = inr sent

-- what is reported of a refusal that is this one
pub reports_for : {R : Type 0} (meaning : R → Meaning Refusal) (before after : Option (List ℕ)) (old new : ℕ) (status : Status) (r q : R) → r ≡ q → Reports (meaning q) before after old new status → Reports (meaning r) before after old new status
reports_for meaning before after old new status r q same reports = subst (λ r. Reports (meaning r) before after old new status) (sym same) reports

-- the line of a file that was made
pub made_told : (name : List ℕ) (before after : Option (List ℕ)) (old new : ℕ) (status : Status) (made : Result ℕ MakeRefusal) (len : ℕ) → made ≡ Ok len → Sent before after old new Done (made_line name len) status
    → MatchResult made (λ len. Sent before after old new Done (made_line name len) status) (λ refusal. Reports (meaning_of_make name refusal) before after old new status)
made_told name before after old new status made len is sent =
    subst (λ r. MatchResult r (λ len. Sent before after old new Done (made_line name len) status) (λ refusal. Reports (meaning_of_make name refusal) before after old new status)) (sym is) sent

pub unmade_told : (name : List ℕ) (before after : Option (List ℕ)) (old new : ℕ) (status : Status) (made : Result ℕ MakeRefusal) (refusal : MakeRefusal) → made ≡ Err refusal → Reports (meaning_of_make name refusal) before after old new status
    → MatchResult made (λ len. Sent before after old new Done (made_line name len) status) (λ refusal. Reports (meaning_of_make name refusal) before after old new status)
unmade_told name before after old new status made refusal is reports =
    subst (λ r. MatchResult r (λ len. Sent before after old new Done (made_line name len) status) (λ refusal. Reports (meaning_of_make name refusal) before after old new status)) (sym is) reports

-- a text of a status, and what the host has counted for it
pub record Meant (is_text : Status → List ℕ → Type 0) (before faults : ℕ) (status : Status) (text : List ℕ) : Type 0 where
  pub said : is_text status text
  pub rose : status ≡ Fault → Rose before faults
  pub quiet : status ≢ Fault → faults ≡ before
  pub command : status ≢ Usage

-- it was sent
pub ended_by : (is_text : Status → List ℕ → Type 0) (faults_before faults : ℕ) (before after : Option (List ℕ)) (old new : ℕ) (meant result : Status) (text : List ℕ) → Meant is_text faults_before faults meant text → Sent before after old new meant text result
    → Ended is_text faults_before faults before after old new result
ended_by is_text faults_before faults before after old new meant result text said (whole is sent same) = record {
  printed = record { meant = meant; text = text; said = said.said; sent = whole is sent same };
  rose = λ h. inl (said.rose (sym is ∙ h));
  quiet = λ h. (said.quiet (λ e. h (is ∙ e)), same);
  command = λ h. said.command (sym is ∙ h);
}
ended_by is_text faults_before faults before after old new meant result text said (cut is n sent rose) = record {
  printed = record { meant = meant; text = text; said = said.said; sent = cut is n sent rose };
  rose = λ h. inr rose;
  quiet = λ h. absurd (h is);
  command = λ h. let e : Fault ≡ Usage = sym is ∙ h in cc;
}

module _ (shows : List ℕ → Type 0) (is_refusal : Refusal → Type 0) (before now : Hosted) (sunk after : Option (List ℕ)) (old new : ℕ) (result : Status) where
  pub shown_ended : (text : List ℕ) → shows text → now.faults ≡ before.faults → Sent sunk after old new Done text result → Ended (IsText shows is_refusal (ShowsFault before now)) before.faults now.faults sunk after old new result
  shown_ended text shown same sent = ended_by _ before.faults now.faults sunk after old new Done result text (record { said = shown; rose = λ h. cc; quiet = λ h. same; command = λ h. cc }) sent

  pub no_memory_ended : now.faults ≡ before.faults → Sent sunk after old new NoMemory (codes "no memory\n") result → Ended (IsText shows is_refusal (ShowsFault before now)) before.faults now.faults sunk after old new result
  no_memory_ended same sent = ended_by _ before.faults now.faults sunk after old new NoMemory result _ (record { said = refl; rose = λ h. cc; quiet = λ h. same; command = λ h. cc }) sent

  -- the line of what it shows was said, or memory ran out for it
  pub line_ended : {Z : Type 0} (line : Result (String Z) NoRoom) → now.faults ≡ before.faults → IfOk line (λ l. shows (string_bytes l))
      → MatchResult line (λ l. Sent sunk after old new Done (string_bytes l) result) (λ _. Sent sunk after old new NoMemory (codes "no memory\n") result)
      → Ended (IsText shows is_refusal (ShowsFault before now)) before.faults now.faults sunk after old new result
  line_ended (Ok l) same shown sent = shown_ended (string_bytes l) shown same sent
  line_ended (Err e) same shown sent = no_memory_ended same sent

  -- what stands for a refusal was said
  pub refused_ended : (meaning : Meaning Refusal) → ((r : Refusal) → cause_in meaning ≡ Some r → is_refusal r) → CountsIn before now meaning → Reports meaning sunk after old new result
      → Ended (IsText shows is_refusal (ShowsFault before now)) before.faults now.faults sunk after old new result
  refused_ended (refuses refusal) so counts (inl sent) =
      ended_by _ before.faults now.faults sunk after old new Refused result _ (record { said = record { refusal = refusal; text_is = refl; so = so refusal refl }; rose = λ h. cc; quiet = λ h. counts; command = λ h. cc }) sent
  refused_ended (refuses refusal) so counts (inr sent) = no_memory_ended counts sent
  refused_ended (host_failed fault) so counts sent =
      ended_by _ before.faults now.faults sunk after old new Fault result _ (record { said = of_host counts.0 counts.2 (ap (fault_line (codes "host")) counts.1); rose = λ h. counts.0; quiet = λ h. absurd (h refl); command = λ h. cc }) sent
  refused_ended (store_failed fault) so counts sent =
      ended_by _ before.faults now.faults sunk after old new Fault result _ (record { said = of_store fault.count counts.1 counts.0 (counts_as fault.count before now before.folder counts.2) refl; rose = λ h. counts.0; quiet = λ h. absurd (h refl); command = λ h. cc }) sent
  refused_ended no_memory so counts sent = no_memory_ended counts sent

-- what is so unless a call of the store failed is so unless a fault was said
pub is_fault : (before after : Option (List ℕ)) (old new : ℕ) (text : List ℕ) (status : Status) → Sent before after old new Fault text status → status ≡ Fault
is_fault before after old new text status (whole is sent same) = is
is_fault before after old new text status (cut is n sent rose) = is

pub idle_reported : {P : Type 0} (meaning : Meaning Refusal) (before after : Option (List ℕ)) (old new : ℕ) (status : Status) → UnlessStoreFailed meaning P → Reports meaning before after old new status → status ≢ Fault → P
idle_reported (refuses refusal) before after old new status h reports fault = h
idle_reported (host_failed fault_) before after old new status h reports fault = h
idle_reported (store_failed fault_) before after old new status h reports fault = absurd (fault (is_fault before after old new _ status reports))
idle_reported no_memory before after old new status h reports fault = h

-- what is so where a rule refuses it is so where that was said
not_shown : (before after : Option (List ℕ)) (old new : ℕ) (meant : Status) (text : List ℕ) (status : Status) → (meant ≡ Done → ⊥) → (meant ≡ Refused → ⊥) → Sent before after old new meant text status → (status ≡ Done) ⊎ (status ≡ Refused) → ⊥
not_shown before after old new meant text status done refused (whole is sent same) (inl h) = done (sym is ∙ h)
not_shown before after old new meant text status done refused (whole is sent same) (inr h) = refused (sym is ∙ h)
not_shown before after old new meant text status done refused (cut is n sent rose) (inl h) = let e : Fault ≡ Done = sym is ∙ h in cc
not_shown before after old new meant text status done refused (cut is n sent rose) (inr h) = let e : Fault ≡ Refused = sym is ∙ h in cc

pub no_memory_shown : (before after : Option (List ℕ)) (old new : ℕ) (text : List ℕ) (status : Status) → Sent before after old new NoMemory text status → (status ≡ Done) ⊎ (status ≡ Refused) → ⊥
no_memory_shown before after old new text status sent = not_shown before after old new NoMemory text status (λ e. cc) (λ e. cc) sent

pub replayed_reported : {P : Type 0} (meaning : Meaning Refusal) (before after : Option (List ℕ)) (old new : ℕ) (status : Status) → WhereRefused meaning P → Reports meaning before after old new status → (status ≡ Done) ⊎ (status ≡ Refused) → P
replayed_reported (refuses refusal) before after old new status h reports shown = h
replayed_reported (host_failed fault) before after old new status h reports shown = absurd (not_shown before after old new Fault _ status (λ e. cc) (λ e. cc) reports shown)
replayed_reported (store_failed fault) before after old new status h reports shown = absurd (not_shown before after old new Fault _ status (λ e. cc) (λ e. cc) reports shown)
replayed_reported no_memory before after old new status h reports shown = absurd (no_memory_shown before after old new _ status reports shown)

-- what the words ask for, where it was told
pub asked : (words : List (List ℕ)) (told : Option Request) (request : Request) → told ≡ Some request → MatchOption told (AsksNothing words) (λ r. Asks words (plain r)) → Asks words (plain request)
asked words told request is h = subst (λ r. MatchOption r (AsksNothing words) (λ r. Asks words (plain r))) is h

pub asked_none : (words : List (List ℕ)) (told : Option Request) → told ≡ None → MatchOption told (AsksNothing words) (λ r. Asks words (plain r)) → AsksNothing words
asked_none words told is h = subst (λ r. MatchOption r (AsksNothing words) (λ r. Asks words (plain r))) is h

-- what is answered of an error that is this one
pub err_as : {A E : Type 0} (P : E → Type 0) (result : Result A E) (e : E) → IsErrAnd result (λ x. x ≡ e) → P e → IfErr result P
err_as P (Ok x) e is p = absurd is
err_as P (Err x) e is p = subst P (sym is) p

pub err_is : {A E : Type 0} (result : Result A E) (e : E) → IsErrAnd result (λ x. x ≡ e) → result ≡ Err e
err_is (Ok x) e is = absurd is
err_is (Err x) e is = ap Err is
