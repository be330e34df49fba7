-- What is told of a file whose log is replayed is told of the file.
use Rattle.std.proofs.Common.{◌≡◌, ℕ, ◌≤◌, ◌<◌, ◌⊎◌, Bool, true, false, List, [], ◌∷◌, ◌++◌, length, take, map, Option, Some, None, Result, Ok, Err, IfOk, IfErr, refl, sym, ◌∙◌, ap, subst, inl, inr, arith}
use Rattle.std.specs.Prelude.{codes}
use Rattle.std.specs.Str.{bytes_eq}
use Rattle.std.proofs.lemmas.Bool.{cases_Bool, cases_lt, lt-ltb, le-ltb}
use Rattle.std.proofs.lemmas.Option.{same_Some}
use Rattle.log_replay.proofs.Replaying.{longest}
use Rattle.store_model.specs.Disk.{Disk, LeavesStore, WhereTold, WhereBothTold, fault_in}
use Rattle.store_model.specs.File.{seen}
use Rattle.store_model.specs.Trace.{Trace, file_of}
use Rattle.store_model.specs.declared.fault.SealFault.{SealFault}
use Rattle.store_model.specs.declared.fault.SealFault.TheVariants.{Store, NoRoom}
use Rattle.vx_base.specs.Fields.{bytes_at}
use Rattle.vx_base.specs.declared.parts.Header.{Header}
use Rattle.vx_base.specs.declared.parts.Parts.{Parts}
use Rattle.parent_locator.specs.Listing.{fault_rule}
use Rattle.vhdx_format.specs.Fields.{megabyte}
use Rattle.vhdx_format.specs.FileParts.{read_head}
use Rattle.vhdx_format.specs.Identifiers.{has_signature, identified}
use Rattle.vhdx_format.specs.OpenedFiles.{ReadsNumbers, no_header, log_cut, by_parts}
use Rattle.vhdx_format.specs.Rules.{BrokenRule, NotVhdx, TooShort}
use Rattle.vhdx_format.specs.SettledFiles.{StandsFor, as_it_is, after_replay, if_settled, if_cut, if_headless}
use Rattle.file_open.specs.Causes.{AnswersReads, IfCause, Meaning, refuses, host_failed, store_failed, no_memory, cause_in, cause_of, meaning_of}
use Rattle.file_open.specs.Effects.{IsOpened, LeavesOpened, StaysSynced}
use Rattle.file_open.specs.Opening.{Reads, Refusal, FileMissing, Breaks, unread, numbered}
use Rattle.file_open.specs.declared.open.FileNumbers.{FileNumbers}
use Rattle.file_open.specs.declared.refusal.OpenRefusal.{OpenRefusal}
use Rattle.file_open.proofs.Settling.{both_map}
use Rattle.check_repair.specs.Answers.{AreFound, AreRules, LeavesChecked, MeanRules, copy_finding}
use Rattle.check_repair.specs.Findings as findings
use Rattle.check_repair.specs.Findings.{BreaksRules, Finding, Finds, copy_findings, locator_rules, table_rules}
use Rattle.check_repair.specs.Steps.{FindsRules, Knows, NumbersRead, stop_in, stop_of}
use Rattle.check_repair.specs.declared.looking.Broken.{Broken}
use Rattle.check_repair.specs.declared.looking.Findings as code

-- ---- the rules

-- of a file whose numbers are read
pub numbered_rules : (file : ℕ) (old mid : Option Trace) (parts : Parts) (broken : Broken) → WhereBothTold (IsOpened file) old mid
    → WhereTold old (λ t. Reads (seen (file_of t file)) (Ok parts)) → WhereTold mid (λ t. NumbersRead parts (seen (file_of t file)) broken.rules.items)
    → map fault_rule broken.locator.items ≡ locator_rules parts → WhereTold old (λ t. FindsRules (seen (file_of t file)) broken)
numbered_rules file None mid parts broken opened reads told locator t is = cc
numbered_rules file (Some x) None parts broken opened reads told locator t is = absurd opened
numbered_rules file (Some x) (Some y) parts broken opened reads told locator t is =
    subst (λ (s : Trace). FindsRules (seen (file_of s file)) broken) (same_Some x t is) (by_reads (reads x refl))
  where
    by_reads : Reads (seen (file_of x file)) (Ok parts) → FindsRules (seen (file_of x file)) broken
    by_reads (numbered _ numbers) =
        let n = told y refl in
        record {
          rules = table_rules n.0 n.1 n.2 n.3;
          breaks = subst (λ (l : List BrokenRule). BreaksRules (seen (file_of x file)) (table_rules n.0 n.1 n.2 n.3 ++ l)) (sym locator)
              (findings.numbered parts (seen (file_of y file)) n.0 n.1 n.2 n.3 numbers opened.bytes n.4);
          mean = n.5;
        }

pub numbered_result : (file : ℕ) (old mid : Option Trace) (parts : Parts) (result : Result Broken SealFault) → WhereBothTold (IsOpened file) old mid
    → WhereTold old (λ t. Reads (seen (file_of t file)) (Ok parts)) → IfOk result (λ broken. WhereTold mid (λ t. NumbersRead parts (seen (file_of t file)) broken.rules.items))
    → IfOk result (λ broken. map fault_rule broken.locator.items ≡ locator_rules parts) → IfOk result (λ broken. WhereTold old (λ t. FindsRules (seen (file_of t file)) broken))
numbered_result file old mid parts (Ok broken) opened reads told locator = numbered_rules file old mid parts broken opened reads told locator
numbered_result file old mid parts (Err fault) opened reads told locator = tt

-- the answer was that the numbers are these, or that this rule is broken
pub read_as : (file : List ℕ) (read : Result FileNumbers OpenRefusal) (numbers : FileNumbers) → read ≡ Ok numbers → AnswersReads file read → Reads file (Ok numbers.parts)
read_as file read numbers is h = subst (AnswersReads file) is h

refused_by : (file : List ℕ) (cause : Option Refusal) (m : Meaning Refusal) → cause ≡ cause_in m → stop_in m ≡ None → IfCause {A = Parts} (Reads file) cause
    → (rule : BrokenRule) × (cause ≡ Some (Breaks rule)) × ReadsNumbers file (Err rule)
refused_by file (Some (Breaks rule)) (refuses refusal) e s (unread _ numbers) = (rule, refl, numbers)
refused_by file (Some FileMissing) (refuses refusal) e s h = elim h [ ]
refused_by file None (refuses refusal) e s h = cc
refused_by file cause (host_failed fault) e s h = cc
refused_by file cause (store_failed fault) e s h = cc
refused_by file cause no_memory e s h = cc

-- what a call stops at is no rule, and all else is one
rule_in : (m : Meaning Refusal) → stop_in m ≡ None → (rule : BrokenRule) × (cause_in m ≡ Some (Breaks rule))
rule_in (refuses (Breaks rule)) s = (rule, refl)
rule_in (refuses FileMissing) s = cc
rule_in (host_failed fault) s = cc
rule_in (store_failed fault) s = cc
rule_in no_memory s = cc

pub rule_alone : (refusal : OpenRefusal) (refusals : List OpenRefusal) → stop_of refusal ≡ None → refusals ≡ refusal ∷ [] → AreRules refusals
rule_alone refusal refusals stop one =
    let r = rule_in (meaning_of refusal) stop in
    (r.0 ∷ [], ap (map cause_of) one ∙ ap (λ (o : Option Refusal). o ∷ []) r.1)

-- an opening that stops leaves what a look leaves
pub stop_left : (file : ℕ) (old new : Disk) (m : Meaning Refusal) (fault : SealFault) → stop_in m ≡ Some fault → LeavesOpened file old new m → LeavesChecked {A = ℕ} file old new (Err fault)
stop_left file old new (refuses (Breaks rule)) fault s h = cc
stop_left file old new (refuses FileMissing) fault s h =
    subst (λ f. LeavesChecked {A = ℕ} file old new (Err f)) (same_Some NoRoom fault s) (record { counts = h.counts; told = both_map (IsOpened file) (StaysSynced file) old.told new.told (λ a b is o. o.synced) h.told })
stop_left file old new (host_failed other) fault s h = absurd h
stop_left file old new (store_failed other) fault s h = subst (λ f. LeavesChecked {A = ℕ} file old new (Err f)) (same_Some (Store other) fault s) h
stop_left file old new no_memory fault s h = subst (λ f. LeavesChecked {A = ℕ} file old new (Err f)) (same_Some NoRoom fault s) h

pub refused_rules : (file : List ℕ) (read : Result FileNumbers OpenRefusal) (refusal : OpenRefusal) (broken : Broken) → read ≡ Err refusal → stop_of refusal ≡ None → AnswersReads file read
    → broken.rules.items ≡ refusal ∷ [] → broken.locator.items ≡ [] → FindsRules file broken
refused_rules file read refusal broken is stop h one none =
    let r = refused_by file (cause_of refusal) (meaning_of refusal) refl stop (subst (AnswersReads file) is h) in
    record {
      rules = r.0 ∷ [];
      breaks = subst (λ (l : List _). BreaksRules file ((r.0 ∷ []) ++ map fault_rule l)) (sym none) (findings.unread r.0 r.2);
      mean = ap (map cause_of) one ∙ ap (λ (o : Option Refusal). o ∷ []) r.1;
    }

-- ---- a file of this format

pub short_unknown : (file : List ℕ) → length file < megabyte → Knows file false
unfolding identified
short_unknown file short = by_signature (cases_Bool (has_signature file))
  where
    by_signature : (has_signature file ≡ true) ⊎ (has_signature file ≡ false) → (rule : BrokenRule) × (identified file ≡ Err rule)
    by_signature (inl s) = (TooShort (length file), rw (s, lt-ltb (length file) megabyte short) refl)
    by_signature (inr s) = (NotVhdx, rw s refl)

pub known_long : (file : List ℕ) → identified file ≡ Ok (length file) → megabyte ≤ length file
known_long file e = by_length (cases_lt (length file) megabyte)
  where
    by_length : (length file < megabyte) ⊎ (megabyte ≤ length file) → megabyte ≤ length file
    by_length (inl short) = let no : Err (short_unknown file short).0 ≡ Ok (length file) = sym (short_unknown file short).1 ∙ e in absurd cc
    by_length (inr long) = long

pub known_by : (file bytes : List ℕ) (known : Bool) → megabyte ≤ length file → bytes ≡ bytes_at file 0 8 → known ≡ bytes_eq bytes (codes "vhdxfile") → Knows file known
unfolding identified has_signature bytes_at
known_by file bytes true long read is =
    let s : bytes_eq (take 8 file) (codes "vhdxfile") ≡ true = ap (λ (b : List ℕ). bytes_eq b (codes "vhdxfile")) (sym read) ∙ sym is in
    rw (s, le-ltb (length file) megabyte long) refl
known_by file bytes false long read is =
    let s : bytes_eq (take 8 file) (codes "vhdxfile") ≡ false = ap (λ (b : List ℕ). bytes_eq b (codes "vhdxfile")) (sym read) ∙ sym is in
    (NotVhdx, rw s refl)

-- it is no shorter once its log is replayed
pub stands_long : (file bytes : List ℕ) → StandsFor file bytes → length file ≤ length bytes
stands_long file bytes (if_settled header _ head (as_it_is nothing)) = omega arith
stands_long file bytes (if_settled header _ head (after_replay first others log long)) = longest first others file
stands_long file bytes (if_cut header rule head cut) = omega arith
stands_long file bytes (if_headless rule head) = omega arith

pub long_after : (file : ℕ) (old mid : Option Trace) → WhereBothTold (IsOpened file) old mid → WhereTold old (λ t. Knows (seen (file_of t file)) true) → WhereTold mid (λ t. 327680 ≤ length (seen (file_of t file)))
long_after file None None opened known t is = cc
long_after file None (Some y) opened known t is = absurd opened
long_after file (Some x) None opened known t is = absurd opened
long_after file (Some x) (Some y) opened known t is =
    let long = known_long (seen (file_of x file)) (known x refl) in
    let more = stands_long (seen (file_of x file)) (seen (file_of y file)) opened.bytes in
    subst (λ (s : Trace). 327680 ≤ length (seen (file_of s file))) (same_Some y t is) (omega (arith, long, more))

-- ---- all findings

-- of no such file nothing else is found
one_only : (file : List ℕ) (rule : BrokenRule) (rules : List BrokenRule) → identified file ≡ Err rule → BreaksRules file rules → rules ≡ rule ∷ []
unfolding read_head
one_only file rule rules e b = by_rules b
  where
    head_fails : read_head file ≡ Err rule
    head_fails = rw e refl

    by_numbers : {result : Result Parts BrokenRule} → ReadsNumbers file result → result ≡ Err rule
    by_numbers (no_header other head) = ap as_parts (sym head ∙ head_fails)
      where
        as_parts : Result Header BrokenRule → Result Parts BrokenRule
        as_parts (Ok h) = Err NotVhdx
        as_parts (Err r) = Err r
    by_numbers (log_cut header other head cut) = let no : Ok header ≡ Err rule = sym head ∙ head_fails in absurd cc
    by_numbers (by_parts header bytes other head settles parts) = let no : Ok header ≡ Err rule = sym head ∙ head_fails in absurd cc

    by_rules : {rules : List BrokenRule} → BreaksRules file rules → rules ≡ rule ∷ []
    by_rules (findings.unread other numbers) = let same : other ≡ rule = (let s = by_numbers numbers in cc) in ap (λ (r : BrokenRule). r ∷ []) same
    by_rules (findings.numbered parts bytes states places overlaps bitmaps numbers stands lists) = let no = by_numbers numbers in absurd cc

pub found_unknown : (file : List ℕ) (broken : Broken) (found : code.Findings) → Knows file false → FindsRules file broken → found.rules ≡ broken.rules → found.locator ≡ broken.locator
    → found.copies.items ≡ [] → AreFound file found
found_unknown file broken found known rules r l none = record {
  rules = rules.rules;
  mean = subst (λ v. MeanRules v.items rules.rules) (sym r) rules.mean;
  just = subst (λ v. Finds file (map findings.Breaks (rules.rules ++ map fault_rule v.items) ++ map copy_finding found.copies.items)) (sym l)
      (subst (λ (c : List _). Finds file (map findings.Breaks (rules.rules ++ map fault_rule broken.locator.items) ++ map copy_finding c)) (sym none)
      (subst (λ (rs : List BrokenRule). Finds file (map findings.Breaks rs ++ [])) (sym (one_only file known.0 _ known.1 rules.breaks)) (findings.unknown known.0 known.1)));
}

pub found_known : (file : ℕ) (old mid : Option Trace) (broken : Broken) (found : code.Findings) → WhereBothTold (IsOpened file) old mid → WhereTold old (λ t. Knows (seen (file_of t file)) true)
    → WhereTold old (λ t. FindsRules (seen (file_of t file)) broken) → found.rules ≡ broken.rules → found.locator ≡ broken.locator
    → WhereTold mid (λ t. map copy_finding found.copies.items ≡ copy_findings (seen (file_of t file))) → WhereTold old (λ t. AreFound (seen (file_of t file)) found)
found_known file None mid broken found opened known rules r l copies t is = cc
found_known file (Some x) None broken found opened known rules r l copies t is = absurd opened
found_known file (Some x) (Some y) broken found opened known rules r l copies t is =
    let b = rules x refl in
    subst (λ (s : Trace). AreFound (seen (file_of s file)) found) (same_Some x t is)
    (record {
      rules = b.rules;
      mean = subst (λ v. MeanRules v.items b.rules) (sym r) b.mean;
      just = subst (λ v. Finds (seen (file_of x file)) (map findings.Breaks (b.rules ++ map fault_rule v.items) ++ map copy_finding found.copies.items)) (sym l)
          (subst (λ (c : List Finding). Finds (seen (file_of x file)) (map findings.Breaks (b.rules ++ map fault_rule broken.locator.items) ++ c)) (sym (copies y refl))
          (findings.known (length (seen (file_of x file))) (seen (file_of y file)) (b.rules ++ map fault_rule broken.locator.items) (known x refl) opened.bytes b.breaks));
    })

-- what is so of a refusal that was answered
pub stopped : (read : Result FileNumbers OpenRefusal) (refusal : OpenRefusal) → read ≡ Err refusal → IfErr read (λ r. stop_of r ≡ None) → stop_of refusal ≡ None
stopped read refusal is h = subst (λ (r : Result FileNumbers OpenRefusal). IfErr r (λ x. stop_of x ≡ None)) is h

-- what only reads leaves all content
pub told_same : (A : Type 0) (file : ℕ) (old new : Disk) (fault : SealFault) → LeavesStore {A = A} fault_in file old new (Err fault) → new.told ≡ old.told
told_same A file old new (Store fault) h = ap (λ (d : Disk). d.told) h.stays
told_same A file old new NoRoom h = ap (λ (d : Disk). d.told) h
