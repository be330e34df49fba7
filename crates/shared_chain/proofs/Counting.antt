-- The store's counts of faults, by what calls and the end of a session answer.
use Rattle.std.proofs.Common.{◌≡◌, ◌≢◌, ◌⊎◌, ◌<◌, ◌≤◌, ℕ, Option, Some, None, Result, Ok, Err, inl, inr, refl, sym, ap, subst, ◌∙◌, arith}
use Rattle.std.specs.Prelude.{IfErr, IfSome, OnOk}
use Rattle.std.proofs.lemmas.Bool.{cases_eq}
use Rattle.store_model.specs.Cause.{Rose, RoseAt}
use Rattle.store_model.specs.Disk.{Disk, ReadFailed}
use Rattle.store_model.specs.Plans.{FailsToChange}
use Rattle.store_model.specs.Trace.{Trace}
use Rattle.store_model.specs.declared.fault.StoreFault.{StoreFault}
use Rattle.store_model.proofs.Told.{counts_join}
use Rattle.guest_model.specs.declared.call.Call.{Call}
use Rattle.guest_model.specs.declared.call.Call.TheVariants as calls
use Rattle.guest_model.specs.declared.refusal.ChainRefusal.{ChainRefusal}
use Rattle.guest_model.specs.declared.refusal.ChainRefusal.TheVariants.{Abandoned, Broken, EmptyRange, FileFull, NoMerge, NoPiece, NoRoom, NoStripe, NotYet, OutOfRange, ReadFault, ReadOnly, Spent, Stale, TooLong}
use Rattle.chain_core.specs.Answering.{IsCausedBy, IsCausedByRead, fault_of}
use Rattle.chain_core.specs.Ending.{IsOfSession, SomeChangeFailed}
use Rattle.chain_core.specs.Refusing.{refused}
use Rattle.chain_core.specs.Sessions.{IsSound, Session, leaf_number}
use Rattle.layer_session.proofs.Equal.{some_none}
use Rattle.script_session.specs.Answers.{HasCauseOf}
use Rattle.script_session.specs.Faults.{Counts}
use Rattle.script_session.specs.Running.{IsEnded}
use Rattle.shared_chain.specs.Faults.{CountsRead, AreCounted, CountsChange, EndsCounted, fault_after}
use Rattle.shared_chain.proofs.Reaching.{leaf_within}
use Rattle.shared_chain.proofs.Refusals.{has_session, not_early}

pub same_told : (old new : Disk) → new ≡ old → new ≡ record old { told = new.told }
same_told old new e = subst (λ d. d ≡ record old { told = d.told }) (sym e) refl

-- ---- what a call does that reaches the files

abbrev pub HasCounted : Disk → Session → Result ℕ ChainRefusal → Type 0
HasCounted d new (Ok place) = (new.disk ≡ record d { told = new.disk.told }) × (new.broken ≡ None)
HasCounted d new (Err NoRoom) = (new.disk ≡ record d { told = new.disk.told }) × (new.broken ≡ None)
HasCounted d new (Err (FileFull next)) = (new.disk ≡ record d { told = new.disk.told }) × (new.broken ≡ None)
HasCounted d new (Err (ReadFault file count)) = (file < d.files) × ((told : Option Trace) × ReadFailed file (record d { told = told }) new.disk (fault_of file count)) × (new.broken ≡ None)
HasCounted d new (Err (Broken file count)) = (file < d.files) × FailsToChange file d new.disk (fault_of file count) × (new.broken ≡ Some (fault_of file count))
HasCounted d new (Err other) = ⊥

by_read : (old new : Session) (answer : Result ℕ ChainRefusal) → IsCausedByRead old new answer → HasCounted old.disk new answer
by_read old new (Ok place) h = (same_told old.disk new.disk h.0, h.1)
by_read old new (Err EmptyRange) h = absurd h
by_read old new (Err (OutOfRange first count sectors)) h = absurd h
by_read old new (Err (TooLong count limit)) h = absurd h
by_read old new (Err ReadOnly) h = absurd h
by_read old new (Err (Broken file count)) h = absurd h
by_read old new (Err (Spent t)) h = absurd h
by_read old new (Err (FileFull next)) h = absurd h
by_read old new (Err (ReadFault file count)) h = (h.0.0, (old.disk.told, h.0.1), h.1)
by_read old new (Err NoMerge) h = absurd h
by_read old new (Err (Stale taken now)) h = absurd h
by_read old new (Err (NotYet stripe)) h = absurd h
by_read old new (Err (Abandoned file count)) h = absurd h
by_read old new (Err (NoStripe stripe stripes)) h = absurd h
by_read old new (Err NoPiece) h = absurd h
by_read old new (Err NoRoom) h = (same_told old.disk new.disk h.0, h.1)

by_change : (old new : Session) (answer : Result ℕ ChainRefusal) → leaf_number old.layers < old.disk.files → IsCausedBy old new answer → HasCounted old.disk new answer
by_change old new (Ok place) leaf h = h
by_change old new (Err EmptyRange) leaf h = absurd h
by_change old new (Err (OutOfRange first count sectors)) leaf h = absurd h
by_change old new (Err (TooLong count limit)) leaf h = absurd h
by_change old new (Err ReadOnly) leaf h = absurd h
by_change old new (Err (Broken file count)) leaf h = (
  subst (λ n. n < old.disk.files) (sym h.0.of_file) leaf,
  subst (λ n. FailsToChange n old.disk new.disk (fault_of file count)) (sym h.0.of_file) h.0,
  h.1,
)
by_change old new (Err (Spent t)) leaf h = absurd h
by_change old new (Err (FileFull next)) leaf h = h
by_change old new (Err (ReadFault file count)) leaf h = (
  subst (λ n. n < old.disk.files) (sym h.0.of_file) leaf,
  (new.disk.told, subst (λ n. ReadFailed n (record (old.disk) { told = new.disk.told }) new.disk (fault_of file count)) (sym h.0.of_file) h.0),
  h.1,
)
by_change old new (Err NoMerge) leaf h = absurd h
by_change old new (Err (Stale taken now)) leaf h = absurd h
by_change old new (Err (NotYet stripe)) leaf h = absurd h
by_change old new (Err (Abandoned file count)) leaf h = absurd h
by_change old new (Err (NoStripe stripe stripes)) leaf h = absurd h
by_change old new (Err NoPiece) leaf h = absurd h
by_change old new (Err NoRoom) leaf h = (same_told old.disk new.disk h.0, h.1)

counted_by : (call : Call) (old new : Session) (answer : Result ℕ ChainRefusal) → IsSound old → refused call old ≡ None → HasCauseOf call old new answer → HasCounted old.disk new answer
counted_by (calls.Read first count) old new answer sound fit cause = by_read old new answer (cause fit)
counted_by (calls.Write first bytes) old new answer sound fit cause =
    let f = not_early (calls.Write first bytes) old fit in by_change old new answer (leaf_within old (sound.ready f.0) (has_session (calls.Write first bytes) old.layers f.1 refl)) (cause fit)
counted_by (calls.Trim first count) old new answer sound fit cause =
    let f = not_early (calls.Trim first count) old fit in by_change old new answer (leaf_within old (sound.ready f.0) (has_session (calls.Trim first count) old.layers f.1 refl)) (cause fit)
counted_by calls.Flush old new answer sound fit cause =
    let f = not_early calls.Flush old fit in by_change old new answer (leaf_within old (sound.ready f.0) (has_session calls.Flush old.layers f.1 refl)) (cause fit)

-- ---- what is counted

risen : (before now : ℕ) → Rose before now → 0 < now
risen before now r = omega (arith, r.risen)

rises : (file count : ℕ) (before now : ℕ → ℕ) → RoseAt file count before now → (n : ℕ) → before n ≤ now n
rises file count before now r n = by_file (cases_eq n file)
  where
    by_file : (n ≡ file) ⊎ (n ≢ file) → before n ≤ now n
    by_file (inl e) = subst (λ k. before k ≤ now k) (sym e) r.rose.later
    by_file (inr ne) = omega (arith, r.others n ne)

counts_still : (old new : Disk) (fault : StoreFault) → new ≡ record old { told = new.told } → Counts old fault → Counts new fault
counts_still old new fault e c =
    let same : Counts (record old { told = new.told }) fault = record { within = c.within; some = c.some; counted = c.counted } in
    subst (λ d. Counts d fault) (sym e) same

change_counts : (d : Disk) (fault : StoreFault) → CountsChange d fault → Counts d fault
change_counts d fault c = record { within = c.0; some = c.1; counted = inr c.2 }

-- a failed read stays counted where a change fails
counts_beside : (old new : Disk) (fault other : StoreFault) → Counts old fault → fault.count ≡ old.failed_reads fault.file → FailsToChange other.file old new other → Counts new fault
counts_beside old new fault other c read fails = record {
  within = subst (λ n. fault.file < n) (sym (ap (λ (d : Disk). d.files) fails.stays)) c.within;
  some = c.some;
  counted = inl (read ∙ sym (ap (λ (d : Disk). d.failed_reads fault.file) fails.stays));
}

change_is : (old new : Disk) (fault : StoreFault) → fault.file < old.files → FailsToChange fault.file old new fault → CountsChange new fault
change_is old new fault there c = (
  subst (λ n. fault.file < n) (sym (ap (λ (d : Disk). d.files) c.stays)) there,
  subst (λ n. 0 < n) (sym c.count.told) (risen (old.failed_changes fault.file) (new.failed_changes fault.file) c.count.rose),
  c.count.told,
)

no_fault : {x : StoreFault} {P : Type 0} → Some x ≡ None → P
no_fault e = absurd (some_none e)

is_of : (o : Option StoreFault) (f : StoreFault) (P : StoreFault → Type 0) → o ≡ Some f → P f → IfSome o P
is_of o f P e p = subst (λ b. IfSome b P) (sym e) p

is_none : (o : Option StoreFault) (P : StoreFault → Type 0) → o ≡ None → IfSome o P
is_none o P e = subst (λ b. IfSome b P) (sym e) tt

if_some : (o : Option StoreFault) (P Q : StoreFault → Type 0) → ((f : StoreFault) → P f → Q f) → IfSome o P → IfSome o Q
if_some None P Q f h = tt
if_some (Some x) P Q f h = f x h

pub begins_counted : (d : Disk) (fault : Option StoreFault) → IfSome fault (CountsRead d) → AreCounted d d None fault
begins_counted d None met = record { files = refl; last = tt; quiet = λ e. refl; broke = tt; unbroken = λ e. (refl, tt); reads = λ file. omega arith }
begins_counted d (Some f) met = record {
  files = refl;
  last = record { within = met.0; some = met.1; counted = inl met.2 };
  quiet = λ e. refl;
  broke = tt;
  unbroken = λ e. (refl, met.2);
  reads = λ file. omega arith;
}

-- before a session's first call
pub fresh_counted : (s : Session) (fault : Option StoreFault) → s.broken ≡ None → IfSome fault (CountsRead s.disk) → AreCounted s.disk s.disk s.broken fault
fresh_counted s fault whole met = subst (λ o. AreCounted s.disk s.disk o fault) (sym whole) (begins_counted s.disk fault met)

module _ (first : Disk) (old new : Session) (fault : Option StoreFault) (whole : old.broken ≡ None) (h : AreCounted first old.disk old.broken fault) where
  -- the counts stay
  quiet_on : new.disk ≡ record (old.disk) { told = new.disk.told } → new.broken ≡ None → AreCounted first new.disk new.broken fault
  quiet_on e none = record {
    files = ap (λ (d : Disk). d.files) e ∙ h.files;
    last = if_some fault (Counts old.disk) (Counts new.disk) (λ f c. counts_still old.disk new.disk f e c) h.last;
    quiet = λ q. counts_join first old.disk new.disk (h.quiet q) e;
    broke = is_none new.broken _ none;
    unbroken = λ n. (
      ap (λ (d : Disk). d.failed_changes) e ∙ (h.unbroken whole).0,
      if_some fault (λ f. f.count ≡ old.disk.failed_reads f.file) (λ f. f.count ≡ new.disk.failed_reads f.file) (λ f c. c ∙ sym (ap (λ (d : Disk). d.failed_reads f.file) e)) (h.unbroken whole).1,
    );
    reads = λ n. let same : new.disk.failed_reads n ≡ old.disk.failed_reads n = ap (λ (d : Disk). d.failed_reads n) e in omega (arith, same, h.reads n);
  }

  read_on : (file count : ℕ) (told : Option Trace) → file < old.disk.files → ReadFailed file (record (old.disk) { told = told }) new.disk (fault_of file count) → new.broken ≡ None → AreCounted first new.disk new.broken (Some (fault_of file count))
  read_on file count told there c none =
      let files : new.disk.files ≡ old.disk.files = ap (λ (d : Disk). d.files) c.stays in
      record {
        files = files ∙ h.files;
        last = record {
          within = subst (λ n. file < n) (sym files) there;
          some = subst (λ n. 0 < n) (sym c.count.told) (risen (old.disk.failed_reads file) (new.disk.failed_reads file) c.count.rose);
          counted = inl c.count.told;
        };
        quiet = λ e. no_fault e;
        broke = is_none new.broken _ none;
        unbroken = λ n. (ap (λ (d : Disk). d.failed_changes) c.stays ∙ (h.unbroken whole).0, c.count.told);
        reads = λ n. omega (arith, h.reads n, rises file count old.disk.failed_reads new.disk.failed_reads c.count n);
      }

  change_on : (file count : ℕ) → file < old.disk.files → FailsToChange file old.disk new.disk (fault_of file count) → new.broken ≡ Some (fault_of file count) → AreCounted first new.disk new.broken (Some (fault_of file count))
  change_on file count there c some =
      let counts : CountsChange new.disk (fault_of file count) = change_is old.disk new.disk (fault_of file count) there c in
      record {
        files = ap (λ (d : Disk). d.files) c.stays ∙ h.files;
        last = change_counts new.disk (fault_of file count) counts;
        quiet = λ e. no_fault e;
        broke = is_of new.broken (fault_of file count) _ some (refl, counts);
        unbroken = λ n. no_fault (sym some ∙ n);
        reads = λ n. let same : new.disk.failed_reads n ≡ old.disk.failed_reads n = ap (λ (d : Disk). d.failed_reads n) c.stays in omega (arith, same, h.reads n);
      }

  pub counted_on : (answer : Result ℕ ChainRefusal) → HasCounted old.disk new answer → AreCounted first new.disk new.broken (fault_after fault answer)
  counted_on (Ok place) k = quiet_on k.0 k.1
  counted_on (Err EmptyRange) k = absurd k
  counted_on (Err (OutOfRange a b c)) k = absurd k
  counted_on (Err (TooLong a b)) k = absurd k
  counted_on (Err ReadOnly) k = absurd k
  counted_on (Err (Broken file count)) k = change_on file count k.0 k.1 k.2
  counted_on (Err (Spent t)) k = absurd k
  counted_on (Err (FileFull next)) k = quiet_on k.0 k.1
  counted_on (Err (ReadFault file count)) k = read_on file count k.1.0 k.0 k.1.1 k.2
  counted_on (Err NoMerge) k = absurd k
  counted_on (Err (Stale taken now)) k = absurd k
  counted_on (Err (NotYet stripe)) k = absurd k
  counted_on (Err (Abandoned file count)) k = absurd k
  counted_on (Err (NoStripe stripe stripes)) k = absurd k
  counted_on (Err NoPiece) k = absurd k
  counted_on (Err NoRoom) k = quiet_on k.0 k.1

-- a call that isn't refused before it reaches the files
pub counted_after : (call : Call) (first : Disk) (old new : Session) (fault : Option StoreFault) (answer : Result ℕ ChainRefusal) → IsSound old → refused call old ≡ None → HasCauseOf call old new answer → AreCounted first old.disk old.broken fault
    → AreCounted first new.disk new.broken (fault_after fault answer)
counted_after call first old new fault answer sound fit cause h = counted_on first old new fault (not_early call old fit).0 h answer (counted_by call old new answer sound fit cause)

-- ---- the end

module _ (first : Disk) (s : Session) (after : Disk) (fault : Option StoreFault) (closed : Result (Unit {0}) StoreFault) (h : AreCounted first s.disk s.broken fault) (e : IsEnded s after closed) where
  was_broken : (f : StoreFault) → s.broken ≡ Some f → EndsCounted first after fault closed
  was_broken f is =
      let b = subst (λ o. IfSome o (λ f. (closed ≡ Err f) × (after ≡ s.disk))) is e.broken in
      let c = subst (λ o. IfSome o (λ f. (fault ≡ Some f) × CountsChange s.disk f)) is h.broke in
      record {
        files = ap (λ (d : Disk). d.files) b.1 ∙ h.files;
        last = subst (λ d. IfSome fault (Counts d)) (sym b.1) h.last;
        end = subst (λ r. IfErr r (CountsChange after)) (sym b.0) (subst (λ d. CountsChange d f) (sym b.1) c.1);
        quiet = λ none. no_fault (sym c.0 ∙ none);
        none = subst (λ r. OnOk r (after.failed_changes ≡ first.failed_changes)) (sym b.0) tt;
      }

  has_ended : s.broken ≡ None → after ≡ record (s.disk) { told = after.told } → IfErr closed (CountsChange after) → EndsCounted first after fault closed
  has_ended is same none = record {
    files = ap (λ (d : Disk). d.files) same ∙ h.files;
    last = if_some fault (Counts s.disk) (Counts after) (λ f c. counts_still s.disk after f same c) h.last;
    end = none;
    quiet = λ q. on_ok closed (counts_join first s.disk after (h.quiet q) same);
    none = on_ok closed (ap (λ (d : Disk). d.failed_changes) same ∙ (h.unbroken is).0);
  }
    where
      on_ok : (r : Result (Unit {0}) StoreFault) {P : Type 0} → P → OnOk r P
      on_ok (Ok done) p = p
      on_ok (Err x) p = tt

  has_failed : (f : StoreFault) → s.broken ≡ None → closed ≡ Err f → SomeChangeFailed (IsOfSession s.layers) s.disk after f → EndsCounted first after fault closed
  has_failed f is e failed = record {
    files = ap (λ (d : Disk). d.files) failed.fails.stays ∙ h.files;
    last = last fault h.last (h.unbroken is).1;
    end = subst (λ r. IfErr r (CountsChange after)) (sym e) (change_is s.disk after f failed.within failed.fails);
    quiet = λ q. subst (λ r. OnOk r (after ≡ record first { told = after.told })) (sym e) tt;
    none = subst (λ r. OnOk r (after.failed_changes ≡ first.failed_changes)) (sym e) tt;
  }
    where
      last : (o : Option StoreFault) → IfSome o (Counts s.disk) → IfSome o (λ x. x.count ≡ s.disk.failed_reads x.file) → IfSome o (Counts after)
      last None c r = tt
      last (Some x) c r = counts_beside s.disk after x f c r failed.fails

  pub ends_counted : EndsCounted first after fault closed
  ends_counted = go s.broken refl closed refl
    where
      go : (o : Option StoreFault) → s.broken ≡ o → (r : Result (Unit {0}) StoreFault) → closed ≡ r → EndsCounted first after fault closed
      go (Some f) is r same = was_broken f is
      go None is (Ok done) same = has_ended is (subst (λ r. OnOk r (after ≡ record (s.disk) { told = after.told })) same (e.counts is)) (subst (λ r. IfErr r (CountsChange after)) (sym same) tt)
      go None is (Err f) same = has_failed f is same (subst (λ r. IfErr r (SomeChangeFailed (IsOfSession s.layers) s.disk after)) same (e.fails is))
