-- The store's counts behind a script's session.
use Rattle.std.proofs.Common.{◌≡◌, ◌<◌, ◌≤◌, ℕ, List, [], ◌∷◌, Option, Some, None, Result, Ok, Err, refl, sym, ap, subst, ◌∙◌, arith, inl}
use Rattle.std.specs.Prelude.{IfErr, IfSome, OnOk}
use Rattle.std.specs.List.{AllByRecursion}
use Rattle.store_model.proofs.Told.{counts_join}
use Rattle.store_model.specs.Disk.{Disk}
use Rattle.store_model.specs.Plans.{FailsToChange}
use Rattle.store_model.specs.declared.fault.StoreFault.{StoreFault}
use Rattle.guest_model.specs.declared.refusal.ChainRefusal.TheVariants.{Abandoned, Broken, EmptyRange, FileFull, NoMerge, NoPiece, NoRoom, NoStripe, NotYet, OutOfRange, ReadFault, ReadOnly, Spent, Stale, TooLong}
use Rattle.chain_core.specs.Answering.{ClosesTold}
use Rattle.chain_core.specs.Ending.{IsOfSession, SomeChangeFailed}
use Rattle.chain_core.specs.Sessions.{Session}
use Rattle.script_session.specs.Faults.{Counts, CountsFaults, FaultsAreTold, IsFailedChange, IsFaultOf}
use Rattle.script_session.specs.Running.{IsEnded}
use Rattle.script_session.specs.Told.{Told, failed_by, last_fault}
use Rattle.script_session.proofs.Content.{both_untold}
use Rattle.script_session.proofs.Counting.{counts_change, counts_still, if_some, never}

-- by the clauses of a chain's end
pub ended_by : {S : Type 0} (disk : S → Disk) (s : Session) (store after : S) (closed : Result (Unit {0}) StoreFault) → s.disk ≡ disk store → IfSome s.broken (λ fault. (closed ≡ Err fault) × (after ≡ store))
    → (s.broken ≡ None → s.layers.leaf ≡ None → (closed ≡ Ok tt) × (after ≡ store)) → (s.broken ≡ None → OnOk closed (disk after ≡ record (s.disk) { told = (disk after).told }))
    → (s.broken ≡ None → IfErr closed (SomeChangeFailed (IsOfSession s.layers) s.disk (disk after))) → (s.broken ≡ None → ClosesTold s (disk after) closed) → IsEnded s (disk after) closed
ended_by disk s store after closed same broken read counts err told = record {
  broken = if_some s.broken (λ fault. (closed ≡ Err fault) × (after ≡ store)) (λ fault. (closed ≡ Err fault) × (disk after ≡ s.disk)) (λ fault b. (b.0, ap disk b.1 ∙ sym same)) broken;
  only_read = λ whole none. let r = read whole none in (r.0, ap disk r.1 ∙ sym same);
  counts = counts;
  fails = err;
  told = told;
}

-- ---- how a session ended

-- it was broken, it ended, or its end failed
data Ends (s : Session) (after : Disk) (closed : Result (Unit {0}) StoreFault) : Type 0 where
  was_broken : (fault : StoreFault) → s.broken ≡ Some fault → closed ≡ Err fault → after ≡ s.disk → Ends s after closed
  has_ended : s.broken ≡ None → closed ≡ Ok tt → after ≡ record (s.disk) { told = after.told } → Ends s after closed
  has_failed : (fault : StoreFault) → s.broken ≡ None → closed ≡ Err fault → SomeChangeFailed (IsOfSession s.layers) s.disk after fault → Ends s after closed

how_ended : (s : Session) (after : Disk) (closed : Result (Unit {0}) StoreFault) → IsEnded s after closed → Ends s after closed
how_ended s after closed ended = go s.broken refl closed refl
  where
    go : (o : Option StoreFault) → s.broken ≡ o → (r : Result (Unit {0}) StoreFault) → closed ≡ r → Ends s after closed
    go (Some fault) is r e = let b = subst (λ o. IfSome o (λ fault. (closed ≡ Err fault) × (after ≡ s.disk))) is ended.broken in was_broken fault is b.0 b.1
    go None is (Ok done) e = has_ended is e (subst (λ r. OnOk r (after ≡ record (s.disk) { told = after.told })) e (ended.counts is))
    go None is (Err fault) e = has_failed fault is e (subst (λ r. IfErr r (SomeChangeFailed (IsOfSession s.layers) s.disk after)) e (ended.fails is))

-- where content isn't told before the end it isn't told behind it
pub end_untold : (s : Session) (after : Disk) (closed : Result (Unit {0}) StoreFault) → IsEnded s after closed → s.disk.told ≡ None → after.told ≡ None
end_untold s after closed ended none = go (how_ended s after closed ended)
  where
    go : Ends s after closed → after.told ≡ None
    go (was_broken fault is e same) = ap (λ (d : Disk). d.told) same ∙ none
    go (has_ended is e counts) = both_untold _ s.disk.told after.told none (ended.told is)
    go (has_failed fault is e fails) = both_untold _ s.disk.told after.told none (ended.told is)

-- ---- the counts

-- a failed read stays counted where a change fails
counts_beside : (old new : Disk) (fault other : StoreFault) → Counts old fault → fault.count ≡ old.failed_reads fault.file → FailsToChange other.file old new other → Counts new fault
counts_beside old new fault other c read fails = record {
  within = subst (λ n. fault.file < n) (sym (ap (λ (d : Disk). d.files) fails.stays)) c.within;
  some = c.some;
  counted = inl (read ∙ sym (ap (λ (d : Disk). d.failed_reads fault.file) fails.stays));
}

module _ (told : List Told) (before behind : Session) (after : Disk) (closed : Result (Unit {0}) StoreFault) (counts : CountsFaults told before behind) (ended : IsEnded behind after closed) where
  -- the last fault that refused a line
  last_by : (o : Option StoreFault) → Ends behind after closed → IfSome o (Counts behind.disk) → (behind.broken ≡ None → IfSome o (λ fault. fault.count ≡ behind.disk.failed_reads fault.file)) → IfSome o (Counts after)
  last_by None ends c read = tt
  last_by (Some fault) (was_broken other is e same) c read = subst (λ d. Counts d fault) (sym same) c
  last_by (Some fault) (has_ended is e quiet) c read = counts_still behind.disk after fault quiet c
  last_by (Some fault) (has_failed other is e failed) c read = counts_beside behind.disk after fault other c (read is) failed.fails

  pub last_counted : IfSome (last_fault told) (Counts after)
  last_counted = last_by (last_fault told) (how_ended behind after closed ended) counts.last counts.unbroken

  -- the fault of the end
  pub end_counted : 0 < before.disk.files → IfErr closed (Counts after)
  end_counted some = go (how_ended behind after closed ended)
    where
      go : Ends behind after closed → IfErr closed (Counts after)
      go (was_broken fault is e same) =
          let last : last_fault told ≡ Some fault = subst (λ o. IfSome o (λ fault. last_fault told ≡ Some fault)) is counts.broken in
          let counted : Counts behind.disk fault = subst (λ o. IfSome o (Counts behind.disk)) last counts.last in
          subst (λ r. IfErr r (Counts after)) (sym e) (subst (λ d. Counts d fault) (sym same) counted)
      go (has_ended is e quiet) = subst (λ r. IfErr r (Counts after)) (sym e) tt
      go (has_failed fault is e failed) = subst (λ r. IfErr r (Counts after)) (sym e) (counts_change fault.file behind.disk after fault failed.within failed.fails)

  -- with neither the counts stay
  pub quiet_end : last_fault told ≡ None → OnOk closed (after ≡ record (before.disk) { told = after.told })
  quiet_end none = go (how_ended behind after closed ended)
    where
      go : Ends behind after closed → OnOk closed (after ≡ record (before.disk) { told = after.told })
      go (was_broken fault is e same) = subst (λ r. OnOk r (after ≡ record (before.disk) { told = after.told })) (sym e) tt
      go (has_ended is e quiet) = subst (λ r. OnOk r (after ≡ record (before.disk) { told = after.told })) (sym e) (counts_join before.disk behind.disk after (counts.quiet none) quiet)
      go (has_failed fault is e fails) = subst (λ r. OnOk r (after ≡ record (before.disk) { told = after.told })) (sym e) tt

-- ---- what was told of faults

-- a fault that a line was told stays so where no count falls
fault_later : (files : ℕ) (a b : Disk) (o p : Option StoreFault) → files ≡ a.files → ((n : ℕ) → a.failed_reads n ≤ b.failed_reads n) → ((fault : StoreFault) → o ≡ Some fault → p ≡ Some fault) → (t : Told) → IfErr t (IsFaultOf a.files a.failed_reads o) → IfErr t (IsFaultOf files b.failed_reads p)
fault_later files a b o p there reads broke (Ok done) h = tt
fault_later files a b o p there reads broke (Err (Broken file count)) h = broke (record { file = file; count = count }) h
fault_later files a b o p there reads broke (Err (ReadFault file count)) h = (omega (arith, h.0, there), h.1, omega (arith, h.2, reads file))
fault_later files a b o p there reads broke (Err EmptyRange) h = tt
fault_later files a b o p there reads broke (Err (OutOfRange first count sectors)) h = tt
fault_later files a b o p there reads broke (Err (TooLong count limit)) h = tt
fault_later files a b o p there reads broke (Err ReadOnly) h = tt
fault_later files a b o p there reads broke (Err (Spent t)) h = tt
fault_later files a b o p there reads broke (Err (FileFull next)) h = tt
fault_later files a b o p there reads broke (Err NoMerge) h = tt
fault_later files a b o p there reads broke (Err (Stale taken at)) h = tt
fault_later files a b o p there reads broke (Err (NotYet stripe)) h = tt
fault_later files a b o p there reads broke (Err (Abandoned file count)) h = tt
fault_later files a b o p there reads broke (Err (NoStripe stripe stripes)) h = tt
fault_later files a b o p there reads broke (Err NoPiece) h = tt
fault_later files a b o p there reads broke (Err NoRoom) h = tt

faults_later : (files : ℕ) (a b : Disk) (o p : Option StoreFault) → files ≡ a.files → ((n : ℕ) → a.failed_reads n ≤ b.failed_reads n) → ((fault : StoreFault) → o ≡ Some fault → p ≡ Some fault) → (told : List Told) → AllByRecursion (λ t. IfErr t (IsFaultOf a.files a.failed_reads o)) told
    → AllByRecursion (λ t. IfErr t (IsFaultOf files b.failed_reads p)) told
faults_later files a b o p there reads broke [] h = tt
faults_later files a b o p there reads broke (t ∷ told) h = (fault_later files a b o p there reads broke t h.0, faults_later files a b o p there reads broke told h.1)

same_reads : (a b : Disk) → b.failed_reads ≡ a.failed_reads → (n : ℕ) → a.failed_reads n ≤ b.failed_reads n
same_reads a b same n = let e : b.failed_reads n ≡ a.failed_reads n = ap (λ (f : ℕ → ℕ). f n) same in omega (arith, e)

change_is : (old new : Disk) (fault : StoreFault) → fault.file < old.files → FailsToChange fault.file old new fault → IsFailedChange old.files new.failed_changes fault
change_is old new fault there c =
    (there, (counts_change fault.file old new fault there c).some, c.count.told)

module _ (told : List Told) (before behind : Session) (after : Disk) (closed : Result (Unit {0}) StoreFault) (counts : CountsFaults told before behind) (ended : IsEnded behind after closed) where
  pub faults_told : FaultsAreTold told (failed_by closed) before.disk.files before.disk.failed_changes after.failed_reads after.failed_changes
  faults_told = go (how_ended behind after closed ended)
    where
      go : Ends behind after closed → FaultsAreTold told (failed_by closed) before.disk.files before.disk.failed_changes after.failed_reads after.failed_changes
      go (was_broken fault is e same) =
          let by : failed_by closed ≡ Some fault = ap failed_by e in
          record {
            each = faults_later before.disk.files behind.disk after behind.broken (failed_by closed) (sym counts.files) (same_reads behind.disk after (ap (λ (d : Disk). d.failed_reads) same)) (λ other b. by ∙ sym is ∙ b) told counts.each;
            end = subst (λ o. IfSome o (IsFailedChange before.disk.files after.failed_changes)) (sym by)
                (subst (λ n. IsFailedChange n after.failed_changes fault) counts.files
                (subst (λ (d : Disk). IsFailedChange behind.disk.files d.failed_changes fault) (sym same) (subst (λ o. IfSome o (IsFailedChange behind.disk.files behind.disk.failed_changes)) is counts.change)));
            none = λ none. absurd (never fault _ by none);
          }
      go (has_ended is e quiet) =
          let by : failed_by closed ≡ None = ap failed_by e in
          record {
            each = faults_later before.disk.files behind.disk after behind.broken (failed_by closed) (sym counts.files) (same_reads behind.disk after (ap (λ (d : Disk). d.failed_reads) quiet)) (λ other b. absurd (never other _ b is)) told counts.each;
            end = subst (λ o. IfSome o (IsFailedChange before.disk.files after.failed_changes)) (sym by) tt;
            none = λ none. ap (λ (d : Disk). d.failed_changes) quiet ∙ counts.none is;
          }
      go (has_failed fault is e failed) =
          let by : failed_by closed ≡ Some fault = ap failed_by e in
          record {
            each = faults_later before.disk.files behind.disk after behind.broken (failed_by closed) (sym counts.files) (same_reads behind.disk after (ap (λ (d : Disk). d.failed_reads) failed.fails.stays)) (λ other b. absurd (never other _ b is)) told counts.each;
            end = subst (λ o. IfSome o (IsFailedChange before.disk.files after.failed_changes)) (sym by) (subst (λ n. IsFailedChange n after.failed_changes fault) counts.files (change_is behind.disk after fault failed.within failed.fails));
            none = λ none. absurd (never fault _ by none);
          }
