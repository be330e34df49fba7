-- What is missing of a merge is copied, and it is finished.
use Rattle.std.proofs.Common.{◌≡◌, ◌≢◌, ◌+◌, ◌<◌, ◌≤◌, ◌^◌, ◌⊎◌, ℕ, Bool, true, false, [], Option, Some, None, Result, Ok, Err, inl, inr, refl, sym, ap, ap₂, subst, ◌∙◌, ◌*◌, ◌==◌, arith, ltb-false, ltb-true}
use Rattle.std.specs.Prelude.{⊤, ◌||◌, IfErr, IfSome, OnOk, if◌then◌else◌, is_some, nat_lt}
use Rattle.std.proofs.lemmas.Bool.{eqb-false, lt-ltb}
use Rattle.std.specs.Prelude.{◌&&◌, nat_le}
use Rattle.std.proofs.lemmas.Bool.{cases_lt, le-leb}
use Rattle.chain_model.specs.Merges.{with_marks}
use Rattle.chain_core.specs.Skipping.{HasPassed, MarksRun, MarksRunToo}
use Rattle.script_session.specs.MergeSteps.{AnswersSkip, passed_over}
use Rattle.shared_chain.proofs.Stepping.{skip_step}
use Rattle.store_model.specs.Disk.{Disk, WhereTold}
use Rattle.store_model.specs.declared.fault.StoreFault.{StoreFault}
use Rattle.ledger.specs.declared.ledger.Ledger.{Ledger}
use Rattle.guest_model.specs.declared.refusal.ChainRefusal.{ChainRefusal}
use Rattle.guest_model.specs.declared.refusal.ChainRefusal.TheVariants.{Abandoned, Broken, EmptyRange, FileFull, NoMerge, NoPiece, NoRoom, NoStripe, NotYet, OutOfRange, ReadFault, ReadOnly, Spent, Stale, TooLong}
use Rattle.guest_model.specs.History.{History}
use Rattle.store_model.specs.Cause.{RoseAt}
use Rattle.chain_model.specs.Merges.{AllMarked, with_mark}
use Rattle.chain_model.specs.Stripes.{stripe_count}
use Rattle.merge_core.specs.declared.marks.Marks.{Marks}
use Rattle.merge_core.specs.declared.piece.Piece.{Piece}
use Rattle.merge_core.specs.Copied.{IsLowest, marks_of}
use Rattle.vx_base.specs.declared.parts.Geometry.{Geometry}
use Rattle.chain_core.specs.declared.chain.Chain.{Chain}
use Rattle.chain_core.specs.declared.layers.Layers.{Layers}
use Rattle.chain_core.specs.declared.layers.Retiring.{Retiring}
use Rattle.chain_core.specs.declared.layers.Underway.{Underway}
use Rattle.chain_core.specs.Answering.{fault_of}
use Rattle.chain_core.specs.Copying.{FetchCause, HasMarked, IfStopped, IsMissing, MarksIn, MarksToo, PutCause, fetch_refused, merge_refused, no_merge, no_stripe, past_stripes, put_refused, stale, stamp_in, stamp_of, unfilled}
use Rattle.chain_core.specs.Finished.{FinishCause}
use Rattle.chain_core.specs.Refusing.{broken_by, or_else, unfit}
use Rattle.chain_core.specs.Sessions.{HasNoMerge, IsSound, KeepsMerge, Session, has_merge, kept_marks, marks_in}
use Rattle.chain_core.specs.States.{IsServing, State}
use Rattle.layer_session.proofs.Equal.{none_some, ok_err, some_none, some_same, true_false}
use Rattle.script_session.specs.MergeSteps.{AnswersCopy, AnswersFetch, AnswersFinish, AnswersPut, AnswersTurn, AnswersTurns, EndsCopy, IsNext, IsUnchanged, KeepsHistory, all_moved, fetched_and, no_turn, not_fetched, one_more, one_refused}
use Rattle.script_session.specs.StepsLeft.{IsFullAt}
use Rattle.script_session.proofs.Copying.{never_stale}
use Rattle.script_session.proofs.Moving.{ok_reached, parts_none}
use Rattle.script_session.proofs.Room.{each_stripe}
use Rattle.script_session.proofs.Telling.{both_told}
use Rattle.script_session.proofs.Turns.{sound_of, turn_events}
use Rattle.shared_chain.specs.declared.basis.Breach.{Breach}
use Rattle.shared_chain.specs.declared.basis.Note.TheVariants as notes
use Rattle.shared_chain.specs.Bases.{notes_in, notes_of}
use Rattle.shared_chain.specs.Ends.{EndsMerge, copy_stopped, finish_done, finish_stopped, none_found, none_left}
use Rattle.shared_chain.specs.Faults.{fault_after}
use Rattle.shared_chain.specs.Homes.{Follows, IsHome, session_of}
use Rattle.shared_chain.specs.Merging.{IsMerged, IsStepped, MergeStep, StopsEnd, as_answer, copied_behind, ends, finished_behind, most_events}
use Rattle.shared_chain.specs.Notes.{HasNote, NotesBy, full_after, noted_in}
use Rattle.shared_chain.specs.Shared.{Shared}
use Rattle.shared_chain.specs.Steps.{broke_after, merge_breach}
use Rattle.shared_chain.proofs.Noting.{IsChange, Stays, noted}
use Rattle.shared_chain.proofs.Stepping.{IsAptFrom, IsQuiet, StepOf, finish_quiet, finish_step, home_quiet, home_step, keeps_both, quiet_change, same_err, step_change, turn_step}

-- ---- what one or more steps carry on

pub record Carries (h : History) (first old new : Session) (answer : Result (Unit {0}) ChainRefusal) : Type 0 where
  pub keeps : KeepsHistory old new
  pub later : old.events ≤ new.events
  pub change : IsChange (as_answer answer) old.disk new.disk old.broken new.broken
  pub home : (full : Option ℕ) (broke : Option Breach) (fault : Option StoreFault) → IsHome first old h full broke fault
      → IsHome first new h (full_after full (as_answer answer)) (broke_after broke merge_breach (as_answer answer)) (fault_after fault (as_answer answer))

pub carries_apt : (h : History) (Apt : State → Type 0) (first old new : Session) (answer : Result (Unit {0}) ChainRefusal) → IsSound new → StepOf Apt old new answer → IsAptFrom Apt first h → Carries h first old new answer
carries_apt h Apt first old new answer sound s apt = record {
  keeps = s.keeps;
  later = s.later;
  change = step_change old new answer s;
  home = λ full broke fault home. home_step first old new h full broke fault answer sound s apt home;
}

pub carries_step : (h : History) (first old new : Session) (answer : Result (Unit {0}) ChainRefusal) → IsSound new → StepOf (λ v. ⊤) old new answer → Carries h first old new answer
carries_step h first old new answer sound s = carries_apt h (λ v. ⊤) first old new answer sound s (λ t told from to serving empty comes. tt)

carries_none : (h : History) (first old : Session) → Carries h first old old (Ok tt)
carries_none h first old = record { keeps = record { noted = refl; told = refl; geometry = refl; session = refl }; later = omega arith; change = (refl, refl, refl); home = λ full broke fault home. home }

change_behind : (a b c : Disk) (x y z : Option StoreFault) (answer : Result ℕ ChainRefusal) → Stays a b x y → IsChange answer b c y z → IsChange answer a c x z
change_behind a b c x y z answer s = go answer
  where
    stays : Stays b c y z → Stays a c x z
    stays t = (t.0 ∙ s.0, t.1 ∙ s.1, t.2 ∙ s.2)

    go : (answer : Result ℕ ChainRefusal) → IsChange answer b c y z → IsChange answer a c x z
    go (Ok place) t = stays t
    go (Err EmptyRange) t = stays t
    go (Err (OutOfRange p q r)) t = stays t
    go (Err (TooLong p q)) t = stays t
    go (Err ReadOnly) t = stays t
    go (Err (Broken file count)) t = (t.0 ∙ s.0, t.1 ∙ s.1, t.2, subst (λ o. (o ≡ None) ⊎ (o ≡ z)) s.2 t.3)
    go (Err (Spent n)) t = stays t
    go (Err (FileFull next)) t = stays t
    go (Err (ReadFault file count)) t = (
      subst (λ n. file < n) s.1 t.0,
      t.1 ∙ s.1,
      subst (λ f. RoseAt file count f c.failed_reads) s.0 t.2,
      t.3 ∙ s.2,
    )
    go (Err NoMerge) t = stays t
    go (Err (Stale p q)) t = stays t
    go (Err (NotYet stripe)) t = stays t
    go (Err (Abandoned file count)) t = stays t
    go (Err (NoStripe p q)) t = stays t
    go (Err NoPiece) t = stays t
    go (Err NoRoom) t = stays t

carries_then : (h : History) (first old mid new : Session) (answer : Result (Unit {0}) ChainRefusal) → Carries h first old mid (Ok tt) → Carries h first mid new answer → Carries h first old new answer
carries_then h first old mid new answer a b = record {
  keeps = keeps_both old mid new a.keeps b.keeps;
  later = omega (arith, a.later, b.later);
  change = change_behind old.disk mid.disk new.disk old.broken mid.broken new.broken (as_answer answer) a.change b.change;
  home = λ full broke fault home. b.home full broke fault (a.home full broke fault home);
}

carries_turns : (h : History) (first old : Session) (slot : Piece) (new : Session) (left : Piece) → AnswersTurns old slot new left → IsSound new → Carries h first old new (Ok tt)
carries_turns h first old slot _ _ no_turn sound = carries_none h first old
carries_turns h first old slot new left (passed_over stripe n mid _ held _ turns next skip empty) sound =
    carries_then h first old mid new (Ok tt) (carries_turns h first old slot mid held turns skip.sound) (carries_step h first mid new (Ok tt) sound (skip_step stripe n mid new skip))
carries_turns h first old slot new left (one_more stripe mid _ held _ turns next turn empty) sound =
    carries_then h first old mid new (Ok tt) (carries_turns h first old slot mid held turns (sound_of stripe (Ok tt) mid new turn)) (carries_step h first mid new (Ok tt) sound (turn_step stripe (Ok tt) mid new turn))

ends_carry : (h : History) (first old : Session) (slot : Piece) (answer : Result (Unit {0}) ChainRefusal) (new : Session) (left : Piece) → EndsCopy old slot answer new left → IsSound new → Carries h first old new answer
ends_carry h first old slot _ _ _ (all_moved new left turns sound missing) s = carries_turns h first old slot new left turns sound
ends_carry h first old slot _ new left (one_refused e stripe mid _ held _ turns next turn empty) sound =
    carries_then h first old mid new (Err e) (carries_turns h first old slot mid held turns (sound_of stripe (Err e) mid new turn)) (carries_step h first mid new (Err e) sound (turn_step stripe (Err e) mid new turn))

unchanged_self : (s : Session) → IsUnchanged s s
unchanged_self s = refl

copy_carries : (h : History) (first old : Session) (slot : Piece) (answer : Result (Unit {0}) ChainRefusal) (new : Session) (left : Piece) → AnswersCopy answer old slot new left → IsSound new → Carries h first old new answer
copy_carries h first old slot answer new left a sound = go (merge_refused old) refl
  where
    go : (o : Option ChainRefusal) → merge_refused old ≡ o → Carries h first old new answer
    go None is = ends_carry h first old slot answer new left (a.turns is) sound
    go (Some e) is =
        let early = subst (λ o. IfStopped {T = Unit {0}} o answer ((new ≡ old) × (left ≡ slot))) is a.early in
        let q = finish_quiet old e is in
        subst (Carries h first old new) (sym early.0)
        (subst (λ s. Carries h first old s (Err e)) (sym early.1.0)
        (record {
          keeps = record { noted = refl; told = refl; geometry = refl; session = refl };
          later = omega arith;
          change = quiet_change old.disk old.disk old.broken old.broken e refl refl q;
          home = λ full broke fault home. home_quiet first old old h full broke fault home home.sound (unchanged_self old) e q;
        }))

pub end_carries : (h : History) (first old : Session) (slot : Piece) (new : Session) (answer : Result (Unit {0}) ChainRefusal) → EndsMerge old slot new answer → IsSound new → Carries h first old new answer
end_carries h first old slot new _ (none_found left a) sound =
    let c = copy_carries h first old slot (Err NoMerge) new left a sound in record { keeps = c.keeps; later = c.later; change = c.change; home = c.home }
end_carries h first old slot new _ (none_left mid left s a f) sound =
    let c = carries_then h first old mid new (Err NoMerge) (copy_carries h first old slot (Ok tt) mid left a s) (carries_step h first mid new (Err NoMerge) sound (finish_step (Err NoMerge) mid new f)) in
    record { keeps = c.keeps; later = c.later; change = c.change; home = c.home }
end_carries h first old slot new _ (copy_stopped left x other a) sound = copy_carries h first old slot (Err x) new left a sound
end_carries h first old slot new _ (finish_done mid left s a f) sound = carries_then h first old mid new (Ok tt) (copy_carries h first old slot (Ok tt) mid left a s) (carries_step h first mid new (Ok tt) sound (finish_step (Ok tt) mid new f))
end_carries h first old slot new _ (finish_stopped mid left x other s a f) sound =
    carries_then h first old mid new (Err x) (copy_carries h first old slot (Ok tt) mid left a s) (carries_step h first mid new (Err x) sound (finish_step (Err x) mid new f))

-- ---- what a step leaves of the shared chain

module _ {S T : Type 0} (disk : S → Disk) (old new first : Chain S Ledger T) (answer : Result (Unit {0}) ChainRefusal) (full full' : Option ℕ) (broke broke' : Option Breach) (fault fault' : Option StoreFault) (copied copied' : Marks) (finished finished' : Bool) (full_is : full' ≡ full_after full (as_answer answer))
    (broke_is : broke' ≡ broke_after broke merge_breach (as_answer answer)) (fault_is : fault' ≡ fault_after fault (as_answer answer)) (c : Carries old.recorder (session_of disk first) (session_of disk old) (session_of disk new) answer) where
  abbrev was : Shared (Chain S Ledger T)
  was = record { chain = old; first = first; full = full; broke = broke; fault = fault; copied = copied; finished = finished }

  abbrev now : Shared (Chain S Ledger T)
  now = record { chain = new; first = first; full = full'; broke = broke'; fault = fault'; copied = copied'; finished = finished' }

  history : new.recorder ≡ old.recorder
  history = some_same {x = new.recorder} {y = old.recorder} c.keeps.told

  stepped : (step : MergeStep) → new.events ≤ old.events + most_events step → copied'.stripes ≡ copied.stripes → ((t : ℕ) → marks_of copied' t ≡ copied_behind step answer copied t) → finished' ≡ finished_behind step answer finished
      → IsStepped disk step was now answer
  stepped step few stripes_are copied_are finished_is = record {
    first = refl;
    history = history;
    broke = broke_is;
    fault = fault_is;
    full = full_is;
    later = c.later;
    few = few;
    stripes = stripes_are;
    copied = copied_are;
    finished = finished_is;
    noted =
        subst (λ f. NotesBy (as_answer answer) (notes_of disk was) (notes_in (disk new.store) new.broken f)) (sym full_is)
        (noted (disk old.store) (disk new.store) old.broken new.broken full (as_answer answer) c.change);
  }

  pub stepped_as : (step : MergeStep) → new.events ≤ old.events + most_events step → copied'.stripes ≡ copied.stripes → ((t : ℕ) → marks_of copied' t ≡ copied_behind step answer copied t) → finished' ≡ finished_behind step answer finished
      → (seen : Shared (Chain S Ledger T)) → was ≡ seen → IsStepped disk step seen now answer
  stepped_as step few stripes_are copied_are finished_is seen is = subst (λ s. IsStepped disk step s now answer) is (stepped step few stripes_are copied_are finished_is)

  pub home_as : IsHome (session_of disk first) (session_of disk old) old.recorder full broke fault → IsHome (session_of disk first) (session_of disk new) new.recorder full' broke' fault'
  home_as home =
      subst (λ k. IsHome (session_of disk first) (session_of disk new) k full' broke' fault') (sym history)
      (subst (λ f. IsHome (session_of disk first) (session_of disk new) old.recorder full' broke' f) (sym fault_is)
      (subst (λ b. IsHome (session_of disk first) (session_of disk new) old.recorder full' b (fault_after fault (as_answer answer))) (sym broke_is)
      (subst (λ n. IsHome (session_of disk first) (session_of disk new) old.recorder n (broke_after broke merge_breach (as_answer answer)) (fault_after fault (as_answer answer))) (sym full_is)
      (c.home full broke fault home))))

-- ---- none is under way

pub has_none : (layers : Layers) → no_merge layers ≡ Some NoMerge → HasNoMerge layers
has_none layers = go layers.merge layers.retiring
  where
    go : (o : Option Underway) (r : Option Retiring) → ◌≡◌ {A = Option ChainRefusal} (if is_some o || is_some r then None else Some NoMerge) (Some NoMerge) → (o ≡ None) × (r ≡ None)
    go None None is = (refl, refl)
    go (Some u) r is = absurd (none_some is)
    go None (Some r) is = absurd (none_some is)

-- of what refuses a step only the last cause is that there is no merge
none_by : (events : ℕ) (broken : Option StoreFault) (later : Option ChainRefusal) → or_else (unfit events broken) later ≡ Some NoMerge → later ≡ Some NoMerge
none_by events broken later = go (nat_lt events (2 ^ 63)) broken
  where
    go : (b : Bool) (o : Option StoreFault) → or_else (if b then broken_by o else Some (Spent events)) later ≡ Some NoMerge → later ≡ Some NoMerge
    go false o is = let bad : Spent events ≡ NoMerge = some_same {x = Spent events} {y = NoMerge} is in cc
    go true None is = is
    go true (Some f) is = let bad : Broken f.file f.count ≡ NoMerge = some_same {x = Broken f.file f.count} {y = NoMerge} is in cc

marks_there : (layers : Layers) → no_merge layers ≡ None → (m : Marks) × (kept_marks layers ≡ Some m)
marks_there layers = go layers.merge layers.retiring
  where
    go : (o : Option Underway) (r : Option Retiring) → ◌≡◌ {A = Option ChainRefusal} (if is_some o || is_some r then None else Some NoMerge) None → (m : Marks) × (marks_in o r ≡ Some m)
    go None None is = absurd (some_none is)
    go (Some u) r is = (u.marks, refl)
    go None (Some r) is = (r.marks, refl)

-- ---- what stops the end of a merge

pub data EndsBy (new : Session) : ChainRefusal → Type 0 where
  by_spent : (t : ℕ) → 2 ^ 63 ≤ t → t ≤ new.events → EndsBy new (Spent t)
  by_broken : (file count : ℕ) → new.broken ≡ Some (fault_of file count) → EndsBy new (Broken file count)
  by_read : (file count : ℕ) → has_merge new.layers ≡ true → EndsBy new (ReadFault file count)
  by_full : (next : ℕ) → has_merge new.layers ≡ true → EndsBy new (FileFull next)

-- it is one of these
abbrev IsEnd : ChainRefusal → Type 0
IsEnd (Spent t) = ⊤
IsEnd (Broken file count) = ⊤
IsEnd (ReadFault file count) = ⊤
IsEnd (FileFull next) = ⊤
IsEnd other = ⊥

is_end : (new : Session) (x : ChainRefusal) → EndsBy new x → IsEnd x
is_end new _ (by_spent t high low) = tt
is_end new _ (by_broken file count is) = tt
is_end new _ (by_read file count has) = tt
is_end new _ (by_full next has) = tt

-- a cause that is there before a merge is looked for
unfit_ends : (events : ℕ) (broken : Option StoreFault) (new : Session) (x : ChainRefusal) → events ≤ new.events → new.broken ≡ broken → unfit events broken ≡ Some x → EndsBy new x
unfit_ends events broken new x later still is = go (nat_lt events (2 ^ 63)) refl broken refl is
  where
    go : (b : Bool) → nat_lt events (2 ^ 63) ≡ b → (o : Option StoreFault) → broken ≡ o → (if b then broken_by o else Some (Spent events)) ≡ Some x → EndsBy new x
    go false e o b is = subst (EndsBy new) (some_same {x = Spent events} {y = x} is) (by_spent events (let high = ltb-false events (2 ^ 63) e in omega (arith, high)) later)
    go true e None b is = absurd (none_some is)
    go true e (Some f) b is = subst (EndsBy new) (some_same {x = Broken f.file f.count} {y = x} is) (by_broken f.file f.count (still ∙ b))

-- of a broken session it is the first
unfit_first : (events : ℕ) (f : StoreFault) (later : Option ChainRefusal) (x : ChainRefusal) → or_else (unfit events (Some f)) later ≡ Some x → unfit events (Some f) ≡ Some x
unfit_first events f later x = go (nat_lt events (2 ^ 63))
  where
    go : (b : Bool) → or_else (if b then broken_by (Some f) else Some (Spent events)) later ≡ Some x → (if b then broken_by (Some f) else Some (Spent events)) ≡ Some x
    go true is = is
    go false is = is

or_none : (o : Option ChainRefusal) → or_else o None ≡ o
or_none None = refl
or_none (Some x) = refl

early_ends : (s new : Session) (later : Option ChainRefusal) (x : ChainRefusal) → s.events ≤ new.events → new.broken ≡ s.broken → (s.broken ≡ None → later ≡ None) → or_else (unfit s.events s.broken) later ≡ Some x → EndsBy new x
early_ends s new later x grown still none is = go s.broken refl
  where
    go : (o : Option StoreFault) → s.broken ≡ o → EndsBy new x
    go None whole = unfit_ends s.events s.broken new x grown still (sym (or_none (unfit s.events s.broken)) ∙ ap (or_else (unfit s.events s.broken)) (sym (none whole)) ∙ is)
    go (Some f) broken =
        unfit_ends s.events s.broken new x grown still
        (ap (unfit s.events) broken ∙ unfit_first s.events f later x (ap (λ o. or_else (unfit s.events o) later) (sym broken) ∙ is))

-- where it is none the session isn't broken
pub whole_by : (events : ℕ) (broken : Option StoreFault) → unfit events broken ≡ None → broken ≡ None
whole_by events broken = go (nat_lt events (2 ^ 63)) broken
  where
    go : (b : Bool) (o : Option StoreFault) → (if b then broken_by o else Some (Spent events)) ≡ None → o ≡ None
    go false o is = absurd (some_none is)
    go true None is = refl
    go true (Some f) is = absurd (some_none is)

-- or there is no merge
other_ends : (s new : Session) (x : ChainRefusal) → x ≢ NoMerge → s.events ≤ new.events → new.broken ≡ s.broken → merge_refused s ≡ Some x → EndsBy new x
other_ends s new x other grown still is = go (unfit s.events s.broken) refl
  where
    none_else : (b : Bool) → (if b then None else Some NoMerge) ≡ Some x → x ≡ NoMerge
    none_else true e = absurd (none_some e)
    none_else false e = sym (some_same {x = NoMerge} {y = x} e)

    go : (o : Option ChainRefusal) → unfit s.events s.broken ≡ o → EndsBy new x
    go (Some e) first = unfit_ends s.events s.broken new x grown still (first ∙ ap (λ o. or_else o (no_merge s.layers)) (sym first) ∙ is)
    go None first = absurd (other (none_else (has_merge s.layers) (ap (λ o. or_else o (no_merge s.layers)) (sym first) ∙ is)))

-- ---- a turn of a copy

merge_kept : (m : Marks) (layers : Layers) → kept_marks layers ≡ Some m → has_merge layers ≡ true
merge_kept m layers = go layers.merge layers.retiring
  where
    go : (o : Option Underway) (r : Option Retiring) → marks_in o r ≡ Some m → (is_some o || is_some r) ≡ true
    go None None is = absurd (none_some is)
    go (Some u) r is = refl
    go None (Some r) is = refl

-- the lowest stripe that is missing is one of the merge
next_fits : (stripe : ℕ) (s : Session) → IsSound s → s.broken ≡ None → IsNext stripe s → no_stripe stripe s.layers ≡ None
next_fits stripe s sound whole next = go (kept_marks s.layers) refl next.missing
  where
    go : (o : Option Marks) → kept_marks s.layers ≡ o → IsMissing o (Some stripe) → no_stripe stripe s.layers ≡ None
    go None is missing = absurd (some_none missing)
    go (Some m) is missing =
        let each : m.stripes ≡ stripe_count s.layers.geometry.sector s.layers.geometry.sectors = each_stripe s.layers s.disk m (sound.ready whole) is in
        let low : IsLowest m.stripes (marks_of m) stripe = missing in
        ap (λ b. if b then past_stripes stripe (stripe_count s.layers.geometry.sector s.layers.geometry.sectors) else Some NoMerge) (merge_kept m s.layers is)
        ∙ ap (λ b. if b then None else Some (NoStripe stripe (stripe_count s.layers.geometry.sector s.layers.geometry.sectors))) (lt-ltb stripe (stripe_count s.layers.geometry.sector s.layers.geometry.sectors) (subst (λ n. stripe < n) each low.there))

-- a stripe is one of a merge that is under way
pub stripe_has : (stripe : ℕ) (layers : Layers) → no_stripe stripe layers ≡ None → has_merge layers ≡ true
stripe_has stripe layers is = go (has_merge layers) refl
  where
    go : (b : Bool) → has_merge layers ≡ b → has_merge layers ≡ true
    go true e = e
    go false e = absurd (some_none (sym (ap (λ b. if b then past_stripes stripe (stripe_count layers.geometry.sector layers.geometry.sectors) else Some NoMerge) e) ∙ is))

has_still : (old new : Layers) → KeepsMerge old new → has_merge old ≡ true → has_merge new ≡ true
has_still old new k has = ap₂ (λ (o : Option Underway) (r : Option Retiring). is_some o || is_some r) k.0 k.1 ∙ has

-- what was just fetched can be put
module _ (stripe stamp : ℕ) (old mid : Session) (piece : Piece) (h : AnswersFetch stripe (Ok stamp) old mid piece) where
  found : no_stripe stripe old.layers ≡ None
  found = (parts_none (unfit old.events old.broken) (no_stripe stripe old.layers) (ok_reached _ (fetch_refused stripe old) stamp h.early)).1

  there : has_merge old.layers ≡ true
  there = stripe_has stripe old.layers found

  same_merge : has_merge mid.layers ≡ true
  same_merge = has_still old.layers mid.layers h.merge there

  can_put : or_else (no_merge mid.layers) (or_else (unfilled piece) (or_else (no_stripe piece.stripe mid.layers) (stale piece.stamp (stamp_of mid.layers piece.stripe)))) ≡ None
  can_put =
      let merge : no_merge mid.layers ≡ None = ap (λ b. if b then None else Some NoMerge) same_merge in
      let full : unfilled piece ≡ None = ap (λ b. if b then None else Some NoPiece) h.taken.filled in
      let within : no_stripe piece.stripe mid.layers ≡ None =
      ap₂ (λ (s : ℕ) (b : Bool). if b then past_stripes s (stripe_count mid.layers.geometry.sector mid.layers.geometry.sectors) else Some NoMerge) h.taken.stripe_is (same_merge ∙ sym there)
      ∙ ap (λ (g : Geometry). if has_merge old.layers then past_stripes stripe (stripe_count g.sector g.sectors) else Some NoMerge) h.keeps.geometry ∙ found in
      let stamp_now : stamp_of mid.layers piece.stripe ≡ piece.stamp = ap₂ stamp_in h.merge.1 h.taken.stripe_is ∙ sym h.taken.stamp_is in
      ap₂ or_else merge (ap₂ or_else full (ap₂ or_else within (ap (stale piece.stamp) stamp_now ∙ never_stale piece.stamp)))

put_ends : (piece : Piece) (old new : Session) (x : ChainRefusal) → has_merge old.layers ≡ true → PutCause piece old new (Err x) → EndsBy new x
put_ends piece old new EmptyRange has c = absurd c
put_ends piece old new (OutOfRange first count sectors) has c = absurd c
put_ends piece old new (TooLong count limit) has c = absurd c
put_ends piece old new ReadOnly has c = absurd c
put_ends piece old new (Broken file count) has c = by_broken file count c.3
put_ends piece old new (Spent t) has c = absurd c
put_ends piece old new (FileFull next) has c = by_full next (has_still old.layers new.layers c.0 has)
put_ends piece old new (ReadFault file count) has c = by_read file count (has_still old.layers new.layers c.0 has)
put_ends piece old new NoMerge has c = absurd c
put_ends piece old new (Stale taken at) has c = absurd c
put_ends piece old new (NotYet stripe) has c = absurd c
put_ends piece old new (Abandoned file count) has c = absurd c
put_ends piece old new (NoStripe stripe stripes) has c = absurd c
put_ends piece old new NoPiece has c = absurd c
put_ends piece old new NoRoom has c = absurd c

fetch_ends : (piece : Piece) (old new : Session) (x : ChainRefusal) → has_merge new.layers ≡ true → FetchCause old new piece (Err x) → EndsBy new x
fetch_ends piece old new EmptyRange has c = absurd c
fetch_ends piece old new (OutOfRange first count sectors) has c = absurd c
fetch_ends piece old new (TooLong count limit) has c = absurd c
fetch_ends piece old new ReadOnly has c = absurd c
fetch_ends piece old new (Broken file count) has c = absurd c
fetch_ends piece old new (Spent t) has c = absurd c
fetch_ends piece old new (FileFull next) has c = absurd c
fetch_ends piece old new (ReadFault file count) has c = by_read file count has
fetch_ends piece old new NoMerge has c = absurd c
fetch_ends piece old new (Stale taken at) has c = absurd c
fetch_ends piece old new (NotYet stripe) has c = absurd c
fetch_ends piece old new (Abandoned file count) has c = absurd c
fetch_ends piece old new (NoStripe stripe stripes) has c = absurd c
fetch_ends piece old new NoPiece has c = absurd c
fetch_ends piece old new NoRoom has c = absurd c

still_broken : (old new : Session) → IsUnchanged old new → new.broken ≡ old.broken
still_broken old new is = ap (λ (s : Session). s.broken) is

put_stops : (stripe stamp : ℕ) (old mid new : Session) (piece : Piece) (x : ChainRefusal) → AnswersFetch stripe (Ok stamp) old mid piece → AnswersPut piece (Err x) mid new → EndsBy new x
put_stops stripe stamp old mid new piece x h p = go (put_refused piece mid) refl
  where
    go : (o : Option ChainRefusal) → put_refused piece mid ≡ o → EndsBy new x
    go (Some e) is =
        let early = subst (λ o. IfStopped {T = Unit {0}} o (Err x) (IsUnchanged mid new)) is p.early in
        subst (EndsBy new) (sym (same_err {T = Unit {0}} x e early.0)) (early_ends mid new _ e p.later (still_broken mid new early.1) (λ whole. can_put stripe stamp old mid piece h) is)
    go None is = put_ends piece mid new x (same_merge stripe stamp old mid piece h) (p.cause is)

still_has : (stripe : ℕ) (answer : Result ℕ ChainRefusal) (old new : Session) (left : Piece) → AnswersFetch stripe answer old new left → fetch_refused stripe old ≡ None → has_merge new.layers ≡ true
still_has stripe answer old new left h fit = has_still old.layers new.layers h.merge (stripe_has stripe old.layers (parts_none (unfit old.events old.broken) (no_stripe stripe old.layers) fit).1)

fetch_stops : (stripe : ℕ) (old new : Session) (left : Piece) (x : ChainRefusal) → IsNext stripe old → AnswersFetch stripe (Err x) old new left → EndsBy new x
fetch_stops stripe old new left x next h = go (fetch_refused stripe old) refl
  where
    go : (o : Option ChainRefusal) → fetch_refused stripe old ≡ o → EndsBy new x
    go (Some e) is =
        let early = subst (λ o. IfStopped {T = ℕ} o (Err x) (IsUnchanged old new)) is h.early in
        subst (EndsBy new) (sym (same_err {T = ℕ} x e early.0)) (early_ends old new (no_stripe stripe old.layers) e h.later (still_broken old new early.1) (λ whole. next_fits stripe old h.sound whole next) is)
    go None is = fetch_ends left old new x (still_has stripe (Err x) old new left h is) (h.cause is)

turn_stops : (stripe : ℕ) (answer : Result (Unit {0}) ChainRefusal) (x : ChainRefusal) (old new : Session) → answer ≡ Err x → IsNext stripe old → AnswersTurn stripe answer old new → EndsBy new x
turn_stops stripe _ x _ _ is next (not_fetched e old new left h) = subst (EndsBy new) (same_err {T = Unit {0}} e x is) (fetch_stops stripe old new left e next h)
turn_stops stripe _ x _ _ is next (fetched_and answer stamp old mid new piece h p) = put_stops stripe stamp old mid new piece x h (subst (λ r. AnswersPut piece r mid new) is p)

-- ---- a copy

copy_cases : (answer : Result (Unit {0}) ChainRefusal) (x : ChainRefusal) (old : Session) (slot : Piece) (new : Session) (left : Piece) → answer ≡ Err x → EndsCopy old slot answer new left → EndsBy new x
copy_cases _ x old slot _ _ is (all_moved new left turns sound missing) = absurd (ok_err is)
copy_cases _ x old slot new left is (one_refused e stripe mid _ held _ turns next turn empty) = subst (EndsBy new) (same_err {T = Unit {0}} e x is) (turn_stops stripe (Err e) e mid new refl next turn)

copy_stops : (x : ChainRefusal) (old : Session) (slot : Piece) (new : Session) (left : Piece) → x ≢ NoMerge → AnswersCopy (Err x) old slot new left → EndsBy new x
copy_stops x old slot new left other h = go (merge_refused old) refl
  where
    go : (o : Option ChainRefusal) → merge_refused old ≡ o → EndsBy new x
    go (Some e) is =
        let early = subst (λ o. IfStopped {T = Unit {0}} o (Err x) ((new ≡ old) × (left ≡ slot))) is h.early in
        let same : x ≡ e = same_err {T = Unit {0}} x e early.0 in
        other_ends old new x other (let same : new.events ≡ old.events = ap (λ (s : Session). s.events) early.1.0 in omega (arith, same)) (ap (λ (s : Session). s.broken) early.1.0) (is ∙ ap Some (sym same))
    go None is = copy_cases (Err x) x old slot new left refl (h.turns is)

-- all stripes are copied behind it
copied_of : (old : Session) (slot : Piece) (new : Session) (left : Piece) → AnswersCopy (Ok tt) old slot new left → IsMissing (kept_marks new.layers) None
copied_of old slot new left h = go (merge_refused old) refl
  where
    ends : (answer : Result (Unit {0}) ChainRefusal) → answer ≡ Ok tt → EndsCopy old slot answer new left → IsMissing (kept_marks new.layers) None
    ends _ is (all_moved _ _ turns sound missing) = missing
    ends _ is (one_refused e stripe mid _ held _ turns next turn empty) = absurd (ok_err (sym is))

    go : (o : Option ChainRefusal) → merge_refused old ≡ o → IsMissing (kept_marks new.layers) None
    go (Some e) is = absurd (ok_err (subst (λ o. IfStopped {T = Unit {0}} o (Ok tt) ((new ≡ old) × (left ≡ slot))) is h.early).0)
    go None is = ends (Ok tt) refl (h.turns is)

-- ---- a finish

-- no stripe is the lowest without a mark where each has one
none_lowest : (t : ℕ) (layers : Layers) → no_merge layers ≡ None → IsMissing (kept_marks layers) None → IfSome (kept_marks layers) (λ m. IsLowest m.stripes (marks_of m) t) → ⊥
none_lowest t layers some missing low =
    let m = marks_there layers some in
    let all : AllMarked m.0.stripes (marks_of m.0) = subst (λ o. IsMissing o None) m.1 missing in
    let l : IsLowest m.0.stripes (marks_of m.0) t = subst (λ o. IfSome o (λ m. IsLowest m.stripes (marks_of m) t)) m.1 low in
    true_false (sym (all t l.there) ∙ l.unmarked)

finish_stops : (x : ChainRefusal) (old new : Session) → x ≢ NoMerge → IsMissing (kept_marks old.layers) None → AnswersFinish (Err x) old new → EndsBy new x
finish_stops x old new other missing h = go (merge_refused old) refl
  where
    by_cause : (x : ChainRefusal) → merge_refused old ≡ None → FinishCause old new (Err x) (IsUnchanged old new) → EndsBy new x
    by_cause EmptyRange is c = absurd c
    by_cause (OutOfRange first count sectors) is c = absurd c
    by_cause (TooLong count limit) is c = absurd c
    by_cause ReadOnly is c = absurd c
    by_cause (Broken file count) is c = by_broken file count c.broken
    by_cause (Spent t) is c = absurd c
    by_cause (FileFull next) is c = absurd c
    by_cause (ReadFault file count) is c = absurd c
    by_cause NoMerge is c = absurd c
    by_cause (Stale taken at) is c = absurd c
    by_cause (NotYet t) is c = absurd (none_lowest t old.layers (parts_none (unfit old.events old.broken) (no_merge old.layers) is).1 missing c.0)
    by_cause (Abandoned file count) is c = absurd c
    by_cause (NoStripe stripe stripes) is c = absurd c
    by_cause NoPiece is c = absurd c
    by_cause NoRoom is c = absurd c

    go : (o : Option ChainRefusal) → merge_refused old ≡ o → EndsBy new x
    go (Some e) is =
        let early = subst (λ o. IfStopped {T = Unit {0}} o (Err x) (IsUnchanged old new)) is h.early in
        other_ends old new x other h.later (still_broken old new early.1) (is ∙ ap Some (sym (same_err {T = Unit {0}} x e early.0)))
    go None is = by_cause x is (h.cause is)

-- it asks for no room
finish_full : (next : ℕ) (old new : Session) → AnswersFinish (Err (FileFull next)) old new → ⊥
finish_full next old new h = go (merge_refused old) refl
  where
    go : (o : Option ChainRefusal) → merge_refused old ≡ o → ⊥
    go (Some e) is =
        let early = subst (λ o. IfStopped {T = Unit {0}} o (Err (FileFull next)) (IsUnchanged old new)) is h.early in
        subst (IsQuiet old.broken) (sym (same_err {T = Unit {0}} (FileFull next) e early.0)) (finish_quiet old e is)
    go None is = h.cause is

pub finish_none : (answer : Result (Unit {0}) ChainRefusal) (old new : Session) → AnswersFinish answer old new → OnOk answer (HasNoMerge new.layers)
finish_none (Err x) old new h = tt
finish_none (Ok done) old new h = (h.cause (ok_reached _ (merge_refused old) tt h.early)).merge

-- a finish that found no merge
found_none : (old new : Session) → AnswersFinish (Err NoMerge) old new → HasNoMerge new.layers
found_none old new h = go (merge_refused old) refl
  where
    go : (o : Option ChainRefusal) → merge_refused old ≡ o → HasNoMerge new.layers
    go (Some e) is =
        let early = subst (λ o. IfStopped {T = Unit {0}} o (Err NoMerge) (IsUnchanged old new)) is h.early in
        let cause : merge_refused old ≡ Some NoMerge = is ∙ ap Some (sym (same_err {T = Unit {0}} NoMerge e early.0)) in
        subst (λ (s : Session). HasNoMerge s.layers) (sym early.1) (has_none old.layers (none_by old.events old.broken (no_merge old.layers) cause))
    go None is = absurd (h.cause is)

-- ---- the end

end_none : (old : Session) (slot : Piece) (new : Session) (answer : Result (Unit {0}) ChainRefusal) → EndsMerge old slot new answer → OnOk answer (HasNoMerge new.layers)
end_none old slot new _ (none_found left h) = go (merge_refused old) refl
  where
    go : (o : Option ChainRefusal) → merge_refused old ≡ o → HasNoMerge new.layers
    go (Some e) is =
        let early = subst (λ o. IfStopped {T = Unit {0}} o (Err NoMerge) ((new ≡ old) × (left ≡ slot))) is h.early in
        let cause : merge_refused old ≡ Some NoMerge = is ∙ ap Some (sym (same_err {T = Unit {0}} NoMerge e early.0)) in
        subst (λ (s : Session). HasNoMerge s.layers) (sym early.1.0) (has_none old.layers (none_by old.events old.broken (no_merge old.layers) cause))
    go None is = absurd (is_end new NoMerge (copy_cases (Err NoMerge) NoMerge old slot new left refl (h.turns is)))
end_none old slot new _ (none_left mid left s h f) = found_none mid new f
end_none old slot new _ (copy_stopped left x other h) = tt
end_none old slot new _ (finish_done mid left s h f) = finish_none (Ok tt) mid new f
end_none old slot new _ (finish_stopped mid left x other s h f) = tt

end_stops : (old : Session) (slot : Piece) (new : Session) (answer : Result (Unit {0}) ChainRefusal) → EndsMerge old slot new answer → IfErr answer (EndsBy new)
end_stops old slot new _ (none_found left h) = tt
end_stops old slot new _ (none_left mid left s h f) = tt
end_stops old slot new _ (copy_stopped left x other h) = copy_stops x old slot new left other h
end_stops old slot new _ (finish_done mid left s h f) = tt
end_stops old slot new _ (finish_stopped mid left x other s h f) = finish_stops x mid new other (copied_of old slot mid left h) f

-- ---- how many events it has

-- the stripes below this one are copied
abbrev AreCopied : ℕ → Session → Type 0
AreCopied front s = (m : Marks) → kept_marks s.layers ≡ Some m → (t : ℕ) → t < front → marks_of m t ≡ true

record HasTurned (old new : Session) : Type 0 where
  front : ℕ
  low : front ≤ 2 ^ 32
  copied : AreCopied front new
  few : new.events ≤ old.events + 2 * front

merge_some : (layers : Layers) → has_merge layers ≡ true → no_merge layers ≡ None
merge_some layers is = ap (λ b. if b then None else Some NoMerge) is

-- the marks behind a put are those before it, and the stripe's
marks_behind : (stripe : ℕ) (old new : Layers) (m n : Marks) → HasMarked stripe old new (Ok tt) → kept_marks old ≡ Some m → kept_marks new ≡ Some n → (t : ℕ) → marks_of n t ≡ with_mark stripe (marks_of m) t
marks_behind stripe old new m n h = go old.merge new.merge old.retiring new.retiring h.0 h.1
  where
    go : (o p : Option Underway) (q r : Option Retiring) → MarksIn stripe o p → MarksToo stripe q r → marks_in o q ≡ Some m → marks_in p r ≡ Some n → (t : ℕ) → marks_of n t ≡ with_mark stripe (marks_of m) t
    go (Some u) (Some v) q r a b is now t =
        ap (λ (k : Marks). marks_of k t) (sym (some_same {x = v.marks} {y = n} now)) ∙ a.marks_are t ∙ ap (λ (k : Marks). with_mark stripe (marks_of k) t) (some_same {x = u.marks} {y = m} is)
    go (Some u) None q r a b is now t = absurd a
    go None (Some v) q r a b is now t = absurd a
    go None None (Some u) (Some v) a b is now t =
        ap (λ (k : Marks). marks_of k t) (sym (some_same {x = v.marks} {y = n} now)) ∙ b.marks_are t ∙ ap (λ (k : Marks). with_mark stripe (marks_of k) t) (some_same {x = u.marks} {y = m} is)
    go None None (Some u) None a b is now t = absurd b
    go None None None (Some v) a b is now t = absurd b
    go None None None None a b is now t = absurd (none_some is)

-- so all up to it are marked, where those below it were
marked_to : (marks : ℕ → Bool) (stripe t : ℕ) → ((u : ℕ) → u < stripe → marks u ≡ true) → t < stripe + 1 → with_mark stripe marks t ≡ true
marked_to marks stripe t below less = go (t == stripe) refl
  where
    go : (b : Bool) → (t == stripe) ≡ b → (b || marks t) ≡ true
    go true e = refl
    go false e = below t (omega (arith, less, eqb-false t stripe e))

not_below : (marks : ℕ → Bool) (front stripe : ℕ) → ((t : ℕ) → t < front → marks t ≡ true) → marks stripe ≡ false → front ≤ stripe
not_below marks front stripe below unmarked = go (nat_lt stripe front) refl
  where
    go : (b : Bool) → nat_lt stripe front ≡ b → front ≤ stripe
    go true e = absurd (true_false (sym (below stripe (ltb-true stripe front e)) ∙ unmarked))
    go false e = let high = ltb-false stripe front e in omega (arith, high)

-- behind a turn that was done with the lowest stripe that wasn't copied, it is
turn_copies : (stripe front : ℕ) (old new : Session) → IsNext stripe old → AreCopied front old → AnswersTurn stripe (Ok tt) old new → (front ≤ stripe) × AreCopied (stripe + 1) new
turn_copies stripe front old new next below turn = by_turn (Ok tt) refl turn
  where
    by_turn : (answer : Result (Unit {0}) ChainRefusal) → answer ≡ Ok tt → AnswersTurn stripe answer old new → (front ≤ stripe) × AreCopied (stripe + 1) new
    by_turn _ is (not_fetched e _ _ left h) = absurd (ok_err (sym is))
    by_turn _ is (fetched_and answer stamp _ mid _ piece h p) =
        let m = marks_there old.layers (merge_some old.layers (there stripe stamp old mid piece h)) in
        let low : IsLowest m.0.stripes (marks_of m.0) stripe = subst (λ o. IsMissing o (Some stripe)) m.1 next.missing in
        let put = subst (λ r. AnswersPut piece r mid new) is p in
        let cause = put.cause (ok_reached _ (put_refused piece mid) tt put.early) in
        let kept : kept_marks mid.layers ≡ Some m.0 = ap₂ marks_in h.merge.0 h.merge.1 ∙ m.1 in (
          not_below (marks_of m.0) front stripe (below m.0 m.1) low.unmarked,
          λ n is t less. marks_behind stripe mid.layers new.layers m.0 n (subst (λ u. HasMarked u mid.layers new.layers (Ok tt)) h.taken.stripe_is cause.0) kept is t
              ∙ marked_to (marks_of m.0) stripe t low.below less,
        )

-- the marks behind a pass are those before it, and those of the stripes that are passed over
marks_passed : (from n : ℕ) (old new : Layers) (a b : Marks) → HasPassed from n old new → kept_marks old ≡ Some a → kept_marks new ≡ Some b → (t : ℕ) → marks_of b t ≡ with_marks from n (marks_of a) t
marks_passed from n old new a b h = go old.merge new.merge old.retiring new.retiring h.0 h.1
  where
    with_run : (t : ℕ) (k l : Marks) → l ≡ b → k ≡ a → marks_of l t ≡ with_marks from n (marks_of k) t → marks_of b t ≡ with_marks from n (marks_of a) t
    with_run t k l e f is = ap (λ (m : Marks). marks_of m t) (sym e) ∙ is ∙ ap (λ (m : Marks). with_marks from n (marks_of m) t) f

    go : (o p : Option Underway) (q r : Option Retiring) → MarksRun from n o p → MarksRunToo from n q r → marks_in o q ≡ Some a → marks_in p r ≡ Some b → (t : ℕ) → marks_of b t ≡ with_marks from n (marks_of a) t
    go (Some u) (Some v) q r one more is later t = with_run t u.marks v.marks (some_same {x = v.marks} {y = b} later) (some_same {x = u.marks} {y = a} is) (one.marks_are t)
    go (Some u) None q r one more is later t = absurd one
    go None (Some v) q r one more is later t = absurd one
    go None None (Some u) (Some v) one more is later t = with_run t u.marks v.marks (some_same {x = v.marks} {y = b} later) (some_same {x = u.marks} {y = a} is) (more.marks_are t)
    go None None (Some u) None one more is later t = absurd more
    go None None None (Some v) one more is later t = absurd more
    go None None None None one more is later t = absurd (none_some is)

-- so all below their end are marked, where those below their beginning were
run_to : (marks : ℕ → Bool) (from n t : ℕ) → ((u : ℕ) → u < from → marks u ≡ true) → t < from + n → with_marks from n marks t ≡ true
run_to marks from n t below less = go (cases_lt t from)
  where
    is_true : (b : Bool) → (b || true) ≡ true
    is_true true = refl
    is_true false = refl

    go : (t < from) ⊎ (from ≤ t) → with_marks from n marks t ≡ true
    go (inl low) = ap (λ b. (nat_le from t && nat_lt t (from + n)) || b) (below t low) ∙ is_true (nat_le from t && nat_lt t (from + n))
    go (inr high) = ap₂ (λ a b. (a && b) || marks t) (le-leb from t high) (lt-ltb t (from + n) less)

skip_copies : (stripe n front : ℕ) (old new : Session) → IsNext stripe old → AreCopied front old → AnswersSkip stripe n old new → (front ≤ stripe) × AreCopied (stripe + n) new
skip_copies stripe n front old new next below h =
    let m = marks_there old.layers (no_merge_in h.fit) in
    let low : IsLowest m.0.stripes (marks_of m.0) stripe = subst (λ o. IsMissing o (Some stripe)) m.1 next.missing in (
      not_below (marks_of m.0) front stripe (below m.0 m.1) low.unmarked,
      λ b is t less. marks_passed stripe n old.layers new.layers m.0 b h.passed m.1 is t ∙ run_to (marks_of m.0) stripe n t low.below less,
    )
  where
    no_merge_in : fetch_refused stripe old ≡ None → no_merge old.layers ≡ None
    no_merge_in fit = merge_some old.layers (stripe_has stripe old.layers (parts_none (unfit old.events old.broken) (no_stripe stripe old.layers) fit).1)

turns_copied : (old : Session) (slot : Piece) (new : Session) (left : Piece) → AnswersTurns old slot new left → HasTurned old new
turns_copied old slot _ _ no_turn = record { front = 0; low = omega arith; copied = λ m is t less. absurd (omega (arith, less)); few = omega arith }
turns_copied old slot new left (passed_over stripe n mid _ held _ turns next skip empty) =
    let before = turns_copied old slot mid held turns in
    let copied = skip_copies stripe n before.front mid new next before.copied skip in
    record { front = stripe + n; low = omega (arith, skip.few); copied = copied.1; few = omega (arith, before.few, copied.0, skip.events) }
turns_copied old slot new left (one_more stripe mid _ held _ turns next turn empty) =
    let before = turns_copied old slot mid held turns in
    let copied = turn_copies stripe before.front mid new next before.copied turn in
    record { front = stripe + 1; low = omega (arith, next.low); copied = copied.1; few = omega (arith, before.few, copied.0, turn_events stripe (Ok tt) mid new turn) }

ends_few : (old : Session) (slot : Piece) (answer : Result (Unit {0}) ChainRefusal) (new : Session) (left : Piece) → EndsCopy old slot answer new left → new.events ≤ old.events + (2 ^ 33 + 2)
ends_few old slot _ _ _ (all_moved new left turns sound missing) = let t = turns_copied old slot new left turns in omega (arith, t.few, t.low)
ends_few old slot _ new left (one_refused e stripe mid _ held _ turns next turn empty) = let t = turns_copied old slot mid held turns in omega (arith, t.few, t.low, turn_events stripe (Err e) mid new turn)

copy_events : (answer : Result (Unit {0}) ChainRefusal) (old : Session) (slot : Piece) (new : Session) (left : Piece) → AnswersCopy answer old slot new left → new.events ≤ old.events + (2 ^ 33 + 2)
copy_events answer old slot new left h = go (merge_refused old) refl
  where
    go : (o : Option ChainRefusal) → merge_refused old ≡ o → new.events ≤ old.events + (2 ^ 33 + 2)
    go None is = ends_few old slot answer new left (h.turns is)
    go (Some e) is =
        let early = subst (λ o. IfStopped {T = Unit {0}} o answer ((new ≡ old) × (left ≡ slot))) is h.early in
        let same : new.events ≡ old.events = ap (λ (s : Session). s.events) early.1.0 in omega (arith, same)

end_events : (old : Session) (slot : Piece) (new : Session) (answer : Result (Unit {0}) ChainRefusal) → EndsMerge old slot new answer → new.events ≤ old.events + 2 ^ 34
end_events old slot new _ (none_found left h) = omega (arith, copy_events (Err NoMerge) old slot new left h)
end_events old slot new _ (none_left mid left s h f) = omega (arith, copy_events (Ok tt) old slot mid left h, f.events)
end_events old slot new _ (copy_stopped left x other h) = omega (arith, copy_events (Err x) old slot new left h)
end_events old slot new _ (finish_done mid left s h f) = omega (arith, copy_events (Ok tt) old slot mid left h, f.events)
end_events old slot new _ (finish_stopped mid left x other s h f) = omega (arith, copy_events (Ok tt) old slot mid left h, f.events)

-- ---- a file that is full

-- a step that is refused for want of room is one of a session that isn't broken
full_whole : (old new : Session) (next : ℕ) → StepOf (λ v. ⊤) old new (Err (FileFull next)) → old.broken ≡ None
full_whole old new next s = go old.broken refl
  where
    go : (o : Option StoreFault) → old.broken ≡ o → old.broken ≡ None
    go None is = is
    go (Some f) is =
        let b = s.broken f is in
        let same : FileFull next ≡ b.1.0 = same_err {T = Unit {0}} (FileFull next) b.1.0 b.1.1 in
        absurd (subst (IsQuiet old.broken) (sym same) b.1.2)

module _ (first : Session) (h : History) (full : Option ℕ) (broke : Option Breach) (fault : Option StoreFault) where
  abbrev IsNear : ℕ → Type 0
  IsNear next = WhereTold first.disk.told (λ trace. (from : State) → IsServing first.layers from trace → from.history ≡ [] → 2 ^ 43 < next + 1024)

  step_near : (old new : Session) (next : ℕ) → IsHome first old h full broke fault → StepOf (λ v. ⊤) old new (Err (FileFull next)) → IsNear next
  step_near old new next home s trace told from serving empty =
      let whole = full_whole old new next s in
      let b = both_told (λ trace after. (from : State) → IsServing first.layers from trace → from.history ≡ [] → Follows from h full broke old after) first.disk.told old.disk.told trace told home.follows in
      let f = b.2 from serving empty in
      let l = both_told _ old.disk.told new.disk.told b.0 b.1 (s.left whole) in
      let left = l.2 f.to (f.serves whole) tt in
      let k : IsFullAt f.to.writes l.0 next = left.full in
      k.0

  copy_near : (answer : Result (Unit {0}) ChainRefusal) (old : Session) (slot : Piece) (new : Session) (left : Piece) (next : ℕ) → answer ≡ Err (FileFull next) → IsHome first old h full broke fault → EndsCopy old slot answer new left → IsNear next
  copy_near _ old slot _ _ next is home (all_moved new left turns sound missing) = absurd (ok_err is)
  copy_near _ old slot new left next is home (one_refused e stripe mid _ held _ turns next_is turn empty) =
      let there = (carries_turns h first old slot mid held turns (sound_of stripe (Err e) mid new turn)).home full broke fault home in
      step_near mid new next there (subst (StepOf (λ v. ⊤) mid new) is (turn_step stripe (Err e) mid new turn))

  end_near : (old : Session) (slot : Piece) (new : Session) (answer : Result (Unit {0}) ChainRefusal) (next : ℕ) → answer ≡ Err (FileFull next) → IsHome first old h full broke fault → EndsMerge old slot new answer → IsNear next
  end_near old slot new _ next is home (none_found left h) = absurd (ok_err is)
  end_near old slot new _ next is home (none_left mid left s h f) = absurd (ok_err is)
  end_near old slot new _ next is home (copy_stopped left x other c) = go (merge_refused old) refl
    where
      go : (o : Option ChainRefusal) → merge_refused old ≡ o → IsNear next
      go (Some e) refused =
          let early = subst (λ o. IfStopped {T = Unit {0}} o (Err x) ((new ≡ old) × (left ≡ slot))) refused c.early in
          let same : e ≡ FileFull next = sym (same_err {T = Unit {0}} x e early.0) ∙ same_err {T = Unit {0}} x (FileFull next) is in
          absurd (subst (IsQuiet old.broken) same (finish_quiet old e refused))
      go None fit = copy_near (Err x) old slot new left next is home (c.turns fit)
  end_near old slot new _ next is home (finish_done mid left s h f) = absurd (ok_err is)
  end_near old slot new _ next is home (finish_stopped mid left x other s c f) = absurd (finish_full next mid new (subst (λ r. AnswersFinish r mid new) is f))

-- ---- all of it

module _ {S T : Type 0} (disk : S → Disk) (old new first : Chain S Ledger T) (slot : Piece) (answer : Result (Unit {0}) ChainRefusal) (full full' : Option ℕ) (broke broke' : Option Breach) (fault fault' : Option StoreFault) (copied copied' : Marks) (finished finished' : Bool) (full_is : full' ≡ full_after full (as_answer answer))
    (broke_is : broke' ≡ broke_after broke merge_breach (as_answer answer)) (fault_is : fault' ≡ fault_after fault (as_answer answer)) (e : EndsMerge (session_of disk old) slot (session_of disk new) answer)
    (c : Carries old.recorder (session_of disk first) (session_of disk old) (session_of disk new) answer) (home : IsHome (session_of disk first) (session_of disk old) old.recorder full broke fault) (copied_is : copied' ≡ copied) (finished_is : finished' ≡ true) where
  abbrev before : Shared (Chain S Ledger T)
  before = record { chain = old; first = first; full = full; broke = broke; fault = fault; copied = copied; finished = finished }

  abbrev after : Shared (Chain S Ledger T)
  after = record { chain = new; first = first; full = full'; broke = broke'; fault = fault'; copied = copied'; finished = finished' }

  is_stepped : IsStepped disk ends before after answer
  is_stepped = stepped disk old new first answer full full' broke broke' fault fault' copied copied' finished finished' full_is broke_is fault_is c ends (end_events (session_of disk old) slot (session_of disk new) answer e) (ap (λ (m : Marks). m.stripes) copied_is) (λ t. ap (λ (m : Marks). marks_of m t) copied_is) finished_is

  stops : (x : ChainRefusal) → answer ≡ Err x → EndsBy (session_of disk new) x → StopsEnd disk after x
  stops _ is (by_spent t high low) = (high, low)
  stops _ is (by_broken file count broken) = broken
  stops _ is (by_read file count has) = (has, fault_is ∙ ap (λ r. fault_after fault (as_answer r)) is)
  stops _ is (by_full next has) = (
    has,
    (is_stepped.noted (notes.Full next)).1 (inl (subst (λ r. HasNote (noted_in (as_answer r)) (notes.Full next)) (sym is) (inl (omega arith)))),
    end_near (session_of disk first) old.recorder full broke fault (session_of disk old) slot (session_of disk new) answer next is home e,
  )

  is_stopped : IfErr answer (StopsEnd disk after)
  is_stopped = go answer refl (end_stops (session_of disk old) slot (session_of disk new) answer e)
    where
      go : (r : Result (Unit {0}) ChainRefusal) → answer ≡ r → IfErr r (EndsBy (session_of disk new)) → IfErr r (StopsEnd disk after)
      go (Ok done) is k = tt
      go (Err x) is k = stops x is k

  pub merged_as : (seen : Shared (Chain S Ledger T)) → before ≡ seen → IsMerged disk seen after answer
  merged_as seen is = subst (λ s. IsMerged disk s after answer) is (record { stepped = is_stepped; done = end_none (session_of disk old) slot (session_of disk new) answer e; stopped = is_stopped })
