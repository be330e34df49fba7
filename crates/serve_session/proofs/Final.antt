-- What serving guests leaves, with the end of the session.
use Rattle.std.proofs.Common.{◌≡◌, ◌⊎◌, ◌+◌, ◌-◌, ◌*◌, ◌^◌, ◌<◌, ◌≤◌, ◌++◌, ℕ, zero, suc, Bool, true, false, [], List, length, min, replicate, Option, None, Some, Result, Ok, Err, inl, inr, refl, sym, ap, ap₂, subst, ◌∙◌, arith}
use Rattle.std.specs.Prelude.{◌||◌, All, IfErr, IfOk, IfSome, IsErr, OnOk, String, is_err, is_some, string_bytes}
use Rattle.std.proofs.lemmas.Result.{on_ok_weaker}
use Rattle.std.specs.List.{AllByRecursion, flat_map}
use Rattle.std.proofs.lemmas.List.{length-replicate}
use Rattle.store_model.specs.Disk.{Disk}
use Rattle.store_model.specs.declared.fault.StoreFault.{StoreFault}
use Rattle.vx_base.specs.declared.NoRoom.{NoRoom}
use Rattle.ledger.specs.declared.ledger.Ledger.{Ledger}
use Rattle.chain_core.specs.declared.chain.Chain.{Chain}
use Rattle.guest_model.specs.History.{History}
use Rattle.guest_model.specs.declared.refusal.ChainRefusal.{ChainRefusal}
use Rattle.guest_model.specs.declared.refusal.ChainRefusal.TheVariants.{Abandoned, Broken, EmptyRange, FileFull, NoMerge, NoPiece, NoStripe, NotYet, OutOfRange, ReadFault, ReadOnly, Spent, Stale, TooLong}
use Rattle.guest_model.specs.declared.refusal.ChainRefusal.TheVariants.{NoRoom as NoMemory}
use Rattle.chain_core.specs.Sessions.{HasNoMerge, IsSound, has_merge}
use Rattle.chain_core.specs.declared.layers.Layers.{Layers}
use Rattle.chain_core.specs.declared.layers.Retiring.{Retiring}
use Rattle.chain_core.specs.declared.layers.Underway.{Underway}
use Rattle.layer_session.proofs.Equal.{false_true, some_none}
use Rattle.script.specs.declared.form.Line.{Line}
use Rattle.script.specs.declared.told.ToldCall.{ToldCall}
use Rattle.script.specs.Transcript.{IsTold, serve_text}
use Rattle.script_session.specs.Faults.{IsFailedChange}
use Rattle.script_session.specs.Told.{failed_by}
use Rattle.script_session.specs.declared.session.ScriptRun.{ScriptRun}
use Rattle.turn_lock.specs.Seats.{Known, TableId, first_seat}
use Rattle.shared_chain.specs.declared.basis.Basis.{Basis}
use Rattle.shared_chain.specs.declared.basis.Note.TheVariants as notes
use Rattle.shared_chain.specs.declared.basis.Step.{Step}
use Rattle.merge_core.specs.Copied.{marks_of}
use Rattle.shared_chain.proofs.Marked.{marked_more}
use Rattle.shared_chain.specs.Bases.{Contains, HasStripe, basis_of, marked_below, notes_in, notes_of}
use Rattle.shared_chain.specs.Notes.{HasNote}
use Rattle.shared_chain.specs.Laws.{contains_itself, contains_through}
use Rattle.script_session.specs.Running.{IsEnded, open_by}
use Rattle.shared_chain.specs.Closing.{LeavesHistory}
use Rattle.shared_chain.specs.Faults.{CountsChange, EndsCounted}
use Rattle.shared_chain.specs.Homes.{session_of}
use Rattle.shared_chain.specs.Shared.{Shared}
use Rattle.shared_chain.specs.Merging.{StopsEnd, as_answer}
use Rattle.shared_chain.specs.declared.basis.Breach.{Breach}
use Rattle.shared_chain.specs.Steps.{broke_after, first_breach, merge_breach, open_by as opens_by, steps_of}
use Rattle.script_session.specs.Histories.{Break}
use Rattle.serve_session.specs.declared.actor.Actor.{Actor}
use Rattle.serve_session.specs.Actors.{AreJoined, HasRun, IsFrom, first_notes}
use Rattle.serve_session.specs.Sealing.{IsSetFor}
use Rattle.serve_session.specs.Lists.{AreActors, AreFresh, IsReady, RunsEach, with_splits}
use Rattle.serve_session.specs.Endings.{Ending, StopsMerge}
use Rattle.serve_session.specs.Served.{Asking, EachGuest, IsBreakOf, IsTranscript, Outcome, all_unread, asked_by, greatest_from, guest_count, told_of, unread_in}
use Rattle.serve_session.specs.Serving.{EndsAs, HasBegun, HasServed, HasServedScript, IsNearEnd, IsShared, WasShared}
use Rattle.serve_session.specs.Written.{IsWritten}
use Rattle.serve_session.proofs.Hearing.{nothing}
use Rattle.serve_session.proofs.Filled.{ends_told, full_noted}
use Rattle.serve_session.proofs.Joining.{all_run, fresh_ready, none_joined}
use Rattle.serve_session.specs.Tallies.{AddsUp, all_outcomes, no_tally}
use Rattle.serve_session.specs.declared.tally.Tally.{Tally}
use Rattle.serve_session.proofs.Tallies.{none_add_all}
use Rattle.serve_session.proofs.Ending.{all_called, faults_told, first_is, served_all, transcript_is, unread_of_store, which}

pub any_ok : {T E P : Type 0} (r : Result T E) → P → OnOk r P
any_ok (Ok done) p = p
any_ok (Err e) p = tt

each_empty : (P : ℕ → List Outcome → Type 0) → ((g : ℕ) → P g []) → (n g : ℕ) → EachGuest P g (replicate n [])
each_empty P h zero g = tt
each_empty P h (suc n) g = (h g, each_empty P h n (g + 1))

all_empty : {X : Type 0} (P : X → Type 0) (told : List Outcome → List X) → told [] ≡ [] → (n : ℕ) → AllByRecursion P (flat_map told (replicate n []))
all_empty P told none zero = tt
all_empty P told none (suc n) = subst (λ xs. AllByRecursion P (xs ++ flat_map told (replicate n []))) (sym none) (all_empty P told none n)

unread_none : (n : ℕ) → length (all_unread (replicate n [])) ≡ 0
unread_none zero = refl
unread_none (suc n) = unread_none n

pub changed_end : (files : ℕ) (after : Disk) (r : Result (Unit {0}) StoreFault) → after.files ≡ files → IfErr r (CountsChange after) → IfSome (failed_by r) (IsFailedChange files after.failed_changes)
changed_end files after (Ok done) same k = tt
changed_end files after (Err f) same k = (subst (λ n. f.file < n) same k.0, k.1, k.2)

pub changed_none : (old after : Disk) (r : Result (Unit {0}) StoreFault) → OnOk r (after.failed_changes ≡ old.failed_changes) → failed_by r ≡ None → after.failed_changes ≡ old.failed_changes
changed_none old after (Ok done) k e = k
changed_none old after (Err f) k e = absurd (some_none e)

none_under : (layers : Layers) → HasNoMerge layers → has_merge layers ≡ false
none_under layers none = ap₂ (λ (o : Option Underway) (r : Option Retiring). is_some o || is_some r) none.0 none.1

pub few_guests : (n m : ℕ) → n ≡ min m 64 → n ≤ 64
few_guests n m e = omega (arith, e)

-- where there is no transcript memory ran out
pub none_short : {Z : Type 0} (r : Result (String Z) NoRoom) → IfOk r (λ text. ⊥) → is_err r ≡ true
none_short (Ok text) none = absurd none
none_short (Err e) none = refl

-- no call was made, and no word is told of one
pub none_written : (names : List (List ℕ)) (lines : List Line) (run : ScriptRun) (tally : Tally) → tally ≡ no_tally → IfOk run.transcript (λ text. ⊥) → IsWritten names lines (replicate (guest_count lines) []) [] run tally
none_written names lines run tally no_call none = record {
  transcript = none_of (λ text. IsTranscript names lines (replicate (guest_count lines) []) [] (string_bytes text)) run.transcript none;
  tally_is = subst (λ t. AddsUp t (all_outcomes (replicate (guest_count lines) []))) (sym no_call) (none_add_all (guest_count lines));
}
  where
    none_of : {Z : Type 0} (P : String Z → Type 0) (r : Result (String Z) NoRoom) → IfOk r (λ text. ⊥) → IfOk r P
    none_of P (Ok text) h = absurd h
    none_of P (Err e) h = tt

module _ {S T : Type 0} (disk : S → Disk) where
  -- the first seat of a lock over a chain whose session has just begun
  module _ (v : Shared (Chain S Ledger T)) (fresh : v ≡ record { chain = v.first; first = v.first; full = None; broke = None; fault = None; copied = v.copied; finished = false }) (whole : v.first.broken ≡ None) (lock : TableId) (made : Known Step (Basis S T)) (is : made ≡ first_seat lock 0 (basis_of disk v)) where
    fresh_notes : notes_of disk v ≡ first_notes disk v.first
    fresh_notes = ap (notes_of disk) fresh ∙ ap (λ (b : Option StoreFault). notes_in (disk v.first.store) b None) whole

    made_knows : IsFrom disk v.first made.basis
    made_knows = subst (λ (s : Known Step (Basis S T)). IsFrom disk v.first s.basis) (sym is) (record { began = refl; notes = λ n h. subst (λ ns. HasNote ns n) (sym fresh_notes) h })

    pub made_ready : (n : ℕ) (actors : List (Actor S T)) → AreFresh (IsSetFor disk v.first) made n actors → All (IsReady disk lock) actors
    made_ready n actors h = fresh_ready disk v.first made lock n actors (ap (λ (s : Known Step (Basis S T)). s.lock) is) made_knows.began h

    -- it knows with what the session began
    pub made_first : made.basis.first ≡ Some v.first
    made_first = made_knows.began

    pub made_run : v.first.layers.geometry.sector ≡ 512 → (names : List (List ℕ)) (lines : List Line) (n : ℕ) (old new : List (Actor S T)) → AreFresh (IsSetFor disk v.first) made n old → RunsEach disk lock names lines old new → AreActors (HasRun disk v.first lock names lines) n new
    made_run sector names lines n old new h runs = all_run disk v.first lock names lines made n old new (ap (λ (s : Known Step (Basis S T)). s.lock) is) made_knows sector h runs

    pub made_none : (asking : Asking) (n : ℕ) (seat : Known Step (Basis S T)) → seat ≡ with_splits made n → AreJoined disk v.first false lock asking seat []
    made_none asking n seat split = subst (λ (s : Known Step (Basis S T)). AreJoined disk v.first false lock asking s []) (sym split)
        (none_joined disk v.first lock asking (with_splits made n) (ap (λ (s : Known Step (Basis S T)). s.lock) is, ap (λ (s : Known Step (Basis S T)). s.turn) is) (ap (λ (s : Known Step (Basis S T)). s.family.is_first) is) made_knows (ap (λ (s : Known Step (Basis S T)). s.mine) is))

    -- so many were split from it for guests, and so many for workers
    pub made_splits : (n m : ℕ) (a b : Known Step (Basis S T)) → a ≡ with_splits made n → b ≡ with_splits a m → (n' m' : ℕ) → n' ≡ n → m' ≡ m → b.family.splits ≡ b.family.joins + n' + m'
    made_splits n m a b a_is b_is n' m' ns ms =
        let made_joins : made.family.joins ≡ 0 = ap (λ (s : Known Step (Basis S T)). s.family.joins) is in
        let made_none : made.family.splits ≡ 0 = ap (λ (s : Known Step (Basis S T)). s.family.splits) is in
        let a_joins : a.family.joins ≡ made.family.joins = ap (λ (s : Known Step (Basis S T)). s.family.joins) a_is in
        let a_splits : a.family.splits ≡ made.family.splits + n = ap (λ (s : Known Step (Basis S T)). s.family.splits) a_is in
        let b_joins : b.family.joins ≡ a.family.joins = ap (λ (s : Known Step (Basis S T)). s.family.joins) b_is in
        let b_splits : b.family.splits ≡ a.family.splits + m = ap (λ (s : Known Step (Basis S T)). s.family.splits) b_is in
        omega (arith, made_joins, made_none, a_joins, a_splits, b_joins, b_splits, ns, ms)

  -- no turn was refused, and few events there were, where the guests drew few tickets, and so many workers
  pub few_turns : (seat k : Known Step (Basis S T)) (m events : ℕ) → seat.first_ticket ≡ Some 0 → seat.drawn ≤ 2 ^ 58 → k.first_ticket ≡ seat.first_ticket → k.drawn ≤ seat.drawn + 2 ^ 34 * m → m ≤ 64
      → IfSome k.first_ticket (λ t. k.refusals ≡ t + k.drawn - 2 ^ 63) → IfSome k.first_ticket (λ t. events ≤ 2 * (t + k.drawn)) → (k.refusals ≡ 0) × (events ≤ 2 ^ 60)
  few_turns seat k m events ticket drawn same more workers refused worked =
      let first : k.first_ticket ≡ Some 0 = same ∙ ticket in
      let r = subst (λ o. IfSome o (λ t. k.refusals ≡ t + k.drawn - 2 ^ 63)) first refused in
      let w = subst (λ o. IfSome o (λ t. events ≤ 2 * (t + k.drawn))) first worked in
      (omega (arith, r, drawn, more, workers), omega (arith, w, drawn, more, workers))

  -- they failed so often, stripes with guests' reads
  pub was_unread : (merges : Bool) (old new : Shared (Chain S Ledger T)) (asking : Asking) (guests : List (List Outcome)) (unread : ℕ) → WasShared disk merges old asking new guests unread → (n stripes : ℕ) → n ≡ length (all_unread guests) + stripes → (merges ≡ false → stripes ≡ 0)
      → WasShared disk merges old asking new guests n
  was_unread merges old new asking guests unread s n stripes is none = record {
    lock = s.lock;
    seat = s.seat;
    joined = s.joined;
    count = s.count;
    unfetched = stripes;
    none_fetched = none;
    unread_is = is;
    history = s.history;
    basis = s.basis;
    places = s.places;
    refusals = s.refusals;
    few = s.few;
  }

  -- a chain that was just made to be shared
  pub begun_is : (chain : Chain S Ledger T) (s : Shared (Chain S Ledger T)) → s ≡ record { chain = chain; first = chain; full = None; broke = None; fault = None; copied = s.copied; finished = false } → IsSound (session_of disk chain) → chain.recorder ≡ [] → chain.broken ≡ None → chain.events ≡ 0 → HasBegun disk s
  begun_is chain s is sound empty whole none = subst (HasBegun disk) (sym is) (record { sound = sound; fresh = refl; empty = empty; whole = whole; none = none })

  -- ---- the end of a merge

  -- what is known of a chain behind the end of its merge, if it has one
  pub record EndedSo (merges : Bool) (mid v : Shared (Chain S Ledger T)) (merged : Result (Unit {0}) ChainRefusal) : Type 0 where
    pub first : v.first ≡ mid.first
    pub history : v.chain.recorder ≡ mid.chain.recorder
    pub basis : Contains (basis_of disk v) (basis_of disk mid)
    pub broke : (v.broke ≡ mid.broke) ⊎ ((merges ≡ true) × (mid.broke ≡ None) × (v.broke ≡ Some merge_breach))
    pub finished : merges ≡ true → OnOk merged (has_merge v.chain.layers ≡ false)
    pub stopped : IfErr merged (StopsEnd disk v)
    pub few : v.chain.events ≤ mid.chain.events + 2 ^ 34

  merge_broke : (mid v : Shared (Chain S Ledger T)) (merged : Result (Unit {0}) ChainRefusal) → v.broke ≡ broke_after mid.broke merge_breach (as_answer merged) → (v.broke ≡ mid.broke) ⊎ ((true ≡ true) × (mid.broke ≡ None) × (v.broke ≡ Some merge_breach))
  merge_broke mid v merged = go merged
    where
      broken : (o : Option Breach) → mid.broke ≡ o → v.broke ≡ Some (first_breach o merge_breach) → (v.broke ≡ mid.broke) ⊎ ((true ≡ true) × (mid.broke ≡ None) × (v.broke ≡ Some merge_breach))
      broken (Some b) is now = inl (now ∙ sym is)
      broken None is now = inr (refl, is, now)

      go : (merged : Result (Unit {0}) ChainRefusal) → v.broke ≡ broke_after mid.broke merge_breach (as_answer merged) → (v.broke ≡ mid.broke) ⊎ ((true ≡ true) × (mid.broke ≡ None) × (v.broke ≡ Some merge_breach))
      go (Ok done) e = inl e
      go (Err EmptyRange) e = inl e
      go (Err (OutOfRange a b c)) e = inl e
      go (Err (TooLong a b)) e = inl e
      go (Err ReadOnly) e = inl e
      go (Err (Broken file count)) e = broken mid.broke refl e
      go (Err (Spent t)) e = inl e
      go (Err (FileFull next)) e = inl e
      go (Err (ReadFault file count)) e = inl e
      go (Err NoMerge) e = inl e
      go (Err (Stale taken now)) e = inl e
      go (Err (NotYet stripe)) e = inl e
      go (Err (Abandoned file count)) e = inl e
      go (Err (NoStripe stripe stripes)) e = inl e
      go (Err NoPiece) e = inl e
      go (Err NoMemory) e = inl e

  pub ended_so : (merges : Bool) (mid v : Shared (Chain S Ledger T)) (merged : Result (Unit {0}) ChainRefusal) → EndsAs disk merges mid v merged → EndedSo merges mid v merged
  ended_so false mid v merged e = record {
    first = ap (λ (s : Shared (Chain S Ledger T)). s.first) e.0;
    history = ap (λ (s : Shared (Chain S Ledger T)). s.chain.recorder) e.0;
    basis = subst (λ (s : Shared (Chain S Ledger T)). Contains (basis_of disk s) (basis_of disk mid)) (sym e.0) (contains_itself (basis_of disk mid));
    broke = inl (ap (λ (s : Shared (Chain S Ledger T)). s.broke) e.0);
    finished = λ never. absurd (false_true never);
    stopped = subst (λ r. IfErr r (StopsEnd disk v)) (sym e.1) tt;
    few = let same : v.chain.events ≡ mid.chain.events = ap (λ (s : Shared (Chain S Ledger T)). s.chain.events) e.0 in omega (arith, same);
  }
  ended_so true mid v merged e = record {
    first = e.stepped.first;
    history = e.stepped.history;
    basis = record { first = ap Some e.stepped.first; notes = λ n h. (e.stepped.noted n).1 (inr h); events = e.stepped.later; stripes = e.stepped.stripes; copied = λ t h. subst (λ n. HasStripe t (marked_below (marks_of v.copied) n)) (sym e.stepped.stripes) (marked_more (marks_of mid.copied) (marks_of v.copied) mid.copied.stripes t (λ u m. e.stepped.copied u ∙ m) h); finished = λ k. e.stepped.finished };
    broke = merge_broke mid v merged e.stepped.broke;
    finished = λ some. on_ok_weaker merged (none_under v.chain.layers) e.done;
    stopped = e.stopped;
    few = e.stepped.few;
  }

  module _ (merges : Bool) (old mid v : Shared (Chain S Ledger T)) (merged : Result (Unit {0}) ChainRefusal) (so : EndedSo merges mid v merged) (end : Ending) (after : Disk) (ended : IsEnded (session_of disk v.chain) after end.closed) (fault : end.fault ≡ v.fault)
      (counted : EndsCounted (disk v.first.store) after v.fault end.closed) (errs : IfSome v.broke (λ b. IsErr end.closed)) (leaves : LeavesHistory (session_of disk v.first) v.chain.recorder v.full v.broke (has_merge v.chain.layers) end.closed after) where
    -- what was told at the end stands in what was run
    stops_run : v.chain.events < 2 ^ 63 → (x : ChainRefusal) → StopsEnd disk v x → StopsMerge end x
    stops_run small EmptyRange k = absurd k
    stops_run small (OutOfRange a b c) k = absurd k
    stops_run small (TooLong a b) k = absurd k
    stops_run small ReadOnly k = absurd k
    stops_run small (Broken file count) k = (subst (λ o. IfSome o (λ f. (end.closed ≡ Err f) × (after ≡ disk v.chain.store))) k ended.broken).0
    stops_run small (Spent t) k = absurd (omega (arith, k.0, k.1, small))
    stops_run small (FileFull next) k = tt
    stops_run small (ReadFault file count) k = fault ∙ k.1
    stops_run small NoMerge k = absurd k
    stops_run small (Stale taken now) k = absurd k
    stops_run small (NotYet stripe) k = absurd k
    stops_run small (Abandoned file count) k = absurd k
    stops_run small (NoStripe stripe stripes) k = absurd k
    stops_run small NoPiece k = absurd k
    stops_run small NoMemory k = absurd k

    kept_run : v.chain.events < 2 ^ 63 → (x : ChainRefusal) → StopsEnd disk v x → OnOk end.closed (has_merge v.chain.layers ≡ true)
    kept_run small EmptyRange k = absurd k
    kept_run small (OutOfRange a b c) k = absurd k
    kept_run small (TooLong a b) k = absurd k
    kept_run small ReadOnly k = absurd k
    kept_run small (Broken file count) k = subst (λ r. OnOk r (has_merge v.chain.layers ≡ true)) (sym (subst (λ o. IfSome o (λ f. (end.closed ≡ Err f) × (after ≡ disk v.chain.store))) k ended.broken).0) tt
    kept_run small (Spent t) k = absurd (omega (arith, k.0, k.1, small))
    kept_run small (FileFull next) k = any_ok end.closed k.0
    kept_run small (ReadFault file count) k = any_ok end.closed k.0
    kept_run small NoMerge k = absurd k
    kept_run small (Stale taken now) k = absurd k
    kept_run small (NotYet stripe) k = absurd k
    kept_run small (Abandoned file count) k = absurd k
    kept_run small (NoStripe stripe stripes) k = absurd k
    kept_run small NoPiece k = absurd k
    kept_run small NoMemory k = absurd k

    near_run : (x : ChainRefusal) → StopsEnd disk v x → IsNearEnd disk v.first v.full x
    near_run EmptyRange k = absurd k
    near_run (OutOfRange a b c) k = absurd k
    near_run (TooLong a b) k = absurd k
    near_run ReadOnly k = absurd k
    near_run (Broken file count) k = tt
    near_run (Spent t) k = tt
    near_run (FileFull next) k = (full_noted next (disk v.chain.store) v.chain.broken v.full k.1, k.2)
    near_run (ReadFault file count) k = tt
    near_run NoMerge k = absurd k
    near_run (Stale taken now) k = absurd k
    near_run (NotYet stripe) k = absurd k
    near_run (Abandoned file count) k = absurd k
    near_run (NoStripe stripe stripes) k = absurd k
    near_run NoPiece k = absurd k
    near_run NoMemory k = absurd k

    each_err : (P Q : ChainRefusal → Type 0) → ((x : ChainRefusal) → P x → Q x) → (r : Result (Unit {0}) ChainRefusal) → IfErr r P → IfErr r Q
    each_err P Q f (Ok done) k = tt
    each_err P Q f (Err x) k = f x k

    -- threads shared the chain
    pub all_served : (asking : Asking) (guests : List (List Outcome)) → WasShared disk merges old asking mid guests end.unread → old.first.layers.geometry.sector ≡ 512 → HasServed disk merges old.first asking guests v.chain.recorder end merged after
    all_served asking guests s sector =
        let small : v.chain.events < 2 ^ 63 = omega (arith, so.few, s.few) in
        let history : steps_of v.chain.recorder mid.broke ≡ s.seat.seen = ap (λ k. steps_of k mid.broke) so.history ∙ s.history in
        let basis : Contains (basis_of disk v) s.seat.basis = contains_through (basis_of disk v) (basis_of disk mid) s.seat.basis so.basis s.basis in
        let same : v.first ≡ old.first = first_is disk old.first merges s.lock asking s.seat guests s.joined v mid.broke history basis s.places s.refusals small in
        let w = which disk old.first merges s.lock asking s.seat guests s.joined v mid.broke history basis s.places s.refusals small end.closed errs so.broke in
        let counted_first : EndsCounted (disk old.first.store) after v.fault end.closed = subst (λ (c : Chain S Ledger T). EndsCounted (disk c.store) after v.fault end.closed) same counted in
        record {
          broken = w.broken;
          breach = v.broke;
          opens = w.opens;
          count = s.count;
          served = served_all disk old.first merges s.lock asking s.seat guests s.joined v mid.broke history basis s.places s.refusals small after end.closed ended w sector;
          counted = subst (λ f. EndsCounted (disk old.first.store) after f end.closed) (sym fault) counted_first;
          faults = faults_told disk old.first merges s.lock asking s.seat guests s.joined v mid.broke history basis s.places s.refusals small after end.closed ended w counted_first;
          unread = unread_of_store disk old.first merges s.lock asking s.seat guests s.joined v mid.broke history basis s.places s.refusals small;
          unfetched = s.unfetched;
          none_fetched = s.none_fetched;
          unread_is = s.unread_is;
          full = v.full;
          ends = ends_told disk old.first s.seat v.full (λ next h. full_noted next (disk v.chain.store) v.chain.broken v.full (basis.notes (notes.Full next) h)) asking guests s.joined.heard;
          under_way = has_merge v.chain.layers;
          leaves = subst (λ (c : Chain S Ledger T). LeavesHistory (session_of disk c) v.chain.recorder v.full v.broke (has_merge v.chain.layers) end.closed after) same leaves;
          finished = so.finished;
          kept = λ some. each_err (StopsEnd disk v) (λ x. OnOk end.closed (has_merge v.chain.layers ≡ true)) (kept_run small) merged so.stopped;
          stopped = each_err (StopsEnd disk v) (StopsMerge end) (stops_run small) merged so.stopped;
          near = subst (λ (c : Chain S Ledger T). IfErr merged (IsNearEnd disk c v.full)) same (each_err (StopsEnd disk v) (IsNearEnd disk v.first v.full) near_run merged so.stopped);
        }

    -- memory ran out before a call was made
    pub none_served : (asking : Asking) → end.unread ≡ 0 → HasBegun disk old → mid ≡ old → HasServed disk merges old.first asking (replicate asking.count []) [] end merged after
    none_served asking no_read begun same_mid =
        let same : v.first ≡ old.first = so.first ∙ ap (λ (s : Shared (Chain S Ledger T)). s.first) same_mid in
        let empty : v.chain.recorder ≡ [] = so.history ∙ ap (λ (s : Shared (Chain S Ledger T)). s.chain.recorder) same_mid ∙ ap (λ (s : Shared (Chain S Ledger T)). s.chain.recorder) begun.fresh ∙ begun.empty in
        let whole : mid.broke ≡ None = ap (λ (s : Shared (Chain S Ledger T)). s.broke) same_mid ∙ ap (λ (s : Shared (Chain S Ledger T)). s.broke) begun.fresh in
        let none_yet : mid.chain.events ≡ 0 = ap (λ (s : Shared (Chain S Ledger T)). s.chain.events) same_mid ∙ ap (λ (s : Shared (Chain S Ledger T)). s.chain.events) begun.fresh ∙ begun.none in
        let small : v.chain.events < 2 ^ 63 = omega (arith, so.few, none_yet) in
        let w = broke_none so.broke whole in
        let counted_first : EndsCounted (disk old.first.store) after v.fault end.closed = subst (λ (c : Chain S Ledger T). EndsCounted (disk c.store) after v.fault end.closed) same counted in
        record {
          broken = w.0;
          breach = v.broke;
          opens = w.2;
          count = length-replicate asking.count [];
          served = λ trace told from serving began. record {
            told = each_empty _ (λ g. tt) asking.count 1;
            order = each_empty _ (λ g. tt) asking.count 1;
            unread = each_empty _ (λ g. tt) asking.count 1;
            all = λ p low high. absurd (omega (arith, low, high));
            breaker = w.1 asking;
          };
          counted = subst (λ f. EndsCounted (disk old.first.store) after f end.closed) (sym fault) counted_first;
          faults = record {
            each = all_empty _ (flat_map told_of) refl asking.count;
            end = changed_end (disk old.first.store).files after end.closed counted_first.files counted_first.end;
            none = changed_none (disk old.first.store) after end.closed counted_first.none;
          };
          unread = all_empty _ unread_in refl asking.count;
          unfetched = 0;
          none_fetched = λ none. refl;
          unread_is = (let none = unread_none asking.count in omega (arith, no_read, none));
          full = v.full;
          ends = all_empty _ (flat_map told_of) refl asking.count;
          under_way = has_merge v.chain.layers;
          leaves = subst (λ h. LeavesHistory (session_of disk old.first) h v.full v.broke (has_merge v.chain.layers) end.closed after) empty
              (subst (λ (c : Chain S Ledger T). LeavesHistory (session_of disk c) v.chain.recorder v.full v.broke (has_merge v.chain.layers) end.closed after) same leaves);
          finished = so.finished;
          kept = λ some. each_err (StopsEnd disk v) (λ x. OnOk end.closed (has_merge v.chain.layers ≡ true)) (kept_run small) merged so.stopped;
          stopped = each_err (StopsEnd disk v) (StopsMerge end) (stops_run small) merged so.stopped;
          near = subst (λ (c : Chain S Ledger T). IfErr merged (IsNearEnd disk c v.full)) same (each_err (StopsEnd disk v) (IsNearEnd disk v.first v.full) near_run merged so.stopped);
        }
      where
        broke_none : (v.broke ≡ mid.broke) ⊎ ((merges ≡ true) × (mid.broke ≡ None) × (v.broke ≡ Some merge_breach)) → mid.broke ≡ None
            → (broken : Option Break) × ((asking : Asking) → IfSome broken (IsBreakOf merges asking (replicate asking.count []) (failed_by end.closed))) × ((s : ℕ) → open_by broken s ≡ false → opens_by v.broke s ≡ false)
        broke_none (inl same) whole = (None, λ asking. tt, λ s e. ap (λ o. opens_by o s) (same ∙ whole))
        broke_none (inr k) whole = by_closed end.closed refl (subst (λ o. IfSome o (λ b. IsErr end.closed)) k.2 errs)
          where
            by_closed : (r : Result (Unit {0}) StoreFault) → end.closed ≡ r → IsErr end.closed
                → (broken : Option Break) × ((asking : Asking) → IfSome broken (IsBreakOf merges asking (replicate asking.count []) (failed_by end.closed))) × ((s : ℕ) → open_by broken s ≡ false → opens_by v.broke s ≡ false)
            by_closed (Ok done) is err = absurd (false_true (subst (λ r. IsErr r) is err))
            by_closed (Err f) is err = (
              Some (record { fault = f; call = None }),
              λ asking. subst (λ m. IsBreakOf m asking (replicate asking.count []) (failed_by end.closed) (record { fault = f; call = None })) (sym k.0) (inr (refl, ap failed_by is)),
              λ s e. ap (λ o. opens_by o s) k.2 ∙ nothing 0 s,
            )

  -- ---- of a script

  -- what is left, however far it came

  pub shared_as : (merges : Bool) (n : ℕ) (old mid : Shared (Chain S Ledger T)) (names : List (List ℕ)) (lines : List Line) (told : List (List ToldCall)) (short : Bool) (unread : ℕ) (tally : Tally) → (merges ≡ false → n ≡ 0) → (n ≡ 0 → IsShared disk false old names lines mid told short unread tally)
      → IsShared disk true old names lines mid told short unread tally → IsShared disk merges old names lines mid told short unread tally
  shared_as false n old mid names lines told short unread tally alone plain beside = plain (alone refl)
  shared_as true n old mid names lines told short unread tally alone plain beside = beside

  pub few_told : (merges : Bool) (old mid : Shared (Chain S Ledger T)) (names : List (List ℕ)) (lines : List Line) (told : List (List ToldCall)) (short : Bool) (unread : ℕ) (tally : Tally) → IsShared disk merges old names lines mid told short unread tally → length told ≤ 64
  few_told merges old mid names lines told short unread tally (IsShared.was_shared guests s words adds) = few_guests (length told) (greatest_from 0 lines) (words.count ∙ s.count)
  few_told merges old mid names lines told short unread tally (IsShared.no_memory same short_is none no_read no_call) = omega (arith, ap length none)

  pub called : (merges : Bool) (old mid : Shared (Chain S Ledger T)) (names : List (List ℕ)) (lines : List Line) (told : List (List ToldCall)) (short : Bool) (unread : ℕ) (tally : Tally) → IsShared disk merges old names lines mid told short unread tally → short ≡ false
      → All (IsTold told) mid.chain.recorder
  called merges old mid names lines told short unread tally (IsShared.was_shared guests s words adds) =
      all_called disk old.first merges s.lock names lines s.seat told short guests s.joined words mid mid.broke s.history s.basis s.places s.refusals (omega (arith, s.few))
  called merges old mid names lines told short unread tally (IsShared.no_memory same short_is none no_read no_call) = λ memory. absurd (false_true (sym memory ∙ short_is))

  -- what the end of a session leaves of it
  abbrev Left : Bool → Shared (Chain S Ledger T) → ScriptRun → Result (Unit {0}) ChainRefusal → Disk → Asking → List (List Outcome) → History → ℕ → Bool → Type 0
  Left merges old run merged after asking guests history unread short = HasServed disk merges old.first asking guests history (record { fault = run.fault; closed = run.closed; unread = unread; short = short }) merged after

  pub served_so : (merges : Bool) (old mid : Shared (Chain S Ledger T)) (run : ScriptRun) (merged : Result (Unit {0}) ChainRefusal) (history : History) (after : Disk)
      → ((asking : Asking) (guests : List (List Outcome)) (unread : ℕ) (short : Bool) → WasShared disk merges old asking mid guests unread → Left merges old run merged after asking guests history unread short)
      → ((asking : Asking) → mid ≡ old → Left merges old run merged after asking (replicate asking.count []) [] 0 true)
      → (names : List (List ℕ)) (lines : List Line) (told : List (List ToldCall)) (short : Bool) (unread : ℕ) (tally : Tally) → IsShared disk merges old names lines mid told short unread tally
      → IfOk run.transcript (λ text. (short ≡ false) × (string_bytes text ≡ serve_text history told)) → HasServedScript disk merges old.first names lines (record { run = run; unread = unread; tally = tally; merged = merged }) after
  served_so merges old mid run merged history after served unserved names lines told short unread tally (IsShared.was_shared guests s words adds) text = record {
    guests = guests;
    history = history;
    served = served (asked_by lines) guests unread (is_err run.transcript) s;
    written = record { transcript = transcript_is names lines told short guests history words run.transcript text; tally_is = adds };
  }
  served_so merges old mid run merged history after served unserved names lines told short unread tally (IsShared.no_memory same short_is none no_read no_call) text = record {
    guests = replicate (guest_count lines) [];
    history = [];
    served = subst (λ n. Left merges old run merged after (asked_by lines) (replicate (guest_count lines) []) [] n (is_err run.transcript)) (sym no_read)
        (subst (Left merges old run merged after (asked_by lines) (replicate (guest_count lines) []) [] 0) (sym (none_short run.transcript untold)) (unserved (asked_by lines) same));
    written = none_written names lines run tally no_call untold;
  }
    where
      no_text : {Z : Type 0} (P : String Z → Type 0) (r : Result (String Z) NoRoom) → IfOk r (λ t. (short ≡ false) × P t) → IfOk r (λ t. ⊥)
      no_text P (Ok t) h = absurd (false_true (sym h.0 ∙ short_is))
      no_text P (Err x) h = tt

      untold : IfOk run.transcript (λ t. ⊥)
      untold = no_text _ run.transcript text

  -- memory ran out before the chain could be shared, and its session was ended
  pub unserved_is : (merges : Bool) (first : Chain S Ledger T) (asking : Asking) (end : Ending) (merged : Result (Unit {0}) ChainRefusal) (after : Disk) → end.short ≡ true → end.unread ≡ 0 → merged ≡ Err NoMemory → (merges ≡ true → has_merge first.layers ≡ true)
      → EndsCounted (disk first.store) after end.fault end.closed → LeavesHistory (session_of disk first) [] None None (has_merge first.layers) end.closed after → HasServed disk merges first asking (replicate asking.count []) [] end merged after
  unserved_is merges first asking end merged after short no_read no_merge has counted leaves = record {
    broken = None;
    breach = None;
    opens = λ s e. refl;
    count = length-replicate asking.count [];
    served = λ trace told from serving began. record {
      told = each_empty _ (λ g. tt) asking.count 1;
      order = each_empty _ (λ g. tt) asking.count 1;
      unread = each_empty _ (λ g. tt) asking.count 1;
      all = λ p low high. absurd (omega (arith, low, high));
      breaker = tt;
    };
    counted = counted;
    faults = record {
      each = all_empty _ (flat_map told_of) refl asking.count;
      end = changed_end (disk first.store).files after end.closed counted.files counted.end;
      none = changed_none (disk first.store) after end.closed counted.none;
    };
    unread = all_empty _ unread_in refl asking.count;
    unfetched = 0;
    none_fetched = λ none. refl;
    unread_is = (let none = unread_none asking.count in omega (arith, no_read, none));
    full = None;
    ends = all_empty _ (flat_map told_of) refl asking.count;
    under_way = has_merge first.layers;
    leaves = leaves;
    finished = λ some. subst (λ r. OnOk r (has_merge first.layers ≡ false)) (sym no_merge) tt;
    kept = λ some. subst (λ r. IfErr r (λ x. OnOk end.closed (has_merge first.layers ≡ true))) (sym no_merge) (any_ok end.closed (has some));
    stopped = subst (λ r. IfErr r (StopsMerge end)) (sym no_merge) short;
    near = subst (λ r. IfErr r (IsNearEnd disk first None)) (sym no_merge) tt;
  }
