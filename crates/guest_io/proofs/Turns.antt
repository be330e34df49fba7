-- A guest's turn, from its beginning to its end.
use Rattle.std.proofs.Common.{◌≡◌, ◌⊎◌, ◌+◌, ◌-◌, ◌≤◌, ◌==◌, ◌++◌, ◌∷◌, ℕ, List, [], length, inl, ap₂, Some, None, Result, Ok, Err, inr, refl, sym, ap, subst, ◌∙◌, arith, length-append, take_at}
use Rattle.std.specs.Prelude.{All, IfSome, Option, OnOk, if◌then◌else◌}
use Rattle.std.proofs.lemmas.List.{append-nil, length-map, map-append}
use Rattle.store_model.specs.Disk.{Disk, Sealed}
use Rattle.store_model.specs.declared.fault.StoreFault.{StoreFault}
use Rattle.guest_model.specs.declared.call.Call.{Call}
use Rattle.guest_model.specs.declared.call.Caller.{Caller}
use Rattle.guest_model.specs.declared.call.Entry.{Entry}
use Rattle.guest_model.specs.declared.call.Reply.{Reply}
use Rattle.guest_model.specs.declared.call.Reply.TheVariants as replies
use Rattle.guest_model.specs.Calls.{Disk as GuestDisk, reply}
use Rattle.guest_model.specs.History.{History}
use Rattle.ledger.specs.declared.ledger.Ledger.{Ledger}
use Rattle.guest_model.specs.declared.refusal.ChainRefusal.{ChainRefusal}
use Rattle.guest_model.specs.declared.refusal.ChainRefusal.TheVariants.{Abandoned, Broken, EmptyRange, FileFull, NoMerge, NoPiece, NoRoom, NoStripe, NotYet, OutOfRange, ReadFault, ReadOnly, Spent, Stale, TooLong}
use Rattle.chain_core.specs.declared.chain.Chain.{Chain}
use Rattle.chain_core.specs.States.{entry}
use Rattle.shared_chain.specs.declared.basis.Basis.{Basis}
use Rattle.shared_chain.specs.declared.basis.Note.TheVariants as notes
use Rattle.shared_chain.specs.declared.basis.Breach.{Breach}
use Rattle.shared_chain.specs.declared.basis.Step.{Step}
use Rattle.shared_chain.specs.declared.basis.Step.TheVariants.{Broke, Done}
use Rattle.shared_chain.specs.Answers.{IsBroke, IsCalled, IsCausedIn, IsEntered, RepliesBehind}
use Rattle.merge_core.specs.Copied.{marks_of}
use Rattle.merge_core.specs.declared.marks.Marks.{Marks}
use Rattle.shared_chain.specs.Bases.{Contains, HasStripe, basis_of, marked_below}
use Rattle.shared_chain.specs.Laws.{contains_through}
use Rattle.shared_chain.specs.Shared.{Shared}
use Rattle.shared_chain.specs.Steps.{breach_of, broke_after, done_steps, first_breach, steps_of}
use Rattle.turn_lock.specs.Histories.{StartsWith}
use Rattle.turn_lock.specs.Seats.{HasTurn, Known, MayUnlock, Out, after_turn}
use Rattle.vx_base.proofs.Handed.{on_ok_any}
use Rattle.turn_lock.specs.Steps.{places_after}
use Rattle.turn_lock.proofs.Fronts.{starts-itself, starts-through}
use Rattle.turn_lock.proofs.Using.{may_unlock-entry, may_unlock-same, turn_ended}
use Rattle.script_session.proofs.Moving.{counted_high, counted_low}
use Rattle.guest_io.specs.Guests.{AddsNothing, Answers, HasBroken, HaveReaders, IsCall, IsShown, found_in}
use Rattle.read_plan.specs.Reading.{HasFilled}
use Rattle.read_plan.specs.declared.plan.Extent.{Extent}
use Rattle.shared_chain.specs.Planned.{IsPlanned, IsReaderFor}
use Rattle.shared_chain.specs.Seats.{KeepsSeat}

-- ---- steps

-- a list stays, or goes on by one step
data Gained (old new : List Step) : Type 0 where
  is_same : new ≡ old → Gained old new
  has_one : (step : Step) → new ≡ old ++ step ∷ [] → Gained old new

-- the steps behind a call that was done
done_told : (h h' : History) (e : Entry) (broke : Option Breach) → h' ≡ h ++ e ∷ [] → broke ≡ None → steps_of h' broke ≡ done_steps h ++ Done e ∷ []
done_told h h' e broke is none = ap₂ steps_of is none ∙ append-nil (done_steps (h ++ e ∷ [])) ∙ map-append (λ e. Done e) h (e ∷ [])

steps_gained : (who : Caller) (call : Call) (h h' : History) (broke broke' : Option Breach) (answer : Result ℕ ChainRefusal) → IsEntered (entry who call) h h' answer → IsBroke (breach_of who call) broke broke' answer
    → Gained (steps_of h broke) (steps_of h' broke')
steps_gained who call h h' broke broke' (Ok place) e b =
    has_one (Done (entry who call))
    (done_told h h' (entry who call) broke' e.0 b.1 ∙ ap (λ xs. xs ++ Done (entry who call) ∷ []) (sym (ap (λ o. steps_of h o) b.0 ∙ append-nil (done_steps h))))
steps_gained who call h h' broke broke' (Err x) e b = go x b
  where
    still : broke' ≡ broke → Gained (steps_of h broke) (steps_of h' broke')
    still s = is_same (ap₂ steps_of e s)

    broken : (o : Option Breach) → broke ≡ o → broke' ≡ Some (first_breach o (breach_of who call)) → Gained (steps_of h broke) (steps_of h' broke')
    broken (Some earlier) is now = still (now ∙ sym is)
    broken None is now =
        has_one (Broke (breach_of who call)) (ap₂ steps_of e now ∙ ap (λ xs. xs ++ Broke (breach_of who call) ∷ []) (sym (ap (λ o. steps_of h o) is ∙ append-nil (done_steps h))))

    go : (x : ChainRefusal) → broke' ≡ broke_after broke (breach_of who call) (Err x) → Gained (steps_of h broke) (steps_of h' broke')
    go EmptyRange s = still s
    go (OutOfRange a b' c) s = still s
    go (TooLong a b') s = still s
    go ReadOnly s = still s
    go (Broken file count) s = broken broke refl s
    go (Spent t) s = still s
    go (FileFull next) s = still s
    go (ReadFault file count) s = still s
    go NoMerge s = still s
    go (Stale taken now) s = still s
    go (NotYet stripe) s = still s
    go (Abandoned file count) s = still s
    go (NoStripe stripe stripes) s = still s
    go NoPiece s = still s
    go NoRoom s = still s

module _ {S T : Type 0} where
  -- the history as the lock tells it
  abbrev told_of : Shared (Chain S Ledger T) → List Step
  told_of s = steps_of s.chain.recorder s.broke

  -- how much is done to the chain: its events
  abbrev work : Basis S T → ℕ
  work b = b.events

  -- what the seat knew, the value knew before the call
  shown : (disk : S → Disk) (call : Call) (known before after : Basis S T) (x : ChainRefusal) → Contains before known → IsCausedIn disk call before after (Err x)
      → (seat last : Known Step (Basis S T)) → seat.basis ≡ known → last.basis ≡ after → IsShown disk call x seat last
  shown disk call known before after x covers h seat last was is =
      go x h
    where
      whole : (x : ChainRefusal) → IsCausedIn disk call known after (Err x) → IsCausedIn disk call seat.basis last.basis (Err x)
      whole x k = subst (λ b. IsCausedIn disk call b last.basis (Err x)) (sym was) (subst (λ b. IsCausedIn disk call known b (Err x)) (sym is) k)

      go : (x : ChainRefusal) → IsCausedIn disk call before after (Err x) → IsShown disk call x seat last
      go EmptyRange h = whole EmptyRange h
      go (OutOfRange a b c) h = whole (OutOfRange a b c) h
      go (TooLong a b) h = whole (TooLong a b) h
      go ReadOnly h = whole ReadOnly h
      go (Broken file count) h = whole (Broken file count) h
      go (Spent t) h = (h.0, inr (subst (λ (b : Basis S T). t ≤ b.events) (sym is) h.1))
      go (FileFull next) h = whole (FileFull next) h
      go (ReadFault file count) h = whole (ReadFault file count) (h.0, h.1, λ k. h.2 (covers.notes (notes.ReadFailed file count) k))
      go NoMerge h = absurd h
      go (Stale taken now) h = absurd h
      go (NotYet stripe) h = absurd h
      go (Abandoned file count) h = absurd h
      go (NoStripe stripe stripes) h = absurd h
      go NoPiece h = absurd h
      go NoRoom h = whole NoRoom h

  module _ (disk : S → Disk) (who : Caller) (call : Call) (r : Option Reply) (before after locked : Known Step (Basis S T)) (old new : Shared (Chain S Ledger T)) (answer : Result ℕ ChainRefusal)
      (turn : HasTurn Contains before after locked (told_of old) (basis_of disk old)) (k : IsCalled disk who call old new answer) where
    covers : Contains (basis_of disk new) (basis_of disk old)
    covers = record { first = ap Some k.first; notes = λ n h. (k.noted n).1 (inr h); events = omega (arith, k.answered.events, counted_high old.chain.events); stripes = ap (λ (m : Marks). m.stripes) k.copied; copied = λ t h. subst (λ (m : Marks). HasStripe t (marked_below (marks_of m) m.stripes)) (sym k.copied) h; finished = λ e. k.finished ∙ e }

    little : new.chain.events ≤ old.chain.events + 2
    little = omega (arith, k.answered.events, counted_low old.chain.events)

    gained_step : Gained (told_of old) (told_of new)
    gained_step = steps_gained who call old.chain.recorder new.chain.recorder old.broke new.broke answer k.entered k.broke

    -- what `unlock` asks
    pub may_end : MayUnlock Contains work after locked (told_of new) (basis_of disk new)
    may_end = go gained_step
      where
        go : Gained (told_of old) (told_of new) → MayUnlock Contains work after locked (told_of new) (basis_of disk new)
        go (is_same e) = may_unlock-same Contains work before after locked (told_of old) (basis_of disk old) turn (told_of new) (basis_of disk new) e covers little
        go (has_one step e) = may_unlock-entry Contains work before after locked (told_of old) (basis_of disk old) turn (told_of new) (basis_of disk new) step e covers little

    -- the seat behind the turn
    abbrev ended : Known Step (Basis S T)
    ended = record {
      lock = before.lock;
      seen = told_of new;
      mine = places_after before.mine (length (told_of new) - length (told_of old)) (length (told_of new));
      known = before.known;
      basis = basis_of disk new;
      turn = None;
      refused = before.refused;
      family = before.family;
      first_ticket = before.first_ticket;
      drawn = before.drawn + 1;
      refusals = before.refusals;
    }

    goes_on : StartsWith (told_of new) (told_of old)
    goes_on = go gained_step
      where
        go : Gained (told_of old) (told_of new) → StartsWith (told_of new) (told_of old)
        go (is_same e) = subst (λ h. StartsWith h (told_of old)) (sym e) (starts-itself (told_of old))
        go (has_one step e) = subst (λ h. StartsWith h (told_of old)) (sym e) (take_at (told_of old) (step ∷ []) (length (told_of old)) refl)

    keeps : KeepsSeat before ended
    keeps = record {
      lock = refl;
      free = refl;
      family = refl;
      first_ticket = refl;
      known = refl;
      refusals = omega arith;
      seen = starts-through (told_of new) (told_of old) before.seen goes_on turn.history;
      basis = contains_through (basis_of disk new) (basis_of disk old) before.basis covers turn.covers;
    }

    -- the places of its own
    gained : (n m : ℕ) → n ≡ 1 → places_after before.mine n m ≡ before.mine ++ m ∷ []
    gained n m e = ap (λ k. if k == 0 then before.mine else before.mine ++ m ∷ []) e

    stayed : (n m : ℕ) → n ≡ 0 → places_after before.mine n m ≡ before.mine
    stayed n m e = ap (λ k. if k == 0 then before.mine else before.mine ++ m ∷ []) e

    -- where the history went on by one step
    module _ (step : Step) (none : old.broke ≡ None) (is : told_of new ≡ done_steps old.chain.recorder ++ step ∷ []) where
      pub before_is : told_of old ≡ done_steps old.chain.recorder
      before_is = ap (λ b. steps_of old.chain.recorder b) none ∙ append-nil (done_steps old.chain.recorder)

      pub begins : StartsWith (done_steps old.chain.recorder) before.seen
      begins = subst (λ h. StartsWith h before.seen) before_is turn.history

      size : length (told_of new) ≡ length old.chain.recorder + 1
      size = ap length is ∙ length-append (done_steps old.chain.recorder) (step ∷ []) ∙ ap (λ n. n + 1) (length-map old.chain.recorder (λ e. Done e))

      was : length (told_of old) ≡ length old.chain.recorder
      was = ap length before_is ∙ length-map old.chain.recorder (λ e. Done e)

      pub mine_is : ended.mine ≡ before.mine ++ (length old.chain.recorder + 1) ∷ []
      mine_is = gained (length (told_of new) - length (told_of old)) (length (told_of new)) (omega (arith, size, was)) ∙ ap (λ p. before.mine ++ p ∷ []) size

    mine_same : told_of new ≡ told_of old → ended.mine ≡ before.mine
    mine_same e = stayed (length (told_of new) - length (told_of old)) (length (told_of new)) (let same : length (told_of new) ≡ length (told_of old) = ap length e in omega (arith, same))

    adds : (x : ChainRefusal) → new.chain.recorder ≡ old.chain.recorder → new.broke ≡ broke_after old.broke (breach_of who call) (Err x) → AddsNothing who call x before ended
    adds x same broke = go x broke
      where
        still : new.broke ≡ old.broke → ended.mine ≡ before.mine
        still e = mine_same (ap₂ steps_of same e)

        broken : (o : Option Breach) → old.broke ≡ o → new.broke ≡ Some (first_breach o (breach_of who call)) → (ended.mine ≡ before.mine) ⊎ HasBroken who call before ended
        broken (Some b) is now = inl (still (now ∙ sym is))
        broken None is now =
            let seen : told_of new ≡ done_steps old.chain.recorder ++ Broke (breach_of who call) ∷ [] = ap₂ steps_of same now in
            inr (record { before = old.chain.recorder; begins = begins (Broke (breach_of who call)) is seen; seen = seen; mine = mine_is (Broke (breach_of who call)) is seen })

        go : (x : ChainRefusal) → new.broke ≡ broke_after old.broke (breach_of who call) (Err x) → AddsNothing who call x before ended
        go EmptyRange e = still e
        go (OutOfRange a b c) e = still e
        go (TooLong a b) e = still e
        go ReadOnly e = still e
        go (Broken file count) e = broken old.broke refl e
        go (Spent t) e = still e
        go (FileFull next) e = still e
        go (ReadFault file count) e = still e
        go NoMerge e = still e
        go (Stale taken now) e = still e
        go (NotYet stripe) e = still e
        go (Abandoned file count) e = still e
        go (NoStripe stripe stripes) e = still e
        go NoPiece e = still e
        go NoRoom e = still e

    by_answer : (a : Result ℕ ChainRefusal) → IsEntered (entry who call) old.chain.recorder new.chain.recorder a → IsBroke (breach_of who call) old.broke new.broke a → IsCausedIn disk call (basis_of disk old) (basis_of disk new) a
        → OnOk a (IfSome r (λ r. RepliesBehind disk old.first old.chain.recorder call r)) → Answers disk who call r before ended a
    by_answer (Ok place) e b c behind =
        let seen : told_of new ≡ done_steps old.chain.recorder ++ Done (entry who call) ∷ [] = done_told old.chain.recorder new.chain.recorder (entry who call) new.broke e.0 b.1 in
        let long : length new.chain.recorder ≡ length old.chain.recorder + 1 = ap length e.0 ∙ length-append old.chain.recorder (entry who call ∷ []) in
        let place_is : place ≡ length old.chain.recorder + 1 = e.1 ∙ long in
        record {
          before = old.chain.recorder;
          begins = begins (Done (entry who call)) b.0 seen;
          seen = seen;
          place_is = place_is;
          mine = mine_is (Done (entry who call)) b.0 seen ∙ ap (λ p. before.mine ++ p ∷ []) (sym place_is);
          placed = c;
          replies = subst (λ first. IfSome r (λ r. RepliesBehind disk first old.chain.recorder call r)) (sym k.first) behind;
        }
    by_answer (Err x) e b c behind = (
      adds x e b,
      shown disk call before.basis (basis_of disk old) (basis_of disk new) x turn.covers c before ended refl refl,
    )

    pub turn_called : (last : Known Step (Basis S T)) → last ≡ after_turn after (told_of new) (basis_of disk new) → OnOk answer (IfSome r (λ r. RepliesBehind disk old.first old.chain.recorder call r)) → IsCall disk who call r before last answer
    turn_called last is behind =
        subst (λ s. IsCall disk who call r before s answer) (sym (turn_ended Contains work before after locked (told_of old) (basis_of disk old) turn last (told_of new) (basis_of disk new) is))
        (record { keeps = keeps; drawn = omega arith; answers = by_answer answer k.entered k.broke k.cause behind })

  -- ---- as a guest's call has them

  module _ (disk : S → Disk) (who : Caller) (call : Call) (before after : Known Step (Basis S T)) (held : Out (Shared (Chain S Ledger T)) Step (Basis S T)) (old new : Shared (Chain S Ledger T)) (answer : Result ℕ ChainRefusal)
      (is : old ≡ held.value) (turn : HasTurn Contains before after held.seat (told_of held.value) (basis_of disk held.value)) (k : IsCalled disk who call old new answer) where
    has_turn : HasTurn Contains before after held.seat (told_of old) (basis_of disk old)
    has_turn = subst (λ (v : Shared (Chain S Ledger T)). HasTurn Contains before after held.seat (told_of v) (basis_of disk v)) (sym is) turn

    pub may_turn : MayUnlock Contains work after held.seat (told_of new) (basis_of disk new)
    may_turn = may_end disk who call None before after held.seat old new answer has_turn k

    pub ended_turn : (want : Caller) (r : Option Reply) (was last : Known Step (Basis S T)) → who ≡ want → before ≡ was → last ≡ after_turn after (told_of new) (basis_of disk new) → OnOk answer (IfSome r (λ r. RepliesBehind disk old.first old.chain.recorder call r))
        → IsCall disk want call r was last answer
    ended_turn want r was last is_who is_seat is_last behind =
        subst (λ w. IsCall disk w call r was last answer) is_who
        (subst (λ s. IsCall disk who call r s last answer) is_seat
        (turn_called disk who call r before after held.seat old new answer has_turn k last is_last behind))

    -- of a call whose reply says nothing
    pub ended_done : (want : Caller) (was last : Known Step (Basis S T)) → who ≡ want → before ≡ was → last ≡ after_turn after (told_of new) (basis_of disk new) → ((d : GuestDisk) → reply d call ≡ replies.Done)
        → IsCall disk want call (Some replies.Done) was last answer
    ended_done want was last is_who is_seat is_last none =
        ended_turn want (Some replies.Done) was last is_who is_seat is_last (on_ok_any answer (RepliesBehind disk old.first old.chain.recorder call replies.Done) (λ t told from serving empty. none _))

    -- the readers of its seat are for the session that it found
    pub readers_for : (readers : List Sealed) → (was : Known Step (Basis S T)) → before ≡ was → HaveReaders disk was.basis readers → All (IsReaderFor disk old.first) readers
    readers_for readers was is have =
        subst (λ o. IfSome o (λ first. All (IsReaderFor disk first) readers)) (sym has_turn.covers.first)
        (subst (λ (s : Known Step (Basis S T)). HaveReaders disk s.basis readers) (sym is) have)

-- what was planned has been read, or a reader failed
pub filled_reply : {S T : Type 0} (disk : S → Disk) (s : Shared (Chain S Ledger T)) (call : Call) (readers : List Sealed) (plan : List Extent) (out new : List ℕ) (read : Result (Unit {0}) StoreFault) → IsPlanned disk s call readers plan out
    → All (IsReaderFor disk s.first) readers → OnOk read (HasFilled 512 readers plan out new) → IfSome (found_in read new) (λ r. RepliesBehind disk s.first s.chain.recorder call r)
filled_reply disk s call readers plan out new (Ok done) planned are filled = planned.replies are new filled
filled_reply disk s call readers plan out new (Err fault) planned are filled = tt
