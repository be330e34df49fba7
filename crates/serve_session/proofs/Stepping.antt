-- A guest of a script, behind one of its lines.
use Rattle.std.proofs.Common.{◌≡◌, ◌+◌, ◌^◌, ◌<◌, ◌≤◌, arith, ◌++◌, ◌∷◌, ℕ, Bool, true, false, [], List, length, map, Result, Ok, Err, refl, sym, ap, subst, ◌∙◌, length-append, lt-ltb}
use Rattle.std.specs.Prelude.{◌||◌, IfErr, IfOk, MatchBool, if◌then◌else◌, not}
use Rattle.std.proofs.lemmas.List.{append-nil}
use Rattle.store_model.specs.Cause.{Rose}
use Rattle.store_model.specs.Disk.{Disk, Sealed}
use Rattle.store_model.specs.declared.fault.StoreFault.{StoreFault}
use Rattle.guest_model.specs.declared.call.Caller.{Caller}
use Rattle.guest_model.specs.declared.call.Reply.{Reply}
use Rattle.ledger.specs.declared.ledger.Ledger.{Ledger}
use Rattle.guest_model.specs.declared.refusal.ChainRefusal.{ChainRefusal}
use Rattle.guest_model.specs.declared.refusal.ChainRefusal.TheVariants.{Abandoned, Broken, EmptyRange, FileFull, NoMerge, NoPiece, NoRoom, NoStripe, NotYet, OutOfRange, ReadFault, ReadOnly, Spent, Stale, TooLong}
use Rattle.guest_model.specs.Counts.{one_more}
use Rattle.chain_core.specs.declared.chain.Chain.{Chain}
use Rattle.layer_session.proofs.Equal.{true_false}
use Rattle.script.specs.Grammar.{is_call}
use Rattle.script.specs.declared.form.Form.{Form}
use Rattle.turn_lock.specs.Seats.{Known, TableId}
use Rattle.turn_lock.proofs.Fronts.{starts-itself}
use Rattle.shared_chain.specs.declared.basis.Basis.{Basis}
use Rattle.shared_chain.specs.declared.basis.Step.{Step}
use Rattle.shared_chain.specs.Laws.{contains_itself}
use Rattle.guest_io.specs.Guests.{ReadsBy, caller_of}
use Rattle.shared_chain.specs.Seats.{IsFree, KeepsSeat}
use Rattle.serve_session.specs.declared.actor.Actor.{Actor}
use Rattle.serve_session.specs.Actors.{HasHeard, HasKept, HasReaders, IsActor, IsUnread, called_form}
use Rattle.guest_io.specs.declared.placed.Placed.{Placed}
use Rattle.serve_session.specs.Asking.{IsAsked, IsMade, IsTooLong, OnlyReadsMiss, asks_too_many, count_of, emptied, is_want, outcome_of, read_as, reply_in, shown_in, with_answer, with_read}
use Rattle.serve_session.specs.Served.{Outcome, call_of, counts_behind, none_failed, told_call, unread_in, unread_of}
use Rattle.serve_session.specs.Tallies.{AddsUp, with_outcome}
use Rattle.serve_session.proofs.Guests.{as_many, calls_append, told_snoc, unread_count, unread_few}
use Rattle.serve_session.proofs.Reading.{missed_by, readers_after}
use Rattle.serve_session.proofs.Hearing.{asked_kept, next_one, nothing_more}

-- how many reads failed by a reader, with one more call
unread_more : (outcomes : List Outcome) (unread : ℕ) (r : Reply) (answer : Result Placed ChainRefusal) → unread ≡ length (unread_in outcomes) → length outcomes < 2 ^ 32
    → with_answer unread answer ≡ length (unread_in (if is_want answer then outcomes else outcomes ++ outcome_of r answer ∷ []))
unread_more outcomes unread r answer is few = go answer
  where
    more : (o : Outcome) (n : ℕ) → n ≡ unread + length (unread_of o) → n ≡ length (unread_in (outcomes ++ o ∷ []))
    more o n e = e ∙ ap (λ k. k + length (unread_of o)) is ∙ sym (unread_count outcomes o)

    plus_none : unread ≡ unread + 0
    plus_none = omega arith

    by_read : (place : ℕ) (read : Result (Unit {0}) StoreFault) → with_read unread read ≡ length (unread_in (outcomes ++ Ok (place, read_as r read) ∷ []))
    by_read place (Ok done) = more (Ok (place, Ok r)) unread plus_none
    by_read place (Err fault) = more (Ok (place, Err fault)) (one_more unread) (ap (λ b. if b then unread + 1 else unread) (lt-ltb (unread + 1) (2 ^ 64) (omega (arith, is, few, unread_few outcomes))))

    go : (answer : Result Placed ChainRefusal) → with_answer unread answer ≡ length (unread_in (if is_want answer then outcomes else outcomes ++ outcome_of r answer ∷ []))
    go (Ok placed) = by_read placed.place placed.read
    go (Err EmptyRange) = more (Err EmptyRange) unread plus_none
    go (Err (OutOfRange a b c)) = more (Err (OutOfRange a b c)) unread plus_none
    go (Err (TooLong a b)) = more (Err (TooLong a b)) unread plus_none
    go (Err ReadOnly) = more (Err ReadOnly) unread plus_none
    go (Err (Broken file count)) = more (Err (Broken file count)) unread plus_none
    go (Err (Spent t)) = more (Err (Spent t)) unread plus_none
    go (Err (FileFull next)) = more (Err (FileFull next)) unread plus_none
    go (Err (ReadFault file count)) = more (Err (ReadFault file count)) unread plus_none
    go (Err NoMerge) = more (Err NoMerge) unread plus_none
    go (Err (Stale taken now)) = more (Err (Stale taken now)) unread plus_none
    go (Err (NotYet stripe)) = more (Err (NotYet stripe)) unread plus_none
    go (Err (Abandoned file count)) = more (Err (Abandoned file count)) unread plus_none
    go (Err (NoStripe stripe stripes)) = more (Err (NoStripe stripe stripes)) unread plus_none
    go (Err NoPiece) = more (Err NoPiece) unread plus_none
    go (Err NoRoom) = is

module _ {S T : Type 0} where
  -- whatever a line asks for, the call keeps the seat
  asked_seat : (disk : S → Disk) (who : Caller) (form : Form) (room : List ℕ) (old new : Known Step (Basis S T)) (answer : Result Placed ChainRefusal) → IsAsked disk who form room old new answer → KeepsSeat old new
  asked_seat disk who form room old new answer = go (asks_too_many form)
    where
      go : (b : Bool) → MatchBool b (IsTooLong disk who (emptied form) (count_of form) old new answer) (IsMade disk who (call_of form) (reply_in room form) old new answer) → KeepsSeat old new
      go true h = h.2.keeps
      go false h = h.keeps

  -- and draws one ticket at most
  asked_drawn : (disk : S → Disk) (who : Caller) (form : Form) (room : List ℕ) (old new : Known Step (Basis S T)) (answer : Result Placed ChainRefusal) → IsAsked disk who form room old new answer → new.drawn ≤ old.drawn + 1
  asked_drawn disk who form room old new answer = go (asks_too_many form)
    where
      go : (b : Bool) → MatchBool b (IsTooLong disk who (emptied form) (count_of form) old new answer) (IsMade disk who (call_of form) (reply_in room form) old new answer)
          → new.drawn ≤ old.drawn + 1
      go true h = h.2.drawn
      go false h = h.drawn

  pub asked_free : (disk : S → Disk) (who : Caller) (form : Form) (room : List ℕ) (lock : TableId) (old new : Known Step (Basis S T)) (answer : Result Placed ChainRefusal) → IsAsked disk who form room old new answer → IsFree lock old → IsFree lock new
  asked_free disk who form room lock old new answer asked free = let k = asked_seat disk who form room old new answer asked in (k.lock ∙ free.0, k.free)

  module _ (disk : S → Disk) (first : Chain S Ledger T) (lock : TableId) (names : List (List ℕ)) (forms : List Form) (form : Form) (old : Actor S T) (is : IsActor disk first lock names forms old) where
    more_heard : (fs : List Form) → HasHeard disk first false old.number (map call_of (forms ++ fs)) old.guest.seat is.outcomes
    more_heard fs =
        subst (λ cs. HasHeard disk first false old.number cs old.guest.seat is.outcomes) (sym (calls_append forms fs))
        (nothing_more disk first false old.number (map call_of forms) is.outcomes (call_of form) old.guest.seat old.guest.seat is.hears (starts-itself old.guest.seat.seen) (contains_itself old.guest.seat.basis) (omega arith) (map call_of fs) refl (omega arith))

    -- memory has run out before
    pub short_passes : old.is_short ≡ true → IsActor disk first lock names (forms ++ called_form form) old
    short_passes short = record {
      free = is.free;
      number = is.number;
      room = is.room;
      sector = is.sector;
      outcomes = is.outcomes;
      hears = more_heard (called_form form);
      readers = is.readers;
      unread = is.unread;
      tally = is.tally;
      kept = λ e. absurd (true_false (sym short ∙ e));
    }

    -- it is no call
    pub other_passes : is_call form ≡ false → IsActor disk first lock names (forms ++ called_form form) old
    other_passes other = subst (λ fs. IsActor disk first lock names fs old) (sym (ap (λ b. forms ++ (if b then form ∷ [] else [])) other ∙ append-nil forms)) is

    pub passes : (old.is_short || not (is_call form)) ≡ true → IsActor disk first lock names (forms ++ called_form form) old
    passes h = go old.is_short refl (is_call form) refl h
      where
        go : (a : Bool) → old.is_short ≡ a → (b : Bool) → is_call form ≡ b → (a || not b) ≡ true → IsActor disk first lock names (forms ++ called_form form) old
        go true short b call h = short_passes short
        go false short true call h = absurd (true_false (sym h))
        go false short false call h = other_passes call

    -- the call was made
    module _ (room : List ℕ) (seat : Known Step (Basis S T)) (answer : Result Placed ChainRefusal) (asked : IsAsked disk (caller_of old.guest.number old.guest.next) form room old.guest.seat seat answer) (readers : List Sealed) (only : OnlyReadsMiss (call_of form) answer) (by : ReadsBy answer old.guest.readers readers)
        (few : length forms < 2 ^ 32) (memory : old.is_short ≡ false) (call : is_call form ≡ true) where
      kept : HasKept disk first names forms old is.outcomes
      kept = is.kept memory

      told : length is.outcomes + 1 ≡ old.guest.next
      told = sym kept.next

      asked_by : IsAsked disk (caller_of old.number (length is.outcomes + 1)) form room old.guest.seat seat answer
      asked_by =
          subst (λ n. IsAsked disk (caller_of old.number n) form room old.guest.seat seat answer) (sym told)
          (subst (λ k. IsAsked disk (caller_of k old.guest.next) form room old.guest.seat seat answer) is.number asked)

      abbrev outcomes_after : List Outcome
      outcomes_after = with_outcome is.outcomes (shown_in room form) answer

      missed : IfOk answer (λ placed. IfErr placed.read (λ fault. IsUnread disk first (call_of form) fault × Rose (counts_behind none_failed (unread_in is.outcomes) fault.file) fault.count))
      missed = go answer only by
        where
          go : (a : Result Placed ChainRefusal) → OnlyReadsMiss (call_of form) a → ReadsBy a old.guest.readers readers
              → IfOk a (λ placed. IfErr placed.read (λ fault. IsUnread disk first (call_of form) fault × Rose (counts_behind none_failed (unread_in is.outcomes) fault.file) fault.count))
          go (Ok placed) reads own = missed_by disk first (call_of form) (unread_in is.outcomes) old.guest.readers readers placed.read is.readers own reads
          go (Err x) reads own = tt

      heard : HasHeard disk first false old.number (map call_of (forms ++ form ∷ [])) seat outcomes_after
      heard =
          subst (λ cs. HasHeard disk first false old.number cs seat outcomes_after) (sym (calls_append forms (form ∷ [])))
          (let k = asked_seat disk (caller_of old.guest.number old.guest.next) form room old.guest.seat seat answer asked in
          asked_kept disk first false old.number (map call_of forms) is.outcomes (call_of form) old.guest.seat seat is.hears k.seen k.basis k.refusals (kept.all ∙ sym (as_many forms)) (asked_drawn disk (caller_of old.guest.number old.guest.next) form room old.guest.seat seat answer asked) form refl is.sector room answer asked_by missed)

      pub called : (a : Actor S T) → a.guest.seat ≡ seat → a.guest.readers ≡ readers → a.guest.number ≡ old.guest.number → a.guest.next ≡ one_more old.guest.next → a.number ≡ old.number → length a.room.items ≡ 1048576 → a.unread ≡ with_answer old.unread answer → AddsUp a.tally outcomes_after
          → (a.is_short ≡ false → (is_want answer ≡ false) × (a.told.items ≡ old.told.items ++ told_call names form (outcome_of (shown_in room form) answer) ∷ [])) → IsActor disk first lock names (forms ++ called_form form) a
      called a seat_is readers_are guest next number rooms unread tally keeps = subst (λ fs. IsActor disk first lock names (forms ++ fs) a) (sym (ap (λ b. if b then form ∷ [] else []) call)) (record {
        free = subst (λ s. IsFree lock s) (sym seat_is) (asked_free disk (caller_of old.guest.number old.guest.next) form room lock old.guest.seat seat answer asked is.free);
        number = guest ∙ is.number ∙ sym number;
        room = rooms;
        sector = is.sector;
        outcomes = outcomes_after;
        hears = subst (λ n. HasHeard disk first false n (map call_of (forms ++ form ∷ [])) a.guest.seat outcomes_after) (sym number) (subst (λ s. HasHeard disk first false old.number (map call_of (forms ++ form ∷ [])) s outcomes_after) (sym seat_is) heard);
        readers = subst (HasReaders disk first (unread_in outcomes_after)) (sym readers_are) (readers_after disk first is.outcomes (shown_in room form) answer old.guest.readers readers is.readers by);
        tally = tally;
        unread = unread ∙ unread_more is.outcomes old.unread (shown_in room form) answer is.unread (subst (λ n. n < 2 ^ 32) (sym kept.all) few);
        kept = λ short.
            let k = keeps short in
            subst (λ b. HasKept disk first names (forms ++ form ∷ []) a (if b then is.outcomes else is.outcomes ++ outcome_of (shown_in room form) answer ∷ [])) (sym k.0)
            (record {
              all = length-append is.outcomes (outcome_of (shown_in room form) answer ∷ []) ∙ ap (λ n. n + 1) kept.all ∙ sym (length-append forms (form ∷ []));
              next = next ∙ next_one old.guest.next (length is.outcomes) kept.next (subst (λ n. n < 2 ^ 32) (sym kept.all) few) ∙ ap (λ n. n + 1) (sym (length-append is.outcomes (outcome_of (shown_in room form) answer ∷ [])));
              told = k.1 ∙ ap (λ ts. ts ++ told_call names form (outcome_of (shown_in room form) answer) ∷ []) kept.told ∙ sym (told_snoc names forms is.outcomes form (outcome_of (shown_in room form) answer) kept.all);
            });
      })
