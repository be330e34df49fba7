-- What a guest's disk is told, as calls of guest 1, each told its outcome.
use Rattle.std.proofs.Common.{◌≡◌, ◌+◌, ◌*◌, ◌^◌, ◌<◌, ◌≤◌, ◌++◌, ◌∷◌, ℕ, false, true, [], List, Option, None, Some, Result, Ok, Err, append_assoc, length, length-append, refl, sym, ap, subst, ◌∙◌, arith}
use Rattle.std.specs.Prelude.{⊤, if◌then◌else◌}
use Rattle.std.proofs.lemmas.Bool.{lt-ltb}
use Rattle.layer_session.proofs.Equal.{false_true}
use Rattle.store_model.specs.Disk.{Disk, Sealed}
use Rattle.store_model.specs.declared.fault.StoreFault.{StoreFault}
use Rattle.guest_model.specs.Counts.{one_more}
use Rattle.guest_model.specs.declared.call.Call.{Call}
use Rattle.guest_model.specs.declared.call.Call.TheVariants.{Flush, Write}
use Rattle.guest_model.specs.declared.call.Reply.{Reply}
use Rattle.guest_model.specs.declared.call.Reply.TheVariants.{Done}
use Rattle.guest_model.specs.declared.refusal.ChainRefusal.{ChainRefusal}
use Rattle.ledger.specs.declared.ledger.Ledger.{Ledger}
use Rattle.chain_core.specs.Refusing.{is_read}
use Rattle.chain_core.specs.declared.chain.Chain.{Chain}
use Rattle.turn_lock.specs.Seats.{Known, TableId}
use Rattle.shared_chain.specs.declared.basis.Basis.{Basis}
use Rattle.shared_chain.specs.declared.basis.Step.{Step}
use Rattle.shared_chain.specs.Seats.{IsFree}
use Rattle.guest_io.specs.Guests.{ReadsBy, caller_of}
use Rattle.guest_io.specs.declared.guest.Guest.{Guest}
use Rattle.guest_io.specs.declared.placed.Placed.{Placed}
use Rattle.disk_calls.specs.Disks.{Answered, Asked, Runs, Telling, Told, plain}
use Rattle.guest_disk.specs.Hearing.{Calls, GoesOn, Held, Hears, Tells, View, held, of_both, of_call, of_flush, of_write, was_done, was_lost, was_refused}
use Rattle.nbd_front.specs.declared.export.Export.{Export}
use Rattle.nbd_front.specs.declared.refusal.NbdRefusal.{NbdRefusal}
use Rattle.nbd_front.specs.declared.refusal.NbdRefusal.TheVariants as refusals
use Rattle.nbd_front.specs.declared.served.Served.{Served}
use Rattle.nbd_front.specs.Sessions.{CountsFaults, IsServed, World, all_calls}
use Rattle.serve_session.specs.Asking.{IsMade, OnlyReadsMiss, outcome_of}
use Rattle.serve_session.specs.Calling.{BeginsToCall, CallsOnceMore, HasCalled}
use Rattle.serve_session.specs.Served.{Outcome, unread_in, unread_of}
use Rattle.serve_session.proofs.Guests.{unread_count, unread_few}
use Rattle.nbd_session.specs.Connected.{over}
use Rattle.nbd_session.specs.Guests.{IsNew, WasServed}
use Rattle.nbd_session.specs.Made.{ComesTo, heard, is_done, is_flushed, is_lost, is_refused, is_unflushed, is_unwritten, tells_heard}

-- a count that is far below 2^64 goes on by one
counts_on : (n : ℕ) → n < 2 ^ 63 → one_more n ≡ n + 1
counts_on n few = ap (λ b. if b then n + 1 else n) (lt-ltb (n + 1) (2 ^ 64) (omega (arith, few)))

two_last : {X : Type 0} (xs : List X) (x y : X) → (xs ++ x ∷ []) ++ y ∷ [] ≡ xs ++ x ∷ y ∷ []
two_last xs x y = append_assoc xs (x ∷ []) (y ∷ [])

-- what a disk says of a call that is a guest's of a chain
abbrev pub tells_guest : {S T : Type 0} → (S → Disk) → Telling (View S T)
tells_guest disk old asked said new = (new.geometry ≡ old.geometry) × (new.lock ≡ old.lock) × Tells disk old.held asked said new.held

module _ {S T : Type 0} (disk : S → Disk) (first : Chain S Ledger T) (goes_on : CallsOnceMore disk first) (lock : TableId) where
  -- Guest 1 was told of all its calls, and goes on by the next.
  record Holds (calls : List Call) (outcomes : List Outcome) (h : Held S T) : Type 0 where
    pub number : h.guest.number ≡ 1
    pub next : h.guest.next ≡ length outcomes + 1
    pub free : IsFree lock h.guest.seat
    pub called : HasCalled disk first 1 calls h.guest.seat h.guest.readers outcomes
    pub lost : h.lost ≡ length (unread_in outcomes)

  -- one call more
  module _ (calls : List Call) (outcomes : List Outcome) (old new : Held S T) (h : Holds calls outcomes old) (few : length outcomes < 2 ^ 62) (call : Call) where
    once_more : (shown : Reply) (answer : Result Placed ChainRefusal) (read : Result (Unit {0}) StoreFault) → GoesOn read old new → IsMade disk (caller_of old.guest.number old.guest.next) call shown old.guest.seat new.guest.seat answer
        → ReadsBy answer old.guest.readers new.guest.readers → OnlyReadsMiss call answer → new.lost ≡ old.lost + length (unread_of (outcome_of shown answer)) → Holds (calls ++ call ∷ []) (outcomes ++ outcome_of shown answer ∷ []) new
    once_more shown answer read on made reads only lost =
        let o = outcome_of shown answer in
        let who = subst (λ n. IsMade disk (caller_of n old.guest.next) call shown old.guest.seat new.guest.seat answer) h.number made in
        let made_next = subst (λ n. IsMade disk (caller_of 1 n) call shown old.guest.seat new.guest.seat answer) h.next who in
        let counted = counts_on (length outcomes + 1) (omega (arith, few)) in
        let longer = length-append outcomes (o ∷ []) in
        record {
          number = on.number ∙ h.number;
          next = on.next ∙ ap one_more h.next ∙ counted ∙ ap (λ n. n + 1) (sym longer);
          free = (made.keeps.lock ∙ h.free.0, made.keeps.free);
          called = goes_on 1 calls outcomes old.guest.seat new.guest.seat old.guest.readers new.guest.readers call shown answer h.called made_next reads only;
          lost = lost ∙ ap (λ n. n + length (unread_of o)) h.lost ∙ sym (unread_count outcomes o);
        }

    -- that was done
    done_more : (place : ℕ) (said : Reply) → GoesOn (Ok tt) old new → new.lost ≡ old.lost → Calls disk call (Some said) old new (Ok place) → Holds (calls ++ call ∷ []) (outcomes ++ Ok (place, Ok said) ∷ []) new
    done_more place said on lost called =
        let same : new.lost ≡ old.lost + 0 = omega (arith, lost) in
        once_more said (Ok (record { place = place; read = Ok tt })) (Ok tt) on called on.reads tt same

    -- that was refused
    refused_more : (refusal : ChainRefusal) → GoesOn (Ok tt) old new → new.lost ≡ old.lost → (r : Option Reply) → Calls disk call r old new (Err refusal) → Holds (calls ++ call ∷ []) (outcomes ++ Err refusal ∷ []) new
    refused_more refusal on lost r called =
        let same : new.lost ≡ old.lost + 0 = omega (arith, lost) in
        once_more Done (Err refusal) (Ok tt) on (record { keeps = called.keeps; drawn = called.drawn; answers = called.answers }) on.reads tt same

    -- that is a read that a reader failed for
    lost_more : (place : ℕ) (fault : StoreFault) → GoesOn (Err fault) old new → new.lost ≡ one_more old.lost → is_read call ≡ true → Calls disk call None old new (Ok place) → Holds (calls ++ call ∷ []) (outcomes ++ Ok (place, Err fault) ∷ []) new
    lost_more place fault on lost read called =
        let most = unread_few outcomes in
        let counted = counts_on old.lost (omega (arith, h.lost, most, few)) in
        once_more Done (Ok (record { place = place; read = Err fault })) (Err fault) on called on.reads read (lost ∙ counted)

    -- by what is told of it
    told_done : (place : ℕ) (said : Reply) → Hears disk call old new (Ok (place, said)) → Holds (calls ++ call ∷ []) (outcomes ++ Ok (place, Ok said) ∷ []) new
    told_done place said (was_done on lost called) = done_more place said on lost called

    told_refused : (refusal : ChainRefusal) → is_read call ≡ false → Hears disk call old new (Err refusal) → Holds (calls ++ call ∷ []) (outcomes ++ Err refusal ∷ []) new
    told_refused refusal other (was_refused on lost r called) = refused_more refusal on lost r called
    told_refused _ other (was_lost fault on lost read called) = absurd (false_true (sym other ∙ read))

  -- what was told of what was asked comes to calls, and it goes on behind these
  record HoldsMore (calls : List Call) (outcomes : List Outcome) (asked : Asked) (said : Told) (new : Held S T) : Type 0 where
    pub more : List Call
    pub told : List Outcome
    pub comes : ComesTo asked said more told
    pub holds : Holds (calls ++ more) (outcomes ++ told) new
    pub few : length told ≤ 2

  told_plain : (calls : List Call) (outcomes : List Outcome) (old new : Held S T) → Holds calls outcomes old → length outcomes < 2 ^ 62 → (call : Call) (said : Told) → Hears disk call old new said → HoldsMore calls outcomes (plain call) said new
  told_plain calls outcomes old new h few call _ (was_done {place} {said} on lost called) = record {
    more = call ∷ [];
    told = Ok (place, Ok said) ∷ [];
    comes = is_done;
    holds = done_more calls outcomes old new h few call place said on lost called;
    few = omega arith;
  }
  told_plain calls outcomes old new h few call _ (was_refused {refusal} on lost r called) = record {
    more = call ∷ [];
    told = Err refusal ∷ [];
    comes = is_refused;
    holds = refused_more calls outcomes old new h few call refusal on lost r called;
    few = omega arith;
  }
  told_plain calls outcomes old new h few call _ (was_lost {place} fault on lost read called) = record {
    more = call ∷ [];
    told = Ok (place, Err fault) ∷ [];
    comes = is_lost;
    holds = lost_more calls outcomes old new h few call place fault on lost read called;
    few = omega arith;
  }

  -- a Write and a Flush behind it
  both_hold : (calls : List Call) (outcomes : List Outcome) (new : Held S T) (c d : Call) (o p : Outcome) → Holds ((calls ++ c ∷ []) ++ d ∷ []) ((outcomes ++ o ∷ []) ++ p ∷ []) new → Holds (calls ++ c ∷ d ∷ []) (outcomes ++ o ∷ p ∷ []) new
  both_hold calls outcomes new c d o p h = subst (λ cs. Holds cs (outcomes ++ o ∷ p ∷ []) new) (two_last calls c d) (subst (λ os. Holds ((calls ++ c ∷ []) ++ d ∷ []) os new) (two_last outcomes o p) h)

  one_longer : (outcomes : List Outcome) (o : Outcome) → length outcomes < 2 ^ 61 → length (outcomes ++ o ∷ []) < 2 ^ 62
  one_longer outcomes o few = let longer = length-append outcomes (o ∷ []) in omega (arith, few, longer)

  told_more : (calls : List Call) (outcomes : List Outcome) (old new : Held S T) → Holds calls outcomes old → length outcomes < 2 ^ 61 → (asked : Asked) (said : Told) → Tells disk old asked said new → HoldsMore calls outcomes asked said new
  told_more calls outcomes old new h few _ said (of_call {call} one) = told_plain calls outcomes old new h (omega (arith, few)) call said one
  told_more calls outcomes old new h few _ _ (of_both {first = from} {place} {flushed} {bytes} mid write flush) =
      let written = told_done calls outcomes old mid h (omega (arith, few)) (Write from bytes) place Done write in
      let o : Outcome = Ok (place, Ok Done) in
      let both = told_done (calls ++ Write from bytes ∷ []) (outcomes ++ o ∷ []) mid new written (one_longer outcomes o few) Flush flushed Done flush in
      record {
        more = Write from bytes ∷ Flush ∷ [];
        told = o ∷ Ok (flushed, Ok Done) ∷ [];
        comes = is_flushed;
        holds = both_hold calls outcomes new (Write from bytes) Flush o (Ok (flushed, Ok Done)) both;
        few = omega arith;
      }
  told_more calls outcomes old new h few _ _ (of_write {first = from} {bytes} {refusal} write) = record {
    more = Write from bytes ∷ [];
    told = Err refusal ∷ [];
    comes = is_unwritten;
    holds = told_refused calls outcomes old new h (omega (arith, few)) (Write from bytes) refusal refl write;
    few = omega arith;
  }
  told_more calls outcomes old new h few _ _ (of_flush {first = from} {place} {bytes} {refusal} mid write flush) =
      let written = told_done calls outcomes old mid h (omega (arith, few)) (Write from bytes) place Done write in
      let o : Outcome = Ok (place, Ok Done) in
      let both = told_refused (calls ++ Write from bytes ∷ []) (outcomes ++ o ∷ []) mid new written (one_longer outcomes o few) Flush refusal refl flush in
      record {
        more = Write from bytes ∷ Flush ∷ [];
        told = o ∷ Err refusal ∷ [];
        comes = is_unflushed;
        holds = both_hold calls outcomes new (Write from bytes) Flush o (Err refusal) both;
        few = omega arith;
      }

  -- so it is of all that was asked
  record HoldsBehind (cs : List Answered) (calls : List Call) (outcomes : List Outcome) (new : View S T) : Type 0 where
    pub later : List Call
    pub told : List Outcome
    pub runs : Runs tells_heard (heard calls outcomes) cs (heard later told)
    pub holds : Holds later told new.held
    pub few : length told ≤ length outcomes + 2 * length cs

  runs_heard : (cs : List Answered) (old new : View S T) (calls : List Call) (outcomes : List Outcome) → Holds calls outcomes old.held → length outcomes + 2 * length cs < 2 ^ 61 → Runs (tells_guest disk) old cs new → HoldsBehind cs calls outcomes new
  runs_heard [] old new calls outcomes h few same = record {
    later = calls;
    told = outcomes;
    runs = refl;
    holds = subst (λ (v : View S T). Holds calls outcomes v.held) (sym same) h;
    few = omega arith;
  }
  runs_heard (c ∷ cs) old new calls outcomes h few (mid, told, rest) =
      let one = told_more calls outcomes old.held mid.held h (omega (arith, few)) c.asked c.said told.2 in
      let longer = length-append outcomes one.told in
      let behind = runs_heard cs mid new (calls ++ one.more) (outcomes ++ one.told) one.holds (omega (arith, few, longer, one.few)) rest in
      record {
        later = behind.later;
        told = behind.told;
        runs = (heard (calls ++ one.more) (outcomes ++ one.told), record { calls = one.more; outcomes = one.told; comes = one.comes; is = refl }, behind.runs);
        holds = behind.holds;
        few = omega (arith, behind.few, longer, one.few);
      }

-- ---- the connection

-- faults are counted alike over another disk
counts_as : {D E : Type 0} (r : Result (Unit {0}) NbdRefusal) (a b : World ⊤) (x y : D) (z w : E) → CountsFaults r (over a x) (over b y) → CountsFaults r (over a z) (over b w)
counts_as (Ok done) a b x y z w h = h
counts_as (Err (refusals.Cut place)) a b x y z w h = h
counts_as (Err (refusals.Magic place)) a b x y z w h = h
counts_as (Err refusals.OtherName) a b x y z w h = h
counts_as (Err (refusals.TooLong place)) a b x y z w h = h
counts_as (Err refusals.OtherFlags) a b x y z w h = h
counts_as (Err (refusals.Source fault)) a b x y z w h = h
counts_as (Err (refusals.Sink fault)) a b x y z w h = h
counts_as (Err refusals.Spent) a b x y z w h = h

-- what was served over one disk was so over another of which the same calls were made
served_as : {D E : Type 0} (tells : Telling D) (others : Telling E) (e : Export) (a b : World ⊤) (x y : D) (z w : E) (served : Served) (s : IsServed tells (λ d. None) e (over a x) (over b y) served) → Runs others z (all_calls s.exchanges) w
    → IsServed others (λ d. None) e (over a z) (over b w) served
served_as tells others e a b x y z w served s runs = record {
  exchanges = s.exchanges;
  bytes = s.bytes;
  last = s.last;
  tail = s.tail;
  ahead = s.ahead;
  reads = s.reads;
  taken = s.taken;
  near = s.near;
  makes = s.makes;
  runs = runs;
  history = s.history;
  sent = s.sent;
  fault = s.fault;
  no_room = s.no_room;
  counts = counts_as served.end a b x y z w s.counts;
  ends = s.ends;
  spent = s.spent;
  few = s.few;
}

-- a client was served over the disk of guest 1
pub was_served : {S T : Type 0} (disk : S → Disk) (first : Chain S Ledger T) → BeginsToCall disk first → CallsOnceMore disk first → (lock : TableId) (guest : Guest S T) → IsNew disk first lock guest → (e : Export) (a b : World ⊤) (old new : View S T)
    → old.held ≡ held guest 0 → (served : Served) → IsServed (tells_guest disk) (λ d. None) e (over a old) (over b new) served → (seat : Known Step (Basis S T)) (readers : List Sealed) (lost : ℕ) → seat ≡ new.held.guest.seat → readers ≡ new.held.guest.readers
    → lost ≡ new.held.lost → WasServed disk first lock e a b served seat readers lost
was_served {S = S} {T = T} disk first begins goes_on lock guest n e a b old new is served s seat readers lost seat_is readers_is lost_is =
    let calls_few : length (all_calls s.exchanges) ≤ 33 * (2 ^ 48 + 2) = s.few in
    let none : Holds disk first goes_on lock [] [] (held guest 0) = record { number = n.number; next = n.next; free = n.free; called = begins 1 guest.seat guest.readers n.knows n.none n.drawn n.readers; lost = refl } in
    let r = runs_heard disk first goes_on lock (all_calls s.exchanges) old new [] [] (subst (Holds disk first goes_on lock [] []) (sym is) none) (omega (arith, calls_few)) s.runs in
    record {
      calls = r.later;
      outcomes = r.told;
      connected = served_as (tells_guest disk) tells_heard e a b old new (heard [] []) (heard r.later r.told) served s r.runs;
      called = subst (λ rs. HasCalled disk first 1 r.later seat rs r.told) (sym readers_is) (subst (λ (k : Known Step (Basis S T)). HasCalled disk first 1 r.later k new.held.guest.readers r.told) (sym seat_is) r.holds.called);
      free = subst (IsFree lock) (sym seat_is) r.holds.free;
      lost_is = lost_is ∙ r.holds.lost;
      few = omega (arith, r.few, calls_few);
    }
