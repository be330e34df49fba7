-- What a seat has heard of a guest's calls, as it sees more, and by one more call.
use Rattle.std.proofs.Common.{◌≡◌, ◌⊎◌, ◌+◌, ◌*◌, ◌/◌, ◌^◌, ◌<◌, ◌≤◌, ◌==◌, ◌++◌, ◌∷◌, ℕ, Bool, true, false, [], List, length, replicate, Option, Some, None, Result, Ok, Err, inl, inr, refl, sym, ap, ap₂, subst, ◌∙◌, arith, eqb-true, length-append, lt-ltb, leb-true, take}
use Rattle.std.specs.Prelude.{◌&&◌, IfErr, IfOk, IfSome, MatchBool, if◌then◌else◌, is_some, nat_le, nat_lt}
use Rattle.std.proofs.lemmas.Bool.{ltb-true, ne_eqb}
use Rattle.std.proofs.lemmas.List.{length-map, length-replicate}
use Rattle.store_model.specs.Cause.{Rose}
use Rattle.store_model.specs.Disk.{Disk}
use Rattle.store_model.specs.declared.fault.StoreFault.{StoreFault}
use Rattle.guest_model.specs.declared.call.Call.{Call}
use Rattle.guest_model.specs.declared.call.Call.TheVariants as asks
use Rattle.guest_model.specs.declared.call.Caller.{Caller}
use Rattle.guest_model.specs.declared.call.Reply.{Reply}
use Rattle.guest_model.specs.declared.call.Reply.TheVariants as replies
use Rattle.ledger.specs.declared.ledger.Ledger.{Ledger}
use Rattle.guest_model.specs.declared.refusal.ChainRefusal.{ChainRefusal}
use Rattle.guest_model.specs.declared.refusal.ChainRefusal.TheVariants.{Abandoned, Broken, EmptyRange, FileFull, NoMerge, NoPiece, NoRoom, NoStripe, NotYet, OutOfRange, ReadFault, ReadOnly, Spent, Stale, TooLong}
use Rattle.guest_model.specs.Calls.{is_named}
use Rattle.guest_model.specs.Counts.{one_more}
use Rattle.guest_model.specs.Ranges.{range_refusal}
use Rattle.chain_core.specs.declared.chain.Chain.{Chain}
use Rattle.chain_core.specs.Refusing.{barred, misplaced, out_of}
use Rattle.layer_session.proofs.Equal.{none_some, some_same}
use Rattle.seats.specs.Counting.{once_at, times}
use Rattle.seats.proofs.Counting.{times-push}
use Rattle.script.specs.declared.form.Form.{Form}
use Rattle.script.specs.declared.form.Form.TheVariants.{Copy, Fetch, Finish, Flush, Put, Read, Trim, Write}
use Rattle.turn_lock.specs.Histories.{StartsWith}
use Rattle.turn_lock.specs.Seats.{Known}
use Rattle.turn_lock.proofs.Fronts.{starts-itself, starts-length, starts-through}
use Rattle.shared_chain.specs.declared.basis.Basis.{Basis}
use Rattle.shared_chain.specs.declared.basis.Breach.{Breach}
use Rattle.shared_chain.specs.declared.basis.Note.{Note}
use Rattle.shared_chain.specs.declared.basis.Note.TheVariants as notes
use Rattle.shared_chain.specs.declared.basis.Step.{Step}
use Rattle.shared_chain.specs.declared.basis.Step.TheVariants.{Done}
use Rattle.shared_chain.specs.Answers.{RepliesBehind, StopsOver}
use Rattle.shared_chain.specs.Bases.{Contains}
use Rattle.shared_chain.specs.Notes.{HasNote}
use Rattle.shared_chain.specs.Steps.{breach_of, done_steps, open_by}
use Rattle.guest_io.specs.Guests.{Answers, HasBroken, IsDone, caller_of, placed_at}
use Rattle.serve_session.specs.Actors.{AreHeard, BreaksAt, HasBreacher, HasHeard, HasPlace, IsHeard, IsHeardOf, IsFrom, IsUnread, OwnsAt}
use Rattle.guest_io.specs.declared.placed.Placed.{Placed}
use Rattle.serve_session.specs.Asking.{IsAsked, IsMade, IsTooLong, asks_too_many, count_of, emptied, is_want, outcome_of, read_as, reply_by, reply_if, reply_in, shown_in, too_long}
use Rattle.serve_session.specs.Served.{Has, IsCountedUp, IsRising, Outcome, call_of, counts_behind, entry_of, none_failed, places_in, unread_in, unread_of}
use Rattle.serve_session.proofs.Guests.{all_below, breaker_last, breaker_left, counted_snoc, has_last, has_left, places_snoc, rising_snoc}

-- the next call's number
pub next_one : (n told : ℕ) → n ≡ told + 1 → told < 2 ^ 32 → one_more n ≡ told + 1 + 1
next_one n told is few = ap (λ b. if b then n + 1 else n) (lt-ltb (n + 1) (2 ^ 64) (omega (arith, is, few))) ∙ ap (λ k. k + 1) is

-- a call that changes no sector opens none
pub nothing : (from s : ℕ) → (nat_le from s && nat_lt s (from + 0)) ≡ false
nothing from s = go (nat_le from s) (nat_lt s (from + 0)) refl refl
  where
    go : (a b : Bool) → nat_le from s ≡ a → nat_lt s (from + 0) ≡ b → (a && b) ≡ false
    go false b le lt = refl
    go true false le lt = refl
    go true true le lt = let low : from ≤ s = leb-true from s le in let high : s < from + 0 = ltb-true s (from + 0) lt in absurd (omega (arith, low, high))

-- ---- more is seen, and known

breaks_later : (seen more : List Step) (p guest : ℕ) (calls cs : List Call) (outcomes os : List Outcome) → StartsWith more seen → BreaksAt seen p guest calls outcomes → BreaksAt more p guest (calls ++ cs) (outcomes ++ os)
breaks_later seen more p guest calls cs outcomes os starts b = record {
  before = b.before;
  breach = b.breach;
  begins = starts-through more seen _ starts b.begins;
  place_is = b.place_is;
  breaker = breaker_left b.breach guest 1 calls cs outcomes os b.breaker;
}

owns_later : (seen more : List Step) (p guest : ℕ) (calls cs : List Call) (outcomes os : List Outcome) → StartsWith more seen → (places_in (outcomes ++ os) ≡ places_in outcomes ++ places_in os) → OwnsAt seen p guest calls outcomes
    → OwnsAt more p guest (calls ++ cs) (outcomes ++ os)
owns_later seen more p guest calls cs outcomes os starts places (inl h) = inl (subst (Has p) (sym places) (has_left p (places_in outcomes) (places_in os) h))
owns_later seen more p guest calls cs outcomes os starts places (inr b) = inr (breaks_later seen more p guest calls cs outcomes os starts b)

-- the same calls
pub owns_still : (seen more : List Step) (p guest : ℕ) (calls : List Call) (outcomes : List Outcome) → StartsWith more seen → OwnsAt seen p guest calls outcomes → OwnsAt more p guest calls outcomes
owns_still seen more p guest calls outcomes starts (inl h) = inl h
owns_still seen more p guest calls outcomes starts (inr b) = inr (record { before = b.before; breach = b.breach; begins = starts-through more seen _ starts b.begins; place_is = b.place_is; breaker = b.breaker })

module _ {S T : Type 0} (disk : S → Disk) (first : Chain S Ledger T) where
  -- of the session that began with the chain is also what contains a basis of it
  pub from_through : (more basis : Basis S T) → Contains more basis → IsFrom disk first basis → IsFrom disk first more
  from_through more basis c h = record { began = c.first ∙ h.began; notes = λ n k. c.notes n (h.notes n k) }

  -- a seat knows all that another does, of what refuses calls
  pub record Knows (more seat : Known Step (Basis S T)) : Type 0 where
    pub notes : (n : Note) → HasNote seat.basis.notes n → HasNote more.basis.notes n
    pub events : seat.basis.events ≤ more.basis.events
    pub refusals : seat.refusals ≤ more.refusals

  pub knows_more : (more seat : Known Step (Basis S T)) → Contains more.basis seat.basis → seat.refusals ≤ more.refusals → Knows more seat
  knows_more more seat basis refusals = record { notes = basis.notes; events = basis.events; refusals = refusals }

module _ {S T : Type 0} (disk : S → Disk) (first : Chain S Ledger T) (tells : Bool) where
  heard_of_later : (seat more : Known Step (Basis S T)) (call : Call) (x : ChainRefusal) → Knows disk first more seat → IsHeardOf disk first tells seat call x → IsHeardOf disk first tells more call x
  heard_of_later seat more call EmptyRange k h = h
  heard_of_later seat more call (OutOfRange a b c) k h = h
  heard_of_later seat more call (TooLong a b) k h = h
  heard_of_later seat more call ReadOnly k h = h
  heard_of_later seat more call (Broken file count) k h = k.notes (notes.ChangeFailed file count) h
  heard_of_later seat more call (Spent t) k h = (h.0, by_count h.1)
    where
      by_count : (0 < seat.refusals) ⊎ (t ≤ seat.basis.events) → (0 < more.refusals) ⊎ (t ≤ more.basis.events)
      by_count (inl some) = inl (omega (arith, some, k.refusals))
      by_count (inr many) = inr (omega (arith, many, k.events))
  heard_of_later seat more call (FileFull next) k h = (h.0, k.notes (notes.Full next) h.1, h.2)
  heard_of_later seat more call (ReadFault file count) k h = (h.0, k.notes (notes.ReadFailed file count) h.1, h.2)
  heard_of_later seat more call NoMerge k h = absurd h
  heard_of_later seat more call (Stale taken now) k h = absurd h
  heard_of_later seat more call (NotYet stripe) k h = absurd h
  heard_of_later seat more call (Abandoned file count) k h = absurd h
  heard_of_later seat more call (NoStripe stripe stripes) k h = absurd h
  heard_of_later seat more call NoPiece k h = absurd h
  heard_of_later seat more call NoRoom k h = h

  heard_later : (seat more : Known Step (Basis S T)) (guest number : ℕ) (call : Call) (o : Outcome) → StartsWith more.seen seat.seen → Knows disk first more seat → IsHeard disk first tells seat guest number call o → IsHeard disk first tells more guest number call o
  heard_later seat more guest number call (Ok done) starts k h = record { before = h.before; begins = starts-through more.seen seat.seen _ starts h.begins; place_is = h.place_is; placed = h.placed; replies = h.replies; unread = h.unread }
  heard_later seat more guest number call (Err x) starts k h = heard_of_later seat more call x k h

  pub all_heard_later : (seat more : Known Step (Basis S T)) (guest number : ℕ) (calls : List Call) (outcomes : List Outcome) → StartsWith more.seen seat.seen → Knows disk first more seat → AreHeard disk first tells seat guest number calls outcomes
      → AreHeard disk first tells more guest number calls outcomes
  all_heard_later seat more guest number calls [] starts k h = tt
  all_heard_later seat more guest number [] (o ∷ outcomes) starts k h = absurd h
  all_heard_later seat more guest number (c ∷ calls) (o ∷ outcomes) starts k h =
      (heard_later seat more guest number c o starts k h.0, all_heard_later seat more guest (number + 1) calls outcomes starts k h.1)

  heard_more : (seat : Known Step (Basis S T)) (guest number : ℕ) (calls cs : List Call) (outcomes : List Outcome) → AreHeard disk first tells seat guest number calls outcomes → AreHeard disk first tells seat guest number (calls ++ cs) outcomes
  heard_more seat guest number calls cs [] h = tt
  heard_more seat guest number [] cs (o ∷ outcomes) h = absurd h
  heard_more seat guest number (c ∷ calls) cs (o ∷ outcomes) h = (h.0, heard_more seat guest (number + 1) calls cs outcomes h.1)

  heard_snoc : (seat : Known Step (Basis S T)) (guest number : ℕ) (calls : List Call) (outcomes : List Outcome) (call : Call) (o : Outcome) → length outcomes ≡ length calls → AreHeard disk first tells seat guest number calls outcomes
      → IsHeard disk first tells seat guest (number + length outcomes) call o → AreHeard disk first tells seat guest number (calls ++ call ∷ []) (outcomes ++ o ∷ [])
  heard_snoc seat guest number [] [] call o same h last = (subst (λ n. IsHeard disk first tells seat guest n call o) {x = number + 0} (omega arith) last, tt)
  heard_snoc seat guest number [] (x ∷ outcomes) call o same h last = absurd h
  heard_snoc seat guest number (c ∷ calls) [] call o same h last = absurd (omega (arith, same))
  heard_snoc seat guest number (c ∷ calls) (x ∷ outcomes) call o same h last = (
    h.0,
    heard_snoc seat guest (number + 1) calls outcomes call o (omega (arith, same)) h.1
        (subst (λ n. IsHeard disk first tells seat guest n call o) {x = number + length (x ∷ outcomes)} {y = number + 1 + length outcomes} (omega arith) last),
  )

  pub heard_few : (seat : Known Step (Basis S T)) (guest number : ℕ) (calls : List Call) (outcomes : List Outcome) → AreHeard disk first tells seat guest number calls outcomes → length outcomes ≤ length calls
  heard_few seat guest number calls [] h = omega arith
  heard_few seat guest number [] (o ∷ outcomes) h = absurd h
  heard_few seat guest number (c ∷ calls) (o ∷ outcomes) h = omega (arith, heard_few seat guest (number + 1) calls outcomes h.1)

  -- a place is within what was seen
  pub place_within : (seat : Known Step (Basis S T)) (guest number p : ℕ) (calls : List Call) (outcomes : List Outcome) → AreHeard disk first tells seat guest number calls outcomes → Has p (places_in outcomes) → (1 ≤ p) × (p ≤ length seat.seen)
  place_within seat guest number p calls [] h has = absurd has
  place_within seat guest number p [] (o ∷ outcomes) h has = absurd h
  place_within seat guest number p (c ∷ calls) (Err x ∷ outcomes) h has = place_within seat guest (number + 1) p calls outcomes h.1 has
  place_within seat guest number p (c ∷ calls) (Ok done ∷ outcomes) h (inl e) =
      let at = h.0 in
      let long = starts-length seat.seen (done_steps at.before ++ Done (entry_of guest number c) ∷ []) at.begins in
      let size : length (done_steps at.before ++ Done (entry_of guest number c) ∷ []) ≡ length at.before + 1 =
      length-append (done_steps at.before) (Done (entry_of guest number c) ∷ []) ∙ ap (λ n. n + 1) (length-map at.before (λ e. Done e)) in
      (omega (arith, e, at.place_is), omega (arith, e, at.place_is, long, size))
  place_within seat guest number p (c ∷ calls) (Ok done ∷ outcomes) h (inr has) = place_within seat guest (number + 1) p calls outcomes h.1 has

  -- ---- one more call

  -- behind these a read of a call failed so by a reader
  abbrev pub IsMissed : Call → List Outcome → StoreFault → Type 0
  IsMissed call outcomes fault = IsUnread disk first call fault × Rose (counts_behind none_failed (unread_in outcomes) fault.file) fault.count

  module _ (guest : ℕ) (calls : List Call) (outcomes : List Outcome) (call : Call) (old new : Known Step (Basis S T)) (hears : HasHeard disk first tells guest calls old outcomes) where
    abbrev number : ℕ
    number = length outcomes + 1

    abbrev who : Caller
    who = caller_of guest number

    module _ (seen : StartsWith new.seen old.seen) (basis : Contains new.basis old.basis) (refusals : old.refusals ≤ new.refusals) where
      knows_now : IsFrom disk first new.basis
      knows_now = from_through disk first new.basis old.basis basis hears.knows

      old_heard : (cs : List Call) → AreHeard disk first tells new guest 1 (calls ++ cs) outcomes
      old_heard cs = heard_more new guest 1 calls cs outcomes (all_heard_later old new guest 1 calls outcomes seen (knows_more disk first new old basis refusals) hears.heard)

      -- nothing was told
      pub nothing_more : (cs : List Call) → new.mine ≡ old.mine → new.drawn ≤ old.drawn + length cs → HasHeard disk first tells guest (calls ++ cs) new outcomes
      nothing_more cs same drew = record {
        knows = knows_now;
        heard = old_heard cs;
        order = hears.order;
        unread = hears.unread;
        owns = λ p own. go p (hears.owns p (subst (λ ms. 0 < times p ms) same own));
        drawn = omega (arith, drew, hears.drawn, length-append calls cs);
      }
        where
          go : (p : ℕ) → OwnsAt old.seen p guest calls outcomes → OwnsAt new.seen p guest (calls ++ cs) outcomes
          go p (inl h) = inl h
          go p (inr b) = inr (record { before = b.before; breach = b.breach; begins = starts-through new.seen old.seen _ seen b.begins; place_is = b.place_is; breaker = more_calls b.breach 1 calls outcomes b.breaker })
            where
              more_calls : (b : Breach) (n : ℕ) (xs : List Call) (os : List Outcome) → HasBreacher b guest n xs os → HasBreacher b guest n (xs ++ cs) os
              more_calls b n xs [] h = absurd h
              more_calls b n [] (o ∷ os) h = absurd h
              more_calls b n (x ∷ xs) (o ∷ os) (inl h) = inl h
              more_calls b n (x ∷ xs) (o ∷ os) (inr h) = inr (more_calls b (n + 1) xs os h)

      module _ (all : length outcomes ≡ length calls) (drew : new.drawn ≤ old.drawn + 1) where
        drawn_on : new.drawn ≤ length (calls ++ call ∷ [])
        drawn_on = omega (arith, drew, hears.drawn, length-append calls (call ∷ []))

        last_number : (P : ℕ → Type 0) → P number → P (1 + length outcomes)
        last_number P p = subst P {x = number} {y = 1 + length outcomes} (omega arith) p

        -- it was refused, and the seat has no more of its own
        refused : (x : ChainRefusal) → IsHeardOf disk first tells new call x → ((p : ℕ) → 0 < times p new.mine → (0 < times p old.mine) ⊎ BreaksAt new.seen p guest (calls ++ call ∷ []) (outcomes ++ Err x ∷ []))
            → HasHeard disk first tells guest (calls ++ call ∷ []) new (outcomes ++ Err x ∷ [])
        refused x heard mine = record {
          knows = knows_now;
          heard = heard_snoc new guest 1 calls outcomes call (Err x) all
              (all_heard_later old new guest 1 calls outcomes seen (knows_more disk first new old basis refusals) hears.heard) heard;
          order = subst IsRising (sym (places_snoc outcomes (Err x) ∙ append_nil (places_in outcomes))) hears.order;
          unread = counted_snoc outcomes (Err x) hears.unread tt;
          owns = λ p own. go p (mine p own);
          drawn = drawn_on;
        }
          where
            append_nil : (ps : List ℕ) → ps ++ [] ≡ ps
            append_nil [] = refl
            append_nil (p ∷ ps) = ap (λ qs. p ∷ qs) (append_nil ps)

            go : (p : ℕ) → (0 < times p old.mine) ⊎ BreaksAt new.seen p guest (calls ++ call ∷ []) (outcomes ++ Err x ∷ []) → OwnsAt new.seen p guest (calls ++ call ∷ []) (outcomes ++ Err x ∷ [])
            go p (inl own) = owns_later old.seen new.seen p guest calls (call ∷ []) outcomes (Err x ∷ []) seen (places_snoc outcomes (Err x)) (hears.owns p own)
            go p (inr b) = inr b

        -- it was done
        done : (place : ℕ) (read : Result (Unit {0}) StoreFault) (shown : Reply) → IsDone disk who call (reply_if shown read) old new place → IfErr read (IsMissed call outcomes)
            → HasHeard disk first tells guest (calls ++ call ∷ []) new (outcomes ++ Ok (place, read_as shown read) ∷ [])
        done place read shown d missed = record {
          knows = knows_now;
          heard = heard_snoc new guest 1 calls outcomes call last all
              (all_heard_later old new guest 1 calls outcomes seen (knows_more disk first new old basis refusals) hears.heard)
              (last_number (λ n. HasPlace disk first new.seen guest n call (place, read_as shown read)) here);
          order = subst IsRising (sym (places_snoc outcomes last)) (rising_snoc (places_in outcomes) place hears.order (all_below (places_in outcomes) place earlier));
          unread = counted_snoc outcomes last hears.unread (counted read missed);
          owns = λ p own. by_place p (place == p) refl (subst (λ ms. 0 < times p ms) d.mine own);
          drawn = drawn_on;
        }
          where
            last : Outcome
            last = Ok (place, read_as shown read)

            starts : StartsWith new.seen (done_steps d.before ++ Done (entry_of guest number call) ∷ [])
            starts = subst (λ xs. StartsWith new.seen xs) d.seen (starts-itself new.seen)

            replies : (P : Reply → Type 0) (read : Result (Unit {0}) StoreFault) → IfSome (reply_if shown read) P → IfOk (read_as shown read) P
            replies P (Ok done) p = p
            replies P (Err fault) p = tt

            unread_by : (read : Result (Unit {0}) StoreFault) → IfErr read (IsMissed call outcomes) → IfErr (read_as shown read) (IsUnread disk first call)
            unread_by (Ok done) m = tt
            unread_by (Err fault) m = m.0

            counted : (read : Result (Unit {0}) StoreFault) → IfErr read (IsMissed call outcomes) → IsCountedUp (counts_behind none_failed (unread_in outcomes)) (unread_of (Ok (place, read_as shown read)))
            counted (Ok done) m = tt
            counted (Err fault) m = (m.1, tt)

            here : HasPlace disk first new.seen guest number call (place, read_as shown read)
            here = record {
              before = d.before;
              begins = starts;
              place_is = d.place_is;
              placed = subst (λ o. IfSome o (λ (chain : Chain S Ledger T). misplaced call chain.layers ≡ None)) knows_now.began d.placed;
              replies = replies (RepliesBehind disk first d.before call) read
                  (subst (λ o. IfSome (reply_if shown read) (λ r. IfSome o (λ (chain : Chain S Ledger T). RepliesBehind disk chain d.before call r))) knows_now.began d.replies);
              unread = unread_by read missed;
            }

            earlier : (p : ℕ) → Has p (places_in outcomes) → p < place
            earlier p has =
                let low = place_within old guest 1 p calls outcomes hears.heard has in
                let long = starts-length (done_steps d.before) old.seen d.begins in
                omega (arith, low.1, long, d.place_is, length-map d.before (λ e. Done e))

            by_place : (p : ℕ) (b : Bool) → (place == p) ≡ b → 0 < times p (old.mine ++ place ∷ []) → OwnsAt new.seen p guest (calls ++ call ∷ []) (outcomes ++ last ∷ [])
            by_place p true same own =
                let is : place ≡ p = eqb-true place p same in
                inl (subst (Has p) (sym (places_snoc outcomes last)) (subst (λ q. Has p (places_in outcomes ++ q ∷ [])) (sym is) (has_last p (places_in outcomes))))
            by_place p false other own =
                let none : once_at p place ≡ 0 = ap (λ b. if b then 1 else 0) other in
                owns_later old.seen new.seen p guest calls (call ∷ []) outcomes (last ∷ []) seen (places_snoc outcomes last) (hears.owns p (omega (arith, own, times-push p old.mine place, none)))

        -- the seat has the break for its own, if the call was what broke the session
        module _ (made : Call) (opens : (s : ℕ) → is_named 512 call s ≡ false → open_by (Some (breach_of who made)) s ≡ false) where
          broken : (file count : ℕ) → HasNote new.basis.notes (notes.ChangeFailed file count) → (new.mine ≡ old.mine) ⊎ HasBroken who made old new → HasHeard disk first tells guest (calls ++ call ∷ []) new (outcomes ++ Err (Broken file count) ∷ [])
          broken file count noted (inl same) = refused (Broken file count) noted (λ p own. inl (subst (λ ms. 0 < times p ms) same own))
          broken file count noted (inr b) = refused (Broken file count) noted (λ p own. by_place p (length b.before + 1 == p) refl (subst (λ ms. 0 < times p ms) b.mine own))
            where
              at : (p : ℕ) → length b.before + 1 ≡ p → BreaksAt new.seen p guest (calls ++ call ∷ []) (outcomes ++ Err (Broken file count) ∷ [])
              at p is = record {
                before = b.before;
                breach = breach_of who made;
                begins = subst (λ xs. StartsWith new.seen xs) b.seen (starts-itself new.seen);
                place_is = sym is;
                breaker = breaker_last (breach_of who made) guest 1 calls outcomes call (Err (Broken file count)) all (refl, omega arith, opens);
              }

              by_place : (p : ℕ) (t : Bool) → (length b.before + 1 == p) ≡ t → 0 < times p (old.mine ++ (length b.before + 1) ∷ []) → (0 < times p old.mine) ⊎ BreaksAt new.seen p guest (calls ++ call ∷ []) (outcomes ++ Err (Broken file count) ∷ [])
              by_place p true same own = inr (at p (eqb-true (length b.before + 1) p same))
              by_place p false other own =
                  let none : once_at p (length b.before + 1) ≡ 0 = ap (λ t. if t then 1 else 0) other in
                  inl (omega (arith, own, times-push p old.mine (length b.before + 1), none))

        -- ---- by what it was answered

        stays : (x : ChainRefusal) → IsHeardOf disk first tells new call x → new.mine ≡ old.mine → HasHeard disk first tells guest (calls ++ call ∷ []) new (outcomes ++ Err x ∷ [])
        stays x heard same = refused x heard (λ p own. inl (subst (λ ms. 0 < times p ms) same own))

        at_place : (x : Option ChainRefusal) (made : Call) → IfSome new.basis.first (λ (chain : Chain S Ledger T). misplaced made chain.layers ≡ x) → misplaced made first.layers ≡ x
        at_place x made h = subst (λ o. IfSome o (λ (chain : Chain S Ledger T). misplaced made chain.layers ≡ x)) knows_now.began h

        -- what is kept of it
        abbrev kept_outcomes : Reply → Result Placed ChainRefusal → List Outcome
        kept_outcomes r answer = if is_want answer then outcomes else outcomes ++ outcome_of r answer ∷ []

        abbrev Kept : Result Placed ChainRefusal → Reply → Type 0
        Kept answer r = HasHeard disk first tells guest (calls ++ call ∷ []) new (kept_outcomes r answer)

        own_opens : (s : ℕ) → is_named 512 call s ≡ false → open_by (Some (breach_of who call)) s ≡ false
        own_opens s = go call
          where
            go : (c : Call) → is_named 512 c s ≡ false → open_by (Some (breach_of who c)) s ≡ false
            go (asks.Read from count) h = nothing from s
            go (asks.Write from bytes) h = h
            go (asks.Trim from count) h = h
            go asks.Flush h = nothing 0 s

        -- whatever its front
        pub by_call : (shown : Reply) (answer : Result Placed ChainRefusal) → Answers disk who call (reply_by shown answer) old new (placed_at answer) → IfOk answer (λ placed. IfErr placed.read (IsMissed call outcomes)) → Kept answer shown
        by_call shown (Ok placed) a missed = done placed.place placed.read shown a missed
        by_call shown (Err EmptyRange) a missed = stays EmptyRange (at_place (Some EmptyRange) call a.1) a.0
        by_call shown (Err (OutOfRange x y z)) a missed = stays (OutOfRange x y z) (at_place (Some (OutOfRange x y z)) call a.1) a.0
        by_call shown (Err (TooLong x y)) a missed = stays (TooLong x y) (at_place (Some (TooLong x y)) call a.1) a.0
        by_call shown (Err ReadOnly) a missed = stays ReadOnly (at_place (Some ReadOnly) call a.1) a.0
        by_call shown (Err (Broken file count)) a missed = broken call own_opens file count a.1 a.0
        by_call shown (Err (Spent t)) a missed = stays (Spent t) a.1 a.0
        by_call shown (Err (FileFull next)) a missed =
            stays (FileFull next) (at_place None call a.1.0, a.1.1, subst (λ o. IfSome o (λ (chain : Chain S Ledger T). StopsOver disk chain call (FileFull next))) knows_now.began a.1.2) a.0
        by_call shown (Err (ReadFault file count)) a missed =
            stays (ReadFault file count) (at_place None call a.1.0, a.1.1, λ was. a.1.2 (hears.knows.notes (notes.ReadFailed file count) was)) a.0
        by_call shown (Err NoMerge) a missed = absurd a.1
        by_call shown (Err (Stale taken now)) a missed = absurd a.1
        by_call shown (Err (NotYet stripe)) a missed = absurd a.1
        by_call shown (Err (Abandoned file count)) a missed = absurd a.1
        by_call shown (Err (NoStripe stripe stripes)) a missed = absurd a.1
        by_call shown (Err NoPiece) a missed = absurd a.1
        by_call shown (Err NoRoom) a missed = nothing_more (call ∷ []) a.0 drew

        -- where memory ran out for it, that is told too
        pub told_call : tells ≡ true → (shown : Reply) (answer : Result Placed ChainRefusal) → Answers disk who call (reply_by shown answer) old new (placed_at answer) → IfOk answer (λ placed. IfErr placed.read (IsMissed call outcomes))
            → HasHeard disk first tells guest (calls ++ call ∷ []) new (outcomes ++ outcome_of shown answer ∷ [])
        told_call telling shown (Err NoRoom) a missed = stays NoRoom telling a.0
        told_call telling shown (Ok placed) a missed = by_call shown (Ok placed) a missed
        told_call telling shown (Err EmptyRange) a missed = by_call shown (Err EmptyRange) a missed
        told_call telling shown (Err (OutOfRange x y z)) a missed = by_call shown (Err (OutOfRange x y z)) a missed
        told_call telling shown (Err (TooLong x y)) a missed = by_call shown (Err (TooLong x y)) a missed
        told_call telling shown (Err ReadOnly) a missed = by_call shown (Err ReadOnly) a missed
        told_call telling shown (Err (Broken file count)) a missed = by_call shown (Err (Broken file count)) a missed
        told_call telling shown (Err (Spent t)) a missed = by_call shown (Err (Spent t)) a missed
        told_call telling shown (Err (FileFull next)) a missed = by_call shown (Err (FileFull next)) a missed
        told_call telling shown (Err (ReadFault file count)) a missed = by_call shown (Err (ReadFault file count)) a missed
        told_call telling shown (Err NoMerge) a missed = by_call shown (Err NoMerge) a missed
        told_call telling shown (Err (Stale taken now)) a missed = by_call shown (Err (Stale taken now)) a missed
        told_call telling shown (Err (NotYet stripe)) a missed = by_call shown (Err (NotYet stripe)) a missed
        told_call telling shown (Err (Abandoned file count)) a missed = by_call shown (Err (Abandoned file count)) a missed
        told_call telling shown (Err (NoStripe stripe stripes)) a missed = by_call shown (Err (NoStripe stripe stripes)) a missed
        told_call telling shown (Err NoPiece) a missed = by_call shown (Err NoPiece) a missed

        -- the call that a line asks for
        module _ (form : Form) (of_form : call_of form ≡ call) where
          module _ (sector : first.layers.geometry.sector ≡ 512) (many : asks_too_many form ≡ true) where
            -- without sectors it is an empty range
            empty : misplaced (emptied form) first.layers ≡ Some EmptyRange
            empty = go form many
              where
                go : (f : Form) → asks_too_many f ≡ true → misplaced (emptied f) first.layers ≡ Some EmptyRange
                go (Read from count) e = refl
                go (Write from count byte) e =
                    ap (λ z. out_of (range_refusal from (0 / z) 2048 first.layers.geometry.sectors) (barred (asks.Write from []) (is_some first.layers.leaf))) sector
                go (Trim from count) e = cc
                go Flush e = cc
                go (Fetch stripe) e = cc
                go Put e = cc
                go Copy e = cc
                go Finish e = cc

            -- with them it is too long
            long : misplaced (call_of form) first.layers ≡ Some (TooLong (count_of form) 2048)
            long = go form many
              where
                longer : (from count sectors : ℕ) (later : Option ChainRefusal) → nat_lt 2048 count ≡ true → out_of (range_refusal from count 2048 sectors) later ≡ Some (TooLong count 2048)
                longer from count sectors later e =
                    let some : (count == 0) ≡ false = ne_eqb count 0 (λ z. let less : 2048 < count = ltb-true 2048 count e in absurd (omega (arith, less, z))) in
                    ap₂ (λ a b. out_of (if a then Err EmptyRange else if b then Err (TooLong count 2048) else if nat_lt sectors (from + count) then Err (OutOfRange from count sectors) else Ok tt) later) some e

                go : (f : Form) → asks_too_many f ≡ true → misplaced (call_of f) first.layers ≡ Some (TooLong (count_of f) 2048)
                go (Read from count) e = longer from count first.layers.geometry.sectors _ e
                go (Write from count byte) e =
                    let size : length (replicate (512 * count) byte) / first.layers.geometry.sector ≡ count = ap₂ (λ a z. a / z) (length-replicate (512 * count) byte) sector ∙ whole count in
                    ap (λ n. out_of (range_refusal from n 2048 first.layers.geometry.sectors) (barred (asks.Write from (replicate (512 * count) byte)) (is_some first.layers.leaf))) size
                    ∙ longer from count first.layers.geometry.sectors _ e
                  where
                    whole : (n : ℕ) → 512 * n / 512 ≡ n
                    whole n = omega arith
                go (Trim from count) e = cc
                go Flush e = cc
                go (Fetch stripe) e = cc
                go Put e = cc
                go Copy e = cc
                go Finish e = cc

            long_call : misplaced call first.layers ≡ Some (TooLong (count_of form) 2048)
            long_call = ap (λ c. misplaced c first.layers) (sym of_form) ∙ long

            never : (x : ChainRefusal) → misplaced (emptied form) first.layers ≡ Some x → EmptyRange ≡ x
            never x h = some_same (sym empty ∙ h)

            never_placed : {P : Type 0} → misplaced (emptied form) first.layers ≡ None → P
            never_placed h = absurd (none_some (sym h ∙ empty))

            no_opens : (s : ℕ) → is_named 512 call s ≡ false → open_by (Some (breach_of who (emptied form))) s ≡ false
            no_opens s h = go form
              where
                go : (f : Form) → open_by (Some (breach_of who (emptied f))) s ≡ false
                go (Read from count) = nothing from s
                go (Write from count byte) = nothing from s
                go (Trim from count) = nothing 0 s
                go Flush = nothing 0 s
                go (Fetch stripe) = nothing 0 s
                go Put = nothing 0 s
                go Copy = nothing 0 s
                go Finish = nothing 0 s

            by_empty : (r kept : Reply) (made : Result Placed ChainRefusal) → Answers disk who (emptied form) (reply_by r made) old new (placed_at made) → Kept (too_long (count_of form) made) kept
            by_empty r kept (Ok placed) a = never_placed (at_place None (emptied form) a.placed)
            by_empty r kept (Err EmptyRange) a = stays (TooLong (count_of form) 2048) long_call a.0
            by_empty r kept (Err (OutOfRange x y z)) a = let e = never (OutOfRange x y z) (at_place (Some (OutOfRange x y z)) (emptied form) a.1) in cc
            by_empty r kept (Err (TooLong x y)) a = let e = never (TooLong x y) (at_place (Some (TooLong x y)) (emptied form) a.1) in cc
            by_empty r kept (Err ReadOnly) a = let e = never ReadOnly (at_place (Some ReadOnly) (emptied form) a.1) in cc
            by_empty r kept (Err (Broken file count)) a = broken (emptied form) no_opens file count a.1 a.0
            by_empty r kept (Err (Spent t)) a = stays (Spent t) a.1 a.0
            by_empty r kept (Err (FileFull next)) a = never_placed (at_place None (emptied form) a.1.0)
            by_empty r kept (Err (ReadFault file count)) a = never_placed (at_place None (emptied form) a.1.0)
            by_empty r kept (Err NoMerge) a = absurd a.1
            by_empty r kept (Err (Stale taken now)) a = absurd a.1
            by_empty r kept (Err (NotYet stripe)) a = absurd a.1
            by_empty r kept (Err (Abandoned file count)) a = absurd a.1
            by_empty r kept (Err (NoStripe stripe stripes)) a = absurd a.1
            by_empty r kept (Err NoPiece) a = absurd a.1
            by_empty r kept (Err NoRoom) a = nothing_more (call ∷ []) a.0 drew

          -- whichever it asks for
          pub asked_kept : first.layers.geometry.sector ≡ 512 → (room : List ℕ) (answer : Result Placed ChainRefusal) → IsAsked disk who form room old new answer → IfOk answer (λ placed. IfErr placed.read (IsMissed call outcomes)) → Kept answer (shown_in room form)
          asked_kept sector room answer asked missed = go (asks_too_many form) refl asked
            where
              shown_is : (f : Form) → asks_too_many f ≡ false → shown_in room f ≡ reply_in room f
              shown_is (Read from count) e = ap (λ b. replies.Bytes (if b then [] else take (512 * count) room)) e
              shown_is (Write from count byte) e = refl
              shown_is (Trim from count) e = refl
              shown_is Flush e = refl
              shown_is (Fetch stripe) e = refl
              shown_is Put e = refl
              shown_is Copy e = refl
              shown_is Finish e = refl

              go : (b : Bool) → asks_too_many form ≡ b → MatchBool b (IsTooLong disk who (emptied form) (count_of form) old new answer) (IsMade disk who (call_of form) (reply_in room form) old new answer) → Kept answer (shown_in room form)
              go true many h = subst (λ a. Kept a (shown_in room form)) (sym h.3) (by_empty sector many h.1 (shown_in room form) h.0 h.2.answers)
              go false few h = subst (λ r. Kept answer r) (sym (shown_is form few)) (by_call (reply_in room form) answer (subst (λ c. Answers disk who c (reply_by (reply_in room form) answer) old new (placed_at answer)) of_form h.answers) missed)
