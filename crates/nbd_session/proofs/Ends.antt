-- What threads leave that share a chain with a client, and the end of its session.
use Rattle.std.proofs.Common.{◌≡◌, ◌+◌, ◌-◌, ◌^◌, ◌≤◌, ◌++◌, ◌∷◌, ◌||◌, ℕ, Bool, false, true, [], List, Option, None, Some, length, min, replicate, refl, sym, ap, ap₂, subst, ◌∙◌, arith}
use Rattle.std.specs.Prelude.{⊤, All, IfSome, is_none, nat_lt}
use Rattle.std.proofs.lemmas.List.{append-nil}
use Rattle.layer_session.proofs.Equal.{false_true}
use Rattle.store_model.specs.Disk.{Disk, Sealed}
use Rattle.store_model.specs.declared.fault.StoreFault.{StoreFault}
use Rattle.guest_model.specs.declared.call.Call.{Call}
use Rattle.guest_model.specs.History.{History}
use Rattle.ledger.specs.declared.ledger.Ledger.{Ledger}
use Rattle.chain_core.specs.declared.chain.Chain.{Chain}
use Rattle.read_plan.specs.Reading.{has_failed}
use Rattle.turn_lock.specs.Seats.{Known, TableId, first_seat, split_off}
use Rattle.shared_chain.specs.declared.basis.Basis.{Basis}
use Rattle.shared_chain.specs.declared.basis.Step.{Step}
use Rattle.shared_chain.specs.Bases.{basis_of, notes_in, notes_of}
use Rattle.shared_chain.specs.Notes.{HasNote}
use Rattle.shared_chain.specs.Planned.{IsReaderFor}
use Rattle.shared_chain.specs.Seats.{IsFree}
use Rattle.shared_chain.specs.Shared.{Shared}
use Rattle.guest_io.specs.Guests.{HaveReaders}
use Rattle.guest_io.specs.declared.guest.Guest.{Guest}
use Rattle.nbd_front.specs.declared.export.Export.{Export}
use Rattle.nbd_front.specs.declared.served.Served.{Served}
use Rattle.nbd_front.specs.Sessions.{World}
use Rattle.serve_session.specs.Actors.{AreJoined, HasHeard, HasReaders, IsFrom, first_notes}
use Rattle.serve_session.specs.Back.{any_failed}
use Rattle.serve_session.specs.Calling.{HasCalled}
use Rattle.serve_session.specs.Endings.{Ending}
use Rattle.serve_session.specs.Lists.{with_splits}
use Rattle.serve_session.specs.Served.{Asking, Outcome, all_unread, unread_in}
use Rattle.serve_session.specs.Serving.{HasBegun, HasServed, WasShared}
use Rattle.serve_session.proofs.Back.{any_snoc, sat_least, sat_none, sat_some}
use Rattle.serve_session.proofs.Final.{made_none, was_unread}
use Rattle.serve_session.proofs.Guests.{unread_few}
use Rattle.nbd_session.specs.Connected.{HasServedClient, IsConnected, asked_by_client}
use Rattle.nbd_session.specs.Guests.{IsNew, IsSharedByClient, WasServed, no_memory, was_shared}
use Rattle.nbd_session.specs.declared.run.NbdRun.{NbdRun}

-- one guest's reads are all
one_unread : (outcomes : List Outcome) → length (all_unread (outcomes ∷ [])) ≡ length (unread_in outcomes)
one_unread outcomes = ap length (append-nil (unread_in outcomes))

-- what a session gives at its end, of which so many reads failed by a reader, and whether memory ran out
abbrev end_of : NbdRun → ℕ → Bool → Ending
end_of run unread short = record { fault = run.fault; closed = run.closed; unread = unread; short = short }

-- the readers of the client's guest are the first that come back
pub back_some : (old back : List (List Sealed)) (one : List Sealed) (lost unfetched unread : ℕ) → old ≡ [] → back ≡ old ++ one ∷ [] → has_failed one ≡ nat_lt 0 lost → unread ≡ min (lost + unfetched) (2 ^ 64 - 1) → (any_failed back || nat_lt 0 unfetched) ≡ nat_lt 0 unread
back_some old back one lost unfetched unread empty pushed failed sum =
    ap (λ b. b || nat_lt 0 unfetched) (ap any_failed pushed ∙ any_snoc old one ∙ ap (λ sets. any_failed sets || has_failed one) empty ∙ failed) ∙ sym (sat_some lost unfetched unfetched unread refl sum)

-- of a guest that has made no call no read failed
pub none_failed : {S T : Type 0} (disk : S → Disk) (first : Chain S Ledger T) (readers : List Sealed) → HasReaders disk first [] readers → has_failed readers ≡ false
none_failed disk first readers h = h.failed

module _ {S T : Type 0} (disk : S → Disk) where
  -- readers for the session that a seat knows
  pub have_readers : (first : Chain S Ledger T) (lock : TableId) (guest : Guest S T) → IsNew disk first lock guest → HaveReaders disk guest.seat.basis guest.readers
  have_readers first lock guest n = subst (λ o. IfSome o (λ f. All (IsReaderFor disk f) guest.readers)) (sym n.knows.began) n.readers.own

  -- the first seat of a lock knows with what the session began
  pub made_knows : (v : Shared (Chain S Ledger T)) → HasBegun disk v → (lock : TableId) (made : Known Step (Basis S T)) → made ≡ first_seat lock 0 (basis_of disk v) → IsFrom disk v.first made.basis
  made_knows v begun lock made is =
      let same : notes_of disk v ≡ first_notes disk v.first = ap (notes_of disk) begun.fresh ∙ ap (λ (b : Option StoreFault). notes_in (disk v.first.store) b None) begun.whole in
      subst (λ (s : Known Step (Basis S T)). IsFrom disk v.first s.basis) (sym is) (record { began = refl; notes = λ n h. subst (λ ns. HasNote ns n) (sym same) h })

  -- a seat that was split from it has made no call
  pub new_guest : (first : Chain S Ledger T) (lock : TableId) (from : Known Step (Basis S T)) → IsFree lock from → IsFrom disk first from.basis → (guest : Guest S T) → guest.seat ≡ split_off from → guest.number ≡ 1 → guest.next ≡ 1 → HasReaders disk first [] guest.readers → IsNew disk first lock guest
  new_guest first lock from free knows guest seat number next readers = record {
    number = number;
    next = next;
    free = (ap (λ (s : Known Step (Basis S T)). s.lock) seat ∙ free.0, ap (λ (s : Known Step (Basis S T)). s.turn) seat);
    knows = subst (λ (s : Known Step (Basis S T)). IsFrom disk first s.basis) (sym seat) knows;
    none = ap (λ (s : Known Step (Basis S T)). s.mine) seat;
    drawn = ap (λ (s : Known Step (Basis S T)). s.drawn) seat;
    readers = readers;
  }

  -- none was joined into the first yet, once the guest's was split from it, and those of workers
  pub none_joined : (v : Shared (Chain S Ledger T)) → HasBegun disk v → (lock : TableId) (made a b : Known Step (Basis S T)) → made ≡ first_seat lock 0 (basis_of disk v) → (n : ℕ) → a ≡ with_splits made 1 → b ≡ with_splits a n → (asking : Asking) → AreJoined disk v.first false lock asking b []
  none_joined v begun lock made a b is n a_is b_is asking =
      made_none disk v begun.fresh begun.whole lock made is asking (1 + n) b
      (b_is ∙ ap (λ s. with_splits s n) a_is ∙ ap (λ k. record made { family = record (made.family) { splits = k } }) {x = made.family.splits + 1 + n} {y = made.family.splits + (1 + n)} (omega arith))

  -- ---- what a client was told

  -- few tickets were drawn for it, and few of its reads failed by a reader
  pub few_drawn : (first : Chain S Ledger T) (lock : TableId) (e : Export) (a b : World ⊤) (served : Served) (seat : Known Step (Basis S T)) (readers : List Sealed) (lost : ℕ) → WasServed disk first lock e a b served seat readers lost → seat.drawn ≤ 2 ^ 57
  few_drawn first lock e a b served seat readers lost s = omega (arith, s.called.hears.drawn, s.called.all, s.few)

  pub few_lost : (first : Chain S Ledger T) (lock : TableId) (e : Export) (a b : World ⊤) (served : Served) (seat : Known Step (Basis S T)) (readers : List Sealed) (lost : ℕ) → WasServed disk first lock e a b served seat readers lost → lost ≤ 2 ^ 57
  few_lost first lock e a b served seat readers lost s = let most = unread_few s.outcomes in omega (arith, s.lost_is, most, s.few)

  -- as its seat is joined into the first
  pub client_heard : (first : Chain S Ledger T) (calls : List Call) (outcomes : List Outcome) (seat : Known Step (Basis S T)) (readers : List Sealed) → HasCalled disk first 1 calls seat readers outcomes
      → HasHeard disk first (asked_by_client calls).tells_want 1 ((asked_by_client calls).calls 1) seat outcomes
  client_heard first calls outcomes seat readers h = h.hears

  -- ---- what is left

  -- of a session with no workers
  pub shared_alone : (old new : Shared (Chain S Ledger T)) (calls : List Call) (outcomes : List Outcome) (lost unfetched unread : ℕ) → lost ≡ length (unread_in outcomes) → lost ≤ 2 ^ 57 → unread ≡ min (lost + unfetched) (2 ^ 64 - 1) → unfetched ≡ 0
      → WasShared disk false old (asked_by_client calls) new (outcomes ∷ []) (length (all_unread (outcomes ∷ []))) → WasShared disk false old (asked_by_client calls) new (outcomes ∷ []) unread
  shared_alone old new calls outcomes lost unfetched unread lost_is few sum none s =
      let all = one_unread outcomes in
      let no_more = sat_none lost unfetched unread none (omega (arith, few)) sum in
      was_unread disk false old new (asked_by_client calls) (outcomes ∷ []) _ s unread 0 (omega (arith, no_more, lost_is, all)) (λ alone. refl)

  -- of one with workers, perhaps
  pub shared_beside : (old new : Shared (Chain S Ledger T)) (calls : List Call) (outcomes : List Outcome) (lost unfetched unread : ℕ) → lost ≡ length (unread_in outcomes) → lost ≤ 2 ^ 57 → unread ≡ min (lost + unfetched) (2 ^ 64 - 1)
      → WasShared disk true old (asked_by_client calls) new (outcomes ∷ []) (length (all_unread (outcomes ∷ [])) + unfetched) → WasShared disk true old (asked_by_client calls) new (outcomes ∷ []) unread
  shared_beside old new calls outcomes lost unfetched unread lost_is few sum s =
      let all = one_unread outcomes in
      let least = sat_least lost unfetched unread (omega (arith, few)) sum in
      was_unread disk true old new (asked_by_client calls) (outcomes ∷ []) _ s unread (unread - lost) (omega (arith, least, lost_is, all)) (λ never. absurd (false_true (sym never)))

  -- with what the client was told
  pub client_shared : (merges : Bool) (was old new : Shared (Chain S Ledger T)) → was ≡ old → (first : Chain S Ledger T) (lock : TableId) (e : Export) (a b : World ⊤) (served : Option Served) (told : Served) (unread : ℕ) (seat : Known Step (Basis S T)) (readers : List Sealed) (lost : ℕ) → served ≡ Some told
      → (s : WasServed disk first lock e a b told seat readers lost) → WasShared disk merges was (asked_by_client s.calls) new (s.outcomes ∷ []) unread → IsSharedByClient disk merges old e a b new served unread
  client_shared merges was old new same first lock e a b served told unread seat readers lost is s shared =
      was_shared s.calls s.outcomes (subst (λ (v : Shared (Chain S Ledger T)). WasShared disk merges v (asked_by_client s.calls) new (s.outcomes ∷ []) unread) same shared) (subst (λ o. IsConnected e a b o s.calls s.outcomes) (sym is) s.connected)

  -- ---- the session's end

  by_merges : (merges : Bool) (n : ℕ) (old new : Shared (Chain S Ledger T)) (e : Export) (a b : World ⊤) (served : Option Served) (unread : ℕ) → (merges ≡ false → n ≡ 0) → (n ≡ 0 → IsSharedByClient disk false old e a b new served unread) → IsSharedByClient disk true old e a b new served unread
      → IsSharedByClient disk merges old e a b new served unread
  by_merges false n old new e a b served unread alone plain beside = plain (alone refl)
  by_merges true n old new e a b served unread alone plain beside = beside

  served_from : (merges : Bool) (old new : Shared (Chain S Ledger T)) (e : Export) (a b : World ⊤) (run : NbdRun) (history : History) (after : Disk) → IsSharedByClient disk merges old e a b new run.served run.unread
      → ((asking : Asking) (guests : List (List Outcome)) (unread : ℕ) (short : Bool) → WasShared disk merges old asking new guests unread → HasServed disk merges old.first asking guests history (end_of run unread short) run.merged after)
      → ((asking : Asking) → new ≡ old → HasServed disk merges old.first asking (replicate asking.count []) [] (end_of run 0 true) run.merged after) → HasServedClient disk merges old.first e a b run after
  served_from merges old new e a b run history after (was_shared calls outcomes shared connected) served unserved = record {
    calls = calls;
    outcomes = outcomes;
    history = history;
    served = served (asked_by_client calls) (outcomes ∷ []) run.unread (is_none run.served) shared;
    connected = connected;
  }
  served_from merges old new e a b run history after (no_memory same still no_one no_read) served unserved = record {
    calls = [];
    outcomes = [];
    history = [];
    served = subst (λ end. HasServed disk merges old.first (asked_by_client []) ([] ∷ []) [] end run.merged after) (ap₂ (end_of run) (sym no_read) (sym (ap is_none no_one))) (unserved (asked_by_client []) same);
    connected = subst (λ o. IsConnected e a b o [] []) (sym no_one) (still, refl, refl);
  }

  pub client_served : (merges : Bool) (n : ℕ) (was old new : Shared (Chain S Ledger T)) → was ≡ old → (e : Export) (a b : World ⊤) (run : NbdRun) (history : History) (after : Disk) → (merges ≡ false → n ≡ 0) → (n ≡ 0 → IsSharedByClient disk false old e a b new run.served run.unread)
      → IsSharedByClient disk true old e a b new run.served run.unread
      → ((asking : Asking) (guests : List (List Outcome)) (unread : ℕ) (short : Bool) → WasShared disk merges was asking new guests unread → HasServed disk merges was.first asking guests history (end_of run unread short) run.merged after)
      → ((asking : Asking) → new ≡ was → HasServed disk merges was.first asking (replicate asking.count []) [] (end_of run 0 true) run.merged after) → HasServedClient disk merges old.first e a b run after
  client_served merges n was old new same e a b run history after alone plain beside served unserved =
      subst (λ (v : Shared (Chain S Ledger T)). HasServedClient disk merges v.first e a b run after) same
      (served_from merges was new e a b run history after (subst (λ (v : Shared (Chain S Ledger T)). IsSharedByClient disk merges v e a b new run.served run.unread) (sym same) (by_merges merges n old new e a b run.served run.unread alone plain beside)) served unserved)
