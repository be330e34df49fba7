-- What guests are told of the end of a file, by what is noted of it.
use Rattle.std.proofs.Common.{◌⊎◌, ◌+◌, ◌++◌, ◌∷◌, ℕ, zero, suc, Bool, [], List, Option, None, Some, Ok, Err, inl, inr, arith}
use Rattle.std.specs.Prelude.{IfSome}
use Rattle.std.specs.List.{AllByRecursion, flat_map}
use Rattle.store_model.specs.Disk.{Disk}
use Rattle.store_model.specs.Trace.{Trace}
use Rattle.store_model.specs.declared.fault.StoreFault.{StoreFault}
use Rattle.guest_model.specs.declared.call.Call.{Call}
use Rattle.ledger.specs.declared.ledger.Ledger.{Ledger}
use Rattle.guest_model.specs.declared.refusal.ChainRefusal.{ChainRefusal}
use Rattle.guest_model.specs.declared.refusal.ChainRefusal.TheVariants.{Abandoned, Broken, EmptyRange, FileFull, NoMerge, NoPiece, NoRoom, NoStripe, NotYet, OutOfRange, ReadFault, ReadOnly, Spent, Stale, TooLong}
use Rattle.chain_core.specs.declared.chain.Chain.{Chain}
use Rattle.script_session.specs.Histories.{IsEndTold, IsSoLong}
use Rattle.shared_chain.specs.declared.basis.Note.{Note}
use Rattle.shared_chain.specs.declared.basis.Note.TheVariants as notes
use Rattle.shared_chain.specs.declared.basis.Step.{Step}
use Rattle.shared_chain.specs.Bases.{fault_notes, full_notes, notes_in, read_notes}
use Rattle.shared_chain.specs.Laws.{of_both}
use Rattle.shared_chain.specs.Notes.{HasNote}
use Rattle.turn_lock.specs.Seats.{Known}
use Rattle.shared_chain.specs.declared.basis.Basis.{Basis}
use Rattle.serve_session.specs.Actors.{AreHeard, IsHeardOf}
use Rattle.serve_session.specs.Served.{Asking, EachGuest, Outcome, all_told, told_of}
use Rattle.serve_session.specs.Serving.{IsUpTo}
use Rattle.serve_session.proofs.Guests.{all_told_are, each_map}

-- ---- what is noted of a chain

module _ (next : ℕ) where
  in_full : (o : Option ℕ) → HasNote (full_notes o) (notes.Full next) → IsUpTo o next
  in_full None h = absurd h
  in_full (Some most) (inl h) = h
  in_full (Some most) (inr h) = absurd h

  none_fault : (o : Option StoreFault) → HasNote (fault_notes o) (notes.Full next) → ⊥
  none_fault None h = absurd h
  none_fault (Some x) (inl h) = absurd h
  none_fault (Some x) (inr h) = absurd h

  none_reads : (failed : ℕ → ℕ) (files : ℕ) → HasNote (read_notes failed files) (notes.Full next) → ⊥
  none_reads failed zero h = absurd h
  none_reads failed (suc i) (inl h) = absurd h
  none_reads failed (suc i) (inr h) = none_reads failed i h

  pub full_noted : (disk : Disk) (broken : Option StoreFault) (full : Option ℕ) → HasNote (notes_in disk broken full) (notes.Full next) → IsUpTo full next
  full_noted disk broken full h = one (of_both (full_notes full) (fault_notes broken ++ reads) n h)
    where
      n : Note
      n = notes.Full next

      reads : List Note
      reads = read_notes disk.failed_reads disk.files

      two : HasNote (fault_notes broken) n ⊎ HasNote reads n → IsUpTo full next
      two (inl k) = absurd (none_fault broken k)
      two (inr k) = absurd (none_reads disk.failed_reads disk.files k)

      one : HasNote (full_notes full) n ⊎ HasNote (fault_notes broken ++ reads) n → IsUpTo full next
      one (inl k) = in_full full k
      one (inr k) = two (of_both (fault_notes broken) reads n k)

-- ---- what guests are told

module _ {S T : Type 0} (disk : S → Disk) (first : Chain S Ledger T) (seat : Known Step (Basis S T)) (full : Option ℕ) (up : (next : ℕ) → HasNote seat.basis.notes (notes.Full next) → IsUpTo full next) where
  end_heard : (tells : Bool) (call : Call) (x : ChainRefusal) → IsHeardOf disk first tells seat call x → IsEndTold (IsUpTo full) (Err x)
  end_heard tells call EmptyRange k = tt
  end_heard tells call (OutOfRange a b c) k = tt
  end_heard tells call (TooLong a b) k = tt
  end_heard tells call ReadOnly k = tt
  end_heard tells call (Broken file count) k = tt
  end_heard tells call (Spent t) k = tt
  end_heard tells call (FileFull next) k = up next k.1
  end_heard tells call (ReadFault file count) k = tt
  end_heard tells call NoMerge k = tt
  end_heard tells call (Stale taken now) k = tt
  end_heard tells call (NotYet stripe) k = tt
  end_heard tells call (Abandoned file count) k = tt
  end_heard tells call (NoStripe stripe stripes) k = tt
  end_heard tells call NoPiece k = tt
  end_heard tells call NoRoom k = tt

  ends_heard : (tells : Bool) (guest number : ℕ) (calls : List Call) (outcomes : List Outcome) → AreHeard disk first tells seat guest number calls outcomes → AllByRecursion (IsEndTold (IsUpTo full)) (flat_map told_of outcomes)
  ends_heard tells guest number calls [] k = tt
  ends_heard tells guest number [] (o ∷ outcomes) k = absurd k
  ends_heard tells guest number (c ∷ calls) (Ok (place, Ok reply) ∷ outcomes) k = (tt, ends_heard tells guest (number + 1) calls outcomes k.1)
  ends_heard tells guest number (c ∷ calls) (Ok (place, Err fault) ∷ outcomes) k = ends_heard tells guest (number + 1) calls outcomes k.1
  ends_heard tells guest number (c ∷ calls) (Err x ∷ outcomes) k = (end_heard tells c x k.0, ends_heard tells guest (number + 1) calls outcomes k.1)

  pub ends_told : (asking : Asking) (guests : List (List Outcome)) → EachGuest (λ guest outcomes. AreHeard disk first asking.tells_want seat guest 1 (asking.calls guest) outcomes) 1 guests → AllByRecursion (IsEndTold (IsUpTo full)) (all_told guests)
  ends_told asking guests heard =
      all_told_are (IsEndTold (IsUpTo full)) (flat_map told_of) 1 guests
      (each_map (λ g os. AreHeard disk first asking.tells_want seat g 1 (asking.calls g) os) (λ g os. AllByRecursion (IsEndTold (IsUpTo full)) (flat_map told_of os)) 1 guests (λ g os. ends_heard asking.tells_want g 1 (asking.calls g) os) heard)

-- a file that is so long reaches each lower unit
pub long_up : (full : Option ℕ) (may : ℕ → Bool) (now : Trace) → IfSome full (IsSoLong may now) → (next : ℕ) → IsUpTo full next → IsSoLong may now next
long_up None may now h next up = absurd up
long_up (Some most) may now h next up = record { number = h.number; there = h.there; may_change = h.may_change; long = omega (arith, h.long, up) }
