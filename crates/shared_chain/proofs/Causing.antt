-- The cause of an answer, read off what is noted.
use Rattle.std.proofs.Common.{Bool, ◌≡◌, ◌⊎◌, ◌++◌, ◌≤◌, ◌-◌, ◌^◌, ℕ, zero, suc, List, Option, Some, None, Result, Ok, Err, inl, inr, refl, sym, ap₂, subst, ◌∙◌, arith}
use Rattle.std.specs.Prelude.{is_some}
use Rattle.vx_base.specs.declared.parts.Geometry.{Geometry}
use Rattle.store_model.specs.Cause.{Rose}
use Rattle.store_model.specs.Disk.{Disk}
use Rattle.store_model.specs.declared.fault.StoreFault.{StoreFault}
use Rattle.guest_model.specs.declared.call.Call.{Call}
use Rattle.ledger.specs.declared.ledger.Ledger.{Ledger}
use Rattle.guest_model.specs.declared.refusal.ChainRefusal.{ChainRefusal}
use Rattle.guest_model.specs.declared.refusal.ChainRefusal.TheVariants.{Abandoned, Broken, EmptyRange, FileFull, NoMerge, NoPiece, NoRoom, NoStripe, NotYet, OutOfRange, ReadFault, ReadOnly, Spent, Stale, TooLong}
use Rattle.chain_core.specs.declared.chain.Chain.{Chain}
use Rattle.chain_core.specs.declared.layers.Layers.{Layers}
use Rattle.chain_core.specs.Refusing.{barred, misplaced, out_of, range_of}
use Rattle.chain_core.specs.Sessions.{Session}
use Rattle.shared_chain.specs.declared.basis.Basis.{Basis}
use Rattle.shared_chain.specs.declared.basis.Note.{Note}
use Rattle.shared_chain.specs.declared.basis.Note.TheVariants as notes
use Rattle.shared_chain.specs.Answers.{IsCausedIn, StopsOver}
use Rattle.shared_chain.specs.Bases.{fault_notes, full_notes, notes_in, read_notes}
use Rattle.shared_chain.specs.Laws.{of_both}
use Rattle.shared_chain.specs.Notes.{HasNote, NotesBy}
use Rattle.shared_chain.proofs.Reaching.{IsReached}
use Rattle.shared_chain.proofs.Refusals.{Early, IsPlaceRefusal, is_broken, is_misplaced, is_spent}

-- the same geometry, and a session or none: the same is misplaced
pub same_place : (call : Call) (a b : Layers) → a.geometry ≡ b.geometry → is_some a.leaf ≡ is_some b.leaf → misplaced call b ≡ misplaced call a
same_place call a b g s = sym (ap₂ (λ (x : Geometry) y. out_of (range_of x call) (barred call y)) g s)

-- ---- how many reads are noted

in_reads : (failed : ℕ → ℕ) (files f c : ℕ) → HasNote (read_notes failed files) (notes.ReadFailed f c) → c ≤ failed f
in_reads failed zero f c h = absurd h
in_reads failed (suc i) f c (inl h) = subst (λ k. c ≤ failed k) h.0 h.1
in_reads failed (suc i) f c (inr h) = in_reads failed i f c h

not_in_full : (o : Option ℕ) (f c : ℕ) → HasNote (full_notes o) (notes.ReadFailed f c) → ⊥
not_in_full None f c h = absurd h
not_in_full (Some n) f c (inl h) = absurd h
not_in_full (Some n) f c (inr h) = absurd h

not_in_fault : (o : Option StoreFault) (f c : ℕ) → HasNote (fault_notes o) (notes.ReadFailed f c) → ⊥
not_in_fault None f c h = absurd h
not_in_fault (Some x) f c (inl h) = absurd h
not_in_fault (Some x) f c (inr h) = absurd h

pub noted_reads : (disk : Disk) (broken : Option StoreFault) (full : Option ℕ) (f c : ℕ) → HasNote (notes_in disk broken full) (notes.ReadFailed f c) → c ≤ disk.failed_reads f
noted_reads disk broken full f c h = first (of_both (full_notes full) (fault_notes broken ++ reads) n h)
  where
    n : Note
    n = notes.ReadFailed f c

    reads : List Note
    reads = read_notes disk.failed_reads disk.files

    second : HasNote (fault_notes broken) n ⊎ HasNote reads n → c ≤ disk.failed_reads f
    second (inl k) = absurd (not_in_fault broken f c k)
    second (inr k) = in_reads disk.failed_reads disk.files f c k

    first : HasNote (full_notes full) n ⊎ HasNote (fault_notes broken ++ reads) n → c ≤ disk.failed_reads f
    first (inl k) = absurd (not_in_full full f c k)
    first (inr k) = second (of_both (fault_notes broken) reads n k)

-- a count that was so great already has come to its end
pub at_end : (before now count : ℕ) → Rose before now → count ≡ now → count ≤ before → 2 ^ 64 - 1 ≤ count
at_end before now count rose told h = omega (arith, rose.later, rose.risen, told, h)

-- ---- causes

module _ {S T : Type 0} (disk : S → Disk) (call : Call) (first : Chain S Ledger T) (old new : Session) (old_full full : Option ℕ) (stripes : ℕ) (copied : List ℕ) (finished : Bool) where
  abbrev before : Basis S T
  before = record { first = Some first; notes = notes_in old.disk old.broken old_full; events = old.events; stripes = stripes; copied = copied; finished = finished }

  abbrev after : Basis S T
  after = record { first = Some first; notes = notes_in new.disk new.broken full; events = new.events; stripes = stripes; copied = copied; finished = finished }

  module _ (place : misplaced call first.layers ≡ misplaced call old.layers) where
    at_place : (x : ChainRefusal) → IsPlaceRefusal x → misplaced call old.layers ≡ Some x → IsCausedIn disk call before after (Err x)
    at_place EmptyRange is h = place ∙ h
    at_place (OutOfRange a b c) is h = place ∙ h
    at_place (TooLong a b) is h = place ∙ h
    at_place ReadOnly is h = place ∙ h
    at_place (Broken file count) is h = absurd is
    at_place (Spent t) is h = absurd is
    at_place (FileFull next) is h = absurd is
    at_place (ReadFault file count) is h = absurd is
    at_place NoMerge is h = absurd is
    at_place (Stale taken now) is h = absurd is
    at_place (NotYet stripe) is h = absurd is
    at_place (Abandoned file count) is h = absurd is
    at_place (NoStripe stripe stripes) is h = absurd is
    at_place NoPiece is h = absurd is
    at_place NoRoom is h = absurd is

    -- of a call that is refused before it reaches the files
    pub early_caused : (x : ChainRefusal) → old.events ≤ new.events → Early call old x → NotesBy (Err x) before.notes after.notes → IsCausedIn disk call before after (Err x)
    early_caused _ later (is_spent many) noted = (many, later)
    early_caused _ later (is_broken fault is) noted = (noted (notes.ChangeFailed fault.file fault.count)).1 (inl (inl (refl, refl)))
    early_caused _ later (is_misplaced x is kind) noted = at_place x kind is

    -- and of one that reached them
    pub reached_caused : (answer : Result ℕ ChainRefusal) → misplaced call old.layers ≡ None → IsReached old new answer → NotesBy answer before.notes after.notes → ((next : ℕ) → answer ≡ Err (FileFull next) → StopsOver disk first call (FileFull next))
        → IsCausedIn disk call before after answer
    reached_caused (Ok at) placed h noted stops = place ∙ placed
    reached_caused (Err EmptyRange) placed h noted stops = absurd h
    reached_caused (Err (OutOfRange a b c)) placed h noted stops = absurd h
    reached_caused (Err (TooLong a b)) placed h noted stops = absurd h
    reached_caused (Err ReadOnly) placed h noted stops = absurd h
    reached_caused (Err (Broken file count)) placed h noted stops = (noted (notes.ChangeFailed file count)).1 (inl (inl (refl, refl)))
    reached_caused (Err (Spent t)) placed h noted stops = absurd h
    reached_caused (Err (FileFull next)) placed h noted stops = (place ∙ placed, (noted (notes.Full next)).1 (inl (inl (omega arith))), stops next refl)
    reached_caused (Err (ReadFault file count)) placed h noted stops = (
      place ∙ placed,
      (noted (notes.ReadFailed file count)).1 (inl (inl (refl, omega arith))),
      λ was. at_end (old.disk.failed_reads file) (new.disk.failed_reads file) count h.0.2.rose h.0.2.told (noted_reads old.disk old.broken old_full file count was),
    )
    reached_caused (Err NoMerge) placed h noted stops = absurd h
    reached_caused (Err (Stale taken now)) placed h noted stops = absurd h
    reached_caused (Err (NotYet stripe)) placed h noted stops = absurd h
    reached_caused (Err (Abandoned file count)) placed h noted stops = absurd h
    reached_caused (Err (NoStripe stripe stripes)) placed h noted stops = absurd h
    reached_caused (Err NoPiece) placed h noted stops = absurd h
    reached_caused (Err NoRoom) placed h noted stops = place ∙ placed
