-- What guests have done so far, by their seats and what they were told; and a guest of a script.
use Rattle.read_plan.specs.Reading.{has_failed}
use Rattle.std.specs.Prelude.{◌≡◌, ◌⊎◌, ◌+◌, ◌-◌, ◌^◌, ◌<◌, ◌≤◌, ⊤, ℕ, Bool, false, true, All, List, [], ◌∷◌, ◌++◌, if◌then◌else◌, length, map, nat_lt, Some, None, Result, Ok, Err, IfErr, IfOk}
use Rattle.store_model.specs.Disk.{Disk, Sealed}
use Rattle.store_model.specs.declared.fault.StoreFault.{StoreFault}
use Rattle.guest_model.specs.declared.call.Call.{Call}
use Rattle.ledger.specs.declared.ledger.Ledger.{Ledger}
use Rattle.guest_model.specs.declared.call.Reply.{Reply}
use Rattle.guest_model.specs.declared.refusal.ChainRefusal.{ChainRefusal}
use Rattle.guest_model.specs.declared.refusal.ChainRefusal.TheVariants as refusals
use Rattle.guest_model.specs.Calls.{is_named}
use Rattle.guest_model.specs.History.{History}
use Rattle.chain_core.specs.declared.chain.Chain.{Chain}
use Rattle.chain_core.specs.Refusing.{is_read, misplaced}
use Rattle.chain_core.specs.Sessions.{AreApart}
use Rattle.shared_chain.specs.Planned.{IsReaderFor}
use Rattle.script.specs.Grammar.{is_call}
use Rattle.script.specs.declared.form.Form.{Form}
use Rattle.script.specs.declared.form.Line.{Line}
use Rattle.script_session.specs.Told.{sector_size}
use Rattle.seats.specs.Counting.{times}
use Rattle.turn_lock.specs.Histories.{StartsWith}
use Rattle.turn_lock.specs.Seats.{Known, TableId}
use Rattle.shared_chain.specs.declared.basis.Basis.{Basis}
use Rattle.shared_chain.specs.declared.basis.Breach.{Breach}
use Rattle.shared_chain.specs.declared.basis.Note.{Note}
use Rattle.shared_chain.specs.declared.basis.Note.TheVariants as notes
use Rattle.shared_chain.specs.declared.basis.Step.{Step}
use Rattle.shared_chain.specs.declared.basis.Step.TheVariants.{Broke, Done}
use Rattle.shared_chain.specs.Answers.{RepliesBehind, StopsOver}
use Rattle.shared_chain.specs.Bases.{notes_in}
use Rattle.shared_chain.specs.Notes.{HasNote}
use Rattle.shared_chain.specs.Steps.{done_steps, open_by}
use Rattle.shared_chain.specs.Seats.{IsFree, MergeBreaksAt}
use Rattle.serve_session.specs.Tallies.{AddsUp}
use Rattle.serve_session.specs.declared.actor.Actor.{Actor}
use Rattle.serve_session.specs.Served.{Asking, EachGuest, Has, IsCountedUp, IsRising, Outcome, SomeGuest, call_of, counts_behind, entry_of, forms_of, none_failed, places_in, told_calls, unread_in}

-- The call broke a session: it was told so, and what a crash may leave otherwise for it are sectors that it names.
abbrev pub HasBreach : ℕ → ℕ → Call → Breach → Outcome → Type 0
HasBreach guest number call b (Err (refusals.Broken file count)) =
    (b.guest ≡ guest) × (b.no ≡ number) × ((s : ℕ) → is_named sector_size call s ≡ false → open_by (Some b) s ≡ false)
HasBreach guest number call b other = ⊥

-- one of these calls did
abbrev pub HasBreacher : Breach → ℕ → ℕ → List Call → List Outcome → Type 0
HasBreacher b guest number calls [] = ⊥
HasBreacher b guest number [] (o ∷ outcomes) = ⊥
HasBreacher b guest number (call ∷ calls) (o ∷ outcomes) = HasBreach guest number call b o ⊎ HasBreacher b guest (number + 1) calls outcomes

-- ---- what a seat has heard

module _ {S T : Type 0} (disk : S → Disk) (first : Chain S Ledger T) where
  -- what is noted of a chain whose session has just begun
  abbrev pub first_notes : List Note
  first_notes = notes_in (disk first.store) None None

  -- of the session that began with this chain, with all that was noted then
  pub record IsFrom (basis : Basis S T) : Type 0 where
    pub began : basis.first ≡ Some first
    pub notes : (n : Note) → HasNote first_notes n → HasNote basis.notes n

  -- A read's reader failed that reads this file of the session's store.
  abbrev pub IsUnread : Call → StoreFault → Type 0
  IsUnread call fault = (is_read call ≡ true) × (fault.file < (disk first.store).files)

  -- A call was done: it stands in the history, behind others, and its reply is that of the disk with these, but of a read whose reader failed.
  pub record HasPlace (seen : List Step) (guest number : ℕ) (call : Call) (done : ℕ × Result Reply StoreFault) : Type 0 where
    pub before : History
    pub begins : StartsWith seen (done_steps before ++ Done (entry_of guest number call) ∷ [])
    pub place_is : done.0 ≡ length before + 1
    pub placed : misplaced call first.layers ≡ None
    pub replies : IfOk done.1 (RepliesBehind disk first before call)
    pub unread : IfErr done.1 (IsUnread call)

  -- it was refused, for what is noted or by its place; or memory ran out for it, which is told by some fronts
  abbrev pub IsHeardOf : Bool → Known Step (Basis S T) → Call → ChainRefusal → Type 0
  IsHeardOf tells seat call refusals.EmptyRange = misplaced call first.layers ≡ Some refusals.EmptyRange
  IsHeardOf tells seat call (refusals.OutOfRange from count sectors) = misplaced call first.layers ≡ Some (refusals.OutOfRange from count sectors)
  IsHeardOf tells seat call (refusals.TooLong count limit) = misplaced call first.layers ≡ Some (refusals.TooLong count limit)
  IsHeardOf tells seat call refusals.ReadOnly = misplaced call first.layers ≡ Some refusals.ReadOnly
  IsHeardOf tells seat call (refusals.Broken file count) = HasNote seat.basis.notes (notes.ChangeFailed file count)
  -- so many turns, or events, there were
  IsHeardOf tells seat call (refusals.Spent t) = (2 ^ 63 ≤ t) × ((0 < seat.refusals) ⊎ (t ≤ seat.basis.events))
  IsHeardOf tells seat call (refusals.FileFull next) = (misplaced call first.layers ≡ None) × HasNote seat.basis.notes (notes.Full next) × StopsOver disk first call (refusals.FileFull next)
  IsHeardOf tells seat call (refusals.ReadFault file count) =
      (misplaced call first.layers ≡ None) × HasNote seat.basis.notes (notes.ReadFailed file count) × (HasNote first_notes (notes.ReadFailed file count) → 2 ^ 64 - 1 ≤ count)
  IsHeardOf tells seat call refusals.NoRoom = tells ≡ true
  IsHeardOf tells seat call other = ⊥

  abbrev pub IsHeard : Bool → Known Step (Basis S T) → ℕ → ℕ → Call → Outcome → Type 0
  IsHeard tells seat guest number call (Ok done) = HasPlace seat.seen guest number call done
  IsHeard tells seat guest number call (Err refusal) = IsHeardOf tells seat call refusal

  -- so it is of a guest's calls, the first of which has this number
  abbrev pub AreHeard : Bool → Known Step (Basis S T) → ℕ → ℕ → List Call → List Outcome → Type 0
  AreHeard tells seat guest number calls [] = ⊤
  AreHeard tells seat guest number [] (o ∷ outcomes) = ⊥
  AreHeard tells seat guest number (call ∷ calls) (o ∷ outcomes) = IsHeard tells seat guest number call o × AreHeard tells seat guest (number + 1) calls outcomes

-- the call at this place, behind the whole history, is what broke the session: one of this guest's
pub record BreaksAt (seen : List Step) (p guest : ℕ) (calls : List Call) (outcomes : List Outcome) : Type 0 where
  pub before : History
  pub breach : Breach
  pub begins : StartsWith seen (done_steps before ++ Broke breach ∷ [])
  pub place_is : p ≡ length before + 1
  pub breaker : HasBreacher breach guest 1 calls outcomes

-- what stands at a place is what a guest was told of
abbrev pub OwnsAt : List Step → ℕ → ℕ → List Call → List Outcome → Type 0
OwnsAt seen p guest calls outcomes = Has p (places_in outcomes) ⊎ BreaksAt seen p guest calls outcomes

-- what stands at a place is what a guest was told of; or, in a session with a merge, what a step of the merge broke
abbrev pub IsOwned : Bool → List Step → ℕ → Asking → List (List Outcome) → Type 0
IsOwned false seen p asking guests = SomeGuest (λ guest outcomes. OwnsAt seen p guest (asking.calls guest) outcomes) 1 guests
IsOwned true seen p asking guests = SomeGuest (λ guest outcomes. OwnsAt seen p guest (asking.calls guest) outcomes) 1 guests ⊎ MergeBreaksAt seen p

-- ---- guests

-- what a line asks for, if it is a call
abbrev pub called_form : Form → List Form
called_form form = if is_call form then form ∷ [] else []

module _ {S T : Type 0} (disk : S → Disk) (first : Chain S Ledger T) where
  -- What a guest with this seat was told of its calls, and nothing else is its own. It drew a ticket for each of them at most.
  pub record HasHeard (tells : Bool) (guest : ℕ) (calls : List Call) (seat : Known Step (Basis S T)) (outcomes : List Outcome) : Type 0 where
    pub knows : IsFrom disk first seat.basis
    pub heard : AreHeard disk first tells seat guest 1 calls outcomes
    pub order : IsRising (places_in outcomes)
    pub unread : IsCountedUp none_failed (unread_in outcomes)
    pub owns : (p : ℕ) → 0 < times p seat.mine → OwnsAt seat.seen p guest calls outcomes
    pub drawn : seat.drawn ≤ length calls

  -- all calls of these forms were made, and what they were told is kept
  pub record HasKept (names : List (List ℕ)) (forms : List Form) (actor : Actor S T) (outcomes : List Outcome) : Type 0 where
    pub all : length outcomes ≡ length forms
    pub next : actor.guest.next ≡ length outcomes + 1
    pub told : actor.told.items ≡ told_calls names forms outcomes

  -- Readers of a guest whose reads failed so by them: each counts those of its file, and no file has two; one has failed exactly where a read did.
  pub record HasReaders (unread : List StoreFault) (readers : List Sealed) : Type 0 where
    pub own : All (IsReaderFor disk first) readers
    pub there : All (λ s. s.file < (disk first.store).files) readers
    pub apart : AreApart (map (λ s. s.file) readers)
    pub counts : All (λ s. s.failed ≡ counts_behind none_failed unread s.file) readers
    pub failed : has_failed readers ≡ nat_lt 0 (length unread)

  -- A guest whose lines have asked for these calls so far may make its next one, or memory ran out for it.
  pub record IsActor (lock : TableId) (names : List (List ℕ)) (forms : List Form) (actor : Actor S T) : Type 0 where
    pub free : IsFree lock actor.guest.seat
    pub number : actor.guest.number ≡ actor.number
    pub room : length actor.room.items ≡ 1048576
    pub sector : first.layers.geometry.sector ≡ sector_size
    pub outcomes : List Outcome
    pub hears : HasHeard false actor.number (map call_of forms) actor.guest.seat outcomes
    pub readers : HasReaders (unread_in outcomes) actor.guest.readers
    pub unread : actor.unread ≡ length (unread_in outcomes)
    pub tally : AddsUp actor.tally outcomes
    pub kept : actor.is_short ≡ false → HasKept names forms actor outcomes

  -- a guest that has made all its calls of a script, or those for which there was memory
  abbrev pub HasRun : TableId → List (List ℕ) → List Line → Actor S T → Type 0
  HasRun lock names lines actor = IsActor lock names (forms_of actor.number lines) actor

  -- ---- all of them

  -- What guests were told whose seats were joined into this one, as were those of a merge's workers, if there is a merge.
  pub record AreJoined (merges : Bool) (lock : TableId) (asking : Asking) (seat : Known Step (Basis S T)) (guests : List (List Outcome)) : Type 0 where
    pub free : IsFree lock seat
    pub leads : seat.family.is_first ≡ true
    pub knows : IsFrom disk first seat.basis
    pub heard : EachGuest (λ guest outcomes. AreHeard disk first asking.tells_want seat guest 1 (asking.calls guest) outcomes) 1 guests
    pub order : EachGuest (λ guest outcomes. IsRising (places_in outcomes)) 1 guests
    pub unread : EachGuest (λ guest outcomes. IsCountedUp none_failed (unread_in outcomes)) 1 guests
    pub owns : (p : ℕ) → 0 < times p seat.mine → IsOwned merges seat.seen p asking guests
