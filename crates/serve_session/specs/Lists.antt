-- The guests of a script, one after the other.
use Rattle.std.specs.Prelude.{◌≡◌, ◌⊎◌, ◌+◌, ◌-◌, ◌*◌, ◌^◌, ◌<◌, ◌≤◌, ⊤, ℕ, Bool, false, List, [], ◌∷◌, length, slice_index_or}
use Rattle.store_model.specs.Disk.{Disk, Sealed}
use Rattle.guest_io.specs.Guests.{HaveReaders}
use Rattle.ledger.specs.declared.ledger.Ledger.{Ledger}
use Rattle.chain_core.specs.declared.chain.Chain.{Chain}
use Rattle.script.specs.declared.form.Line.{Line}
use Rattle.script.specs.declared.told.ToldCall.{ToldCall}
use Rattle.turn_lock.specs.Histories.{StartsWith}
use Rattle.turn_lock.specs.Seats.{Known, TableId, split_off}
use Rattle.shared_chain.specs.Bases.{Contains}
use Rattle.shared_chain.specs.declared.basis.Basis.{Basis}
use Rattle.shared_chain.specs.declared.basis.Step.{Step}
use Rattle.shared_chain.specs.Seats.{HasWorked, IsFree}
use Rattle.serve_session.specs.Actors.{AreJoined, HasRun, IsActor}
use Rattle.claims.specs.Seats.{Counter}
use Rattle.copy_workers.specs.Sources.{HasSource, HaveFailed}
use Rattle.copy_workers.specs.declared.worker.Worker.{Worker}
use Rattle.serve_session.specs.declared.actor.Actor.{Actor}
use Rattle.shared_chain.specs.Seats.{MergeBreaksAt}
use Rattle.seats.specs.Counting.{times}
use Rattle.serve_session.specs.Served.{Outcome, all_unread, asked_by}
use Rattle.serve_session.specs.Written.{AreKept}
use Rattle.serve_session.specs.Tallies.{AddsUp, all_outcomes, no_tally}
use Rattle.serve_session.specs.declared.tally.Tally.{Tally}

module _ {S T : Type 0} where
  -- so many more seats were split from the first
  abbrev pub with_splits : Known Step (Basis S T) → ℕ → Known Step (Basis S T)
  with_splits seat n = record seat { family = record (seat.family) { splits = seat.family.splits + n } }

  -- a guest of this number with such readers and a seat that was split from this one, which has made no call
  pub record IsFresh (Set : List Sealed → Type 0) (first : Known Step (Basis S T)) (number : ℕ) (actor : Actor S T) : Type 0 where
    pub seat : actor.guest.seat ≡ split_off first
    pub number_is : actor.number ≡ number
    pub guest : actor.guest.number ≡ number
    pub next : actor.guest.next ≡ 1
    pub set : Set actor.guest.readers
    pub room : length actor.room.items ≡ 1048576
    pub told : actor.told.items ≡ []
    pub unread : actor.unread ≡ 0
    pub tally : actor.tally ≡ no_tally
    pub memory : actor.is_short ≡ false

  -- those from the guest of a number down
  abbrev pub AreFresh : (List Sealed → Type 0) → Known Step (Basis S T) → ℕ → List (Actor S T) → Type 0
  AreFresh Set first number [] = ⊤
  AreFresh Set first number (actor ∷ actors) = IsFresh Set first number actor × AreFresh Set first (number - 1) actors

  abbrev pub AreActors : (Actor S T → Type 0) → ℕ → List (Actor S T) → Type 0
  AreActors P number [] = ⊤
  AreActors P number (actor ∷ actors) = (actor.number ≡ number) × P actor × AreActors P (number - 1) actors

  -- it may make calls
  abbrev pub IsReady : (S → Disk) → TableId → Actor S T → Type 0
  IsReady disk lock actor = IsFree lock actor.guest.seat × (length actor.room.items ≡ 1048576) × HaveReaders disk actor.guest.seat.basis actor.guest.readers

  -- it has made its calls of the lines, if it had made none
  abbrev pub RunsTo : (S → Disk) → TableId → List (List ℕ) → List Line → Actor S T → Actor S T → Type 0
  RunsTo disk lock names lines old new = (new.number ≡ old.number) × ((first : Chain S Ledger T) → IsActor disk first lock names [] old → HasRun disk first lock names lines new)

  pub record RunsEach (disk : S → Disk) (lock : TableId) (names : List (List ℕ)) (lines : List Line) (old new : List (Actor S T)) : Type 0 where
    pub count : length new ≡ length old
    pub each : (i : ℕ) (d : Actor S T) → i < length old → RunsTo disk lock names lines (slice_index_or old i d) (slice_index_or new i d)

  module _ (disk : S → Disk) where
    -- a worker with a seat that was split from this one, which has made no turn, and with readers of which none has failed
    pub record IsFreshWorker (first : Known Step (Basis S T)) (claims : Counter) (worker : Worker S T) : Type 0 where
      pub seat : worker.seat ≡ split_off first
      pub counter : worker.claim.counter ≡ claims
      pub source : HasSource disk worker.seat.basis worker.reads
      pub failed : HaveFailed worker.reads worker.unfetched

    -- it may take turns
    pub record CanWork (lock : TableId) (claims : Counter) (worker : Worker S T) : Type 0 where
      pub free : IsFree lock worker.seat
      pub counter : worker.claim.counter ≡ claims
      pub source : HasSource disk worker.seat.basis worker.reads
      pub failed : HaveFailed worker.reads worker.unfetched

  -- workers have taken so many turns each at most, and count the stripes that they couldn't fetch
  pub record WorksEach (turns : ℕ) (old new : List (Worker S T)) : Type 0 where
    pub count : length new ≡ length old
    pub each : (i : ℕ) (d : Worker S T) → i < length old → HasWorked turns (slice_index_or old i d).seat (slice_index_or new i d).seat
    pub failed : (i : ℕ) (d : Worker S T) → i < length old → HaveFailed (slice_index_or new i d).reads (slice_index_or new i d).unfetched

  -- it has ended its turns, and nothing is its own but where a step of the merge broke the session; it drew 2^34 tickets at most
  pub record HasDone (lock : TableId) (worker : Worker S T) : Type 0 where
    pub free : IsFree lock worker.seat
    pub owns : (p : ℕ) → 0 < times p worker.seat.mine → MergeBreaksAt worker.seat.seen p
    pub drawn : worker.seat.drawn ≤ 2 ^ 34
    pub failed : HaveFailed worker.reads worker.unfetched

  -- Seats of a merge's workers were joined into this one: it has seen and knows what it had, and what is its own beside that is a step of the merge that
  -- broke the session.
  pub record WorkersJoin (old new : Known Step (Basis S T)) : Type 0 where
    pub lock : new.lock ≡ old.lock
    pub turn : new.turn ≡ old.turn
    pub leads : new.family.is_first ≡ old.family.is_first
    pub seen : StartsWith new.seen old.seen
    pub basis : Contains new.basis old.basis
    pub refusals : old.refusals ≤ new.refusals
    pub own : (p : ℕ) → 0 < times p new.mine → (0 < times p old.mine) ⊎ MergeBreaksAt new.seen p

  -- the seats of so many guests of a script were joined, each of which drew a ticket for each of its calls at most; so many of their reads failed
  -- by a reader, and this is what their calls came to
  pub record HasJoined (disk : S → Disk) (merges : Bool) (first : Chain S Ledger T) (lock : TableId) (names : List (List ℕ)) (lines : List Line) (count : ℕ) (old new : Known Step (Basis S T)) (told : List (List ToldCall)) (short : Bool) (unread : ℕ) (tally : Tally) : Type 0 where
    pub guests : List (List Outcome)
    pub joined : AreJoined disk first merges lock (asked_by lines) new guests
    pub words : AreKept names lines told short guests
    pub count_is : length guests ≡ count
    pub unread_is : unread ≡ length (all_unread guests)
    pub tally_is : AddsUp tally (all_outcomes guests)
    pub family : new.family ≡ record (old.family) { joins = old.family.joins + count }
    pub first_ticket : new.first_ticket ≡ old.first_ticket
    pub drawn : new.drawn ≤ old.drawn + 2 ^ 20 * count
