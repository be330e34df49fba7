-- A guest that makes calls one after the other, and is told where memory ran out for one (profile): what fronts stand on that aren't scripts.
use Rattle.std.specs.Prelude.{◌≡◌, ◌+◌, ℕ, true, List, [], ◌∷◌, ◌++◌, length, Result}
use Rattle.store_model.specs.Disk.{Disk, Sealed}
use Rattle.guest_model.specs.declared.call.Call.{Call}
use Rattle.guest_model.specs.declared.call.Reply.{Reply}
use Rattle.guest_model.specs.declared.refusal.ChainRefusal.{ChainRefusal}
use Rattle.ledger.specs.declared.ledger.Ledger.{Ledger}
use Rattle.chain_core.specs.declared.chain.Chain.{Chain}
use Rattle.guest_io.specs.Guests.{ReadsBy, caller_of}
use Rattle.guest_io.specs.declared.placed.Placed.{Placed}
use Rattle.turn_lock.specs.Seats.{Known}
use Rattle.shared_chain.specs.declared.basis.Basis.{Basis}
use Rattle.shared_chain.specs.declared.basis.Step.{Step}
use Rattle.serve_session.specs.Actors.{HasHeard, HasReaders, IsFrom}
use Rattle.serve_session.specs.Asking.{IsMade, OnlyReadsMiss, outcome_of}
use Rattle.serve_session.specs.Served.{Outcome, unread_in}

module _ {S T : Type 0} (disk : S → Disk) (first : Chain S Ledger T) where
  -- What a guest with this seat was told of all its calls, and its readers count what failed by them.
  pub record HasCalled (guest : ℕ) (calls : List Call) (seat : Known Step (Basis S T)) (readers : List Sealed) (outcomes : List Outcome) : Type 0 where
    pub hears : HasHeard disk first true guest calls seat outcomes
    pub counts : HasReaders disk first (unread_in outcomes) readers
    pub all : length outcomes ≡ length calls

  -- A guest of the session that has taken no turn, and none of whose readers has failed, was told of no call.
  abbrev pub BeginsToCall : Type 0
  BeginsToCall =
      (guest : ℕ) (seat : Known Step (Basis S T)) (readers : List Sealed) → IsFrom disk first seat.basis → seat.mine ≡ [] → seat.drawn ≡ 0 → HasReaders disk first [] readers
      → HasCalled guest [] seat readers []

  -- A guest that was told of all its calls and makes one more was told of all of these.
  abbrev pub CallsOnceMore : Type 0
  CallsOnceMore =
      (guest : ℕ) (calls : List Call) (outcomes : List Outcome) (old new : Known Step (Basis S T)) (readers later : List Sealed) (call : Call) (shown : Reply) (answer : Result Placed ChainRefusal)
      → HasCalled guest calls old readers outcomes → IsMade disk (caller_of guest (length outcomes + 1)) call shown old new answer → ReadsBy answer readers later → OnlyReadsMiss call answer
      → HasCalled guest (calls ++ call ∷ []) new later (outcomes ++ outcome_of shown answer ∷ [])
