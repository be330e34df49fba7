-- The client's guest, from its first call to its last, and what threads leave that share a chain with it.
use Rattle.std.specs.Prelude.{◌≡◌, ◌^◌, ◌≤◌, ◌∷◌, ⊤, ℕ, Bool, List, [], length, None, Option, Some}
use Rattle.store_model.specs.Disk.{Disk, Sealed}
use Rattle.guest_model.specs.declared.call.Call.{Call}
use Rattle.ledger.specs.declared.ledger.Ledger.{Ledger}
use Rattle.chain_core.specs.declared.chain.Chain.{Chain}
use Rattle.turn_lock.specs.Seats.{Known, TableId}
use Rattle.shared_chain.specs.declared.basis.Basis.{Basis}
use Rattle.shared_chain.specs.declared.basis.Step.{Step}
use Rattle.shared_chain.specs.Seats.{IsFree}
use Rattle.shared_chain.specs.Shared.{Shared}
use Rattle.guest_io.specs.declared.guest.Guest.{Guest}
use Rattle.nbd_front.specs.declared.export.Export.{Export}
use Rattle.nbd_front.specs.declared.served.Served.{Served}
use Rattle.nbd_front.specs.Sessions.{World}
use Rattle.serve_session.specs.Actors.{HasReaders, IsFrom}
use Rattle.serve_session.specs.Calling.{HasCalled}
use Rattle.serve_session.specs.Served.{Outcome, unread_in}
use Rattle.serve_session.specs.Serving.{WasShared}
use Rattle.nbd_session.specs.Connected.{IsConnected, asked_by_client}

module _ {S T : Type 0} (disk : S → Disk) (first : Chain S Ledger T) where
  -- guest 1 of the session, which has made no call, and none of whose readers has failed
  pub record IsNew (lock : TableId) (guest : Guest S T) : Type 0 where
    pub number : guest.number ≡ 1
    pub next : guest.next ≡ 1
    pub free : IsFree lock guest.seat
    pub knows : IsFrom disk first guest.seat.basis
    pub none : guest.seat.mine ≡ []
    pub drawn : guest.seat.drawn ≡ 0
    pub readers : HasReaders disk first [] guest.readers

  -- A connection was served so over the disk as guest 1 calls it, which has this seat and these readers behind that, and of whose reads so many
  -- failed by a reader: few calls were made, and it was told of all.
  pub record WasServed (lock : TableId) (export : Export) (before after : World ⊤) (served : Served) (seat : Known Step (Basis S T)) (readers : List Sealed) (lost : ℕ) : Type 0 where
    pub calls : List Call
    pub outcomes : List Outcome
    pub connected : IsConnected export before after (Some served) calls outcomes
    pub called : HasCalled disk first 1 calls seat readers outcomes
    pub free : IsFree lock seat
    pub lost_is : lost ≡ length (unread_in outcomes)
    pub few : length outcomes ≤ 2 ^ 57

-- Threads shared the chain, one of them the client's, and all seats were joined; or memory ran out before a call was made.
pub data IsSharedByClient {S T : Type 0} (disk : S → Disk) (merges : Bool) (old : Shared (Chain S Ledger T)) (export : Export) (before after : World ⊤) (new : Shared (Chain S Ledger T)) (served : Option Served) (unread : ℕ) : Type 0 where
  was_shared : (calls : List Call) (outcomes : List Outcome) → WasShared disk merges old (asked_by_client calls) new (outcomes ∷ []) unread → IsConnected export before after served calls outcomes → IsSharedByClient disk merges old export before after new served unread
  no_memory : new ≡ old → after ≡ before → served ≡ None → unread ≡ 0 → IsSharedByClient disk merges old export before after new served unread
