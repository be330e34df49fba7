-- Sealing what a session only reads, before its guests are served, and the readers that each of them gets.
use Rattle.std.specs.Prelude.{◌≡◌, Bool, List, [], Option, None, Result}
use Rattle.store_model.specs.Disk.{Disk, Sealed, WhereBothTold, WhereTold}
use Rattle.store_model.specs.declared.fault.StoreFault.{StoreFault}
use Rattle.guest_model.specs.History.{History}
use Rattle.ledger.specs.declared.ledger.Ledger.{Ledger}
use Rattle.guest_model.specs.declared.refusal.ChainRefusal.{ChainRefusal}
use Rattle.chain_core.specs.declared.chain.Chain.{Chain}
use Rattle.chain_core.specs.Sealed.{GoesOnSealed}
use Rattle.chain_core.specs.Sessions.{IsSound, has_merge}
use Rattle.chain_core.specs.States.{IsServing, State}
use Rattle.shared_chain.specs.Closing.{LeavesHistory}
use Rattle.shared_chain.specs.Faults.{EndsCounted}
use Rattle.shared_chain.specs.Homes.{session_of}
use Rattle.serve_session.specs.Actors.{HasReaders}
use Rattle.serve_session.specs.Endings.{Ending}
use Rattle.serve_session.specs.Served.{Asking, Outcome}
use Rattle.serve_session.specs.Serving.{HasServed}

module _ {S T : Type 0} (disk : S → Disk) where
  -- where the store tells its content, the session serves a state with no call
  abbrev pub ServesFirst : Chain S Ledger T → Type 0
  ServesFirst chain = WhereTold (disk chain.store).told (λ trace. (from : State) × IsServing chain.layers from trace × (from.history ≡ []))

  -- A chain whose session has just begun, once what it only reads was sealed, or as far as it was when a read failed or memory ran out: the session
  -- goes on as it was.
  pub record IsSealing (old new : Chain S Ledger T) (met : Option StoreFault) : Type 0 where
    pub only : new ≡ record old { store = new.store }
    pub sound : IsSound (session_of disk new)
    pub goes : WhereBothTold (GoesOnSealed old.layers) (disk old.store).told (disk new.store).told
    pub files : (disk new.store).files ≡ (disk old.store).files
    pub changes : (disk new.store).failed_changes ≡ (disk old.store).failed_changes
    pub quiet : met ≡ None → disk new.store ≡ record (disk old.store) { told = (disk new.store).told }

  -- readers for a guest of the session, of which none has failed
  abbrev pub IsSetFor : Chain S Ledger T → List Sealed → Type 0
  IsSetFor first set = HasReaders disk first [] set

  -- The session ended before a guest was served.
  pub record EndsUnserved (old : Chain S Ledger T) (store : S) (met : Option StoreFault) (closed : Result (Unit {0}) StoreFault) : Type 0 where
    pub first : Chain S Ledger T
    pub sealing : IsSealing old first met
    pub counted : EndsCounted (disk first.store) (disk store) met closed
    pub leaves : LeavesHistory (session_of disk first) [] None None (has_merge first.layers) closed (disk store)

  -- Guests were served once what their session only reads was sealed; or the session ended before, as a read failed, which is told, or memory ran
  -- out.
  pub record ServesSealed (merges : Bool) (chain : Chain S Ledger T) (asking : Asking) (guests : List (List Outcome)) (history : History) (end : Ending) (merged : Result (Unit {0}) ChainRefusal) (after : Disk) : Type 0 where
    pub first : Chain S Ledger T
    pub met : Option StoreFault
    pub sealing : IsSealing chain first met
    pub told : end.fault ≡ None → met ≡ None
    pub served : HasServed disk merges first asking guests history end merged after
