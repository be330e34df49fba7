-- What a guest's call of a shared chain answers and leaves.
use Rattle.std.specs.Prelude.{◌≡◌, ◌^◌, ◌-◌, ◌≤◌, ℕ, [], ◌∷◌, ◌++◌, length, is_some, Option, Some, None, Result, Ok, Err, IfSome}
use Rattle.store_model.specs.Disk.{Disk, WhereTold}
use Rattle.guest_model.specs.declared.call.Call.{Call}
use Rattle.guest_model.specs.declared.call.Caller.{Caller}
use Rattle.guest_model.specs.declared.call.Entry.{Entry}
use Rattle.guest_model.specs.declared.call.Reply.{Reply}
use Rattle.ledger.specs.declared.ledger.Ledger.{Ledger}
use Rattle.guest_model.specs.declared.refusal.ChainRefusal.{ChainRefusal}
use Rattle.guest_model.specs.declared.refusal.ChainRefusal.TheVariants as refusals
use Rattle.guest_model.specs.Calls.{reply}
use Rattle.guest_model.specs.History.{History, replay}
use Rattle.chain_core.specs.declared.chain.Chain.{Chain}
use Rattle.chain_core.specs.Answering.{AnswersTold, HasRoom, Notes}
use Rattle.chain_core.specs.Copying.{MergeFollows}
use Rattle.chain_core.specs.Refusing.{IfRefused, counted, misplaced}
use Rattle.chain_core.specs.Sessions.{IsSound, Session, leaf_number}
use Rattle.chain_core.specs.States.{IsServing, State, entry, sector_of}
use Rattle.script_session.specs.Answers.{HasCauseOf}
use Rattle.script_session.specs.Histories.{Stops}
use Rattle.shared_chain.specs.declared.basis.Basis.{Basis}
use Rattle.shared_chain.specs.declared.basis.Note.TheVariants as notes
use Rattle.shared_chain.specs.declared.basis.Breach.{Breach}
use Rattle.shared_chain.specs.Bases.{basis_of, notes_of}
use Rattle.shared_chain.specs.Faults.{fault_after}
use Rattle.shared_chain.specs.Homes.{session_of}
use Rattle.shared_chain.specs.Notes.{HasNote, NotesBy}
use Rattle.shared_chain.specs.Shared.{Shared}
use Rattle.shared_chain.specs.Steps.{breach_of, broke_after}

-- A session answered a call, as the chain's core says of each of its calls.
pub record Answered (who : Caller) (call : Call) (old new : Session) (answer : Result ℕ ChainRefusal) : Type 0 where
  pub sound : IsSound new
  pub events : new.events ≡ counted old.events
  pub geometry : new.layers.geometry ≡ old.layers.geometry
  pub session : is_some new.layers.leaf ≡ is_some old.layers.leaf
  pub leaf : leaf_number new.layers ≡ leaf_number old.layers
  pub early : IfRefused call old answer (new ≡ record old { events = counted old.events })
  pub notes : Notes who call old new answer
  pub cause : HasCauseOf call old new answer
  pub room : HasRoom call old answer
  pub merge : MergeFollows call old.layers new.layers answer
  pub told : AnswersTold who call old new answer

-- the call is the history's next entry, at the place that is answered; one that is refused leaves the history
abbrev pub IsEntered : Entry → History → History → Result ℕ ChainRefusal → Type 0
IsEntered e old new (Ok place) = (new ≡ old ++ e ∷ []) × (place ≡ length new)
IsEntered e old new (Err refusal) = new ≡ old

-- what has broken the session, behind an answer: nothing, if the call was done
abbrev pub IsBroke : Breach → Option Breach → Option Breach → Result ℕ ChainRefusal → Type 0
IsBroke b old new (Ok place) = (old ≡ None) × (new ≡ None)
IsBroke b old new (Err refusal) = new ≡ broke_after old b (Err refusal)

module _ {S T : Type 0} where
  -- what refuses a call by its range, and then where the chain is only read, by what a basis tells of the session
  abbrev pub misplaced_in : Basis S T → Call → Option ChainRefusal → Type 0
  misplaced_in basis call cause = IfSome basis.first (λ chain. misplaced call chain.layers ≡ cause)

  -- Where content is told this stops a call, over the disk on which a session began.
  abbrev pub StopsOver : (S → Disk) → Chain S Ledger T → Call → ChainRefusal → Type 0
  StopsOver disk first call x = WhereTold (disk first.store).told (λ trace. (from : State) → IsServing first.layers from trace → from.history ≡ [] → Stops call x)

  -- The cause of an answer, read off the basis before the call and the one behind it.
  abbrev pub IsCausedIn : (S → Disk) → Call → Basis S T → Basis S T → Result ℕ ChainRefusal → Type 0
  IsCausedIn disk call old new (Ok place) = misplaced_in new call None
  IsCausedIn disk call old new (Err refusals.EmptyRange) = misplaced_in new call (Some refusals.EmptyRange)
  IsCausedIn disk call old new (Err (refusals.OutOfRange first count sectors)) = misplaced_in new call (Some (refusals.OutOfRange first count sectors))
  IsCausedIn disk call old new (Err (refusals.TooLong count limit)) = misplaced_in new call (Some (refusals.TooLong count limit))
  IsCausedIn disk call old new (Err refusals.ReadOnly) = misplaced_in new call (Some refusals.ReadOnly)
  IsCausedIn disk call old new (Err (refusals.Broken file count)) = HasNote new.notes (notes.ChangeFailed file count)
  IsCausedIn disk call old new (Err (refusals.Spent t)) = (2 ^ 63 ≤ t) × (t ≤ new.events)
  IsCausedIn disk call old new (Err (refusals.FileFull next)) =
      misplaced_in new call None × HasNote new.notes (notes.Full next) × IfSome new.first (λ first. StopsOver disk first call (refusals.FileFull next))
  -- it is noted anew, or the count is at its end
  IsCausedIn disk call old new (Err (refusals.ReadFault file count)) =
      misplaced_in new call None × HasNote new.notes (notes.ReadFailed file count) × (HasNote old.notes (notes.ReadFailed file count) → 2 ^ 64 - 1 ≤ count)
  IsCausedIn disk call old new (Err refusals.NoRoom) = misplaced_in new call None
  IsCausedIn disk call old new (Err other) = ⊥

  -- The reply is that of the disk on which a session began, with the calls of a history made on it, for each state that it served then.
  abbrev pub RepliesBehind : (S → Disk) → Chain S Ledger T → History → Call → Reply → Type 0
  RepliesBehind disk first h call r = WhereTold (disk first.store).told (λ trace. (from : State) → IsServing first.layers from trace → from.history ≡ [] → reply (replay (sector_of from) from.opening h) call ≡ r)

  abbrev pub RepliesFrom : (S → Disk) → Shared (Chain S Ledger T) → Call → Reply → Type 0
  RepliesFrom disk s call r = RepliesBehind disk s.first s.chain.recorder call r

  -- What a call leaves of a shared chain: its beginning stays; its history has the call if it was done; it is what broke the session if it is
  -- the first that is told so; what the answer notes is noted; and the answer has its cause.
  pub record IsCalled (disk : S → Disk) (who : Caller) (call : Call) (old new : Shared (Chain S Ledger T)) (answer : Result ℕ ChainRefusal) : Type 0 where
    pub first : new.first ≡ old.first
    pub entered : IsEntered (entry who call) old.chain.recorder new.chain.recorder answer
    pub broke : IsBroke (breach_of who call) old.broke new.broke answer
    pub fault : new.fault ≡ fault_after old.fault answer
    pub copied : new.copied ≡ old.copied
    pub finished : new.finished ≡ old.finished
    pub noted : NotesBy answer (notes_of disk old) (notes_of disk new)
    pub cause : IsCausedIn disk call (basis_of disk old) (basis_of disk new) answer
    pub answered : Answered who call (session_of disk old.chain) (session_of disk new.chain) answer
