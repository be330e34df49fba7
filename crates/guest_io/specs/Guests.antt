-- What a guest's call tells it, by what its seat knew before and knows behind it.
use Rattle.std.specs.Prelude.{◌≡◌, ◌⊎◌, ◌+◌, ◌^◌, ◌<◌, ◌≤◌, ℕ, All, List, [], ◌∷◌, ◌++◌, length, Option, None, Some, Result, Ok, Err, IfSome}
use Rattle.store_model.specs.Disk.{Disk, Sealed}
use Rattle.store_model.specs.declared.fault.StoreFault.{StoreFault}
use Rattle.guest_model.specs.declared.call.Call.{Call}
use Rattle.guest_model.specs.declared.call.Caller.{Caller}
use Rattle.guest_model.specs.declared.call.Reply.{Reply}
use Rattle.guest_model.specs.declared.call.Reply.TheVariants.{Bytes}
use Rattle.guest_model.specs.declared.refusal.ChainRefusal.{ChainRefusal}
use Rattle.guest_model.specs.declared.refusal.ChainRefusal.TheVariants as refusals
use Rattle.guest_model.specs.History.{History}
use Rattle.chain_core.specs.States.{entry}
use Rattle.shared_chain.specs.declared.basis.Basis.{Basis}
use Rattle.shared_chain.specs.declared.basis.Step.{Step}
use Rattle.shared_chain.specs.declared.basis.Step.TheVariants.{Broke, Done}
use Rattle.shared_chain.specs.Answers.{IsCausedIn, RepliesBehind, misplaced_in}
use Rattle.shared_chain.specs.Bases.{Contains}
use Rattle.shared_chain.specs.Planned.{IsReaderFor}
use Rattle.shared_chain.specs.Seats.{KeepsSeat}
use Rattle.shared_chain.specs.Steps.{breach_of, done_steps}
use Rattle.turn_lock.specs.Histories.{StartsWith}
use Rattle.turn_lock.specs.Seats.{Known}
use Rattle.read_plan.specs.Reading.{ReaderFailed}
use Rattle.guest_io.specs.declared.placed.Placed.{Placed}

-- a guest's call of this number
abbrev pub caller_of : ℕ → ℕ → Caller
caller_of guest number = record { guest = guest; no = number }

-- ---- reads

-- a read's place, or its refusal
abbrev pub placed_at : Result Placed ChainRefusal → Result ℕ ChainRefusal
placed_at (Ok placed) = Ok placed.place
placed_at (Err refusal) = Err refusal

-- what a read found that has these bytes, unless a reader failed
abbrev pub found_in : Result (Unit {0}) StoreFault → List ℕ → Option Reply
found_in (Ok done) bytes = Some (Bytes bytes)
found_in (Err fault) bytes = None

abbrev pub found_by : Result Placed ChainRefusal → List ℕ → Option Reply
found_by (Ok placed) bytes = found_in placed.read bytes
found_by (Err refusal) bytes = None

-- one of the readers failed, by this fault; else all are as they were
abbrev pub AreReadBy : Result (Unit {0}) StoreFault → List Sealed → List Sealed → Type 0
AreReadBy (Ok done) old new = new ≡ old
AreReadBy (Err fault) old new = ReaderFailed old new (record { file = fault.file; count = fault.count })

abbrev pub ReadsBy : Result Placed ChainRefusal → List Sealed → List Sealed → Type 0
ReadsBy (Ok placed) old new = AreReadBy placed.read old new
ReadsBy (Err refusal) old new = new ≡ old

module _ {S T : Type 0} where
  -- readers for the session of which a seat knows
  abbrev pub HaveReaders : (S → Disk) → Basis S T → List Sealed → Type 0
  HaveReaders disk basis readers = IfSome basis.first (λ first. All (IsReaderFor disk first) readers)

-- ---- calls

module _ {S T : Type 0} where
  -- The call is the last entry of the one history, which begins with all that the seat had seen; it stands at the place that is answered, which
  -- the seat has for its own; and its reply, unless a read of sealed files failed, is that of the disk on which the session began, with the calls before it made on it.
  pub record IsDone (disk : S → Disk) (who : Caller) (call : Call) (r : Option Reply) (old new : Known Step (Basis S T)) (place : ℕ) : Type 0 where
    pub before : History
    pub begins : StartsWith (done_steps before) old.seen
    pub seen : new.seen ≡ done_steps before ++ Done (entry who call) ∷ []
    pub place_is : place ≡ length before + 1
    pub mine : new.mine ≡ old.mine ++ place ∷ []
    pub placed : misplaced_in new.basis call None
    pub replies : IfSome r (λ r. IfSome new.basis.first (λ first. RepliesBehind disk first before call r))

  -- The call broke the session: it stands behind the whole history, which begins with all that the seat had seen, and the seat has it for its
  -- own.
  pub record HasBroken (who : Caller) (call : Call) (old new : Known Step (Basis S T)) : Type 0 where
    pub before : History
    pub begins : StartsWith (done_steps before) old.seen
    pub seen : new.seen ≡ done_steps before ++ Broke (breach_of who call) ∷ []
    pub mine : new.mine ≡ old.mine ++ (length before + 1) ∷ []

  -- A refused call adds nothing of its own to the history; the one that breaks the session is noted behind it.
  abbrev pub AddsNothing : Caller → Call → ChainRefusal → Known Step (Basis S T) → Known Step (Basis S T) → Type 0
  AddsNothing who call (refusals.Broken file count) old new = (new.mine ≡ old.mine) ⊎ HasBroken who call old new
  AddsNothing who call refusal old new = new.mine ≡ old.mine

  -- What shows a refusal: so many events or turns there were; any other has its cause in what the seat knew before and knows now.
  abbrev pub IsShown : (S → Disk) → Call → ChainRefusal → Known Step (Basis S T) → Known Step (Basis S T) → Type 0
  IsShown disk call (refusals.Spent t) old new = (2 ^ 63 ≤ t) × ((0 < new.refusals) ⊎ (t ≤ new.basis.events))
  IsShown disk call refusal old new = IsCausedIn disk call old.basis new.basis (Err refusal)

  abbrev pub Answers : (S → Disk) → Caller → Call → Option Reply → Known Step (Basis S T) → Known Step (Basis S T) → Result ℕ ChainRefusal → Type 0
  Answers disk who call r old new (Ok place) = IsDone disk who call r old new place
  Answers disk who call r old new (Err refusal) = AddsNothing who call refusal old new × IsShown disk call refusal old new

  -- A guest's call, which draws one ticket at most.
  pub record IsCall (disk : S → Disk) (who : Caller) (call : Call) (r : Option Reply) (old new : Known Step (Basis S T)) (answer : Result ℕ ChainRefusal) : Type 0 where
    pub keeps : KeepsSeat old new
    pub drawn : new.drawn ≤ old.drawn + 1
    pub answers : Answers disk who call r old new answer
