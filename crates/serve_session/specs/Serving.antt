-- What a session with several guests does to the files of a chain, from its first call to its end.
use Rattle.std.specs.Prelude.{◌≡◌, ◌+◌, ◌^◌, ◌<◌, ◌≤◌, ⊤, ℕ, Bool, true, false, List, [], length, is_some, Option, None, Some, Result, Ok, IfErr, OnOk}
use Rattle.std.specs.List.{AllByRecursion}
use Rattle.store_model.specs.Disk.{Disk, WhereTold}
use Rattle.ledger.specs.declared.ledger.Ledger.{Ledger}
use Rattle.guest_model.specs.declared.refusal.ChainRefusal.{ChainRefusal}
use Rattle.guest_model.specs.declared.refusal.ChainRefusal.TheVariants as refusals
use Rattle.guest_model.specs.History.{History}
use Rattle.chain_core.specs.declared.chain.Chain.{Chain}
use Rattle.chain_core.specs.States.{IsServing, State}
use Rattle.script.specs.declared.form.Line.{Line}
use Rattle.script_session.specs.Faults.{FaultsAreTold}
use Rattle.script_session.specs.Histories.{Break, Drive, IsEndTold}
use Rattle.script_session.specs.Running.{open_by}
use Rattle.script_session.specs.Told.{failed_by}
use Rattle.shared_chain.specs.declared.basis.Breach.{Breach}
use Rattle.shared_chain.specs.Closing.{LeavesHistory}
use Rattle.shared_chain.specs.Faults.{EndsCounted}
use Rattle.shared_chain.specs.Homes.{session_of}
use Rattle.shared_chain.specs.Steps.{open_by as opens_by, steps_of}
use Rattle.serve_session.specs.Endings.{Ending, StopsMerge, ending_of}
use Rattle.chain_core.specs.Sessions.{IsSound}
use Rattle.script.specs.declared.told.ToldCall.{ToldCall}
use Rattle.seats.specs.Counting.{once_between, times}
use Rattle.turn_lock.specs.Seats.{Known, TableId}
use Rattle.shared_chain.specs.declared.basis.Basis.{Basis}
use Rattle.shared_chain.specs.declared.basis.Step.{Step}
use Rattle.shared_chain.specs.Bases.{Contains, basis_of}
use Rattle.shared_chain.specs.Merging.{IsMerged}
use Rattle.shared_chain.specs.Shared.{Shared}
use Rattle.serve_session.specs.Actors.{AreJoined}
use Rattle.serve_session.specs.Served.{AreServed, Asking, Outcome, all_told, all_unread, asked_by}
use Rattle.serve_session.specs.Tallies.{AddsUp, all_outcomes, no_tally}
use Rattle.serve_session.specs.Written.{AreKept, IsWritten}
use Rattle.serve_session.specs.declared.merging.MergeRun.{MergeRun}
use Rattle.serve_session.specs.declared.tally.Tally.{Tally}

-- what a script runs over, in a session that began with this chain, over the disk of this state
abbrev pub drive_from : {S T : Type 0} → Chain S Ledger T → State → Drive
drive_from first from = record { geometry = first.layers.geometry; can_change = is_some first.layers.leaf; opening = from.opening }

-- so much at most, if there is a greatest number
abbrev pub IsUpTo : Option ℕ → ℕ → Type 0
IsUpTo None n = ⊥
IsUpTo (Some most) n = n ≤ most

-- a shared chain whose session has just begun, with no call
pub record HasBegun {S T : Type 0} (disk : S → Disk) (s : Shared (Chain S Ledger T)) : Type 0 where
  pub sound : IsSound (session_of disk s.first)
  pub fresh : s ≡ record { chain = s.first; first = s.first; full = None; broke = None; fault = None; copied = s.copied; finished = false }
  pub empty : s.first.recorder ≡ []
  pub whole : s.first.broken ≡ None
  pub none : s.first.events ≡ 0

-- Threads shared it, and all seats were joined: what guests were told is what stands in its history, or what broke the session. No turn was
-- refused, and few events there were; so many reads failed by a reader.
pub record WasShared {S T : Type 0} (disk : S → Disk) (merges : Bool) (old : Shared (Chain S Ledger T)) (asking : Asking) (new : Shared (Chain S Ledger T)) (guests : List (List Outcome)) (unread : ℕ) : Type 0 where
  pub lock : TableId
  pub seat : Known Step (Basis S T)
  pub joined : AreJoined disk old.first merges lock asking seat guests
  pub count : length guests ≡ asking.count
  -- of stripes that workers couldn't fetch
  pub unfetched : ℕ
  pub none_fetched : merges ≡ false → unfetched ≡ 0
  pub unread_is : unread ≡ length (all_unread guests) + unfetched
  pub history : steps_of new.chain.recorder new.broke ≡ seat.seen
  pub basis : Contains (basis_of disk new) seat.basis
  pub places : (p : ℕ) → times p seat.mine ≡ once_between p 1 (length seat.seen + 1)
  pub refusals : seat.refusals ≡ 0
  pub few : new.chain.events ≤ 2 ^ 60

-- A script's guests shared it so, and what they were told is kept, with what it comes to; or memory ran out before a call was made.
pub data IsShared {S T : Type 0} (disk : S → Disk) (merges : Bool) (old : Shared (Chain S Ledger T)) (names : List (List ℕ)) (lines : List Line) (new : Shared (Chain S Ledger T)) (told : List (List ToldCall)) (short : Bool) (unread : ℕ) (tally : Tally) : Type 0 where
  was_shared : (guests : List (List Outcome)) → WasShared disk merges old (asked_by lines) new guests unread → AreKept names lines told short guests → AddsUp tally (all_outcomes guests) → IsShared disk merges old names lines new told short unread tally
  no_memory : new ≡ old → short ≡ true → told ≡ [] → unread ≡ 0 → tally ≡ no_tally → IsShared disk merges old names lines new told short unread tally

-- a merge was finished, or that was stopped; where there is none nothing was done
abbrev pub EndsAs : {S T : Type 0} → (S → Disk) → Bool → Shared (Chain S Ledger T) → Shared (Chain S Ledger T) → Result (Unit {0}) ChainRefusal → Type 0
EndsAs disk true old new merged = IsMerged disk old new merged
EndsAs disk false old new merged = (new ≡ old) × (merged ≡ Ok tt)

-- what stops the end of a merge for want of room is near the greatest place that a block may have, and noted
abbrev pub IsNearEnd : {S T : Type 0} → (S → Disk) → Chain S Ledger T → Option ℕ → ChainRefusal → Type 0
IsNearEnd disk first full (refusals.FileFull next) = IsUpTo full next × WhereTold (disk first.store).told (λ trace. (from : State) → IsServing first.layers from trace → from.history ≡ [] → 2 ^ 43 < next + 1024)
IsNearEnd disk first full other = ⊤

-- Guests were served over a chain whose session had begun with no call, beside a merge if there is one, and then it ended. What they were told is one
-- history's. What was told of faults the store counts, but for the reads that failed by a reader of one of its files, which are so many; what was
-- told of a full file is noted; each moment since the session began leaves what the history says; the sectors that are open for the call that broke
-- the session are among those that it names. At the end a merge is under way, or none is: none if it was finished, and where the end of the session
-- didn't fail it is under way if that was stopped.
pub record HasServed {S T : Type 0} (disk : S → Disk) (merges : Bool) (first : Chain S Ledger T) (asking : Asking) (guests : List (List Outcome)) (history : History) (end : Ending) (merged : Result (Unit {0}) ChainRefusal) (after : Disk) : Type 0 where
  pub broken : Option Break
  pub breach : Option Breach
  pub opens : (s : ℕ) → open_by broken s ≡ false → opens_by breach s ≡ false
  pub count : length guests ≡ asking.count
  pub served : WhereTold (disk first.store).told (λ trace. (from : State) → IsServing first.layers from trace → from.history ≡ [] → AreServed merges (drive_from first from) asking guests history (failed_by end.closed) broken)
  pub counted : EndsCounted (disk first.store) after end.fault end.closed
  pub faults : FaultsAreTold (all_told guests) (failed_by end.closed) (disk first.store).files (disk first.store).failed_changes after.failed_reads after.failed_changes
  pub unread : AllByRecursion (λ fault. fault.file < (disk first.store).files) (all_unread guests)
  pub unfetched : ℕ
  pub none_fetched : merges ≡ false → unfetched ≡ 0
  pub unread_is : end.unread ≡ length (all_unread guests) + unfetched
  pub full : Option ℕ
  pub ends : AllByRecursion (IsEndTold (IsUpTo full)) (all_told guests)
  pub under_way : Bool
  pub leaves : LeavesHistory (session_of disk first) history full breach under_way end.closed after
  pub finished : merges ≡ true → OnOk merged (under_way ≡ false)
  pub kept : merges ≡ true → IfErr merged (λ x. OnOk end.closed (under_way ≡ true))
  pub stopped : IfErr merged (StopsMerge end)
  pub near : IfErr merged (IsNearEnd disk first full)

-- the guests of a script were served so
pub record HasServedScript {S T : Type 0} (disk : S → Disk) (merges : Bool) (first : Chain S Ledger T) (names : List (List ℕ)) (lines : List Line) (run : MergeRun) (after : Disk) : Type 0 where
  pub guests : List (List Outcome)
  pub history : History
  pub served : HasServed disk merges first (asked_by lines) guests history (ending_of run.run run.unread) run.merged after
  pub written : IsWritten names lines guests history run.run run.tally
