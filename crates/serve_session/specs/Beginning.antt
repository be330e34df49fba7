-- A chain that threads may share.
use Rattle.std.specs.Prelude.{◌≡◌, ◌+◌, ℕ, Bool, true, false, All, List, [], length, replicate, Option, Result, Ok, Err, IfOk}
use Rattle.store_model.specs.Disk.{Disk}
use Rattle.store_model.specs.declared.fault.StoreFault.{StoreFault}
use Rattle.guest_model.specs.History.{History}
use Rattle.guest_model.specs.declared.refusal.ChainRefusal.{ChainRefusal}
use Rattle.guest_model.specs.declared.refusal.ChainRefusal.TheVariants.{NoRoom}
use Rattle.ledger.specs.declared.ledger.Ledger.{Ledger}
use Rattle.chain_core.specs.declared.chain.Chain.{Chain}
use Rattle.script.specs.declared.form.Line.{Line}
use Rattle.serve_session.specs.Endings.{Ending, ending_of}
use Rattle.serve_session.specs.Sealing.{IsSetFor}
use Rattle.serve_session.specs.Served.{Asking, Outcome, asked_by}
use Rattle.serve_session.specs.Serving.{HasBegun, HasServed}
use Rattle.serve_session.specs.Tallies.{no_tally}
use Rattle.serve_session.specs.Tools.{AreToolsFor}
use Rattle.serve_session.specs.Written.{IsWritten}
use Rattle.serve_session.specs.declared.beginning.Begun.{Begun}
use Rattle.serve_session.specs.declared.merging.MergeRun.{MergeRun}
use Rattle.serve_session.specs.declared.sealing.Unserved.{Unserved}

-- Its session has begun, with no call; so many guests and so many workers of a merge have a set of readers each, of which none has failed; and each worker
-- has its tools.
pub record CanBeShared {S T : Type 0} (disk : S → Disk) (guests workers : ℕ) (begun : Begun S T) : Type 0 where
  pub fresh : HasBegun disk begun.chain
  pub count : length begun.sets ≡ guests + workers
  pub sets : All (IsSetFor disk begun.chain.first) begun.sets
  pub hands : length begun.tools.items ≡ workers
  pub tools : All (AreToolsFor disk begun.chain.first) begun.tools.items

-- ---- what a run of guests comes to

-- Guests were asked this and told that, the history and the end of the session, whether its merge was finished, and the store behind it: whether a
-- run may be so.
abbrev pub GuestRun : Type 1
GuestRun = Asking → List (List Outcome) → History → Ending → Result (Unit {0}) ChainRefusal → Disk → Type 0

-- the end of a session that ended before a guest was served, as memory ran out, or as a read failed, by this fault
abbrev pub unserved_end : Option StoreFault → Result (Unit {0}) StoreFault → Ending
unserved_end met closed = record { fault = met; closed = closed; unread = 0; short = true }

module _ {S T : Type 0} (disk : S → Disk) where
  -- Whatever guests of a session that began with this chain ask and are told, its run is so.
  abbrev pub RunsAs : Bool → Chain S Ledger T → GuestRun → Type 0
  RunsAs merges first run =
      (asking : Asking) (guests : List (List Outcome)) (history : History) (end : Ending) (merged : Result (Unit {0}) ChainRefusal) (after : Disk)
      → HasServed disk merges first asking guests history end merged after → run asking guests history end merged after

  -- A session that started is ready for so many guests and workers, and its run is so once they are served; or it ended before, and its run is so with
  -- guests who were told nothing.
  abbrev pub Begins : Bool → ℕ → ℕ → GuestRun → Result (Begun S T) (Unserved S T) → Type 0
  Begins merges guests workers run (Ok begun) = CanBeShared disk guests workers begun × RunsAs merges begun.chain.first run
  Begins merges guests workers run (Err left) = (asking : Asking) → run asking (replicate asking.count []) [] (unserved_end left.met left.closed) (Err NoRoom) (disk left.store)

-- whether a merge is finished of which nothing was done, if there is one: memory ran out for it
abbrev pub undone : Bool → Result (Unit {0}) ChainRefusal
undone true = Err NoRoom
undone false = Ok tt

-- What is told of a script's run where its session ended before a guest was served.
pub record IsUnsaid (merges : Bool) (failed : Option StoreFault) (ended : Result (Unit {0}) StoreFault) (run : MergeRun) : Type 0 where
  pub transcript : IfOk run.run.transcript (λ text. ⊥)
  pub fault : run.run.fault ≡ failed
  pub unread : run.unread ≡ 0
  pub tally : run.tally ≡ no_tally
  pub closed : run.run.closed ≡ ended
  pub merged : run.merged ≡ undone merges

-- The guests of a script were served so, and its run is written as they were told.
pub record IsScriptRun (run : GuestRun) (names : List (List ℕ)) (lines : List Line) (given : MergeRun) (after : Disk) : Type 0 where
  pub guests : List (List Outcome)
  pub history : History
  pub ran : run (asked_by lines) guests history (ending_of given.run given.unread) given.merged after
  pub written : IsWritten names lines guests history given.run given.tally
