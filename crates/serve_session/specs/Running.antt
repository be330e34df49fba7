-- What a session with several guests does to the files of a chain, from its start to its end.
use Rattle.std.specs.Prelude.{◌≡◌, ◌≢◌, ◌==◌, ◌<◌, ⊤, ℕ, false, List, [], ◌∷◌, length, Option, None, Result, IfErr, IfSome, OnOk}
use Rattle.std.specs.List.{AllByRecursion}
use Rattle.store_model.specs.Disk.{Disk, WhereBothTold}
use Rattle.store_model.specs.Trace.{Trace, file_of}
use Rattle.store_model.specs.declared.fault.StoreFault.{StoreFault}
use Rattle.guest_model.specs.History.{History}
use Rattle.chain_model.specs.Moments.{EachOpens, EachOpensToPrefix}
use Rattle.link_rules.specs.declared.linked.LinkedFile.{LinkedFile}
use Rattle.chain_core.specs.Sealed.{IsKept}
use Rattle.chain_core.specs.Starting.{opening_disk, way_to}
use Rattle.chain_core.specs.declared.starting.Mode.TheVariants.{Guests}
use Rattle.script_session.specs.Faults.{Counts, FaultsAreTold}
use Rattle.script_session.specs.Histories.{Break, IsEndTold, IsSoLong, disk_after}
use Rattle.script_session.specs.Running.{DrawsFor, IsAtRest, drive_of, open_by, open_last}
use Rattle.script_session.specs.Told.{failed_by, sector_size}
use Rattle.serve_session.specs.Endings.{Ending}
use Rattle.serve_session.specs.Served.{AreServed, Asking, Outcome, all_told, all_unread}

-- What stands behind guests that were told so, over the files of a store. At each moment each image opens from the leaf's name to the disk of
-- a prefix of the history, outside the sectors that are open then, and at the end to that of all. Where a call is told that the leaf is full,
-- it is so long. No file but the leaf was changed, though one that is only read may have been sealed.
pub record HasServedFiles (leaf : LinkedFile) (others : List LinkedFile) (asking : Asking) (guests : List (List Outcome)) (history : History) (broken : Option Break) (closed : Result (Unit {0}) StoreFault) (trace now : Trace) : Type 0 where
  pub served : AreServed false (drive_of Guests leaf others trace) asking guests history (failed_by closed) broken
  pub moments : EachOpensToPrefix sector_size (opening_disk trace (leaf ∷ others)) history (open_by broken) (way_to leaf (leaf ∷ others) None) trace now
  pub last : EachOpens (way_to leaf (leaf ∷ others) None) (open_last history broken) (disk_after (drive_of Guests leaf others trace) history) now
  pub full : AllByRecursion (IsEndTold (IsSoLong (λ n. n == 0) now)) (all_told guests)
  pub still : (other : ℕ) → other ≢ 0 → IsKept (file_of trace other) (file_of now other)
  pub at_rest : OnOk closed (IsAtRest (way_to leaf (leaf ∷ others) None) (drive_of Guests leaf others trace) history now)

abbrev pub HaveServed : List LinkedFile → Asking → List (List Outcome) → History → Option Break → Result (Unit {0}) StoreFault → Trace → Trace → Type 0
HaveServed [] asking guests history broken closed trace now = ⊤
HaveServed (leaf ∷ others) asking guests history broken closed trace now = HasServedFiles leaf others asking guests history broken closed trace now

-- A session started, its guests were served, and it ended: what guests were told is one history's. What was told of faults the store counts, but
-- for the reads that failed by a reader of one of its files, which are so many.
pub record HasRunGuests (files : List LinkedFile) (asking : Asking) (guests : List (List Outcome)) (history : History) (end : Ending) (old new : Disk) (before now : Option (List (List ℕ))) : Type 0 where
  pub broken : Option Break
  pub count : length guests ≡ asking.count
  pub drawn : DrawsFor Guests files old before now
  -- the store counts the last fault that refused a call, and the one by which the end failed; with neither the counts stay
  pub counted : IfSome end.fault (Counts new)
  pub ended : IfErr end.closed (Counts new)
  pub quiet : end.fault ≡ None → OnOk end.closed (new ≡ record old { told = new.told })
  pub faults : FaultsAreTold (all_told guests) (failed_by end.closed) old.files old.failed_changes new.failed_reads new.failed_changes
  pub unread : AllByRecursion (λ fault. fault.file < old.files) (all_unread guests)
  pub unread_is : end.unread ≡ length (all_unread guests)
  pub served : WhereBothTold (HaveServed files asking guests history broken end.closed) old.told new.told
