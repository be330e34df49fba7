-- What a session with several guests, in which a merge runs beside them, does to the files of a chain, from its start to its end.
use Rattle.std.specs.Prelude.{◌≡◌, ◌+◌, ◌^◌, ◌<◌, ⊤, ℕ, Bool, true, false, List, map, length, Option, None, Result, IfErr, IfSome, OnOk}
use Rattle.std.specs.List.{AllByRecursion}
use Rattle.store_model.specs.Disk.{Disk, WhereBothTold}
use Rattle.store_model.specs.Trace.{Trace, file_of}
use Rattle.store_model.specs.declared.fault.StoreFault.{StoreFault}
use Rattle.guest_model.specs.declared.refusal.ChainRefusal.{ChainRefusal}
use Rattle.guest_model.specs.declared.refusal.ChainRefusal.TheVariants as refusals
use Rattle.guest_model.specs.History.{History}
use Rattle.chain_model.specs.Moments.{EachOpens, EachOpensToPrefix}
use Rattle.link_rules.specs.declared.linked.LinkedFile.{LinkedFile}
use Rattle.merge_plan.specs.LeafMerging.{LeafFiles}
use Rattle.merge_plan.specs.Merging.{MergeFiles}
use Rattle.merge_plan.specs.declared.leaf.LeafMerge.{LeafMerge}
use Rattle.merge_plan.specs.declared.merge.Merge.{Merge}
use Rattle.chain_core.specs.Answering.{EachLinks}
use Rattle.chain_core.specs.LeafStarting.{PlansLeafMerge}
use Rattle.chain_core.specs.MergeStarting.{PlansMerge}
use Rattle.chain_core.specs.Sealed.{IsKept}
use Rattle.chain_core.specs.Starting.{opening_disk}
use Rattle.script_session.specs.Faults.{Counts, FaultsAreTold}
use Rattle.script_session.specs.Histories.{Break, IsEndTold, IsSoLong, disk_after}
use Rattle.script_session.specs.MergeRunning.{IsAtRestOver, Scope, drive_over, leaf_scope_of, scope_of}
use Rattle.script_session.specs.Running.{open_by, open_last}
use Rattle.script_session.specs.Told.{failed_by, sector_size}
use Rattle.serve_session.specs.Endings.{Ending, StopsMerge}
use Rattle.serve_session.specs.Served.{AreServed, Asking, Outcome, all_told, all_unread}

-- Where a merge isn't finished at the end for want of room, a file that may be changed is so long, within 1,024 MB of the greatest place that a
-- block may have.
abbrev pub IsStopTold : (ℕ → Bool) → Trace → ChainRefusal → Type 0
IsStopTold may now (refusals.FileFull next) = (2 ^ 43 < next + 1024) × IsSoLong may now next
IsStopTold may now other = ⊤

-- What stands behind guests that were told so, over the files of a store, whatever of the merge was done between their calls. At each moment
-- each image opens from the leaf's name to the disk of a prefix of the history, outside the sectors that are open then, and at the end to that
-- of all. No file but those was changed, though one that is only read may have been sealed. Where the merge was finished the leaf's name leads to the files that stay, and where it was stopped to all.
pub record HasServedOver (scope : Scope) (asking : Asking) (guests : List (List Outcome)) (history : History) (broken : Option Break) (merged : Result (Unit {0}) ChainRefusal) (closed : Result (Unit {0}) StoreFault) (trace now : Trace) : Type 0 where
  pub served : AreServed true (drive_over scope trace) asking guests history (failed_by closed) broken
  pub moments : EachOpensToPrefix sector_size (opening_disk trace scope.files) history (open_by broken) scope.leaf trace now
  pub last : EachOpens scope.leaf (open_last history broken) (disk_after (drive_over scope trace) history) now
  pub full : AllByRecursion (IsEndTold (IsSoLong scope.changes now)) (all_told guests)
  pub still : (other : ℕ) → scope.changes other ≡ false → IsKept (file_of trace other) (file_of now other)
  pub at_rest : OnOk closed (IsAtRestOver scope (drive_over scope trace) history now)
  pub linked : OnOk merged (OnOk closed (EachLinks scope.leaf.name scope.staying now))
  pub stays : IfErr merged (λ x. OnOk closed (EachLinks scope.leaf.name (map (λ (f : LinkedFile). f.name) scope.files) now))
  pub stopped : IfErr merged (IsStopTold scope.changes now)

-- Guests were served over these files, and the session ended: what they were told is one history's. What was told of faults the store counts, but
-- for the reads that failed by a reader of one of its files, which are so many.
pub record HasServedWith (scope : Scope) (asking : Asking) (guests : List (List Outcome)) (history : History) (end : Ending) (merged : Result (Unit {0}) ChainRefusal) (old new : Disk) : Type 0 where
  pub broken : Option Break
  pub count : length guests ≡ asking.count
  -- the store counts the last fault that refused a call or a step of the merge, and the one by which the end failed; with neither the counts
  -- stay
  pub counted : IfSome end.fault (Counts new)
  pub ended : IfErr end.closed (Counts new)
  pub quiet : end.fault ≡ None → OnOk end.closed (new ≡ record old { told = new.told })
  pub faults : FaultsAreTold (all_told guests) (failed_by end.closed) old.files old.failed_changes new.failed_reads new.failed_changes
  pub unread : AllByRecursion (λ fault. fault.file < old.files) (all_unread guests)
  -- and so many of stripes that workers couldn't fetch
  pub unfetched : ℕ
  pub unread_is : end.unread ≡ length (all_unread guests) + unfetched
  pub stopped : IfErr merged (StopsMerge end)
  pub served : WhereBothTold (HasServedOver scope asking guests history broken merged end.closed) old.told new.told

-- A session started with the merge of the file of this name, its guests were served beside the merge, and it ended.
pub record HasRunMerge (files : List LinkedFile) (name : List ℕ) (asking : Asking) (guests : List (List Outcome)) (history : History) (end : Ending) (merged : Result (Unit {0}) ChainRefusal) (old new : Disk) (before now : Option (List (List ℕ))) : Type 0 where
  pub m : MergeFiles
  pub merge : Merge
  pub planned : PlansMerge files name old before now m merge
  pub serves : HasServedWith (scope_of m) asking guests history end merged old new

-- and with the merge of the leaf
pub record HasRunLeafMerge (files : List LinkedFile) (asking : Asking) (guests : List (List Outcome)) (history : History) (end : Ending) (merged : Result (Unit {0}) ChainRefusal) (old new : Disk) (before now : Option (List (List ℕ))) : Type 0 where
  pub m : LeafFiles
  pub merge : LeafMerge
  pub planned : PlansLeafMerge files old before now m merge
  pub serves : HasServedWith (leaf_scope_of m) asking guests history end merged old new
