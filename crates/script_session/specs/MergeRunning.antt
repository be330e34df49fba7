-- What a script's session that starts with a merge does to the files of a chain, from its start to its end.
use Rattle.std.specs.Prelude.{◌≡◌, ◌≢◌, ◌++◌, ◌∷◌, ℕ, Bool, true, false, List, [], map, take, Option, None, Some, Result, IfErr, IfOk, IfSome, OnOk, string_bytes}
use Rattle.std.specs.List.{AllByRecursion}
use Rattle.store_model.specs.Disk.{Disk, WhereBothTold}
use Rattle.store_model.specs.File.{is_synced, seen}
use Rattle.layer_session.specs.Unnamed.{NamesNoLog}
use Rattle.store_model.specs.Trace.{Trace, file_of}
use Rattle.store_model.specs.declared.fault.StoreFault.{StoreFault}
use Rattle.guest_model.specs.History.{History}
use Rattle.chain_model.specs.Moments.{EachOpens, EachOpensToPrefix}
use Rattle.link_rules.specs.declared.linked.LinkedFile.{LinkedFile}
use Rattle.merge_plan.specs.Merging.{MergeFiles}
use Rattle.merge_plan.specs.LeafMerging.{LeafFiles}
use Rattle.merge_plan.specs.declared.leaf.LeafMerge.{LeafMerge}
use Rattle.merge_plan.specs.declared.merge.Merge.{Merge}
use Rattle.vx_base.specs.declared.parts.Geometry.{Geometry}
use Rattle.chain_core.specs.Answering.{EachLinks}
use Rattle.chain_core.specs.LeafStarting.{PlansLeafMerge, is_first_two, leaf_chain}
use Rattle.chain_core.specs.MergeStarting.{PlansMerge, chain_files, is_changed, leaf_of}
use Rattle.chain_core.specs.Starting.{opening_disk, way_to}
use Rattle.script.specs.declared.form.Line.{Line}
use Rattle.script_session.specs.Faults.{Counts, FaultsAreTold}
use Rattle.script_session.specs.Histories.{AreTold, Break, Course, Drive, IsEndTold, IsSoLong, copying, disk_after, no_merge}
use Rattle.script_session.specs.Running.{open_by, open_last}
use Rattle.script_session.specs.Told.{HasMemory, Told, failed_by, last_fault, sector_size, transcript}
use Rattle.script_session.specs.declared.session.ScriptRun.{ScriptRun}
use Rattle.chain_model.specs.Members.{Way}

-- What a script's session that starts with a merge runs over: where the leaf's name leads, the source being what may be dropped; the files
-- of a chain, of a disk of this geometry; those that it changes; the names that stay once the merge is finished, the leaf's own leading to
-- them; and whether the leaf is the source.
pub record Scope : Type 0 where
  pub leaf : Way
  pub geometry : Geometry
  pub files : List LinkedFile
  pub changes : ℕ → Bool
  pub staying : List (List ℕ)
  pub of_leaf : Bool

-- the disk of the files as they were attached
abbrev pub drive_over : Scope → Trace → Drive
drive_over scope trace = record { geometry = scope.geometry; can_change = true; opening = opening_disk trace scope.files }

-- a merge that has just started: no stripe is copied, and nothing waits to be put
abbrev pub just_started : Bool → Course
just_started of_leaf = copying of_leaf (λ t. false) None

-- Nothing of the files that are changed is unsynced, none of them names a log, and each image opens to the disk of the history.
pub record IsAtRestOver (scope : Scope) (drive : Drive) (h : History) (now : Trace) : Type 0 where
  pub synced : (number : ℕ) → scope.changes number ≡ true → is_synced (file_of now number) ≡ true
  pub no_log : (number : ℕ) → scope.changes number ≡ true → NamesNoLog (seen (file_of now number))
  pub opens : EachOpens scope.leaf (λ s. false) (disk_after drive h) now

-- What stands behind lines that were told so, over the files of a store: the history of the calls that were done, whatever steps of the
-- merge were done between them. At each moment each image opens from the leaf's name to the disk of a prefix of it, outside the sectors
-- that are open then. No file but those was changed. Once the merge is finished the leaf's name leads to the files that stay, and before that
-- to all.
pub record HasHistoryOver (scope : Scope) (lines : List Line) (told : List Told) (closed : Result (Unit {0}) StoreFault) (trace now : Trace) : Type 0 where
  pub history : History
  pub course : Course
  pub broken : Option Break
  pub told_so : AreTold (drive_over scope trace) 1 [] (just_started scope.of_leaf) None lines told history course broken
  pub moments : EachOpensToPrefix sector_size (opening_disk trace scope.files) history (open_by broken) scope.leaf trace now
  pub last : EachOpens scope.leaf (open_last history broken) (disk_after (drive_over scope trace) history) now
  pub full : AllByRecursion (IsEndTold (IsSoLong scope.changes now)) told
  pub still : (other : ℕ) → scope.changes other ≡ false → file_of now other ≡ file_of trace other
  pub at_rest : OnOk closed (IsAtRestOver scope (drive_over scope trace) history now)
  pub linked : course ≡ no_merge → OnOk closed (EachLinks scope.leaf.name scope.staying now)
  pub stays : course ≢ no_merge → OnOk closed (EachLinks scope.leaf.name (map (λ (f : LinkedFile). f.name) scope.files) now)

-- ---- of a file that stands between leaf and base

-- the names of the files of the chain without the source
abbrev pub names_without : MergeFiles → List (List ℕ)
names_without m = map (λ (f : LinkedFile). f.name) (m.above ++ m.child ∷ m.target ∷ m.below)

-- leaf, child, source and target are changed
abbrev pub scope_of : MergeFiles → Scope
scope_of m = record { leaf = way_to (leaf_of m) (chain_files m) (Some m.source.name); geometry = (leaf_of m).parts.geometry; files = chain_files m; changes = is_changed m; staying = names_without m; of_leaf = false }

abbrev pub drive_of_merge : MergeFiles → Trace → Drive
drive_of_merge m trace = drive_over (scope_of m) trace

abbrev pub MergeIsAtRest : MergeFiles → Drive → History → Trace → Type 0
MergeIsAtRest m drive h now = IsAtRestOver (scope_of m) drive h now

abbrev pub HasMergeHistory : MergeFiles → List Line → List Told → Result (Unit {0}) StoreFault → Trace → Trace → Type 0
HasMergeHistory m lines told closed trace now = HasHistoryOver (scope_of m) lines told closed trace now

-- A script's session started with the merge of the file of this name, ran and ended: lines were told so, all of them where there is a
-- transcript.
pub record HasRunMerge (files : List LinkedFile) (name : List ℕ) (names : List (List ℕ)) (lines : List Line) (run : ScriptRun) (old new : Disk) (before now : Option (List (List ℕ))) : Type 0 where
  pub m : MergeFiles
  pub merge : Merge
  pub planned : PlansMerge files name old before now m merge
  pub many : ℕ
  pub told : List Told
  pub whole : IfOk run.transcript (λ text. (take many lines ≡ lines) × (string_bytes text ≡ transcript names lines told) × AllByRecursion HasMemory told)
  pub fault_is : run.fault ≡ last_fault told
  -- the store counts the last fault that refused a line, and the one by which the end failed; with neither the counts stay
  pub counted : IfSome run.fault (Counts new)
  pub ended : IfErr run.closed (Counts new)
  pub quiet : run.fault ≡ None → OnOk run.closed (new ≡ record old { told = new.told })
  pub faults : FaultsAreTold told (failed_by run.closed) old.files old.failed_changes new.failed_reads new.failed_changes
  pub history : WhereBothTold (HasMergeHistory m (take many lines) told run.closed) old.told new.told

-- ---- of the leaf

-- leaf and target are changed; the leaf's name leads to the target once the merge is finished
abbrev pub leaf_scope_of : LeafFiles → Scope
leaf_scope_of m = record {
  leaf = way_to m.source (leaf_chain m) (Some m.source.name);
  geometry = m.source.parts.geometry;
  files = leaf_chain m;
  changes = is_first_two;
  staying = map (λ (f : LinkedFile). f.name) (m.target ∷ m.below);
  of_leaf = true;
}

abbrev pub HasLeafHistory : LeafFiles → List Line → List Told → Result (Unit {0}) StoreFault → Trace → Trace → Type 0
HasLeafHistory m lines told closed trace now = HasHistoryOver (leaf_scope_of m) lines told closed trace now

-- A script's session started with the merge of the leaf, ran and ended: lines were told so, all of them where there is a transcript.
pub record HasRunLeafMerge (files : List LinkedFile) (names : List (List ℕ)) (lines : List Line) (run : ScriptRun) (old new : Disk) (before now : Option (List (List ℕ))) : Type 0 where
  pub m : LeafFiles
  pub merge : LeafMerge
  pub planned : PlansLeafMerge files old before now m merge
  pub many : ℕ
  pub told : List Told
  pub whole : IfOk run.transcript (λ text. (take many lines ≡ lines) × (string_bytes text ≡ transcript names lines told) × AllByRecursion HasMemory told)
  pub fault_is : run.fault ≡ last_fault told
  pub counted : IfSome run.fault (Counts new)
  pub ended : IfErr run.closed (Counts new)
  pub quiet : run.fault ≡ None → OnOk run.closed (new ≡ record old { told = new.told })
  pub faults : FaultsAreTold told (failed_by run.closed) old.files old.failed_changes new.failed_reads new.failed_changes
  pub history : WhereBothTold (HasLeafHistory m (take many lines) told run.closed) old.told new.told
