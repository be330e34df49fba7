-- What the functions of `steps` say of themselves; what a run promises doesn't rest on these.
use Rattle.std.specs.Prelude.{◌≡◌, ◌≢◌, ◌⊎◌, ⊤, ◌<◌, ◌≤◌, ◌+◌, ℕ, All, length, Bool, true, false, List, [], ◌∷◌, ◌++◌, take, codes, Option, Some, None, Result, Ok, Err, IfErr, IfOk, IfSome, OnOk, String, string_bytes, slice_index_or}
use Rattle.std.specs.List.{AllByRecursion}
use Rattle.file_open.specs.Causes.{Meaning, refuses, host_failed, store_failed, no_memory}
use Rattle.store_model.specs.Cause.{Rose}
use Rattle.store_model.specs.Disk.{Disk, WhereBothTold, WhereTold}
use Rattle.store_model.specs.File.{is_sealed, is_synced, seen}
use Rattle.store_model.specs.Folder.{Held, Hosted}
use Rattle.store_model.specs.Moments.{LastReturnedCounts, Throughout}
use Rattle.store_model.specs.Trace.{Trace, file_of}
use Rattle.store_model.specs.declared.fault.SealFault.{SealFault}
use Rattle.store_model.specs.declared.fault.SealFault.TheVariants as seal
use Rattle.store_model.specs.declared.fault.StoreFault.{StoreFault}
use Rattle.vhdx_format.specs.Fields.{sector_size}
use Rattle.vx_base.specs.declared.NoRoom.{NoRoom}
use Rattle.guest_model.specs.Calls.{Disk as GuestDisk}
use Rattle.guest_model.specs.History.{History, replay}
use Rattle.guest_model.specs.declared.refusal.ChainRefusal.TheVariants as calls
use Rattle.chain_model.specs.Files.{Files, HasParts, IsLinked, IsWhole, OpensTo, at_rest}
use Rattle.chain_model.specs.Images.{name_of}
use Rattle.chain_model.specs.Members.{Member, NoneTwice}
use Rattle.chain_model.specs.Members as model
use Rattle.chain_model.specs.PhaseLaws.{IsNamedOnce}
use Rattle.link_rules.specs.Causes.{AnswersLinking}
use Rattle.link_rules.specs.Chains.{Links, most_files, names_of}
use Rattle.link_rules.specs.Effects.{HasReplayed, IsServed, LeavesBy, StaysIdle, linked_names}
use Rattle.link_rules.specs.Causes as link
use Rattle.link_rules.specs.Folders.{AllIdle, ReturnsHealthy, contents}
use Rattle.link_rules.specs.Laws.{IsTheChain}
use Rattle.link_rules.specs.Lines.{IsLine, IsLinkedUp}
use Rattle.link_rules.specs.Touches.{IsOnWay, TouchesSafely}
use Rattle.link_rules.specs.declared.linked.Linked.{Linked}
use Rattle.link_rules.specs.declared.linked.LinkedFile.{LinkedFile}
use Rattle.link_rules.specs.declared.refusal.LinkRefusal.{LinkRefusal}
use Rattle.merge_plan.specs.Attached.{BeginsInUse}
use Rattle.merge_plan.specs.LeafMerging.{LeafFiles}
use Rattle.merge_plan.specs.LeafPlanning.{IsLeafBegun, IsLinkShort, IsLinkTooLong}
use Rattle.merge_plan.specs.Merging.{HasLast, HasNone, MergeFiles}
use Rattle.merge_plan.specs.Planning.{AreShort, IsBegun, IsTooLong}
use Rattle.merge_plan.specs.declared.drawing.MergeIds.{MergeIds}
use Rattle.merge_plan.specs.declared.leaf_drawing.LeafMergeIds.{LeafMergeIds}
use Rattle.merge_plan.specs.declared.refusal.PrepareRefusal.{PrepareRefusal}
use Rattle.merge_plan.specs.declared.refusal.PrepareRefusal.TheVariants as plan
use Rattle.chain_core.specs.LeafStarting.{RefusesLeafMerge, spent_leaf}
use Rattle.chain_core.specs.MergeStarting.{RefusesMerge, spent}
use Rattle.chain_core.specs.declared.merge_start.MergeStartRefusal.{MergeStartRefusal}
use Rattle.chain_core.specs.declared.merge_start.MergeStartRefusal.TheVariants as merge_start
use Rattle.chain_core.specs.Starting.{BeginsHigh, BeginsLow, EachOpensAlike, JudgesIds}
use Rattle.chain_core.specs.declared.starting.Mode.{Mode}
use Rattle.chain_core.specs.declared.starting.Mode.TheVariants.{Guests, ReadOnly}
use Rattle.merge_plan.specs.declared.drawing.NewIds.{NewIds}
use Rattle.chain_core.specs.declared.starting.StartRefusal.{StartRefusal}
use Rattle.chain_core.specs.declared.starting.StartRefusal.TheVariants as start
use Rattle.script.specs.declared.form.Line.{Line}
use Rattle.script.specs.declared.refusal.SourceRefusal.{SourceRefusal}
use Rattle.script.specs.declared.refusal.SourceRefusal.TheVariants as source
use Rattle.script_session.specs.Faults.{Counts, FaultsAreTold}
use Rattle.script_session.specs.Histories.{AreTold, Break, Course, IsEndTold, no_merge}
use Rattle.script_session.specs.MergeRunning.{HasRunLeafMerge, HasRunMerge}
use Rattle.script_session.specs.Running.{HasRunScript, open_by, open_last}
use Rattle.script_session.specs.Told.{HasMemory, Told, failed_by, last_fault, transcript}
use Rattle.script_session.specs.declared.session.ScriptRun.{ScriptRun}
use Rattle.printing.specs.Answers.{fault_line}
use Rattle.command_base.specs.Causes.{LeavesStoreBy, meaning_of_chain}
use Rattle.command_base.specs.Commands.{AreOpened, Reports}
use Rattle.steps_command.specs.Crashes.{AreSpared, EachImageOpens, HasLong, NoneNamesLog, OpensToFirst}
use Rattle.command_base.specs.Folders.{AllHome, LastReturned, LeadsTo, files_of}
use Rattle.printing.specs.Sent.{Sent}
use Rattle.command_base.specs.Refusals.{Refusal}
use Rattle.command_base.specs.Refusals as refusals
use Rattle.steps_command.specs.Starts.{DrawsFor, IsFullIn, IsLeafFullIn, JudgesDrawn, JudgesLeafMerge, JudgesMerge, changed_names, is_leaf}
use Rattle.steps_command.specs.Steps.{IsDropped, begun_course, broken_line, drive_over, way_by}
use Rattle.command_base.specs.declared.refusal.ChainRefusal.{ChainRefusal}
use Rattle.command_base.specs.declared.refusal.ChainRefusal.TheVariants as chain
use Rattle.steps_command.specs.declared.refusal.StepsRefusal.{StepsRefusal}
use Rattle.steps_command.specs.declared.refusal.StepsRefusal.TheVariants as steps
use Rattle.printing.specs.declared.status.Status.{Status}
use Rattle.printing.specs.declared.status.Status.TheVariants.{Done, Usage, Fault, NoMemory}

abbrev pub mode_of : Bool → Mode
mode_of true = ReadOnly
mode_of false = Guests

abbrev pub is_reading : Mode → Bool
is_reading Guests = false
is_reading ReadOnly = true

-- files that are only read aren't merged
abbrev pub CanMerge : Mode → Option (List ℕ) → Type 0
CanMerge Guests merge = ⊤
CanMerge ReadOnly None = ⊤
CanMerge ReadOnly (Some name) = ⊥

abbrev pub IsBarredMerge : Mode → Option (List ℕ) → Type 0
IsBarredMerge Guests merge = ⊥
IsBarredMerge ReadOnly None = ⊥
IsBarredMerge ReadOnly (Some name) = ⊤

-- what it says that a script wasn't run
abbrev pub meaning_of_steps : StepsRefusal → Meaning Refusal
meaning_of_steps (steps.Chain refusal) = meaning_of_chain refusal
meaning_of_steps (steps.Spent number) = refuses (refusals.OfCall (calls.Spent number))
meaning_of_steps (steps.IdUnfit id) = refuses (refusals.IdUnfit id)
meaning_of_steps steps.ReadOnly = refuses (refusals.OfCall calls.ReadOnly)
meaning_of_steps (steps.NotInChain name) = refuses (refusals.NotInChain name)
meaning_of_steps (steps.IsBase name) = refuses (refusals.IsBase name)
meaning_of_steps (steps.LocatorTooLarge len) = refuses (refusals.LocatorTooLarge len)
meaning_of_steps (steps.MetadataFull file) = refuses (refusals.MetadataFull file)

-- why a session doesn't start, as why a script isn't run
abbrev pub of_start : StartRefusal → StepsRefusal
of_start (start.Spent number) = steps.Spent number
of_start (start.IdUnfit id) = steps.IdUnfit id
of_start (start.Store fault) = steps.Chain (chain.Store fault)
of_start start.NoRoom = steps.Chain chain.NoRoom

-- why a merge of the file of this name, in a chain of files of these names, isn't planned, as why a script isn't run; that it is the leaf
-- isn't met
abbrev pub of_plan : List (List ℕ) → List ℕ → PrepareRefusal → StepsRefusal
of_plan names source plan.NotInChain = steps.NotInChain source
of_plan names source plan.IsBase = steps.IsBase source
of_plan names source plan.LeafSource = steps.Chain chain.NoRoom
of_plan names source (plan.LocatorTooLarge len) = steps.LocatorTooLarge len
of_plan names source (plan.MetadataFull file) = steps.MetadataFull (slice_index_or names file [])
of_plan names source (plan.IdUnfit id) = steps.IdUnfit id
of_plan names source (plan.Store fault) = steps.Chain (chain.Store fault)
of_plan names source plan.NoRoom = steps.Chain chain.NoRoom

abbrev pub of_begin : SealFault → StepsRefusal
of_begin (seal.Store fault) = steps.Chain (chain.Store fault)
of_begin seal.NoRoom = steps.Chain chain.NoRoom

-- and why a session with it doesn't start
abbrev pub of_merge_start : List (List ℕ) → List ℕ → MergeStartRefusal → StepsRefusal
of_merge_start names source (merge_start.Spent number) = steps.Spent number
of_merge_start names source (merge_start.Plan refusal) = of_plan names source refusal
of_merge_start names source (merge_start.Begin fault) = of_begin fault

-- it tells the name of a file
abbrev pub PlanNamesFile : PrepareRefusal → Type 0
PlanNamesFile plan.NotInChain = ⊤
PlanNamesFile plan.IsBase = ⊤
PlanNamesFile plan.LeafSource = ⊥
PlanNamesFile (plan.LocatorTooLarge len) = ⊥
PlanNamesFile (plan.MetadataFull file) = ⊤
PlanNamesFile (plan.IdUnfit id) = ⊥
PlanNamesFile (plan.Store fault) = ⊥
PlanNamesFile plan.NoRoom = ⊥

-- It isn't that the file is the leaf, whose merge is planned in another way; and a file of which it tells is one of so many.
abbrev pub PlanHasFile : ℕ → PrepareRefusal → Type 0
PlanHasFile count plan.LeafSource = ⊥
PlanHasFile count (plan.MetadataFull file) = file < count
PlanHasFile count other = ⊤

abbrev pub StartHasFile : ℕ → MergeStartRefusal → Type 0
StartHasFile count (merge_start.Plan refusal) = PlanHasFile count refusal
StartHasFile count other = ⊤

-- so it is told; or memory ran out for a name
pub data IsMergeRefusal (names : List (List ℕ)) (source : List ℕ) : MergeStartRefusal → StepsRefusal → Type 0 where
  is_told : (start : MergeStartRefusal) (refusal : StepsRefusal) → refusal ≡ of_merge_start names source start → IsMergeRefusal names source start refusal
  no_name : (why : PrepareRefusal) (refusal : StepsRefusal) → PlanNamesFile why → refusal ≡ steps.Chain chain.NoRoom → IsMergeRefusal names source (merge_start.Plan why) refusal

-- ---- over a store

-- a store's file is as it was lent, with this name and these numbers
pub record IsLent (trace : Trace) (number : ℕ) (file : LinkedFile) : Type 0 where
  pub name : name_of trace.attached number ≡ file.name
  pub synced : is_synced (file_of trace number) ≡ true
  pub unsealed : is_sealed (file_of trace number) ≡ false
  pub reads : HasParts (at_rest (seen (file_of trace number))) (seen (file_of trace number)) file.parts

abbrev pub AreLentFrom : Trace → ℕ → List LinkedFile → Type 0
AreLentFrom trace number [] = ⊤
AreLentFrom trace number (file ∷ files) = IsLent trace number file × AreLentFrom trace (number + 1) files

-- the store has these files, as they were lent
pub record AreLent (files : List LinkedFile) (trace : Trace) : Type 0 where
  pub all : length files ≡ length trace.attached
  pub once : IsNamedOnce trace
  pub in_use : BeginsInUse files
  pub each : AreLentFrom trace 0 files

-- The files of a chain are lent as this store, and no other is, whether it tells what they hold or not: at most 64 with names that differ,
-- each followed by its parent.
pub record IsLentChain (files : List LinkedFile) (disk : Disk) : Type 0 where
  pub all : disk.files ≡ length files
  pub few : length files ≤ most_files
  pub once : NoneTwice (names_of files)
  pub served : All IsServed files
  pub line : IsLine files
  pub lent : WhereTold disk.told (AreLent files)

-- what a script that wasn't run leaves of the store's counts
abbrev pub LeavesLent : {R : Type 0} → Disk → Disk → Meaning R → Type 0
LeavesLent old new (refuses refusal) = new ≡ old
LeavesLent old new (host_failed fault) = ⊥
LeavesLent old new (store_failed fault) = Counts new fault
LeavesLent old new no_memory = new ≡ old

-- no rule refuses it: a fault, or want of memory
abbrev pub IsNoRule : {R : Type 0} → Meaning R → Type 0
IsNoRule (refuses refusal) = ⊥
IsNoRule (host_failed fault) = ⊤
IsNoRule (store_failed fault) = ⊤
IsNoRule no_memory = ⊤

abbrev pub HasCause : List LinkedFile → Disk → Option (List (List ℕ)) → Option (List (List ℕ)) → StepsRefusal → Type 0
HasCause files disk before now (steps.Chain refusal) = IsNoRule (meaning_of_chain refusal)
HasCause files disk before now (steps.Spent number) = BeginsHigh files number × (now ≡ before)
HasCause files disk before now (steps.IdUnfit id) = BeginsLow files × (ids : NewIds) × JudgesIds files disk before now (Some id) ids
HasCause files disk before now steps.ReadOnly = ⊥
HasCause files disk before now (steps.NotInChain name) = ⊥
HasCause files disk before now (steps.IsBase name) = ⊥
HasCause files disk before now (steps.LocatorTooLarge len) = ⊥
HasCause files disk before now (steps.MetadataFull file) = ⊥

-- A script wasn't run: whatever was changed of the leaf, the files open to the disk that they had.
pub record HasNotRun (mode : Mode) (files : List LinkedFile) (old new : Disk) (before now : Option (List (List ℕ))) (refusal : StepsRefusal) : Type 0 where
  pub left : LeavesLent old new (meaning_of_steps refusal)
  pub cause : HasCause files old before now refusal
  pub kept : (new.told ≡ old.told) ⊎ EachOpensAlike files old.told new.told
  pub still : WhereBothTold (λ trace now. (other : ℕ) → other ≢ 0 → file_of now other ≡ file_of trace other) old.told new.told
  pub reading : is_reading mode ≡ true → (new.told ≡ old.told) × (now ≡ before)

-- why no session started with the merge of the file of this name, which is the leaf, or isn't
abbrev pub RefusesMergeOf : Bool → List LinkedFile → List ℕ → Disk → Disk → Option (List (List ℕ)) → Option (List (List ℕ)) → MergeStartRefusal → Type 0
RefusesMergeOf true files name old new before now start = RefusesLeafMerge files old new before now start
RefusesMergeOf false files name old new before now start = RefusesMerge files name old new before now start

-- A script wasn't run in a session with a merge: the files' lengths weren't read, or the session didn't start.
pub data HasNotMerged (files : List LinkedFile) (name : List ℕ) (old new : Disk) (before now : Option (List (List ℕ))) : StepsRefusal → Type 0 where
  unread : (refusal : ChainRefusal) → LeavesStoreBy old new (meaning_of_chain refusal) → now ≡ before → HasNotMerged files name old new before now (steps.Chain refusal)
  not_started : (start : MergeStartRefusal) (refusal : StepsRefusal) → RefusesMergeOf (is_leaf files name) files name old new before now start → EachOpensAlike files old.told new.told → IsMergeRefusal (names_of files) name start refusal
      → HasNotMerged files name old new before now refusal

-- with a merge of the file of this name, if there is one
abbrev pub HasNotRunWith : Mode → Option (List ℕ) → List LinkedFile → Disk → Disk → Option (List (List ℕ)) → Option (List (List ℕ)) → StepsRefusal → Type 0
HasNotRunWith mode None files old new before now refusal = HasNotRun mode files old new before now refusal
HasNotRunWith mode (Some name) files old new before now refusal = HasNotMerged files name old new before now refusal

-- a script was run in a session with the merge of the file of this name, which is the leaf, or isn't
abbrev pub HasRunMergeOf : Bool → List LinkedFile → List ℕ → List (List ℕ) → List Line → ScriptRun → Disk → Disk → Option (List (List ℕ)) → Option (List (List ℕ)) → Type 0
HasRunMergeOf true files name names lines run old new before now = HasRunLeafMerge files names lines run old new before now
HasRunMergeOf false files name names lines run old new before now = HasRunMerge files name names lines run old new before now

abbrev pub HasRunWith : Mode → Option (List ℕ) → List LinkedFile → List (List ℕ) → List Line → ScriptRun → Disk → Disk → Option (List (List ℕ)) → Option (List (List ℕ)) → Type 0
HasRunWith mode None files names lines run old new before now = HasRunScript mode files names lines run old new before now
HasRunWith mode (Some name) files names lines run old new before now = HasRunMergeOf (is_leaf files name) files name names lines run old new before now

-- ---- over a folder

-- the first of some names
abbrev pub first_of : List (List ℕ) → List ℕ
first_of [] = []
first_of (name ∷ others) = name

-- the name that leads to what was linked
abbrev pub leaf_name : Linked → List ℕ
leaf_name linked = first_of (linked_names linked)

-- the name leads to a chain of files of these names; each of them, and each retired leaf before them, is no shorter than what it settles to
abbrev pub LeadsWhole : Files → List ℕ → List (List ℕ) → Type 0
LeadsWhole files leaf names = (retired chain : List Member) → IsLinked files leaf retired chain → (model.names_of chain ≡ names) × AllByRecursion (IsWhole files) (retired ++ chain)

-- what was linked is the chain of a folder's files, each as opening leaves it
pub record IsChainIn (linked : Linked) (folder : List Held) : Type 0 where
  pub opened : AreOpened (contents folder) linked.files
  pub in_use : BeginsInUse linked.files
  pub chain : IsTheChain (contents folder) (leaf_name linked) linked
  pub whole : LeadsWhole (files_of folder) (leaf_name linked) (names_of linked.files)

-- What was linked is a chain of the host's files, whether it tells them or not, that may be lent: nothing of any file is unsynced; they are
-- at most 64 with names that differ, also from those of the retired leaves before them, each followed by its parent.
pub record IsLinkedChain (linked : Linked) (host : Hosted) : Type 0 where
  pub idle : WhereTold host.folder AllIdle
  pub few : length linked.files ≤ most_files
  pub once : NoneTwice (linked_names linked)
  pub served : All IsServed linked.files
  pub line : IsLine linked.files
  pub chain : WhereTold host.folder (IsChainIn linked)

-- the host's count rose, and the store that came back last counts this fault
pub record IsCounted (old new : Hosted) (fault : StoreFault) : Type 0 where
  pub rose : Rose old.faults new.faults
  pub some : 0 < fault.count
  pub last : WhereTold old.folder (λ folder. LastReturnedCounts fault.count old new)

-- the leaf's name is opened to this disk
abbrev pub OpensIn : Linked → List Held → (GuestDisk → Type 0) → Type 0
OpensIn linked folder P = (disk : GuestDisk) → OpensTo (files_of folder) (leaf_name linked) disk → P disk

-- What stands of the folder since the chain was opened, with a history of calls that were done.
pub record Stands (mode : Mode) (merge : Option (List ℕ)) (linked : Linked) (h : History) (broken : Option Break) (folder : List Held) (old new : Hosted) : Type 0 where
  pub moments : OpensIn linked folder (λ disk. Throughout (OpensToFirst (way_by (leaf_name linked) linked merge) disk h (open_by broken)) old new)
  pub last : OpensIn linked folder (λ disk. WhereTold new.folder (EachImageOpens (way_by (leaf_name linked) linked merge) (open_last h broken) (replay sector_size disk h)))
  pub spared : Throughout (AreSpared (changed_names (is_reading mode) merge linked.files) folder) old new
  pub unchanged : is_reading mode ≡ true → WhereTold new.folder (λ after. (name : List ℕ) → contents after name ≡ contents folder name)
  pub home : WhereTold new.folder AllHome

-- and once it is at rest
pub record Rests (linked : Linked) (h : History) (folder : List Held) (old new : Hosted) : Type 0 where
  pub idle : StaysIdle old.folder new.folder
  pub opens : OpensIn linked folder (λ disk. WhereTold new.folder (λ after. OpensTo (files_of after) (leaf_name linked) (replay sector_size disk h)))

-- lines were told so over the folder
pub record RanIn (mode : Mode) (merge : Option (List ℕ)) (linked : Linked) (lines : List Line) (told : List Told) (closed : Result (Unit {0}) StoreFault) (folder : List Held) (old new : Hosted) : Type 0 where
  pub history : History
  pub course : Course
  pub broken : Option Break
  pub told_so : OpensIn linked folder (λ disk. AreTold (drive_over (is_reading mode) disk) 1 [] (begun_course merge linked.files) None lines told history course broken)
  pub stands : Stands mode merge linked history broken folder old new
  pub full : AllByRecursion (IsEndTold (λ next. WhereTold new.folder (HasLong (changed_names false merge linked.files) next))) told
  pub faults : LastReturned (λ store. FaultsAreTold told (failed_by closed) (length linked.files) (λ file. 0) store.failed_reads store.failed_changes) old new
  pub rests : OnOk closed (Rests linked history folder old new)
  pub no_log : OnOk closed (WhereTold new.folder (NoneNamesLog (changed_names (is_reading mode) merge linked.files)))
  pub dropped : OnOk closed (course ≡ no_merge → IfSome merge (IsDropped (leaf_name linked) linked new))
  pub stays : OnOk closed (course ≢ no_merge → IfSome merge (λ name. WhereTold new.folder (λ after. LeadsTo (files_of after) (leaf_name linked) (names_of linked.files))))

-- A script ran over the chain.
pub record RunOver (mode : Mode) (merge : Option (List ℕ)) (linked : Linked) (lines : List Line) (run : ScriptRun) (old new : Hosted) (before now : Option (List (List ℕ))) : Type 0 where
  pub many : ℕ
  pub told : List Told
  pub whole : IfOk run.transcript (λ text. (take many lines ≡ lines) × (string_bytes text ≡ transcript (names_of linked.files) lines told) × AllByRecursion HasMemory told)
  pub fault_is : run.fault ≡ last_fault told
  pub drawn : DrawsFor (is_reading mode) merge linked old.folder before now
  pub counted : IfSome run.fault (IsCounted old new)
  pub ended : IfErr run.closed (IsCounted old new)
  pub quiet : run.fault ≡ None → OnOk run.closed (new.faults ≡ old.faults)
  pub ran : WhereTold old.folder (λ folder. RanIn mode merge linked (take many lines) told run.closed folder old new)

-- how the host's count goes with why a script wasn't run
abbrev pub CountsRefusal : {R : Type 0} → Hosted → Hosted → Meaning R → Type 0
CountsRefusal old new (refuses refusal) = new.faults ≡ old.faults
CountsRefusal old new (host_failed fault) = Rose old.faults new.faults × (fault.count ≡ new.faults) × ReturnsHealthy old new
CountsRefusal old new (store_failed fault) = IsCounted old new fault
CountsRefusal old new no_memory = new.faults ≡ old.faults

-- P, but where a call of a store failed
abbrev pub UnlessStore : {R : Type 0} → Meaning R → Type 0 → Type 0
UnlessStore (refuses refusal) P = P
UnlessStore (host_failed fault) P = P
UnlessStore (store_failed fault) P = ⊤
UnlessStore no_memory P = P

-- what refuses a session without a merge
abbrev pub HasLeafCause : Linked → Option (List Held) → Option (List (List ℕ)) → Option (List (List ℕ)) → StepsRefusal → Type 0
HasLeafCause linked folder before now (steps.Chain refusal) = IsNoRule (meaning_of_chain refusal)
HasLeafCause linked folder before now (steps.Spent number) = BeginsHigh linked.files number × (now ≡ before)
HasLeafCause linked folder before now (steps.IdUnfit id) = JudgesDrawn linked folder before now (Some id)
HasLeafCause linked folder before now steps.ReadOnly = ⊥
HasLeafCause linked folder before now (steps.NotInChain name) = ⊥
HasLeafCause linked folder before now (steps.IsBase name) = ⊥
HasLeafCause linked folder before now (steps.LocatorTooLarge len) = ⊥
HasLeafCause linked folder before now (steps.MetadataFull file) = ⊥

-- with a merge, whose files and identifiers these are
pub record BeginsMerge (linked : Linked) (name : List ℕ) (before now : Option (List (List ℕ))) (m : MergeFiles) (ids : MergeIds) : Type 0 where
  pub unspent : spent linked.files name ≡ None
  pub begun : IsBegun linked.files name before now m ids

pub record BeginsLeafMerge (linked : Linked) (before now : Option (List (List ℕ))) (m : LeafFiles) (ids : LeafMergeIds) : Type 0 where
  pub unspent : spent_leaf linked.files ≡ None
  pub begun : IsLeafBegun linked.files before now m ids

-- the file of this name can't be merged, and nothing was drawn
pub record CantMerge (linked : Linked) (name named : List ℕ) (is_so : List LinkedFile → List ℕ → Type 0) (before now : Option (List (List ℕ))) : Type 0 where
  pub same : named ≡ name
  pub unspent : spent linked.files name ≡ None
  pub so : is_so linked.files name
  pub undrawn : now ≡ before

abbrev pub HasMergeCause : Linked → List ℕ → Option (List Held) → Option (List (List ℕ)) → Option (List (List ℕ)) → StepsRefusal → Type 0
HasMergeCause linked name folder before now (steps.Chain refusal) = IsNoRule (meaning_of_chain refusal)
HasMergeCause linked name folder before now (steps.Spent number) = (spent linked.files name ≡ Some number) × (now ≡ before)
HasMergeCause linked name folder before now (steps.IdUnfit id) = JudgesMerge linked name folder before now (Some id)
HasMergeCause linked name folder before now steps.ReadOnly = ⊥
HasMergeCause linked name folder before now (steps.NotInChain other) = CantMerge linked name other HasNone before now
HasMergeCause linked name folder before now (steps.IsBase other) = CantMerge linked name other HasLast before now
HasMergeCause linked name folder before now (steps.LocatorTooLarge len) = (m : MergeFiles) × (ids : MergeIds) × BeginsMerge linked name before now m ids × IsTooLong len m ids
HasMergeCause linked name folder before now (steps.MetadataFull file) =
    (m : MergeFiles) × (ids : MergeIds) × BeginsMerge linked name before now m ids × AreShort m ids × WhereTold folder (λ f. IsFullIn (contents f) m ids file)

abbrev pub HasLeafMergeCause : Linked → Option (List Held) → Option (List (List ℕ)) → Option (List (List ℕ)) → StepsRefusal → Type 0
HasLeafMergeCause linked folder before now (steps.Chain refusal) = IsNoRule (meaning_of_chain refusal)
HasLeafMergeCause linked folder before now (steps.Spent number) = (spent_leaf linked.files ≡ Some number) × (now ≡ before)
HasLeafMergeCause linked folder before now (steps.IdUnfit id) = JudgesLeafMerge linked folder before now (Some id)
HasLeafMergeCause linked folder before now steps.ReadOnly = ⊥
HasLeafMergeCause linked folder before now (steps.NotInChain other) = ⊥
HasLeafMergeCause linked folder before now (steps.IsBase other) = ⊥
HasLeafMergeCause linked folder before now (steps.LocatorTooLarge len) = (m : LeafFiles) × (ids : LeafMergeIds) × BeginsLeafMerge linked before now m ids × IsLinkTooLong len m ids
HasLeafMergeCause linked folder before now (steps.MetadataFull file) =
    (m : LeafFiles) × (ids : LeafMergeIds) × BeginsLeafMerge linked before now m ids × IsLinkShort m ids × WhereTold folder (λ f. IsLeafFullIn (contents f) m ids file)

-- with a merge of the file of this name, which is the leaf, or isn't
abbrev pub HasMergeCauseOf : Bool → Linked → List ℕ → Option (List Held) → Option (List (List ℕ)) → Option (List (List ℕ)) → StepsRefusal → Type 0
HasMergeCauseOf true linked name folder before now refusal = HasLeafMergeCause linked folder before now refusal
HasMergeCauseOf false linked name folder before now refusal = HasMergeCause linked name folder before now refusal

-- a merge where files are only read is refused for that alone
abbrev pub IsBarred : Option (List (List ℕ)) → Option (List (List ℕ)) → StepsRefusal → Type 0
IsBarred before now (steps.Chain refusal) = IsNoRule (meaning_of_chain refusal)
IsBarred before now steps.ReadOnly = now ≡ before
IsBarred before now other = ⊥

abbrev pub HasCauseIn : Mode → Option (List ℕ) → Linked → Option (List Held) → Option (List (List ℕ)) → Option (List (List ℕ)) → StepsRefusal → Type 0
HasCauseIn mode None linked folder before now refusal = HasLeafCause linked folder before now refusal
HasCauseIn Guests (Some name) linked folder before now refusal = HasMergeCauseOf (is_leaf linked.files name) linked name folder before now refusal
HasCauseIn ReadOnly (Some name) linked folder before now refusal = IsBarred before now refusal

-- P, but where memory ran out and a merge was to start
abbrev pub UnlessMerging : {R : Type 0} → Option (List ℕ) → Meaning R → Type 0 → Type 0
UnlessMerging None meaning P = P
UnlessMerging (Some name) (refuses refusal) P = P
UnlessMerging (Some name) (host_failed fault) P = P
UnlessMerging (Some name) (store_failed fault) P = P
UnlessMerging (Some name) no_memory P = ⊤

-- P, where a rule refuses it
abbrev pub IfRule : {R : Type 0} → Meaning R → Type 0 → Type 0
IfRule (refuses refusal) P = P
IfRule (host_failed fault) P = ⊤
IfRule (store_failed fault) P = ⊤
IfRule no_memory P = ⊤

-- the files hold what they held
abbrev pub StaysAsItWas : Option (List Held) → Option (List Held) → Type 0
StaysAsItWas old new = WhereTold old (λ folder. WhereTold new (λ after. (name : List ℕ) → contents after name ≡ contents folder name))

-- A script wasn't run over the chain.
pub record NotRunOver (mode : Mode) (merge : Option (List ℕ)) (linked : Linked) (old new : Hosted) (before now : Option (List (List ℕ))) (refusal : StepsRefusal) : Type 0 where
  pub counts : CountsRefusal old new (meaning_of_steps refusal)
  pub cause : HasCauseIn mode merge linked old.folder before now refusal
  pub undrawn : is_reading mode ≡ true → now ≡ before
  pub unchanged : IfRule (meaning_of_steps refusal) (StaysAsItWas old.folder new.folder)
  pub stands : WhereTold old.folder (λ folder. Stands mode merge linked [] None folder old new)
  pub rests : UnlessStore (meaning_of_steps refusal) (UnlessMerging merge (meaning_of_steps refusal) (WhereTold old.folder (λ folder. Rests linked [] folder old new)))

-- ---- a leaf's name

-- the name leads to this chain, whose files were opened
pub record IsFollowedTo (leaf : List ℕ) (linked : Linked) (old mid : Hosted) : Type 0 where
  pub links : WhereTold old.folder (λ f. Links (contents f) leaf (Ok linked))
  pub up : IsLinkedUp leaf linked
  pub moments : TouchesSafely (λ f. IsOnWay (contents f) leaf) old mid
  pub replayed : HasReplayed (linked_names linked) old mid

-- it leads to none
pub record IsNotFollowed (leaf : List ℕ) (refusal : LinkRefusal) (old new : Hosted) : Type 0 where
  pub answer : WhereTold old.folder (λ f. (let result : Result Linked LinkRefusal = Err refusal in AnswersLinking (Links (contents f) leaf) result))
  pub moments : TouchesSafely (λ f. IsOnWay (contents f) leaf) old new
  pub left : LeavesBy old new (link.meaning_of refusal)

-- A script was run over the chain to which a leaf's name leads, or it wasn't.
pub data LeafIsRun (leaf : List ℕ) (mode : Mode) (merge : Option (List ℕ)) (lines : List Line) (old new : Hosted) (before now : Option (List (List ℕ))) (result : Result ScriptRun StepsRefusal) : Type 0 where
  no_room : result ≡ Err (steps.Chain chain.NoRoom) → new ≡ old → now ≡ before → LeafIsRun leaf mode merge lines old new before now result
  unlinked : (refusal : LinkRefusal) → result ≡ Err (steps.Chain (chain.Unlinked refusal)) → IsNotFollowed leaf refusal old new → now ≡ before
      → LeafIsRun leaf mode merge lines old new before now result
  over : (mid : Hosted) (linked : Linked) → IsFollowedTo leaf linked old mid → IfOk result (λ run. RunOver mode merge linked lines run mid new before now)
      → IfErr result (NotRunOver mode merge linked mid new before now) → LeafIsRun leaf mode merge lines old new before now result

-- ---- what is printed

-- a status with its text
abbrev pub Said : Type 0
Said = Status × List ℕ

-- of a transcript, with the last fault that refused a line and how the session ended; without a fault the status is this
abbrev pub lines_said : Status → List ℕ → Option StoreFault → Result (Unit {0}) StoreFault → Said
lines_said end text None (Ok done) = (end, text)
lines_said end text None (Err fault) = (Fault, text)
lines_said end text (Some refused) closed = (Fault, text)

-- and where there is none
abbrev pub none_said : Option StoreFault → Result (Unit {0}) StoreFault → Said
none_said refused (Err fault) = (Fault, fault_line (codes "store") fault.count)
none_said (Some fault) (Ok done) = (Fault, fault_line (codes "store") fault.count)
none_said None (Ok done) = (NoMemory, codes "no memory\n")

abbrev pub said_of : {Z : Type 0} → Status → Result (String Z) NoRoom → Option StoreFault → Result (Unit {0}) StoreFault → Said
said_of end (Ok text) refused closed = lines_said end (string_bytes text) refused closed
said_of end (Err e) refused closed = none_said refused closed

abbrev pub run_said : Status → ScriptRun → Said
run_said end run = said_of end run.transcript run.fault run.closed

-- what became of a script was said
abbrev pub ReportsRun : Result ScriptRun StepsRefusal → Option (List ℕ) → Option (List ℕ) → ℕ → ℕ → Status → Type 0
ReportsRun (Ok run) before after old new status = Sent before after old new (run_said Done run).0 (run_said Done run).1 status
ReportsRun (Err refusal) before after old new status = Reports (meaning_of_steps refusal) before after old new status

-- and why none was read
abbrev pub source_said : SourceRefusal → Said
source_said (source.Line number) = (Usage, broken_line number)
source_said (source.Source fault) = (Fault, fault_line (codes "source") fault.count)
source_said source.NoRoom = (NoMemory, codes "no memory\n")
