-- How a session starts with the merge of a file in its middle.
use Rattle.std.specs.Prelude.{◌≡◌, ⊤, ◌⊎◌, ◌+◌, ◌^◌, ◌-◌, ◌≤◌, ◌==◌, ◌||◌, ℕ, nat_le, Bool, true, false, if◌then◌else◌, is_some, List, [], ◌∷◌, ◌++◌, length, Option, Some, None, Result, IfErr, IfOk, Ok, Err}
use Rattle.std.specs.Option.{option_or}
use Rattle.std.specs.Str.{bytes_eq}
use Rattle.vx_base.specs.declared.parts.Parts.{Parts}
use Rattle.vhdx_format.specs.Locators.{locator_bytes}
use Rattle.vhdx_format.specs.declared.log_entry.Page.{Page}
use Rattle.store_model.specs.Disk.{Disk, ReadFailed, WhereBothTold}
use Rattle.store_model.specs.Plans.{FailsToChange}
use Rattle.store_model.specs.declared.fault.StoreFault.{StoreFault}
use Rattle.store_model.specs.File.{seen}
use Rattle.store_model.specs.declared.fault.SealFault.{SealFault}
use Rattle.store_model.specs.declared.fault.SealFault.TheVariants as seal
use Rattle.log_write.specs.Writing.{BeginFails}
use Rattle.store_model.specs.Trace.{Trace, file_of}
use Rattle.log_write.specs.declared.ids.SessionIds.{SessionIds}
use Rattle.chain_model.specs.Images.{Placed}
use Rattle.chain_model.specs.Members.{Ties}
use Rattle.chain_model.specs.Stripes.{stripe_count}
use Rattle.merge_core.specs.Copied.{marks_of}
use Rattle.link_rules.specs.declared.linked.LinkedFile.{LinkedFile}
use Rattle.layer_session.specs.Begins.{BeginsOver, HasBegun, IsOf, as_found, in_session}
use Rattle.layer_session.specs.Keeping.{IsReady}
use Rattle.layer_session.specs.declared.file.Layer.{Layer}
use Rattle.layer_session.specs.declared.file_layer.FileLayer.{FileLayer}
use Rattle.layer_session.specs.declared.file_layer.FileLayer.TheVariants.{Read, Session}
use Rattle.layer_session.specs.declared.read_layer.ReadLayer.{ReadLayer}
use Rattle.layer_session.specs.Unnamed.{NamesNoLog}
use Rattle.layer_session.specs.Updating.{HasUpdated, UpdatesOver, laid_region, turned}
use Rattle.merge_plan.specs.Merging.{MergeFiles, child_place, source_place, twice_pairs}
use Rattle.merge_plan.specs.Planning.{HasPlan, IsBegun, Refuses}
use Rattle.merge_plan.specs.declared.drawing.LogIds.{LogIds}
use Rattle.merge_plan.specs.declared.drawing.MergeIds.{MergeIds}
use Rattle.merge_plan.specs.declared.drawing.NewIds.{NewIds}
use Rattle.merge_plan.specs.declared.merge.Merge.{Merge}
use Rattle.chain_core.specs.declared.layers.Layers.{Layers}
use Rattle.chain_core.specs.declared.layers.Underway.{Underway}
use Rattle.chain_core.specs.declared.merge_start.MergeOf.{MergeOf}
use Rattle.chain_core.specs.declared.merge_start.MergeStartRefusal.{MergeStartRefusal}
use Rattle.chain_core.specs.declared.merge_start.MergeStartRefusal.TheVariants as start
use Rattle.chain_core.specs.declared.merge_start.Room.{Room}
use Rattle.chain_core.specs.Sessions.{AreReady, IsLow, leaf_number}
use Rattle.chain_core.specs.Starting.{AreReadOf, EachOpensAlike, opening_disk, placed_from, way_to}
use Rattle.chain_core.specs.States.{IsServing, State, merging}

-- ---- files and identifiers

-- the files of the chain
abbrev pub chain_files : MergeFiles → List LinkedFile
chain_files m = m.above ++ m.child ∷ m.source ∷ m.target ∷ m.below

-- the first of some files, or this one where there is none
abbrev pub first_or : List LinkedFile → LinkedFile → LinkedFile
first_or [] file = file
first_or (first ∷ others) file = first

-- its leaf, which may be the child
abbrev pub leaf_of : MergeFiles → LinkedFile
leaf_of m = first_or m.above m.child

-- the identifiers of a session in which the file's data change, and of one in which they stay
abbrev pub data_session : NewIds → SessionIds
data_session ids = record { file_write = ids.file_write; data_write = Some ids.data_write; log = ids.log }

abbrev pub log_session : LogIds → SessionIds
log_session ids = record { file_write = ids.file_write; data_write = None; log = ids.log }

-- the files of a merge that are lent
abbrev pub files_in : MergeOf → MergeFiles
files_in of = record { above = of.above.now; child = of.child.now; source = of.source.now; target = of.target.now; below = of.below.now }

-- what stands behind the first of some files
abbrev pub behind_first : List LinkedFile → List LinkedFile
behind_first [] = []
behind_first (first ∷ others) = others

-- the target's place
abbrev pub target_place : MergeFiles → ℕ
target_place m = source_place m + 1

-- ---- the files once the merge is prepared

-- the leaf in its session, under its new identifier
abbrev pub top_in : Trace → MergeFiles → MergeIds → Placed
top_in trace m ids = as_found trace 0 (in_session (leaf_of m).parts (data_session ids.leaf))

-- a file's numbers in a session, where it has one
abbrev pub inner_parts : Option LogIds → Parts → Parts
inner_parts None parts = parts
inner_parts (Some ids) parts = in_session parts (log_session ids)

-- the files between the leaf and the source: the last of them, where there is one, is the child in its session
abbrev pub between_in : Trace → List LinkedFile → LinkedFile → Option LogIds → List Placed
between_in trace [] child ids = []
between_in trace (leaf ∷ above) child ids = placed_from trace 1 above ++ as_found trace (length (leaf ∷ above)) (inner_parts ids child.parts) ∷ []

-- the source in its session, and then with the locator that links it twice, which these pages gave it
abbrev pub source_begun : Trace → MergeFiles → MergeIds → Placed
source_begun trace m ids = as_found trace (source_place m) (in_session m.source.parts (log_session ids.source))

abbrev pub twice_ties : MergeFiles → MergeIds → Placed → Ties
twice_ties m ids source = record (source.member.ties) { locator = Some (locator_bytes (twice_pairs m ids.target.data_write)) }

abbrev pub source_in : Trace → MergeFiles → MergeIds → List Page → Placed
source_in trace m ids pages =
    turned (twice_ties m ids (source_begun trace m ids)) (laid_region (source_begun trace m ids) pages (seen (file_of trace (source_place m)))) (source_begun trace m ids)

-- the target in its session, under its new identifier
abbrev pub target_in : Trace → MergeFiles → MergeIds → Placed
target_in trace m ids = as_found trace (target_place m) (in_session m.target.parts (data_session ids.target))

-- leaf, target and child may be changed from then on; the source is only read
abbrev pub is_written : MergeFiles → ℕ → Bool
is_written m number = number == 0 || number == child_place m || number == target_place m

-- The state of a session over these files whose merge was prepared between the one moment and the other, no stripe being copied.
abbrev pub started_merge : Trace → Trace → MergeFiles → MergeIds → List Page → State
started_merge trace now m ids pages = record {
  leaf = way_to (leaf_of m) (chain_files m) (Some m.source.name);
  retired = [];
  top = top_in trace m ids;
  rest =
      merging (between_in trace m.above m.child ids.child) (source_in trace m ids pages) (target_in trace m ids) (placed_from trace (target_place m + 1) m.below)
      (record { first = (source_in trace m ids pages).member.layer; before = (target_in trace m ids).member.layer; marks = λ t. false });
  opening = opening_disk trace (chain_files m);
  history = [];
  began = trace;
  writes = is_written m;
  since = now;
}

-- ---- numbers of headers

-- the number of a file's header where it leaves no room for those of a session
abbrev pub high_of : LinkedFile → Option ℕ
high_of file = if nat_le file.parts.header.number (2 ^ 64 - 2 ^ 32) then None else Some file.parts.header.number

-- that of the first of child, source and target which has one, if the source has this name
abbrev pub high_at : LinkedFile → LinkedFile → LinkedFile → List ℕ → Option ℕ
high_at child source target name = if bytes_eq source.name name then option_or (high_of child) (option_or (high_of source) (high_of target)) else None

-- that of a source among these files, which is neither the first nor the last of them
abbrev pub spent_inside : List LinkedFile → List ℕ → Option ℕ
spent_inside [] name = None
spent_inside (child ∷ []) name = None
spent_inside (child ∷ source ∷ []) name = None
spent_inside (child ∷ source ∷ target ∷ below) name = option_or (high_at child source target name) (spent_inside (source ∷ target ∷ below) name)

-- that of the leaf, and then one of these
abbrev pub spent : List LinkedFile → List ℕ → Option ℕ
spent [] name = None
spent (leaf ∷ others) name = option_or (high_of leaf) (spent_inside (leaf ∷ others) name)

-- none of leaf, child, source and target has such a number
pub record AreLow (m : MergeFiles) : Type 0 where
  pub leaf : (leaf_of m).parts.header.number ≤ 2 ^ 64 - 2 ^ 32
  pub child : m.child.parts.header.number ≤ 2 ^ 64 - 2 ^ 32
  pub source : m.source.parts.header.number ≤ 2 ^ 64 - 2 ^ 32
  pub target : m.target.parts.header.number ≤ 2 ^ 64 - 2 ^ 32

-- ---- what is answered

-- leaf, child, source or target
abbrev pub is_changed : MergeFiles → ℕ → Bool
is_changed m number = is_written m number || number == source_place m

-- No file but these was changed; no file but those four.
abbrev pub LeavesAllBut : (ℕ → Bool) → Option Trace → Option Trace → Type 0
LeavesAllBut changes old new = WhereBothTold (λ trace now. (other : ℕ) → changes other ≡ false → file_of now other ≡ file_of trace other) old new

abbrev pub LeavesRest : MergeFiles → Option Trace → Option Trace → Type 0
LeavesRest m = LeavesAllBut (is_changed m)

-- Layers serve the session whose merge is prepared. That of the source has ended: its file names no log.
pub record ServesMerge (m : MergeFiles) (merge : Merge) (layers : Layers) (trace now : Trace) : Type 0 where
  pub serving : IsServing layers (started_merge trace now m merge.ids merge.twice) now
  pub no_log : NamesNoLog (seen (file_of now (source_place m)))

abbrev pub StartsMerge : MergeFiles → Merge → Layers → Option Trace → Option Trace → Type 0
StartsMerge m merge layers old new = WhereBothTold (ServesMerge m merge layers) old new

-- A read or a change of one of these files failed.
pub record PhaseFails (changes : ℕ → Bool) (old new : Disk) (fault : StoreFault) : Type 0 where
  pub file : ℕ
  pub one : changes file ≡ true
  pub fails : ReadFailed file (record old { told = new.told }) new fault ⊎ FailsToChange file old new fault

-- Their sessions don't begin: a read or a change of a file failed, or memory ran out, with no fault counted; so it is of the four.
abbrev pub BeginsNone : (ℕ → Bool) → Disk → Disk → SealFault → Type 0
BeginsNone changes old new (seal.Store fault) = PhaseFails changes old new fault
BeginsNone changes old new seal.NoRoom = new ≡ record old { told = new.told }

abbrev pub BeginsNoMerge : MergeFiles → Disk → Disk → SealFault → Type 0
BeginsNoMerge m = BeginsNone (is_changed m)

-- The sessions have begun, and the layers serve the state whose merge is prepared; of the store content alone was changed.
pub record HasBegunMerge (m : MergeFiles) (merge : Merge) (old new : Disk) (layers : Layers) : Type 0 where
  pub serving : StartsMerge m merge layers old.told new.told
  pub session : is_some layers.leaf ≡ true
  pub under_way : is_some layers.merge ≡ true
  pub only : layers.retiring ≡ None
  pub leaf : leaf_number layers ≡ 0
  pub geometry : layers.geometry ≡ (leaf_of m).parts.geometry
  pub ready : AreReady layers new
  pub low : IsLow 1 layers
  pub counts : new ≡ record old { told = new.told }

-- What is answered of a planned merge whose sessions are to begin: whatever it is, each moment opens to the disk of the files as they
-- were attached, and no file but the four was changed.
pub record BeginsMerge (m : MergeFiles) (merge : Merge) (old new : Disk) (result : Result Layers SealFault) : Type 0 where
  pub moments : EachOpensAlike (chain_files m) old.told new.told
  pub still : LeavesRest m old.told new.told
  pub begun : IfOk result (HasBegunMerge m merge old new)
  pub err : IfErr result (BeginsNoMerge m old new)

-- ---- a start

-- The merge of the file of this name is planned over these files, whose headers' numbers leave room for those of sessions.
pub record PlansMerge (files : List LinkedFile) (name : List ℕ) (old : Disk) (before now : Option (List (List ℕ))) (m : MergeFiles) (merge : Merge) : Type 0 where
  pub unspent : spent files name ≡ None
  pub begun : IsBegun files name before now m merge.ids
  pub plan : HasPlan files old m merge

-- Its sessions have begun.
pub record HasStartedMerge (files : List LinkedFile) (name : List ℕ) (old new : Disk) (before now : Option (List (List ℕ))) (layers : Layers) : Type 0 where
  pub m : MergeFiles
  pub merge : Merge
  pub planned : PlansMerge files name old before now m merge
  pub still : LeavesRest m old.told new.told
  pub begun : HasBegunMerge m merge old new layers

-- They don't begin.
pub record StartsNoMerge (files : List LinkedFile) (name : List ℕ) (old new : Disk) (before now : Option (List (List ℕ))) (fault : SealFault) : Type 0 where
  pub m : MergeFiles
  pub merge : Merge
  pub planned : PlansMerge files name old before now m merge
  pub still : LeavesRest m old.told new.told
  pub fails : BeginsNoMerge m old new fault

-- Why no session with a merge started.
abbrev pub RefusesMerge : List LinkedFile → List ℕ → Disk → Disk → Option (List (List ℕ)) → Option (List (List ℕ)) → MergeStartRefusal → Type 0
RefusesMerge files name old new before now (start.Spent number) = (spent files name ≡ Some number) × (now ≡ before) × (new ≡ old)
RefusesMerge files name old new before now (start.Plan refusal) = (spent files name ≡ None) × Refuses files name old new before now refusal
RefusesMerge files name old new before now (start.Begin fault) = StartsNoMerge files name old new before now fault

-- Whatever is answered, each moment opens to the disk of the files as they were attached.
pub record StartsWithMerge (files : List LinkedFile) (name : List ℕ) (old new : Disk) (before now : Option (List (List ℕ))) (result : Result Layers MergeStartRefusal) : Type 0 where
  pub moments : EachOpensAlike files old.told new.told
  pub started : IfOk result (HasStartedMerge files name old new before now)
  pub err : IfErr result (RefusesMerge files name old new before now)

-- ---- of the small functions

-- room for the merge of these files: no stripe of the disk has a mark, and each file that is only read has its layer
pub record IsRoomFor (m : MergeFiles) (room : Room) : Type 0 where
  pub marks : (t : ℕ) → marks_of room.marks t ≡ false
  pub stripes : room.marks.stripes ≡ stripe_count (leaf_of m).parts.geometry.sector (leaf_of m).parts.geometry.sectors
  pub above : AreReadOf 1 (behind_first m.above) room.above.items
  pub below : AreReadOf (target_place m + 1) m.below room.below.items

-- the child's session begins, if it isn't the leaf
abbrev pub ChildOver : Option LogIds → Parts → ℕ → Trace → Trace → Type 0
ChildOver None parts number old new = new ≡ old
ChildOver (Some ids) parts number old new = BeginsOver parts (log_session ids) number old new

abbrev pub ChildBegun : Option LogIds → Parts → ℕ → Option Layer → Trace → Trace → Type 0
ChildBegun None parts number None old new = ⊤
ChildBegun None parts number (Some l) old new = ⊥
ChildBegun (Some ids) parts number None old new = ⊥
ChildBegun (Some ids) parts number (Some l) old new = HasBegun parts (log_session ids) number l old new

-- or it doesn't
abbrev pub InnerFails : Option LogIds → ℕ → Disk → Disk → SealFault → Type 0
InnerFails None number old new fault = ⊥
InnerFails (Some ids) number old new fault = BeginFails number old new fault

-- the layer of a file in a session, if there is one
abbrev pub session_of : Option Layer → List FileLayer
session_of None = []
session_of (Some l) = Session l ∷ []

-- Layers that are made of the sessions of such a merge, and of the room that was taken for it.
pub record AreMergeLayers (m : MergeFiles) (merge : Merge) (room : Room) (leaf target : Layer) (child : Option Layer) (source : ReadLayer) (layers : Layers) (u : Underway) : Type 0 where
  pub geometry : layers.geometry ≡ (leaf_of m).parts.geometry
  pub top : layers.leaf ≡ Some leaf
  pub kept : layers.merge ≡ Some u
  pub alone : layers.retiring ≡ None
  pub below : layers.below.items ≡ (room.above.items ++ session_of child) ++ Read source ∷ Session target ∷ room.below.items
  pub place : u.source ≡ length m.above
  pub marks : u.marks ≡ room.marks
  pub relinks : u.relink ≡ merge.relink

-- The first two sessions have begun, the source's with the pages that link it twice: what each step did, and the disks between them.
pub record HasBegunUpper (m : MergeFiles) (merge : Merge) (old new : Disk) (leaf source : Layer) : Type 0 where
  pub first : Disk
  pub second : Disk
  pub begun : Layer
  pub leaf_over : WhereBothTold (BeginsOver (leaf_of m).parts (data_session merge.ids.leaf) 0) old.told first.told
  pub leaf_begun : WhereBothTold (HasBegun (leaf_of m).parts (data_session merge.ids.leaf) 0 leaf) old.told first.told
  pub leaf_ready : IsReady leaf first
  pub leaf_is : IsOf (leaf_of m).parts 0 leaf
  pub leaf_counts : first ≡ record old { told = first.told }
  pub source_over : WhereBothTold (BeginsOver m.source.parts (log_session merge.ids.source) (source_place m)) first.told second.told
  pub source_begun : WhereBothTold (HasBegun m.source.parts (log_session merge.ids.source) (source_place m) begun) first.told second.told
  pub source_is : IsOf m.source.parts (source_place m) begun
  pub source_counts : second ≡ record first { told = second.told }
  pub linked_over : WhereBothTold (UpdatesOver begun merge.twice) second.told new.told
  pub linked : WhereBothTold (HasUpdated begun source merge.twice) second.told new.told
  pub linked_ready : IsReady source new
  pub linked_parts : source.tables.parts ≡ begun.tables.parts
  pub linked_number : source.log.number ≤ begun.log.number + 1
  pub linked_counts : new ≡ record second { told = new.told }

-- All sessions have begun, and the source's has ended: the merge begins with whatever layers are made of them, or with none for want of
-- memory.
pub record HasBegunAll (m : MergeFiles) (merge : Merge) (old new : Disk) (leaf target : Layer) (child : Option Layer) (source : ReadLayer) : Type 0 where
  pub full : BeginsMerge m merge old new (Err seal.NoRoom)
  pub made : (room : Room) → IsRoomFor m room → (layers : Layers) (u : Underway) → AreMergeLayers m merge room leaf target child source layers u → BeginsMerge m merge old new (Ok layers)
