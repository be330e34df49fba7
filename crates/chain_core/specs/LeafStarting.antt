-- How a session starts with the merge of the leaf.
use Rattle.std.specs.Prelude.{◌≡◌, ◌^◌, ◌-◌, ◌≤◌, ◌==◌, ◌||◌, ℕ, Bool, true, false, is_some, List, [], ◌∷◌, length, Option, Some, None, Result, Ok, Err, IfErr, IfOk, IfSome}
use Rattle.std.specs.Option.{option_or}
use Rattle.vhdx_format.specs.Locators.{locator_bytes}
use Rattle.vhdx_format.specs.declared.log_entry.Page.{Page}
use Rattle.store_model.specs.Disk.{Disk, WhereBothTold}
use Rattle.store_model.specs.File.{seen}
use Rattle.store_model.specs.declared.fault.SealFault.{SealFault}
use Rattle.store_model.specs.declared.fault.SealFault.TheVariants as seal
use Rattle.store_model.specs.Trace.{Trace, file_of}
use Rattle.chain_model.specs.Images.{Placed}
use Rattle.chain_model.specs.Members.{Ties}
use Rattle.chain_model.specs.Stripes.{stripe_count}
use Rattle.merge_core.specs.Copied.{marks_of}
use Rattle.merge_core.specs.Stamping.{stamps_of}
use Rattle.link_rules.specs.declared.linked.LinkedFile.{LinkedFile}
use Rattle.layer_session.specs.declared.file.Layer.{Layer}
use Rattle.layer_session.specs.declared.file_layer.FileLayer.TheVariants as kind
use Rattle.layer_session.specs.Begins.{as_found, in_session}
use Rattle.layer_session.specs.Updating.{laid_region, turned}
use Rattle.merge_plan.specs.LeafMerging.{LeafFiles, linked_pairs}
use Rattle.merge_plan.specs.LeafPlanning.{HasLeafPlan, IsLeafBegun, IsLeafStopped}
use Rattle.merge_plan.specs.declared.leaf_drawing.LeafMergeIds.{LeafMergeIds}
use Rattle.merge_plan.specs.declared.leaf.LeafMerge.{LeafMerge}
use Rattle.chain_core.specs.declared.layers.Layers.{Layers}
use Rattle.chain_core.specs.declared.layers.Retiring.{Retiring}
use Rattle.chain_core.specs.declared.leaf_start.LeafOf.{LeafOf}
use Rattle.chain_core.specs.declared.leaf_start.LeafRoom.{LeafRoom}
use Rattle.chain_core.specs.declared.merge_start.MergeStartRefusal.{MergeStartRefusal}
use Rattle.chain_core.specs.declared.merge_start.MergeStartRefusal.TheVariants as start
use Rattle.chain_core.specs.MergeStarting.{BeginsNone, LeavesAllBut, data_session, high_of}
use Rattle.chain_core.specs.Sessions.{AreReady, IsLow, leaf_number}
use Rattle.chain_core.specs.Starting.{AreReadOf, EachOpensAlike, opening_disk, placed_from, way_to}
use Rattle.chain_core.specs.States.{IsServing, State, retiring}

-- ---- files

-- the files of the chain
abbrev pub leaf_chain : LeafFiles → List LinkedFile
leaf_chain m = m.source ∷ m.target ∷ m.below

-- the files of a merge that are lent
abbrev pub leaf_files_in : LeafOf → LeafFiles
leaf_files_in of = record { source = of.source.now; target = of.target.now; below = of.below.now }

-- the leaf and its parent
abbrev pub is_first_two : ℕ → Bool
is_first_two number = number == 0 || number == 1

-- ---- the files once the merge is prepared

-- the leaf in its session, under its new identifier, and then with the locator that links it twice, which these pages gave it
abbrev pub leaf_begun : Trace → LeafFiles → LeafMergeIds → Placed
leaf_begun trace m ids = as_found trace 0 (in_session m.source.parts (data_session ids.leaf))

abbrev pub linked_ties : LeafFiles → LeafMergeIds → Placed → Ties
linked_ties m ids leaf = record (leaf.member.ties) { locator = Some (locator_bytes (linked_pairs m ids.target.data_write)) }

abbrev pub leaf_in : Trace → LeafFiles → LeafMergeIds → List Page → Placed
leaf_in trace m ids pages =
    turned (linked_ties m ids (leaf_begun trace m ids)) (laid_region (leaf_begun trace m ids) pages (seen (file_of trace 0))) (leaf_begun trace m ids)

-- the target in its session, under its new identifier
abbrev pub heir_in : Trace → LeafFiles → LeafMergeIds → Placed
heir_in trace m ids = as_found trace 1 (in_session m.target.parts (data_session ids.target))

-- The state of a session over these files whose merge was prepared between the one moment and the other, no stripe being copied. Leaf and
-- target may be changed from then on.
abbrev pub started_leaf_merge : Trace → Trace → LeafFiles → LeafMergeIds → List Page → State
started_leaf_merge trace now m ids pages = record {
  leaf = way_to m.source (leaf_chain m) (Some m.source.name);
  retired = [];
  top = leaf_in trace m ids pages;
  rest = retiring (heir_in trace m ids) (placed_from trace 2 m.below) (leaf_in trace m ids pages).member.layer (heir_in trace m ids).member.layer;
  opening = opening_disk trace (leaf_chain m);
  history = [];
  began = trace;
  writes = is_first_two;
  since = now;
}

-- ---- numbers of headers

-- the first number of a header that leaves no room for those of a session, of the leaf and the target
abbrev pub spent_leaf : List LinkedFile → Option ℕ
spent_leaf [] = None
spent_leaf (leaf ∷ []) = high_of leaf
spent_leaf (leaf ∷ target ∷ below) = option_or (high_of leaf) (high_of target)

-- neither has such a number
pub record AreBothLow (m : LeafFiles) : Type 0 where
  pub leaf : m.source.parts.header.number ≤ 2 ^ 64 - 2 ^ 32
  pub target : m.target.parts.header.number ≤ 2 ^ 64 - 2 ^ 32

-- ---- what is answered

-- Layers serve the session whose merge is prepared.
abbrev pub StartsLeafMerge : LeafFiles → LeafMerge → Layers → Option Trace → Option Trace → Type 0
StartsLeafMerge m merge layers old new = WhereBothTold (λ trace now. IsServing layers (started_leaf_merge trace now m merge.ids merge.twice) now) old new

-- What is kept of the merge is as it was planned, and no stripe is copied, nor was one changed.
pub record KeepsPlan (merge : LeafMerge) (r : Retiring) : Type 0 where
  pub retire : r.retire ≡ merge.retire
  pub clear : r.clear ≡ merge.clear
  pub third : r.third ≡ merge.ids.third
  pub marks : (t : ℕ) → marks_of r.marks t ≡ false
  pub stamps : (t : ℕ) → stamps_of r.stamps t ≡ 0

-- The sessions have begun, and the layers serve the state whose merge is prepared; of the store content alone was changed. The leaf's log
-- has two entries.
pub record HasBegunLeafMerge (m : LeafFiles) (merge : LeafMerge) (old new : Disk) (layers : Layers) : Type 0 where
  pub serving : StartsLeafMerge m merge layers old.told new.told
  pub session : is_some layers.leaf ≡ true
  pub under_way : is_some layers.retiring ≡ true
  pub plan : IfSome layers.retiring (KeepsPlan merge)
  pub only : layers.merge ≡ None
  pub leaf : leaf_number layers ≡ 0
  pub geometry : layers.geometry ≡ m.source.parts.geometry
  pub ready : AreReady layers new
  pub low : IsLow 2 layers
  pub counts : new ≡ record old { told = new.told }

-- What is answered of a planned merge whose sessions are to begin: whatever it is, each moment opens to the disk of the files as they
-- were attached, and no file but leaf and target was changed.
pub record BeginsLeafMerge (m : LeafFiles) (merge : LeafMerge) (old new : Disk) (result : Result Layers SealFault) : Type 0 where
  pub moments : EachOpensAlike (leaf_chain m) old.told new.told
  pub still : LeavesAllBut is_first_two old.told new.told
  pub begun : IfOk result (HasBegunLeafMerge m merge old new)
  pub err : IfErr result (BeginsNone is_first_two old new)

-- ---- a start

-- The merge of the leaf is planned over these files, and the numbers of its header and of the target's leave room for those of sessions.
pub record PlansLeafMerge (files : List LinkedFile) (old : Disk) (before now : Option (List (List ℕ))) (m : LeafFiles) (merge : LeafMerge) : Type 0 where
  pub unspent : spent_leaf files ≡ None
  pub begun : IsLeafBegun files before now m merge.ids
  pub plan : HasLeafPlan files old m merge

-- Its sessions have begun.
pub record HasStartedLeafMerge (files : List LinkedFile) (old new : Disk) (before now : Option (List (List ℕ))) (layers : Layers) : Type 0 where
  pub m : LeafFiles
  pub merge : LeafMerge
  pub planned : PlansLeafMerge files old before now m merge
  pub still : LeavesAllBut is_first_two old.told new.told
  pub begun : HasBegunLeafMerge m merge old new layers

-- They don't begin.
pub record StartsNoLeafMerge (files : List LinkedFile) (old new : Disk) (before now : Option (List (List ℕ))) (fault : SealFault) : Type 0 where
  pub m : LeafFiles
  pub merge : LeafMerge
  pub planned : PlansLeafMerge files old before now m merge
  pub still : LeavesAllBut is_first_two old.told new.told
  pub fails : BeginsNone is_first_two old new fault

-- Why no session with the merge of the leaf started.
abbrev pub RefusesLeafMerge : List LinkedFile → Disk → Disk → Option (List (List ℕ)) → Option (List (List ℕ)) → MergeStartRefusal → Type 0
RefusesLeafMerge files old new before now (start.Spent number) = (spent_leaf files ≡ Some number) × (now ≡ before) × (new ≡ old)
RefusesLeafMerge files old new before now (start.Plan refusal) = (spent_leaf files ≡ None) × IsLeafStopped files old new before now refusal
RefusesLeafMerge files old new before now (start.Begin fault) = StartsNoLeafMerge files old new before now fault

-- Whatever is answered, each moment opens to the disk of the files as they were attached.
pub record StartsWithLeafMerge (files : List LinkedFile) (old new : Disk) (before now : Option (List (List ℕ))) (result : Result Layers MergeStartRefusal) : Type 0 where
  pub moments : EachOpensAlike files old.told new.told
  pub started : IfOk result (HasStartedLeafMerge files old new before now)
  pub err : IfErr result (RefusesLeafMerge files old new before now)

-- ---- of the small functions

-- Room for the merge of these files: no stripe of the disk has a mark, each has the stamp 0, and each file below the target its layer.
pub record IsLeafRoom (m : LeafFiles) (room : LeafRoom) : Type 0 where
  pub marks : (t : ℕ) → marks_of room.marks t ≡ false
  pub stripes : room.marks.stripes ≡ stripe_count m.source.parts.geometry.sector m.source.parts.geometry.sectors
  pub stamps : (t : ℕ) → stamps_of room.stamps t ≡ 0
  pub words : length room.stamps.words.items ≡ stripe_count m.source.parts.geometry.sector m.source.parts.geometry.sectors
  pub below : AreReadOf 2 m.below room.below.items

-- Layers that are made of the two sessions of such a merge, and of the room that was taken for it.
pub record AreLeafLayers (m : LeafFiles) (merge : LeafMerge) (room : LeafRoom) (leaf target : Layer) (layers : Layers) (u : Retiring) : Type 0 where
  pub geometry : layers.geometry ≡ m.source.parts.geometry
  pub top : layers.leaf ≡ Some leaf
  pub alone : layers.merge ≡ None
  pub kept : layers.retiring ≡ Some u
  pub below : layers.below.items ≡ kind.Session target ∷ room.below.items
  pub retires : u.retire ≡ merge.retire
  pub clears : u.clear ≡ merge.clear
  pub last : u.third ≡ merge.ids.third
  pub marks : u.marks ≡ room.marks
  pub stamps : u.stamps ≡ room.stamps

-- Both sessions have begun: the merge begins with whatever layers are made of them, or with none for want of memory.
pub record HasBegunBoth (m : LeafFiles) (merge : LeafMerge) (old new : Disk) (leaf target : Layer) : Type 0 where
  pub full : BeginsLeafMerge m merge old new (Err seal.NoRoom)
  pub made : (room : LeafRoom) → IsLeafRoom m room → (layers : Layers) (u : Retiring) → AreLeafLayers m merge room leaf target layers u → BeginsLeafMerge m merge old new (Ok layers)
