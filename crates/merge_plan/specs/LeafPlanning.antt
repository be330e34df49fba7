-- What the plan of the merge of a leaf answers.
use Rattle.std.specs.Prelude.{◌≡◌, ◌^◌, ◌-◌, ℕ, nat_lt, min, true, List, [], ◌∷◌, ◌++◌, Option, Some, None, is_some, option_map, if◌then◌else◌}
use Rattle.store_model.specs.Disk.{Disk}
use Rattle.vhdx_format.specs.declared.locator.Pair.{Pair}
use Rattle.vhdx_format.specs.Locators.{locator_len, longest_locator}
use Rattle.layer_session.specs.ReadOnly.{SomeReadFailed}
use Rattle.link_rules.specs.declared.linked.LinkedFile.{LinkedFile}
use Rattle.make_file.specs.Identifiers.{Draws}
use Rattle.merge_plan.specs.Drawing.{JudgesDrawn, drawn_ids}
use Rattle.merge_plan.specs.Merging.{HasRoom, LacksRoom, WritesLocator}
use Rattle.merge_plan.specs.LeafMerging.{AreOfLeaf, ClearsTarget, HasNameRoom, HasRetiring, KeepsLeafLinked, LacksNameRoom, LeafFiles, linked_pairs}
use Rattle.merge_plan.specs.declared.leaf_drawing.LeafMergeIds.{LeafMergeIds}
use Rattle.merge_plan.specs.declared.leaf.LeafMerge.{LeafMerge}
use Rattle.merge_plan.specs.declared.refusal.PrepareRefusal.{PrepareRefusal}
use Rattle.merge_plan.specs.declared.refusal.PrepareRefusal.TheVariants.{NotInChain, IsBase, LeafSource, LocatorTooLarge, MetadataFull, IdUnfit, Store, NoRoom}

-- the identifiers of the merge of a leaf, in the order in which they are drawn: of the leaf, of the target, and the target's third
abbrev pub leaf_merge_ids : LeafMergeIds → List (List ℕ)
leaf_merge_ids ids = drawn_ids ids.leaf ++ drawn_ids ids.target ++ ids.third ∷ []

-- The files of the merge of the first of these, and the identifiers that were drawn for it.
pub record IsLeafBegun (files : List LinkedFile) (before now : Option (List (List ℕ))) (m : LeafFiles) (ids : LeafMergeIds) : Type 0 where
  pub files_are : AreOfLeaf files m
  pub draws : Draws (leaf_merge_ids ids) before now

-- ---- a merge that is planned

-- There are pages that give the source its new locator, by which it stays linked; pages that clear the target's retired name, where it
-- has one; and pages that retire the source in the target's favour, once it has that locator. And each identifier is fit.
pub record HasLeafPlan (files : List LinkedFile) (disk : Disk) (m : LeafFiles) (merge : LeafMerge) : Type 0 where
  pub fit : JudgesDrawn files disk (leaf_merge_ids merge.ids) None
  pub twice : WritesLocator m.source.parts 0 disk (linked_pairs m merge.ids.target.data_write) merge.twice
  pub clear : ClearsTarget m.target 1 disk merge.clear
  pub retire : HasRetiring m.source.parts 0 disk (linked_pairs m merge.ids.target.data_write) m.target.name merge.retire
  pub links : KeepsLeafLinked m merge.ids.target.data_write

pub record IsLeafPlanned (files : List LinkedFile) (disk : Disk) (before now : Option (List (List ℕ))) (merge : LeafMerge) : Type 0 where
  pub m : LeafFiles
  pub begun : IsLeafBegun files before now m merge.ids
  pub plan : HasLeafPlan files disk m merge

-- ---- one that is refused

-- the length of a locator that is too long to be written
abbrev pub long_len : List Pair → Option ℕ
long_len pairs = if nat_lt longest_locator (locator_len pairs) then Some (locator_len pairs) else None

-- The source's new locator is too long, and has this length, as far as a number of 64 bits can say it.
abbrev pub IsLinkTooLong : ℕ → LeafFiles → LeafMergeIds → Type 0
IsLinkTooLong len m ids = option_map (λ n. min n (2 ^ 64 - 1)) (long_len (linked_pairs m ids.target.data_write)) ≡ Some len

-- it is short enough to be written
abbrev pub IsLinkShort : LeafFiles → LeafMergeIds → Type 0
IsLinkShort m ids = long_len (linked_pairs m ids.target.data_write) ≡ None

-- The file whose metadata have no room for the first of the updates that has none. That the target's retired name is cleared needs none:
-- so it is refused of a store only that doesn't tell its content.
pub data IsLeafFull (disk : Disk) (m : LeafFiles) (ids : LeafMergeIds) : ℕ → Type 0 where
  for_link : LacksRoom m.source.parts 0 disk (linked_pairs m ids.target.data_write) → IsLeafFull disk m ids 0
  for_clearing : disk.told ≡ None → is_some m.target.parts.retired ≡ true → IsLeafFull disk m ids 1
  for_name : HasRoom m.source.parts 0 disk (linked_pairs m ids.target.data_write)
      → LacksNameRoom m.source.parts 0 disk (linked_pairs m ids.target.data_write) m.target.name → IsLeafFull disk m ids 0

pub record IsLeafWithoutRoom (disk : Disk) (file : ℕ) (m : LeafFiles) (ids : LeafMergeIds) : Type 0 where
  pub short : IsLinkShort m ids
  pub full : IsLeafFull disk m ids file

-- All have room, and this identifier is the first that is unfit.
pub record IsLeafUnfit (files : List LinkedFile) (disk : Disk) (id : List ℕ) (m : LeafFiles) (ids : LeafMergeIds) : Type 0 where
  pub short : IsLinkShort m ids
  pub link : HasRoom m.source.parts 0 disk (linked_pairs m ids.target.data_write)
  pub name : HasNameRoom m.source.parts 0 disk (linked_pairs m ids.target.data_write) m.target.name
  pub unfit : JudgesDrawn files disk (leaf_merge_ids ids) (Some id)

-- what stops the merge of a leaf; a fault alone changes the store, in a count of failed reads
abbrev pub StopsLeaf : List LinkedFile → Disk → Disk → LeafFiles → LeafMergeIds → PrepareRefusal → Type 0
StopsLeaf files old new m ids NotInChain = ⊥
StopsLeaf files old new m ids IsBase = ⊥
StopsLeaf files old new m ids LeafSource = ⊥
StopsLeaf files old new m ids (LocatorTooLarge len) = IsLinkTooLong len m ids × (new ≡ old)
StopsLeaf files old new m ids (MetadataFull file) = IsLeafWithoutRoom old file m ids × (new ≡ old)
StopsLeaf files old new m ids (IdUnfit id) = IsLeafUnfit files old id m ids × (new ≡ old)
StopsLeaf files old new m ids (Store fault) = IsLinkShort m ids × SomeReadFailed old new fault
StopsLeaf files old new m ids NoRoom = new ≡ old

pub record IsLeafStopped (files : List LinkedFile) (old new : Disk) (before now : Option (List (List ℕ))) (refusal : PrepareRefusal) : Type 0 where
  pub m : LeafFiles
  pub ids : LeafMergeIds
  pub begun : IsLeafBegun files before now m ids
  pub why : StopsLeaf files old new m ids refusal
