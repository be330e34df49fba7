-- What the plan of a merge answers.
use Rattle.std.specs.Prelude.{◌≡◌, ◌^◌, ◌-◌, ℕ, nat_lt, min, List, Option, Some, None, is_some, option_map}
use Rattle.store_model.specs.Disk.{Disk}
use Rattle.layer_session.specs.ReadOnly.{SomeReadFailed}
use Rattle.link_rules.specs.declared.linked.LinkedFile.{LinkedFile}
use Rattle.make_file.specs.Identifiers.{Draws}
use Rattle.merge_plan.specs.Drawing.{JudgesDrawn, merge_ids}
use Rattle.merge_plan.specs.Merging.{AreOf, HasFirst, HasLast, HasNone, HasRoom, KeepsLinks, LacksRoom, MergeFiles, WritesLocator, child_place, first_long, relinked_pairs, source_place, twice_pairs}
use Rattle.merge_plan.specs.declared.drawing.MergeIds.{MergeIds}
use Rattle.merge_plan.specs.declared.merge.Merge.{Merge}
use Rattle.merge_plan.specs.declared.refusal.PrepareRefusal.{PrepareRefusal}
use Rattle.merge_plan.specs.declared.refusal.PrepareRefusal.TheVariants.{NotInChain, IsBase, LeafSource, LocatorTooLarge, MetadataFull, IdUnfit, Store, NoRoom}

-- The files of the merge of the file of this name, and the identifiers that were drawn for it, for the child where it isn't the leaf.
pub record IsBegun (files : List LinkedFile) (name : List ℕ) (before now : Option (List (List ℕ))) (m : MergeFiles) (ids : MergeIds) : Type 0 where
  pub files_are : AreOf files name m
  pub child : is_some ids.child ≡ nat_lt 0 (child_place m)
  pub draws : Draws (merge_ids ids) before now

-- ---- a merge that is planned

-- For source and child pages that give them their new locators, by which the chain stays linked; and each identifier is fit.
pub record HasPlan (files : List LinkedFile) (disk : Disk) (m : MergeFiles) (merge : Merge) : Type 0 where
  pub place : merge.source ≡ source_place m
  pub fit : JudgesDrawn files disk (merge_ids merge.ids) None
  pub twice : WritesLocator m.source.parts (source_place m) disk (twice_pairs m merge.ids.target.data_write) merge.twice
  pub relink : WritesLocator m.child.parts (child_place m) disk (relinked_pairs m merge.ids.target.data_write) merge.relink
  pub links : KeepsLinks m merge.ids.target.data_write

pub record IsPlanned (files : List LinkedFile) (name : List ℕ) (disk : Disk) (before now : Option (List (List ℕ))) (merge : Merge) : Type 0 where
  pub m : MergeFiles
  pub begun : IsBegun files name before now m merge.ids
  pub plan : HasPlan files disk m merge

-- ---- one that is refused

-- The first of the two locators that is too long has this length, as far as a number of 64 bits can say it.
abbrev pub IsTooLong : ℕ → MergeFiles → MergeIds → Type 0
IsTooLong len m ids = option_map (λ n. min n (2 ^ 64 - 1)) (first_long (twice_pairs m ids.target.data_write) (relinked_pairs m ids.target.data_write)) ≡ Some len

-- both are short enough to be written
abbrev pub AreShort : MergeFiles → MergeIds → Type 0
AreShort m ids = first_long (twice_pairs m ids.target.data_write) (relinked_pairs m ids.target.data_write) ≡ None

-- the first of the two files whose metadata have no room for its locator
pub data IsFull (disk : Disk) (m : MergeFiles) (ids : MergeIds) : ℕ → Type 0 where
  in_source : LacksRoom m.source.parts (source_place m) disk (twice_pairs m ids.target.data_write) → IsFull disk m ids (source_place m)
  in_child : HasRoom m.source.parts (source_place m) disk (twice_pairs m ids.target.data_write)
      → LacksRoom m.child.parts (child_place m) disk (relinked_pairs m ids.target.data_write) → IsFull disk m ids (child_place m)

pub record IsWithoutRoom (disk : Disk) (file : ℕ) (m : MergeFiles) (ids : MergeIds) : Type 0 where
  pub short : AreShort m ids
  pub full : IsFull disk m ids file

-- Both have room, and this identifier is the first that is unfit.
pub record IsUnfit (files : List LinkedFile) (disk : Disk) (id : List ℕ) (m : MergeFiles) (ids : MergeIds) : Type 0 where
  pub short : AreShort m ids
  pub source : HasRoom m.source.parts (source_place m) disk (twice_pairs m ids.target.data_write)
  pub child : HasRoom m.child.parts (child_place m) disk (relinked_pairs m ids.target.data_write)
  pub unfit : JudgesDrawn files disk (merge_ids ids) (Some id)

-- what stops a merge that was begun; a fault alone changes the store, in a count of failed reads
abbrev pub Stops : List LinkedFile → Disk → Disk → MergeFiles → MergeIds → PrepareRefusal → Type 0
Stops files old new m ids NotInChain = ⊥
Stops files old new m ids IsBase = ⊥
Stops files old new m ids LeafSource = ⊥
Stops files old new m ids (LocatorTooLarge len) = IsTooLong len m ids × (new ≡ old)
Stops files old new m ids (MetadataFull file) = IsWithoutRoom old file m ids × (new ≡ old)
Stops files old new m ids (IdUnfit id) = IsUnfit files old id m ids × (new ≡ old)
Stops files old new m ids (Store fault) = AreShort m ids × SomeReadFailed old new fault
Stops files old new m ids NoRoom = new ≡ old

pub record IsStopped (files : List LinkedFile) (name : List ℕ) (old new : Disk) (before now : Option (List (List ℕ))) (refusal : PrepareRefusal) : Type 0 where
  pub m : MergeFiles
  pub ids : MergeIds
  pub begun : IsBegun files name before now m ids
  pub why : Stops files old new m ids refusal

-- Why no merge is planned: the file of the name can't be a source, and nothing is drawn or changed; or what stops a merge that was begun.
abbrev pub Refuses : List LinkedFile → List ℕ → Disk → Disk → Option (List (List ℕ)) → Option (List (List ℕ)) → PrepareRefusal → Type 0
Refuses files name old new before now NotInChain = HasNone files name × (now ≡ before) × (new ≡ old)
Refuses files name old new before now IsBase = HasLast files name × (now ≡ before) × (new ≡ old)
Refuses files name old new before now LeafSource = HasFirst files name × (now ≡ before) × (new ≡ old)
Refuses files name old new before now (LocatorTooLarge len) = IsStopped files name old new before now (LocatorTooLarge len)
Refuses files name old new before now (MetadataFull file) = IsStopped files name old new before now (MetadataFull file)
Refuses files name old new before now (IdUnfit id) = IsStopped files name old new before now (IdUnfit id)
Refuses files name old new before now (Store fault) = IsStopped files name old new before now (Store fault)
Refuses files name old new before now NoRoom = IsStopped files name old new before now NoRoom
