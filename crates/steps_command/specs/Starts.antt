-- How the session of a script starts: what it may change, what is drawn for it, and what refuses it (profile).
use Rattle.std.specs.Prelude.{◌≡◌, ℕ, Bool, true, false, if◌then◌else◌, is_some, List, [], ◌∷◌, Option, Some, None}
use Rattle.std.specs.Str.{bytes_eq}
use Rattle.store_model.specs.Disk.{WhereTold}
use Rattle.store_model.specs.Folder.{Held}
use Rattle.guest_model.specs.declared.refusal.ChainRefusal.TheVariants.{ReadOnly, Spent}
use Rattle.vhdx_format.specs.Locators.{locator_bytes}
use Rattle.vhdx_format.specs.declared.locator.Pair.{Pair}
use Rattle.make_file.specs.Identifiers.{Draws, first_unfit}
use Rattle.meta_edit.specs.Edits.{changed_item}
use Rattle.meta_edit.specs.declared.ItemKind.TheVariants.{Locator}
use Rattle.link_rules.specs.Folders.{Contents, contents}
use Rattle.link_rules.specs.declared.linked.Linked.{Linked}
use Rattle.link_rules.specs.declared.linked.LinkedFile.{LinkedFile}
use Rattle.merge_plan.specs.Drawing.{drawn_ids, merge_ids}
use Rattle.merge_plan.specs.Merging.{HasLast, HasNone, MergeFiles, relinked_pairs, twice_pairs}
use Rattle.merge_plan.specs.LeafMerging.{LeafFiles, OfLinked, linked_pairs, named_region}
use Rattle.merge_plan.specs.LeafPlanning.{IsLeafBegun, IsLinkShort, IsLinkTooLong, leaf_merge_ids}
use Rattle.merge_plan.specs.Planning.{AreShort, IsBegun, IsTooLong}
use Rattle.merge_plan.specs.declared.drawing.MergeIds.{MergeIds}
use Rattle.merge_plan.specs.declared.drawing.NewIds.{NewIds}
use Rattle.merge_plan.specs.declared.leaf_drawing.LeafMergeIds.{LeafMergeIds}
use Rattle.chain_core.specs.LeafStarting.{spent_leaf}
use Rattle.chain_core.specs.MergeStarting.{spent as high_number}
use Rattle.chain_core.specs.Starting.{BeginsHigh, BeginsLow}
use Rattle.command_base.specs.Folders.{StandsSo}
use Rattle.command_base.specs.Making.{ShowIds}
use Rattle.command_base.specs.Refusals.{Refusal, IdUnfit, IsBase, LocatorTooLarge, MetadataFull, NotInChain, OfCall}

-- ---- which merge

-- the first of these files, the leaf, has this name and a parent: a merge of the file of this name is the leaf's
abbrev pub is_leaf : List LinkedFile → List ℕ → Bool
is_leaf [] name = false
is_leaf (leaf ∷ []) name = false
is_leaf (leaf ∷ target ∷ below) name = bytes_eq leaf.name name

-- ---- what may be changed

-- the name of the first of some files
abbrev pub first_name : List LinkedFile → List (List ℕ)
first_name [] = []
first_name (file ∷ others) = file.name ∷ []

-- the names of source, target and child wherever the source has this name
abbrev pub merged_with : List LinkedFile → List ℕ → List (List ℕ)
merged_with [] name = []
merged_with (child ∷ []) name = []
merged_with (child ∷ source ∷ []) name = []
merged_with (child ∷ source ∷ target ∷ below) name =
    if bytes_eq source.name name then source.name ∷ target.name ∷ child.name ∷ merged_with (source ∷ target ∷ below) name else merged_with (source ∷ target ∷ below) name

-- those of the files that the session of a chain may change: none where they are only read; else the leaf; with a merge of the leaf also its
-- parent, and with one of another file those of that merge
abbrev pub changed_names : Bool → Option (List ℕ) → List LinkedFile → List (List ℕ)
changed_names true merge files = []
changed_names false merge [] = []
changed_names false None (leaf ∷ others) = leaf.name ∷ []
changed_names false (Some name) (leaf ∷ others) = leaf.name ∷ (if is_leaf (leaf ∷ others) name then first_name others else merged_with (leaf ∷ others) name)

-- ---- without a merge

-- The number of the leaf's header leaves room, and three identifiers were drawn for it; of those that are zero, drawn before this one or shown by a file of the chain it is the first.
pub record JudgesDrawn (linked : Linked) (folder : Option (List Held)) (before now : Option (List (List ℕ))) (unfit : Option (List ℕ)) : Type 0 where
  pub unspent : BeginsLow linked.files
  pub ids : NewIds
  pub draws : Draws (drawn_ids ids) before now
  pub known : List (List ℕ)
  pub shown : WhereTold folder (λ f. ShowIds (contents f) linked.files known)
  pub judged : first_unfit known (drawn_ids ids) ≡ unfit

-- ---- with one of a file below the leaf

-- the metadata of a file have room for a locator of these pairs, or have none
abbrev pub HasRoomIn : Contents → LinkedFile → List Pair → Type 0
HasRoomIn files file pairs = StandsSo files file.name (λ bytes. is_some (changed_item Locator file.parts (locator_bytes pairs) bytes) ≡ true)

abbrev pub LacksRoomIn : Contents → LinkedFile → List Pair → Type 0
LacksRoomIn files file pairs = StandsSo files file.name (λ bytes. changed_item Locator file.parts (locator_bytes pairs) bytes ≡ None)

-- the locators that the source gets, and the child
abbrev pub source_pairs : MergeFiles → MergeIds → List Pair
source_pairs m ids = twice_pairs m ids.target.data_write

abbrev pub child_pairs : MergeFiles → MergeIds → List Pair
child_pairs m ids = relinked_pairs m ids.target.data_write

-- the first of source and child whose metadata have no room has this name
pub data IsFullIn (files : Contents) (m : MergeFiles) (ids : MergeIds) : List ℕ → Type 0 where
  in_source : LacksRoomIn files m.source (source_pairs m ids) → IsFullIn files m ids m.source.name
  in_child : HasRoomIn files m.source (source_pairs m ids) → LacksRoomIn files m.child (child_pairs m ids) → IsFullIn files m ids m.child.name

-- No header's number leaves too little room. A merge of the file of this name has its files, and the identifiers that were drawn for it, for
-- the child where it isn't the leaf. Both locators are short enough, and there is room for them; of the identifiers that are zero, drawn before this one or shown by a file of
-- the chain it is the first.
pub record JudgesMerge (linked : Linked) (name : List ℕ) (folder : Option (List Held)) (before now : Option (List (List ℕ))) (unfit : Option (List ℕ)) : Type 0 where
  pub m : MergeFiles
  pub ids : MergeIds
  pub unspent : high_number linked.files name ≡ None
  pub begun : IsBegun linked.files name before now m ids
  pub short : AreShort m ids
  pub source : WhereTold folder (λ f. HasRoomIn (contents f) m.source (source_pairs m ids))
  pub child : WhereTold folder (λ f. HasRoomIn (contents f) m.child (child_pairs m ids))
  pub known : List (List ℕ)
  pub shown : WhereTold folder (λ f. ShowIds (contents f) linked.files known)
  pub judged : first_unfit known (merge_ids ids) ≡ unfit

-- What refuses a merge of a file that isn't the leaf: the number of a header; where none does, that the file is none of the chain, or its
-- last; then, with identifiers drawn, a locator, the metadata of a file, or an identifier.
pub data RefusesMerge (linked : Linked) (name : List ℕ) (folder : Option (List Held)) (before now : Option (List (List ℕ))) : Refusal → Type 0 where
  is_spent : (number : ℕ) → high_number linked.files name ≡ Some number → now ≡ before → RefusesMerge linked name folder before now (OfCall (Spent number))
  not_in_chain : high_number linked.files name ≡ None → HasNone linked.files name → now ≡ before → RefusesMerge linked name folder before now (NotInChain name)
  is_base : high_number linked.files name ≡ None → HasLast linked.files name → now ≡ before → RefusesMerge linked name folder before now (IsBase name)
  locator_too_large : (m : MergeFiles) (ids : MergeIds) (len : ℕ) → high_number linked.files name ≡ None → IsBegun linked.files name before now m ids → IsTooLong len m ids → RefusesMerge linked name folder before now (LocatorTooLarge len)
  metadata_full : (m : MergeFiles) (ids : MergeIds) (file : List ℕ) → high_number linked.files name ≡ None → IsBegun linked.files name before now m ids → AreShort m ids → WhereTold folder (λ f. IsFullIn (contents f) m ids file)
      → RefusesMerge linked name folder before now (MetadataFull file)
  is_unfit : (id : List ℕ) → JudgesMerge linked name folder before now (Some id) → RefusesMerge linked name folder before now (IdUnfit id)

-- ---- with one of the leaf

-- the locator that the leaf gets
abbrev pub leaf_pairs : LeafFiles → LeafMergeIds → List Pair
leaf_pairs m ids = linked_pairs m ids.target.data_write

-- the metadata of a file, once it has the locator of these pairs, have room for this retired name, or have none
abbrev pub HasNameRoomIn : Contents → LinkedFile → List Pair → List ℕ → Type 0
HasNameRoomIn files file pairs name = StandsSo files file.name (λ bytes. OfLinked file.parts bytes pairs (λ region. is_some (named_region (Some name) region) ≡ true))

abbrev pub LacksNameRoomIn : Contents → LinkedFile → List Pair → List ℕ → Type 0
LacksNameRoomIn files file pairs name = StandsSo files file.name (λ bytes. OfLinked file.parts bytes pairs (λ region. named_region (Some name) region ≡ None))

-- the file whose metadata have no room is the leaf: for its locator, or then for its retired name, which is the target's
pub data IsLeafFullIn (files : Contents) (m : LeafFiles) (ids : LeafMergeIds) : List ℕ → Type 0 where
  for_link : LacksRoomIn files m.source (leaf_pairs m ids) → IsLeafFullIn files m ids m.source.name
  for_name : HasRoomIn files m.source (leaf_pairs m ids) → LacksNameRoomIn files m.source (leaf_pairs m ids) m.target.name → IsLeafFullIn files m ids m.source.name

-- Neither header's number leaves too little room. A merge of the leaf has its files, and the identifiers that were drawn for it. The locator
-- is short enough, and there is room for it and for the retired name; of the identifiers that are zero, drawn before this one or
-- shown by a file of the chain it is the first.
pub record JudgesLeafMerge (linked : Linked) (folder : Option (List Held)) (before now : Option (List (List ℕ))) (unfit : Option (List ℕ)) : Type 0 where
  pub m : LeafFiles
  pub ids : LeafMergeIds
  pub unspent : spent_leaf linked.files ≡ None
  pub begun : IsLeafBegun linked.files before now m ids
  pub short : IsLinkShort m ids
  pub link : WhereTold folder (λ f. HasRoomIn (contents f) m.source (leaf_pairs m ids))
  pub retired : WhereTold folder (λ f. HasNameRoomIn (contents f) m.source (leaf_pairs m ids) m.target.name)
  pub known : List (List ℕ)
  pub shown : WhereTold folder (λ f. ShowIds (contents f) linked.files known)
  pub judged : first_unfit known (leaf_merge_ids ids) ≡ unfit

-- What refuses a merge of the leaf: the number of a header; then, with identifiers drawn, its locator, its metadata, or an identifier.
pub data RefusesLeafMerge (linked : Linked) (folder : Option (List Held)) (before now : Option (List (List ℕ))) : Refusal → Type 0 where
  leaf_spent : (number : ℕ) → spent_leaf linked.files ≡ Some number → now ≡ before → RefusesLeafMerge linked folder before now (OfCall (Spent number))
  link_too_large : (m : LeafFiles) (ids : LeafMergeIds) (len : ℕ) → spent_leaf linked.files ≡ None → IsLeafBegun linked.files before now m ids → IsLinkTooLong len m ids → RefusesLeafMerge linked folder before now (LocatorTooLarge len)
  leaf_full : (m : LeafFiles) (ids : LeafMergeIds) (file : List ℕ) → spent_leaf linked.files ≡ None → IsLeafBegun linked.files before now m ids → IsLinkShort m ids → WhereTold folder (λ f. IsLeafFullIn (contents f) m ids file)
      → RefusesLeafMerge linked folder before now (MetadataFull file)
  leaf_unfit : (id : List ℕ) → JudgesLeafMerge linked folder before now (Some id) → RefusesLeafMerge linked folder before now (IdUnfit id)

-- ---- whichever it is

-- with the merge of the file of this name, which is the leaf, or isn't
abbrev pub JudgesMergeOf : Bool → Linked → List ℕ → Option (List Held) → Option (List (List ℕ)) → Option (List (List ℕ)) → Option (List ℕ) → Type 0
JudgesMergeOf true linked name folder before now unfit = JudgesLeafMerge linked folder before now unfit
JudgesMergeOf false linked name folder before now unfit = JudgesMerge linked name folder before now unfit

-- what a session draws that runs, where files are only read or not, with this merge if it has one
abbrev pub DrawsFor : Bool → Option (List ℕ) → Linked → Option (List Held) → Option (List (List ℕ)) → Option (List (List ℕ)) → Type 0
DrawsFor false None linked folder before now = JudgesDrawn linked folder before now None
DrawsFor true None linked folder before now = now ≡ before
DrawsFor false (Some name) linked folder before now = JudgesMergeOf (is_leaf linked.files name) linked name folder before now None
DrawsFor true (Some name) linked folder before now = ⊥

-- what refuses a session over a chain; a merge where files are only read is refused before anything else is looked at
pub data RefusesSession (read_only : Bool) (linked : Linked) (folder : Option (List Held)) (before now : Option (List (List ℕ))) : Option (List ℕ) → Refusal → Type 0 where
  spent : (number : ℕ) → BeginsHigh linked.files number → now ≡ before → RefusesSession read_only linked folder before now None (OfCall (Spent number))
  id_unfit : (id : List ℕ) → JudgesDrawn linked folder before now (Some id) → RefusesSession read_only linked folder before now None (IdUnfit id)
  merge_in_reading : (name : List ℕ) → read_only ≡ true → now ≡ before → RefusesSession read_only linked folder before now (Some name) (OfCall ReadOnly)
  refuses_leaf_merge : (name : List ℕ) (refusal : Refusal) → read_only ≡ false → is_leaf linked.files name ≡ true → RefusesLeafMerge linked folder before now refusal
      → RefusesSession read_only linked folder before now (Some name) refusal
  refuses_merge : (name : List ℕ) (refusal : Refusal) → read_only ≡ false → is_leaf linked.files name ≡ false → RefusesMerge linked name folder before now refusal
      → RefusesSession read_only linked folder before now (Some name) refusal
