-- The merge of a chain's leaf: its files, and what becomes of their locators and retired names.
use Rattle.std.specs.Prelude.{◌≡◌, ◌≤◌, ℕ, true, is_some, List, ◌∷◌, length, Option, Some, None, Ok}
use Rattle.store_model.specs.Disk.{Disk, WhereTold}
use Rattle.store_model.specs.File.{seen}
use Rattle.store_model.specs.Trace.{file_of}
use Rattle.vx_base.specs.declared.parts.Parts.{Parts}
use Rattle.vhdx_format.specs.declared.locator.Pair.{Pair}
use Rattle.vhdx_format.specs.declared.log_entry.Page.{Page}
use Rattle.vhdx_format.specs.declared.metadata.Metadata.{Metadata}
use Rattle.vhdx_format.specs.Locators.{locator_bytes}
use Rattle.vhdx_format.specs.MetadataTables.{read_metadata}
use Rattle.vhdx_format.specs.Relinking.{linked_twice}
use Rattle.vhdx_format.specs.Updates.{updated}
use Rattle.chain_model.specs.Members.{IsParentOf, Member}
use Rattle.meta_edit.specs.declared.ItemKind.TheVariants.{Locator, Retired}
use Rattle.meta_edit.specs.Edits.{changed_item, flags_of, id_of, is_of_kind, region_of, retired_value}
use Rattle.meta_edit.specs.Pages.{ArePages}
use Rattle.link_rules.specs.declared.linked.LinkedFile.{LinkedFile}
use Rattle.merge_plan.specs.Merging.{HasLocator, IsKnownBy, TurnRegion, locator_pairs}

-- ---- which files

-- The files of a chain whose leaf is merged: the source, which is the leaf and will be retired; its parent, the target, which will be
-- the leaf in its place; and those below.
pub record LeafFiles : Type 0 where
  pub source : LinkedFile
  pub target : LinkedFile
  pub below : List LinkedFile

-- they are these files
abbrev pub AreOfLeaf : List LinkedFile → LeafFiles → Type 0
AreOfLeaf files m = files ≡ m.source ∷ m.target ∷ m.below

-- the pairs of the source's locator, once it is linked to the target by the target's identifier as it was found and by the one that
-- it gets
abbrev pub linked_pairs : LeafFiles → List ℕ → List Pair
linked_pairs m new = linked_twice m.target.parts.header.data_write new (locator_pairs m.source.parts.locator)

-- With them the source has the target for its parent, under the identifier that it had and under the one that it gets.
pub record KeepsLeafLinked (m : LeafFiles) (new : List ℕ) : Type 0 where
  pub found : (source target : Member) → HasLocator m.source (linked_pairs m new) source → IsKnownBy m.target m.target.parts.header.data_write target → IsParentOf source target
  pub renewed : (source target : Member) → HasLocator m.source (linked_pairs m new) source → IsKnownBy m.target new target → IsParentOf source target

-- ---- retired names

-- a region of metadata with the retired item changed or added, so that it gives this name, or none; where there is room
abbrev pub named_region : Option (List ℕ) → List ℕ → Option (List ℕ)
named_region to region = updated region (is_of_kind Retired) (id_of Retired) (flags_of Retired) (retired_value to)

-- the region with this retired name, or with none, is read with it, and else as before
abbrev pub IsReadNaming : Parts → Option (List ℕ) → List ℕ → List ℕ → Type 0
IsReadNaming parts to old new =
    (m : Metadata) → read_metadata old parts.bat_len ≡ Ok m → read_metadata new parts.bat_len ≡ Ok (record m { retired = to })

-- The pages turn this region of a file's metadata, whatever stands elsewhere in the file, into the one that gives this retired name,
-- or none; and that one is read with it.
pub record GivesName (parts : Parts) (old : List ℕ) (to : Option (List ℕ)) (pages : List Page) : Type 0 where
  pub region : List ℕ
  pub changed : named_region to old ≡ Some region
  pub long : length region ≡ parts.meta_len
  pub turn : TurnRegion parts old region pages
  pub reads : IsReadNaming parts to old region

-- What holds of the region of these bytes, once it has the locator of these pairs.
abbrev pub OfLinked : Parts → List ℕ → List Pair → (List ℕ → Type 0) → Type 0
OfLinked parts bytes pairs P = (region : List ℕ) → changed_item Locator parts (locator_bytes pairs) bytes ≡ Some region → P region

-- ---- pages

-- These pages, which lie whole in the metadata's region, clear the retired name of the file of this number, as it was opened.
pub record HasClearing (parts : Parts) (number : ℕ) (disk : Disk) (pages : List Page) : Type 0 where
  pub pages_are : ArePages parts pages
  pub few : length pages ≤ 22
  pub told : WhereTold disk.told (λ trace. GivesName parts (region_of parts (seen (file_of trace number))) None pages)

-- those of the target, where it has a retired name of its own
abbrev pub ClearsTarget : LinkedFile → ℕ → Disk → Option (List Page) → Type 0
ClearsTarget target number disk None = target.parts.retired ≡ None
ClearsTarget target number disk (Some pages) = (is_some target.parts.retired ≡ true) × HasClearing target.parts number disk pages

-- These pages, which lie whole in the metadata's region, give the file of this number this retired name, once it has the locator of
-- these pairs.
pub record HasRetiring (parts : Parts) (number : ℕ) (disk : Disk) (pairs : List Pair) (name : List ℕ) (pages : List Page) : Type 0 where
  pub pages_are : ArePages parts pages
  pub few : length pages ≤ 22
  pub told : WhereTold disk.told (λ trace. OfLinked parts (seen (file_of trace number)) pairs (λ region. GivesName parts region (Some name) pages))

-- in the metadata of the file of this number, once it has the locator of these pairs, there is no room for this retired name; or there is
abbrev pub LacksNameRoom : Parts → ℕ → Disk → List Pair → List ℕ → Type 0
LacksNameRoom parts number disk pairs name = WhereTold disk.told (λ trace. OfLinked parts (seen (file_of trace number)) pairs (λ region. named_region (Some name) region ≡ None))

abbrev pub HasNameRoom : Parts → ℕ → Disk → List Pair → List ℕ → Type 0
HasNameRoom parts number disk pairs name = WhereTold disk.told (λ trace. OfLinked parts (seen (file_of trace number)) pairs (λ region. is_some (named_region (Some name) region) ≡ true))
