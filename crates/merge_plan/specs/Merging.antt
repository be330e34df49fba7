-- The files of a merge, and what becomes of their locators.
use Rattle.std.specs.Prelude.{◌≡◌, ◌+◌, ◌≤◌, ℕ, nat_lt, true, false, is_some, List, [], ◌∷◌, ◌++◌, length, Option, Some, None, Result, Ok, Err, if◌then◌else◌}
use Rattle.store_model.specs.Disk.{Disk, WhereTold}
use Rattle.store_model.specs.File.{seen}
use Rattle.store_model.specs.Trace.{file_of}
use Rattle.vx_base.specs.declared.parts.Parts.{Parts}
use Rattle.vhdx_format.specs.declared.locator.Pair.{Pair}
use Rattle.vhdx_format.specs.declared.log_entry.Page.{Page}
use Rattle.vhdx_format.specs.declared.metadata.Metadata.{Metadata}
use Rattle.vhdx_format.specs.Locators.{locator_bytes, locator_len, longest_locator, read_locator}
use Rattle.vhdx_format.specs.MetadataTables.{read_metadata}
use Rattle.vhdx_format.specs.Relinking.{linked_twice, relinked}
use Rattle.vhdx_format.specs.Rules.{BrokenRule}
use Rattle.chain_model.specs.Members.{IsParentOf, Member}
use Rattle.meta_edit.specs.declared.ItemKind.TheVariants.{Locator}
use Rattle.meta_edit.specs.Edits.{changed_item, region_of, with_region}
use Rattle.meta_edit.specs.Pages.{ArePages, with_pages}
use Rattle.link_rules.specs.Chains.{is_among, names_of}
use Rattle.link_rules.specs.declared.linked.LinkedFile.{LinkedFile}

-- ---- which files

-- The files of a chain in whose middle is a merge: the source, which is merged; its parent, the target; and the child, which stands
-- directly above the source.
pub record MergeFiles : Type 0 where
  pub above : List LinkedFile
  pub child : LinkedFile
  pub source : LinkedFile
  pub target : LinkedFile
  pub below : List LinkedFile

-- they are these files, and the source has this name
pub record AreOf (files : List LinkedFile) (name : List ℕ) (m : MergeFiles) : Type 0 where
  pub files_are : files ≡ m.above ++ m.child ∷ m.source ∷ m.target ∷ m.below
  pub named : m.source.name ≡ name

-- their places in the chain, counted from the leaf, which has 0
abbrev pub child_place : MergeFiles → ℕ
child_place m = length m.above

abbrev pub source_place : MergeFiles → ℕ
source_place m = length m.above + 1

-- none of these files has the name
abbrev pub HasNone : List LinkedFile → List ℕ → Type 0
HasNone files name = is_among name (names_of files) ≡ false

-- the file of this name is the last one, which has no parent
pub record HasLast (files : List LinkedFile) (name : List ℕ) : Type 0 where
  pub above : List LinkedFile
  pub source : LinkedFile
  pub files_are : files ≡ above ++ source ∷ []
  pub named : source.name ≡ name

-- it is the first one, the leaf, and has a parent
pub record HasFirst (files : List LinkedFile) (name : List ℕ) : Type 0 where
  pub source : LinkedFile
  pub target : LinkedFile
  pub below : List LinkedFile
  pub files_are : files ≡ source ∷ target ∷ below
  pub named : source.name ≡ name

-- ---- their locators

abbrev pub pairs_or_none : Result (List Pair) BrokenRule → List Pair
pairs_or_none (Ok pairs) = pairs
pairs_or_none (Err rule) = []

-- the pairs of a file's locator, where it has one that keeps the rules
abbrev pub locator_pairs : Option (List ℕ) → List Pair
locator_pairs None = []
locator_pairs (Some item) = pairs_or_none (read_locator item)

-- The source's, once it is linked to the target by the target's identifier as it was found and by the one that it gets.
abbrev pub twice_pairs : MergeFiles → List ℕ → List Pair
twice_pairs m new = linked_twice m.target.parts.header.data_write new (locator_pairs m.source.parts.locator)

-- The child's, once it is linked to the target by the identifier that the target gets.
abbrev pub relinked_pairs : MergeFiles → List ℕ → List Pair
relinked_pairs m new = relinked new m.target.name (locator_pairs m.child.parts.locator)

-- the length of the first of two locators that is too long to be written
abbrev pub first_long : List Pair → List Pair → Option ℕ
first_long twice once =
    if nat_lt longest_locator (locator_len twice) then Some (locator_len twice)
    else if nat_lt longest_locator (locator_len once) then Some (locator_len once)
    else None

-- ---- pages

-- The pages turn each file that has this metadata's region into the one with another region, and change no other byte.
abbrev pub TurnRegion : Parts → List ℕ → List ℕ → List Page → Type 0
TurnRegion parts old new pages =
    (file : List ℕ) → parts.meta_at + parts.meta_len ≤ length file → region_of parts file ≡ old → with_pages pages file ≡ with_region parts file new

-- The region with the locator of these pairs in it is read with that locator, and else as before.
abbrev pub IsReadWith : Parts → List Pair → List ℕ → List ℕ → Type 0
IsReadWith parts pairs old new =
    (m : Metadata) → read_metadata old parts.bat_len ≡ Ok m → read_metadata new parts.bat_len ≡ Ok (record m { locator = Some (locator_bytes pairs) })

-- The pages turn the region of a file with these bytes into the one that has the locator of these pairs, where it stood or where there
-- is room; and that one is read with it.
pub record GivesLocator (parts : Parts) (bytes : List ℕ) (pairs : List Pair) (pages : List Page) : Type 0 where
  pub region : List ℕ
  pub changed : changed_item Locator parts (locator_bytes pairs) bytes ≡ Some region
  pub long : length region ≡ parts.meta_len
  pub turn : TurnRegion parts (region_of parts bytes) region pages
  pub reads : IsReadWith parts pairs (region_of parts bytes) region

-- These pages, which lie whole in the metadata's region, give the file of this number the locator of these pairs.
pub record HasPages (parts : Parts) (number : ℕ) (disk : Disk) (pairs : List Pair) (pages : List Page) : Type 0 where
  pub pages_are : ArePages parts pages
  pub few : length pages ≤ 22
  pub told : WhereTold disk.told (λ trace. GivesLocator parts (seen (file_of trace number)) pairs pages)

-- A locator of these pairs is short enough to be written, is read back as these pairs, and is written by these pages.
pub record WritesLocator (parts : Parts) (number : ℕ) (disk : Disk) (pairs : List Pair) (pages : List Page) : Type 0 where
  pub short : locator_len pairs ≤ longest_locator
  pub is_read : read_locator (locator_bytes pairs) ≡ Ok pairs
  pub has : HasPages parts number disk pairs pages

-- there is no room for it in the metadata of the file of this number; or there is
abbrev pub LacksRoom : Parts → ℕ → Disk → List Pair → Type 0
LacksRoom parts number disk pairs = WhereTold disk.told (λ trace. changed_item Locator parts (locator_bytes pairs) (seen (file_of trace number)) ≡ None)

abbrev pub HasRoom : Parts → ℕ → Disk → List Pair → Type 0
HasRoom parts number disk pairs = WhereTold disk.told (λ trace. is_some (changed_item Locator parts (locator_bytes pairs) (seen (file_of trace number))) ≡ true)

-- ---- as a chain sees them

-- a file of a chain with this geometry and a parent, and with the locator that is written of these pairs
pub record HasLocator (file : LinkedFile) (pairs : List Pair) (member : Member) : Type 0 where
  pub parent : member.ties.parent ≡ true
  pub locator : member.ties.locator ≡ Some (locator_bytes pairs)
  pub geometry : member.ties.geometry ≡ file.parts.geometry

-- a file of a chain with the name and the geometry of this one, and with this identifier
pub record IsKnownBy (file : LinkedFile) (id : List ℕ) (member : Member) : Type 0 where
  pub name : member.name ≡ file.name
  pub id_is : member.ties.id ≡ id
  pub geometry : member.ties.geometry ≡ file.parts.geometry

-- With its new locator the source has the target for its parent, under the identifier that it had and under the one that it gets. With
-- its own new locator the child has the target, under the one that it gets.
pub record KeepsLinks (m : MergeFiles) (new : List ℕ) : Type 0 where
  pub found : (source target : Member) → HasLocator m.source (twice_pairs m new) source → IsKnownBy m.target m.target.parts.header.data_write target → IsParentOf source target
  pub renewed : (source target : Member) → HasLocator m.source (twice_pairs m new) source → IsKnownBy m.target new target → IsParentOf source target
  pub past : (child target : Member) → HasLocator m.child (relinked_pairs m new) child → IsKnownBy m.target new target → IsParentOf child target
