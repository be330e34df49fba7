-- The steps of the plan of a leaf's merge.
use Rattle.std.specs.Prelude.{◌≡◌, ⊤, ◌≤◌, ℕ, true, is_some, List, drop, length, Option, Some, None}
use Rattle.std.specs.Str.{IsUtf8}
use Rattle.store_model.specs.Disk.{Disk, WhereTold}
use Rattle.vx_base.specs.Fields.{IsGuid}
use Rattle.vx_base.specs.Names.{IsName}
use Rattle.vx_base.specs.declared.parts.Parts.{Parts}
use Rattle.vhdx_format.specs.declared.log_entry.Page.{Page}
use Rattle.layer_session.specs.ReadOnly.{SomeReadFailed}
use Rattle.meta_edit.specs.Edits.{region_of}
use Rattle.meta_edit.specs.Pages.{ArePages, laid_file}
use Rattle.link_rules.specs.declared.linked.LinkedFile.{LinkedFile}
use Rattle.merge_plan.specs.LeafMerging.{GivesName, LeafFiles, named_region}
use Rattle.merge_plan.specs.Steps.{AreBytes}
use Rattle.merge_plan.specs.declared.refusal.PrepareRefusal.{PrepareRefusal}
use Rattle.merge_plan.specs.declared.refusal.PrepareRefusal.TheVariants.{NotInChain, IsBase, LeafSource, LocatorTooLarge, MetadataFull, IdUnfit, Store, NoRoom}

-- the files of the merge of the first of these into the second
abbrev pub leaf_files : LinkedFile → LinkedFile → List LinkedFile → LeafFiles
leaf_files source target files = record { source = source; target = target; below = drop 2 files }

-- what is known of them by their types
pub record AreTypedOfLeaf (source target : LinkedFile) : Type 0 where
  pub id : IsGuid target.parts.header.data_write
  pub item : AreBytes source.parts.locator

-- a name, where there is one
abbrev pub IsNameOrNone : Option (List ℕ) → Type 0
IsNameOrNone None = ⊤
IsNameOrNone (Some name) = IsName name × IsUtf8 name

-- ---- pages

-- These pages, which lie whole in the metadata's region, give the file of this number, once it has the earlier ones, this retired name
-- or none.
pub record HasNaming (parts : Parts) (number : ℕ) (over : List Page) (disk : Disk) (to : Option (List ℕ)) (pages : List Page) : Type 0 where
  pub pages_are : ArePages parts pages
  pub few : length pages ≤ 22
  pub told : WhereTold disk.told (λ trace. GivesName parts (region_of parts (laid_file trace number over)) to pages)

-- there is no room for it
abbrev pub LacksNaming : Parts → ℕ → List Page → Disk → Option (List ℕ) → Type 0
LacksNaming parts number over disk to = WhereTold disk.told (λ trace. named_region to (region_of parts (laid_file trace number over)) ≡ None)

-- there is no room; or a read failed, or memory ran out
abbrev pub NamingFails : Parts → ℕ → List Page → Disk → Disk → Option (List ℕ) → PrepareRefusal → Type 0
NamingFails parts number over old new to NotInChain = ⊥
NamingFails parts number over old new to IsBase = ⊥
NamingFails parts number over old new to LeafSource = ⊥
NamingFails parts number over old new to (LocatorTooLarge len) = ⊥
NamingFails parts number over old new to (MetadataFull file) = (file ≡ number) × LacksNaming parts number over old to × (new ≡ old)
NamingFails parts number over old new to (IdUnfit id) = ⊥
NamingFails parts number over old new to (Store fault) = SomeReadFailed old new fault
NamingFails parts number over old new to NoRoom = new ≡ old

-- the target's retired name isn't cleared: for want of room only of a store that doesn't tell its content
abbrev pub ClearingFails : LinkedFile → Disk → Disk → PrepareRefusal → Type 0
ClearingFails target old new NotInChain = ⊥
ClearingFails target old new IsBase = ⊥
ClearingFails target old new LeafSource = ⊥
ClearingFails target old new (LocatorTooLarge len) = ⊥
ClearingFails target old new (MetadataFull file) = (file ≡ 1) × (old.told ≡ None) × (is_some target.parts.retired ≡ true) × (new ≡ old)
ClearingFails target old new (IdUnfit id) = ⊥
ClearingFails target old new (Store fault) = SomeReadFailed old new fault
ClearingFails target old new NoRoom = new ≡ old
