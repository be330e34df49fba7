-- The steps of a plan.
use Rattle.std.specs.Prelude.{◌≡◌, ⊤, ◌+◌, ◌-◌, ◌^◌, ℕ, min, List, take, drop, Option, Some, None, Ok, option_map}
use Rattle.std.specs.Str.{IsUtf8}
use Rattle.store_model.specs.Disk.{Disk}
use Rattle.vx_base.specs.Fields.{IsBytes, IsGuid}
use Rattle.vx_base.specs.Names.{IsName}
use Rattle.vx_base.specs.declared.parts.Parts.{Parts}
use Rattle.vhdx_format.specs.declared.locator.Pair.{Pair}
use Rattle.vhdx_format.specs.Locators.{read_locator}
use Rattle.layer_session.specs.ReadOnly.{SomeReadFailed}
use Rattle.link_rules.specs.declared.linked.LinkedFile.{LinkedFile}
use Rattle.merge_plan.specs.Drawing.{JudgesDrawn}
use Rattle.merge_plan.specs.Merging.{AreOf, HasFirst, HasLast, HasNone, LacksRoom, MergeFiles, source_place}
use Rattle.merge_plan.specs.declared.finding.Found.{Found}
use Rattle.merge_plan.specs.declared.refusal.PrepareRefusal.{PrepareRefusal}
use Rattle.merge_plan.specs.declared.refusal.PrepareRefusal.TheVariants.{NotInChain, IsBase, LeafSource, LocatorTooLarge, MetadataFull, IdUnfit, Store, NoRoom}

-- the files of a merge that were found among these
abbrev pub files_of : List LinkedFile → Found → MergeFiles
files_of files found = record {
  above = take (found.place - 1) files;
  child = found.child.now;
  source = found.source.now;
  target = found.target.now;
  below = drop (found.place + 2) files;
}

-- these are the chain's files, and the source stands at its place
pub record IsFound (files : List LinkedFile) (found : Found) : Type 0 where
  pub files_are : AreOf files found.source.now.name (files_of files found)
  pub place : source_place (files_of files found) ≡ found.place

-- no files of a merge were found
abbrev pub FindsNone : List LinkedFile → List ℕ → PrepareRefusal → Type 0
FindsNone files name NotInChain = HasNone files name
FindsNone files name IsBase = HasLast files name
FindsNone files name LeafSource = HasFirst files name
FindsNone files name (LocatorTooLarge len) = ⊥
FindsNone files name (MetadataFull file) = ⊥
FindsNone files name (IdUnfit id) = ⊥
FindsNone files name (Store fault) = ⊥
FindsNone files name NoRoom = ⊥

-- ---- locators

-- the file has a locator that keeps the rules
pub record HasSoundLocator (parts : Parts) : Type 0 where
  pub item : List ℕ
  pub locator : parts.locator ≡ Some item
  pub pairs : List Pair
  pub read : read_locator item ≡ Ok pairs

abbrev pub AreBytes : Option (List ℕ) → Type 0
AreBytes None = ⊤
AreBytes (Some item) = IsBytes item

-- what is known of the files by their types
pub record AreTyped (child source target : LinkedFile) : Type 0 where
  pub id : IsGuid target.parts.header.data_write
  pub name : IsName target.name
  pub text : IsUtf8 target.name
  pub source_item : AreBytes source.parts.locator
  pub child_item : AreBytes child.parts.locator

-- a locator is too long, the first of two having this length; or memory ran out
abbrev pub LengthRefuses : Option ℕ → PrepareRefusal → Type 0
LengthRefuses long NotInChain = ⊥
LengthRefuses long IsBase = ⊥
LengthRefuses long LeafSource = ⊥
LengthRefuses long (LocatorTooLarge len) = option_map (λ n. min n (2 ^ 64 - 1)) long ≡ Some len
LengthRefuses long (MetadataFull file) = ⊥
LengthRefuses long (IdUnfit id) = ⊥
LengthRefuses long (Store fault) = ⊥
LengthRefuses long NoRoom = ⊤

-- ---- pages

-- there is no room for a locator of these pairs; or a read failed, or memory ran out
abbrev pub UpdateFails : Parts → ℕ → Disk → Disk → List Pair → PrepareRefusal → Type 0
UpdateFails parts number old new pairs NotInChain = ⊥
UpdateFails parts number old new pairs IsBase = ⊥
UpdateFails parts number old new pairs LeafSource = ⊥
UpdateFails parts number old new pairs (LocatorTooLarge len) = ⊥
UpdateFails parts number old new pairs (MetadataFull file) = (file ≡ number) × LacksRoom parts number old pairs × (new ≡ old)
UpdateFails parts number old new pairs (IdUnfit id) = ⊥
UpdateFails parts number old new pairs (Store fault) = SomeReadFailed old new fault
UpdateFails parts number old new pairs NoRoom = new ≡ old

-- ---- identifiers

-- one is unfit; or a read failed, or memory ran out
abbrev pub JudgeRefuses : List LinkedFile → List (List ℕ) → Disk → Disk → PrepareRefusal → Type 0
JudgeRefuses files drawn old new NotInChain = ⊥
JudgeRefuses files drawn old new IsBase = ⊥
JudgeRefuses files drawn old new LeafSource = ⊥
JudgeRefuses files drawn old new (LocatorTooLarge len) = ⊥
JudgeRefuses files drawn old new (MetadataFull file) = ⊥
JudgeRefuses files drawn old new (IdUnfit id) = JudgesDrawn files old drawn (Some id) × (new ≡ old)
JudgeRefuses files drawn old new (Store fault) = SomeReadFailed old new fault
JudgeRefuses files drawn old new NoRoom = new ≡ old
