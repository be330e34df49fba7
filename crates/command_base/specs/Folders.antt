-- The files of a folder between two commands, and what following a leaf's name leaves of them.
use Rattle.std.specs.Prelude.{◌≡◌, ℕ, List, ◌∷◌, ◌++◌, Option, Some, Ok, All}
use Rattle.store_model.specs.Disk.{WhereTold}
use Rattle.store_model.specs.File.{File}
use Rattle.store_model.specs.Folder.{Held, Hosted, Returned}
use Rattle.vhdx_format.specs.SettledFiles.{StandsFor}
use Rattle.chain_model.specs.Files.{Files, IsLinked}
use Rattle.chain_model.specs.Members.{Member, names_of}
use Rattle.link_rules.specs.Chains.{Links}
use Rattle.link_rules.specs.Effects.{KeepsEach, Replays, linked_names}
use Rattle.link_rules.specs.Folders.{Contents, contents}
use Rattle.link_rules.specs.Laws.{at_rest_all}
use Rattle.link_rules.specs.Touches.{AreSafe, IsOnWay}
use Rattle.link_rules.specs.declared.linked.Linked.{Linked}

-- no file is away
abbrev pub AllHome : List Held → Type 0
AllHome folder = All (λ held. (file : File) × (held.file ≡ Some file)) folder

-- P of the store that came back last of those that did between two moments of a host, where it tells them
abbrev pub LastReturned : (Returned → Type 0) → Hosted → Hosted → Type 0
LastReturned P old new = WhereTold new.past (λ now. (before : List Returned) × (old.past ≡ Some before) × (last : Returned) × (between : List Returned) × (now ≡ last ∷ between ++ before) × P last)

-- the files of a folder, among which a chain is opened
abbrev pub files_of : List Held → Files
files_of folder = at_rest_all (contents folder)

-- among these files the leaf's name leads to a chain of files of these names, retired leaves before it left out
pub record LeadsTo (files : Files) (leaf : List ℕ) (names : List (List ℕ)) : Type 0 where
  pub retired : List Member
  pub chain : List Member
  pub linked : IsLinked files leaf retired chain
  pub are : names_of chain ≡ names

-- A leaf's name was followed: no file was touched but those on the way, and each is opened as it was.
pub record IsFollowed (leaf : List ℕ) (folder now : List Held) : Type 0 where
  pub safe : AreSafe (IsOnWay (contents folder) leaf) folder now
  pub alike : KeepsEach (contents folder) (contents now)

abbrev pub OnlyFollows : List ℕ → Option (List Held) → Option (List Held) → Type 0
OnlyFollows leaf before now = WhereTold before (λ folder. (after : List Held) × (now ≡ Some after) × IsFollowed leaf folder after)

-- The files that were opened hold what they stood for, and no other was touched. Where the leaf's name leads to a chain they are
-- the chain's files and the retired leaves before it.
pub record AreReplayed (leaf : List ℕ) (old new : Contents) : Type 0 where
  pub opened : List (List ℕ)
  pub replays : Replays opened old new
  pub all : (linked : Linked) → Links old leaf (Ok linked) → opened ≡ linked_names linked

abbrev pub IsReplayedIn : List ℕ → Option (List Held) → Option (List Held) → Type 0
IsReplayedIn leaf before now = WhereTold before (λ folder. WhereTold now (λ after. AreReplayed leaf (contents folder) (contents after)))

-- what the file of this name stands for is so
pub record StandsSo (files : Contents) (name : List ℕ) (is_so : List ℕ → Type 0) : Type 0 where
  pub bytes : List ℕ
  pub settled : List ℕ
  pub there : files name ≡ Some bytes
  pub stands : StandsFor bytes settled
  pub so : is_so settled
