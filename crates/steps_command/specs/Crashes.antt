-- What a crash may leave of a folder while a session goes on, and what that is opened to.
use Rattle.std.specs.Prelude.{◌≡◌, ◌<◌, ◌≤◌, ◌+◌, ◌*◌, ⊤, ℕ, Bool, true, List, [], ◌∷◌, length, take, Some}
use Rattle.std.specs.List.{AllByRecursion}
use Rattle.store_model.specs.File.{File, is_synced, seen}
use Rattle.store_model.specs.Folder.{Held, IsFolderImage}
use Rattle.store_model.specs.Trace.{NamedBytes}
use Rattle.torn_match.specs.TornMatches.{HasNoTornMatch}
use Rattle.guest_model.specs.Calls.{Disk}
use Rattle.guest_model.specs.History.{History, replay}
use Rattle.chain_model.specs.Files.{OpensWithin, files_in}
use Rattle.chain_model.specs.Moments.{is_open}
use Rattle.link_rules.specs.Chains.{is_among}
use Rattle.link_rules.specs.Folders.{contents}
use Rattle.layer_session.specs.Unnamed.{NamesNoLog}
use Rattle.vhdx_format.specs.Fields.{megabyte, sector_size}
use Rattle.chain_model.specs.Members.{Way}

-- in no file of an image nothing that a crash tore passes for whole
abbrev pub HaveNoTornMatch : List Held → List NamedBytes → Type 0
HaveNoTornMatch [] [] = ⊤
HaveNoTornMatch [] (f ∷ image) = ⊥
HaveNoTornMatch (held ∷ folder) [] = ⊥
HaveNoTornMatch (held ∷ folder) (f ∷ image) = ((file : File) → held.file ≡ Some file → HasNoTornMatch file f.bytes) × HaveNoTornMatch folder image

-- What a crash may leave of a folder, without a torn match in any file.
pub record IsCleanFolderImage (folder : List Held) (image : List NamedBytes) : Type 0 where
  pub left : IsFolderImage folder image
  pub whole : HaveNoTornMatch folder image

-- each such image is opened, from the leaf's name and by files of its way, to a disk that is this one outside some sectors
abbrev pub EachImageOpens : Way → (ℕ → Bool) → Disk → List Held → Type 0
EachImageOpens leaf among disk folder = (image : List NamedBytes) → IsCleanFolderImage folder image → OpensWithin (files_in image) leaf among disk

-- The disk is that of the first m calls of the history, for some m, outside the sectors that are dirty then and those that the next call
-- names: behind the whole history that is the call that broke the session, if one did.
pub record OpensToFirst (leaf : Way) (opening : Disk) (h : History) (is_broken : ℕ → Bool) (folder : List Held) : Type 0 where
  pub m : ℕ
  pub within : m ≤ length h
  pub opens : EachImageOpens leaf (λ s. is_open sector_size h is_broken m s) (replay sector_size opening (take m h)) folder

-- A file while a session goes on: those of some names may be changed; any other holds what it held, nothing of it being unsynced.
pub data IsSpared (changed : List (List ℕ)) (held : Held) : Held → Type 0 where
  may_change : (file : File) → is_among held.name changed ≡ true → IsSpared changed held (record held { file = Some file })
  untouched : IsSpared changed held held
  attached : (file after : File) → held.file ≡ Some file → seen after ≡ seen file → is_synced after ≡ true → IsSpared changed held (record held { file = Some after })

-- so it is with each file of a folder
abbrev pub AreSpared : List (List ℕ) → List Held → List Held → Type 0
AreSpared changed [] [] = ⊤
AreSpared changed [] (later ∷ now) = ⊥
AreSpared changed (held ∷ folder) [] = ⊥
AreSpared changed (held ∷ folder) (later ∷ now) = IsSpared changed held later × AreSpared changed folder now

-- a file of the folder with one of these names is so many MB long, rounded up
pub record HasLong (names : List (List ℕ)) (next : ℕ) (folder : List Held) : Type 0 where
  pub name : List ℕ
  pub bytes : List ℕ
  pub among : is_among name names ≡ true
  pub there : contents folder name ≡ Some bytes
  pub long : next * megabyte < length bytes + megabyte

-- no file of the folder with one of these names names a log in its current header
abbrev pub NoneNamesLog : List (List ℕ) → List Held → Type 0
NoneNamesLog names folder = AllByRecursion (λ name. (bytes : List ℕ) → contents folder name ≡ Some bytes → NamesNoLog bytes) names
