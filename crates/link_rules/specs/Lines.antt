-- What holds of the files that were linked, whether the host tells its files or not.
use Rattle.std.specs.Prelude.{◌≡◌, ◌<◌, ◌≤◌, ◌+◌, ℕ, false, All, IfSome, List, [], ◌∷◌, ◌++◌, length, Option, Some, None}
use Rattle.vhdx_format.specs.declared.locator.Pair.{Pair}
use Rattle.chain_model.specs.Members.{NoneTwice}
use Rattle.link_rules.specs.Chains.{IsLinkedTo, NamesParent, is_among, most_files, names_of, taken_names}
use Rattle.link_rules.specs.Effects.{IsServed, found_names, linked_names}
use Rattle.link_rules.specs.declared.linked.Linked.{Linked}
use Rattle.link_rules.specs.declared.linked.LinkedFile.{LinkedFile}
use Rattle.link_rules.specs.declared.retired.Found.{Found}
use Rattle.link_rules.specs.declared.retired.Look.{Look}

-- The file's locator names the other, and has its identifier, first or second; both have one geometry.
pub record IsFollowedBy (child parent : LinkedFile) : Type 0 where
  pub pairs : List Pair
  pub names : NamesParent child.parts pairs parent.name
  pub linked : IsLinkedTo pairs parent.parts.header.data_write
  pub geometry : parent.parts.geometry ≡ child.parts.geometry

-- Each file is followed by its parent, and the last one has none.
abbrev pub IsLine : List LinkedFile → Type 0
IsLine [] = ⊥
IsLine (file ∷ []) = file.parts.parent ≡ false
IsLine (file ∷ parent ∷ others) = IsFollowedBy file parent × IsLine (parent ∷ others)

-- this one is the first of a list
pub record BeginsWith {A : Type 0} (first : A) (items : List A) : Type 0 where
  pub rest : List A
  pub is : items ≡ first ∷ rest

-- The leaf's name is the first of all names, none of which stands twice, and the files are a line.
pub record IsLinkedUp (leaf : List ℕ) (linked : Linked) : Type 0 where
  pub begins : BeginsWith leaf (linked_names linked)
  pub once : NoneTwice (linked_names linked)
  pub line : IsLine linked.files

-- ---- of the small functions

-- a parent that was opened: it follows its child, and its name wasn't met before
pub record IsNextFile (retired : List (List ℕ)) (above : List LinkedFile) (child file : LinkedFile) : Type 0 where
  pub followed : IsFollowedBy child file
  pub is_new : is_among file.name (taken_names retired above child) ≡ false
  pub fits : length above + 1 < most_files
  pub served : IsServed file

abbrev pub IsParentFound : List (List ℕ) → List LinkedFile → LinkedFile → Option LinkedFile → Type 0
IsParentFound retired above child None = child.parts.parent ≡ false
IsParentFound retired above child (Some file) = IsNextFile retired above child file

-- a file that retired leaves led to, and the name that stands for it if it is one, which wasn't met before
pub record IsSeen (retired : List (List ℕ)) (name : List ℕ) (look : Look) : Type 0 where
  pub named : look.file.name ≡ name
  pub served : IsServed look.file
  pub fresh : IfSome look.next (λ next. is_among next (retired ++ name ∷ []) ≡ false)

-- what a leaf's name led to
pub record IsFoundFrom (leaf : List ℕ) (found : Found) : Type 0 where
  pub begins : BeginsWith leaf (found_names found)
  pub once : NoneTwice (found_names found)
  pub served : IsServed found.leaf

-- the files from a leaf to the base
pub record IsReadFrom (retired : List (List ℕ)) (leaf : LinkedFile) (files : List LinkedFile) : Type 0 where
  pub few : length files ≤ most_files
  pub begins : BeginsWith leaf files
  pub once : NoneTwice (retired ++ names_of files)
  pub line : IsLine files
  pub served : All IsServed files
