-- Which files linking touches, and that each image of them opens as it did.
use Rattle.std.specs.Prelude.{◌≡◌, ℕ, ⊤, true, false, List, [], ◌∷◌, ◌++◌, Some, Ok, Result, Err}
use Rattle.store_model.specs.Disk.{WhereTold}
use Rattle.store_model.specs.File.{File, IsFileImage, seen}
use Rattle.store_model.specs.Folder.{Held, Hosted}
use Rattle.store_model.specs.Moments.{Throughout}
use Rattle.file_open.specs.Effects.{IsLongEnough, OpensAlike, StaysLike}
use Rattle.vhdx_format.specs.declared.locator.Pair.{Pair}
use Rattle.vx_base.specs.declared.parts.Parts.{Parts}
use Rattle.link_rules.specs.Chains.{IsNext, NamesParent, OpensIn, is_among}
use Rattle.link_rules.specs.Effects.{found_names}
use Rattle.link_rules.specs.Folders.{Contents, contents}
use Rattle.link_rules.specs.declared.linked.LinkedFile.{LinkedFile}
use Rattle.link_rules.specs.declared.refusal.LinkRefusal.{LinkRefusal}
use Rattle.link_rules.specs.declared.retired.Found.{Found}

-- A file at a later moment: untouched, or one that may be touched, of which each image is opened as the file was and is no shorter,
-- where this was no shorter than what it stood for.
pub data IsSafeFile (may : List ℕ → Type 0) (held : Held) : Held → Type 0 where
  untouched : IsSafeFile may held held
  touched : (before after : File) → may held.name → held.file ≡ Some before
      → (IsLongEnough (seen before) → (image : List ℕ) → IsFileImage after image → StaysLike OpensAlike (seen before) image)
      → IsSafeFile may held (record held { file = Some after })

-- so it is with each file of a folder
abbrev pub AreSafe : (List ℕ → Type 0) → List Held → List Held → Type 0
AreSafe may [] [] = ⊤
AreSafe may [] (later ∷ now) = ⊥
AreSafe may (held ∷ folder) [] = ⊥
AreSafe may (held ∷ folder) (later ∷ now) = IsSafeFile may held later × AreSafe may folder now

-- so it was at each moment
abbrev pub TouchesSafely : (List Held → List ℕ → Type 0) → Hosted → Hosted → Type 0
TouchesSafely may before now = WhereTold before.folder (λ folder. Throughout (AreSafe (may folder) folder) before now)

-- Names that are met on the way from a leaf's name to the base: it itself, the file that stands for a retired leaf, and the parent
-- that a file's locator names.
pub data IsOnWay (files : Contents) (leaf : List ℕ) : List ℕ → Type 0 where
  begins : IsOnWay files leaf leaf
  stands_for : (name next : List ℕ) (parts : Parts) → IsOnWay files leaf name → OpensIn files name (Ok parts) → parts.retired ≡ Some next → IsOnWay files leaf next
  parent : (name next : List ℕ) (parts : Parts) (pairs : List Pair) → IsOnWay files leaf name → OpensIn files name (Ok parts) → NamesParent parts pairs next → IsOnWay files leaf next

-- ---- of the small functions

-- those that are met below a file
pub data IsBelow (files : Contents) : LinkedFile → List ℕ → Type 0 where
  direct : (child : LinkedFile) (pairs : List Pair) (name : List ℕ) → NamesParent child.parts pairs name → IsBelow files child name
  lower : (child : LinkedFile) (pairs : List Pair) (name : List ℕ) (parts : Parts) (other : List ℕ) → NamesParent child.parts pairs name → OpensIn files name (Ok parts)
      → IsBelow files (record { name = name; parts = parts }) other → IsBelow files child other

-- a parent that may be opened
abbrev pub IsNextName : List (List ℕ) → List LinkedFile → LinkedFile → List ℕ → Type 0
IsNextName retired above child name = (pairs : List Pair) × IsNext retired above child pairs name

-- one below a leaf that hasn't been opened
pub record IsFreshBelow (files : Contents) (retired : List (List ℕ)) (leaf : LinkedFile) (name : List ℕ) : Type 0 where
  pub below : IsBelow files leaf name
  pub is_new : is_among name (retired ++ leaf.name ∷ []) ≡ false

-- what the look for a leaf touches
abbrev pub may_find : List ℕ → Result Found LinkRefusal → List Held → List ℕ → Type 0
may_find leaf (Ok found) folder name = is_among name (found_names found) ≡ true
may_find leaf (Err refusal) folder name = IsOnWay (contents folder) leaf name
