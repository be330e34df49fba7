-- What `make` makes.
use Rattle.std.specs.Prelude.{◌≡◌, ℕ, true, List, [], ◌∷◌, ◌++◌, length, codes, decimal, Option, Some, None, Ok, Err}
use Rattle.command_line.specs.Requests.{File as NewFile}
use Rattle.command_line.specs.Requests as new
use Rattle.make_file.specs.Identifiers.{Draws, first_unfit}
use Rattle.make_file.specs.Makes.{HasMade, IsFree, LeavesOthers, Making, Outside, child_making, dynamic_making, fixed_making}
use Rattle.make_file.specs.declared.drawing.FileIds.{FileIds}
use Rattle.shown_ids.specs.Shown.{shown}
use Rattle.store_model.specs.Disk.{WhereTold}
use Rattle.store_model.specs.Folder.{Held, Hosted, has_name}
use Rattle.store_model.specs.Moments.{Throughout}
use Rattle.vhdx_format.specs.SettledFiles.{StandsFor}
use Rattle.link_rules.specs.Chains.{Links}
use Rattle.link_rules.specs.Chains as chains
use Rattle.link_rules.specs.Folders.{Contents, contents}
use Rattle.link_rules.specs.Lines.{BeginsWith}
use Rattle.link_rules.specs.Touches.{AreSafe, IsOnWay}
use Rattle.link_rules.specs.declared.linked.Linked.{Linked}
use Rattle.link_rules.specs.declared.linked.LinkedFile.{LinkedFile}
use Rattle.command_base.specs.Folders.{OnlyFollows}
use Rattle.command_base.specs.Refusals.{Refusal, OfChain, NameTaken, IdUnfit}

-- what the files of a chain stand for shows these identifiers, file by file
pub data ShowIds (files : Contents) : List LinkedFile → List (List ℕ) → Type 0 where
  none : ShowIds files [] []
  more : (file : LinkedFile) (others : List LinkedFile) (bytes settled : List ℕ) (known : List (List ℕ)) → files file.name ≡ Some bytes → StandsFor bytes settled
      → ShowIds files others known → ShowIds files (file ∷ others) (shown file.parts settled ++ known)

-- A name leads to a chain, whose leaf this is, and whose files show these identifiers.
pub record IsParent (folder : List Held) (name : List ℕ) (leaf : LinkedFile) (known : List (List ℕ)) : Type 0 where
  pub linked : Linked
  pub links : Links (contents folder) name (Ok linked)
  pub begins : BeginsWith leaf linked.files
  pub shows : ShowIds (contents folder) linked.files known

-- what is to be made with these identifiers: a child is one of the file that its parent's name leads to, and none of its
-- identifiers may be one that a file of that chain shows
abbrev pub IsMaking : List ℕ → NewFile → Outside → FileIds → Making → Type 0
IsMaking name (new.fixed sectors block) before ids making = making ≡ fixed_making name ids sectors block
IsMaking name (new.dynamic sectors block) before ids making = making ≡ dynamic_making name ids sectors block
IsMaking name (new.child parent block) before ids making =
    (leaf : LinkedFile) × (known : List (List ℕ)) × WhereTold before.host.folder (λ folder. IsParent folder parent leaf known)
    × (making ≡ child_making name ids leaf.name leaf.parts known block)

-- What there is when the file itself is made: of a child its parent's name was followed; else there is what there was.
abbrev pub LooksAt : NewFile → Option (List Held) → Option (List Held) → Type 0
LooksAt (new.fixed sectors block) before mid = mid ≡ before
LooksAt (new.dynamic sectors block) before mid = mid ≡ before
LooksAt (new.child parent block) before mid = OnlyFollows parent before mid

-- then all that was there is as it was, and there is at most one more file, of this name
pub record AddsOnly (name : List ℕ) (file : NewFile) (before now : Option (List Held)) : Type 0 where
  pub mid : Option (List Held)
  pub looked : LooksAt file before mid
  pub others : WhereTold mid (λ folder. LeavesOthers name folder now)

-- What there is at a moment before the file itself is made: of a child no file was touched but those on the way from its parent's
-- name on, and each image of these opens as it did.
abbrev pub TouchesParents : NewFile → List Held → List Held → Type 0
TouchesParents (new.fixed sectors block) folder mid = mid ≡ folder
TouchesParents (new.dynamic sectors block) folder mid = mid ≡ folder
TouchesParents (new.child parent block) folder mid = AreSafe (IsOnWay (contents folder) parent) folder mid

-- While a file is made there is at most this one more.
pub record IsSafeMaking (name : List ℕ) (file : NewFile) (folder now : List Held) : Type 0 where
  pub mid : List Held
  pub looked : TouchesParents file folder mid
  pub others : LeavesOthers name mid (Some now)

-- so it was at each moment
abbrev pub MakesSafely : List ℕ → NewFile → Hosted → Hosted → Type 0
MakesSafely name file before now = WhereTold before.folder (λ folder. Throughout (IsSafeMaking name file folder) before now)

-- The name was free and the identifiers were drawn, none of them unfit; the folder has the file at its end.
pub record HasMadeFile (making : Making) (file : NewFile) (before now : Outside) : Type 0 where
  pub free : IsFree making.name before.host
  pub drawn : Draws making.drawn before.drawn now.drawn
  pub fit : first_unfit making.known making.drawn ≡ None
  pub mid : Option (List Held)
  pub looked : LooksAt file before.host.folder mid
  pub added : WhereTold mid (λ folder. HasMade making.name making.bytes folder now.host.folder)

-- the folder has the name, and no identifier was drawn
pub record IsTaken (making : Making) (before now : Outside) : Type 0 where
  pub there : WhereTold before.host.folder (λ folder. has_name making.name folder ≡ true)
  pub undrawn : now.drawn ≡ before.drawn

-- the name was free, and this is the first identifier that is unfit
pub record HasUnfit (making : Making) (id : List ℕ) (before now : Outside) : Type 0 where
  pub free : IsFree making.name before.host
  pub drawn : Draws making.drawn before.drawn now.drawn
  pub unfit : first_unfit making.known making.drawn ≡ Some id

-- the line of a file of so many bytes that was made
abbrev pub made_line : List ℕ → ℕ → List ℕ
made_line name len = codes "made " ++ name ++ codes " " ++ decimal len ++ codes "\n"

-- the file was made, and this is its line
pub record ShowsMade (name : List ℕ) (file : NewFile) (before now : Outside) (text : List ℕ) : Type 0 where
  pub ids : FileIds
  pub making : Making
  pub is : IsMaking name file before ids making
  pub made : HasMadeFile making file before now
  pub text_is : text ≡ made_line name (length making.bytes)

-- what refuses it: the parent's name leads to no chain, the name is taken, or an identifier is unfit
pub data RefusesMaking (name : List ℕ) (file : NewFile) (before now : Outside) : Refusal → Type 0 where
  parent_not_opened : (parent : List ℕ) (block : ℕ) (refusal : chains.Refusal) → file ≡ new.child parent block
      → WhereTold before.host.folder (λ f. Links (contents f) parent (Err refusal)) → now.drawn ≡ before.drawn → RefusesMaking name file before now (OfChain refusal)
  name_taken : (ids : FileIds) (making : Making) → IsMaking name file before ids making → IsTaken making before now
      → RefusesMaking name file before now (NameTaken name)
  id_unfit : (id : List ℕ) (ids : FileIds) (making : Making) → IsMaking name file before ids making → HasUnfit making id before now
      → RefusesMaking name file before now (IdUnfit id)
