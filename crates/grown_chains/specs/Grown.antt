-- What follows for names and their disks where files are added to a folder: a new disk, a child of a chain, a child of that one.
use Rattle.std.specs.Prelude.{◌≡◌, ◌<◌, ℕ, ◌*◌, false, List, [], ◌∷◌, ◌++◌, length, replicate, Option, Some, Ok}
use Rattle.std.specs.Str.{IsUtf8}
use Rattle.store_model.specs.Folder.{Held, has_name}
use Rattle.vx_base.specs.Fields.{IsGuid, zeros}
use Rattle.vx_base.specs.Names.{IsName}
use Rattle.vhdx_format.specs.AllocationTables.{IsBlockSize}
use Rattle.vhdx_format.specs.Fields.{megabyte, sector_size}
use Rattle.vhdx_format.specs.MadeFiles.{child_file, dynamic_file}
use Rattle.guest_model.specs.Calls.{Disk}
use Rattle.chain_model.specs.Files.{Files, OpensTo}
use Rattle.link_rules.specs.Chains.{Links, most_files, names_of}
use Rattle.link_rules.specs.Folders.{contents}
use Rattle.link_rules.specs.Lines.{BeginsWith}
use Rattle.link_rules.specs.declared.linked.Linked.{Linked}
use Rattle.link_rules.specs.declared.linked.LinkedFile.{LinkedFile}
use Rattle.make_file.specs.Makes.{HasMade, Outside, child_making, dynamic_making}
use Rattle.make_file.specs.declared.drawing.FileIds.{FileIds}
use Rattle.command_line.specs.Requests as new
use Rattle.command_base.specs.Commands.{IsNewFile}
use Rattle.command_base.specs.Folders.{LeadsTo, OnlyFollows, files_of}
use Rattle.command_base.specs.Making.{HasMadeFile, IsParent}

-- Among a folder's files a name is opened to this disk, and leads to files of these names.
pub record HasDisk (folder : List Held) (leaf : List ℕ) (disk : Disk) (names : List (List ℕ)) : Type 0 where
  pub opens : OpensTo (files_of folder) leaf disk
  pub leads : LeadsTo (files_of folder) leaf names

-- Each name that was opened to a disk is opened to it later too, and one that led to files leads to files of the same names.
pub record KeepsDisks (folder after : List Held) : Type 0 where
  pub opens : (leaf : List ℕ) (disk : Disk) → OpensTo (files_of folder) leaf disk → OpensTo (files_of after) leaf disk
  pub leads : (leaf : List ℕ) (names : List (List ℕ)) → LeadsTo (files_of folder) leaf names → LeadsTo (files_of after) leaf names

-- What is known of a file by the types of its name and its numbers.
pub record IsTyped (file : LinkedFile) : Type 0 where
  pub name : IsName file.name
  pub text : IsUtf8 file.name
  pub id : IsGuid file.parts.header.data_write
  pub disk : IsGuid file.parts.disk

-- a new child of a file: of its disk and size, it names it by its identifier and its name
abbrev pub child_of : LinkedFile → List ℕ → List ℕ → ℕ → List ℕ
child_of file file_write data_write block =
    child_file file_write data_write file.parts.disk (sector_size * file.parts.geometry.sectors) (megabyte * block) file.parts.header.data_write file.name

-- ---- files at a folder's end

-- Where a new dynamic file is added under a name that was free, the name is opened to a disk of zeros, by that file alone.
abbrev pub NewDisksOpen : Type 0
NewDisksOpen =
    (folder after : List Held) (name file_write data_write disk : List ℕ) (sectors block : ℕ)
    → IsNewFile (new.dynamic sectors block) → IsGuid file_write → IsGuid data_write → IsGuid disk → has_name name folder ≡ false
    → HasMade name (dynamic_file file_write data_write disk (sector_size * sectors) (megabyte * block)) folder (Some after)
    → HasDisk after name (replicate sectors (zeros sector_size)) (name ∷ [])

-- Where a name leads to a chain of fewer than 64 files, and a new child of its leaf is added under a name that was free, the new name is
-- opened to the same disk, by the new file and those of the chain.
abbrev pub ChildrenOpen : Type 0
ChildrenOpen =
    (folder after : List Held) (name parent file_write data_write : List ℕ) (block : ℕ) (linked : Linked) (leaf : LinkedFile) (disk : Disk)
    → Links (contents folder) parent (Ok linked) → BeginsWith leaf linked.files → IsTyped leaf → length linked.files < most_files → OpensTo (files_of folder) parent disk
    → IsGuid file_write → IsGuid data_write → IsBlockSize (megabyte * block) → has_name name folder ≡ false
    → HasMade name (child_of leaf file_write data_write block) folder (Some after)
    → HasDisk after name disk (name ∷ names_of linked.files)

-- Whatever files are added at a folder's end, each name is opened and leads as before.
abbrev pub OthersOpenStill : Type 0
OthersOpenStill = (folder more : List Held) → KeepsDisks folder (folder ++ more)

-- ---- names that are followed

-- Where a name was followed, each name is opened and leads as before.
abbrev pub FollowingKeeps : Type 0
FollowingKeeps =
    (leaf : List ℕ) (folder : List Held) (now : Option (List Held)) → OnlyFollows leaf (Some folder) now → (after : List Held) × (now ≡ Some after) × KeepsDisks folder after

-- A name leads to files of one list of names.
abbrev pub OneWay : Type 0
OneWay = (files : Files) (leaf : List ℕ) (a b : List (List ℕ)) → LeadsTo files leaf a → LeadsTo files leaf b → a ≡ b

-- It leads to the files that are linked.
abbrev pub LinksLead : Type 0
LinksLead = (folder : List Held) (leaf : List ℕ) (linked : Linked) → Links (contents folder) leaf (Ok linked) → LeadsTo (files_of folder) leaf (names_of linked.files)

-- ---- files that `make` made

-- The folder is told still, a new name has this disk in it and leads to files of these names, and the others have theirs.
pub record Grows (folder : List Held) (now : Option (List Held)) (name : List ℕ) (disk : Disk) (names : List (List ℕ)) : Type 0 where
  pub after : List Held
  pub told : now ≡ Some after
  pub has : HasDisk after name disk names
  pub keeps : KeepsDisks folder after

-- Where `make` made a dynamic file, the folder has grown by a disk of zeros, of that file alone.
abbrev pub MadeDisksOpen : Type 0
MadeDisksOpen =
    (name : List ℕ) (ids : FileIds) (sectors block : ℕ) (before now : Outside) (folder : List Held)
    → IsNewFile (new.dynamic sectors block) → before.host.folder ≡ Some folder
    → HasMadeFile (dynamic_making name ids sectors block) (new.dynamic sectors block) before now
    → Grows folder now.host.folder name (replicate sectors (zeros sector_size)) (name ∷ [])

-- Where `make` made a child of a name that has a disk, by fewer than 64 files, the folder has grown by the same disk, of the new file and
-- those.
abbrev pub MadeChildrenOpen : Type 0
MadeChildrenOpen =
    (name parent : List ℕ) (ids : FileIds) (leaf : LinkedFile) (known : List (List ℕ)) (block : ℕ) (before now : Outside) (folder : List Held) (disk : Disk) (names : List (List ℕ))
    → IsNewFile (new.child parent block) → before.host.folder ≡ Some folder → IsParent folder parent leaf known → IsTyped leaf
    → HasDisk folder parent disk names → length names < most_files
    → HasMadeFile (child_making name ids leaf.name leaf.parts known block) (new.child parent block) before now
    → Grows folder now.host.folder name disk (name ∷ names)
