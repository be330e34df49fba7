-- The sum of the disk of a chain (profile).
use Rattle.std.specs.Prelude.{◌≡◌, ℕ, List, take, Result, Ok, Err}
use Rattle.std.specs.List.{AllByRecursion}
use Rattle.store_model.specs.Folder.{Held}
use Rattle.guest_model.specs.Calls.{Disk}
use Rattle.chain_model.specs.Files.{IsIn, OpensTo}
use Rattle.chain_model.specs.Members.{Member, disk_of}
use Rattle.link_rules.specs.Chains.{Links}
use Rattle.link_rules.specs.Chains as chains
use Rattle.link_rules.specs.Folders.{Contents, contents}
use Rattle.link_rules.specs.Laws.{AreMembers, at_rest_all}
use Rattle.link_rules.specs.declared.linked.LinkedFile.{LinkedFile}
use Rattle.load_calls.specs.Printed.{sectors_sum}
use Rattle.command_base.specs.Folders.{files_of}
use Rattle.command_base.specs.Refusals.{OfChain, Refusal}

-- of as many sectors as a load's disk has
unfoldable pub sum_of : Disk → ℕ
sum_of disk = sectors_sum 0 (take 131072 disk)

-- it is that of the disk to which the leaf's name is opened; or the name leads to no chain
pub data SumsUp (folder : List Held) (leaf : List ℕ) : Result ℕ Refusal → Type 0 where
  unlinked : (refusal : chains.Refusal) → Links (contents folder) leaf (Err refusal) → SumsUp folder leaf (Err (OfChain refusal))
  sums : (disk : Disk) → OpensTo (files_of folder) leaf disk → SumsUp folder leaf (Ok (sum_of disk))

-- ---- of the small functions

-- it is that of a chain of these files
pub record HasSummed (files : Contents) (linked : List LinkedFile) (sum : ℕ) : Type 0 where
  pub members : List Member
  pub there : AllByRecursion (IsIn (at_rest_all files)) members
  pub are : AreMembers members linked
  pub sum_is : sum ≡ sum_of (disk_of members)
