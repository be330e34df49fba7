-- What a dump finds.
use Rattle.std.specs.Prelude.{◌≡◌, ◌/◌, ℕ, List, length, take, drop, Result, Ok, Err}
use Rattle.store_model.specs.Folder.{Held}
use Rattle.vhdx_format.specs.Fields.{megabyte, sector_size}
use Rattle.guest_model.specs.Calls.{Disk, bytes_of}
use Rattle.guest_model.specs.Ranges.{range_refusal}
use Rattle.guest_model.specs.declared.refusal.ChainRefusal.{ChainRefusal as CallRefusal}
use Rattle.chain_model.specs.Files.{OpensTo}
use Rattle.link_rules.specs.Chains.{Links}
use Rattle.link_rules.specs.Chains as chains
use Rattle.link_rules.specs.Folders.{contents}
use Rattle.command_base.specs.Folders.{files_of}
use Rattle.command_base.specs.Refusals.{Refusal, OfCall, OfChain}

-- so many sectors are read at once, at most: 1 MB
abbrev pub read_limit : ℕ
read_limit = megabyte / sector_size

-- The bytes of so many sectors, from one on, of the disk to which the leaf's name is opened; or what refuses them: the files are
-- opened first, then the range is looked at as that of a guest's read.
pub data Finds (folder : List Held) (leaf : List ℕ) (first count : ℕ) : Result (List ℕ) Refusal → Type 0 where
  refused : (refusal : chains.Refusal) → Links (contents folder) leaf (Err refusal) → Finds folder leaf first count (Err (OfChain refusal))
  refused_range : (disk : Disk) (refusal : CallRefusal) → OpensTo (files_of folder) leaf disk → range_refusal first count read_limit (length disk) ≡ Err refusal
      → Finds folder leaf first count (Err (OfCall refusal))
  found : (disk : Disk) → OpensTo (files_of folder) leaf disk → range_refusal first count read_limit (length disk) ≡ Ok tt
      → Finds folder leaf first count (Ok (bytes_of (take count (drop first disk))))
