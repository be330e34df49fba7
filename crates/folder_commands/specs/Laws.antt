-- What follows of what a dump finds.
use Rattle.std.specs.Prelude.{◌≡◌, ℕ, ◌+◌, ◌*◌, ◌/◌, ◌<◌, ◌≤◌, List, length, Some, Result, Ok, Err}
use Rattle.store_model.specs.Folder.{Held}
use Rattle.guest_model.specs.declared.refusal.ChainRefusal.TheVariants.{OutOfRange}
use Rattle.vhdx_format.specs.Fields.{bytes_at, sector_size, zeros}
use Rattle.vhdx_format.specs.MadeFiles.{dynamic_file, fixed_file_holding, fixed_len}
use Rattle.vhdx_format.specs.MadeLaws.{IsMakeable}
use Rattle.link_rules.specs.Folders.{contents}
use Rattle.command_base.specs.Dump.{Finds, read_limit}
use Rattle.command_base.specs.Refusals.{Refusal, OfCall}

-- A folder gives one answer.
abbrev pub OneAnswer : Type 0
OneAnswer =
    (folder : List Held) (leaf : List ℕ) (first count : ℕ) (a b : Result (List ℕ) Refusal) → Finds folder leaf first count a → Finds folder leaf first count b → a ≡ b

-- A file of a disk of so many sectors gives, in each folder that has it, these bytes for each range of them that may be read at
-- once, and for a range that reaches beyond them a refusal of the range alone.
pub record Shows (file : List ℕ) (sectors : ℕ) (bytes : ℕ → ℕ → List ℕ) : Type 0 where
  pub on_disk : (folder : List Held) (leaf : List ℕ) → contents folder leaf ≡ Some file
      → (first count : ℕ) → 0 < count → count ≤ read_limit → first + count ≤ sectors → Finds folder leaf first count (Ok (bytes first count))
  pub beyond : (folder : List Held) (leaf : List ℕ) → contents folder leaf ≡ Some file
      → (first count : ℕ) → 0 < count → count ≤ read_limit → sectors < first + count
      → Finds folder leaf first count (Err (OfCall (OutOfRange first count sectors)))

-- A new dynamic file shows zeros, and a fixed file the bytes of its blocks, whatever they are.
pub record MadeFilesShow (file_write data_write disk : List ℕ) (size block : ℕ) : Type 0 where
  pub dynamic : Shows (dynamic_file file_write data_write disk size block) (size / sector_size) (λ first count. zeros (sector_size * count))
  pub fixed : (bytes : List ℕ) → length bytes ≡ fixed_len size block
      → Shows (fixed_file_holding file_write data_write disk size block bytes) (size / sector_size) (λ first count. bytes_at bytes (sector_size * first) (sector_size * count))

abbrev pub NewFilesShow : Type 0
NewFilesShow =
    (file_write data_write disk : List ℕ) (size block : ℕ) → IsMakeable file_write data_write disk size block → MadeFilesShow file_write data_write disk size block
