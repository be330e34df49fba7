-- Ranges of sectors: those of one step, which lie in one block, and those of one call.
use Rattle.std.specs.Prelude.{ℕ, ◌+◌, ◌*◌, ◌%◌, ◌^◌, ◌≤◌}
use Rattle.table_pages.specs.Held.{shape_of}
use Rattle.table_pages.specs.declared.tables.TableParts.{TableParts}
use Rattle.layer_session.specs.Blocks.{blocks_of}

-- So many sectors from `first` on lie in one block of the disk.
pub record LieInBlock (parts : TableParts) (first count : ℕ) : Type 0 where
  pub on_disk : first + count ≤ parts.sectors
  pub run : first * parts.sector % parts.block + count * parts.sector ≤ parts.block

-- So many sectors from `first` on lie on the disk, and are few enough for one call: no more than 256 MB, with a plan for each of their
-- blocks.
pub record FitInCall (parts : TableParts) (plans first count : ℕ) : Type 0 where
  pub on_disk : first + count ≤ parts.sectors
  pub size : parts.sector * count ≤ 2 ^ 28
  pub few : blocks_of (shape_of parts) first count ≤ plans
