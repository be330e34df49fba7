-- A repaired file, and what a crash may leave while it is repaired.
use Rattle.std.specs.Prelude.{◌≡◌, ℕ, ◌^◌, ◌-◌, ◌<◌, ◌≤◌, true, List, [], ◌∷◌, ◌++◌, map, if◌then◌else◌, Ok}
use Rattle.uuid.specs.Parts.{zero_bytes}
use Rattle.store_model.specs.File.{File, Op, Write, Sync, is_synced, seen}
use Rattle.vx_base.specs.declared.parts.Header.{Header}
use Rattle.vx_base.specs.declared.parts.Parts.{Parts}
use Rattle.vhdx_format.specs.FileParts.{HasNumbers, shape_of}
use Rattle.vhdx_format.specs.Layers.{layer_sector}
use Rattle.vhdx_format.specs.OpenedFiles.{OpensFile}
use Rattle.vhdx_format.specs.RegionTables.{is_valid_region_table, region_copy}
use Rattle.vhdx_format.specs.SettledFiles.{StandsFor}
use Rattle.torn_match.specs.TornMatches.{region_place}
use Rattle.log_write.specs.Writing.{beside, header_writes, next_number}
use Rattle.check_repair.specs.Findings.{Breaks, Finds, locator_rules}

-- ---- what is written

-- the next header, in the other copy: a new identifier of the file's writes, and no log
abbrev pub repaired_header : Header → List ℕ → Header
repaired_header header id = record header { copy = beside header.copy; number = next_number header.number; file_write = id; log = zero_bytes; log_version = 0 }

-- a copy of the region table is written and synced
abbrev pub region_write : ℕ → List ℕ → List Op
region_write copy bytes = Write (region_place copy) bytes ∷ Sync ∷ []

-- the one that isn't valid gets the bytes of the other
abbrev pub region_writes : List ℕ → List Op
region_writes copies =
    if is_valid_region_table (region_copy copies 1) then (if is_valid_region_table (region_copy copies 2) then [] else region_write 2 (region_copy copies 1))
    else region_write 1 (region_copy copies 2)

-- first the header, then the region table
abbrev pub repair_plan : Header → List ℕ → List Op
repair_plan header copies = header_writes header ++ region_writes copies

-- ---- what is kept

-- the image is opened to the same numbers, but for its header, which names the same data; and each sector of its layer is that of
-- these bytes
pub record KeepsLayer (parts : Parts) (bytes image : List ℕ) : Type 0 where
  pub header : Header
  pub data_write : header.data_write ≡ parts.header.data_write
  pub opens : OpensFile image (Ok (record parts { header = header }))
  pub settled : List ℕ
  pub stands : StandsFor image settled
  pub layer : (s : ℕ) → s < (shape_of parts).sectors → layer_sector (shape_of parts) settled s ≡ layer_sector (shape_of parts) bytes s

-- a file that was opened to these numbers, with nothing unsynced, and whose header's number isn't near its end
pub record CanRepair (parts : Parts) (file : File) : Type 0 where
  pub synced : is_synced file ≡ true
  pub numbers : HasNumbers parts
  pub opens : OpensFile (seen file) (Ok parts)
  pub stands : StandsFor (seen file) (seen file)
  pub low : parts.header.number ≤ 2 ^ 64 - 2 ^ 32

-- It is synced, and opened to the same numbers but for its header, which is the next one with this identifier; it has the same
-- layer, and nothing is found wrong with it but in its locator.
pub record IsRepaired (parts : Parts) (bytes id : List ℕ) (file : File) : Type 0 where
  pub synced : is_synced file ≡ true
  pub opens : OpensFile (seen file) (Ok (record parts { header = repaired_header parts.header id }))
  pub layer : KeepsLayer parts bytes (seen file)
  pub found : Finds (seen file) (map Breaks (locator_rules parts))
