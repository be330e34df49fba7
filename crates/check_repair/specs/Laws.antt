-- What follows of findings.
use Rattle.std.specs.Prelude.{◌≡◌, ℕ, true, false, List, [], Ok}
use Rattle.vx_base.specs.Fields.{bytes_at}
use Rattle.vx_base.specs.declared.parts.Parts.{Parts}
use Rattle.vhdx_format.specs.Headers.{current_header, header_copy, is_valid_header}
use Rattle.vhdx_format.specs.OpenedFiles.{OpensFile}
use Rattle.vhdx_format.specs.RegionTables.{is_valid_region_table, region_copy}
use Rattle.vhdx_format.specs.SettledFiles.{StandsFor}
use Rattle.check_repair.specs.Findings.{Finding, Finds, locator_rules, names_log}

-- A file has one list of findings.
abbrev pub OneListOfFindings : Type 0
OneListOfFindings = (file : List ℕ) (a b : List Finding) → Finds file a → Finds file b → a ≡ b

-- both copies of the header and both of the region table are valid, and no log is named
pub record HasGoodCopies (bytes : List ℕ) : Type 0 where
  pub first_header : is_valid_header (header_copy (bytes_at bytes 0 196608) 1) ≡ true
  pub second_header : is_valid_header (header_copy (bytes_at bytes 0 196608) 2) ≡ true
  pub first_regions : is_valid_region_table (region_copy (bytes_at bytes 196608 131072) 1) ≡ true
  pub second_regions : is_valid_region_table (region_copy (bytes_at bytes 196608 131072) 2) ≡ true
  pub unnamed : names_log (current_header (bytes_at bytes 0 196608)) ≡ false

-- The file is opened, its locator, where it has a parent, breaks no rule, and its copies are good.
pub record IsSoundFile (file : List ℕ) : Type 0 where
  pub parts : Parts
  pub opens : OpensFile file (Ok parts)
  pub locator : locator_rules parts ≡ []
  pub bytes : List ℕ
  pub stands : StandsFor file bytes
  pub copies : HasGoodCopies bytes

-- Nothing is found exactly where that is so.
abbrev pub SoundFilesHaveNone : Type 0
SoundFilesHaveNone = (file : List ℕ) → (Finds file [] → IsSoundFile file) × (IsSoundFile file → Finds file [])
