-- A file whose session has ended, by its headers.
use Rattle.std.specs.Prelude.{◌≡◌, true, List, ℕ, Ok}
use Rattle.vx_base.specs.declared.parts.Header.{Header}
use Rattle.vhdx_format.specs.Fields.{is_zero_id}
use Rattle.vhdx_format.specs.FileParts.{read_head}

-- The current header of a file with these bytes names no log ([MS-VHDX] 2.2.2): the log's identifier is zero.
pub record NamesNoLog (bytes : List ℕ) : Type 0 where
  pub header : Header
  pub current : read_head bytes ≡ Ok header
  pub none : is_zero_id header.log ≡ true
