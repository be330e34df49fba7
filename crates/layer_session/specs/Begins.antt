-- How a layer begins.
use Rattle.std.specs.Prelude.{◌≡◌, ◌^◌, ◌<◌, ◌≤◌, ℕ, List, length}
use Rattle.vx_base.specs.declared.parts.Parts.{Parts}
use Rattle.store_model.specs.File.{seen}
use Rattle.store_model.specs.Trace.{Trace, file_of}
use Rattle.log_write.specs.Writing.{CanBegin, session_header}
use Rattle.log_write.specs.declared.ids.SessionIds.{SessionIds}
use Rattle.chain_model.specs.Files.{HasParts, at_rest}
use Rattle.chain_model.specs.Images.{Placed}
use Rattle.chain_model.specs.Sessions.{GoesOver, as_read}
use Rattle.layer_session.specs.declared.file.Layer.{Layer}
use Rattle.layer_session.specs.Keeping.{Serves}

-- A file that can be served: its session may begin, and these are its numbers.
pub record CanServe (parts : Parts) (log : List ℕ) (file : ℕ) (trace : Trace) : Type 0 where
  pub within : file < length trace.attached
  pub most : length (seen (file_of trace file)) ≤ 2 ^ 63
  pub begins : CanBegin parts.header log (file_of trace file)
  pub reads : HasParts (at_rest (seen (file_of trace file))) (seen (file_of trace file)) parts

-- the numbers of a file under the header of its session
abbrev pub in_session : Parts → SessionIds → Parts
in_session parts ids = record parts { header = session_header parts.header ids }

-- the file as it is found, and as it is in its session, where its data may have a new identifier
abbrev pub as_found : Trace → ℕ → Parts → Placed
as_found trace file parts = as_read trace file (seen (file_of trace file)) parts

-- At each moment from old to new each image of the file shows it as it was found, or under the header of the session.
abbrev pub BeginsOver : Parts → SessionIds → ℕ → Trace → Trace → Type 0
BeginsOver parts ids file old new = GoesOver (as_found old file parts) (as_found old file (in_session parts ids)) old new

-- And then the layer serves it so, with the layer that was found.
abbrev pub HasBegun : Parts → SessionIds → ℕ → Layer → Trace → Trace → Type 0
HasBegun parts ids file l old new = Serves l new (as_found old file (in_session parts ids))

-- The layer is that of this file: its sizes, how long its table's region is, whether blocks of zeros stay where they are, and
-- the first entry of its log.
pub record IsOf (parts : Parts) (file : ℕ) (l : Layer) : Type 0 where
  pub number : l.tables.parts.file ≡ file
  pub sector : l.tables.parts.sector ≡ parts.geometry.sector
  pub sectors : l.tables.parts.sectors ≡ parts.geometry.sectors
  pub table : l.tables.parts.bat_len ≡ parts.bat_len
  pub leave : l.leave ≡ parts.leave
  pub first : l.log.number ≡ 1
