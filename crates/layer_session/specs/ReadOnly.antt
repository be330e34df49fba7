-- Files of a chain that are only read.
use Rattle.std.specs.Prelude.{◌≡◌, ⊤, ◌^◌, ◌<◌, ◌≤◌, ℕ, List, [], ◌∷◌, length, map, Some}
use Rattle.std.specs.List.{AllByRecursion}
use Rattle.vx_base.specs.declared.parts.Geometry.{Geometry}
use Rattle.vx_base.specs.declared.parts.Parts.{Parts}
use Rattle.store_model.specs.Disk.{Disk, ReadFailed, WhereBothTold, WhereTold}
use Rattle.store_model.specs.File.{seen}
use Rattle.store_model.specs.Trace.{Trace, file_of}
use Rattle.store_model.specs.declared.fault.StoreFault.{StoreFault}
use Rattle.table_pages.specs.Held as tables
use Rattle.table_pages.specs.Held.{HasTables, IsNew}
use Rattle.table_pages.specs.declared.tables.Tables.{Tables}
use Rattle.vhdx_format.specs.FileParts.{shape_of}
use Rattle.chain_model.specs.Files.{HasParts, at_rest}
use Rattle.chain_model.specs.Images.{Placed, name_of}
use Rattle.chain_model.specs.Members.{ties_of}
use Rattle.chain_model.specs.Sessions.{as_read}
use Rattle.layer_session.specs.Calls.{IsBeside}
use Rattle.layer_session.specs.Keeping.{HoldsLayer}
use Rattle.layer_session.specs.declared.read_layer.ReadLayer.{ReadLayer}

-- A file as the chain sees it is read by this layer: no page of its tables is changed, and it has these ties and this layer.
pub record IsRead (l : ReadLayer) (trace : Trace) (file : Placed) : Type 0 where
  pub within : file.number < length trace.attached
  pub number : file.number ≡ l.tables.parts.file
  pub name : name_of trace.attached file.number ≡ file.member.name
  pub parts : Parts
  pub ties : file.member.ties ≡ ties_of parts
  pub unchanged : l.tables.pending ≡ []
  pub as_held : HoldsLayer l.tables parts file.member.layer (seen (file_of trace file.number))

-- The layer can be read: its file is there, and where the store tells its content, it is read by it.
pub record CanRead (l : ReadLayer) (disk : Disk) : Type 0 where
  pub there : l.tables.parts.file < disk.files
  pub sizes : HasTables l.tables.parts
  pub told : WhereTold disk.told (λ trace. (file : Placed) × IsRead l trace file)

-- New tables, of the sizes that these numbers give.
pub record IsFresh (parts : Parts) (t : Tables) : Type 0 where
  pub shape : tables.shape_of t.parts ≡ shape_of parts
  pub region : t.parts.bat_len ≡ parts.bat_len
  pub new : IsNew t.parts t

-- A new layer of a file of these numbers. Where the file is as opening leaves one with these numbers, it is read by it.
pub record IsReadOf (parts : Parts) (file : ℕ) (l : ReadLayer) : Type 0 where
  pub sizes : HasTables l.tables.parts
  pub number : l.tables.parts.file ≡ file
  pub sector : l.tables.parts.sector ≡ parts.geometry.sector
  pub sectors : l.tables.parts.sectors ≡ parts.geometry.sectors
  pub fresh : IsFresh parts l.tables
  pub reads : (trace : Trace) → file < length trace.attached → length (seen (file_of trace file)) ≤ 2 ^ 63
      → HasParts (at_rest (seen (file_of trace file))) (seen (file_of trace file)) parts → IsRead l trace (as_read trace file (seen (file_of trace file)) parts)

-- A new layer of a file that another one reads, which has this number where it is read: it goes by the same sizes, and nothing is changed.
pub record IsAnother (file : ℕ) (of l : ReadLayer) : Type 0 where
  pub parts_are : l.tables.parts ≡ record (of.tables.parts) { file = file }
  pub new : IsNew l.tables.parts l.tables

-- Only what the layer keeps in memory is another.
pub record IsSameRead (old new : ReadLayer) (disk : Disk) : Type 0 where
  pub parts : new.tables.parts ≡ old.tables.parts
  pub readable : CanRead new disk
  pub reads : (trace : Trace) (file : Placed) → disk.told ≡ Some trace → IsRead old trace file → IsRead new trace file

-- ---- several files

-- each of some files is read by its layer
abbrev pub AreRead : List ReadLayer → Trace → List Placed → Type 0
AreRead [] trace [] = ⊤
AreRead [] trace (file ∷ files) = ⊥
AreRead (layer ∷ layers) trace [] = ⊥
AreRead (layer ∷ layers) trace (file ∷ files) = IsRead layer trace file × AreRead layers trace files

-- a layer of a disk of this geometry, which can be read
pub record IsReadableBy (geometry : Geometry) (disk : Disk) (l : ReadLayer) : Type 0 where
  pub can : CanRead l disk
  pub sector : l.tables.parts.sector ≡ geometry.sector
  pub sectors : l.tables.parts.sectors ≡ geometry.sectors

-- so it is with each of these
abbrev pub AreReadable : Geometry → Disk → List ReadLayer → Type 0
AreReadable geometry disk layers = AllByRecursion (IsReadableBy geometry disk) layers

-- Only what layers keep in memory is another.
pub record AreSameRead (geometry : Geometry) (old new : List ReadLayer) (disk : Disk) : Type 0 where
  pub readable : AreReadable geometry disk new
  pub reads : (trace : Trace) (files : List Placed) → disk.told ≡ Some trace → AreRead old trace files → AreRead new trace files

-- the files that layers read, by their numbers in the store
abbrev pub numbers_of : List ReadLayer → List ℕ
numbers_of layers = map (λ l. l.tables.parts.file) layers

-- what layers go by is the same: their files and sizes
abbrev pub HaveSameParts : List ReadLayer → List ReadLayer → Type 0
HaveSameParts old new = map (λ l. l.tables.parts) new ≡ map (λ l. l.tables.parts) old

-- a read of one of the store's files failed
abbrev pub SomeReadFailed : Disk → Disk → StoreFault → Type 0
SomeReadFailed old new fault = (fault.file < old.files) × ReadFailed fault.file old new fault

-- What a layer reads, by itself.
pub record ReadLayersStand : Type 0 where
  pub sector : (l : ReadLayer) (trace : Trace) (file : Placed) → IsRead l trace file → file.member.ties.geometry.sector ≡ l.tables.parts.sector
  pub sectors : (l : ReadLayer) (trace : Trace) (file : Placed) → IsRead l trace file → file.member.ties.geometry.sectors ≡ l.tables.parts.sectors
  -- it hangs on its own file and on the files' names alone
  pub beside : (l : ReadLayer) (old new : Trace) (file : Placed) → IsRead l old file → IsBeside file.number old new → IsRead l new file
  pub readable : (l : ReadLayer) (old new : Disk) → CanRead l old → new.files ≡ old.files → WhereBothTold (IsBeside l.tables.parts.file) old.told new.told → CanRead l new
