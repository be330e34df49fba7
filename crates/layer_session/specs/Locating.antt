-- Where sectors of a file are.
use Rattle.std.specs.Prelude.{◌≡◌, ℕ, ◌+◌, ◌*◌, ◌<◌, ◌≤◌, Bool, true, false, List, length, Some, None}
use Rattle.vx_base.specs.Fields.{bytes_at, zeros}
use Rattle.store_model.specs.Disk.{Disk, WhereTold}
use Rattle.store_model.specs.File.{seen}
use Rattle.store_model.specs.Trace.{file_of}
use Rattle.table_pages.specs.declared.tables.Tables.{Tables}
use Rattle.chain_model.specs.Images.{Placed}
use Rattle.chain_model.specs.Layers as chain
use Rattle.layer_session.specs.Reading.{layer_by}
use Rattle.layer_session.specs.ReadOnly.{IsRead}
use Rattle.layer_session.specs.declared.locating.Located.{Located}
use Rattle.layer_session.specs.declared.locating.Whereabouts.{Whereabouts}
use Rattle.layer_session.specs.declared.locating.Whereabouts.TheVariants.{Here, Zeros, Absent}
use Rattle.layer_session.specs.declared.read_layer.ReadLayer.{ReadLayer}

-- So many sectors from `first` on, of z bytes, are there for a layer of this file: their bytes stand one after the other in it, or they
-- are zeros, or the layer doesn't own them.
abbrev pub AreLocated : chain.Layer → List ℕ → ℕ → ℕ → ℕ → Whereabouts → Type 0
AreLocated layer file z first count (Here place) = (place + z * count ≤ length file) × ((i : ℕ) → i < count → layer (first + i) ≡ Some (bytes_at file (place + z * i) z))
AreLocated layer file z first count Zeros = (i : ℕ) → i < count → layer (first + i) ≡ Some (zeros z)
AreLocated layer file z first count Absent = (i : ℕ) → i < count → layer (first + i) ≡ None

-- so it is of the layer by these tables
abbrev pub AreLocatedBy : Tables → Disk → ℕ → Located → Type 0
AreLocatedBy t disk first found =
    WhereTold disk.told (λ trace. AreLocated (layer_by t trace) (seen (file_of trace t.parts.file)) t.parts.sector first found.count found.at)

-- and of whatever file is read
abbrev pub AreLocatedIn : ReadLayer → Disk → ℕ → Located → Type 0
AreLocatedIn l disk first found =
    (file : Placed) → WhereTold disk.told (λ trace. IsRead l trace file
    → AreLocated file.member.layer (seen (file_of trace l.tables.parts.file)) l.tables.parts.sector first found.count found.at)

-- here from a place on, or absent, by a bit
abbrev pub IsAtPlace : Bool → ℕ → Whereabouts → Type 0
IsAtPlace true place at = at ≡ Here place
IsAtPlace false place at = at ≡ Absent
