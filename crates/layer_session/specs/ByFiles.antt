-- What clauses say of reading files of a chain.
use Rattle.std.specs.Prelude.{ℕ, List}
use Rattle.store_model.specs.Disk.{Disk, WhereTold}
use Rattle.chain_model.specs.Images.{Placed, members_of}
use Rattle.chain_model.specs.Layers as chain
use Rattle.chain_model.specs.Layers.{through}
use Rattle.chain_model.specs.Members.{layers_of}
use Rattle.layer_session.specs.Calls.{AddsOwned}
use Rattle.layer_session.specs.FileLayers.{HasFile, HaveFiles, Hold, Holds, table_parts}
use Rattle.layer_session.specs.ReadOnly.{AreRead, IsRead}
use Rattle.layer_session.specs.declared.file_layer.FileLayer.{FileLayer}
use Rattle.layer_session.specs.declared.read_layer.ReadLayer.{ReadLayer}

-- ---- one file

-- Whatever layer it holds: that adds what it owns.
abbrev pub AddsHeld : FileLayer → Disk → ℕ → ℕ → ℕ → List ℕ → List ℕ → List ℕ → List ℕ → Type 0
AddsHeld l disk first count at old_mask new_mask old new =
    (layer : chain.Layer) → WhereTold disk.told (λ trace. Holds l trace layer → AddsOwned layer (table_parts l).sector first count at old_mask new_mask old new)

-- Whatever file it has: its layer adds what it owns.
abbrev pub AddsHad : FileLayer → Disk → ℕ → ℕ → ℕ → List ℕ → List ℕ → List ℕ → List ℕ → Type 0
AddsHad l disk first count at old_mask new_mask old new =
    (file : Placed) → WhereTold disk.told (λ trace. HasFile l trace file → AddsOwned file.member.layer (table_parts l).sector first count at old_mask new_mask old new)

-- Whatever file it reads: its layer adds what it owns.
abbrev pub AddsRead : ReadLayer → Disk → ℕ → ℕ → ℕ → List ℕ → List ℕ → List ℕ → List ℕ → Type 0
AddsRead l disk first count at old_mask new_mask old new =
    (file : Placed) → WhereTold disk.told (λ trace. IsRead l trace file → AddsOwned file.member.layer l.tables.parts.sector first count at old_mask new_mask old new)

-- ---- several files, with sectors of so many bytes: what is seen through them is added

-- whatever layers they hold
abbrev pub AddHeld : List FileLayer → ℕ → Disk → ℕ → ℕ → ℕ → List ℕ → List ℕ → List ℕ → List ℕ → Type 0
AddHeld layers z disk first count at old_mask new_mask old new =
    (each : List chain.Layer) → WhereTold disk.told (λ trace. Hold layers trace each → AddsOwned (through each) z first count at old_mask new_mask old new)

-- whatever files they have
abbrev pub AddHad : List FileLayer → ℕ → Disk → ℕ → ℕ → ℕ → List ℕ → List ℕ → List ℕ → List ℕ → Type 0
AddHad layers z disk first count at old_mask new_mask old new =
    (files : List Placed) → WhereTold disk.told (λ trace. HaveFiles layers trace files → AddsOwned (through (layers_of (members_of files))) z first count at old_mask new_mask old new)

-- whatever files they read
abbrev pub AddRead : List ReadLayer → ℕ → Disk → ℕ → ℕ → ℕ → List ℕ → List ℕ → List ℕ → List ℕ → Type 0
AddRead layers z disk first count at old_mask new_mask old new =
    (files : List Placed) → WhereTold disk.told (λ trace. AreRead layers trace files → AddsOwned (through (layers_of (members_of files))) z first count at old_mask new_mask old new)
