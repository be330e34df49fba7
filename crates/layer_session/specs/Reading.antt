-- Reading sectors by tables.
use Rattle.std.specs.Prelude.{◌≡◌, ◌⊎◌, ℕ, ◌+◌, ◌*◌, ◌%◌, ◌^◌, ◌<◌, ◌≤◌, ◌==◌, Bool, if◌then◌else◌, List, length, Some, None}
use Rattle.vx_base.specs.Fields.{bytes_at}
use Rattle.vhdx_format.specs.Layers.{Shape, entry_of, layer_sector, place_at, state_at, stored_sector}
use Rattle.vhdx_format.specs.SectorBitmaps.{bit_of}
use Rattle.store_model.specs.Trace.{Trace}
use Rattle.table_pages.specs.Held.{held_file, shape_of}
use Rattle.table_pages.specs.declared.tables.Tables.{Tables}
use Rattle.chain_model.specs.Layers as chain

-- The bytes of each sector whose block is there lie in the file as a read gives it, and no changed page over them.
pub record AreStored (p : Shape) (file held : List ℕ) : Type 0 where
  pub most : length file < 2 ^ 64
  pub within : (s : ℕ) → s < p.sectors → (state_at p held (entry_of p s) ≡ 6) ⊎ (state_at p held (entry_of p s) ≡ 7) → place_at p held (entry_of p s) + p.block ≤ length file
  pub stored : (s : ℕ) → s < p.sectors → (state_at p held (entry_of p s) ≡ 6) ⊎ (state_at p held (entry_of p s) ≡ 7)
      → stored_sector p held s ≡ bytes_at file (place_at p held (entry_of p s) + s * p.sector % p.block) p.sector

-- the layer of tables, sector by sector
abbrev pub layer_by : Tables → Trace → chain.Layer
layer_by t trace s = layer_sector (shape_of t.parts) (held_file t trace) s

-- a layer of sectors that stand one after the other in a file from a place on, all of them or none
abbrev pub run_layer : Bool → List ℕ → ℕ → ℕ → chain.Layer
run_layer has file place z i = if has then Some (bytes_at file (place + z * i) z) else None

-- and one that has those of them whose bits are set
abbrev pub marked_layer : List ℕ → ℕ → List ℕ → ℕ → ℕ → chain.Layer
marked_layer bits skip file place z i = if bit_of bits (skip + i) == 1 then Some (bytes_at file (place + z * i) z) else None
