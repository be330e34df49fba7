-- Stripes that a merge passes over: a file has none of their sectors, by its entries.
use Rattle.std.specs.Prelude.{◌≡◌, ℕ, ◌+◌, ◌-◌, ◌*◌, ◌≤◌}
use Rattle.vx_base.specs.declared.parts.Geometry.{Geometry}
use Rattle.store_model.specs.Disk.{Disk}
use Rattle.table_pages.specs.declared.tables.Tables.{Tables}
use Rattle.chain_model.specs.Stripes.{per_stripe}
use Rattle.layer_session.specs.Absent.{FindsAbsent}
use Rattle.merge_core.specs.Ranges.{whole_stripes}

-- So many stripes from one on are those that lie wholly among the sectors of absent blocks which a look at the entries finds from its first
-- sector on.
pub record PassesStripes (t : Tables) (disk : Disk) (geometry : Geometry) (from n : ℕ) : Type 0 where
  pub count : ℕ
  pub on_disk : from * per_stripe geometry.sector + count ≤ geometry.sectors
  pub absent : FindsAbsent t disk (from * per_stripe geometry.sector) (geometry.sectors - from * per_stripe geometry.sector) count
  pub stripes : n ≡ whole_stripes from count geometry.sector geometry.sectors
