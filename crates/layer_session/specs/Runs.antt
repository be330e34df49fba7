-- What reading runs of sectors asks: of tables and their file, of the sectors, and of the slices that they are read into.
use Rattle.std.specs.Prelude.{◌≡◌, ℕ, ◌+◌, ◌*◌, ◌%◌, ◌^◌, ◌<◌, ◌≤◌, true, List, length}
use Rattle.store_model.specs.Disk.{Disk}
use Rattle.table_pages.specs.declared.tables.Tables.{Tables}
use Rattle.layer_session.specs.ByTables.{HasStored}
use Rattle.layer_session.specs.TablesRead.{AreBitsThere, AreReadable}

-- Sectors can be read by these tables: the tables can be read, and the bytes of each sector whose block is there lie in their file.
pub record SectorsAreReadable (t : Tables) (disk : Disk) : Type 0 where
  pub tables : AreReadable t disk
  pub stored : HasStored t disk

-- So many sectors of this size fill these bytes, and the mask has a bit for each of them, from this one on.
pub record SectorsFit (count size : ℕ) (out mask : List ℕ) (at : ℕ) : Type 0 where
  pub bytes : length out ≡ size * count
  pub bits : at + count ≤ 8 * length mask
  pub ends : at + count < 2 ^ 64

-- Sectors of the disk, in a file with a parent, have their bits in one sector bitmap block, which is there.
pub record HaveOneBitmap (t : Tables) (disk : Disk) (first count : ℕ) : Type 0 where
  pub parent : t.parts.parent ≡ true
  pub on_disk : first + count ≤ t.parts.sectors
  pub chunk : first % 2 ^ 23 + count ≤ 2 ^ 23
  pub bitmap : 0 < count → AreBitsThere first t disk
