-- What a block that is dropped leaves for the steps behind it.
use Rattle.std.proofs.Common.{◌≡◌, ℕ, ◌+◌, ◌*◌, ◌/◌, ◌<◌, ◌≤◌, true, sym, ap, subst, arith}
use Rattle.vhdx_format.specs.Fields.{megabyte}
use Rattle.vhdx_format.specs.Layers.{entry_of}
use Rattle.store_model.specs.Disk.{Disk, WhereTold}
use Rattle.log_format.specs.PendingPages.{has_place}
use Rattle.table_pages.specs.Held.{AreTablesIn, IsSet, KeepsWithin, entry_place, shape_of}
use Rattle.table_pages.specs.Pages.{page_place}
use Rattle.table_pages.proofs.Knowing.{adds_place}
use Rattle.block_alloc.specs.Spaces.{Space, with_freed}
use Rattle.layer_session.specs.declared.file.Layer.{Layer}
use Rattle.layer_session.specs.Keeping.{IsReady}
use Rattle.layer_session.specs.Steps.{HasRoomFor}
use Rattle.layer_session.specs.Taking.{KeepsOthers, LeavesRest}
use Rattle.layer_session.proofs.Dropping.{enters}
use Rattle.layer_session.proofs.Resting.{rest_tables}
use Rattle.layer_session.proofs.Rooms.{room_freed}
use Rattle.layer_session.proofs.Setting.{sets_others}

pub drops_others : (l new : Layer) (disk : Disk) (first index : ℕ) → first < l.tables.parts.sectors → index ≡ entry_of (shape_of l.tables.parts) first → 8 * index + 8 ≤ l.tables.parts.bat_len → IsReady l disk → new.tables.parts ≡ l.tables.parts
    → IsSet index 2 l.tables new.tables disk → AreTablesIn new.tables disk → KeepsWithin l.tables.parts.bat_at (l.tables.parts.bat_at + l.tables.parts.bat_len) l.tables new.tables → WhereTold disk.told (λ t. KeepsOthers l new first t t)
drops_others l new disk first index on_disk index_is inside ready parts set tables keeps t told =
    let one = ready.told t told in
    sets_others l new t one.0 one.1 first index 2 on_disk index_is inside (omega arith) (enters l new.tables disk t one.0 index 2 told one.1 parts set tables keeps)

-- the pages that are changed ones, with that of an entry
pub set_pages : (l new : Layer) (index word : ℕ) (disk : Disk) → IsSet index word l.tables new.tables disk → (at : ℕ) → has_place at l.tables.pending ≡ true → has_place at new.tables.pending ≡ true
set_pages l new index word disk set at h = (adds_place (page_place (entry_place l.tables.parts index)) set.put.bytes l.tables.pending new.tables.pending set.put.pages).keeps at h

pub drops_rest : (l new : Layer) (index word : ℕ) (disk : Disk) → new ≡ record l { tables = new.tables } → new.tables.parts ≡ l.tables.parts → IsSet index word l.tables new.tables disk → LeavesRest l new 0
drops_rest l new index word disk only parts set = rest_tables l new only parts (set_pages l new index word disk set)

pub drops_place_rest : (l new : Layer) (index word : ℕ) (disk : Disk) → new ≡ record l { tables = new.tables } → new.tables.parts ≡ l.tables.parts → IsSet index word l.tables new.tables disk → (at units : ℕ) (space : Space) → space ≡ with_freed at units new.space
    → LeavesRest l (record new { space = space }) 0
drops_place_rest l new index word disk only parts set at units space space_is =
    let rest = drops_rest l new index word disk only parts set in
    record {
      only = ap (λ (x : Layer). (let y : Layer = record x { tables = new.tables; log = new.log; space = space } in y)) rest.only;
      parts = rest.parts;
      log = rest.log;
      pages = rest.pages;
      room = λ blocks h. subst (HasRoomFor (l.tables.parts.block / megabyte) blocks 0) (sym space_is) (room_freed (l.tables.parts.block / megabyte) blocks 0 at units new.space (rest.room blocks h));
    }
