-- Tables that hold a layer can be read; and what reading them leaves of the layer.
use Rattle.std.proofs.Common.{◌≡◌, ℕ, ◌+◌, ◌*◌, ◌%◌, ◌<◌, ◌≤◌, ◌⊎◌, true, false, List, length, get_or, Some, refl, sym, ap, subst, ◌∙◌, arith, inl, inr}
use Rattle.std.proofs.lemmas.Bool.{cases_lt}
use Rattle.store_model.proofs.Parts.{length-part}
use Rattle.vx_base.specs.Fields.{bytes_at}
use Rattle.vx_base.specs.declared.parts.Parts.{Parts}
use Rattle.vhdx_format.specs.AllocationTables.{IsSectorSize, IsBlockSize, table_entries}
use Rattle.vhdx_format.specs.Fields.{megabyte, overlaps}
use Rattle.vhdx_format.specs.FileParts.{shape_of}
use Rattle.vhdx_format.specs.HeldBlocks.{Area, HasGoodStates, HoldsBlock, IsBitmapEntry, IsPayloadEntry, bitmap, payload}
use Rattle.vhdx_format.specs.Layers.{Shape, bitmap_entry_of, block_of, chunk_ratio_of, entry_of, layer_sector, place_at, state_at, stored_sector}
use Rattle.vhdx_format.specs.declared.log_entry.Page.{Page}
use Rattle.vhdx_format.proofs.LayerLemmas.{entries_apart, sector_entries}
use Rattle.vhdx_format.proofs.SizeLemmas.{ratio_in_range, sector_cases}
use Rattle.store_model.specs.Disk.{Disk, WhereTold}
use Rattle.store_model.specs.File.{seen}
use Rattle.store_model.specs.Trace.{Trace, file_of}
use Rattle.table_pages.specs.Held.{AreTables, HasTables, held}
use Rattle.table_pages.specs.Held as tables
use Rattle.table_pages.specs.Changes.{HeldBeside}
use Rattle.table_pages.specs.Pages.{is_kept}
use Rattle.table_pages.specs.declared.tables.TableParts.{TableParts}
use Rattle.table_pages.specs.declared.tables.Tables.{Tables}
use Rattle.table_pages.proofs.Changing.{held_beside_writes}
use Rattle.table_pages.proofs.Laying.{held_len}
use Rattle.layer_session.proofs.Sectors.{in_block}
use Rattle.chain_model.specs.Images.{Placed}
use Rattle.chain_model.specs.Layers as chain
use Rattle.layer_session.specs.declared.file.Layer.{Layer}
use Rattle.layer_session.specs.Calls.{IsSame, own_bytes}
use Rattle.layer_session.specs.Keeping.{HoldsLayer, IsHeld, IsReadable, IsTablePlace, Serves, bitmap as bitmap_place, entries, metadata, regions}
use Rattle.layer_session.specs.Reading.{AreStored}
use Rattle.layer_session.specs.TablesRead.{AreReadable, HasBitmaps, HasRead, IsTablePage, bitmap as bitmap_page, entries as entries_page}
use Rattle.layer_session.proofs.Alike.{AreSizes, IsInFile, bitmap_there, block_in_file, off_range}
use Rattle.layer_session.proofs.Apart.{meet}

module _ (t : Tables) (parts : Parts) (layer : chain.Layer) (F : List ℕ) (is_held : HoldsLayer t parts layer F) where
  abbrev H : List ℕ
  H = held t.pending F

  abbrev q : Shape
  q = shape_of parts

  sizes : AreSizes parts
  sizes = record {
    sector = subst (λ (p : Shape). IsSectorSize p.sector) is_held.shape is_held.sizes.sector;
    block = subst (λ (p : Shape). IsBlockSize p.block) is_held.shape is_held.sizes.block;
    entries = subst (λ n. 8 * table_entries (parts.geometry.sectors * parts.geometry.sector) parts.geometry.sector parts.block parts.parent ≤ n) is_held.region
        (subst (λ (p : Shape). 8 * table_entries (p.sectors * p.sector) p.sector p.block p.parent ≤ t.parts.bat_len) is_held.shape is_held.sizes.entries);
  }

  long : length H ≡ length F
  long = held_len (length F) t.pending F is_held.pages.changed refl

  payload_of : (s : ℕ) → s < q.sectors → IsPayloadEntry q (entry_of q s)
  payload_of s below = (sector_entries q (record { sector = sizes.sector; block = sizes.block })).payload s below

  block_at : (s : ℕ) → s < q.sectors → (state_at q H (entry_of q s) ≡ 6) ⊎ (state_at q H (entry_of q s) ≡ 7) → HoldsBlock q H (entry_of q s) (record { at = place_at q H (entry_of q s); len = q.block })
  block_at s below there = payload (payload_of s below) there

  in_file : (index : ℕ) (a : Area) → HoldsBlock q H index a → IsInFile parts H H (omega arith) sizes is_held.numbers is_held.sound a
  in_file index a h = block_in_file parts H H (omega arith) sizes is_held.numbers is_held.sound index a h

  -- a sector's bytes are none of the tables'
  sector_off : (s : ℕ) → s < q.sectors → (there : (state_at q H (entry_of q s) ≡ 6) ⊎ (state_at q H (entry_of q s) ≡ 7)) → (i : ℕ) → place_at q H (entry_of q s) ≤ i → i < place_at q H (entry_of q s) + q.block → IsTablePlace parts H i → ⊥
  sector_off s below there i from to place = by_place place
    where
      f : IsInFile parts H H (omega arith) sizes is_held.numbers is_held.sound (record { at = place_at q H (entry_of q s); len = q.block })
      f = in_file (entry_of q s) (record { at = place_at q H (entry_of q s); len = q.block }) (block_at s below there)

      out : (b m : ℕ) → overlaps (place_at q H (entry_of q s)) q.block b m ≡ false → b ≤ i → i < b + m → ⊥
      out b m o x k = by_side (off_range (place_at q H (entry_of q s)) q.block b m i o from to)
        where
          by_side : (i < b) ⊎ (b + m ≤ i) → ⊥
          by_side (inl y) = omega (arith, x, y)
          by_side (inr y) = omega (arith, k, y)

      no_bitmap : (index : ℕ) → IsBitmapEntry q index → entry_of q s ≡ index → ⊥
      no_bitmap index be e = (entries_apart (chunk_ratio_of q) (ratio_in_range q.sector q.block sizes.sector sizes.block).0).kinds (block_of q s) be.chunk (e ∙ be.at_index)

      by_place : IsTablePlace parts H i → ⊥
      by_place (regions x k) = let low = f.low in omega (arith, k, low, from)
      by_place (entries x k) = out parts.bat_at parts.bat_len f.off_table x k
      by_place (metadata x k) = out parts.meta_at parts.meta_len f.off_metadata x k
      by_place (bitmap_place index be six x k) =
          meet parts sizes H is_held.sound (entry_of q s) index i (record { at = place_at q H (entry_of q s); len = q.block }) (record { at = place_at q H index; len = megabyte }) (block_at s below there) (bitmap be six) (no_bitmap index be) from to x k

  stored_here : (s : ℕ) → s < q.sectors → (state_at q H (entry_of q s) ≡ 6) ⊎ (state_at q H (entry_of q s) ≡ 7) → stored_sector q H s ≡ bytes_at F (place_at q H (entry_of q s) + s * q.sector % q.block) q.sector
  unfolding stored_sector
  stored_here s below there = ap (λ n. bytes_at H at n) (sym whole) ∙ read.read ∙ ap (λ n. bytes_at F at n) whole
    where
      at : ℕ
      at = place_at q H (entry_of q s) + s * q.sector % q.block

      fits : s * q.sector % q.block + q.sector ≤ q.block
      fits = in_block s q.sector q.block sizes.sector sizes.block

      inside : at + q.sector ≤ length F
      inside = let b = (in_file (entry_of q s) (record { at = place_at q H (entry_of q s); len = q.block }) (block_at s below there)).within in let f = fits in omega (arith, b, f, long)

      whole : length (bytes_at F at q.sector) ≡ q.sector
      whole = length-part F at q.sector inside

      some : 0 < q.sector
      some = by_size (sector_cases q.sector sizes.sector)
        where
          by_size : (q.sector ≡ 512) ⊎ (q.sector ≡ 4096) → 0 < q.sector
          by_size (inl e) = omega (arith, e)
          by_size (inr e) = omega (arith, e)

      off_page : (page : Page) → ((i : ℕ) → page.at ≤ i → i < page.at + 4096 → IsTablePlace parts H i) → (at + q.sector ≤ page.at) ⊎ (page.at + 4096 ≤ at)
      off_page page of_tables = by_order (cases_lt page.at (at + q.sector)) (cases_lt at (page.at + 4096)) (cases_lt at page.at)
        where
          by_order : (page.at < at + q.sector) ⊎ (at + q.sector ≤ page.at) → (at < page.at + 4096) ⊎ (page.at + 4096 ≤ at) → (at < page.at) ⊎ (page.at ≤ at) → (at + q.sector ≤ page.at) ⊎ (page.at + 4096 ≤ at)
          by_order (inr x) y o = inl x
          by_order (inl x) (inr y) o = inr y
          by_order (inl x) (inl y) (inl o) = absurd (sector_off s below there page.at (omega (arith, o)) (let f = fits in omega (arith, x, f)) (of_tables page.at (omega arith) (omega arith)))
          by_order (inl x) (inl y) (inr o) = absurd (sector_off s below there at (omega arith) (let f = fits in let n = some in omega (arith, f, n)) (of_tables at o y))

      read : HeldBeside F t.pending at (bytes_at F at q.sector)
      read = held_beside_writes t.parts F t.pending t.cache at (bytes_at F at q.sector) is_held.pages (omega (arith, inside, whole))
          (λ k d b. subst (λ n. (at + n ≤ (get_or t.pending k d).at) ⊎ ((get_or t.pending k d).at + 4096 ≤ at)) (sym whole) (off_page (get_or t.pending k d) (is_held.of_tables k d b)))

  pub are_stored : AreStored (tables.shape_of t.parts) F H
  are_stored =
      subst (λ (p : Shape). AreStored p F H) (sym is_held.shape)
      (record {
        most = let m = is_held.most in omega (arith, m);
        within = λ s below there. let b = (in_file (entry_of q s) (record { at = place_at q H (entry_of q s); len = q.block }) (block_at s below there)).within in omega (arith, b, long);
        stored = stored_here;
      })

  pub good_states : HasGoodStates (tables.shape_of t.parts) H
  good_states = subst (λ (p : Shape). HasGoodStates p H) (sym is_held.shape) is_held.sound.states

  -- the sector bitmap blocks that are needed are there
  abbrev HasBlocks : Shape → Type 0
  HasBlocks p =
      ((s : ℕ) → s < p.sectors → p.parent ≡ true → state_at p H (entry_of p s) ≡ 7 → state_at p H (bitmap_entry_of p s) ≡ 6)
      × ((s : ℕ) → s < p.sectors → p.parent ≡ true → state_at p H (bitmap_entry_of p s) ≡ 6 → place_at p H (bitmap_entry_of p s) + megabyte ≤ length F)

  blocks : HasBlocks (tables.shape_of t.parts)
  blocks =
      subst HasBlocks (sym is_held.shape) (
        λ s below parent seven. bitmap_there parts H H (omega arith) sizes is_held.numbers is_held.sound s below parent seven,
        λ s below parent six.
            let be : IsBitmapEntry q (bitmap_entry_of q s) = (sector_entries q (record { sector = sizes.sector; block = sizes.block })).bitmap s parent below in
            let b = (in_file (bitmap_entry_of q s) (record { at = place_at q H (bitmap_entry_of q s); len = megabyte }) (bitmap be six)).within in
            omega (arith, b, long),
      )

  pub has_bitmaps : HasBitmaps t.parts H (length F)
  has_bitmaps = record { there = λ s below parent seven. blocks.0 s below parent seven; within = λ s below parent six. blocks.1 s below parent six }

-- its layer is what its tables say
pub layer_is : (t : Tables) (parts : Parts) (layer : chain.Layer) (F : List ℕ) → HoldsLayer t parts layer F → (s : ℕ) → s < t.parts.sectors → layer s ≡ layer_sector (tables.shape_of t.parts) (held t.pending F) s
layer_is t parts layer F h s below =
    h.has.on_disk s (let e : t.parts.sectors ≡ parts.geometry.sectors = ap (λ (p : Shape). p.sectors) h.shape in omega (arith, below, e)) ∙ ap (λ (p : Shape). layer_sector p (held t.pending F) s) (sym h.shape)

-- the file of these tables has a layer
abbrev pub HoldsOne : Tables → Trace → Type 0
HoldsOne t trace = (parts : Parts) × ((layer : chain.Layer) × HoldsLayer t parts layer (seen (file_of trace t.parts.file)))

module _ (t : Tables) (disk : Disk) (there : t.parts.file < disk.files) (sizes_are : HasTables t.parts) (holds : WhereTold disk.told (HoldsOne t)) where
  pub held_readable : AreReadable t disk
  held_readable = record {
    there = there;
    sizes = sizes_are;
    tables = λ trace told. let h = holds trace told in h.1.1.pages;
    states = λ trace told. let h = holds trace told in good_states t h.0 h.1.0 (seen (file_of trace t.parts.file)) h.1.1;
    bitmaps = λ trace told. let h = holds trace told in has_bitmaps t h.0 h.1.0 (seen (file_of trace t.parts.file)) h.1.1;
  }

  pub held_stored : WhereTold disk.told (λ trace. AreStored (tables.shape_of t.parts) (seen (file_of trace t.parts.file)) (tables.held_file t trace))
  held_stored trace told = let h = holds trace told in are_stored t h.0 h.1.0 (seen (file_of trace t.parts.file)) h.1.1

pub tables_readable : (l : Layer) (disk : Disk) → IsReadable l disk → AreReadable l.tables disk
tables_readable l disk r = held_readable l.tables disk r.there r.sizes r.told

pub tables_stored : (l : Layer) (disk : Disk) → IsReadable l disk → WhereTold disk.told (λ trace. AreStored (tables.shape_of l.tables.parts) (seen (file_of trace l.tables.parts.file)) (tables.held_file l.tables trace))
tables_stored l disk r = held_stored l.tables disk r.there r.sizes r.told

-- ---- what reading leaves

module _ (old new : Tables) (disk : Disk) (reads : HasRead old new disk) where
  abbrev pub kept_tables : Tables
  kept_tables = record { parts = old.parts; pending = old.pending; cache = new.cache }

  pub same_tables : kept_tables ≡ new
  same_tables = λ i. record { parts = sym reads.as_held.parts_are i; pending = sym reads.as_held.unchanged i; cache = new.cache }

  told_tables : (t : Trace) → disk.told ≡ Some t → AreTables old.parts (seen (file_of t old.parts.file)) old.pending new.cache
  told_tables t told = subst (λ (x : Tables). AreTables x.parts (seen (file_of t x.parts.file)) x.pending x.cache) (sym same_tables) (reads.as_held.tables t told)

  pub holds_kept : (t : Trace) (parts : Parts) (layer : chain.Layer) → disk.told ≡ Some t → HoldsLayer old parts layer (seen (file_of t old.parts.file)) → HoldsLayer kept_tables parts layer (seen (file_of t old.parts.file))
  holds_kept t parts layer told h = record { sizes = h.sizes; shape = h.shape; region = h.region; most = h.most; pages = told_tables t told; numbers = h.numbers; sound = h.sound; of_tables = h.of_tables; has = h.has }

  -- the tables hold what they held
  pub holds_again : (t : Trace) (parts : Parts) (layer : chain.Layer) → disk.told ≡ Some t → HoldsLayer old parts layer (seen (file_of t old.parts.file)) → HoldsLayer new parts layer (seen (file_of t old.parts.file))
  holds_again t parts layer told h = subst (λ (x : Tables). HoldsLayer x parts layer (seen (file_of t old.parts.file))) same_tables (holds_kept t parts layer told h)

abbrev pub with_tables : Layer → Tables → Layer
with_tables l new = record l { tables = new }

module _ (l : Layer) (new : Tables) (disk : Disk) (reads : HasRead l.tables new disk) where
  abbrev mine : Tables
  mine = kept_tables l.tables new disk reads

  holds_on : (t : Trace) (parts : Parts) (layer : chain.Layer) → disk.told ≡ Some t → IsHeld l parts layer (own_bytes l t) → IsHeld (with_tables l mine) parts layer (own_bytes l t)
  holds_on t parts layer told h = holds_kept l.tables new disk reads t parts layer told h

  serves_on : (t : Trace) (file : Placed) → disk.told ≡ Some t → Serves l t file → Serves (with_tables l mine) t file
  serves_on t file told s = record {
    within = s.within;
    number = s.number;
    name = s.name;
    parts = s.parts;
    header = s.header;
    ties = s.ties;
    metadata = s.metadata;
    as_held = subst (λ n. IsHeld (with_tables l mine) s.parts file.member.layer (seen (file_of t n))) (sym s.number) (holds_on t s.parts file.member.layer told (subst (λ n. IsHeld l s.parts file.member.layer (seen (file_of t n))) s.number s.as_held));
    bytes = s.bytes;
    tables = s.tables;
    written = s.written;
    running = s.running;
    committed = s.committed;
    covered = s.covered;
    clean = s.clean;
    covered_held = s.covered_held;
    only = s.only;
    changed = s.changed;
    kept = λ at i aligned k a b. by_kept at i aligned a b ((reads.keeps t told).only at aligned k);
    can = s.can;
    beside = s.beside;
    space = (let sp = s.space in record { next = sp.next; tight = sp.tight; placed = sp.placed; freed = sp.freed; committed = sp.committed });
  }
    where
      by_kept : (at i : ℕ) → at % 4096 ≡ 0 → at ≤ i → i < at + 4096 → (is_kept at l.tables.cache ≡ true) ⊎ IsTablePage l.tables.parts (tables.held_file l.tables t) at → s.tables i ≡ true
      by_kept at i aligned a b (inl k) = s.kept at i aligned k a b
      by_kept at i aligned a b (inr page) = s.covered_held.covers i (subst (λ n. IsTablePlace s.parts (held l.tables.pending (seen (file_of t n))) i) (sym s.number) (of_page page))
        where
          of_page : IsTablePage l.tables.parts (tables.held_file l.tables t) at → IsTablePlace s.parts (tables.held_file l.tables t) i
          of_page (entries_page x y) =
              let bat : l.tables.parts.bat_at ≡ s.parts.bat_at = ap (λ (p : Shape). p.table) s.as_held.shape in
              let len : l.tables.parts.bat_len ≡ s.parts.bat_len = s.as_held.region in
              entries (omega (arith, x, a, bat)) (omega (arith, y, b, bat, len))
          of_page (bitmap_page index be six x y) =
              let moved = subst (λ (p : Shape). IsBitmapEntry p index × (state_at p (tables.held_file l.tables t) index ≡ 6) × (place_at p (tables.held_file l.tables t) index ≤ at) × (at + 4096 ≤ place_at p (tables.held_file l.tables t) index + megabyte)) s.as_held.shape (be, six, x, y) in
              bitmap_place index moved.0 moved.1 (omega (arith, moved.2, a)) (omega (arith, moved.3, b))

  same_kept : IsReadable l disk → IsSame l (with_tables l mine) disk
  same_kept r = record {
    parts = refl;
    number = refl;
    header = refl;
    readable = record { there = r.there; sizes = r.sizes; told = λ t told. let h = r.told t told in (h.0, (h.1.0, holds_on t h.0 h.1.0 told h.1.1)) };
    ready = λ w. record {
      readable = record { there = r.there; sizes = r.sizes; told = λ t told. let h = r.told t told in (h.0, (h.1.0, holds_on t h.0 h.1.0 told h.1.1)) };
      one_file = w.one_file;
      next = w.next;
      most = w.most;
      clear = w.clear;
      plans = w.plans;
      told = λ t told. let s = w.told t told in (s.0, serves_on t s.0 told s.1);
    };
    holds = λ t parts layer told h. holds_on t parts layer told h;
    serves = λ t file told s. serves_on t file told s;
  }

  pub read_is_same : IsReadable l disk → IsSame l (with_tables l new) disk
  read_is_same r = subst (λ (x : Tables). IsSame l (with_tables l x) disk) (same_tables l.tables new disk reads) (same_kept r)

-- one reading behind another
pub same_then : (a b c : Layer) (disk : Disk) → IsSame a b disk → IsSame b c disk → IsSame a c disk
same_then a b c disk h k = record {
  parts = k.parts ∙ h.parts;
  number = k.number ∙ h.number;
  header = k.header ∙ h.header;
  readable = k.readable;
  ready = λ r. k.ready (h.ready r);
  holds = λ t parts layer told x. of_a t parts layer (k.holds t parts layer told (of_b t parts layer (h.holds t parts layer told x)));
  serves = λ t file told s. k.serves t file told (h.serves t file told s);
}
  where
    of_b : (t : Trace) (parts : Parts) (layer : chain.Layer) → IsHeld b parts layer (own_bytes a t) → IsHeld b parts layer (own_bytes b t)
    of_b t parts layer = subst (λ n. IsHeld b parts layer (seen (file_of t n))) (sym (ap (λ (p : TableParts). p.file) h.parts))

    of_a : (t : Trace) (parts : Parts) (layer : chain.Layer) → IsHeld c parts layer (own_bytes b t) → IsHeld c parts layer (own_bytes a t)
    of_a t parts layer = subst (λ n. IsHeld c parts layer (seen (file_of t n))) (ap (λ (p : TableParts). p.file) h.parts)

pub same_self : (l : Layer) (disk : Disk) → IsReadable l disk → IsSame l l disk
same_self l disk r = record { parts = refl; number = refl; header = refl; readable = r; ready = λ w. w; holds = λ t parts layer told h. h; serves = λ t file told s. s }
