-- Pages that were put among the changed ones, as they are held: only what the layer keeps in memory is another.
use Rattle.std.proofs.Common.{◌≡◌, ℕ, ◌+◌, ◌%◌, ◌<◌, ◌≤◌, ◌⊎◌, true, List, [], length, get_or, Some, refl, sym, ap, subst, arith, inl, inr}
use Rattle.std.specs.Prelude.{Ok}
use Rattle.std.proofs.lemmas.Bool.{and_parts, cases_lt, leb-true}
use Rattle.vx_base.specs.declared.parts.Header.{Header}
use Rattle.vx_base.specs.declared.parts.Parts.{Parts}
use Rattle.vhdx_format.specs.Fields.{megabyte}
use Rattle.vhdx_format.specs.FileParts.{read_parts, shape_of, taken_areas}
use Rattle.vhdx_format.specs.HeldBlocks.{IsBitmapEntry, IsSoundTable, bitmap}
use Rattle.vhdx_format.specs.Layers.{Shape, place_at, state_at}
use Rattle.store_model.specs.Disk.{Disk}
use Rattle.store_model.specs.File.{seen}
use Rattle.store_model.specs.Trace.{Trace, file_of}
use Rattle.log_format.specs.PendingPages.{has_place}
use Rattle.log_write.specs.Writing.{CanCommit}
use Rattle.table_pages.specs.Held.{AreTables, held}
use Rattle.table_pages.specs.Held as tables
use Rattle.table_pages.specs.Pages.{is_kept}
use Rattle.table_pages.specs.declared.tables.TableParts.{TableParts}
use Rattle.table_pages.specs.declared.tables.Tables.{Tables}
use Rattle.chain_model.specs.Images.{Placed, metadata_of}
use Rattle.chain_model.specs.Layers as chain
use Rattle.layer_session.specs.declared.file.Layer.{Layer}
use Rattle.layer_session.specs.Bringing.{HasBrought}
use Rattle.layer_session.specs.Calls.{IsSame, own_bytes}
use Rattle.layer_session.specs.Keeping.{AreBeside, AreOfTables, Covers, IsHeld, IsLayerOf, IsNobodys, IsReadable, IsTablePlace, Serves, area_of, bitmap as bitmap_place, entries}
use Rattle.layer_session.specs.TablesRead.{IsTablePage, bitmap as bitmap_page, entries as entries_page}
use Rattle.layer_session.proofs.Alike.{block_in_file}
use Rattle.layer_session.proofs.Entered.{sizes, some_log}
use Rattle.layer_session.proofs.Numbers.{are_numbers}
use Rattle.layer_session.proofs.Pages.{all_places, of_places}

-- a page of tables of these numbers, as held
table_place : (t : TableParts) (parts : Parts) (H : List ℕ) (at i : ℕ) → tables.shape_of t ≡ shape_of parts → t.bat_len ≡ parts.bat_len → at ≤ i → i < at + 4096 → IsTablePage t H at → IsTablePlace parts H i
table_place t parts H at i shape len a b (entries_page x y) = let bat : t.bat_at ≡ parts.bat_at = ap (λ (p : Shape). p.table) shape in entries (omega (arith, x, a, bat)) (omega (arith, y, b, bat, len))
table_place t parts H at i shape len a b (bitmap_page index be six x y) =
    let moved = subst (λ (p : Shape). IsBitmapEntry p index × (state_at p H index ≡ 6) × (place_at p H index ≤ at) × (at + 4096 ≤ place_at p H index + megabyte)) shape (be, six, x, y) in
    bitmap_place index moved.0 moved.1 (omega (arith, moved.2, a)) (omega (arith, moved.3, b))

module _ (l : Layer) (new : Tables) (disk : Disk) (brings : HasBrought l.tables new disk) where
  abbrev then : Tables
  then = record { parts = l.tables.parts; pending = new.pending; cache = new.cache }

  then_is : then ≡ new
  then_is = λ i. record { parts = sym brings.parts_are i; pending = new.pending; cache = new.cache }

  abbrev layer_then : Layer
  layer_then = record l { tables = then }

  pages : (t : Trace) → disk.told ≡ Some t → AreTables l.tables.parts (own_bytes l t) new.pending new.cache
  pages t told = subst (λ (p : TableParts). AreTables p (seen (file_of t p.file)) new.pending new.cache) brings.parts_are (brings.tables t told)

  same : (t : Trace) → disk.told ≡ Some t → held new.pending (own_bytes l t) ≡ held l.tables.pending (own_bytes l t)
  same t told = subst (λ (p : TableParts). held new.pending (seen (file_of t p.file)) ≡ held l.tables.pending (own_bytes l t)) brings.parts_are (brings.held t told)

  places : (t : Trace) → disk.told ≡ Some t → (parts : Parts) → tables.shape_of l.tables.parts ≡ shape_of parts → l.tables.parts.bat_len ≡ parts.bat_len
      → AreOfTables parts (held l.tables.pending (own_bytes l t)) l.tables.pending → (at : ℕ) → has_place at new.pending ≡ true → (i : ℕ) → at ≤ i → i < at + 4096 → IsTablePlace parts (held l.tables.pending (own_bytes l t)) i
  places t told parts shape len of at h i a b = by_place ((brings.puts t told).only at h)
    where
      by_place : (has_place at l.tables.pending ≡ true) ⊎ IsTablePage l.tables.parts (held l.tables.pending (own_bytes l t)) at → IsTablePlace parts (held l.tables.pending (own_bytes l t)) i
      by_place (inl old) = of_places (λ at. (i : ℕ) → at ≤ i → i < at + 4096 → IsTablePlace parts (held l.tables.pending (own_bytes l t)) i) l.tables.pending of at old i a b
      by_place (inr page) = table_place l.tables.parts parts (held l.tables.pending (own_bytes l t)) at i shape len a b page

  holds_on : (t : Trace) (parts : Parts) (layer : chain.Layer) → disk.told ≡ Some t → IsHeld l parts layer (own_bytes l t) → IsHeld layer_then parts layer (own_bytes l t)
  holds_on t parts layer told h =
      let e = sym (same t told) in
      let F = own_bytes l t in
      record {
        sizes = h.sizes;
        shape = h.shape;
        region = h.region;
        most = h.most;
        pages = pages t told;
        numbers = subst (λ z. read_parts parts.header z ≡ Ok parts) e h.numbers;
        sound = subst (IsSoundTable (shape_of parts) (taken_areas parts)) e h.sound;
        of_tables = subst (λ z. AreOfTables parts z new.pending) e
            (all_places (λ at. (i : ℕ) → at ≤ i → i < at + 4096 → IsTablePlace parts (held l.tables.pending F) i) new.pending (places t told parts h.shape h.region h.of_tables));
        has = subst (λ z. IsLayerOf (shape_of parts) z layer) e h.has;
      }

  module _ (t : Trace) (file : Placed) (told : disk.told ≡ Some t) (s : Serves l t file) where
    abbrev F : List ℕ
    F = seen (file_of t file.number)

    abbrev H : List ℕ
    H = held l.tables.pending F

    same_held : held new.pending F ≡ H
    same_held = subst (λ n. held new.pending (seen (file_of t n)) ≡ held l.tables.pending (seen (file_of t n))) (sym s.number) (same t told)

    of_tables : (at : ℕ) → has_place at new.pending ≡ true → (i : ℕ) → at ≤ i → i < at + 4096 → IsTablePlace s.parts H i
    of_tables at h i a b =
        subst (λ n. IsTablePlace s.parts (held l.tables.pending (seen (file_of t n))) i) (sym s.number)
        (places t told s.parts s.as_held.shape s.as_held.region (subst (λ n. AreOfTables s.parts (held l.tables.pending (seen (file_of t n))) l.tables.pending) s.number s.as_held.of_tables) at h i a b)

    pages_here : AreTables l.tables.parts F new.pending new.cache
    pages_here = subst (λ n. AreTables l.tables.parts (seen (file_of t n)) new.pending new.cache) (sym s.number) (pages t told)

    low_page : (at : ℕ) → IsTablePage l.tables.parts H at → megabyte ≤ at
    low_page at (entries_page x y) =
        let n = (are_numbers s.parts.header H s.parts s.as_held.numbers).0 in
        let e : megabyte ≤ s.parts.bat_at = leb-true megabyte s.parts.bat_at (and_parts _ _ n.table.whole_at).1 in
        let bat : l.tables.parts.bat_at ≡ s.parts.bat_at = ap (λ (p : Shape). p.table) s.as_held.shape in
        omega (arith, e, bat, x)
    low_page at (bitmap_page index be six x y) =
        let moved = subst (λ (p : Shape). IsBitmapEntry p index × (state_at p H index ≡ 6) × (place_at p H index ≤ at)) s.as_held.shape (be, six, x) in
        let b = block_in_file s.parts H H (omega arith) (sizes l t file s) s.as_held.numbers s.as_held.sound index (record { at = place_at (shape_of s.parts) H index; len = megabyte }) (bitmap moved.0 moved.1) in
        let low = b.low in omega (arith, low, moved.2)

    can : (at : ℕ) → has_place at new.pending ≡ true → CanCommit l.log (record { at = at; bytes = [] })
    can at h = by_place ((brings.puts t told).only at h)
      where
        aligned : at % 4096 ≡ 0
        aligned = of_places (λ at. at % 4096 ≡ 0) new.pending (λ k d b. (pages_here.changed k d b).aligned) at h

        within : at + 4096 ≤ length F
        within = of_places (λ at. at + 4096 ≤ length F) new.pending (λ k d b. (pages_here.changed k d b).within) at h

        out : (i : ℕ) → at ≤ i → i < at + 4096 → (i < s.parts.header.log_at) ⊎ (s.parts.header.log_at + s.parts.header.log_len ≤ i)
        out i a b = (s.covered_held.beside i (of_tables at h i a b)).log

        off_log : (at + 4096 ≤ s.parts.header.log_at) ⊎ (s.parts.header.log_at + s.parts.header.log_len ≤ at)
        off_log = by_side (cases_lt s.parts.header.log_at at) (cases_lt s.parts.header.log_at (at + 4096))
          where
            after : (at < s.parts.header.log_at) ⊎ (s.parts.header.log_at + s.parts.header.log_len ≤ at) → s.parts.header.log_at < at → s.parts.header.log_at + s.parts.header.log_len ≤ at
            after (inl x) y = absurd (omega (arith, x, y))
            after (inr x) y = x

            inside : (s.parts.header.log_at < s.parts.header.log_at) ⊎ (s.parts.header.log_at + s.parts.header.log_len ≤ s.parts.header.log_at) → ⊥
            inside (inl x) = omega (arith, x)
            inside (inr x) = let some = some_log l t file s in omega (arith, x, some)

            by_side : (s.parts.header.log_at < at) ⊎ (at ≤ s.parts.header.log_at) → (s.parts.header.log_at < at + 4096) ⊎ (at + 4096 ≤ s.parts.header.log_at) → (at + 4096 ≤ s.parts.header.log_at) ⊎ (s.parts.header.log_at + s.parts.header.log_len ≤ at)
            by_side x (inr y) = inl y
            by_side (inl x) (inl y) = inr (after (out at (omega arith) (omega arith)) x)
            by_side (inr x) (inl y) = absurd (inside (out s.parts.header.log_at x y))

        by_place : (has_place at l.tables.pending ≡ true) ⊎ IsTablePage l.tables.parts (held l.tables.pending (own_bytes l t)) at → CanCommit l.log (record { at = at; bytes = [] })
        by_place (inl old) = of_places (λ at. CanCommit l.log (record { at = at; bytes = [] })) l.tables.pending (λ k d b. let x = s.can k d b in record { may = x.may; within = x.within }) at old
        by_place (inr page) =
            let low = low_page at (subst (λ n. IsTablePage l.tables.parts (held l.tables.pending (seen (file_of t n))) at) (sym s.number) page) in
            let most = s.as_held.most in
            record {
              may = record { at_sector = aligned; sectors = omega arith; below = omega (arith, within, most); apart = inr (omega (arith, low), subst (λ (h : Header). (at + 4096 ≤ h.log_at) ⊎ (h.log_at + h.log_len ≤ at)) s.header off_log) };
              within = let a = s.running.state.long in omega (arith, within, a);
            }

    serves_on : Serves layer_then t file
    serves_on = record {
      within = s.within;
      number = s.number;
      name = s.name;
      parts = s.parts;
      header = s.header;
      ties = s.ties;
      metadata = subst (λ z. file.metadata ≡ metadata_of s.parts z) (sym same_held) s.metadata;
      as_held = subst (λ n. IsHeld layer_then s.parts file.member.layer (seen (file_of t n))) (sym s.number) (holds_on t s.parts file.member.layer told (subst (λ n. IsHeld l s.parts file.member.layer (seen (file_of t n))) s.number s.as_held));
      bytes = s.bytes;
      tables = s.tables;
      written = s.written;
      running = s.running;
      committed = s.committed;
      covered = s.covered;
      clean = s.clean;
      covered_held = subst (λ z. Covers s.parts z s.tables) (sym same_held) s.covered_held;
      only = λ i h. subst (λ z. IsTablePlace s.parts z i) (sym same_held) (s.only i h);
      changed = all_places (λ at. (i : ℕ) → at ≤ i → i < at + 4096 → s.tables i ≡ true) new.pending (λ at h i a b. s.covered_held.covers i (of_tables at h i a b));
      kept = λ at i aligned k a b. by_kept at i aligned a b ((brings.cached t told).only at aligned k);
      can = λ k d b. let x = all_places (λ at. CanCommit l.log (record { at = at; bytes = [] })) new.pending can k d b in record { may = x.may; within = x.within };
      beside = subst (λ z. AreBeside s.parts s.bytes z) (sym same_held) s.beside;
      space = (let sp = s.space in record { next = sp.next; tight = sp.tight; placed = sp.placed; freed = λ k d b. subst (λ z. IsNobodys s.parts z (area_of (get_or l.space.freed k d))) (sym same_held) (sp.freed k d b); committed = sp.committed });
    }
      where
        by_kept : (at i : ℕ) → at % 4096 ≡ 0 → at ≤ i → i < at + 4096 → (is_kept at l.tables.cache ≡ true) ⊎ IsTablePage l.tables.parts (held l.tables.pending (own_bytes l t)) at → s.tables i ≡ true
        by_kept at i aligned a b (inl k) = s.kept at i aligned k a b
        by_kept at i aligned a b (inr page) =
            s.covered_held.covers i (table_place l.tables.parts s.parts H at i s.as_held.shape s.as_held.region a b (subst (λ n. IsTablePage l.tables.parts (held l.tables.pending (seen (file_of t n))) at) (sym s.number) page))

  same_then : IsReadable l disk → IsSame l layer_then disk
  same_then r = record {
    parts = refl;
    number = refl;
    header = refl;
    readable = readable_then;
    ready = λ w. record { readable = readable_then; one_file = w.one_file; next = w.next; most = w.most; clear = w.clear; plans = w.plans; told = λ t told. let s = w.told t told in (s.0, serves_on t s.0 told s.1) };
    holds = λ t parts layer told h. holds_on t parts layer told h;
    serves = λ t file told s. serves_on t file told s;
  }
    where
      readable_then : IsReadable layer_then disk
      readable_then = record { there = r.there; sizes = r.sizes; told = λ t told. let h = r.told t told in (h.0, (h.1.0, holds_on t h.0 h.1.0 told h.1.1)) }

  pub brought_same : IsReadable l disk → IsSame l (record l { tables = new }) disk
  brought_same r = subst (λ (x : Tables). IsSame l (record l { tables = x }) disk) then_is (same_then r)
