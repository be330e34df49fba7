-- What a layer serves with one entry of its table set.
use Rattle.std.proofs.Common.{◌≡◌, ◌≢◌, ℕ, ◌+◌, ◌*◌, ◌%◌, ◌^◌, ◌<◌, ◌≤◌, ◌⊎◌, Bool, true, false, List, [], length, sym, ap, subst, ◌∙◌, arith, inl, inr}
use Rattle.std.specs.Prelude.{Ok}
use Rattle.std.proofs.lemmas.Bool.{cases_eq}
use Rattle.vx_base.specs.Fields.{u64_bytes, written_over}
use Rattle.vhdx_format.specs.AllocationTables.{state_of, unit_of}
use Rattle.vhdx_format.specs.Fields.{megabyte}
use Rattle.vhdx_format.specs.FileParts.{read_parts, shape_of, taken_areas}
use Rattle.vhdx_format.specs.HeldBlocks.{Area, HoldsBlock, IsBitmapEntry, IsSoundTable, bitmap}
use Rattle.vhdx_format.specs.Layers.{Shape, place_at}
use Rattle.store_model.specs.File.{seen}
use Rattle.store_model.specs.Trace.{Trace, file_of}
use Rattle.table_pages.specs.Held.{Adds, AreTables, KeepsWithin, entry_place, held}
use Rattle.table_pages.specs.Held as table_words
use Rattle.table_pages.specs.Pages.{is_kept, page_place}
use Rattle.table_pages.specs.declared.tables.TableParts.{TableParts}
use Rattle.table_pages.specs.declared.tables.Tables.{Tables}
use Rattle.table_pages.proofs.Laying.{min_len}
use Rattle.table_pages.proofs.Words.{held_long}
use Rattle.vx_base.specs.declared.parts.Header.{Header}
use Rattle.vhdx_format.specs.SettledFiles.{ring_of}
use Rattle.log_format.specs.PendingPages.{has_place}
use Rattle.log_write.specs.Sessions.{IsKept, IsRunning}
use Rattle.log_write.specs.Writing.{CanCommit}
use Rattle.block_alloc.specs.Spaces.{Space}
use Rattle.chain_model.specs.Images.{Placed, metadata_of}
use Rattle.chain_model.specs.Layers as chain
use Rattle.layer_session.specs.declared.file.Layer.{Layer}
use Rattle.layer_session.specs.Calls.{placed_with}
use Rattle.layer_session.specs.Keeping.{AreBeside, AreOfTables, Covers, HasSpace, IsCommitted, IsHeld, IsLayerOf, IsTablePlace, Serves, bitmap as bitmap_place, entries, metadata, regions}
use Rattle.layer_session.proofs.Alike.{AreSizes, block_kept}
use Rattle.layer_session.proofs.Crashes.{IsSafe, safe_of}
use Rattle.layer_session.proofs.Entries.{IsGoodEntry, apart_of, entry_here, table_low, holds_beside, places_before, places_still, set_file, set_metadata, set_numbers, set_sound}
use Rattle.layer_session.proofs.Numbers.{AreNumbers, are_numbers}
use Rattle.layer_session.proofs.Pages.{all_places, of_places}

-- a log's ring is no longer than its place
pub short_ring : (at len : ℕ) (file : List ℕ) → length (ring_of at len file) ≤ len
short_ring at len file = omega (arith, min_len file at len)

-- the layer with other tables and another space
abbrev pub layer_by : Layer → Tables → Space → Layer
layer_by l t space = record l { tables = t; space = space }

-- Tables with an entry set: its page is changed, and what is held is written over.
pub record EntersInto (l : Layer) (trace : Trace) (file : Placed) (t : Tables) (index word : ℕ) : Type 0 where
  pub parts_are : t.parts ≡ l.tables.parts
  pub pages : AreTables t.parts (seen (file_of trace file.number)) t.pending t.cache
  pub adds : Adds (page_place (entry_place l.tables.parts index)) l.tables.pending t.pending
  pub held_is : held t.pending (seen (file_of trace file.number)) ≡ written_over (held l.tables.pending (seen (file_of trace file.number))) (entry_place l.tables.parts index) (u64_bytes word)
  pub keeps : KeepsWithin l.tables.parts.bat_at (l.tables.parts.bat_at + l.tables.parts.bat_len) l.tables t

module _ (l : Layer) (trace : Trace) (file : Placed) (serves : Serves l trace file) where
  abbrev q : Shape
  q = shape_of serves.parts

  abbrev F : List ℕ
  F = seen (file_of trace file.number)

  abbrev H : List ℕ
  H = held l.tables.pending F

  safe : IsSafe serves.parts serves.tables serves.written file.is_loose file.member.layer serves.bytes F
  safe = safe_of l trace file serves

  pub held_as_long : length H ≡ length F
  held_as_long = held_long l.tables.parts F l.tables.pending l.tables.cache serves.as_held.pages

  pub long : 327680 ≤ length H
  long = let a = safe.long in let b = serves.committed.long in omega (arith, a, b, held_as_long)

  pub sizes : AreSizes serves.parts
  sizes = safe.sizes

  -- the log has some room
  pub some_log : 0 < serves.parts.header.log_len
  some_log =
      let ring = serves.running.holds.room in
      let ring_len : length (ring_of l.log.header.log_at l.log.header.log_len F) ≤ l.log.header.log_len = short_ring l.log.header.log_at l.log.header.log_len F in
      let e : serves.parts.header.log_len ≡ l.log.header.log_len = ap (λ (h : Header). h.log_len) serves.header in
      omega (arith, ring, ring_len, e)

  -- the table begins where the numbers say
  pub table_at : l.tables.parts.bat_at ≡ serves.parts.bat_at
  table_at = ap (λ (p : Shape). p.table) serves.as_held.shape

  pub entered_held : (t : Tables) (index word : ℕ) (inside : 8 * index + 8 ≤ serves.parts.bat_len) (small : word < 2 ^ 64) → EntersInto l trace file t index word
      → held t.pending F ≡ set_file serves.parts sizes H serves.as_held.numbers serves.as_held.sound long index word inside small
  entered_held t index word inside small into = into.held_is ∙ ap (λ n. written_over H (n + 8 * index) (u64_bytes word)) table_at

  -- What is known of an entry that is set, and of all that the layer serves with it.
  pub record Enters (t : Tables) (space : Space) (index word : ℕ) (inside : 8 * index + 8 ≤ serves.parts.bat_len) (small : word < 2 ^ 64) (layer : chain.Layer) (is_loose tables written : ℕ → Bool) : Type 0 where
    pub into : EntersInto l trace file t index word
    pub good : IsGoodEntry serves.parts sizes H serves.as_held.numbers serves.as_held.sound long index word inside small
    pub has : IsLayerOf q (set_file serves.parts sizes H serves.as_held.numbers serves.as_held.sound long index word inside small) layer
    pub clean : (s : ℕ) → is_loose s ≡ false → (file.is_loose s ≡ false) × (layer s ≡ file.member.layer s)
    pub running : IsRunning l.log tables (length serves.bytes) written (file_of trace file.number)
    pub committed : IsCommitted serves.parts written serves.bytes F
    pub fewer : (i : ℕ) → serves.written i ≡ false → written i ≡ false
    pub wider : (i : ℕ) → serves.tables i ≡ true → tables i ≡ true
    pub covers : (i : ℕ) → IsBitmapEntry q index → unit_of word * megabyte ≤ i → i < unit_of word * megabyte + megabyte → tables i ≡ true
    pub only : (i : ℕ) → tables i ≡ true → (serves.tables i ≡ true) ⊎ (IsBitmapEntry q index × ((unit_of word * megabyte ≤ i) × (i < unit_of word * megabyte + megabyte)))
    pub beside : (a b : Area) (j : ℕ) → HoldsBlock q (set_file serves.parts sizes H serves.as_held.numbers serves.as_held.sound long index word inside small) index a → HoldsBlock q serves.bytes j b
        → ((index ≡ j) × (a ≡ b)) ⊎ ((a.at + a.len ≤ b.at) ⊎ (b.at + b.len ≤ a.at))
    pub space_is : HasSpace (layer_by l t space) serves.parts serves.bytes F

  module _ (t : Tables) (space : Space) (index word : ℕ) (inside : 8 * index + 8 ≤ serves.parts.bat_len) (small : word < 2 ^ 64) (layer : chain.Layer) (is_loose tables written : ℕ → Bool)
      (e : Enters t space index word inside small layer is_loose tables written) where
    abbrev new : List ℕ
    new = set_file serves.parts sizes H serves.as_held.numbers serves.as_held.sound long index word inside small

    held_new : held t.pending F ≡ new
    held_new = entered_held t index word inside small e.into

    sound_new : IsSoundTable q (taken_areas serves.parts) new
    sound_new = set_sound serves.parts sizes H serves.as_held.numbers serves.as_held.sound long index word inside small e.good

    numbers_new : read_parts serves.parts.header new ≡ Ok serves.parts
    numbers_new = set_numbers serves.parts sizes H serves.as_held.numbers serves.as_held.sound long index word inside small

    still : (i : ℕ) → IsTablePlace serves.parts H i → IsTablePlace serves.parts new i
    still = places_still serves.parts sizes H serves.as_held.numbers serves.as_held.sound long index word inside small e.good

    covered_new : (i : ℕ) → IsTablePlace serves.parts new i → tables i ≡ true
    covered_new i h = by_kind (places_before serves.parts sizes H serves.as_held.numbers serves.as_held.sound long index word inside small e.good i h)
      where
        by_kind : IsTablePlace serves.parts H i ⊎ (IsBitmapEntry q index × ((unit_of word * megabyte ≤ i) × (i < unit_of word * megabyte + megabyte))) → tables i ≡ true
        by_kind (inl old) = e.wider i (serves.covered_held.covers i old)
        by_kind (inr (be, (l, k))) = e.covers i be l k

    beside_new : (i : ℕ) → IsTablePlace serves.parts new i → IsKept serves.parts.header i
    beside_new i h = by_kind h
      where
        by_kind : IsTablePlace serves.parts new i → IsKept serves.parts.header i
        by_kind (regions l k) = serves.covered_held.beside i (regions l k)
        by_kind (entries l k) = serves.covered_held.beside i (entries l k)
        by_kind (metadata l k) = serves.covered_held.beside i (metadata l k)
        by_kind (bitmap_place j be six l k) = (block_kept serves.parts new new (omega arith) sizes numbers_new sound_new j (record { at = place_at q new j; len = megabyte }) (bitmap be six) i l k).0

    -- a changed page is a table's as before, or the one with the entry
    page_low : serves.parts.bat_at ≤ page_place (entry_place l.tables.parts index)
    page_low = let a = table_at in let b = serves.as_held.sizes.at_page in omega (arith, a, b)

    page_high : page_place (entry_place l.tables.parts index) + 4096 ≤ serves.parts.bat_at + serves.parts.bat_len
    page_high = let a = table_at in let b = serves.as_held.sizes.at_page in let c = serves.as_held.sizes.of_pages in let d = serves.as_held.region in omega (arith, a, b, c, d, inside)

    of_tables : (at : ℕ) → has_place at t.pending ≡ true → (i : ℕ) → at ≤ i → i < at + 4096 → IsTablePlace serves.parts new i
    of_tables at h = by_place (e.into.adds.only at h)
      where
        by_place : (has_place at l.tables.pending ≡ true) ⊎ (at ≡ page_place (entry_place l.tables.parts index)) → (i : ℕ) → at ≤ i → i < at + 4096 → IsTablePlace serves.parts new i
        by_place (inl old) i from to = still i (of_places (λ at. (i : ℕ) → at ≤ i → i < at + 4096 → IsTablePlace serves.parts H i) l.tables.pending serves.as_held.of_tables at old i from to)
        by_place (inr here) i from to = entries (omega (arith, here, from, page_low)) (omega (arith, here, to, page_high))

    can : (at : ℕ) → has_place at t.pending ≡ true → CanCommit l.log (record { at = at; bytes = [] })
    can at h = by_place (e.into.adds.only at h)
      where
        by_place : (has_place at l.tables.pending ≡ true) ⊎ (at ≡ page_place (entry_place l.tables.parts index)) → CanCommit l.log (record { at = at; bytes = [] })
        by_place (inl old) = of_places (λ at. CanCommit l.log (record { at = at; bytes = [] })) l.tables.pending (λ k d b. let x = serves.can k d b in record { may = x.may; within = x.within }) at old
        by_place (inr here) = record {
          may = record { at_sector = omega (arith, here); sectors = omega arith; below = omega (arith, here, page_high, ends, most); apart = inr (omega (arith, here, page_low, low), off_log) };
          within = let a = serves.running.state.long in omega (arith, here, page_high, ends, a);
        }
          where
            n : AreNumbers (length H) serves.parts
            n = (are_numbers serves.parts.header H serves.parts serves.as_held.numbers).0

            ends : serves.parts.bat_at + serves.parts.bat_len ≤ length F
            ends = let a = n.table.within in omega (arith, a, held_as_long)

            most : length F ≤ 2 ^ 63
            most = serves.as_held.most

            low : megabyte ≤ serves.parts.bat_at
            low = table_low serves.parts sizes H serves.as_held.numbers serves.as_held.sound long index word inside small

            off_log : (at + 4096 ≤ l.log.header.log_at) ⊎ (l.log.header.log_at + l.log.header.log_len ≤ at)
            off_log = subst (λ (h : Header). (at + 4096 ≤ h.log_at) ⊎ (h.log_at + h.log_len ≤ at)) serves.header
                (by_side (apart_of serves.parts.bat_at serves.parts.bat_len serves.parts.header.log_at serves.parts.header.log_len n.table.off_log (omega (arith, inside)) some_log))
              where
                by_side : (serves.parts.bat_at + serves.parts.bat_len ≤ serves.parts.header.log_at) ⊎ (serves.parts.header.log_at + serves.parts.header.log_len ≤ serves.parts.bat_at)
                    → (at + 4096 ≤ serves.parts.header.log_at) ⊎ (serves.parts.header.log_at + serves.parts.header.log_len ≤ at)
                by_side (inl l) = inl (omega (arith, here, page_high, l))
                by_side (inr l) = inr (omega (arith, here, page_low, l))

    kept : (at i : ℕ) → at % 4096 ≡ 0 → is_kept at t.cache ≡ true → at ≤ i → i < at + 4096 → tables i ≡ true
    kept at i aligned k from to = by_place (e.into.keeps.only at aligned k)
      where
        by_place : (is_kept at l.tables.cache ≡ true) ⊎ ((l.tables.parts.bat_at ≤ at) × (at + 4096 ≤ l.tables.parts.bat_at + l.tables.parts.bat_len)) → tables i ≡ true
        by_place (inl old) = e.wider i (serves.kept at i aligned old from to)
        by_place (inr place) = e.wider i (serves.covered_held.covers i (let a = table_at in let d = serves.as_held.region in entries (omega (arith, place.0, from, a)) (omega (arith, place.1, to, a, d))))

    held_then : IsHeld (layer_by l t space) serves.parts layer F
    held_then = record {
      sizes = subst table_words.HasTables (sym e.into.parts_are) serves.as_held.sizes;
      shape = ap table_words.shape_of e.into.parts_are ∙ serves.as_held.shape;
      region = ap (λ (p : TableParts). p.bat_len) e.into.parts_are ∙ serves.as_held.region;
      most = serves.as_held.most;
      pages = e.into.pages;
      numbers = subst (λ z. read_parts serves.parts.header z ≡ Ok serves.parts) (sym held_new) numbers_new;
      sound = subst (IsSoundTable q (taken_areas serves.parts)) (sym held_new) sound_new;
      of_tables = subst (λ z. AreOfTables serves.parts z t.pending) (sym held_new) (all_places (λ at. (i : ℕ) → at ≤ i → i < at + 4096 → IsTablePlace serves.parts new i) t.pending of_tables);
      has = subst (λ z. IsLayerOf q z layer) (sym held_new) e.has;
    }

    beside_then : AreBeside serves.parts serves.bytes new
    beside_then i j a b ha hb = by_index (cases_eq i index)
      where
        by_index : (i ≡ index) ⊎ (i ≢ index) → ((i ≡ j) × (a ≡ b)) ⊎ ((a.at + a.len ≤ b.at) ⊎ (b.at + b.len ≤ a.at))
        by_index (inl f) = subst (λ k. ((k ≡ j) × (a ≡ b)) ⊎ ((a.at + a.len ≤ b.at) ⊎ (b.at + b.len ≤ a.at))) (sym f) (e.beside a b j (subst (λ k. HoldsBlock q new k a) f ha) hb)
        by_index (inr ne) = serves.beside i j a b (holds_beside serves.parts sizes H serves.as_held.numbers serves.as_held.sound long index word inside small i a ne ha) hb

    pub entered_serves : Serves (layer_by l t space) trace (placed_with layer is_loose file)
    entered_serves = record {
      within = serves.within;
      number = serves.number ∙ ap (λ (p : TableParts). p.file) (sym e.into.parts_are);
      name = serves.name;
      parts = serves.parts;
      header = serves.header;
      ties = serves.ties;
      metadata = subst (λ z. file.metadata ≡ metadata_of serves.parts z) (sym held_new)
          (serves.metadata ∙ sym (set_metadata serves.parts sizes H serves.as_held.numbers serves.as_held.sound long index word inside small));
      as_held = held_then;
      bytes = serves.bytes;
      tables = tables;
      written = written;
      running = e.running;
      committed = e.committed;
      covered = record { covers = λ i h. e.wider i (serves.covered.covers i h); beside = serves.covered.beside };
      clean = λ s below h.
          let c = e.clean s h in
          let old = serves.clean s below c.0 in
          record { same = old.same ∙ sym c.1; unwritten = λ i st. e.fewer i (old.unwritten i st) };
      covered_held = subst (λ z. Covers serves.parts z tables) (sym held_new) (record { covers = covered_new; beside = beside_new });
      only = λ i h. subst (λ z. IsTablePlace serves.parts z i) (sym held_new) (only_then i (e.only i h));
      changed = all_places (λ at. (i : ℕ) → at ≤ i → i < at + 4096 → tables i ≡ true) t.pending (λ at h i from to. covered_new i (of_tables at h i from to));
      kept = kept;
      can = λ k d b. let x = all_places (λ at. CanCommit l.log (record { at = at; bytes = [] })) t.pending can k d b in record { may = x.may; within = x.within };
      beside = subst (AreBeside serves.parts serves.bytes) (sym held_new) beside_then;
      space = e.space_is;
    }
      where
        only_then : (i : ℕ) → (serves.tables i ≡ true) ⊎ (IsBitmapEntry q index × ((unit_of word * megabyte ≤ i) × (i < unit_of word * megabyte + megabyte))) → IsTablePlace serves.parts new i
        only_then i (inl h) = still i (serves.only i h)
        only_then i (inr (be, (l, k))) =
            let f = entry_here serves.parts sizes H serves.as_held.numbers serves.as_held.sound long index word inside small in
            bitmap_place index be (ap state_of f ∙ e.good.six be) (subst (λ w. unit_of w * megabyte ≤ i) (sym f) l) (subst (λ w. i < unit_of w * megabyte + megabyte) (sym f) k)
