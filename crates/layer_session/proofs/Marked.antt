-- What a layer serves with bits of a sector bitmap block set or cleared.
use Rattle.std.proofs.Common.{◌≡◌, ℕ, ◌+◌, ◌*◌, ◌%◌, ◌^◌, ◌<◌, ◌≤◌, ◌⊎◌, Bool, true, false, List, [], length, sym, ap, subst, ◌∙◌, arith, inl, inr}
use Rattle.vx_base.specs.declared.parts.Header.{Header}
use Rattle.vhdx_format.specs.Fields.{megabyte}
use Rattle.vhdx_format.specs.FileParts.{shape_of}
use Rattle.vhdx_format.specs.HeldBlocks.{Area, HoldsBlock, IsBitmapEntry, bitmap}
use Rattle.vhdx_format.specs.Layers.{Shape, place_at, state_at, table_entry}
use Rattle.store_model.specs.File.{seen}
use Rattle.store_model.specs.Trace.{Trace, file_of}
use Rattle.table_pages.specs.Held.{AreTables, KeepsWithin, PutsWithin, SetsBits, held}
use Rattle.table_pages.specs.Held as table_words
use Rattle.table_pages.specs.Pages.{is_kept}
use Rattle.table_pages.specs.declared.tables.TableParts.{TableParts}
use Rattle.table_pages.specs.declared.tables.Tables.{Tables}
use Rattle.log_format.specs.PendingPages.{has_place}
use Rattle.log_write.specs.Writing.{CanCommit}
use Rattle.chain_model.specs.Images.{Placed}
use Rattle.chain_model.specs.Layers as chain
use Rattle.layer_session.specs.declared.file.Layer.{Layer}
use Rattle.layer_session.specs.Calls.{placed_with}
use Rattle.layer_session.specs.Keeping.{HasSpace, IsHeld, IsLayerOf, IsTablePlace, Serves, bitmap as bitmap_place}
use Rattle.layer_session.proofs.Alike.{IsInFile, block_in_file}
use Rattle.layer_session.proofs.Entered.{held_as_long, layer_by, long, short_ring, sizes}
use Rattle.layer_session.proofs.Entries.{apart_of}
use Rattle.layer_session.proofs.Marking.{marked_entry, marked_metadata, marked_numbers}
use Rattle.layer_session.proofs.Pages.{all_places, of_places}
use Rattle.layer_session.proofs.SameTables.{holds_same, places_kept, places_same, sound_same}
use Rattle.vhdx_format.specs.SettledFiles.{ring_of}

-- Tables with bits of a block set: pages of it are changed, and so are the bits of what is held.
pub record MarksInto (l : Layer) (trace : Trace) (file : Placed) (t : Tables) (place from count : ℕ) (on : Bool) : Type 0 where
  pub parts_are : t.parts ≡ l.tables.parts
  pub pages : AreTables t.parts (seen (file_of trace file.number)) t.pending t.cache
  pub within : PutsWithin place l.tables.pending t.pending
  pub sets : SetsBits place from count on (held l.tables.pending (seen (file_of trace file.number))) (held t.pending (seen (file_of trace file.number)))
  pub keeps : KeepsWithin 0 0 l.tables t

module _ (l : Layer) (trace : Trace) (file : Placed) (serves : Serves l trace file) (t : Tables) (index from count : ℕ) (on : Bool) (entry : IsBitmapEntry (shape_of serves.parts) index)
    (six : state_at (shape_of serves.parts) (held l.tables.pending (seen (file_of trace file.number))) index ≡ 6)
    (into : MarksInto l trace file t (place_at (shape_of serves.parts) (held l.tables.pending (seen (file_of trace file.number))) index) from count on) (room : from + count ≤ 2 ^ 23) where
  abbrev q : Shape
  q = shape_of serves.parts

  abbrev F : List ℕ
  F = seen (file_of trace file.number)

  abbrev H : List ℕ
  H = held l.tables.pending F

  abbrev pub now : List ℕ
  now = held t.pending F

  abbrev place : ℕ
  place = place_at q H index

  same : (j : ℕ) → 8 * j + 8 ≤ serves.parts.bat_len → table_entry q now j ≡ table_entry q H j
  same j inside = marked_entry serves.parts (sizes l trace file serves) H now serves.as_held.numbers serves.as_held.sound (long l trace file serves) index from count on entry six into.sets room j inside

  lies : IsInFile serves.parts H H (omega arith) (sizes l trace file serves) serves.as_held.numbers serves.as_held.sound (record { at = place; len = megabyte })
  lies = block_in_file serves.parts H H (omega arith) (sizes l trace file serves) serves.as_held.numbers serves.as_held.sound index (record { at = place; len = megabyte }) (bitmap entry six)

  kept_place : (i : ℕ) → IsTablePlace serves.parts H i → IsTablePlace serves.parts now i
  kept_place = places_kept serves.parts (sizes l trace file serves) H now into.sets.as_long same

  same_place : (i : ℕ) → IsTablePlace serves.parts now i → IsTablePlace serves.parts H i
  same_place = places_same serves.parts (sizes l trace file serves) H now into.sets.as_long same

  back : (j : ℕ) (a : Area) → HoldsBlock q now j a → HoldsBlock q H j a
  back = holds_same serves.parts (sizes l trace file serves) H now into.sets.as_long same

  of_tables : (at : ℕ) → has_place at t.pending ≡ true → (i : ℕ) → at ≤ i → i < at + 4096 → IsTablePlace serves.parts H i
  of_tables at h = by_place (into.within.only at h)
    where
      by_place : (has_place at l.tables.pending ≡ true) ⊎ ((place ≤ at) × (at + 4096 ≤ place + megabyte)) → (i : ℕ) → at ≤ i → i < at + 4096 → IsTablePlace serves.parts H i
      by_place (inl old) i a b = of_places (λ at. (i : ℕ) → at ≤ i → i < at + 4096 → IsTablePlace serves.parts H i) l.tables.pending serves.as_held.of_tables at old i a b
      by_place (inr w) i a b = bitmap_place index entry six (omega (arith, w.0, a)) (omega (arith, w.1, b))

  can : (at : ℕ) → has_place at t.pending ≡ true → CanCommit l.log (record { at = at; bytes = [] })
  can at h = by_place (into.within.only at h)
    where
      aligned : at % 4096 ≡ 0
      aligned = of_places (λ at. at % 4096 ≡ 0) t.pending (λ k d b. (into.pages.changed k d b).aligned) at h

      some_log : 0 < serves.parts.header.log_len
      some_log =
          let ring = serves.running.holds.room in
          let ring_len : length (ring_of l.log.header.log_at l.log.header.log_len F) ≤ l.log.header.log_len = short_ring l.log.header.log_at l.log.header.log_len F in
          let e : serves.parts.header.log_len ≡ l.log.header.log_len = ap (λ (h : Header). h.log_len) serves.header in
          omega (arith, ring, ring_len, e)

      by_place : (has_place at l.tables.pending ≡ true) ⊎ ((place ≤ at) × (at + 4096 ≤ place + megabyte)) → CanCommit l.log (record { at = at; bytes = [] })
      by_place (inl old) = of_places (λ at. CanCommit l.log (record { at = at; bytes = [] })) l.tables.pending (λ k d b. let x = serves.can k d b in record { may = x.may; within = x.within }) at old
      by_place (inr w) =
          let low = lies.low in
          let most = serves.as_held.most in
          let end : place + megabyte ≤ length F = let a = lies.within in omega (arith, a, held_as_long l trace file serves) in
          record {
            may = record { at_sector = aligned; sectors = omega arith; below = omega (arith, w.1, end, most); apart = inr (omega (arith, w.0, low), off_log w) };
            within = let a = serves.running.state.long in omega (arith, w.1, end, a);
          }
        where
          off_log : (place ≤ at) × (at + 4096 ≤ place + megabyte) → (at + 4096 ≤ l.log.header.log_at) ⊎ (l.log.header.log_at + l.log.header.log_len ≤ at)
          off_log v = subst (λ (h : Header). (at + 4096 ≤ h.log_at) ⊎ (h.log_at + h.log_len ≤ at)) serves.header (by_side (apart_of place megabyte serves.parts.header.log_at serves.parts.header.log_len lies.off_log (omega arith) some_log))
            where
              by_side : (place + megabyte ≤ serves.parts.header.log_at) ⊎ (serves.parts.header.log_at + serves.parts.header.log_len ≤ place) → (at + 4096 ≤ serves.parts.header.log_at) ⊎ (serves.parts.header.log_at + serves.parts.header.log_len ≤ at)
              by_side (inl x) = inl (omega (arith, v.1, x))
              by_side (inr x) = inr (omega (arith, v.0, x))

  sp : HasSpace l serves.parts serves.bytes F
  sp = serves.space

  module _ (layer : chain.Layer) (is_loose : ℕ → Bool) (has : IsLayerOf q now layer) (clean : (s : ℕ) → is_loose s ≡ false → (file.is_loose s ≡ false) × (layer s ≡ file.member.layer s)) where
    held_then : IsHeld (layer_by l t l.space) serves.parts layer F
    held_then = record {
      sizes = subst table_words.HasTables (sym into.parts_are) serves.as_held.sizes;
      shape = ap table_words.shape_of into.parts_are ∙ serves.as_held.shape;
      region = ap (λ (p : TableParts). p.bat_len) into.parts_are ∙ serves.as_held.region;
      most = serves.as_held.most;
      pages = into.pages;
      numbers = marked_numbers serves.parts (sizes l trace file serves) H now serves.as_held.numbers serves.as_held.sound (long l trace file serves) index from count on entry six into.sets room;
      sound = sound_same serves.parts (sizes l trace file serves) H now into.sets.as_long same serves.as_held.sound;
      of_tables = all_places (λ at. (i : ℕ) → at ≤ i → i < at + 4096 → IsTablePlace serves.parts now i) t.pending (λ at h i a b. kept_place i (of_tables at h i a b));
      has = has;
    }

    -- Marked sectors are served, as the bits then say.
    pub marked_serves : Serves (layer_by l t l.space) trace (placed_with layer is_loose file)
    marked_serves = record {
      within = serves.within;
      number = serves.number ∙ ap (λ (p : TableParts). p.file) (sym into.parts_are);
      name = serves.name;
      parts = serves.parts;
      header = serves.header;
      ties = serves.ties;
      metadata = serves.metadata ∙ sym (marked_metadata serves.parts (sizes l trace file serves) H now serves.as_held.numbers serves.as_held.sound (long l trace file serves) index from count on entry six into.sets room);
      as_held = held_then;
      bytes = serves.bytes;
      tables = serves.tables;
      written = serves.written;
      running = serves.running;
      committed = serves.committed;
      covered = serves.covered;
      clean = λ s below h.
          let c = clean s h in
          let old = serves.clean s below c.0 in
          record { same = old.same ∙ sym c.1; unwritten = old.unwritten };
      covered_held = record { covers = λ i h. serves.covered_held.covers i (same_place i h); beside = λ i h. serves.covered_held.beside i (same_place i h) };
      only = λ i h. kept_place i (serves.only i h);
      changed = all_places (λ at. (i : ℕ) → at ≤ i → i < at + 4096 → serves.tables i ≡ true) t.pending (λ at h i a b. serves.covered_held.covers i (of_tables at h i a b));
      kept = λ at i aligned k a b. by_kept at i aligned a b (into.keeps.only at aligned k);
      can = λ k d b. let x = all_places (λ at. CanCommit l.log (record { at = at; bytes = [] })) t.pending can k d b in record { may = x.may; within = x.within };
      beside = λ i j a b ha hb. serves.beside i j a b (back i a ha) hb;
      space = record { next = sp.next; tight = sp.tight; placed = sp.placed; freed = λ k d b. record { apart = λ j block h. (sp.freed k d b).apart j block (back j block h) }; committed = sp.committed };
    }
      where
        by_kept : (at i : ℕ) → at % 4096 ≡ 0 → at ≤ i → i < at + 4096 → (is_kept at l.tables.cache ≡ true) ⊎ ((0 ≤ at) × (at + 4096 ≤ 0)) → serves.tables i ≡ true
        by_kept at i aligned a b (inl k) = serves.kept at i aligned k a b
        by_kept at i aligned a b (inr w) = absurd (let x = w.1 in omega (arith, x))
