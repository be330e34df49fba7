-- A sector bitmap block is made, behind what was committed.
use Rattle.std.proofs.Common.{◌≡◌, ◌≢◌, ℕ, ◌+◌, ◌*◌, ◌^◌, ◌<◌, ◌≤◌, ◌⊎◌, ◌&&◌, ◌||◌, Bool, true, false, All, List, length, get_or, refl, sym, ap, subst, ◌∙◌, arith, inl, inr}
use Rattle.std.specs.Prelude.{nat_lt}
use Rattle.std.proofs.lemmas.Bool.{and_parts, cases_eq, lt-ltb, ltb-true, or_cases}
use Rattle.vhdx_format.specs.AllocationTables.{state_of, unit_of}
use Rattle.vhdx_format.specs.Fields.{megabyte}
use Rattle.vhdx_format.specs.FileParts.{shape_of}
use Rattle.vhdx_format.specs.HeldBlocks.{Area, HasBadState, HoldsBlock, IsBitmapEntry, IsPayloadEntry, bitmap, payload}
use Rattle.vhdx_format.specs.Layers.{Shape, chunk_ratio_of, state_at}
use Rattle.vhdx_format.proofs.LayerLemmas.{entries_apart, sector_entries}
use Rattle.vhdx_format.proofs.SizeLemmas.{ratio_in_range}
use Rattle.store_model.specs.File.{seen}
use Rattle.store_model.specs.Trace.{Trace, file_of}
use Rattle.table_pages.specs.Held.{held}
use Rattle.table_pages.specs.declared.tables.Tables.{Tables}
use Rattle.log_write.specs.Sessions.{IsRunning}
use Rattle.block_alloc.specs.declared.freed.Freed.{Freed}
use Rattle.chain_model.specs.Images.{Placed}
use Rattle.layer_session.specs.declared.file.Layer.{Layer}
use Rattle.layer_session.specs.Calls.{is_among}
use Rattle.layer_session.specs.Keeping.{HasSpace, IsCommitted, IsNobodys, IsPlaced, Serves, area_of}
use Rattle.layer_session.proofs.Alike.{not_true}
use Rattle.layer_session.proofs.Beside.{among}
use Rattle.layer_session.proofs.Entered.{EntersInto, Enters, entered_held, entered_serves, held_as_long, layer_by, long, sizes}
use Rattle.layer_session.proofs.Entries.{IsGoodEntry, entry_here, holds_beside, layer_beside, set_file}
use Rattle.layer_session.proofs.Payload.{within}
use Rattle.layer_session.specs.Taking.{IsUnused}

module _ (l : Layer) (trace : Trace) (file : Placed) (serves : Serves l trace file) (t : Tables) (index word : ℕ) (inside : 8 * index + 8 ≤ serves.parts.bat_len) (small : word < 2 ^ 64)
    (into : EntersInto l trace file t index word) (entry : IsBitmapEntry (shape_of serves.parts) index) (six : state_of word ≡ 6)
    (unused : IsUnused l trace file serves (record { at = unit_of word * megabyte; len = megabyte })) (behind : length serves.bytes ≤ unit_of word * megabyte)
    (absent : state_at (shape_of serves.parts) (held l.tables.pending (seen (file_of trace file.number))) index ≢ 6) where
  abbrev q : Shape
  q = shape_of serves.parts

  abbrev F : List ℕ
  F = seen (file_of trace file.number)

  abbrev H : List ℕ
  H = held l.tables.pending F

  abbrev place : ℕ
  place = unit_of word * megabyte

  abbrev new : List ℕ
  new = set_file serves.parts (sizes l trace file serves) H serves.as_held.numbers serves.as_held.sound (long l trace file serves) index word inside small

  kinds : IsPayloadEntry q index → ⊥
  kinds e = (entries_apart (chunk_ratio_of q) (ratio_in_range q.sector q.block (sizes l trace file serves).sector (sizes l trace file serves).block).0).kinds e.block entry.chunk (sym e.at_index ∙ entry.at_index)

  here : state_at q new index ≡ 6
  here = ap state_of (entry_here serves.parts (sizes l trace file serves) H serves.as_held.numbers serves.as_held.sound (long l trace file serves) index word inside small) ∙ six

  abbrev range : Area
  range = record { at = place; len = megabyte }

  area_is : (a : Area) → HoldsBlock q new index a → a ≡ range
  area_is _ (payload e st) = absurd (kinds e)
  area_is _ (bitmap e st) =
      ap (λ w. let x : Area = record { at = unit_of w * megabyte; len = megabyte } in x) (entry_here serves.parts (sizes l trace file serves) H serves.as_held.numbers serves.as_held.sound (long l trace file serves) index word inside small)

  good : IsGoodEntry serves.parts (sizes l trace file serves) H serves.as_held.numbers serves.as_held.sound (long l trace file serves) index word inside small
  good = record {
    placed = λ a h. subst (λ n. IsPlaced serves.parts n a) (sym (held_as_long l trace file serves)) (subst (IsPlaced serves.parts (length F)) (sym (area_is a h)) unused.placed);
    apart = λ a b j ne h k. subst (λ (x : Area). (x.at + x.len ≤ b.at) ⊎ (b.at + b.len ≤ x.at)) (sym (area_is a h)) (unused.held.apart j b k);
    state = bad;
    bitmap = λ h. kinds h.0;
    was = λ e. absent;
    six = λ e. six;
  }
    where
      bad : HasBadState q new index → ⊥
      bad (inl (e, h)) = kinds e
      bad (inr (e, f, g)) = g here

  -- ---- the new places are the tables', and none of them was written

  abbrev tables : ℕ → Bool
  tables i = serves.tables i || is_among place megabyte i

  -- what was written behind what was committed needn't be known
  abbrev written : ℕ → Bool
  written i = serves.written i && nat_lt i (length serves.bytes)

  wider : (i : ℕ) → serves.tables i ≡ true → tables i ≡ true
  wider i h = rw h refl

  covers : (i : ℕ) → place ≤ i → i < place + megabyte → tables i ≡ true
  covers i a b = let e : is_among place megabyte i ≡ true = among place megabyte i a b in or_true (serves.tables i) (is_among place megabyte i) e
    where
      or_true : (x y : Bool) → y ≡ true → (x || y) ≡ true
      or_true true y h = refl
      or_true false y h = h

  written_low : (i : ℕ) → i < length serves.bytes → serves.written i ≡ true → written i ≡ true
  written_low i b h = let e : nat_lt i (length serves.bytes) ≡ true = lt-ltb i (length serves.bytes) b in rw (h, e) refl

  running : IsRunning l.log tables (length serves.bytes) written (file_of trace file.number)
  running = record {
    state = r.state;
    named = r.named;
    low = r.low;
    copies = r.copies;
    within = r.within;
    first = r.first;
    others = r.others;
    holds = r.holds;
    laid = record { ends = r.laid.ends; flushed = r.laid.flushed; last = r.laid.last; tables_only = λ i. by_table i (r.laid.tables_only i) };
    apart = apart;
    reads = r.reads;
    images = λ image h. let m = r.images image h in record { head = m.head; active = m.active; long = m.long; short = m.short; same = λ i b k. by_written i b (m.same i b k) };
  }
    where
      r : IsRunning l.log serves.tables (length serves.bytes) serves.written (file_of trace file.number)
      r = serves.running

      by_table : {P : Type 0} (i : ℕ) → (serves.tables i ≡ true) ⊎ P → (tables i ≡ true) ⊎ P
      by_table i (inl h) = inl (wider i h)
      by_table i (inr h) = inr h

      by_written : {P : Type 0} (i : ℕ) → i < length serves.bytes → (serves.written i ≡ true) ⊎ P → (written i ≡ true) ⊎ P
      by_written i b (inl h) = inl (written_low i b h)
      by_written i b (inr h) = inr h

      apart : (i : ℕ) → written i ≡ true → tables i ≡ false
      apart i h =
          let both = and_parts (serves.written i) (nat_lt i (length serves.bytes)) h in
          let low : i < length serves.bytes = ltb-true i (length serves.bytes) both.1 in
          let off : is_among place megabyte i ≡ false = not_true _ (λ x. let w = within place megabyte i x in let a = w.0 in omega (arith, a, low, behind)) in
          let old : serves.tables i ≡ false = r.apart i both.0 in
          rw (old, off) refl

  committed : IsCommitted serves.parts written serves.bytes F
  committed = record { long = serves.committed.long; numbers = serves.committed.numbers; sound = serves.committed.sound; same = λ i b k. by_written i b (serves.committed.same i b k) }
    where
      by_written : {P : Type 0} (i : ℕ) → i < length serves.bytes → (serves.written i ≡ true) ⊎ P → (written i ≡ true) ⊎ P
      by_written i b (inl h) = inl (written_low i b h)
      by_written i b (inr h) = inr h

  sp : HasSpace l serves.parts serves.bytes F
  sp = serves.space

  freed : All (λ (f : Freed). IsNobodys serves.parts (held t.pending F) (area_of f)) l.space.freed
  freed k d b = subst (λ z. IsNobodys serves.parts z (area_of (get_or l.space.freed k d))) (sym (entered_held l trace file serves t index word inside small into)) (record { apart = λ j block h. by_block j block h (cases_eq j index) })
    where
      by_block : (j : ℕ) (block : Area) → HoldsBlock q new j block → (j ≡ index) ⊎ (j ≢ index)
          → ((area_of (get_or l.space.freed k d)).at + (area_of (get_or l.space.freed k d)).len ≤ block.at) ⊎ (block.at + block.len ≤ (area_of (get_or l.space.freed k d)).at)
      by_block j block h (inl e) =
          subst (λ (x : Area). ((area_of (get_or l.space.freed k d)).at + (area_of (get_or l.space.freed k d)).len ≤ x.at) ⊎ (x.at + x.len ≤ (area_of (get_or l.space.freed k d)).at)) (sym (area_is block (subst (λ n. HoldsBlock q new n block) e h))) (unused.spare k d b)
      by_block j block h (inr ne) = (sp.freed k d b).apart j block (holds_beside serves.parts (sizes l trace file serves) H serves.as_held.numbers serves.as_held.sound (long l trace file serves) index word inside small j block ne h)

  pub chunk_enters : Enters l trace file serves t l.space index word inside small file.member.layer file.is_loose tables written
  chunk_enters = record {
    into = into;
    good = good;
    has = record {
      on_disk = λ s below.
          serves.as_held.has.on_disk s below
          ∙ sym (layer_beside serves.parts (sizes l trace file serves) H serves.as_held.numbers serves.as_held.sound (long l trace file serves) index word inside small good s below
          (λ e. kinds (subst (IsPayloadEntry q) e ((sector_entries q (record { sector = (sizes l trace file serves).sector; block = (sizes l trace file serves).block })).payload s below))));
      off_disk = serves.as_held.has.off_disk;
    };
    clean = λ s h. (h, refl);
    running = running;
    committed = committed;
    fewer = λ i h. rw h refl;
    wider = wider;
    covers = λ i e a b. covers i a b;
    only = λ i h. by_table i (or_cases (serves.tables i) (is_among place megabyte i) h);
    beside = λ a b j h k. inr (subst (λ (x : Area). (x.at + x.len ≤ b.at) ⊎ (b.at + b.len ≤ x.at)) (sym (area_is a h)) (unused.committed.apart j b k));
    space_is = record { next = sp.next; tight = sp.tight; placed = sp.placed; freed = freed; committed = sp.committed };
  }
    where
      by_table : (i : ℕ) → (serves.tables i ≡ true) ⊎ (is_among place megabyte i ≡ true) → (serves.tables i ≡ true) ⊎ (IsBitmapEntry q index × ((place ≤ i) × (i < place + megabyte)))
      by_table i (inl h) = inl h
      by_table i (inr h) = let w = within place megabyte i h in inr (entry, (w.0, w.1))

  -- A sector bitmap block that is made at a place that is nobody's, behind what was committed, is served.
  pub chunk_serves : Serves (layer_by l t l.space) trace file
  chunk_serves = entered_serves l trace file serves t l.space index word inside small file.member.layer file.is_loose tables written chunk_enters
