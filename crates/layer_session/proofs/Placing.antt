-- A block gets a place that is nobody's, or leaves its place.
use Rattle.std.proofs.Common.{◌≡◌, ◌≢◌, ℕ, ◌+◌, ◌*◌, ◌/◌, ◌%◌, ◌^◌, ◌<◌, ◌≤◌, ◌⊎◌, true, false, All, List, length, get_or, Some, refl, sym, ap, subst, ◌∙◌, arith, inl, inr}
use Rattle.std.proofs.lemmas.Bool.{cases_eq}
use Rattle.std.proofs.lemmas.List.{ext_get_or}
use Rattle.vx_base.specs.Fields.{bytes_at, zeros}
use Rattle.vhdx_format.specs.AllocationTables.{bitmap_index_of, state_of, unit_of}
use Rattle.vhdx_format.specs.Fields.{megabyte}
use Rattle.vhdx_format.specs.FileParts.{shape_of}
use Rattle.vhdx_format.specs.HeldBlocks.{Area, HasBadState, HoldsBlock, IsBitmapEntry, IsPayloadEntry, LacksBitmap, bitmap, payload}
use Rattle.vhdx_format.specs.Layers.{Shape, bitmap_entry_of, chunk_ratio_of, entry_of, layer_sector, place_at, sector_bit, sector_by_state, state_at, stored_sector}
use Rattle.vhdx_format.proofs.LayerLemmas.{by_state-absent, by_state-base, by_state-full, by_state-unmarked, by_state-zeros, entries_apart, sector_entries}
use Rattle.vhdx_format.proofs.SizeLemmas.{ratio_in_range}
use Rattle.store_model.specs.File.{seen}
use Rattle.store_model.specs.Trace.{Trace, file_of}
use Rattle.table_pages.specs.Held.{held}
use Rattle.table_pages.specs.declared.tables.Tables.{Tables}
use Rattle.block_alloc.specs.declared.freed.Freed.{Freed}
use Rattle.chain_model.specs.Images.{Placed}
use Rattle.layer_session.specs.declared.file.Layer.{Layer}
use Rattle.layer_session.specs.Keeping.{HasSpace, IsNobodys, IsPlaced, Serves, area_of}
use Rattle.layer_session.specs.Taking.{IsUnused}
use Rattle.layer_session.proofs.Entered.{EntersInto, Enters, entered_held, entered_serves, held_as_long, layer_by, long, sizes}
use Rattle.layer_session.proofs.Sectors.{in_block}
use Rattle.table_pages.proofs.Laying.{part_byte}
use Rattle.std.proofs.lemmas.List.{get_or-replicate, length-replicate}
use Rattle.store_model.proofs.Parts.{length-part}
use Rattle.layer_session.proofs.Entries.{IsGoodEntry, as_long, off_table, bit_beside, bitmap_beside, entry_here, holds_beside, layer_beside, set_file}

pub zeros_len : (n : ℕ) → length (zeros n) ≡ n
unfolding zeros
zeros_len n = length-replicate n 0

pub zero_at : (n i : ℕ) → i < n → get_or (zeros n) i 0 ≡ 0
unfolding zeros
zero_at n i l = get_or-replicate n i 0 0 l

module _ (l : Layer) (trace : Trace) (file : Placed) (serves : Serves l trace file) where
  abbrev q : Shape
  q = shape_of serves.parts

  abbrev F : List ℕ
  F = seen (file_of trace file.number)

  abbrev H : List ℕ
  H = held l.tables.pending F

  kinds : (i : ℕ) → IsPayloadEntry q i → IsBitmapEntry q i → ⊥
  kinds i e f = (entries_apart (chunk_ratio_of q) (ratio_in_range q.sector q.block (sizes l trace file serves).sector (sizes l trace file serves).block).0).kinds e.block f.chunk (sym e.at_index ∙ f.at_index)

  module _ (t : Tables) (index word : ℕ) (inside : 8 * index + 8 ≤ serves.parts.bat_len) (small : word < 2 ^ 64) (into : EntersInto l trace file t index word) (entry : IsPayloadEntry q index) where
    abbrev new : List ℕ
    new = set_file serves.parts (sizes l trace file serves) H serves.as_held.numbers serves.as_held.sound (long l trace file serves) index word inside small

    here : state_at q new index ≡ state_of word
    here = ap state_of (entry_here serves.parts (sizes l trace file serves) H serves.as_held.numbers serves.as_held.sound (long l trace file serves) index word inside small)

    place_here : place_at q new index ≡ unit_of word * megabyte
    place_here = ap (λ w. unit_of w * megabyte) (entry_here serves.parts (sizes l trace file serves) H serves.as_held.numbers serves.as_held.sound (long l trace file serves) index word inside small)

    -- ---- a place

    module _ (unused : IsUnused l trace file serves (record { at = unit_of word * megabyte; len = q.block })) (there : (state_of word ≡ 6) ⊎ ((state_of word ≡ 7) × (q.parent ≡ true)))
        (marks : state_of word ≡ 7 → state_at q H (bitmap_index_of (entry.block / chunk_ratio_of q) (chunk_ratio_of q)) ≡ 6)
        (chunk : state_of word ≡ 7 → IsBitmapEntry q (bitmap_index_of (entry.block / chunk_ratio_of q) (chunk_ratio_of q))) where
      abbrev range : Area
      range = record { at = unit_of word * megabyte; len = q.block }

      area_is : (a : Area) → HoldsBlock q new index a → a ≡ range
      area_is _ (payload e st) = ap (λ n. let x : Area = record { at = n; len = q.block } in x) place_here
      area_is _ (bitmap e st) = absurd (kinds index entry e)

      good : IsGoodEntry serves.parts (sizes l trace file serves) H serves.as_held.numbers serves.as_held.sound (long l trace file serves) index word inside small
      good = record {
        placed = λ a h. subst (λ n. IsPlaced serves.parts n a) (sym (held_as_long l trace file serves)) (subst (IsPlaced serves.parts (length F)) (sym (area_is a h)) unused.placed);
        apart = λ a b j ne h k. subst (λ (x : Area). (x.at + x.len ≤ b.at) ⊎ (b.at + b.len ≤ x.at)) (sym (area_is a h)) (unused.held.apart j b k);
        state = bad;
        bitmap = lacks;
        was = λ e. absurd (kinds index entry e);
        six = λ e. absurd (kinds index entry e);
      }
        where
          bad : HasBadState q new index → ⊥
          bad (inr (e, f, g)) = kinds index entry e
          bad (inl (e, h)) = by_state there h
            where
              by_state : (state_of word ≡ 6) ⊎ ((state_of word ≡ 7) × (q.parent ≡ true)) → (state_at q new index ≡ 4) ⊎ ((state_at q new index ≡ 5) ⊎ ((state_at q new index ≡ 7) × (q.parent ≡ false))) → ⊥
              by_state x (inl four) = by_four x (sym here ∙ four)
                where
                  by_four : (state_of word ≡ 6) ⊎ ((state_of word ≡ 7) × (q.parent ≡ true)) → state_of word ≡ 4 → ⊥
                  by_four (inl a) b = omega (arith, a, b)
                  by_four (inr a) b = let c = a.0 in omega (arith, c, b)
              by_state x (inr (inl five)) = by_five x (sym here ∙ five)
                where
                  by_five : (state_of word ≡ 6) ⊎ ((state_of word ≡ 7) × (q.parent ≡ true)) → state_of word ≡ 5 → ⊥
                  by_five (inl a) b = omega (arith, a, b)
                  by_five (inr a) b = let c = a.0 in omega (arith, c, b)
              by_state (inl a) (inr (inr b)) = let c : state_of word ≡ 7 = sym here ∙ b.0 in omega (arith, a, c)
              by_state (inr a) (inr (inr b)) = let c : true ≡ false = sym a.1 ∙ b.1 in cc

          lacks : LacksBitmap q new index → ⊥
          lacks (e, seven, missing) =
              let mine : state_of word ≡ 7 = sym here ∙ seven in
              let blocks : e.block ≡ entry.block = (entries_apart (chunk_ratio_of q) (ratio_in_range q.sector q.block (sizes l trace file serves).sector (sizes l trace file serves).block).0).payloads e.block entry.block (sym e.at_index ∙ entry.at_index) in
              let other : bitmap_index_of (entry.block / chunk_ratio_of q) (chunk_ratio_of q) ≢ index = λ f. kinds index entry (subst (IsBitmapEntry q) f (chunk mine)) in
              let still : state_at q new (bitmap_index_of (entry.block / chunk_ratio_of q) (chunk_ratio_of q)) ≡ state_at q H (bitmap_index_of (entry.block / chunk_ratio_of q) (chunk_ratio_of q)) =
              ap state_of (bitmap_beside serves.parts (sizes l trace file serves) H serves.as_held.numbers serves.as_held.sound (long l trace file serves) index word inside small _ other (chunk mine)) in
              let none : state_at q new (bitmap_index_of (entry.block / chunk_ratio_of q) (chunk_ratio_of q)) ≡ 0 = subst (λ b. state_at q new (bitmap_index_of (b / chunk_ratio_of q) (chunk_ratio_of q)) ≡ 0) blocks missing in
              let is_six = marks mine in
              omega (arith, still, none, is_six)

      -- ---- what no sector sees

      payload_of : (s : ℕ) → s < q.sectors → IsPayloadEntry q (entry_of q s)
      payload_of s below = (sector_entries q (record { sector = (sizes l trace file serves).sector; block = (sizes l trace file serves).block })).payload s below

      -- a byte of the range is as it was
      in_range : (i : ℕ) → range.at ≤ i → i < range.at + range.len → get_or new i 0 ≡ get_or H i 0
      in_range i a b = off_table serves.parts (sizes l trace file serves) H serves.as_held.numbers serves.as_held.sound (long l trace file serves) index word inside small i (by_side unused.placed.off_table)
        where
          by_side : (range.at + range.len ≤ serves.parts.bat_at) ⊎ (serves.parts.bat_at + serves.parts.bat_len ≤ range.at) → (i < serves.parts.bat_at) ⊎ (serves.parts.bat_at + serves.parts.bat_len ≤ i)
          by_side (inl x) = inl (omega (arith, b, x))
          by_side (inr x) = inr (omega (arith, a, x))

      -- a block of zeros gets a place that is zeros
      pub full_same : state_of word ≡ 6 → state_at q H index < 4 → (state_at q H index ≢ 0) ⊎ (q.parent ≡ false) → ((i : ℕ) → range.at ≤ i → i < range.at + range.len → get_or H i 0 ≡ 0)
          → (s : ℕ) → s < q.sectors → entry_of q s ≡ index → layer_sector q new s ≡ layer_sector q H s
      unfolding stored_sector
      full_same six four absent clear s below e =
          ap (λ n. sector_by_state q n (sector_bit q new s) (stored_sector q new s)) (ap (state_at q new) e ∙ here ∙ six) ∙ by_state-full q (sector_bit q new s) (stored_sector q new s) ∙ ap Some stored
          ∙ sym (ap (λ n. sector_by_state q n (sector_bit q H s) (stored_sector q H s)) (ap (state_at q H) e) ∙ zeros_before absent (cases_eq (state_at q H index) 0))
        where
          fit : s * q.sector % q.block + q.sector ≤ q.block
          fit = in_block s q.sector q.block (sizes l trace file serves).sector (sizes l trace file serves).block

          inside_new : range.at + range.len ≤ length new
          inside_new = let a = unused.placed.within in omega (arith, a, held_as_long l trace file serves, as_long serves.parts (sizes l trace file serves) H serves.as_held.numbers serves.as_held.sound (long l trace file serves) index word inside small)

          place_of : place_at q new (entry_of q s) ≡ range.at
          place_of = ap (place_at q new) e ∙ place_here

          stored : stored_sector q new s ≡ zeros q.sector
          stored = ap (λ n. bytes_at new (n + s * q.sector % q.block) q.sector) place_of ∙ ext_get_or 0 _ _ (length-part new (range.at + s * q.sector % q.block) q.sector (omega (arith, inside_new, fit)) ∙ sym (zeros_len q.sector))
              (λ i l. byte i (omega (arith, l, length-part new (range.at + s * q.sector % q.block) q.sector (omega (arith, inside_new, fit)))))
            where
              byte : (i : ℕ) → i < q.sector → get_or (bytes_at new (range.at + s * q.sector % q.block) q.sector) i 0 ≡ get_or (zeros q.sector) i 0
              byte i l =
                  part_byte new (range.at + s * q.sector % q.block) q.sector i l ∙ in_range (range.at + s * q.sector % q.block + i) (omega arith) (omega (arith, l, fit))
                  ∙ clear (range.at + s * q.sector % q.block + i) (omega arith) (omega (arith, l, fit)) ∙ sym (zero_at q.sector i l)

          zeros_before : (state_at q H index ≢ 0) ⊎ (q.parent ≡ false) → (state_at q H index ≡ 0) ⊎ (state_at q H index ≢ 0) → sector_by_state q (state_at q H index) (sector_bit q H s) (stored_sector q H s) ≡ Some (zeros q.sector)
          zeros_before x (inr n) = by_state-zeros q (state_at q H index) (sector_bit q H s) (stored_sector q H s) (omega (arith, n)) four
          zeros_before (inl n) (inl z) = absurd (n z)
          zeros_before (inr alone) (inl z) = ap (λ n. sector_by_state q n (sector_bit q H s) (stored_sector q H s)) z ∙ by_state-base q (sector_bit q H s) (stored_sector q H s) alone

      -- a block that the file doesn't have gets a place, and has no sector
      pub part_same : state_of word ≡ 7 → q.parent ≡ true → state_at q H index ≡ 0 → ((s : ℕ) → s < q.sectors → entry_of q s ≡ index → (state_at q H (bitmap_entry_of q s) ≡ 6) × (sector_bit q H s ≢ 1))
          → (s : ℕ) → s < q.sectors → entry_of q s ≡ index → layer_sector q new s ≡ layer_sector q H s
      part_same seven parent zero_state cleared s below e =
          let c = cleared s below e in
          let bit : sector_bit q new s ≡ sector_bit q H s = bit_beside serves.parts (sizes l trace file serves) H serves.as_held.numbers serves.as_held.sound (long l trace file serves) index word inside small good s below parent c.0 in
          ap (λ n. sector_by_state q n (sector_bit q new s) (stored_sector q new s)) (ap (state_at q new) e ∙ here ∙ seven) ∙ by_state-unmarked q (sector_bit q new s) (stored_sector q new s) (subst (λ b. b ≢ 1) (sym bit) c.1)
          ∙ sym (ap (λ n. sector_by_state q n (sector_bit q H s) (stored_sector q H s)) (ap (state_at q H) e ∙ zero_state) ∙ by_state-absent q (sector_bit q H s) (stored_sector q H s) parent)

      module _ (same : (s : ℕ) → s < q.sectors → entry_of q s ≡ index → layer_sector q new s ≡ layer_sector q H s) where
        pub placed_enters : Enters l trace file serves t l.space index word inside small file.member.layer file.is_loose serves.tables serves.written
        placed_enters = record {
          into = into;
          good = good;
          has = record { on_disk = λ s below. by_index s below (cases_eq (entry_of q s) index); off_disk = serves.as_held.has.off_disk };
          clean = λ s h. (h, refl);
          running = serves.running;
          committed = serves.committed;
          fewer = λ i h. h;
          wider = λ i h. h;
          covers = λ i e. absurd (kinds index entry e);
          only = λ i h. inl h;
          beside = λ a b j h k. inr (subst (λ (x : Area). (x.at + x.len ≤ b.at) ⊎ (b.at + b.len ≤ x.at)) (sym (area_is a h)) (unused.committed.apart j b k));
          space_is = record { next = sp.next; tight = sp.tight; placed = sp.placed; freed = freed; committed = sp.committed };
        }
          where
            sp : HasSpace l serves.parts serves.bytes F
            sp = serves.space

            by_index : (s : ℕ) → s < q.sectors → (entry_of q s ≡ index) ⊎ (entry_of q s ≢ index) → file.member.layer s ≡ layer_sector q new s
            by_index s below (inl e) = serves.as_held.has.on_disk s below ∙ sym (same s below e)
            by_index s below (inr ne) =
                serves.as_held.has.on_disk s below ∙ sym (layer_beside serves.parts (sizes l trace file serves) H serves.as_held.numbers serves.as_held.sound (long l trace file serves) index word inside small good s below ne)

            freed : All (λ (f : Freed). IsNobodys serves.parts (held t.pending F) (area_of f)) l.space.freed
            freed k d b = subst (λ z. IsNobodys serves.parts z (area_of (get_or l.space.freed k d))) (sym held_is) (record { apart = λ j block h. by_block j block h (cases_eq j index) })
              where
                held_is : held t.pending F ≡ new
                held_is = entered_held l trace file serves t index word inside small into

                by_block : (j : ℕ) (block : Area) → HoldsBlock q new j block → (j ≡ index) ⊎ (j ≢ index)
                    → ((area_of (get_or l.space.freed k d)).at + (area_of (get_or l.space.freed k d)).len ≤ block.at) ⊎ (block.at + block.len ≤ (area_of (get_or l.space.freed k d)).at)
                by_block j block h (inl e) =
                    subst (λ (x : Area). ((area_of (get_or l.space.freed k d)).at + (area_of (get_or l.space.freed k d)).len ≤ x.at) ⊎ (x.at + x.len ≤ (area_of (get_or l.space.freed k d)).at)) (sym (area_is block (subst (λ n. HoldsBlock q new n block) e h))) (unused.spare k d b)
                by_block j block h (inr ne) = (sp.freed k d b).apart j block (holds_beside serves.parts (sizes l trace file serves) H serves.as_held.numbers serves.as_held.sound (long l trace file serves) index word inside small j block ne h)

        -- A block that gets a place that is nobody's, where no sector sees it, is served.
        pub placed_serves : Serves (layer_by l t l.space) trace file
        placed_serves = entered_serves l trace file serves t l.space index word inside small file.member.layer file.is_loose serves.tables serves.written placed_enters
