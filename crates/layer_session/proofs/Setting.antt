-- An entry is set: what the tables say of other blocks stays.
use Rattle.std.proofs.Common.{◌≡◌, ◌≢◌, ℕ, ◌+◌, ◌*◌, ◌/◌, ◌%◌, ◌^◌, ◌<◌, ◌≤◌, true, List, drop, get_or, sym, ap, subst, ◌∙◌, arith}
use Rattle.std.specs.Int.{bit_at}
use Rattle.std.proofs.lemmas.List.{get_or-drop}
use Rattle.vhdx_format.specs.AllocationTables.{unit_of}
use Rattle.vhdx_format.specs.Fields.{megabyte}
use Rattle.vhdx_format.specs.FileParts.{shape_of}
use Rattle.vhdx_format.specs.HeldBlocks.{IsBitmapEntry, IsPayloadEntry, bitmap}
use Rattle.vhdx_format.specs.Layers.{HasSizes, Shape, bitmap_entry_of, chunk_ratio_of, entry_of, place_at, sector_bit, state_at}
use Rattle.vhdx_format.specs.SectorBitmaps.{bit_of}
use Rattle.vhdx_format.proofs.LayerLemmas.{entries_apart, sector_entries}
use Rattle.vhdx_format.proofs.SizeLemmas.{ratio_in_range}
use Rattle.store_model.specs.File.{seen}
use Rattle.store_model.specs.Trace.{Trace, file_of}
use Rattle.table_pages.specs.Held.{held, held_file}
use Rattle.table_pages.specs.Held as table_words
use Rattle.table_pages.specs.declared.tables.TableParts.{TableParts}
use Rattle.table_pages.specs.declared.tables.Tables.{Tables}
use Rattle.chain_model.specs.Images.{Placed}
use Rattle.layer_session.specs.declared.file.Layer.{Layer}
use Rattle.layer_session.specs.Keeping.{Serves}
use Rattle.layer_session.specs.Steps.{held_by}
use Rattle.layer_session.specs.Taking.{HasSameBits, HasSameEntries, KeepsOthers}
use Rattle.layer_session.proofs.Alike.{block_in_file, off_range}
use Rattle.layer_session.proofs.Entered.{EntersInto, entered_held, long, sizes}
use Rattle.layer_session.proofs.Entries.{bitmap_beside, off_table, payload_beside, set_file}
use Rattle.layer_session.proofs.SameEntries.{by_shape, held_here}

module _ (l : Layer) (trace : Trace) (file : Placed) (serves : Serves l trace file) (index word : ℕ) (inside : 8 * index + 8 ≤ serves.parts.bat_len) (small : word < 2 ^ 64) (entry : IsPayloadEntry (shape_of serves.parts) index) where
  abbrev q : Shape
  q = shape_of serves.parts

  abbrev H : List ℕ
  H = held l.tables.pending (seen (file_of trace file.number))

  abbrev new : List ℕ
  new = set_file serves.parts (sizes l trace file serves) H serves.as_held.numbers serves.as_held.sound (long l trace file serves) index word inside small

  sized : HasSizes q
  sized = record { sector = (sizes l trace file serves).sector; block = (sizes l trace file serves).block }

  other : (j : ℕ) → IsBitmapEntry q j → j ≢ index
  other j be e = (entries_apart (chunk_ratio_of q) (ratio_in_range q.sector q.block sized.sector sized.block).0).kinds entry.block be.chunk (sym entry.at_index ∙ sym e ∙ be.at_index)

  bit_still : (s : ℕ) → s < q.sectors → q.parent ≡ true → state_at q H (bitmap_entry_of q s) ≡ 6 → sector_bit q new s ≡ sector_bit q H s
  unfolding sector_bit
  bit_still s below parent six =
      let be : IsBitmapEntry q (bitmap_entry_of q s) = (sector_entries q sized).bitmap s parent below in
      let at = place_at q H (bitmap_entry_of q s) in
      let k = s % 2 ^ 23 / 8 in
      let low : k < megabyte = omega arith in
      let b = block_in_file serves.parts H H (omega arith) (sizes l trace file serves) serves.as_held.numbers serves.as_held.sound (bitmap_entry_of q s) (record { at = at; len = megabyte }) (bitmap be six) in
      let byte : get_or new (at + k) 0 ≡ get_or H (at + k) 0 =
      off_table serves.parts (sizes l trace file serves) H serves.as_held.numbers serves.as_held.sound (long l trace file serves) index word inside small (at + k)
      (off_range at megabyte serves.parts.bat_at serves.parts.bat_len (at + k) b.off_table (omega arith) (omega (arith, low))) in
      ap (λ w. bit_of (drop (unit_of w * megabyte) new) (s % 2 ^ 23))
      (bitmap_beside serves.parts (sizes l trace file serves) H serves.as_held.numbers serves.as_held.sound (long l trace file serves) index word inside small (bitmap_entry_of q s) (other _ be) be)
      ∙ ap (λ n. bit_at n (s % 2 ^ 23 % 8)) (get_or-drop at new k 0 ∙ byte ∙ sym (get_or-drop at H k 0))

  pub set_bits_same : (s : ℕ) → s < q.sectors → HasSameBits q H new s
  set_bits_same s below = record {
    bitmap = λ parent. let be : IsBitmapEntry q (bitmap_entry_of q s) = (sector_entries q sized).bitmap s parent below in
        bitmap_beside serves.parts (sizes l trace file serves) H serves.as_held.numbers serves.as_held.sound (long l trace file serves) index word inside small (bitmap_entry_of q s) (other _ be) be;
    bit = λ parent six. bit_still s below parent six;
  }

  pub set_others_same : (s : ℕ) → s < q.sectors → entry_of q s ≢ index → HasSameEntries q H new s
  set_others_same s below ne = record {
    entry = payload_beside serves.parts (sizes l trace file serves) H serves.as_held.numbers serves.as_held.sound (long l trace file serves) index word inside small (entry_of q s) ne ((sector_entries q sized).payload s below);
    bits = set_bits_same s below;
  }

-- what the tables with the entry hold
pub set_held : (l : Layer) (trace : Trace) (file : Placed) (serves : Serves l trace file) (t : Tables) (index word : ℕ) (inside : 8 * index + 8 ≤ serves.parts.bat_len) (small : word < 2 ^ 64) → EntersInto l trace file t index word
    → held_file t trace ≡ set_file serves.parts (sizes l trace file serves) (held l.tables.pending (seen (file_of trace file.number))) serves.as_held.numbers serves.as_held.sound (long l trace file serves) index word inside small
set_held l trace file serves t index word inside small into =
    ap (λ n. held t.pending (seen (file_of trace n))) (ap (λ (p : TableParts). p.file) into.parts_are ∙ sym serves.number) ∙ entered_held l trace file serves t index word inside small into

module _ (l new : Layer) (trace : Trace) (file : Placed) (serves : Serves l trace file) (first index word : ℕ) (on_disk : first < l.tables.parts.sectors) (index_is : index ≡ entry_of (table_words.shape_of l.tables.parts) first)
    (inside : 8 * index + 8 ≤ l.tables.parts.bat_len) (small : word < 2 ^ 64) (into : EntersInto l trace file new.tables index word) where
  inside_too : 8 * index + 8 ≤ serves.parts.bat_len
  inside_too = let e = serves.as_held.region in omega (arith, inside, e)

  index_too : index ≡ entry_of (shape_of serves.parts) first
  index_too = index_is ∙ ap (λ q. entry_of q first) serves.as_held.shape

  below_too : first < serves.parts.geometry.sectors
  below_too = let e : l.tables.parts.sectors ≡ serves.parts.geometry.sectors = ap (λ (q : Shape). q.sectors) serves.as_held.shape in omega (arith, on_disk, e)

  payload_too : IsPayloadEntry (shape_of serves.parts) index
  payload_too = subst (IsPayloadEntry (shape_of serves.parts)) (sym index_too) ((sector_entries (shape_of serves.parts) (record { sector = (sizes l trace file serves).sector; block = (sizes l trace file serves).block })).payload first below_too)

  new_is : held_by new trace ≡ set_file serves.parts (sizes l trace file serves) (held l.tables.pending (seen (file_of trace file.number))) serves.as_held.numbers serves.as_held.sound (long l trace file serves) index word inside_too small
  new_is = set_held l trace file serves new.tables index word inside_too small into

  pub sets_bits : (s : ℕ) → s < l.tables.parts.sectors → HasSameBits (table_words.shape_of l.tables.parts) (held_by l trace) (held_by new trace) s
  sets_bits = by_shape l trace file serves (λ q. (s : ℕ) → s < q.sectors → HasSameBits q (held_by l trace) (held_by new trace) s)
      (subst (λ z. (s : ℕ) → s < serves.parts.geometry.sectors → HasSameBits (shape_of serves.parts) z (held_by new trace) s) (held_here l trace file serves)
      (subst (λ z. (s : ℕ) → s < serves.parts.geometry.sectors → HasSameBits (shape_of serves.parts) (held l.tables.pending (seen (file_of trace file.number))) z s) (sym new_is)
      (set_bits_same l trace file serves index word inside_too small payload_too)))

  pub sets_others : KeepsOthers l new first trace trace
  sets_others = record {
    others = by_shape l trace file serves (λ q. (s : ℕ) → s < q.sectors → entry_of q s ≢ entry_of q first → HasSameEntries q (held_by l trace) (held_by new trace) s)
        (subst (λ z. (s : ℕ) → s < serves.parts.geometry.sectors → entry_of (shape_of serves.parts) s ≢ entry_of (shape_of serves.parts) first → HasSameEntries (shape_of serves.parts) z (held_by new trace) s) (held_here l trace file serves)
        (subst (λ z. (s : ℕ) → s < serves.parts.geometry.sectors → entry_of (shape_of serves.parts) s ≢ entry_of (shape_of serves.parts) first → HasSameEntries (shape_of serves.parts) (held l.tables.pending (seen (file_of trace file.number))) z s) (sym new_is)
        (λ s below ne. set_others_same l trace file serves index word inside_too small payload_too s below (λ e. ne (e ∙ index_too)))));
  }
