-- A file with one entry of its table set.
use Rattle.std.proofs.Common.{◌≡◌, ◌≢◌, ℕ, ◌+◌, ◌-◌, ◌*◌, ◌/◌, ◌%◌, ◌^◌, ◌<◌, ◌≤◌, ◌⊎◌, ◌&&◌, zero, suc, true, false, List, [], length, drop, get_or, Some, refl, sym, ap, subst, ◌∙◌, arith, inl, inr}
use Rattle.std.specs.Prelude.{Ok, IsTrue, nat_lt}
use Rattle.std.specs.List.{Any}
use Rattle.std.specs.Int.{bit_at}
use Rattle.std.proofs.lemmas.Bool.{and_parts, lt-ltb, ltb-true, cases_Bool, cases_eq, cases_lt, leb-true}
use Rattle.std.proofs.lemmas.List.{ext_get_or, get_or-drop}
use Rattle.store_model.proofs.Parts.{length-part}
use Rattle.vx_base.proofs.ByteLists.{length-overwritten}
use Rattle.byteorder.specs.Numbers.{length-bytes_low_first, little_number-reads_back}
use Rattle.vx_base.specs.Fields.{bytes_at, number_at, u64_at, u64_bytes, written_over}
use Rattle.vx_base.specs.declared.parts.Parts.{Parts}
use Rattle.vhdx_format.specs.AllocationTables.{bitmap_index_of, state_of, table_entries, unit_of}
use Rattle.vhdx_format.specs.Fields.{megabyte, overlaps}
use Rattle.vhdx_format.specs.FileParts.{read_parts, shape_of, taken_areas}
use Rattle.vhdx_format.specs.HeldBlocks.{Area, BlocksOverlap, HasBadPlace, HasBadState, HoldsBlock, IsBitmapEntry, IsPayloadEntry, IsSoundTable, LacksBitmap, Overlap, bitmap, payload}
use Rattle.vhdx_format.specs.Layers.{Shape, bitmap_entry_of, block_count, chunk_ratio_of, entry_of, layer_sector, place_at, sector_bit, sector_by_state, state_at, stored_sector, table_entry}
use Rattle.vhdx_format.specs.SectorBitmaps.{bit_of}
use Rattle.vhdx_format.proofs.LayerLemmas.{by_state-full, div-div_ceil, entries_within, sector_entries}
use Rattle.vhdx_format.proofs.SizeLemmas.{ratio_in_range}
use Rattle.table_pages.proofs.Laying.{over_in, over_out, part_byte}
use Rattle.layer_session.specs.Keeping.{IsPlaced, IsTablePlace, bitmap as bitmap_place, entries, metadata, regions}
use Rattle.layer_session.proofs.Alike.{AreSizes, bitmap_there, block_in_file, by_state_other, off_range}
use Rattle.chain_model.specs.Images.{metadata_of}
use Rattle.layer_session.proofs.Numbers.{are_numbers, part_alike, same_metadata, same_numbers}
use Rattle.layer_session.proofs.Sectors.{in_block, read_back}

-- what is read of a number that was written
pub word_back : (s : List ℕ) (at w : ℕ) → at + 8 ≤ length s → w < 2 ^ 64 → u64_at (written_over s at (u64_bytes w)) at ≡ w
unfolding number_at
word_back s at w within small = sym (read_back (written_over s at (u64_bytes w)) at) ∙ ap (λ (z : List ℕ). u64_at z 0) part ∙ little_number-reads_back 8 w [] small
  where
    long : length (u64_bytes w) ≡ 8
    long = length-bytes_low_first 0 8 w

    fits : at + length (u64_bytes w) ≤ length s
    fits = omega (arith, within, long)

    part : bytes_at (written_over s at (u64_bytes w)) at 8 ≡ u64_bytes w
    part = ext_get_or 0 _ _ (length-part (written_over s at (u64_bytes w)) at 8 (omega (arith, within, length-overwritten s (u64_bytes w) at fits)) ∙ sym long)
        (λ i l. byte i (omega (arith, l, length-part (written_over s at (u64_bytes w)) at 8 (omega (arith, within, length-overwritten s (u64_bytes w) at fits)))))
      where
        byte : (i : ℕ) → i < 8 → get_or (bytes_at (written_over s at (u64_bytes w)) at 8) i 0 ≡ get_or (u64_bytes w) i 0
        byte i l = part_byte (written_over s at (u64_bytes w)) at 8 i l ∙ (over_in s (u64_bytes w) at (at + i) fits (omega arith) (omega (arith, l, long)) ∙ ap (λ k. get_or (u64_bytes w) k 0) (let e : at + i - at ≡ i = omega arith in e))

-- two ranges with some bytes that don't overlap stand beside one another
pub apart_of : (a n b m : ℕ) → overlaps a n b m ≡ false → 0 < n → 0 < m → (a + n ≤ b) ⊎ (b + m ≤ a)
apart_of a n b m h some more = by_place (cases_lt b (a + n)) (cases_lt a (b + m))
  where
    by_place : (b < a + n) ⊎ (a + n ≤ b) → (a < b + m) ⊎ (b + m ≤ a) → (a + n ≤ b) ⊎ (b + m ≤ a)
    by_place (inr l) other = inl l
    by_place (inl l) (inr k) = inr k
    by_place (inl l) (inl k) =
        let one : nat_lt a (b + m) ≡ true = lt-ltb a (b + m) k in
        let two : nat_lt b (a + n) ≡ true = lt-ltb b (a + n) l in
        let three : nat_lt 0 n ≡ true = lt-ltb 0 n some in
        let four : nat_lt 0 m ≡ true = lt-ltb 0 m more in
        let all : overlaps a n b m ≡ true = rw (one, two, three, four) refl in
        let both : false ≡ true = sym h ∙ all in
        cc

-- two ranges beside one another don't overlap
pub beside_no : (a n b m : ℕ) → (a + n ≤ b) ⊎ (b + m ≤ a) → IsTrue (overlaps a n b m) → ⊥
beside_no a n b m side o = by_side side
  where
    both : ((nat_lt a (b + m) && nat_lt b (a + n)) ≡ true) × ((nat_lt 0 n && nat_lt 0 m) ≡ true)
    both = and_parts _ _ o

    first : a < b + m
    first = ltb-true a (b + m) (and_parts (nat_lt a (b + m)) (nat_lt b (a + n)) both.0).0

    second : b < a + n
    second = ltb-true b (a + n) (and_parts (nat_lt a (b + m)) (nat_lt b (a + n)) both.0).1

    by_side : (a + n ≤ b) ⊎ (b + m ≤ a) → ⊥
    by_side (inl l) = omega (arith, l, second)
    by_side (inr l) = omega (arith, l, first)

module _ (parts : Parts) (sizes : AreSizes parts) (old : List ℕ) (numbers : read_parts parts.header old ≡ Ok parts) (sound : IsSoundTable (shape_of parts) (taken_areas parts) old) (long : 327680 ≤ length old)
    (index word : ℕ) (inside : 8 * index + 8 ≤ parts.bat_len) (small : word < 2 ^ 64) where
  abbrev p : Shape
  p = shape_of parts

  abbrev at : ℕ
  at = parts.bat_at + 8 * index

  abbrev pub set_file : List ℕ
  set_file = written_over old at (u64_bytes word)

  word_long : length (u64_bytes word) ≡ 8
  word_long = length-bytes_low_first 0 8 word

  -- the table lies in the file, behind the copies of the region table
  table_end : parts.bat_at + parts.bat_len ≤ length old
  table_end = (are_numbers parts.header old parts numbers).0.table.within

  pub table_low : megabyte ≤ parts.bat_at
  table_low = leb-true megabyte parts.bat_at (and_parts _ _ (are_numbers parts.header old parts numbers).0.table.whole_at).1

  fits : at + length (u64_bytes word) ≤ length old
  fits = let e = table_end in omega (arith, e, inside, word_long)

  pub as_long : length set_file ≡ length old
  as_long = length-overwritten old (u64_bytes word) at fits

  -- outside the table nothing has changed, and of it no other entry
  pub beside_entry : (i : ℕ) → (i < at) ⊎ (at + 8 ≤ i) → get_or set_file i 0 ≡ get_or old i 0
  beside_entry i side = over_out old (u64_bytes word) at i fits (by_side side)
    where
      by_side : (i < at) ⊎ (at + 8 ≤ i) → (i < at) ⊎ (at + length (u64_bytes word) ≤ i)
      by_side (inl l) = inl l
      by_side (inr l) = inr (omega (arith, l, word_long))

  pub off_table : (i : ℕ) → (i < parts.bat_at) ⊎ (parts.bat_at + parts.bat_len ≤ i) → get_or set_file i 0 ≡ get_or old i 0
  off_table i (inl l) = beside_entry i (inl (omega (arith, l)))
  off_table i (inr l) = beside_entry i (inr (omega (arith, l, inside)))

  region_same : bytes_at set_file parts.meta_at parts.meta_len ≡ bytes_at old parts.meta_at parts.meta_len
  region_same =
      let n = (are_numbers parts.header old parts numbers).0 in
      let within : parts.meta_at + parts.meta_len ≤ length old = n.metadata.within in
      part_alike old set_file parts.meta_at parts.meta_len within (omega (arith, as_long)) (λ i a b. off_table i (off_metadata i a b (cases_lt i parts.bat_at) (cases_lt i (parts.bat_at + parts.bat_len)) n.apart))
    where
      off_metadata : (i : ℕ) → parts.meta_at ≤ i → i < parts.meta_at + parts.meta_len → (i < parts.bat_at) ⊎ (parts.bat_at ≤ i) → (i < parts.bat_at + parts.bat_len) ⊎ (parts.bat_at + parts.bat_len ≤ i)
          → overlaps parts.bat_at parts.bat_len parts.meta_at parts.meta_len ≡ false → (i < parts.bat_at) ⊎ (parts.bat_at + parts.bat_len ≤ i)
      off_metadata i a b (inl l) k off = inl l
      off_metadata i a b (inr l) (inr k) off = inr k
      off_metadata i a b (inr l) (inl k) off = absurd (by_range (off_range parts.bat_at parts.bat_len parts.meta_at parts.meta_len i off l k))
        where
          by_range : (i < parts.meta_at) ⊎ (parts.meta_at + parts.meta_len ≤ i) → ⊥
          by_range (inl m) = omega (arith, m, a)
          by_range (inr m) = omega (arith, m, b)

  pub set_metadata : metadata_of parts set_file ≡ metadata_of parts old
  set_metadata = same_metadata parts old set_file region_same

  pub set_numbers : read_parts parts.header set_file ≡ Ok parts
  set_numbers =
      let low = table_low in
      same_numbers parts.header old set_file parts numbers (omega (arith, as_long))
      (part_alike old set_file 196608 131072 (omega (arith, long)) (omega (arith, as_long)) (λ i a b. off_table i (inl (omega (arith, b, low)))))
      region_same

  -- ---- entries

  pub entry_here : table_entry p set_file index ≡ word
  unfolding table_entry
  entry_here = word_back old at word (let e = table_end in omega (arith, e, inside)) small

  pub entry_beside : (j : ℕ) → j ≢ index → 8 * j + 8 ≤ parts.bat_len → table_entry p set_file j ≡ table_entry p old j
  unfolding table_entry
  entry_beside j ne within =
      let e = table_end in
      sym (read_back set_file (parts.bat_at + 8 * j)) ∙ ap (λ (z : List ℕ). u64_at z 0)
      (part_alike old set_file (parts.bat_at + 8 * j) 8 (omega (arith, e, within)) (omega (arith, as_long)) (λ i a b. beside_entry i (by_place i a b (cases_lt j index))))
      ∙ read_back old (parts.bat_at + 8 * j)
    where
      by_place : (i : ℕ) → parts.bat_at + 8 * j ≤ i → i < parts.bat_at + 8 * j + 8 → (j < index) ⊎ (index ≤ j) → (i < at) ⊎ (at + 8 ≤ i)
      by_place i a b (inl l) = inl (omega (arith, b, l))
      by_place i a b (inr l) = inr (omega (arith, a, l, ne))

  payload_inside : (j : ℕ) → IsPayloadEntry p j → 8 * j + 8 ≤ parts.bat_len
  unfolding table_entries
  payload_inside j e =
      let within = (entries_within (block_count p) (chunk_ratio_of p) p.parent (ratio_in_range p.sector p.block sizes.sector sizes.block).0).payloads e.block e.on_disk in
      omega (arith, within, e.at_index, sizes.entries)

  bitmap_inside : (j : ℕ) → IsBitmapEntry p j → 8 * j + 8 ≤ parts.bat_len
  unfolding table_entries
  bitmap_inside j e =
      let within = (entries_within (block_count p) (chunk_ratio_of p) p.parent (ratio_in_range p.sector p.block sizes.sector sizes.block).0).bitmaps e.chunk e.parent e.on_disk in
      omega (arith, within, e.at_index, sizes.entries)

  pub payload_beside : (j : ℕ) → j ≢ index → IsPayloadEntry p j → table_entry p set_file j ≡ table_entry p old j
  payload_beside j ne e = entry_beside j ne (payload_inside j e)

  pub bitmap_beside : (j : ℕ) → j ≢ index → IsBitmapEntry p j → table_entry p set_file j ≡ table_entry p old j
  bitmap_beside j ne e = entry_beside j ne (bitmap_inside j e)

  -- ---- blocks of other entries

  pub holds_beside : (j : ℕ) (a : Area) → j ≢ index → HoldsBlock p set_file j a → HoldsBlock p old j a
  holds_beside j _ ne (payload e st) =
      let same = payload_beside j ne e in
      subst (λ k. HoldsBlock p old j (record { at = k; len = p.block })) (ap (λ w. unit_of w * megabyte) (sym same)) (payload e (subst (λ w. (state_of w ≡ 6) ⊎ (state_of w ≡ 7)) same st))
  holds_beside j _ ne (bitmap e st) =
      let same = bitmap_beside j ne e in
      subst (λ k. HoldsBlock p old j (record { at = k; len = megabyte })) (ap (λ w. unit_of w * megabyte) (sym same)) (bitmap e (subst (λ w. state_of w ≡ 6) same st))

  pub holds_still : (j : ℕ) (a : Area) → j ≢ index → HoldsBlock p old j a → HoldsBlock p set_file j a
  holds_still j _ ne (payload e st) =
      let same = sym (payload_beside j ne e) in
      subst (λ k. HoldsBlock p set_file j (record { at = k; len = p.block })) (ap (λ w. unit_of w * megabyte) (sym same)) (payload e (subst (λ w. (state_of w ≡ 6) ⊎ (state_of w ≡ 7)) same st))
  holds_still j _ ne (bitmap e st) =
      let same = sym (bitmap_beside j ne e) in
      subst (λ k. HoldsBlock p set_file j (record { at = k; len = megabyte })) (ap (λ w. unit_of w * megabyte) (sym same)) (bitmap e (subst (λ w. state_of w ≡ 6) same st))

  -- ---- the entry that was set

  -- What it says is sound: a block that it names lies where it may, and beside those of other entries; and it names no place that a
  -- sector bitmap block leaves.
  pub record IsGoodEntry : Type 0 where
    pub placed : (a : Area) → HoldsBlock p set_file index a → IsPlaced parts (length old) a
    pub apart : (a b : Area) (j : ℕ) → j ≢ index → HoldsBlock p set_file index a → HoldsBlock p old j b → (a.at + a.len ≤ b.at) ⊎ (b.at + b.len ≤ a.at)
    pub state : HasBadState p set_file index → ⊥
    pub bitmap : LacksBitmap p set_file index → ⊥
    pub was : IsBitmapEntry p index → state_at p old index ≢ 6
    pub six : IsBitmapEntry p index → state_of word ≡ 6

  module _ (good : IsGoodEntry) where
    state_here : state_at p set_file index ≡ state_of word
    state_here = ap state_of entry_here

    off_taken : (a : Area) → IsPlaced parts (length old) a → Any (Overlap a) (taken_areas parts) → ⊥
    off_taken a h (zero, x, l, e, o) = let same : record { at = parts.header.log_at; len = parts.header.log_len } ≡ x = cc in beside_no a.at a.len parts.header.log_at parts.header.log_len h.off_log (subst (λ (b : Area). Overlap a b) (sym same) o)
    off_taken a h (suc zero, x, l, e, o) = let same : record { at = parts.bat_at; len = parts.bat_len } ≡ x = cc in beside_no a.at a.len parts.bat_at parts.bat_len h.off_table (subst (λ (b : Area). Overlap a b) (sym same) o)
    off_taken a h (suc (suc zero), x, l, e, o) = let same : record { at = parts.meta_at; len = parts.meta_len } ≡ x = cc in beside_no a.at a.len parts.meta_at parts.meta_len h.off_metadata (subst (λ (b : Area). Overlap a b) (sym same) o)
    off_taken a h (suc (suc (suc n)), x, l, e, o) = omega (arith, l)

    bad_state : (i : ℕ) → HasBadState p set_file i → ⊥
    bad_state i h = by_index (cases_eq i index) h
      where
        by_index : (i ≡ index) ⊎ (i ≢ index) → HasBadState p set_file i → ⊥
        by_index (inl e) h = good.state (subst (HasBadState p set_file) e h)
        by_index (inr ne) (inl (e, x)) = sound.states i (inl (e, subst (λ w. (state_of w ≡ 4) ⊎ ((state_of w ≡ 5) ⊎ ((state_of w ≡ 7) × (p.parent ≡ false)))) (payload_beside i ne e) x))
        by_index (inr ne) (inr (e, f, g)) = sound.states i (inr (e, subst (λ w. state_of w ≢ 0) (bitmap_beside i ne e) f, subst (λ w. state_of w ≢ 6) (bitmap_beside i ne e) g))

    bad_place : (i : ℕ) → HasBadPlace p (taken_areas parts) set_file i → ⊥
    bad_place i (a, h, bad) = by_index (cases_eq i index)
      where
        of_new : IsPlaced parts (length old) a → (a.at < megabyte) ⊎ ((length set_file < a.at + a.len) ⊎ Any (Overlap a) (taken_areas parts)) → ⊥
        of_new q (inl l) = let low = q.low in omega (arith, l, low)
        of_new q (inr (inl l)) = let w = q.within in omega (arith, l, w, as_long)
        of_new q (inr (inr o)) = off_taken a q o

        of_old : (length set_file < a.at + a.len) ⊎ Any (Overlap a) (taken_areas parts) → (length old < a.at + a.len) ⊎ Any (Overlap a) (taken_areas parts)
        of_old (inl l) = inl (omega (arith, l, as_long))
        of_old (inr o) = inr o

        all_old : (a.at < megabyte) ⊎ ((length set_file < a.at + a.len) ⊎ Any (Overlap a) (taken_areas parts)) → (a.at < megabyte) ⊎ ((length old < a.at + a.len) ⊎ Any (Overlap a) (taken_areas parts))
        all_old (inl l) = inl l
        all_old (inr x) = inr (of_old x)

        by_index : (i ≡ index) ⊎ (i ≢ index) → ⊥
        by_index (inl e) = of_new (good.placed a (subst (λ k. HoldsBlock p set_file k a) e h)) bad
        by_index (inr ne) = sound.places i (a, holds_beside i a ne h, all_old bad)

    meets : (i j : ℕ) → BlocksOverlap p set_file i j → ⊥
    meets i j (l, (a, b, ha, hb, o)) = by_index (cases_eq i index) (cases_eq j index)
      where
        turned : (b.at + b.len ≤ a.at) ⊎ (a.at + a.len ≤ b.at) → (a.at + a.len ≤ b.at) ⊎ (b.at + b.len ≤ a.at)
        turned (inl x) = inr x
        turned (inr x) = inl x

        by_index : (i ≡ index) ⊎ (i ≢ index) → (j ≡ index) ⊎ (j ≢ index) → ⊥
        by_index (inl e) (inl f) = omega (arith, e, f, l)
        by_index (inl e) (inr ne) = beside_no a.at a.len b.at b.len (good.apart a b j ne (subst (λ k. HoldsBlock p set_file k a) e ha) (holds_beside j b ne hb)) o
        by_index (inr ne) (inl f) = beside_no a.at a.len b.at b.len (turned (good.apart b a i ne (subst (λ k. HoldsBlock p set_file k b) f hb) (holds_beside i a ne ha))) o
        by_index (inr ne) (inr nf) = sound.apart i j (l, (a, b, holds_beside i a ne ha, holds_beside j b nf hb, o))

    chunk_entry : (b : ℕ) → b < block_count p → p.parent ≡ true → IsBitmapEntry p (bitmap_index_of (b / chunk_ratio_of p) (chunk_ratio_of p))
    chunk_entry b below parent = record { parent = parent; chunk = b / chunk_ratio_of p; on_disk = div-div_ceil b (block_count p) (chunk_ratio_of p) (ratio_in_range p.sector p.block sizes.sector sizes.block).0 below; at_index = refl }

    lacks : (i : ℕ) → LacksBitmap p set_file i → ⊥
    lacks i (e, seven, missing) = by_index (cases_eq i index) (cases_Bool p.parent)
      where
        by_bitmap : i ≢ index → p.parent ≡ true → (bitmap_index_of (e.block / chunk_ratio_of p) (chunk_ratio_of p) ≡ index) ⊎ (bitmap_index_of (e.block / chunk_ratio_of p) (chunk_ratio_of p) ≢ index) → ⊥
        by_bitmap ne parent (inl same) =
            let be : IsBitmapEntry p index = subst (IsBitmapEntry p) same (chunk_entry e.block e.on_disk parent) in
            let zero_here : state_of word ≡ 0 = sym state_here ∙ (ap (state_at p set_file) (sym same) ∙ missing) in
            let six_here : state_of word ≡ 6 = good.six be in
            omega (arith, zero_here, six_here)
        by_bitmap ne parent (inr other) =
            sound.bitmaps i (e, subst (λ w. state_of w ≡ 7) (payload_beside i ne e) seven, subst (λ w. state_of w ≡ 0) (bitmap_beside _ other (chunk_entry e.block e.on_disk parent)) missing)

        by_index : (i ≡ index) ⊎ (i ≢ index) → (p.parent ≡ true) ⊎ (p.parent ≡ false) → ⊥
        by_index (inl f) any = good.bitmap (subst (LacksBitmap p set_file) f (e, seven, missing))
        by_index (inr ne) (inl parent) = by_bitmap ne parent (cases_eq (bitmap_index_of (e.block / chunk_ratio_of p) (chunk_ratio_of p)) index)
        by_index (inr ne) (inr alone) = bad_state i (inl (e, inr (inr (seven, alone))))

    pub set_sound : IsSoundTable p (taken_areas parts) set_file
    set_sound = record { states = bad_state; places = bad_place; apart = meets; bitmaps = lacks }

    -- ---- sectors of other blocks

    off_block : (j : ℕ) (a : Area) (i : ℕ) → HoldsBlock p old j a → a.at ≤ i → i < a.at + a.len → get_or set_file i 0 ≡ get_or old i 0
    off_block j a i h from to = off_table i (off_range a.at a.len parts.bat_at parts.bat_len i (block_in_file parts old old (omega arith) sizes numbers sound j a h).off_table from to)

    payload_of : (s : ℕ) → s < p.sectors → IsPayloadEntry p (entry_of p s)
    payload_of s below = (sector_entries p (record { sector = sizes.sector; block = sizes.block })).payload s below

    stored_beside : (s : ℕ) → s < p.sectors → entry_of p s ≢ index → (state_at p old (entry_of p s) ≡ 6) ⊎ (state_at p old (entry_of p s) ≡ 7) → stored_sector p set_file s ≡ stored_sector p old s
    unfolding stored_sector
    stored_beside s below ne there =
        let fit : s * p.sector % p.block + p.sector ≤ p.block = in_block s p.sector p.block sizes.sector sizes.block in
        let h : HoldsBlock p old (entry_of p s) (record { at = place_at p old (entry_of p s); len = p.block }) = payload (payload_of s below) there in
        let b = block_in_file parts old old (omega arith) sizes numbers sound (entry_of p s) (record { at = place_at p old (entry_of p s); len = p.block }) h in
        let end : place_at p old (entry_of p s) + p.block ≤ length old = b.within in
        ap (λ w. bytes_at set_file (unit_of w * megabyte + s * p.sector % p.block) p.sector) (payload_beside (entry_of p s) ne (payload_of s below))
        ∙ part_alike old set_file (place_at p old (entry_of p s) + s * p.sector % p.block) p.sector (omega (arith, end, fit)) (omega (arith, as_long))
        (λ i a c. off_block (entry_of p s) (record { at = place_at p old (entry_of p s); len = p.block }) i h (omega (arith, a)) (omega (arith, c, fit)))

    -- the sector bitmap block of a sector is there, and stays
    pub bit_beside : (s : ℕ) → s < p.sectors → p.parent ≡ true → state_at p old (bitmap_entry_of p s) ≡ 6 → sector_bit p set_file s ≡ sector_bit p old s
    unfolding sector_bit
    bit_beside s below parent six =
        let be : IsBitmapEntry p (bitmap_entry_of p s) = (sector_entries p (record { sector = sizes.sector; block = sizes.block })).bitmap s parent below in
        let other : bitmap_entry_of p s ≢ index = λ e. good.was (subst (IsBitmapEntry p) e be) (ap (state_at p old) (sym e) ∙ six) in
        let k = s % 2 ^ 23 / 8 in
        let low : k < megabyte = omega arith in
        let byte : get_or set_file (place_at p old (bitmap_entry_of p s) + k) 0 ≡ get_or old (place_at p old (bitmap_entry_of p s) + k) 0 =
        off_block (bitmap_entry_of p s) (record { at = place_at p old (bitmap_entry_of p s); len = megabyte }) (place_at p old (bitmap_entry_of p s) + k) (bitmap be six) (omega arith) (omega (arith, low)) in
        ap (λ w. bit_of (drop (unit_of w * megabyte) set_file) (s % 2 ^ 23)) (bitmap_beside (bitmap_entry_of p s) other be)
        ∙ ap (λ n. bit_at n (s % 2 ^ 23 % 8)) (get_or-drop (place_at p old (bitmap_entry_of p s)) set_file k 0 ∙ byte ∙ sym (get_or-drop (place_at p old (bitmap_entry_of p s)) old k 0))

    pub layer_beside : (s : ℕ) → s < p.sectors → entry_of p s ≢ index → layer_sector p set_file s ≡ layer_sector p old s
    layer_beside s below ne =
        ap (λ w. sector_by_state p (state_of w) (sector_bit p set_file s) (stored_sector p set_file s)) (payload_beside (entry_of p s) ne (payload_of s below)) ∙ by_state (cases_eq (state_at p old (entry_of p s)) 6) (cases_eq (state_at p old (entry_of p s)) 7) (cases_Bool p.parent)
      where
        by_state : (state_at p old (entry_of p s) ≡ 6) ⊎ (state_at p old (entry_of p s) ≢ 6) → (state_at p old (entry_of p s) ≡ 7) ⊎ (state_at p old (entry_of p s) ≢ 7) → (p.parent ≡ true) ⊎ (p.parent ≡ false)
            → sector_by_state p (state_at p old (entry_of p s)) (sector_bit p set_file s) (stored_sector p set_file s) ≡ layer_sector p old s
        by_state (inl six) any parent =
            ap (λ n. sector_by_state p n (sector_bit p set_file s) (stored_sector p set_file s)) six ∙ by_state-full p (sector_bit p set_file s) (stored_sector p set_file s) ∙ ap Some (stored_beside s below ne (inl six))
            ∙ sym (by_state-full p (sector_bit p old s) (stored_sector p old s)) ∙ ap (λ n. sector_by_state p n (sector_bit p old s) (stored_sector p old s)) (sym six)
        by_state (inr n) (inl seven) (inl parent) =
            ap (λ b. sector_by_state p (state_at p old (entry_of p s)) b (stored_sector p set_file s)) (bit_beside s below parent (bitmap_there parts old old (omega arith) sizes numbers sound s below parent seven))
            ∙ ap (sector_by_state p (state_at p old (entry_of p s)) (sector_bit p old s)) (stored_beside s below ne (inr seven))
        by_state (inr n) (inl seven) (inr alone) = absurd (sound.states (entry_of p s) (inl (payload_of s below, inr (inr (seven, alone)))))
        by_state (inr n) (inr m) parent = by_state_other p (state_at p old (entry_of p s)) (sector_bit p set_file s) (sector_bit p old s) (stored_sector p set_file s) (stored_sector p old s) n m

    -- ---- places of tables

    -- those of before are so still
    pub places_still : (i : ℕ) → IsTablePlace parts old i → IsTablePlace parts set_file i
    places_still i (regions l k) = regions l k
    places_still i (entries l k) = entries l k
    places_still i (metadata l k) = metadata l k
    places_still i (bitmap_place j be six l k) =
        let other : j ≢ index = λ e. good.was (subst (IsBitmapEntry p) e be) (ap (state_at p old) (sym e) ∙ six) in
        let e = sym (bitmap_beside j other be) in
        bitmap_place j be (subst (λ w. state_of w ≡ 6) e six) (subst (λ w. unit_of w * megabyte ≤ i) e l) (subst (λ w. i < unit_of w * megabyte + megabyte) e k)

    -- and others are those of a new sector bitmap block
    pub places_before : (i : ℕ) → IsTablePlace parts set_file i → IsTablePlace parts old i ⊎ (IsBitmapEntry p index × ((unit_of word * megabyte ≤ i) × (i < unit_of word * megabyte + megabyte)))
    places_before i (regions l k) = inl (regions l k)
    places_before i (entries l k) = inl (entries l k)
    places_before i (metadata l k) = inl (metadata l k)
    places_before i (bitmap_place j be six l k) = by_index (cases_eq j index)
      where
        by_index : (j ≡ index) ⊎ (j ≢ index) → IsTablePlace parts old i ⊎ (IsBitmapEntry p index × ((unit_of word * megabyte ≤ i) × (i < unit_of word * megabyte + megabyte)))
        by_index (inl e) =
            let f : table_entry p set_file j ≡ word = ap (table_entry p set_file) e ∙ entry_here in
            inr (subst (IsBitmapEntry p) e be, (subst (λ w. unit_of w * megabyte ≤ i) f l, subst (λ w. i < unit_of w * megabyte + megabyte) f k))
        by_index (inr ne) =
            let e = bitmap_beside j ne be in
            inl (bitmap_place j be (subst (λ w. state_of w ≡ 6) e six) (subst (λ w. unit_of w * megabyte ≤ i) e l) (subst (λ w. i < unit_of w * megabyte + megabyte) e k))
