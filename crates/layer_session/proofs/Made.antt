-- A block gets a place that was taken for it, and no sector changes.
use Rattle.std.proofs.Common.{◌≡◌, ◌≢◌, ℕ, ◌+◌, ◌-◌, ◌*◌, ◌/◌, ◌%◌, ◌^◌, ◌<◌, ◌≤◌, ◌⊎◌, min, false, List, length, get_or, Some, refl, sym, ap, subst, ◌∙◌, arith, inl, inr}
use Rattle.vx_base.specs.Fields.{zeros}
use Rattle.vhdx_format.specs.AllocationTables.{bitmap_index_of, state_of, unit_of}
use Rattle.vhdx_format.specs.Fields.{megabyte}
use Rattle.vhdx_format.specs.FileParts.{shape_of}
use Rattle.vhdx_format.specs.HeldBlocks.{IsBitmapEntry, IsPayloadEntry}
use Rattle.vhdx_format.specs.Layers.{HasSizes, Shape, bitmap_entry_of, block_count, block_of, chunk_ratio_of, entry_of, place_at, state_at, table_entry}
use Rattle.vhdx_format.proofs.LayerLemmas.{entries_apart, same_chunk, sector_entries}
use Rattle.vhdx_format.proofs.SizeLemmas.{ratio_in_range}
use Rattle.store_model.specs.Disk.{Disk, WhereBothTold, WhereTold}
use Rattle.store_model.specs.File.{seen}
use Rattle.store_model.specs.Trace.{Trace, file_of}
use Rattle.table_pages.specs.Held.{AreTablesIn, IsSet, KeepsWithin, held}
use Rattle.table_pages.specs.Held as table_words
use Rattle.table_pages.specs.declared.tables.TableParts.{TableParts}
use Rattle.table_pages.specs.declared.tables.Tables.{Tables}
use Rattle.chain_model.specs.Images.{Placed}
use Rattle.layer_session.specs.declared.file.Layer.{Layer}
use Rattle.layer_session.specs.Keeping.{IsReady, Serves}
use Rattle.layer_session.specs.Steps.{held_by}
use Rattle.layer_session.specs.Taking.{HasMade, HasSameBits, HasTaken, HasUnused, IsUnused, MayBeMade, in_part, whole}
use Rattle.layer_session.proofs.Dropping.{enters}
use Rattle.layer_session.proofs.Entered.{EntersInto, layer_by, long, sizes}
use Rattle.layer_session.proofs.Entries.{entry_here, set_file}
use Rattle.layer_session.proofs.Going.{ready_next}
use Rattle.layer_session.proofs.Placing.{full_same, part_same, placed_serves}
use Rattle.layer_session.proofs.Resting.{bits_then, entries_others}
use Rattle.layer_session.proofs.SameEntries.{held_here}
use Rattle.layer_session.proofs.Setting.{set_held, sets_bits, sets_others}
use Rattle.layer_session.proofs.Told.{both_map}

-- what may be made may be made still where the tables say the same
may_still : (p : Shape) (old new : List ℕ) (first state : ℕ) → first < p.sectors → MayBeMade p old first state
    → ((s : ℕ) → s < p.sectors → (table_entry p new (entry_of p s) ≡ table_entry p old (entry_of p s)) × HasSameBits p old new s) → MayBeMade p new first state
may_still p old new first state below (whole six four absent) same =
    let e : state_at p new (entry_of p first) ≡ state_at p old (entry_of p first) = ap state_of (same first below).0 in
    whole six (omega (arith, e, four)) (by_side e absent)
  where
    by_side : state_at p new (entry_of p first) ≡ state_at p old (entry_of p first) → (state_at p old (entry_of p first) ≢ 0) ⊎ (p.parent ≡ false) → (state_at p new (entry_of p first) ≢ 0) ⊎ (p.parent ≡ false)
    by_side e (inl n) = inl (λ z. n (sym e ∙ z))
    by_side e (inr a) = inr a
may_still p old new first state below (in_part seven parent absent unmarked) same =
    in_part seven parent (ap state_of (same first below).0 ∙ absent)
    (λ s b e. let m = unmarked s b e in let k = (same s b).1 in (ap state_of (k.bitmap parent) ∙ m.0, subst (λ n. n ≢ 1) (sym (k.bit parent m.0)) m.1))

module _ (l new : Layer) (u : Trace) (file : Placed) (unit : ℕ) (h : HasUnused l u (record { at = unit * megabyte; len = l.tables.parts.block }) file) (first state index word : ℕ) (on_disk : first < l.tables.parts.sectors)
    (index_is : index ≡ entry_of (table_words.shape_of l.tables.parts) first) (inside : 8 * index + 8 ≤ l.tables.parts.bat_len) (small : word < 2 ^ 64) (word_state : state_of word ≡ state) (word_unit : unit_of word ≡ unit)
    (into : EntersInto l u file new.tables index word) (may : MayBeMade (table_words.shape_of l.tables.parts) (held_by l u) first state)
    (clear : (i : ℕ) → unit * megabyte ≤ i → i < unit * megabyte + l.tables.parts.block → get_or (held_by l u) i 0 ≡ 0) where
  abbrev q : Shape
  q = shape_of h.serves.parts

  abbrev H : List ℕ
  H = held l.tables.pending (seen (file_of u file.number))

  sized : HasSizes q
  sized = record { sector = (sizes l u file h.serves).sector; block = (sizes l u file h.serves).block }

  inside_too : 8 * index + 8 ≤ h.serves.parts.bat_len
  inside_too = let e = h.serves.as_held.region in omega (arith, inside, e)

  index_too : index ≡ entry_of q first
  index_too = index_is ∙ ap (λ p. entry_of p first) h.serves.as_held.shape

  below : first < q.sectors
  below = let e : l.tables.parts.sectors ≡ q.sectors = ap (λ (p : Shape). p.sectors) h.serves.as_held.shape in omega (arith, on_disk, e)

  block_is : l.tables.parts.block ≡ q.block
  block_is = ap (λ (p : Shape). p.block) h.serves.as_held.shape

  entry : IsPayloadEntry q index
  entry =
      let e = (sector_entries q sized).payload first below in
      let b : e.block ≡ block_of q first = (entries_apart (chunk_ratio_of q) (ratio_in_range q.sector q.block sized.sector sized.block).0).payloads e.block (block_of q first) (sym e.at_index) in
      record { block = block_of q first; on_disk = subst (λ n. n < block_count q) b e.on_disk; at_index = index_too }

  chunk_is : bitmap_index_of (block_of q first / chunk_ratio_of q) (chunk_ratio_of q) ≡ bitmap_entry_of q first
  chunk_is = ap (λ n. bitmap_index_of n (chunk_ratio_of q)) (same_chunk q sized first)

  may_q : MayBeMade q H first state
  may_q = subst (λ z. MayBeMade q z first state) (sym (held_here l u file h.serves)) (subst (λ p. MayBeMade p (held_by l u) first state) h.serves.as_held.shape may)

  unused : IsUnused l u file h.serves (record { at = unit_of word * megabyte; len = q.block })
  unused = subst (λ n. IsUnused l u file h.serves (record { at = n * megabyte; len = q.block })) (sym word_unit) (subst (λ n. IsUnused l u file h.serves (record { at = unit * megabyte; len = n })) block_is h.unused)

  zeros_there : (i : ℕ) → unit_of word * megabyte ≤ i → i < unit_of word * megabyte + q.block → get_or H i 0 ≡ 0
  zeros_there i a b =
      let e : unit_of word * megabyte ≡ unit * megabyte = ap (λ n. n * megabyte) word_unit in
      ap (λ z. get_or z i 0) (held_here l u file h.serves) ∙ clear i (omega (arith, a, e)) (omega (arith, b, e, block_is))

  abbrev file_then : List ℕ
  file_then = set_file h.serves.parts (sizes l u file h.serves) H h.serves.as_held.numbers h.serves.as_held.sound (long l u file h.serves) index word inside_too small

  record IsServed : Type 0 where
    serves : Serves (layer_by l new.tables l.space) u file

  placed : IsServed
  unfolding entry
  placed = by_kind may_q
    where
      by_kind : MayBeMade q H first state → IsServed
      by_kind (whole six four absent) =
          let never : state_of word ≡ 7 → ⊥ = λ s. let e : state_of word ≡ 6 = word_state ∙ six in omega (arith, s, e) in
          record {
            serves = placed_serves l u file h.serves new.tables index word inside_too small into entry unused (inl (word_state ∙ six)) (λ s. absurd (never s)) (λ s. absurd (never s))
                (full_same l u file h.serves new.tables index word inside_too small into entry unused (inl (word_state ∙ six)) (λ s. absurd (never s)) (λ s. absurd (never s)) (word_state ∙ six)
                (subst (λ i. state_at q H i < 4) (sym index_too) four) (subst (λ i. (state_at q H i ≢ 0) ⊎ (q.parent ≡ false)) (sym index_too) absent) zeros_there);
          }
      by_kind (in_part seven parent absent unmarked) =
          let m = unmarked first below refl in
          let marks : state_at q H (bitmap_index_of (block_of q first / chunk_ratio_of q) (chunk_ratio_of q)) ≡ 6 = ap (state_at q H) chunk_is ∙ m.0 in
          let chunk : IsBitmapEntry q (bitmap_index_of (block_of q first / chunk_ratio_of q) (chunk_ratio_of q)) = subst (IsBitmapEntry q) (sym chunk_is) ((sector_entries q sized).bitmap first parent below) in
          record {
            serves = placed_serves l u file h.serves new.tables index word inside_too small into entry unused (inr (word_state ∙ seven, parent)) (λ s. marks) (λ s. chunk)
                (part_same l u file h.serves new.tables index word inside_too small into entry unused (inr (word_state ∙ seven, parent)) (λ s. marks) (λ s. chunk) (word_state ∙ seven) parent
                (subst (λ i. state_at q H i ≡ 0) (sym index_too) absent) (λ s b e. unmarked s b (e ∙ index_too)));
          }

  new_is : held_by new u ≡ file_then
  new_is = set_held l u file h.serves new.tables index word inside_too small into

  word_then : table_entry (table_words.shape_of l.tables.parts) (held_by new u) (entry_of (table_words.shape_of l.tables.parts) first) ≡ word
  word_then =
      subst (λ p. table_entry p (held_by new u) (entry_of p first) ≡ word) (sym h.serves.as_held.shape)
      (ap (table_entry q (held_by new u)) (sym index_too) ∙ ap (λ z. table_entry q z index) new_is ∙ entry_here h.serves.parts (sizes l u file h.serves) H h.serves.as_held.numbers h.serves.as_held.sound (long l u file h.serves) index word inside_too small)

  -- where its sectors stand
  pub made_place : (offset place : ℕ) → offset + l.tables.parts.sector ≤ l.tables.parts.block → place ≡ min (unit * megabyte + offset) (2 ^ 64 - 1)
      → place ≡ place_at (table_words.shape_of l.tables.parts) (held_by new u) (entry_of (table_words.shape_of l.tables.parts) first) + offset
  made_place offset place fits is =
      let w = h.unused.placed.within in
      let most = h.serves.as_held.most in
      let e : unit_of (table_entry (table_words.shape_of l.tables.parts) (held_by new u) (entry_of (table_words.shape_of l.tables.parts) first)) * megabyte ≡ unit * megabyte = ap (λ n. unit_of n * megabyte) word_then ∙ ap (λ n. n * megabyte) word_unit in
      omega (arith, w, most, e, is, fits)

  pub made_state : state_at (table_words.shape_of l.tables.parts) (held_by new u) (entry_of (table_words.shape_of l.tables.parts) first) ≡ state
  made_state = ap state_of word_then ∙ word_state

  pub made_serves : new ≡ layer_by l new.tables l.space → Serves new u file
  made_serves only = subst (λ (x : Layer). Serves x u file) (sym only) placed.serves

-- ---- of a store

module _ (l mid new : Layer) (old then : Disk) (ready : IsReady l old) (tables_are : mid.tables ≡ l.tables) (unit : ℕ) (taken : WhereBothTold (HasTaken l mid unit) old.told then.told) (first state index word : ℕ) (on_disk : first < l.tables.parts.sectors)
    (index_is : index ≡ entry_of (table_words.shape_of l.tables.parts) first) (inside : 8 * index + 8 ≤ l.tables.parts.bat_len) (small : word < 2 ^ 64) (word_state : state_of word ≡ state) (word_unit : unit_of word ≡ unit)
    (only : new ≡ record mid { tables = new.tables }) (parts : new.tables.parts ≡ mid.tables.parts) (set : IsSet index word mid.tables new.tables then) (tables : AreTablesIn new.tables then)
    (keeps : KeepsWithin mid.tables.parts.bat_at (mid.tables.parts.bat_at + mid.tables.parts.bat_len) mid.tables new.tables)
    (may : WhereTold old.told (λ t. MayBeMade (table_words.shape_of l.tables.parts) (held_by l t) first state)) (offset place : ℕ) (offset_is : offset ≡ first * l.tables.parts.sector % l.tables.parts.block)
    (fits : offset + l.tables.parts.sector ≤ l.tables.parts.block) (place_is : place ≡ min (unit * megabyte + offset) (2 ^ 64 - 1)) where
  parts_mid : mid.tables.parts ≡ l.tables.parts
  parts_mid = ap (λ (t : Tables). t.parts) tables_are

  index_mid : index ≡ entry_of (table_words.shape_of mid.tables.parts) first
  index_mid = subst (λ (p : TableParts). index ≡ entry_of (table_words.shape_of p) first) (sym parts_mid) index_is

  inside_mid : 8 * index + 8 ≤ mid.tables.parts.bat_len
  inside_mid = subst (λ (p : TableParts). 8 * index + 8 ≤ p.bat_len) (sym parts_mid) inside

  module _ (t u : Trace) (told : old.told ≡ Some t) (told_then : then.told ≡ Some u) (h : HasTaken l mid unit t u) where
    unused_mid : (file : Placed) → Serves l t file → HasUnused mid u (record { at = unit * megabyte; len = mid.tables.parts.block }) file
    unused_mid file serves = subst (λ (p : TableParts). HasUnused mid u (record { at = unit * megabyte; len = p.block }) file) (sym parts_mid) (h.unused file serves)

    clear_mid : (i : ℕ) → unit * megabyte ≤ i → i < unit * megabyte + mid.tables.parts.block → get_or (held_by mid u) i 0 ≡ 0
    clear_mid = subst (λ (p : TableParts). (i : ℕ) → unit * megabyte ≤ i → i < unit * megabyte + p.block → get_or (held_by mid u) i 0 ≡ 0) (sym parts_mid) h.clear

    may_mid : MayBeMade (table_words.shape_of mid.tables.parts) (held_by mid u) first state
    may_mid = subst (λ (p : TableParts). MayBeMade (table_words.shape_of p) (held_by mid u) first state) (sym parts_mid)
        (may_still (table_words.shape_of l.tables.parts) (held_by l t) (held_by mid u) first state on_disk (may t told) (λ s b. let k = h.same.all s b in (k.entry, k.bits)))

    below_mid : first < mid.tables.parts.sectors
    below_mid = subst (λ (p : TableParts). first < p.sectors) (sym parts_mid) on_disk

    into : (file : Placed) → Serves mid u file → EntersInto mid u file new.tables index word
    into file serves = enters mid new.tables then u file index word told_then serves parts set tables keeps

    one_made : HasMade l new first state place t u
    one_made =
        let one = ready.told t told in
        let k = unused_mid one.0 one.1 in
        let e = into one.0 k.serves in
        record {
          serves = λ file s. let hu = unused_mid file s in made_serves mid new u file unit hu first state index word below_mid index_mid inside_mid small word_state word_unit (into file hu.serves) may_mid clear_mid only;
          state_is = subst (λ (p : TableParts). state_at (table_words.shape_of p) (held_by new u) (entry_of (table_words.shape_of p) first) ≡ state) parts_mid
              (made_state mid new u one.0 unit k first state index word below_mid index_mid inside_mid small word_state word_unit e may_mid clear_mid);
          place_is = subst (λ n. place ≡ place_at (table_words.shape_of l.tables.parts) (held_by new u) (entry_of (table_words.shape_of l.tables.parts) first) + n) offset_is
              (subst (λ (p : TableParts). place ≡ place_at (table_words.shape_of p) (held_by new u) (entry_of (table_words.shape_of p) first) + offset) parts_mid
              (made_place mid new u one.0 unit k first state index word below_mid index_mid inside_mid small word_state word_unit e may_mid clear_mid offset place (subst (λ (p : TableParts). offset + p.sector ≤ p.block) (sym parts_mid) fits) place_is));
          bits = λ s b. bits_then (table_words.shape_of l.tables.parts) (held_by l t) (held_by mid u) (held_by new u) s (h.same.all s b).bits
              (subst (λ (p : TableParts). (s : ℕ) → s < p.sectors → HasSameBits (table_words.shape_of p) (held_by mid u) (held_by new u) s) parts_mid
              (sets_bits mid new u one.0 k.serves first index word below_mid index_mid inside_mid small e) s b);
          others = entries_others l mid new first t u u parts_mid h.same (sets_others mid new u one.0 k.serves first index word below_mid index_mid inside_mid small e);
        }

  pub made_all : WhereBothTold (HasMade l new first state place) old.told then.told
  made_all = both_map (HasTaken l mid unit) (HasMade l new first state place) old.told then.told taken one_made

  pub made_ready : IsReady mid then → then ≡ record old { told = then.told } → IsReady new then
  made_ready ready_mid counts =
      ready_next l new old then ready (ap (λ (d : Disk). d.files) counts) (parts ∙ parts_mid) (ap (λ (x : Layer). x.log.file) only ∙ (ready_mid.one_file ∙ (ap (λ (p : TableParts). p.file) parts_mid ∙ sym ready.one_file)))
      (subst (λ (x : Layer). x.log.len ≤ x.space.next * megabyte) (sym only) ready_mid.next) (subst (λ (x : Layer). x.space.next ≤ 2 ^ 44) (sym only) ready_mid.most)
      (subst (λ (x : Layer). x.zeros.items ≡ zeros megabyte) (sym only) ready_mid.clear) (subst (λ (x : Layer). length x.plans.items ≡ 257) (sym only) ready_mid.plans)
      (both_map (HasMade l new first state place) _ old.told then.told made_all (λ t u a b h file serves. (file, h.serves file serves)))
