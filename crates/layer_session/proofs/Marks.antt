-- Sectors of a block are marked, or marked as not there, in the sector bitmap block of their chunk.
use Rattle.std.proofs.Common.{◌≡◌, ◌≢◌, ℕ, ◌+◌, ◌*◌, ◌/◌, ◌%◌, ◌^◌, ◌<◌, ◌≤◌, ◌⊎◌, ◌||◌, Bool, true, false, List, length, refl, sym, ap, subst, ◌∙◌, arith, inl, inr, if◌then◌else◌}
use Rattle.std.specs.Prelude.{None, nat_lt}
use Rattle.std.proofs.lemmas.Bool.{cases_Bool, cases_eq, cases_lt, lt-ltb, ltb-true}
use Rattle.vhdx_format.specs.AllocationTables.{state_of, unit_of}
use Rattle.vhdx_format.specs.Fields.{megabyte}
use Rattle.vhdx_format.specs.FileParts.{shape_of}
use Rattle.vhdx_format.specs.HeldBlocks.{IsBitmapEntry, bitmap}
use Rattle.vhdx_format.specs.Layers.{HasSizes, Shape, bitmap_entry_of, chunk_ratio_of, entry_of, layer_sector, place_at, sector_bit, state_at, table_entry}
use Rattle.vhdx_format.specs.SectorBitmaps.{bit_value, is_within}
use Rattle.vhdx_format.proofs.LayerLemmas.{entries_apart, sector_entries}
use Rattle.vhdx_format.proofs.SizeLemmas.{ratio_in_range}
use Rattle.store_model.specs.File.{seen}
use Rattle.store_model.specs.Trace.{Trace, file_of}
use Rattle.table_pages.specs.Held.{AreTables, KeepsWithin, PutsWithin, SetsBlock, held}
use Rattle.table_pages.specs.Held as table_words
use Rattle.table_pages.specs.declared.tables.TableParts.{TableParts}
use Rattle.chain_model.specs.Images.{Placed}
use Rattle.chain_model.specs.Layers as chain
use Rattle.layer_session.specs.declared.file.Layer.{Layer}
use Rattle.layer_session.specs.Calls.{is_among, loose_or_named, placed_with}
use Rattle.layer_session.specs.Keeping.{Serves}
use Rattle.layer_session.specs.Steps.{held_by}
use Rattle.layer_session.specs.Taking.{KeepsOthers, LeavesRest}
use Rattle.layer_session.proofs.Alike.{bitmap_there, block_in_file}
use Rattle.layer_session.proofs.Beside.{among}
use Rattle.layer_session.proofs.Entered.{held_as_long, long, sizes}
use Rattle.layer_session.proofs.Marked.{MarksInto, marked_serves}
use Rattle.layer_session.proofs.Marking.{marked_bit, marked_entry, marked_layer, marked_state, other_bit}
use Rattle.layer_session.proofs.Payload.{within}
use Rattle.layer_session.proofs.Resting.{rest_tables}
use Rattle.layer_session.proofs.SameEntries.{by_shape, held_here}
use Rattle.layer_session.proofs.SameTables.{bitmap_same}

-- what is known of a call that marks
pub record Marks (l new : Layer) (word first count : ℕ) (on : Bool) : Type 0 where
  pub only : new ≡ record l { tables = new.tables }
  pub parts : new.tables.parts ≡ l.tables.parts
  pub within : PutsWithin (word / 2 ^ 20 * megabyte) l.tables.pending new.tables.pending
  pub set : (file : List ℕ) → AreTables l.tables.parts file l.tables.pending l.tables.cache → word / 2 ^ 20 * megabyte + megabyte ≤ length file → SetsBlock (word / 2 ^ 20 * megabyte) (first % 2 ^ 23) count on l.tables new.tables file
  pub places : KeepsWithin 0 0 l.tables new.tables

pub marks_rest : (l new : Layer) (word first count : ℕ) (on : Bool) → Marks l new word first count on → LeavesRest l new 0
marks_rest l new word first count on m = rest_tables l new m.only m.parts (λ at h. m.within.keeps at h)

module _ (l new : Layer) (word first count : ℕ) (on : Bool) (m : Marks l new word first count on) (t : Trace) (file : Placed) (serves : Serves l t file) (on_disk : first < l.tables.parts.sectors) (has_parent : l.tables.parts.parent ≡ true)
    (there : word % 8 ≡ 6) (word_is : word ≡ table_entry (table_words.shape_of l.tables.parts) (held_by l t) (bitmap_entry_of (table_words.shape_of l.tables.parts) first)) (room : first % 2 ^ 23 + count ≤ 2 ^ 23) where
  abbrev q : Shape
  q = shape_of serves.parts

  abbrev F : List ℕ
  F = seen (file_of t file.number)

  abbrev H : List ℕ
  H = held l.tables.pending F

  abbrev index : ℕ
  index = bitmap_entry_of q first

  sized : HasSizes q
  sized = record { sector = (sizes l t file serves).sector; block = (sizes l t file serves).block }

  parent : q.parent ≡ true
  parent = sym (ap (λ (p : Shape). p.parent) serves.as_held.shape) ∙ has_parent

  below : first < q.sectors
  below = let e : l.tables.parts.sectors ≡ q.sectors = ap (λ (p : Shape). p.sectors) serves.as_held.shape in omega (arith, on_disk, e)

  word_q : word ≡ table_entry q H index
  word_q = word_is ∙ ap (λ p. table_entry p (held_by l t) (bitmap_entry_of p first)) serves.as_held.shape ∙ ap (λ z. table_entry q z index) (sym (held_here l t file serves))

  entry : IsBitmapEntry q index
  entry = (sector_entries q sized).bitmap first parent below

  six : state_at q H index ≡ 6
  six = ap state_of (sym word_q) ∙ there

  place_is : word / 2 ^ 20 * megabyte ≡ place_at q H index
  place_is = ap (λ w. unit_of w * megabyte) word_q

  lies : place_at q H index + megabyte ≤ length F
  lies = let b = block_in_file serves.parts H H (omega arith) (sizes l t file serves) serves.as_held.numbers serves.as_held.sound index (record { at = place_at q H index; len = megabyte }) (bitmap entry six) in
      let w = b.within in omega (arith, w, held_as_long l t file serves)

  into : MarksInto l t file new.tables (place_at q H index) (first % 2 ^ 23) count on
  into =
      let s = m.set F serves.as_held.pages (omega (arith, lies, place_is)) in
      subst (λ n. MarksInto l t file new.tables n (first % 2 ^ 23) count on) place_is (record { parts_are = m.parts; pages = s.tables; within = m.within; sets = s.sets; keeps = m.places })

  abbrev now : List ℕ
  now = held new.tables.pending F

  now_is : now ≡ held_by new t
  now_is = ap (λ n. held new.tables.pending (seen (file_of t n))) (serves.number ∙ ap (λ (p : TableParts). p.file) (sym m.parts))

  -- ---- bits

  inside : (s : ℕ) → s < q.sectors → is_among first count s ≡ true → sector_bit q now s ≡ bit_value on
  inside s b h =
      let w = within first count s h in
      let from = w.0 in
      let to = w.1 in
      let chunk : s / 2 ^ 23 ≡ first / 2 ^ 23 = omega (arith, from, to, room) in
      let test : is_within (8 * place_at q H index + first % 2 ^ 23) count (8 * place_at q H index + s % 2 ^ 23) ≡ true =
      among (8 * place_at q H index + first % 2 ^ 23) count (8 * place_at q H index + s % 2 ^ 23) (omega (arith, from, to, room)) (omega (arith, from, to, room)) in
      marked_bit serves.parts (sizes l t file serves) H now serves.as_held.numbers serves.as_held.sound (long l t file serves) index (first % 2 ^ 23) count on entry six into.sets room s b (ap (λ c. c * (chunk_ratio_of q + 1) + chunk_ratio_of q) chunk)
      ∙ ap (λ x. if x then bit_value on else sector_bit q H s) test

  outside : (s : ℕ) → s < q.sectors → is_among first count s ≡ false → state_at q H (bitmap_entry_of q s) ≡ 6 → sector_bit q now s ≡ sector_bit q H s
  outside s b off here = by_index (cases_eq (bitmap_entry_of q s) index)
    where
      by_test : bitmap_entry_of q s ≡ index → (is_within (8 * place_at q H index + first % 2 ^ 23) count (8 * place_at q H index + s % 2 ^ 23) ≡ true) ⊎ (is_within (8 * place_at q H index + first % 2 ^ 23) count (8 * place_at q H index + s % 2 ^ 23) ≡ false)
          → (if is_within (8 * place_at q H index + first % 2 ^ 23) count (8 * place_at q H index + s % 2 ^ 23) then bit_value on else sector_bit q H s) ≡ sector_bit q H s
      by_test e (inr f) = ap (λ x. if x then bit_value on else sector_bit q H s) f
      by_test e (inl f) =
          let w = within (8 * place_at q H index + first % 2 ^ 23) count (8 * place_at q H index + s % 2 ^ 23) f in
          let from = w.0 in
          let to = w.1 in
          let chunk : s / 2 ^ 23 ≡ first / 2 ^ 23 = (entries_apart (chunk_ratio_of q) (ratio_in_range q.sector q.block sized.sector sized.block).0).bitmaps (s / 2 ^ 23) (first / 2 ^ 23) e in
          let named : is_among first count s ≡ true = among first count s (omega (arith, chunk, from)) (omega (arith, chunk, to)) in
          let wrong : true ≡ false = sym named ∙ off in
          absurd (let w : ⊥ = cc in w)

      by_index : (bitmap_entry_of q s ≡ index) ⊎ (bitmap_entry_of q s ≢ index) → sector_bit q now s ≡ sector_bit q H s
      by_index (inr ne) = other_bit serves.parts (sizes l t file serves) H now serves.as_held.numbers serves.as_held.sound (long l t file serves) index (first % 2 ^ 23) count on entry six into.sets room s b parent ne here
      by_index (inl e) =
          marked_bit serves.parts (sizes l t file serves) H now serves.as_held.numbers serves.as_held.sound (long l t file serves) index (first % 2 ^ 23) count on entry six into.sets room s b e
          ∙ by_test e (cases_Bool (is_within (8 * place_at q H index + first % 2 ^ 23) count (8 * place_at q H index + s % 2 ^ 23)))

  same_word : (j : ℕ) → 8 * j + 8 ≤ serves.parts.bat_len → table_entry q now j ≡ table_entry q H j
  same_word j = marked_entry serves.parts (sizes l t file serves) H now serves.as_held.numbers serves.as_held.sound (long l t file serves) index (first % 2 ^ 23) count on entry six into.sets room j

  same_state : (s : ℕ) → s < q.sectors → table_entry q now (entry_of q s) ≡ table_entry q H (entry_of q s)
  same_state s b = marked_state serves.parts (sizes l t file serves) H now serves.as_held.numbers serves.as_held.sound (long l t file serves) index (first % 2 ^ 23) count on entry six into.sets room s b

  same_bitmap : (s : ℕ) → s < q.sectors → table_entry q now (bitmap_entry_of q s) ≡ table_entry q H (bitmap_entry_of q s)
  same_bitmap s b = bitmap_same serves.parts (sizes l t file serves) H now into.sets.as_long same_word (bitmap_entry_of q s) ((sector_entries q sized).bitmap s parent b)

  -- a sector whose block isn't partially present, and one that isn't named, is as it was
  same_sector : (s : ℕ) → s < q.sectors → (state_at q H (entry_of q s) ≢ 7) ⊎ (is_among first count s ≡ false) → layer_sector q now s ≡ layer_sector q H s
  same_sector s b h = marked_layer serves.parts (sizes l t file serves) H now serves.as_held.numbers serves.as_held.sound (long l t file serves) index (first % 2 ^ 23) count on entry six into.sets room s b (by_kind h (cases_eq (state_at q H (entry_of q s)) 7))
    where
      by_kind : (state_at q H (entry_of q s) ≢ 7) ⊎ (is_among first count s ≡ false) → (state_at q H (entry_of q s) ≡ 7) ⊎ (state_at q H (entry_of q s) ≢ 7) → (state_at q H (entry_of q s) ≢ 7) ⊎ (sector_bit q now s ≡ sector_bit q H s)
      by_kind any (inr n) = inl n
      by_kind (inl n) (inl e) = inl n
      by_kind (inr off) (inl e) = inr (outside s b off (bitmap_there serves.parts H H (omega arith) (sizes l t file serves) serves.as_held.numbers serves.as_held.sound s b parent e))

  -- ---- by the layer's own numbers

  -- the layer's shape, and what is held
  to_layer : (P : Shape → List ℕ → List ℕ → Type 0) → P q H now → P (table_words.shape_of l.tables.parts) (held_by l t) (held_by new t)
  to_layer P h = by_shape l t file serves (λ p. P p (held_by l t) (held_by new t)) (subst (λ z. P q z (held_by new t)) (held_here l t file serves) (subst (P q H) now_is h))

  pub marks_bits : (s : ℕ) → s < l.tables.parts.sectors → is_among first count s ≡ true → sector_bit (table_words.shape_of l.tables.parts) (held_by new t) s ≡ bit_value on
  marks_bits = to_layer (λ p old z. (s : ℕ) → s < p.sectors → is_among first count s ≡ true → sector_bit p z s ≡ bit_value on) inside

  pub marks_state : (s : ℕ) → s < l.tables.parts.sectors → table_entry (table_words.shape_of l.tables.parts) (held_by new t) (entry_of (table_words.shape_of l.tables.parts) s) ≡ table_entry (table_words.shape_of l.tables.parts) (held_by l t) (entry_of (table_words.shape_of l.tables.parts) s)
  marks_state = to_layer (λ p old z. (s : ℕ) → s < p.sectors → table_entry p z (entry_of p s) ≡ table_entry p old (entry_of p s)) same_state

  pub marks_bitmap : (s : ℕ) → s < l.tables.parts.sectors → table_entry (table_words.shape_of l.tables.parts) (held_by new t) (bitmap_entry_of (table_words.shape_of l.tables.parts) s) ≡ table_entry (table_words.shape_of l.tables.parts) (held_by l t) (bitmap_entry_of (table_words.shape_of l.tables.parts) s)
  marks_bitmap = to_layer (λ p old z. (s : ℕ) → s < p.sectors → table_entry p z (bitmap_entry_of p s) ≡ table_entry p old (bitmap_entry_of p s)) same_bitmap

  pub marks_others : ((s : ℕ) → s < l.tables.parts.sectors → is_among first count s ≡ true → entry_of (table_words.shape_of l.tables.parts) s ≡ entry_of (table_words.shape_of l.tables.parts) first) → KeepsOthers l new first t t
  marks_others in_block = record {
    others = λ s b ne. record {
      entry = marks_state s b;
      bits = record { bitmap = λ p. marks_bitmap s b; bit = λ p here. out s b (by_name s b ne (cases_Bool (is_among first count s))) here };
    };
  }
    where
      out : (s : ℕ) → s < l.tables.parts.sectors → is_among first count s ≡ false → state_at (table_words.shape_of l.tables.parts) (held_by l t) (bitmap_entry_of (table_words.shape_of l.tables.parts) s) ≡ 6
          → sector_bit (table_words.shape_of l.tables.parts) (held_by new t) s ≡ sector_bit (table_words.shape_of l.tables.parts) (held_by l t) s
      out = to_layer (λ p old z. (s : ℕ) → s < p.sectors → is_among first count s ≡ false → state_at p old (bitmap_entry_of p s) ≡ 6 → sector_bit p z s ≡ sector_bit p old s) outside

      by_name : (s : ℕ) → s < l.tables.parts.sectors → entry_of (table_words.shape_of l.tables.parts) s ≢ entry_of (table_words.shape_of l.tables.parts) first → (is_among first count s ≡ true) ⊎ (is_among first count s ≡ false) → is_among first count s ≡ false
      by_name s b ne (inl here) = absurd (ne (in_block s b here))
      by_name s b ne (inr off) = off

  -- ---- what is served

  -- as the bits then say
  layer_now : chain.Layer
  layer_now s = if nat_lt s q.sectors then layer_sector q now s else None

  has_now : (s : ℕ) → s < q.sectors → layer_now s ≡ layer_sector q now s
  unfolding layer_now
  has_now s b = let e : nat_lt s q.sectors ≡ true = lt-ltb s q.sectors b in rw e refl

  none_now : (s : ℕ) → q.sectors ≤ s → layer_now s ≡ None
  unfolding layer_now
  none_now s a = by_test (cases_Bool (nat_lt s q.sectors))
    where
      by_test : (nat_lt s q.sectors ≡ true) ⊎ (nat_lt s q.sectors ≡ false) → (if nat_lt s q.sectors then layer_sector q now s else None) ≡ None
      by_test (inl e) = absurd (let b : s < q.sectors = ltb-true s q.sectors e in omega (arith, b, a))
      by_test (inr e) = rw e refl

  agrees : (s : ℕ) → is_among first count s ≡ false → layer_now s ≡ file.member.layer s
  agrees s off = by_place (cases_lt s q.sectors)
    where
      by_place : (s < q.sectors) ⊎ (q.sectors ≤ s) → layer_now s ≡ file.member.layer s
      by_place (inl b) = has_now s b ∙ same_sector s b (inr off) ∙ sym (serves.as_held.has.on_disk s b)
      by_place (inr a) = none_now s a ∙ sym (serves.as_held.has.off_disk s a)

  pub marks_serves : (layer : chain.Layer) × (Serves new t (placed_with layer (loose_or_named first count file) file) × ((s : ℕ) → is_among first count s ≡ false → layer s ≡ file.member.layer s))
  marks_serves = (
    layer_now,
    (
      subst (λ (x : Layer). Serves x t (placed_with layer_now (loose_or_named first count file) file)) (sym m.only)
          (marked_serves l t file serves new.tables index (first % 2 ^ 23) count on entry six into room layer_now (loose_or_named first count file) (record { on_disk = has_now; off_disk = none_now })
          (λ s h. let o = or_none (file.is_loose s) (is_among first count s) h in (o.0, agrees s o.1))),
      agrees,
    ),
  )
    where
      or_none : (x y : Bool) → (x || y) ≡ false → (x ≡ false) × (y ≡ false)
      or_none false y h = (refl, h)
      or_none true y h = cc

  -- where no named sector's block is partially present, nothing changes
  pub marks_same : ((s : ℕ) → s < l.tables.parts.sectors → is_among first count s ≡ true → state_at (table_words.shape_of l.tables.parts) (held_by l t) (entry_of (table_words.shape_of l.tables.parts) s) ≢ 7) → Serves new t file
  marks_same absent =
      subst (λ (x : Layer). Serves x t file) (sym m.only)
      (marked_serves l t file serves new.tables index (first % 2 ^ 23) count on entry six into room file.member.layer file.is_loose
      (record { on_disk = λ s b. serves.as_held.has.on_disk s b ∙ sym (same_sector s b (by_name s b (cases_Bool (is_among first count s)))); off_disk = serves.as_held.has.off_disk }) (λ s h. (h, refl)))
    where
      absent_q : (s : ℕ) → s < q.sectors → is_among first count s ≡ true → state_at q H (entry_of q s) ≢ 7
      absent_q = subst (λ z. (s : ℕ) → s < q.sectors → is_among first count s ≡ true → state_at q z (entry_of q s) ≢ 7) (sym (held_here l t file serves))
          (subst (λ p. (s : ℕ) → s < p.sectors → is_among first count s ≡ true → state_at p (held_by l t) (entry_of p s) ≢ 7) serves.as_held.shape absent)

      by_name : (s : ℕ) → s < q.sectors → (is_among first count s ≡ true) ⊎ (is_among first count s ≡ false) → (state_at q H (entry_of q s) ≢ 7) ⊎ (is_among first count s ≡ false)
      by_name s b (inl here) = inl (absent_q s b here)
      by_name s b (inr off) = inr off
