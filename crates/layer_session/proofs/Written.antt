-- What a layer serves after a write of sectors to their places.
use Rattle.std.proofs.Common.{◌≡◌, ℕ, ◌+◌, ◌-◌, ◌*◌, ◌/◌, ◌%◌, ◌<◌, ◌≤◌, ◌⊎◌, ◌||◌, Bool, true, false, List, length, get_or, Some, refl, sym, ap, subst, ◌∙◌, arith, inl, inr, mul_comm}
use Rattle.std.proofs.lemmas.Bool.{cases_lt, cases_Bool}
use Rattle.std.proofs.lemmas.List.{ext_get_or}
use Rattle.vx_base.specs.Fields.{bytes_at, written_over}
use Rattle.vhdx_format.specs.AllocationTables.{payload_index_of, state_of, unit_of}
use Rattle.vhdx_format.specs.Fields.{megabyte}
use Rattle.vhdx_format.specs.FileParts.{read_parts, shape_of, taken_areas}
use Rattle.vhdx_format.specs.HeldBlocks.{IsSoundTable}
use Rattle.vhdx_format.specs.Layers.{Shape, chunk_ratio_of, entry_of, layer_sector, place_at, sector_bit, sector_by_state, state_at, stored_sector, table_entry}
use Rattle.vhdx_format.proofs.LayerLemmas.{by_state-full, by_state-marked}
use Rattle.store_model.specs.File.{File, Write, seen, with_op}
use Rattle.store_model.specs.Trace.{Trace, file_of, with_change}
use Rattle.store_model.proofs.Spans.{file_of-with_change}
use Rattle.table_pages.specs.Held.{AreTables, held}
use Rattle.table_pages.proofs.Changing.{held_beside_writes, stand_beside_writes}
use Rattle.table_pages.proofs.Laying.{over_in, over_out, part_byte, part_same}
use Rattle.table_pages.proofs.Words.{held_long}
use Rattle.log_write.specs.Sessions.{IsRunning}
use Rattle.chain_model.specs.Images.{Placed, metadata_of}
use Rattle.chain_model.specs.Layers as chain
use Rattle.layer_session.specs.declared.file.Layer.{Layer}
use Rattle.layer_session.specs.Calls.{is_among, loose_or_named, placed_with, with_bytes}
use Rattle.layer_session.specs.Keeping.{AreBeside, Covers, HasSpace, IsClean, IsCommitted, IsHeld, IsLayerOf, IsPlaced, IsRunAt, IsTablePlace, Serves, StandsAt, area_of}
use Rattle.layer_session.specs.Laws.{WritesAreServed}
use Rattle.layer_session.specs.Steps.{StandFrom}
use Rattle.layer_session.proofs.Alike.{not_true, bit_alike, holds_alike, layer_alike, metadata_alike, numbers_alike, places_alike, places_stay, sound_alike, state_alike}
use Rattle.layer_session.proofs.Apart.{beside_self}
use Rattle.layer_session.proofs.Beside.{named_only, off_tables}
use Rattle.layer_session.proofs.Crashes.{IsSafe, safe_of}
use Rattle.layer_session.proofs.Payload.{images_then, inside, more, on_disk_too, run_at, running, safe_then, some_bytes, within}
use Rattle.layer_session.proofs.Places.{in_run}
use Rattle.std.proofs.Math.Nat.{add-mul}
use Rattle.std.specs.Prelude.{Ok}
use Rattle.store_model.proofs.Parts.{length-part}
use Rattle.vx_base.proofs.ByteLists.{length-overwritten}
use Rattle.vhdx_format.proofs.SizeLemmas.{sector_least}

-- a part of what was written
part_over : (s bytes : List ℕ) (at k m : ℕ) → at + length bytes ≤ length s → k + m ≤ length bytes → bytes_at (written_over s at bytes) (at + k) m ≡ bytes_at bytes k m
part_over s bytes at k m fits h =
    ext_get_or 0 _ _ (length-part (written_over s at bytes) (at + k) m (omega (arith, length-overwritten s bytes at fits, fits, h)) ∙ sym (length-part bytes k m h))
    (λ i l. byte i (omega (arith, l, length-part (written_over s at bytes) (at + k) m (omega (arith, length-overwritten s bytes at fits, fits, h)))))
  where
    byte : (i : ℕ) → i < m → get_or (bytes_at (written_over s at bytes) (at + k) m) i 0 ≡ get_or (bytes_at bytes k m) i 0
    byte i l =
        let there : get_or (written_over s at bytes) (at + k + i) 0 ≡ get_or bytes (at + k + i - at) 0 = over_in s bytes at (at + k + i) fits (omega arith) (omega (arith, l, h)) in
        let e : at + k + i - at ≡ k + i = omega arith in
        part_byte (written_over s at bytes) (at + k) m i l ∙ there ∙ ap (λ n. get_or bytes n 0) e ∙ sym (part_byte bytes k m i l)

module _ (l : Layer) (trace : Trace) (file : Placed) (serves : Serves l trace file) (first count place : ℕ) (from : StandFrom l first count place trace) (on_disk : first + count ≤ l.tables.parts.sectors)
    (bytes : List ℕ) (whole : length bytes ≡ count * serves.parts.geometry.sector) where
  abbrev f : File
  f = file_of trace file.number

  abbrev old : List ℕ
  old = seen f

  abbrev X : List ℕ
  X = written_over old place bytes

  abbrev h : List ℕ
  h = held l.tables.pending old

  abbrev q : Shape
  q = shape_of serves.parts

  sf : IsSafe serves.parts serves.tables serves.written file.is_loose file.member.layer serves.bytes old
  sf = safe_of l trace file serves

  at_run : IsRunAt q h first count place
  at_run = run_at l trace file serves first count place from on_disk

  disk : first + count ≤ q.sectors
  disk = on_disk_too l trace file serves first count place from on_disk

  fits : place + length bytes ≤ length old
  fits = inside l trace file serves first count place from on_disk bytes whole

  -- a place of the run is no table's
  clear : (i : ℕ) → serves.tables i ≡ true → place ≤ i → i < place + length bytes → ⊥
  clear i t a b =
      off_tables serves.parts sf.sizes serves.bytes h serves.as_held.numbers serves.as_held.sound serves.beside first count place at_run disk i a (omega (arith, b, whole)) (serves.only i t)

  out_of : (i : ℕ) → serves.tables i ≡ true → (i < place) ⊎ (place + length bytes ≤ i)
  out_of i t = by_side (cases_lt i place) (cases_lt i (place + length bytes))
    where
      by_side : (i < place) ⊎ (place ≤ i) → (i < place + length bytes) ⊎ (place + length bytes ≤ i) → (i < place) ⊎ (place + length bytes ≤ i)
      by_side (inl x) any = inl x
      by_side (inr x) (inr y) = inr y
      by_side (inr x) (inl y) = absurd (clear i t x y)

  same_long : length X ≡ length old
  same_long = length-overwritten old bytes place fits

  -- the tables in memory are the file's still
  tables_then : AreTables l.tables.parts X l.tables.pending l.tables.cache
  tables_then =
      stand_beside_writes l.tables.parts old X l.tables.pending l.tables.cache serves.as_held.pages (omega (arith, same_long))
      (λ at a k. part_same X old at 4096 same_long (λ i b. over_out old bytes place (at + i) fits (out_of (at + i) (serves.kept at (at + i) a k (omega arith) (omega (arith, b))))))

  -- a page of the tables lies on one side of the run
  page_side : (at : ℕ) → ((i : ℕ) → at ≤ i → i < at + 4096 → serves.tables i ≡ true) → (place + length bytes ≤ at) ⊎ (at + 4096 ≤ place)
  page_side at of = by_side (cases_lt at (place + length bytes)) (cases_lt place (at + 4096)) (cases_lt place at)
    where
      some : 0 < length bytes
      some = some_bytes l trace file serves first count place from on_disk bytes whole

      by_side : (at < place + length bytes) ⊎ (place + length bytes ≤ at) → (place < at + 4096) ⊎ (at + 4096 ≤ place) → (place < at) ⊎ (at ≤ place) → (place + length bytes ≤ at) ⊎ (at + 4096 ≤ place)
      by_side (inr a) any other = inl a
      by_side (inl a) (inr b) other = inr b
      by_side (inl a) (inl b) (inl c) = absurd (clear at (of at (omega arith) (omega arith)) (omega arith) a)
      by_side (inl a) (inl b) (inr c) = absurd (clear place (of place c b) (omega arith) (omega (arith, some)))

  abbrev now : List ℕ
  now = held l.tables.pending X

  long_held : length h ≡ length old
  long_held = held_long l.tables.parts old l.tables.pending l.tables.cache serves.as_held.pages

  -- what is held is written over
  held_then : now ≡ written_over h place bytes
  held_then = (held_beside_writes l.tables.parts old l.tables.pending l.tables.cache place bytes serves.as_held.pages fits (λ k d b. page_side _ (serves.changed k d b))).write

  fits_held : place + length bytes ≤ length h
  fits_held = omega (arith, fits, long_held)

  pub longer : length h ≤ length now
  longer = omega (arith, ap length held_then, length-overwritten h bytes place fits_held)

  byte_out : (i : ℕ) → (i < place) ⊎ (place + length bytes ≤ i) → get_or now i 0 ≡ get_or h i 0
  byte_out i o = ap (λ (z : List ℕ). get_or z i 0) held_then ∙ over_out h bytes place i fits_held o

  pub table_same : (i : ℕ) → IsTablePlace serves.parts h i → i < length h → get_or now i 0 ≡ get_or h i 0
  table_same i t below = byte_out i (out_of i (serves.covered_held.covers i t))

  long : 327680 ≤ length h
  long = let a = sf.long in let b = serves.committed.long in omega (arith, a, b, long_held)

  numbers_then : read_parts serves.parts.header now ≡ Ok serves.parts
  numbers_then = numbers_alike serves.parts h now longer sf.sizes serves.as_held.numbers serves.as_held.sound table_same long

  sound_then : IsSoundTable q (taken_areas serves.parts) now
  sound_then = sound_alike serves.parts h now longer sf.sizes serves.as_held.numbers serves.as_held.sound table_same long

  -- ---- the layer

  z_is : l.tables.parts.sector ≡ q.sector
  z_is = ap (λ (s : Shape). s.sector) serves.as_held.shape

  layer_then : chain.Layer
  layer_then s = with_bytes l.tables.parts.sector first count bytes file.member.layer s

  -- another sector stands outside the run
  other_out : (s i : ℕ) → s < q.sectors → is_among first count s ≡ false → StandsAt q h s i → (i < place) ⊎ (place + length bytes ≤ i)
  other_out s i below off st = by_side (cases_lt i place) (cases_lt i (place + length bytes))
    where
      by_side : (i < place) ⊎ (place ≤ i) → (i < place + length bytes) ⊎ (place + length bytes ≤ i) → (i < place) ⊎ (place + length bytes ≤ i)
      by_side (inl x) any = inl x
      by_side (inr x) (inr y) = inr y
      by_side (inr x) (inl y) =
          let e : is_among first count s ≡ true = named_only serves.parts sf.sizes h h serves.as_held.numbers serves.as_held.sound (beside_self serves.parts sf.sizes h serves.as_held.sound) first count place at_run disk s i below st x (omega (arith, y, whole)) in
          let g : false ≡ true = sym off ∙ e in
          cc

  other_sector : (s : ℕ) → s < q.sectors → is_among first count s ≡ false → layer_sector q now s ≡ layer_sector q h s
  other_sector s below off = layer_alike serves.parts h now longer sf.sizes serves.as_held.numbers serves.as_held.sound table_same long s below (λ i st. byte_out i (other_out s i below off st))

  -- a sector of the run by its number in it
  record IsNamed (s j : ℕ) : Type 0 where
    is : first + j ≡ s
    below : s < q.sectors
    entry : entry_of q s ≡ entry_of q first
    offset : s * q.sector % q.block ≡ first * q.sector % q.block + j * q.sector
    room : j * q.sector + q.sector ≤ length bytes

  named : (s : ℕ) → first ≤ s → s < first + count → IsNamed s (s - first)
  named s a b =
      let j = s - first in
      let z = q.sector in
      let is : first + j ≡ s = omega arith in
      let split : count ≡ j + 1 + (count - (j + 1)) = omega arith in
      let rows : count * z ≡ (j + 1) * z + (count - (j + 1)) * z = ap (λ n. n * z) split ∙ add-mul (j + 1) (count - (j + 1)) z in
      let row : (j + 1) * z ≡ j * z + 1 * z = add-mul j 1 z in
      let room : j * z + z ≤ length bytes = omega (arith, rows, row, whole) in
      let all = at_run.run in
      let least = sector_least q.sector sf.sizes.sector in
      let r = in_run z first j q.block (omega (arith, all, rows, row, least)) in
      let block_is = r.block_is in
      let place_is = r.place_is in
      let same_block : s * z / q.block ≡ first * z / q.block = ap (λ n. n * z / q.block) (sym is) ∙ block_is in
      record {
        is = is;
        below = omega (arith, b, disk);
        entry = ap (λ n. payload_index_of n (chunk_ratio_of q)) same_block;
        offset = ap (λ n. n * z % q.block) (sym is) ∙ place_is;
        room = room;
      }

  named_stored : (s j : ℕ) → IsNamed s j → stored_sector q now s ≡ bytes_at bytes (j * q.sector) q.sector
  unfolding stored_sector
  named_stored s j n =
      let word : table_entry q now (entry_of q s) ≡ table_entry q h (entry_of q first) =
      state_alike serves.parts h now longer sf.sizes serves.as_held.numbers serves.as_held.sound table_same long s n.below ∙ ap (table_entry q h) n.entry in
      let at : place_at q now (entry_of q s) ≡ place_at q h (entry_of q first) = ap (λ w. unit_of w * megabyte) word in
      let place_is = at_run.place_is in
      let offset = n.offset in
      let there : place_at q now (entry_of q s) + s * q.sector % q.block ≡ place + j * q.sector = omega (arith, at, place_is, offset) in
      ap (λ k. bytes_at now k q.sector) there ∙ ap (λ (z : List ℕ). bytes_at z (place + j * q.sector) q.sector) held_then ∙ part_over h bytes place (j * q.sector) q.sector fits_held n.room

  named_sector : (s : ℕ) → s < q.sectors → first ≤ s → s < first + count → layer_sector q now s ≡ Some (bytes_at bytes (q.sector * (s - first)) q.sector)
  named_sector s below a b = by_state at_run.there
    where
      n : IsNamed s (s - first)
      n = named s a b

      word : table_entry q now (entry_of q s) ≡ table_entry q h (entry_of q first)
      word = state_alike serves.parts h now longer sf.sizes serves.as_held.numbers serves.as_held.sound table_same long s below ∙ ap (table_entry q h) n.entry

      stored : stored_sector q now s ≡ bytes_at bytes (q.sector * (s - first)) q.sector
      stored = named_stored s (s - first) n ∙ ap (λ k. bytes_at bytes k q.sector) (mul_comm (s - first) q.sector)

      by_state : (state_at q h (entry_of q first) ≡ 6) ⊎ (state_at q h (entry_of q first) ≡ 7) → layer_sector q now s ≡ Some (bytes_at bytes (q.sector * (s - first)) q.sector)
      by_state (inl six) =
          let e : state_at q now (entry_of q s) ≡ 6 = ap state_of word ∙ six in
          ap (λ k. sector_by_state q k (sector_bit q now s) (stored_sector q now s)) e ∙ by_state-full q (sector_bit q now s) (stored_sector q now s) ∙ ap Some stored
      by_state (inr seven) =
          let e : state_at q now (entry_of q s) ≡ 7 = ap state_of word ∙ seven in
          let g : state_at q h (entry_of q s) ≡ 7 = ap (state_at q h) n.entry ∙ seven in
          let bit : sector_bit q now s ≡ 1 = bit_alike serves.parts h now longer sf.sizes serves.as_held.numbers serves.as_held.sound table_same long s below g ∙ at_run.marked s a b seven in
          ap (λ k. sector_by_state q k (sector_bit q now s) (stored_sector q now s)) e ∙ ap (λ k. sector_by_state q 7 k (stored_sector q now s)) bit ∙ by_state-marked q (stored_sector q now s) ∙ ap Some stored

  beyond : (s : ℕ) → q.sectors ≤ s → is_among first count s ≡ false
  beyond s above = not_true _ (λ t. let w = within first count s t in omega (arith, w, above, disk))

  is_layer : IsLayerOf q now layer_then
  unfolding layer_then
  is_layer = record { on_disk = λ s below. by_name s below (cases_Bool (is_among first count s)); off_disk = λ s above. rw (beyond s above) (serves.as_held.has.off_disk s above) }
    where
      by_name : (s : ℕ) → s < q.sectors → (is_among first count s ≡ true) ⊎ (is_among first count s ≡ false) → layer_then s ≡ layer_sector q now s
      by_name s below (inl t) =
          let w = within first count s t in
          rw t (ap (λ n. Some (bytes_at bytes (n * (s - first)) n)) z_is ∙ sym (named_sector s below w.0 w.1))
      by_name s below (inr off) = rw off (serves.as_held.has.on_disk s below ∙ sym (other_sector s below off))

  held_rest : IsHeld l serves.parts layer_then X
  held_rest = record {
    sizes = serves.as_held.sizes;
    shape = serves.as_held.shape;
    region = serves.as_held.region;
    most = let m = serves.as_held.most in omega (arith, same_long, m);
    pages = tables_then;
    numbers = numbers_then;
    sound = sound_then;
    of_tables = λ k d b i a c. places_stay serves.parts h now longer sf.sizes serves.as_held.numbers serves.as_held.sound table_same long i (serves.only i (serves.changed k d b i a c));
    has = is_layer;
  }

  -- ---- all of it

  wide : ℕ → Bool
  wide s = loose_or_named first count file s

  not_wide : (s : ℕ) → wide s ≡ false → is_among first count s ≡ false
  unfolding wide
  not_wide s k = by_test (file.is_loose s) k
    where
      by_test : (b : Bool) → (b || is_among first count s) ≡ false → is_among first count s ≡ false
      by_test true e = cc
      by_test false e = e

  then : IsSafe serves.parts serves.tables (more l trace file serves first count place from on_disk bytes whole) (λ s. loose_or_named first count file s) file.member.layer serves.bytes X
  then = safe_then l trace file serves first count place from on_disk bytes whole

  clean_then : (s : ℕ) → s < serves.parts.geometry.sectors → loose_or_named first count file s ≡ false → IsClean q (more l trace file serves first count place from on_disk bytes whole) layer_then serves.bytes s
  unfolding layer_then wide
  clean_then s below k =
      let c = then.clean s below k in
      let off = not_wide s k in
      record { same = c.same ∙ rw off refl; unwritten = c.unwritten }

  space_then : HasSpace l serves.parts serves.bytes X
  space_then =
      let sp = serves.space in
      record {
        next = let a = sp.next in omega (arith, a, same_long);
        tight = let a = sp.tight in omega (arith, a, same_long);
        placed = λ k d b. subst (λ n. IsPlaced serves.parts n (area_of (get_or l.space.freed k d))) (sym same_long) (sp.placed k d b);
        freed = λ k d b. record { apart = λ index block held_block. (sp.freed k d b).apart index block (holds_alike serves.parts h now longer sf.sizes serves.as_held.numbers serves.as_held.sound table_same long index block held_block) };
        committed = sp.committed;
      }

  pub serves_then : Serves l (with_change file.number (Write place bytes) trace) (placed_with (λ s. with_bytes l.tables.parts.sector first count bytes file.member.layer s) (λ s. loose_or_named first count file s) file)
  unfolding with_change layer_then
  serves_then =
      let e : with_op (Write place bytes) f ≡ file_of (with_change file.number (Write place bytes) trace) file.number = sym (file_of-with_change file.number (Write place bytes) trace) in
      let least = length serves.bytes in
      let written = more l trace file serves first count place from on_disk bytes whole in
      record {
        within = serves.within;
        number = serves.number;
        name = serves.name;
        parts = serves.parts;
        header = serves.header;
        ties = serves.ties;
        metadata = subst (λ (z : File). file.metadata ≡ metadata_of serves.parts (held l.tables.pending (seen z))) e
            (serves.metadata ∙ sym (metadata_alike serves.parts h now longer sf.sizes serves.as_held.numbers serves.as_held.sound table_same long));
        as_held = subst (λ (z : File). IsHeld l serves.parts layer_then (seen z)) e held_rest;
        bytes = serves.bytes;
        tables = serves.tables;
        written = written;
        running = subst (λ (z : File). IsRunning l.log serves.tables least written z) e (running l trace file serves first count place from on_disk bytes whole);
        committed = subst (λ (z : File). IsCommitted serves.parts written serves.bytes (seen z)) e then.committed;
        covered = serves.covered;
        clean = clean_then;
        covered_held = subst (λ (z : File). Covers serves.parts (held l.tables.pending (seen z)) serves.tables) e (record {
          covers = λ i t. serves.covered_held.covers i (places_alike serves.parts h now longer sf.sizes serves.as_held.numbers serves.as_held.sound table_same long i t);
          beside = λ i t. serves.covered_held.beside i (places_alike serves.parts h now longer sf.sizes serves.as_held.numbers serves.as_held.sound table_same long i t);
        });
        only = subst (λ (z : File). (i : ℕ) → serves.tables i ≡ true → IsTablePlace serves.parts (held l.tables.pending (seen z)) i) e
            (λ i t. places_stay serves.parts h now longer sf.sizes serves.as_held.numbers serves.as_held.sound table_same long i (serves.only i t));
        changed = serves.changed;
        kept = serves.kept;
        can = serves.can;
        beside = subst (λ (z : File). AreBeside serves.parts serves.bytes (held l.tables.pending (seen z))) e
            (λ i j a b ha hb. serves.beside i j a b (holds_alike serves.parts h now longer sf.sizes serves.as_held.numbers serves.as_held.sound table_same long i a ha) hb);
        space = subst (λ (z : File). HasSpace l serves.parts serves.bytes (seen z)) e space_then;
      }

pub whole_of : (l : Layer) (trace : Trace) (file : Placed) (serves : Serves l trace file) (count n : ℕ) → n ≡ l.tables.parts.sector * count → n ≡ count * serves.parts.geometry.sector
whole_of l trace file serves count n e = e ∙ mul_comm l.tables.parts.sector count ∙ ap (λ (s : Shape). count * s.sector) serves.as_held.shape

pub writes_are_served : WritesAreServed
writes_are_served = record {
  images = λ l trace file first count place bytes serves from whole on_disk. images_then l trace file serves first count place from on_disk bytes (whole_of l trace file serves count (length bytes) whole);
  serves = λ l trace file first count place bytes serves from whole on_disk. serves_then l trace file serves first count place from on_disk bytes (whole_of l trace file serves count (length bytes) whole);
}
