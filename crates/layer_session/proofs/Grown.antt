-- What a layer serves after a change of the file that no sector sees: the file grew, or a place that is nobody's was written.
use Rattle.std.proofs.Common.{◌≡◌, ℕ, ◌+◌, ◌*◌, ◌^◌, ◌<◌, ◌≤◌, ◌⊎◌, Bool, true, false, All, List, length, map, get_or, refl, sym, ap, subst, ◌∙◌, arith, inl, inr}
use Rattle.vx_base.specs.Fields.{extended, written_over}
use Rattle.vhdx_format.specs.Fields.{megabyte}
use Rattle.vhdx_format.specs.FileParts.{shape_of}
use Rattle.vhdx_format.specs.HeldBlocks.{Area, HoldsBlock, bitmap}
use Rattle.vhdx_format.specs.Layers.{Shape, place_at}
use Rattle.vhdx_format.specs.SettledFiles.{byte_after}
use Rattle.vhdx_format.specs.WrittenEntries.{page_update}
use Rattle.vhdx_format.proofs.SettledBytes.{get_or-extended, get_or-with_updates}
use Rattle.std.proofs.lemmas.Bool.{cases_lt}
use Rattle.vx_base.proofs.ByteLists.{length-overwritten, length-extended}
use Rattle.vhdx_format.specs.HeldBlocks.{IsPayloadEntry, payload}
use Rattle.vhdx_format.specs.Layers.{entry_of}
use Rattle.vhdx_format.proofs.LayerLemmas.{sector_entries}
use Rattle.store_model.specs.File.{File, Grow, Write, seen, with_op}
use Rattle.store_model.specs.Trace.{Trace, file_of, with_change}
use Rattle.store_model.proofs.Spans.{file_of-with_change}
use Rattle.table_pages.specs.Held.{AreTables, held}
use Rattle.table_pages.proofs.Changing.{held_beside_writes, stand_beside_writes}
use Rattle.table_pages.proofs.Laying.{over_out, part_same}
use Rattle.table_pages.proofs.Words.{held_long}
use Rattle.log_write.specs.Sessions.{IsRunning, LogState}
use Rattle.log_write.specs.Writing.{CanCommit}
use Rattle.log_write.proofs.Running.{file_grown, payload_written}
use Rattle.block_alloc.specs.declared.freed.Freed.{Freed}
use Rattle.block_alloc.specs.Spaces.{Space}
use Rattle.chain_model.specs.Images.{Placed, name_of}
use Rattle.layer_session.specs.declared.file.Layer.{Layer}
use Rattle.layer_session.specs.Keeping.{Covers, HasSpace, IsClean, IsCommitted, IsNobodys, IsPlaced, IsTablePlace, Serves, StandsAt, area_of, bitmap as bitmap_place, entries, metadata, regions}
use Rattle.layer_session.proofs.Alike.{block_in_file, holds_alike, layer_alike, metadata_alike, numbers_alike, places_alike, places_stay, sound_alike}
use Rattle.layer_session.proofs.Allocating.{may_take, more, off_tables, safe_grown, safe_taken}
use Rattle.layer_session.proofs.Sectors.{in_block}
use Rattle.layer_session.proofs.Crashes.{IsSafe, safe_of}
use Rattle.layer_session.proofs.Numbers.{are_numbers, part_alike}

-- the layer with another log and another space
abbrev pub layer_with : Layer → LogState → Space → Layer
layer_with l log space = record l { log = log; space = space }

-- what is known of such a change
pub record LeavesHeld (l : Layer) (trace : Trace) (file : Placed) (serves : Serves l trace file) (log : LogState) (space : Space) (written : ℕ → Bool) (after : File) : Type 0 where
  pub header : log.header ≡ l.log.header
  pub most : length (seen after) ≤ 2 ^ 63
  pub pages : AreTables l.tables.parts (seen after) l.tables.pending l.tables.cache
  pub longer : length (held l.tables.pending (seen (file_of trace file.number))) ≤ length (held l.tables.pending (seen after))
  pub tables : (i : ℕ) → IsTablePlace serves.parts (held l.tables.pending (seen (file_of trace file.number))) i → get_or (held l.tables.pending (seen after)) i 0 ≡ get_or (held l.tables.pending (seen (file_of trace file.number))) i 0
  pub sectors : (s i : ℕ) → s < serves.parts.geometry.sectors → StandsAt (shape_of serves.parts) (held l.tables.pending (seen (file_of trace file.number))) s i
      → get_or (held l.tables.pending (seen after)) i 0 ≡ get_or (held l.tables.pending (seen (file_of trace file.number))) i 0
  pub running : IsRunning log serves.tables (length serves.bytes) written after
  pub committed : IsCommitted serves.parts written serves.bytes (seen after)
  pub clean : (s : ℕ) → s < serves.parts.geometry.sectors → file.is_loose s ≡ false → IsClean (shape_of serves.parts) written file.member.layer serves.bytes s
  pub can : All (CanCommit log) l.tables.pending
  pub next : length (seen after) ≤ space.next * megabyte
  pub tight : space.next * megabyte < length (seen after) + megabyte
  pub placed : All (λ (f : Freed). IsPlaced serves.parts (length (seen after)) (area_of f)) space.freed
  pub freed : All (λ (f : Freed). IsNobodys serves.parts (held l.tables.pending (seen (file_of trace file.number))) (area_of f)) space.freed
  pub free : All (λ (f : Freed). f.committed ≡ true → IsNobodys serves.parts serves.bytes (area_of f)) space.freed

module _ (l : Layer) (trace new : Trace) (file : Placed) (serves : Serves l trace file) (log : LogState) (space : Space) (written : ℕ → Bool) (attached : new.attached ≡ trace.attached)
    (leaves : LeavesHeld l trace file serves log space written (file_of new file.number)) where
  abbrev h : List ℕ
  h = held l.tables.pending (seen (file_of trace file.number))

  abbrev X : List ℕ
  X = seen (file_of new file.number)

  abbrev now : List ℕ
  now = held l.tables.pending X

  abbrev q : Shape
  q = shape_of serves.parts

  sf : IsSafe serves.parts serves.tables serves.written file.is_loose file.member.layer serves.bytes (seen (file_of trace file.number))
  sf = safe_of l trace file serves

  table_same : (i : ℕ) → IsTablePlace serves.parts h i → i < length h → get_or now i 0 ≡ get_or h i 0
  table_same i t below = leaves.tables i t

  long : 327680 ≤ length h
  long =
      let a = sf.long in
      let b = serves.committed.long in
      let c : length h ≡ length (seen (file_of trace file.number)) = held_long l.tables.parts (seen (file_of trace file.number)) l.tables.pending l.tables.cache serves.as_held.pages in
      omega (arith, a, b, c)

  covers_then : Covers serves.parts now serves.tables
  covers_then = record {
    covers = λ i t. serves.covered_held.covers i (places_alike serves.parts h now leaves.longer sf.sizes serves.as_held.numbers serves.as_held.sound table_same long i t);
    beside = λ i t. serves.covered_held.beside i (places_alike serves.parts h now leaves.longer sf.sizes serves.as_held.numbers serves.as_held.sound table_same long i t);
  }

  back : (index : ℕ) (a : Area) → HoldsBlock q now index a → HoldsBlock q h index a
  back index a = holds_alike serves.parts h now leaves.longer sf.sizes serves.as_held.numbers serves.as_held.sound table_same long index a

  pub kept_serves : Serves (layer_with l log space) new file
  kept_serves = record {
    within = subst (λ z. file.number < length z) (sym attached) serves.within;
    number = serves.number;
    name = subst (λ z. name_of z file.number ≡ file.member.name) (sym attached) serves.name;
    parts = serves.parts;
    header = serves.header ∙ sym leaves.header;
    ties = serves.ties;
    metadata = serves.metadata ∙ sym (metadata_alike serves.parts h now leaves.longer sf.sizes serves.as_held.numbers serves.as_held.sound table_same long);
    as_held = record {
      sizes = serves.as_held.sizes;
      shape = serves.as_held.shape;
      region = serves.as_held.region;
      most = leaves.most;
      pages = leaves.pages;
      numbers = numbers_alike serves.parts h now leaves.longer sf.sizes serves.as_held.numbers serves.as_held.sound table_same long;
      sound = sound_alike serves.parts h now leaves.longer sf.sizes serves.as_held.numbers serves.as_held.sound table_same long;
      of_tables = λ k d b i a c. places_stay serves.parts h now leaves.longer sf.sizes serves.as_held.numbers serves.as_held.sound table_same long i (serves.only i (serves.changed k d b i a c));
      has = record {
        on_disk = λ s below. serves.as_held.has.on_disk s below
            ∙ sym (layer_alike serves.parts h now leaves.longer sf.sizes serves.as_held.numbers serves.as_held.sound table_same long s below (λ i st. leaves.sectors s i below st));
        off_disk = serves.as_held.has.off_disk;
      };
    };
    bytes = serves.bytes;
    tables = serves.tables;
    written = written;
    running = leaves.running;
    committed = leaves.committed;
    covered = serves.covered;
    clean = leaves.clean;
    covered_held = covers_then;
    only = λ i t. places_stay serves.parts h now leaves.longer sf.sizes serves.as_held.numbers serves.as_held.sound table_same long i (serves.only i t);
    changed = serves.changed;
    kept = serves.kept;
    can = leaves.can;
    beside = λ i j a b ha hb. serves.beside i j a b (back i a ha) hb;
    space = record {
      next = leaves.next;
      tight = leaves.tight;
      placed = leaves.placed;
      freed = λ k d b. record { apart = λ index block e. (leaves.freed k d b).apart index block (back index block e) };
      committed = leaves.free;
    };
  }

-- ---- growth

module _ (l : Layer) (trace : Trace) (file : Placed) (serves : Serves l trace file) (len : ℕ) (longer : l.log.len ≤ len) where
  abbrev old : List ℕ
  old = seen (file_of trace file.number)

  pub table_within : (i : ℕ) → IsTablePlace serves.parts (held l.tables.pending old) i → i < length old
  table_within i t = by_kind t
    where
      sf : IsSafe serves.parts serves.tables serves.written file.is_loose file.member.layer serves.bytes old
      sf = safe_of l trace file serves

      long_held : length (held l.tables.pending old) ≡ length old
      long_held = held_long l.tables.parts old l.tables.pending l.tables.cache serves.as_held.pages

      by_kind : IsTablePlace serves.parts (held l.tables.pending old) i → i < length old
      by_kind (regions a b) = let x = sf.long in let y = serves.committed.long in omega (arith, x, y, b)
      by_kind (entries a b) =
          let n = (are_numbers serves.parts.header (held l.tables.pending old) serves.parts serves.as_held.numbers).0 in
          let w = n.table.within in
          omega (arith, w, b, long_held)
      by_kind (metadata a b) =
          let n = (are_numbers serves.parts.header (held l.tables.pending old) serves.parts serves.as_held.numbers).0 in
          let w = n.metadata.within in
          omega (arith, w, b, long_held)
      by_kind (bitmap_place index be six a b) =
          let f = block_in_file serves.parts (held l.tables.pending old) (held l.tables.pending old) (omega arith) sf.sizes serves.as_held.numbers serves.as_held.sound index (record { at = place_at (shape_of serves.parts) (held l.tables.pending old) index; len = megabyte }) (bitmap be six) in
          let w = f.within in
          omega (arith, w, b, long_held)

  pub grown_pages : AreTables l.tables.parts (extended old len) l.tables.pending l.tables.cache
  grown_pages =
      stand_beside_writes l.tables.parts old (extended old len) l.tables.pending l.tables.cache serves.as_held.pages (omega (arith, length-extended old len))
      (λ at a k.
      let last = table_within (at + 4095) (serves.only (at + 4095) (serves.kept at (at + 4095) a k (omega arith) (omega arith))) in
      part_alike old (extended old len) at 4096 (omega (arith, last)) (omega (arith, length-extended old len)) (λ i b c. get_or-extended len old i))

  pub grown_byte : (i : ℕ) → get_or (held l.tables.pending (extended old len)) i 0 ≡ get_or (held l.tables.pending old) i 0
  unfolding held
  grown_byte i =
      get_or-with_updates (map page_update l.tables.pending) (extended old len) i ∙ ap (byte_after (map page_update l.tables.pending) i) (get_or-extended len old i)
      ∙ sym (get_or-with_updates (map page_update l.tables.pending) old i)

  -- The file grew to the unit behind which the next block goes.
  pub grown_serves : len ≤ 2 ^ 63 → (space : Space) → space.freed ≡ l.space.freed → space.next * megabyte ≡ len → Serves (layer_with l (record (l.log) { len = len }) space) (with_change file.number (Grow len) trace) file
  unfolding with_change
  grown_serves most space freed next = kept_serves l trace (with_change file.number (Grow len) trace) file serves (record (l.log) { len = len }) space serves.written refl
      (subst (LeavesHeld l trace file serves (record (l.log) { len = len }) space serves.written) (sym (file_of-with_change file.number (Grow len) trace)) leaves)
    where
      sp : HasSpace l serves.parts serves.bytes old
      sp = serves.space

      grown_len : length (extended old len) ≡ len
      grown_len = let e = length-extended old len in let a = serves.running.state.long in omega (arith, e, a, longer)

      long_old : length (held l.tables.pending old) ≡ length old
      long_old = held_long l.tables.parts old l.tables.pending l.tables.cache serves.as_held.pages

      long_new : length (held l.tables.pending (extended old len)) ≡ length (extended old len)
      long_new = held_long l.tables.parts (extended old len) l.tables.pending l.tables.cache grown_pages

      leaves : LeavesHeld l trace file serves (record (l.log) { len = len }) space serves.written (with_op (Grow len) (file_of trace file.number))
      leaves = record {
        header = refl;
        most = omega (arith, grown_len, most);
        pages = grown_pages;
        longer = omega (arith, long_old, long_new, length-extended old len);
        tables = λ i t. grown_byte i;
        sectors = λ s i below st. grown_byte i;
        running = file_grown l.log serves.tables (length serves.bytes) serves.written (file_of trace file.number) len serves.running longer;
        committed = (safe_grown l trace file serves len).committed;
        clean = serves.clean;
        can = λ k d b. record { may = (serves.can k d b).may; within = let w = (serves.can k d b).within in omega (arith, w, longer) };
        next = omega (arith, grown_len, next);
        tight = omega (arith, grown_len, next);
        placed = subst (λ z. All (λ (f : Freed). IsPlaced serves.parts (length (extended old len)) (area_of f)) z) (sym freed)
            (λ k d b. let p = sp.placed k d b in
            record { low = p.low; within = let w = p.within in omega (arith, w, length-extended old len); off_log = p.off_log; off_table = p.off_table; off_metadata = p.off_metadata });
        freed = subst (λ z. All (λ (f : Freed). IsNobodys serves.parts (held l.tables.pending old) (area_of f)) z) (sym freed) sp.freed;
        free = subst (λ z. All (λ (f : Freed). f.committed ≡ true → IsNobodys serves.parts serves.bytes (area_of f)) z) (sym freed) sp.committed;
      }

  -- what was committed, and the file's numbers, are then the same
  pub grown_parts : (most : len ≤ 2 ^ 63) (space : Space) (freed : space.freed ≡ l.space.freed) (next : space.next * megabyte ≡ len) → (grown_serves most space freed next).parts ≡ serves.parts
  unfolding grown_serves kept_serves
  grown_parts most space freed next = refl

  pub grown_bytes : (most : len ≤ 2 ^ 63) (space : Space) (freed : space.freed ≡ l.space.freed) (next : space.next * megabyte ≡ len) → (grown_serves most space freed next).bytes ≡ serves.bytes
  unfolding grown_serves kept_serves
  grown_bytes most space freed next = refl

-- ---- a place that is nobody's

module _ (l : Layer) (trace : Trace) (file : Placed) (serves : Serves l trace file) (place : ℕ) (bytes : List ℕ) (some : 0 < length bytes)
    (free : IsPlaced serves.parts (length (seen (file_of trace file.number))) (record { at = place; len = length bytes }))
    (unused : IsNobodys serves.parts serves.bytes (record { at = place; len = length bytes }))
    (unheld : IsNobodys serves.parts (held l.tables.pending (seen (file_of trace file.number))) (record { at = place; len = length bytes })) where
  abbrev was : List ℕ
  was = seen (file_of trace file.number)

  abbrev h_was : List ℕ
  h_was = held l.tables.pending was

  abbrev p_of : Shape
  p_of = shape_of serves.parts

  sizes_of : IsSafe serves.parts serves.tables serves.written file.is_loose file.member.layer serves.bytes was
  sizes_of = safe_of l trace file serves

  fits : place + length bytes ≤ length was
  fits = free.within

  side : (i : ℕ) → (place ≤ i → i < place + length bytes → ⊥) → (i < place) ⊎ (place + length bytes ≤ i)
  side i none = by_side (cases_lt i place) (cases_lt i (place + length bytes))
    where
      by_side : (i < place) ⊎ (place ≤ i) → (i < place + length bytes) ⊎ (place + length bytes ≤ i) → (i < place) ⊎ (place + length bytes ≤ i)
      by_side (inl x) any = inl x
      by_side (inr x) (inr y) = inr y
      by_side (inr x) (inl y) = absurd (none x y)

  pub clear : (i : ℕ) → IsTablePlace serves.parts h_was i → place ≤ i → i < place + length bytes → ⊥
  clear i t a b = off_tables l trace file serves place bytes free unused unheld i a b t

  page_side : (at : ℕ) → ((i : ℕ) → at ≤ i → i < at + 4096 → serves.tables i ≡ true) → (place + length bytes ≤ at) ⊎ (at + 4096 ≤ place)
  page_side at of = by_side (cases_lt at (place + length bytes)) (cases_lt place (at + 4096)) (cases_lt place at)
    where
      by_side : (at < place + length bytes) ⊎ (place + length bytes ≤ at) → (place < at + 4096) ⊎ (at + 4096 ≤ place) → (place < at) ⊎ (at ≤ place) → (place + length bytes ≤ at) ⊎ (at + 4096 ≤ place)
      by_side (inr a) any other = inl a
      by_side (inl a) (inr b) other = inr b
      by_side (inl a) (inl b) (inl c) = absurd (clear at (serves.only at (of at (omega arith) (omega arith))) (omega arith) a)
      by_side (inl a) (inl b) (inr c) = absurd (clear place (serves.only place (of place c b)) (omega arith) (omega (arith, some)))

  same_len : length (written_over was place bytes) ≡ length was
  same_len = length-overwritten was bytes place fits

  pub taken_pages : AreTables l.tables.parts (written_over was place bytes) l.tables.pending l.tables.cache
  taken_pages =
      stand_beside_writes l.tables.parts was (written_over was place bytes) l.tables.pending l.tables.cache serves.as_held.pages (omega (arith, same_len))
      (λ at a k. part_same (written_over was place bytes) was at 4096 same_len
      (λ i b. over_out was bytes place (at + i) fits (side (at + i) (clear (at + i) (serves.only (at + i) (serves.kept at (at + i) a k (omega arith) (omega (arith, b))))))))

  pub taken_held : held l.tables.pending (written_over was place bytes) ≡ written_over h_was place bytes
  taken_held = (held_beside_writes l.tables.parts was l.tables.pending l.tables.cache place bytes serves.as_held.pages fits (λ k d b. page_side _ (serves.changed k d b))).write

  long_was : length h_was ≡ length was
  long_was = held_long l.tables.parts was l.tables.pending l.tables.cache serves.as_held.pages

  pub taken_byte : (i : ℕ) → (place ≤ i → i < place + length bytes → ⊥) → get_or (held l.tables.pending (written_over was place bytes)) i 0 ≡ get_or h_was i 0
  taken_byte i none = ap (λ (z : List ℕ). get_or z i 0) taken_held ∙ over_out h_was bytes place i (omega (arith, fits, long_was)) (side i none)

  off_held : (s i : ℕ) → s < p_of.sectors → StandsAt p_of h_was s i → place ≤ i → i < place + length bytes → ⊥
  off_held s i below st a b = by_side (unheld.apart (entry_of p_of s) (record { at = place_at p_of h_was (entry_of p_of s); len = p_of.block }) (payload e st.there))
    where
      e : IsPayloadEntry p_of (entry_of p_of s)
      e = (sector_entries p_of (record { sector = sizes_of.sizes.sector; block = sizes_of.sizes.block })).payload s below

      by_side : (place + length bytes ≤ place_at p_of h_was (entry_of p_of s)) ⊎ (place_at p_of h_was (entry_of p_of s) + p_of.block ≤ place) → ⊥
      by_side (inl x) = let f = st.from in omega (arith, x, b, f)
      by_side (inr x) = let t = st.to in let w = in_block s p_of.sector p_of.block sizes_of.sizes.sector sizes_of.sizes.block in omega (arith, x, a, t, w)

  -- It was made zeros, or anything else.
  pub taken_serves : Serves l (with_change file.number (Write place bytes) trace) file
  unfolding with_change
  taken_serves = kept_serves l trace (with_change file.number (Write place bytes) trace) file serves l.log l.space written refl
      (subst (LeavesHeld l trace file serves l.log l.space written) (sym (file_of-with_change file.number (Write place bytes) trace)) leaves)
    where
      written : ℕ → Bool
      written = more l trace file serves place bytes free unused unheld

      then : IsSafe serves.parts serves.tables written file.is_loose file.member.layer serves.bytes (written_over was place bytes)
      then = safe_taken l trace file serves place bytes free unused unheld

      sp : HasSpace l serves.parts serves.bytes was
      sp = serves.space

      leaves : LeavesHeld l trace file serves l.log l.space written (with_op (Write place bytes) (file_of trace file.number))
      leaves = record {
        header = refl;
        most = let e = length-overwritten was bytes place fits in let m = serves.as_held.most in omega (arith, e, m);
        pages = taken_pages;
        longer = omega (arith, ap length taken_held, length-overwritten h_was bytes place (omega (arith, fits, long_was)));
        tables = λ i t. taken_byte i (clear i t);
        sectors = λ s i below st. taken_byte i (off_held s i below st);
        running = payload_written l.log serves.tables (length serves.bytes) serves.written written (file_of trace file.number) place bytes serves.running (may_take l trace file serves place bytes free unused unheld);
        committed = then.committed;
        clean = then.clean;
        can = serves.can;
        next = let a = sp.next in omega (arith, a, same_len);
        tight = let a = sp.tight in omega (arith, a, same_len);
        placed = λ k d b. subst (λ n. IsPlaced serves.parts n (area_of (get_or l.space.freed k d))) (sym same_len) (sp.placed k d b);
        freed = sp.freed;
        free = sp.committed;
      }

  -- what was committed, and the file's numbers, are then the same
  pub taken_parts : taken_serves.parts ≡ serves.parts
  unfolding taken_serves kept_serves
  taken_parts = refl

  pub taken_bytes : taken_serves.bytes ≡ serves.bytes
  unfolding taken_serves kept_serves
  taken_bytes = refl
