-- A sector bitmap block is made at the file's end.
use Rattle.std.proofs.Common.{◌≡◌, ◌≢◌, ℕ, ◌+◌, ◌-◌, ◌*◌, ◌/◌, ◌^◌, ◌<◌, ◌≤◌, ◌⊎◌, true, List, length, get_or, Option, Some, None, refl, sym, ap, subst, ◌∙◌, arith, inl, inr}
use Rattle.std.specs.Prelude.{Err, Ok, min}
use Rattle.std.proofs.lemmas.List.{ext_get_or, get_or-replicate, get_or_past, length-replicate}
use Rattle.vx_base.proofs.ByteLists.{length-extended}
use Rattle.store_model.proofs.Parts.{length-part}
use Rattle.vx_base.specs.Fields.{bytes_at, extended, zeros}
use Rattle.vhdx_format.specs.AllocationTables.{state_of, unit_of}
use Rattle.vhdx_format.specs.Fields.{megabyte}
use Rattle.vhdx_format.specs.FileParts.{shape_of}
use Rattle.vhdx_format.specs.HeldBlocks.{IsBitmapEntry, IsPayloadEntry}
use Rattle.vhdx_format.specs.Layers.{HasSizes, Shape, bitmap_entry_of, chunk_ratio_of, entry_of, state_at, table_entry}
use Rattle.vhdx_format.proofs.LayerLemmas.{entries_apart, sector_entries}
use Rattle.vhdx_format.proofs.SizeLemmas.{ratio_in_range}
use Rattle.store_model.specs.Disk.{ChangeFailed, Disk, WhereBothTold, WhereTold, changed, told_after}
use Rattle.store_model.specs.Plans.{FailsToChange}
use Rattle.store_model.specs.declared.fault.StoreFault.{StoreFault}
use Rattle.store_model.specs.File.{Grow, seen}
use Rattle.store_model.specs.Trace.{Trace, file_of, with_change}
use Rattle.store_model.proofs.Spans.{file_of-with_change}
use Rattle.log_format.specs.PendingPages.{has_place}
use Rattle.table_pages.specs.Held.{AreClear, AreTables, AreTablesIn, HasTables, IsHeldAlike, IsSet, KeepsWithin, PutsWithin, held, held_file}
use Rattle.table_pages.specs.Held as tables
use Rattle.table_pages.specs.declared.tables.TableParts.{TableParts}
use Rattle.table_pages.specs.declared.tables.Tables.{Tables}
use Rattle.table_pages.proofs.Laying.{part_byte}
use Rattle.table_pages.proofs.Words.{held_long}
use Rattle.block_alloc.specs.Spaces.{Space, grown}
use Rattle.log_write.specs.Sessions.{LogState}
use Rattle.chain_model.specs.Images.{Placed}
use Rattle.layer_session.specs.declared.file.Layer.{Layer}
use Rattle.layer_session.specs.Bringing.{Breaks, HasBrought, HasMade, LeadsTo, SaysAllSame, SaysSameBut}
use Rattle.layer_session.specs.Calls.{HasKept, HoldsRest}
use Rattle.layer_session.specs.Keeping.{IsReadable, IsReady, Serves}
use Rattle.layer_session.proofs.Committing.{ready_from}
use Rattle.layer_session.proofs.Dropping.{enters}
use Rattle.layer_session.proofs.WriteSteps.{grow_broken, grow_moments}
use Rattle.layer_session.specs.TablesRead.{IsTablePage, bitmap as bitmap_page}
use Rattle.layer_session.proofs.Alike.{AreSizes, bitmap_there}
use Rattle.layer_session.proofs.Behind.{behind_unused}
use Rattle.layer_session.proofs.BroughtServed.{brought_same}
use Rattle.layer_session.proofs.Chunks.{chunk_enters, chunk_serves}
use Rattle.layer_session.proofs.Entered.{EntersInto, entered_held, layer_by, long, sizes}
use Rattle.layer_session.proofs.Entries.{bit_beside, bitmap_beside, entry_here, off_table, payload_beside, set_file}
use Rattle.layer_session.proofs.Grown.{grown_byte, grown_bytes, grown_pages, grown_serves, layer_with}
use Rattle.layer_session.specs.Taking.{IsUnused}
use Rattle.layer_session.proofs.Says.{says_alike}

-- ---- its entry is set

module _ (l : Layer) (t : Trace) (file : Placed) (s : Serves l t file) (t2 : Tables) (sector word : ℕ) (below : sector < l.tables.parts.sectors) (parent : l.tables.parts.parent ≡ true) (six : state_of word ≡ 6) (small : word < 2 ^ 64)
    (inside_l : 8 * bitmap_entry_of (tables.shape_of l.tables.parts) sector + 8 ≤ l.tables.parts.bat_len) (unused : IsUnused l t file s (record { at = unit_of word * megabyte; len = megabyte })) (behind : length s.bytes ≤ unit_of word * megabyte)
    (missing : state_at (tables.shape_of l.tables.parts) (held l.tables.pending (seen (file_of t file.number))) (bitmap_entry_of (tables.shape_of l.tables.parts) sector) ≡ 6 → ⊥)
    (into : EntersInto l t file t2 (bitmap_entry_of (tables.shape_of l.tables.parts) sector) word) where
  abbrev p : Shape
  p = tables.shape_of l.tables.parts

  abbrev q : Shape
  q = shape_of s.parts

  e : p ≡ q
  e = s.as_held.shape

  abbrev F : List ℕ
  F = seen (file_of t file.number)

  abbrev H : List ℕ
  H = held l.tables.pending F

  abbrev index : ℕ
  index = bitmap_entry_of p sector

  abbrev sz : AreSizes s.parts
  sz = sizes l t file s

  both : HasSizes q
  both = record { sector = sz.sector; block = sz.block }

  inside : 8 * index + 8 ≤ s.parts.bat_len
  inside = let r = s.as_held.region in omega (arith, inside_l, r)

  at_q : index ≡ bitmap_entry_of q sector
  at_q = ap (λ (x : Shape). bitmap_entry_of x sector) e

  entry : IsBitmapEntry q index
  entry = subst (IsBitmapEntry q) (sym at_q) ((sector_entries q both).bitmap sector (subst (λ (x : Shape). x.parent ≡ true) e parent) (subst (λ (x : Shape). sector < x.sectors) e below))

  absent : state_at q H index ≢ 6
  absent = λ h. missing (subst (λ (x : Shape). state_at x H index ≡ 6) (sym e) h)

  pub entered : Serves (layer_by l t2 l.space) t file
  entered = chunk_serves l t file s t2 index word inside small into entry six unused behind absent

  abbrev new : List ℕ
  new = set_file s.parts sz H s.as_held.numbers s.as_held.sound (long l t file s) index word inside small

  held_new : held t2.pending F ≡ new
  held_new = entered_held l t file s t2 index word inside small into

  kinds : IsPayloadEntry q index → ⊥
  kinds f = (entries_apart (chunk_ratio_of q) (ratio_in_range q.sector q.block sz.sector sz.block).0).kinds f.block entry.chunk (sym f.at_index ∙ entry.at_index)

  other : (r : ℕ) → (r / 2 ^ 23 ≡ sector / 2 ^ 23 → ⊥) → bitmap_entry_of q r ≢ index
  other r ne = λ same. ne ((entries_apart (chunk_ratio_of q) (ratio_in_range q.sector q.block sz.sector sz.block).0).bitmaps (r / 2 ^ 23) (sector / 2 ^ 23) (same ∙ at_q))

  says_q : SaysSameBut q (sector / 2 ^ 23) H new
  unfolding inside
  says_q = record {
    blocks = record {
      entry = λ r b. payload_beside s.parts sz H s.as_held.numbers s.as_held.sound (long l t file s) index word inside small (entry_of q r) (λ same. kinds (subst (IsPayloadEntry q) same ((sector_entries q both).payload r b))) ((sector_entries q both).payload r b);
      bits = λ r b par seven. bit_beside s.parts sz H s.as_held.numbers s.as_held.sound (long l t file s) index word inside small (chunk_enters l t file s t2 index word inside small into entry six unused behind absent).good r b par
          (bitmap_there s.parts H H (omega arith) sz s.as_held.numbers s.as_held.sound r b par seven);
    };
    bitmaps = λ r b par ne. bitmap_beside s.parts sz H s.as_held.numbers s.as_held.sound (long l t file s) index word inside small (bitmap_entry_of q r) (other r ne) ((sector_entries q both).bitmap r par b);
  }

  pub says_entered : SaysSameBut p (sector / 2 ^ 23) H (held t2.pending F)
  says_entered = subst (λ (x : Shape). SaysSameBut x (sector / 2 ^ 23) H (held t2.pending F)) (sym e) (subst (λ z. SaysSameBut q (sector / 2 ^ 23) H z) (sym held_new) says_q)

  pub entry_is : table_entry p (held t2.pending F) index ≡ word
  entry_is =
      ap (λ (x : Shape). table_entry x (held t2.pending F) index) e ∙ (ap (λ z. table_entry q z index) held_new
      ∙ entry_here s.parts sz H s.as_held.numbers s.as_held.sound (long l t file s) index word inside small)

  -- ---- its bytes are zeros

  module _ (behind_zeros : (i : ℕ) → unit_of word * megabyte ≤ i → get_or H i 0 ≡ 0) where
    byte_zero : (i : ℕ) → unit_of word * megabyte ≤ i → i < unit_of word * megabyte + megabyte → get_or (held t2.pending F) i 0 ≡ 0
    byte_zero i a b =
        ap (λ (z : List ℕ). get_or z i 0) held_new
        ∙ (off_table s.parts sz H s.as_held.numbers s.as_held.sound (long l t file s) index word inside small i (by_side unused.placed.off_table) ∙ behind_zeros i a)
      where
        by_side : (unit_of word * megabyte + megabyte ≤ s.parts.bat_at) ⊎ (s.parts.bat_at + s.parts.bat_len ≤ unit_of word * megabyte) → (i < s.parts.bat_at) ⊎ (s.parts.bat_at + s.parts.bat_len ≤ i)
        by_side (inl x) = inl (omega (arith, x, b))
        by_side (inr x) = inr (omega (arith, x, a))

    end : unit_of word * megabyte + megabyte ≤ length F
    end = unused.placed.within

    long_new : length (held t2.pending F) ≡ length F
    long_new = held_long t2.parts F t2.pending t2.cache into.pages

    zeros_long : (n : ℕ) → length (zeros n) ≡ n
    unfolding zeros
    zeros_long n = length-replicate n 0

    zeros_at : (n i : ℕ) → i < n → get_or (zeros n) i 0 ≡ 0
    unfolding zeros
    zeros_at n i h = get_or-replicate n i 0 0 h

    pub clear : (from count : ℕ) → from + count ≤ 256 → AreClear (unit_of word * megabyte) from count (held t2.pending F)
    clear from count room = record { clear = λ k a b. page_clear k (omega (arith, b, room)) }
      where
        page_clear : (k : ℕ) → k < 256 → bytes_at (held t2.pending F) (unit_of word * megabyte + 4096 * k) 4096 ≡ zeros 4096
        page_clear k h =
            let at = unit_of word * megabyte + 4096 * k in
            let X = held t2.pending F in
            let fits : at + 4096 ≤ length X = omega (arith, h, end, long_new) in
            ext_get_or 0 (bytes_at X at 4096) (zeros 4096) (length-part X at 4096 fits ∙ sym (zeros_long 4096))
            (λ i b. let below : i < 4096 = let x = length-part X at 4096 fits in omega (arith, b, x) in part_byte X at 4096 i below ∙ (byte_zero (at + i) (omega arith) (omega (arith, below, h)) ∙ sym (zeros_at 4096 i below)))

    -- so pages of it as zeros are brought as they are held
    pub zeros_brought : (disk : Disk) (t3 : Tables) (from count : ℕ) → from + count ≤ 256 → disk.told ≡ Some t → t3.parts ≡ t2.parts → PutsWithin (unit_of word * megabyte) t2.pending t3.pending → KeepsWithin 0 0 t2 t3
        → ((bytes : List ℕ) → AreTables t2.parts bytes t2.pending t2.cache → unit_of word * megabyte + megabyte ≤ length bytes → AreClear (unit_of word * megabyte) from count (held t2.pending bytes) → IsHeldAlike t2 t3 bytes) → HasBrought t2 t3 disk
    zeros_brought disk t3 from count room told parts within keeps alike = record {
      parts_are = parts;
      tables = λ u h. on u h (λ u. AreTables t3.parts (seen (file_of u t3.parts.file)) t3.pending t3.cache) (subst (λ n. AreTables t3.parts (seen (file_of t n)) t3.pending t3.cache) (mine ∙ sym (ap (λ (x : TableParts). x.file) parts)) so.tables);
      held = λ u h. on u h (λ u. held_file t3 u ≡ held_file t2 u)
          (subst (λ n. held t3.pending (seen (file_of t n)) ≡ held t2.pending (seen (file_of t t2.parts.file))) (sym (ap (λ (x : TableParts). x.file) parts)) (subst (λ n. held t3.pending (seen (file_of t n)) ≡ held t2.pending (seen (file_of t n))) mine so.held));
      keeps = within.keeps;
      puts = λ u h. record { only = λ at x. on u h (λ u. (has_place at t2.pending ≡ true) ⊎ IsTablePage t2.parts (held_file t2 u) at) (by_place at (within.only at x)) };
      cached = λ u h. record { only = λ at aligned x. none_else at (keeps.only at aligned x) };
    }
      where
        on : (u : Trace) → disk.told ≡ Some u → (P : Trace → Type 0) → P t → P u
        on u h P x = subst P (let same : t ≡ u = cc in same) x

        so : IsHeldAlike t2 t3 F
        so = alike F into.pages end (clear from count room)

        mine : file.number ≡ t2.parts.file
        mine = s.number ∙ ap (λ (x : TableParts). x.file) (sym into.parts_are)

        here : (at : ℕ) → unit_of word * megabyte ≤ at → at + 4096 ≤ unit_of word * megabyte + megabyte → IsTablePage l.tables.parts (held t2.pending F) at
        here at a b =
            let is = entry_is in
            bitmap_page index (subst (λ (x : Shape). IsBitmapEntry x index) (sym e) entry) (ap state_of is ∙ six) (subst (λ w. unit_of w * megabyte ≤ at) (sym is) a) (subst (λ w. at + 4096 ≤ unit_of w * megabyte + megabyte) (sym is) b)

        by_place : (at : ℕ) → (has_place at t2.pending ≡ true) ⊎ ((unit_of word * megabyte ≤ at) × (at + 4096 ≤ unit_of word * megabyte + megabyte)) → (has_place at t2.pending ≡ true) ⊎ IsTablePage t2.parts (held_file t2 t) at
        by_place at (inl x) = inl x
        by_place at (inr (a, b)) =
            inr (subst (λ (x : TableParts). IsTablePage x (held_file t2 t) at) (sym into.parts_are) (subst (λ n. IsTablePage l.tables.parts (held t2.pending (seen (file_of t n))) at) mine (here at a b)))

        none_else : {P Q : Type 0} (at : ℕ) → P ⊎ ((0 ≤ at) × (at + 4096 ≤ 0)) → P ⊎ Q
        none_else at (inl x) = inl x
        none_else at (inr (a, b)) = absurd (omega (arith, b))

-- ---- the file grows first

-- what is served, held and said then
pub record IsMadeOf (l l3 : Layer) (t u : Trace) (file : Placed) (sector word : ℕ) : Type 0 where
  pub serves : Serves l3 u file
  pub says : SaysSameBut (tables.shape_of l.tables.parts) (sector / 2 ^ 23) (held l.tables.pending (seen (file_of t file.number))) (held l3.tables.pending (seen (file_of u file.number)))
  pub is : table_entry (tables.shape_of l.tables.parts) (held l3.tables.pending (seen (file_of u file.number))) (bitmap_entry_of (tables.shape_of l.tables.parts) sector) ≡ word

module _ (l : Layer) (t : Trace) (file : Placed) (s : Serves l t file) (len : ℕ) (longer : l.log.len ≤ len) (len_is : len ≡ l.space.next * megabyte + megabyte) (most : len ≤ 2 ^ 63) where
  abbrev l1 : Layer
  l1 = layer_with l (record (l.log) { len = len }) (grown 1 l.space)

  abbrev t1 : Trace
  t1 = with_change file.number (Grow len) t

  abbrev ends : (l.space.next + 1) * megabyte ≡ len
  ends = omega (arith, len_is)

  abbrev pub grown_one : Serves l1 t1 file
  grown_one = grown_serves l t file s len longer most (grown 1 l.space) refl ends

  abbrev F0 : List ℕ
  F0 = seen (file_of t file.number)

  abbrev H0 : List ℕ
  H0 = held l.tables.pending F0

  abbrev H1 : List ℕ
  H1 = held l.tables.pending (seen (file_of t1 file.number))

  file_new : seen (file_of t1 file.number) ≡ extended F0 len
  file_new = ap seen (file_of-with_change file.number (Grow len) t)

  byte_same : (i : ℕ) → get_or H1 i 0 ≡ get_or H0 i 0
  byte_same i = ap (λ (z : List ℕ). get_or (held l.tables.pending z) i 0) file_new ∙ grown_byte l t file s len longer i

  long0 : length H0 ≡ length F0
  long0 = held_long l.tables.parts F0 l.tables.pending l.tables.cache s.as_held.pages

  long1 : length H0 ≤ length H1
  long1 =
      let a : length (held l.tables.pending (extended F0 len)) ≡ length (extended F0 len) = held_long l.tables.parts (extended F0 len) l.tables.pending l.tables.cache (grown_pages l t file s len longer) in
      let b = length-extended F0 len in
      let c : length H1 ≡ length (held l.tables.pending (extended F0 len)) = ap (λ (z : List ℕ). length (held l.tables.pending z)) file_new in
      omega (arith, a, b, c, long0)

  abbrev p0 : Shape
  p0 = tables.shape_of l.tables.parts

  says_grown : SaysAllSame p0 H0 H1
  says_grown =
      subst (λ (x : Shape). SaysAllSame x H0 H1) (sym s.as_held.shape)
      (says_alike s.parts H0 H1 long1 (sizes l t file s) s.as_held.numbers s.as_held.sound (λ i place below. byte_same i) (long l t file s))

  behind_zero : (i : ℕ) → l.space.next * megabyte ≤ i → get_or H1 i 0 ≡ 0
  behind_zero i a = byte_same i ∙ get_or_past H0 i 0 (let n = s.space.next in omega (arith, n, a, long0))

  module _ (t2 : Tables) (sector word : ℕ) (below : sector < l.tables.parts.sectors) (parent : l.tables.parts.parent ≡ true) (six : state_of word ≡ 6) (unit : unit_of word ≡ l.space.next) (small : word < 2 ^ 64)
      (inside : 8 * bitmap_entry_of p0 sector + 8 ≤ l.tables.parts.bat_len) (missing : state_at p0 H0 (bitmap_entry_of p0 sector) ≡ 6 → ⊥) (into : EntersInto l1 t1 file t2 (bitmap_entry_of p0 sector) word) where
    unused : IsUnused l1 t1 file grown_one (record { at = unit_of word * megabyte; len = megabyte })
    unused = behind_unused l t file s len longer most (grown 1 l.space) refl ends (record { at = unit_of word * megabyte; len = megabyte }) (omega (arith, unit)) (omega (arith, unit, len_is))

    behind : length grown_one.bytes ≤ unit_of word * megabyte
    behind = let b : length grown_one.bytes ≡ length s.bytes = ap length (grown_bytes l t file s len longer most (grown 1 l.space) refl ends) in let c = s.committed.long in let n = s.space.next in omega (arith, b, c, n, unit)

    missing_then : state_at p0 H1 (bitmap_entry_of p0 sector) ≡ 6 → ⊥
    missing_then h = missing (ap state_of (sym (says_grown.bitmaps sector below parent)) ∙ h)

    pub chunk_made : Serves (layer_by l1 t2 l1.space) t1 file
    chunk_made = entered l1 t1 file grown_one t2 sector word below parent six small inside unused behind missing_then into

    pub brought_made : (disk : Disk) (t3 : Tables) (from count : ℕ) → from + count ≤ 256 → disk.told ≡ Some t1 → t3.parts ≡ t2.parts → PutsWithin (unit_of word * megabyte) t2.pending t3.pending → KeepsWithin 0 0 t2 t3
        → ((bytes : List ℕ) → AreTables t2.parts bytes t2.pending t2.cache → unit_of word * megabyte + megabyte ≤ length bytes → AreClear (unit_of word * megabyte) from count (held t2.pending bytes) → IsHeldAlike t2 t3 bytes) → HasBrought t2 t3 disk
    brought_made = zeros_brought l1 t1 file grown_one t2 sector word below parent six small inside unused behind missing_then into (λ i a. behind_zero i (omega (arith, a, unit)))

    says_two : SaysSameBut p0 (sector / 2 ^ 23) H0 (held t2.pending (seen (file_of t1 file.number)))
    says_two =
        let two = says_entered l1 t1 file grown_one t2 sector word below parent six small inside unused behind missing_then into in
        let one = says_grown in
        record {
          blocks = record {
            entry = λ r b. two.blocks.entry r b ∙ one.blocks.entry r b;
            bits = λ r b par seven. two.blocks.bits r b par (ap state_of (one.blocks.entry r b) ∙ seven) ∙ one.blocks.bits r b par seven;
          };
          bitmaps = λ r b par ne. two.bitmaps r b par ne ∙ one.bitmaps r b par;
        }

    -- with the pages of zeros brought
    pub made_of : (disk : Disk) (t3 : Tables) → disk.told ≡ Some t1 → HasBrought t2 t3 disk → IsReady (layer_by l1 t2 l1.space) disk → IsMadeOf l (layer_by l1 t3 l1.space) t t1 file sector word
    made_of disk t3 told brings ready =
        let same = brought_same (layer_by l1 t2 l1.space) t3 disk brings ready.readable in
        let h : held t3.pending (seen (file_of t1 file.number)) ≡ held t2.pending (seen (file_of t1 file.number)) =
        subst (λ n. held t3.pending (seen (file_of t1 n)) ≡ held t2.pending (seen (file_of t1 file.number))) mine3 (subst (λ n. held_file t3 t1 ≡ held t2.pending (seen (file_of t1 n))) mine2 (brings.held t1 told)) in
        record {
          serves = same.serves t1 file told chunk_made;
          says = subst (λ z. SaysSameBut p0 (sector / 2 ^ 23) H0 z) (sym h) says_two;
          is = subst (λ z. table_entry p0 z (bitmap_entry_of p0 sector) ≡ word) (sym h) (entry_is l1 t1 file grown_one t2 sector word below parent six small inside unused behind missing_then into);
        }
      where
        mine2 : t2.parts.file ≡ file.number
        mine2 = ap (λ (x : TableParts). x.file) into.parts_are ∙ sym grown_one.number

        mine3 : t3.parts.file ≡ file.number
        mine3 = ap (λ (x : TableParts). x.file) brings.parts_are ∙ mine2

-- ---- of a store

told_back : (n len : ℕ) (o : Option Trace) (u : Trace) → told_after n (Grow len) o ≡ Some u → (t : Trace) × ((o ≡ Some t) × (with_change n (Grow len) t ≡ u))
told_back n len None u h = cc
told_back n len (Some t) u h = (t, (refl, (let e : with_change n (Grow len) t ≡ u = cc in e)))

module _ (l : Layer) (d0 d1 : Disk) (ready : IsReady l d0) (len : ℕ) (longer : l.log.len ≤ len) (len_is : len ≡ l.space.next * megabyte + megabyte) (most : len ≤ 2 ^ 63) (grows : d1 ≡ changed l.log.file (Grow len) d0) where
  abbrev m1 : Layer
  m1 = layer_with l (record (l.log) { len = len }) (grown 1 l.space)

  mine : (t : Trace) (file : Placed) → Serves l t file → file.number ≡ l.log.file
  mine t file s = s.number ∙ sym ready.one_file

  abbrev after : Trace → Trace
  after t = with_change l.log.file (Grow len) t

  told_now : (u : Trace) → d1.told ≡ Some u → (t : Trace) × ((d0.told ≡ Some t) × (after t ≡ u))
  told_now u h = told_back l.log.file len d0.told u (ap (λ (d : Disk). d.told) (sym grows) ∙ h)

  told_after_t : (t : Trace) → d0.told ≡ Some t → d1.told ≡ Some (after t)
  told_after_t t h = ap (λ (d : Disk). d.told) grows ∙ ap (told_after l.log.file (Grow len)) h

  grown_mine : (t : Trace) (file : Placed) → Serves l t file → Serves m1 (after t) file
  grown_mine t file s = subst (λ n. Serves m1 (with_change n (Grow len) t) file) (mine t file s) (grown_one l t file s len longer len_is most)

  files : d1.files ≡ d0.files
  files = ap (λ (d : Disk). d.files) grows

  there : l.tables.parts.file < d1.files
  there = subst (λ n. l.tables.parts.file < n) (sym files) ready.readable.there

  next : len ≤ (l.space.next + 1) * megabyte
  next = omega (arith, len_is)

  most_units : l.space.next + 1 ≤ 2 ^ 44
  most_units = omega (arith, len_is, most)

  pub ready_one : IsReady m1 d1
  ready_one =
      ready_from m1 d1 there ready.readable.sizes ready.one_file next most_units ready.clear ready.plans
      (λ u h. let b = told_now u h in let s = ready.told b.0 b.1.0 in (s.0, subst (λ (x : Trace). Serves m1 x s.0) b.1.1 (grown_mine b.0 s.0 s.1)))

  module _ (t2 : Tables) (sector word : ℕ) (below : sector < l.tables.parts.sectors) (parent : l.tables.parts.parent ≡ true) (six : state_of word ≡ 6) (unit : unit_of word ≡ l.space.next) (small : word < 2 ^ 64)
      (inside : 8 * bitmap_entry_of (tables.shape_of l.tables.parts) sector + 8 ≤ l.tables.parts.bat_len)
      (missing : WhereTold d0.told (λ t. state_at (tables.shape_of l.tables.parts) (held_file l.tables t) (bitmap_entry_of (tables.shape_of l.tables.parts) sector) ≡ 6 → ⊥))
      (parts : t2.parts ≡ l.tables.parts) (set : IsSet (bitmap_entry_of (tables.shape_of l.tables.parts) sector) word l.tables t2 d1) (in_disk : AreTablesIn t2 d1)
      (keeps : KeepsWithin l.tables.parts.bat_at (l.tables.parts.bat_at + l.tables.parts.bat_len) l.tables t2) where
    abbrev at : ℕ
    at = bitmap_entry_of (tables.shape_of l.tables.parts) sector

    abbrev m2 : Layer
    m2 = layer_by m1 t2 m1.space

    lacks : (t : Trace) → d0.told ≡ Some t → (file : Placed) → Serves l t file → state_at (tables.shape_of l.tables.parts) (held l.tables.pending (seen (file_of t file.number))) at ≡ 6 → ⊥
    lacks t h file s = subst (λ n. state_at (tables.shape_of l.tables.parts) (held l.tables.pending (seen (file_of t n))) at ≡ 6 → ⊥) (sym s.number) (missing t h)

    told_own : (t : Trace) → d0.told ≡ Some t → (file : Placed) → Serves l t file → d1.told ≡ Some (with_change file.number (Grow len) t)
    told_own t h file s = subst (λ n. d1.told ≡ Some (with_change n (Grow len) t)) (sym (mine t file s)) (told_after_t t h)

    into : (t : Trace) → d0.told ≡ Some t → (file : Placed) → (s : Serves l t file) → EntersInto m1 (with_change file.number (Grow len) t) file t2 at word
    into t h file s = enters m1 t2 d1 (with_change file.number (Grow len) t) file at word (told_own t h file s) (grown_one l t file s len longer len_is most) parts set in_disk keeps

    chunk_mine : (t : Trace) → d0.told ≡ Some t → (file : Placed) → Serves l t file → Serves m2 (after t) file
    chunk_mine t h file s =
        subst (λ n. Serves m2 (with_change n (Grow len) t) file) (mine t file s) (chunk_made l t file s len longer len_is most t2 sector word below parent six unit small inside (lacks t h file s) (into t h file s))

    ready_two : IsReady m2 d1
    ready_two =
        ready_from m2 d1 (subst (λ (x : TableParts). x.file < d1.files) (sym parts) there) (subst HasTables (sym parts) ready.readable.sizes) (ready.one_file ∙ ap (λ (x : TableParts). x.file) (sym parts)) next most_units ready.clear ready.plans
        (λ u h. let b = told_now u h in let s = ready.told b.0 b.1.0 in (s.0, subst (λ (x : Trace). Serves m2 x s.0) b.1.1 (chunk_mine b.0 b.1.0 s.0 s.1)))

    module _ (t3 : Tables) (from count : ℕ) (room : from + count ≤ 256) (then_parts : t3.parts ≡ t2.parts) (within : PutsWithin (unit_of word * megabyte) t2.pending t3.pending) (then_keeps : KeepsWithin 0 0 t2 t3)
        (alike : (bytes : List ℕ) → AreTables t2.parts bytes t2.pending t2.cache → unit_of word * megabyte + megabyte ≤ length bytes → AreClear (unit_of word * megabyte) from count (held t2.pending bytes) → IsHeldAlike t2 t3 bytes) where
      abbrev m3 : Layer
      m3 = layer_by m1 t3 m1.space

      whole : (u : Trace) → d1.told ≡ Some u → HasBrought t2 t3 d1
      whole u h =
          let b = told_now u h in
          let s = ready.told b.0 b.1.0 in
          brought_made l b.0 s.0 s.1 len longer len_is most t2 sector word below parent six unit small inside (lacks b.0 b.1.0 s.0 s.1) (into b.0 b.1.0 s.0 s.1) d1 t3 from count room (told_own b.0 b.1.0 s.0 s.1) then_parts within then_keeps alike

      brings : HasBrought t2 t3 d1
      brings = record {
        parts_are = then_parts;
        tables = λ u h. (whole u h).tables u h;
        held = λ u h. (whole u h).held u h;
        keeps = within.keeps;
        puts = λ u h. (whole u h).puts u h;
        cached = λ u h. (whole u h).cached u h;
      }

      of_file : (t : Trace) → d0.told ≡ Some t → (file : Placed) → Serves l t file → IsMadeOf l m3 t (after t) file sector word
      of_file t h file s =
          subst (λ n. IsMadeOf l m3 t (with_change n (Grow len) t) file sector word) (mine t file s)
          (made_of l t file s len longer len_is most t2 sector word below parent six unit small inside (lacks t h file s) (into t h file s) d1 t3 (told_own t h file s) brings ready_two)

      ready_three : IsReady m3 d1
      ready_three = (brought_same m2 t3 d1 brings ready_two.readable).ready ready_two

      kept_by : (o : Option Trace) → d0.told ≡ o → WhereBothTold (HasKept l m3) o (told_after l.log.file (Grow len) o)
      kept_by None h = tt
      kept_by (Some t) h = record { serves = λ file s. (of_file t h file s).serves }

      made_by : (o : Option Trace) → d0.told ≡ o → WhereBothTold (HasMade l m3 sector word) o (told_after l.log.file (Grow len) o)
      made_by None h = tt
      made_by (Some t) h =
          let s = ready.told t h in
          let m = of_file t h s.0 s.1 in
          let own : s.0.number ≡ l.tables.parts.file = s.1.number in
          let own3 : s.0.number ≡ t3.parts.file = own ∙ ap (λ (x : TableParts). x.file) (sym (then_parts ∙ parts)) in
          record {
            says = subst (λ n. SaysSameBut (tables.shape_of l.tables.parts) (sector / 2 ^ 23) (held l.tables.pending (seen (file_of t n))) (held_file t3 (after t))) own
                (subst (λ n. SaysSameBut (tables.shape_of l.tables.parts) (sector / 2 ^ 23) (held l.tables.pending (seen (file_of t s.0.number))) (held t3.pending (seen (file_of (after t) n)))) own3 m.says);
            is = subst (λ n. table_entry (tables.shape_of l.tables.parts) (held t3.pending (seen (file_of (after t) n))) at ≡ word) own3 m.is;
          }

      pub making_leads : LeadsTo l m3 d0 d1
      making_leads = record {
        moments = grow_moments l len longer d0 d1 l.log.file ready.one_file (Ok tt) grows tt;
        kept = subst (λ (d : Disk). WhereBothTold (HasKept l m3) d0.told d.told) (sym grows) (kept_by d0.told refl);
        ready = ready_three;
        parts = then_parts ∙ parts;
        leave = refl;
        counts = grows ∙ ap (λ o. let x : Disk = record d0 { told = o } in x) (ap (λ (d : Disk). d.told) (sym grows));
      }

      pub making_made : WhereBothTold (HasMade l m3 sector word) d0.told d1.told
      making_made = subst (λ (d : Disk). WhereBothTold (HasMade l m3 sector word) d0.told d.told) (sym grows) (made_by d0.told refl)

-- ---- the growth failed

-- a layer with another log and space holds what it held
pub making_breaks : (l : Layer) (log : LogState) (space : Space) (d0 d1 : Disk) (fault : StoreFault) → IsReady l d0 → ChangeFailed l.log.file d0 d1 fault
    → Breaks l (layer_with l log space) d0 d1 × FailsToChange l.tables.parts.file d0 d1 fault
making_breaks l log space d0 d1 fault ready fails = (
  record {
    moments = grow_moments l l.log.len (omega arith) d0 d1 l.log.file ready.one_file (Err fault) tt fails;
    readable = (let r = both.0 in record { there = r.there; sizes = r.sizes; told = r.told });
    holds = rest d0.told d1.told both.1;
    parts = refl;
    leave = refl;
  },
  subst (λ k. FailsToChange k d0 d1 fault) ready.one_file
      (record { stays = fails.stays ∙ ap (λ o. let x : Disk = record d0 { told = o; failed_changes = d1.failed_changes } in x) (ap (λ (d : Disk). d.told) (sym fails.stays)); of_file = fails.of_file; count = fails.count }),
)
  where
    both : IsReadable l d1 × WhereBothTold (HoldsRest l l 0 0) d0.told d1.told
    both = grow_broken l d0 d1 l.log.file fault ready fails

    rest : (a b : Option Trace) → WhereBothTold (HoldsRest l l 0 0) a b → WhereBothTold (HoldsRest l (layer_with l log space) 0 0) a b
    rest None None h = tt
    rest None (Some v) h = absurd h
    rest (Some u) None h = absurd h
    rest (Some u) (Some v) h = record { holds = h.holds }

-- ---- as the function goes

module _ (l : Layer) (d0 d1 : Disk) (ready : IsReady l d0) (unit len : ℕ) (unit_is : unit ≡ l.space.next) (low : l.space.next + 1 ≤ 2 ^ 43) (len_min : len ≡ min (unit * megabyte + megabyte) (2 ^ 64 - 1)) (grows : d1 ≡ changed l.log.file (Grow len) d0)
    (log : LogState) (space : Space) (log_is : log ≡ record (l.log) { len = len }) (space_is : space ≡ grown 1 l.space) where
  long_is : len ≡ l.space.next * megabyte + megabyte
  long_is = omega (arith, unit_is, low, len_min)

  at_most : len ≤ 2 ^ 63
  at_most = omega (arith, long_is, low)

  no_less : l.log.len ≤ len
  no_less = let n = ready.next in omega (arith, long_is, n)

  grown_is : layer_with l (record (l.log) { len = len }) (grown 1 l.space) ≡ layer_with l log space
  grown_is = λ i. record { tables = l.tables; log = sym log_is i; space = sym space_is i; leave = l.leave; zeros = l.zeros; plans = l.plans }

  pub grown_ready : IsReady (layer_with l log space) d1
  grown_ready = subst (λ (x : Layer). IsReady x d1) grown_is (ready_one l d0 d1 ready len no_less long_is at_most grows)

  module _ (n : Layer) (only : n ≡ record (layer_with l log space) { tables = n.tables }) (sector word index : ℕ) (below : sector < l.tables.parts.sectors) (parent : l.tables.parts.parent ≡ true) (six : state_of word ≡ 6)
      (unit_of_word : unit_of word ≡ unit) (small : word < 2 ^ 64) (index_is : index ≡ bitmap_entry_of (tables.shape_of l.tables.parts) sector) (inside : 8 * index + 8 ≤ l.tables.parts.bat_len)
      (missing : WhereTold d0.told (λ t. state_at (tables.shape_of l.tables.parts) (held_file l.tables t) (bitmap_entry_of (tables.shape_of l.tables.parts) sector) ≡ 6 → ⊥))
      (parts : n.tables.parts ≡ l.tables.parts) (set : IsSet index word l.tables n.tables d1) (in_disk : AreTablesIn n.tables d1)
      (keeps : KeepsWithin l.tables.parts.bat_at (l.tables.parts.bat_at + l.tables.parts.bat_len) l.tables n.tables)
      (t3 : Tables) (from count : ℕ) (room : from + count ≤ 256) (then_parts : t3.parts ≡ n.tables.parts) (within : PutsWithin (unit_of word * megabyte) n.tables.pending t3.pending) (then_keeps : KeepsWithin 0 0 n.tables t3)
      (alike : (bytes : List ℕ) → AreTables n.tables.parts bytes n.tables.pending n.tables.cache → unit_of word * megabyte + megabyte ≤ length bytes → AreClear (unit_of word * megabyte) from count (held n.tables.pending bytes) → IsHeldAlike n.tables t3 bytes) where
    abbrev done : Layer
    done = record n { tables = t3 }

    done_is : layer_by (layer_with l (record (l.log) { len = len }) (grown 1 l.space)) t3 (grown 1 l.space) ≡ done
    done_is = (λ i. record { tables = t3; log = sym log_is i; space = sym space_is i; leave = l.leave; zeros = l.zeros; plans = l.plans }) ∙ sym (ap (λ (x : Layer). let y : Layer = record x { tables = t3 } in y) only)

    set_here : IsSet (bitmap_entry_of (tables.shape_of l.tables.parts) sector) word l.tables n.tables d1
    set_here = subst (λ k. IsSet k word l.tables n.tables d1) index_is set

    inside_here : 8 * bitmap_entry_of (tables.shape_of l.tables.parts) sector + 8 ≤ l.tables.parts.bat_len
    inside_here = subst (λ k. 8 * k + 8 ≤ l.tables.parts.bat_len) index_is inside

    pub done_leads : LeadsTo l done d0 d1
    done_leads =
        subst (λ (x : Layer). LeadsTo l x d0 d1) done_is
        (making_leads l d0 d1 ready len no_less long_is at_most grows n.tables sector word below parent six (unit_of_word ∙ unit_is) small inside_here missing parts set_here in_disk keeps t3 from count room then_parts within then_keeps alike)

    pub done_made : WhereBothTold (HasMade l done sector word) d0.told d1.told
    done_made =
        subst (λ (x : Layer). WhereBothTold (HasMade l x sector word) d0.told d1.told) done_is
        (making_made l d0 d1 ready len no_less long_is at_most grows n.tables sector word below parent six (unit_of_word ∙ unit_is) small inside_here missing parts set_here in_disk keeps t3 from count room then_parts within then_keeps alike)
