-- A block of which a call names all sectors is dropped.
use Rattle.std.proofs.Common.{◌≡◌, ◌≢◌, ℕ, zero, suc, ◌+◌, ◌-◌, ◌*◌, ◌/◌, ◌%◌, ◌^◌, ◌<◌, ◌≤◌, ◌⊎◌, ◌==◌, Bool, true, false, All, List, [], ◌∷◌, ◌++◌, length, Some, refl, sym, ap, subst, ◌∙◌, arith, inl, inr, if◌then◌else◌}
use Rattle.std.specs.Prelude.{nat_lt}
use Rattle.std.proofs.lemmas.Bool.{and_parts, cases_Bool, cases_eq, cases_lt, eqb-true, leb-true, or_cases}
use Rattle.std.proofs.Math.Nat.{add-mul}
use Rattle.std.proofs.lemmas.List.Elements.{All-append}
use Rattle.vx_base.specs.Fields.{u64_bytes, written_over}
use Rattle.std.proofs.lemmas.Nat.{div-add-mod', mod_below}
use Rattle.vhdx_format.proofs.MadeOpen.{block_units}
use Rattle.vhdx_format.specs.AllocationTables.{state_of, unit_of}
use Rattle.vhdx_format.specs.Fields.{megabyte}
use Rattle.vhdx_format.specs.FileParts.{shape_of}
use Rattle.vhdx_format.specs.HeldBlocks.{Area, HoldsBlock, IsPayloadEntry, payload}
use Rattle.vhdx_format.specs.Layers.{HasSizes, Shape, block_of, chunk_ratio_of, entry_of, place_at, state_at, table_entry}
use Rattle.vhdx_format.proofs.LayerLemmas.{entries_apart, sector_entries}
use Rattle.vhdx_format.proofs.SizeLemmas.{block_least, ratio_in_range}
use Rattle.store_model.specs.Disk.{Disk, WhereTold}
use Rattle.store_model.specs.File.{seen}
use Rattle.store_model.specs.Trace.{Trace, file_of}
use Rattle.table_pages.specs.Held.{Adds, AreTables, AreTablesIn, IsSet, KeepsWithin, entry_place, held, held_file}
use Rattle.table_pages.specs.Held as table_words
use Rattle.table_pages.specs.Pages.{page_place}
use Rattle.table_pages.specs.declared.tables.TableParts.{TableParts}
use Rattle.table_pages.specs.declared.tables.Tables.{Tables}
use Rattle.table_pages.proofs.Knowing.{adds_place}
use Rattle.chain_model.specs.Images.{Placed}
use Rattle.layer_session.specs.declared.file.Layer.{Layer}
use Rattle.layer_session.specs.Calls.{is_among, loose_or_named, placed_with, with_zeros}
use Rattle.layer_session.specs.Keeping.{HasSpace, IsHeld, IsNobodys, IsPlaced, IsReady, Serves, area_of}
use Rattle.layer_session.specs.Planning.{is_whole, per_block}
use Rattle.layer_session.specs.Steps.{DropsBlock}
use Rattle.layer_session.proofs.Beside.{among}
use Rattle.layer_session.proofs.BlockRuns.{IsOfSectors, in_blocks, of_sectors, rest_of}
use Rattle.layer_session.proofs.Entered.{EntersInto, held_as_long, layer_by, sizes, some_log}
use Rattle.layer_session.proofs.Leaving.{left_serves, left_space, nobodys_then}
use Rattle.block_alloc.specs.declared.freed.Freed.{Freed}
use Rattle.block_alloc.specs.Spaces.{Space, with_freed}
use Rattle.layer_session.proofs.Alike.{IsInFile, block_in_file}
use Rattle.layer_session.proofs.Apart.{beside_self}
use Rattle.layer_session.proofs.Entries.{apart_of}
use Rattle.layer_session.proofs.Numbers.{are_numbers}
use Rattle.layer_session.proofs.Payload.{within}

-- ---- the sectors of a block

module _ (p : Shape) (h : HasSizes p) (first count : ℕ) (some : 0 < count) (on_disk : first + count ≤ p.sectors) (run : first * p.sector % p.block + count * p.sector ≤ p.block) (whole : is_whole p first count ≡ true) where
  abbrev per : ℕ
  per = per_block p

  w : IsOfSectors p.sector p.block per
  w = of_sectors p h

  -- it begins with the block
  begins : first % per ≡ 0
  begins =
      let zero_rest : first * p.sector % p.block ≡ 0 = eqb-true (first * p.sector % p.block) 0 (and_parts _ _ whole).0 in
      let rows : first % per * p.sector ≡ 0 = sym (rest_of p.sector p.block per w first) ∙ zero_rest in
      by_rest (first % per) rows
    where
      by_rest : (r : ℕ) → r * p.sector ≡ 0 → r ≡ 0
      by_rest zero e = refl
      by_rest (suc n) e = absurd (let s = w.some in let split : suc n * p.sector ≡ n * p.sector + 1 * p.sector = ap (λ k. k * p.sector) (let f : suc n ≡ n + 1 = omega arith in f) ∙ add-mul n 1 p.sector in omega (arith, e, s, split))

  at : (s : ℕ) → block_of p s ≡ s / per
  at s = in_blocks p.sector p.block per w s

  rows : (s : ℕ) → s / per * per + s % per ≡ s
  rows s = div-add-mod' s per

  less : (s : ℕ) → s % per < per
  less s = mod_below s per w.any

  -- no more than a block
  few : count ≤ per
  few = by_place (cases_lt per count)
    where
      by_place : (per < count) ⊎ (count ≤ per) → count ≤ per
      by_place (inr l) = l
      by_place (inl l) =
          let t = count - (per + 1) in
          let split : count * p.sector ≡ (per + 1) * p.sector + t * p.sector = ap (λ n. n * p.sector) (let e : count ≡ per + 1 + t = omega (arith, l) in e) ∙ add-mul (per + 1) t p.sector in
          let one : (per + 1) * p.sector ≡ per * p.sector + 1 * p.sector = add-mul per 1 p.sector in
          let e = w.block_is in
          let s = w.some in
          absurd (omega (arith, run, split, one, e, s))

  -- all of the block, or up to the disk's end
  ends : (first + count ≡ p.sectors) ⊎ (count ≡ per)
  ends = by_test (or_cases (first + count == p.sectors) (first * p.sector % p.block + count * p.sector == p.block) (and_parts _ _ whole).1)
    where
      by_test : ((first + count == p.sectors) ≡ true) ⊎ ((first * p.sector % p.block + count * p.sector == p.block) ≡ true) → (first + count ≡ p.sectors) ⊎ (count ≡ per)
      by_test (inl e) = inl (eqb-true (first + count) p.sectors e)
      by_test (inr e) = inr (by_few (cases_lt count per))
        where
          by_few : (count < per) ⊎ (per ≤ count) → count ≡ per
          by_few (inr l) = omega (arith, l, few)
          by_few (inl l) =
              let f : first * p.sector % p.block + count * p.sector ≡ p.block = eqb-true (first * p.sector % p.block + count * p.sector) p.block e in
              let r : first * p.sector % p.block ≡ 0 = eqb-true (first * p.sector % p.block) 0 (and_parts _ _ whole).0 in
              let t = per - (count + 1) in
              let split : per * p.sector ≡ (count + 1) * p.sector + t * p.sector = ap (λ n. n * p.sector) (let g : per ≡ count + 1 + t = omega (arith, l) in g) ∙ add-mul (count + 1) t p.sector in
              let one : (count + 1) * p.sector ≡ count * p.sector + 1 * p.sector = add-mul count 1 p.sector in
              let b = w.block_is in
              let s = w.some in
              absurd (omega (arith, f, r, split, one, b, s))

  here : first / per * per ≡ first
  here = let x = rows first in let b = begins in omega (arith, x, b)

  same_entry : (s : ℕ) → entry_of p s ≡ entry_of p first → block_of p s ≡ block_of p first
  same_entry s e = (entries_apart (chunk_ratio_of p) (ratio_in_range p.sector p.block h.sector h.block).0).payloads (block_of p s) (block_of p first) e

  pub all_named : (s : ℕ) → s < p.sectors → entry_of p s ≡ entry_of p first → is_among first count s ≡ true
  all_named s below e =
      let b : s / per ≡ first / per = sym (at s) ∙ same_entry s e ∙ at first in
      let r : s / per * per ≡ first / per * per = ap (λ n. n * per) b in
      among first count s (let x = rows s in omega (arith, x, r, here)) (by_end ends r)
    where
      by_end : (first + count ≡ p.sectors) ⊎ (count ≡ per) → s / per * per ≡ first / per * per → s < first + count
      by_end (inl f) r = omega (arith, below, f)
      by_end (inr f) r = let x = rows s in let y = less s in omega (arith, x, y, r, here, f)

  pub named_alone : (s : ℕ) → is_among first count s ≡ true → (s < p.sectors) × (entry_of p s ≡ entry_of p first)
  named_alone s n =
      let v = within first count s n in
      let from = v.0 in
      let to = v.1 in
      let b : s / per ≡ first / per = in_row (cases_lt (s / per) (first / per)) (cases_lt (first / per) (s / per)) from to in
      let blocks : block_of p s ≡ block_of p first = at s ∙ b ∙ sym (at first) in
      (omega (arith, to, on_disk), ap (λ k. k + k / chunk_ratio_of p) blocks)
    where
      up : (a b : ℕ) → a < b → a * per + per ≤ b * per
      up a b l =
          let t = b - (a + 1) in
          let split : b * per ≡ (a + 1) * per + t * per = ap (λ n. n * per) (let e : b ≡ a + 1 + t = omega (arith, l) in e) ∙ add-mul (a + 1) t per in
          let one : (a + 1) * per ≡ a * per + 1 * per = add-mul a 1 per in
          omega (arith, split, one)

      in_row : (s / per < first / per) ⊎ (first / per ≤ s / per) → (first / per < s / per) ⊎ (s / per ≤ first / per) → first ≤ s → s < first + count → s / per ≡ first / per
      in_row (inr l) (inr k) from to = omega (arith, l, k)
      in_row (inl l) x from to = absurd (let u = up (s / per) (first / per) l in let r = rows s in let y = less s in omega (arith, u, r, y, here, from))
      in_row (inr l) (inl k) from to = absurd (let u = up (first / per) (s / per) k in let r = rows s in omega (arith, u, r, here, to, few))

-- ---- the tables with the entry set

pub enters : (l : Layer) (t : Tables) (disk : Disk) (trace : Trace) (file : Placed) (index word : ℕ) → disk.told ≡ Some trace → Serves l trace file → t.parts ≡ l.tables.parts → IsSet index word l.tables t disk → AreTablesIn t disk
    → KeepsWithin l.tables.parts.bat_at (l.tables.parts.bat_at + l.tables.parts.bat_len) l.tables t → EntersInto l trace file t index word
enters l t disk trace file index word told serves parts set tables keeps = record {
  parts_are = parts;
  pages = subst (λ n. AreTables t.parts (seen (file_of trace n)) t.pending t.cache) mine (tables trace told);
  adds = adds_place (page_place (entry_place l.tables.parts index)) set.put.bytes l.tables.pending t.pending set.put.pages;
  held_is = ap (λ n. held t.pending (seen (file_of trace n))) (sym mine) ∙ (set.held trace told ∙ ap (λ n. written_over (held l.tables.pending (seen (file_of trace n))) (entry_place l.tables.parts index) (u64_bytes word)) (sym serves.number));
  keeps = keeps;
}
  where
    mine : t.parts.file ≡ file.number
    mine = ap (λ (p : TableParts). p.file) parts ∙ sym serves.number

-- ---- readiness

-- a layer whose memory alone has changed, and which serves a file still, is ready
pub ready_then : (l : Layer) (t : Tables) (space : Space) (disk : Disk) → IsReady l disk → t.parts ≡ l.tables.parts → space.next ≡ l.space.next
    → ((trace : Trace) → disk.told ≡ Some trace → (file : Placed) → Serves l trace file → (after : Placed) × Serves (layer_by l t space) trace after) → IsReady (layer_by l t space) disk
ready_then l t space disk ready parts next serves = record {
  readable = record {
    there = subst (λ (p : TableParts). p.file < disk.files) (sym parts) ready.readable.there;
    sizes = subst table_words.HasTables (sym parts) ready.readable.sizes;
    told = λ trace told.
        let one = ready.told trace told in
        let two = serves trace told one.0 one.1 in
        (two.1.parts, (two.0.member.layer, subst (λ n. IsHeld (layer_by l t space) two.1.parts two.0.member.layer (seen (file_of trace n))) two.1.number two.1.as_held));
  };
  one_file = ready.one_file ∙ ap (λ (p : TableParts). p.file) (sym parts);
  next = subst (λ n. l.log.len ≤ n * megabyte) (sym next) ready.next;
  most = subst (λ n. n ≤ 2 ^ 44) (sym next) ready.most;
  clear = ready.clear;
  plans = ready.plans;
  told = λ trace told. let one = ready.told trace told in serves trace told one.0 one.1;
}

-- ---- dropping

module _ (l : Layer) (t : Tables) (disk : Disk) (first count index : ℕ) (some : 0 < count) (on_disk : first + count ≤ l.tables.parts.sectors)
    (run : first * l.tables.parts.sector % l.tables.parts.block + count * l.tables.parts.sector ≤ l.tables.parts.block) (whole : WhereTold disk.told (λ trace. is_whole (table_words.shape_of l.tables.parts) first count ≡ true))
    (index_is : index ≡ entry_of (table_words.shape_of l.tables.parts) first) (inside : 8 * index + 8 ≤ l.tables.parts.bat_len) (parts_are : t.parts ≡ l.tables.parts)
    (set : IsSet index 2 l.tables t disk) (tables : AreTablesIn t disk) (keeps : KeepsWithin l.tables.parts.bat_at (l.tables.parts.bat_at + l.tables.parts.bat_len) l.tables t) where
  -- what is asked of the block's sectors, by another name of the same numbers
  record IsNamed (p : Shape) : Type 0 where
    below : first + count ≤ p.sectors
    in_one : first * p.sector % p.block + count * p.sector ≤ p.block
    all : is_whole p first count ≡ true
    at : index ≡ entry_of p first

  module _ (trace : Trace) (told : disk.told ≡ Some trace) (file : Placed) (serves : Serves l trace file) where
    abbrev q : Shape
    q = shape_of serves.parts

    named : IsNamed q
    named = subst IsNamed serves.as_held.shape (record { below = on_disk; in_one = run; all = whole trace told; at = index_is })

    sized : HasSizes q
    sized = record { sector = (sizes l trace file serves).sector; block = (sizes l trace file serves).block }

    below : first < q.sectors
    below = let a = named.below in omega (arith, a, some)

    payload_here : IsPayloadEntry q index
    payload_here = subst (IsPayloadEntry q) (sym named.at) ((sector_entries q sized).payload first below)

    inside_q : 8 * index + 8 ≤ serves.parts.bat_len
    inside_q = let e = serves.as_held.region in omega (arith, inside, e)

    into : EntersInto l trace file t index 2
    into = enters l t disk trace file index 2 told serves parts_are set tables keeps

    all_of : (s : ℕ) → s < q.sectors → entry_of q s ≡ index → is_among first count s ≡ true
    all_of s b e = all_named q sized first count some named.below named.in_one named.all s b (e ∙ named.at)

    alone_of : (s : ℕ) → is_among first count s ≡ true → (s < q.sectors) × (entry_of q s ≡ index)
    alone_of s n = let a = named_alone q sized first count some named.below named.in_one named.all s n in (a.0, a.1 ∙ sym named.at)

    space_then : HasSpace (layer_by l t l.space) serves.parts serves.bytes (seen (file_of trace file.number))
    space_then = left_space l trace file serves t index 2 inside_q (omega arith) into payload_here refl first count all_of alone_of

    pub dropped : Serves (layer_by l t l.space) trace (placed_with (with_zeros l.tables.parts.sector first count file.member.layer) (loose_or_named first count file) file)
    dropped = left_serves l trace file serves t index 2 inside_q (omega arith) into payload_here refl first count all_of alone_of l.space space_then

    -- ---- and its place is kept for later

    module _ (old : ℕ) (old_is : old ≡ table_entry (table_words.shape_of l.tables.parts) (held_file l.tables trace) index) (six : 6 ≤ old % 8) where
      abbrev H : List ℕ
      H = held l.tables.pending (seen (file_of trace file.number))

      old_word : old ≡ table_entry q H index
      old_word = old_is ∙ ap (λ (p : Shape). table_entry p (held_file l.tables trace) index) serves.as_held.shape ∙ ap (λ n. table_entry q (held l.tables.pending (seen (file_of trace n))) index) (sym serves.number)

      abbrev left : Freed
      left = record { at = old / 2 ^ 20; units = q.block / megabyte; committed = false }

      there : (state_at q H index ≡ 6) ⊎ (state_at q H index ≡ 7)
      there = by_state (cases_eq (old % 8) 6)
        where
          by_state : (old % 8 ≡ 6) ⊎ (old % 8 ≢ 6) → (state_at q H index ≡ 6) ⊎ (state_at q H index ≡ 7)
          by_state (inl e) = inl (ap state_of (sym old_word) ∙ e)
          by_state (inr n) = inr (ap state_of (sym old_word) ∙ (let e : old % 8 ≡ 7 = omega (arith, six, n) in e))

      abbrev block : Area
      block = record { at = place_at q H index; len = q.block }

      holds : HoldsBlock q H index block
      holds = payload payload_here there

      units_of : q.block / megabyte * megabyte ≡ q.block
      units_of = block_units q.block sized.block

      area_is : area_of left ≡ block
      area_is = λ i. record { at = ap (λ w. unit_of w * megabyte) old_word i; len = units_of i }

      lies : IsInFile serves.parts H H (omega arith) (sizes l trace file serves) serves.as_held.numbers serves.as_held.sound block
      lies = block_in_file serves.parts H H (omega arith) (sizes l trace file serves) serves.as_held.numbers serves.as_held.sound index block holds

      placed : IsPlaced serves.parts (length (seen (file_of trace file.number))) block
      placed = record {
        low = lies.low;
        within = let a = lies.within in omega (arith, a, held_as_long l trace file serves);
        off_log = apart_of block.at block.len serves.parts.header.log_at serves.parts.header.log_len lies.off_log large (some_log l trace file serves);
        off_table = apart_of block.at block.len serves.parts.bat_at serves.parts.bat_len lies.off_table large (omega (arith, inside_q));
        off_metadata = apart_of block.at block.len serves.parts.meta_at serves.parts.meta_len lies.off_metadata large (let m : megabyte ≤ serves.parts.meta_len = leb-true megabyte serves.parts.meta_len (and_parts _ _ (are_numbers serves.parts.header H serves.parts serves.as_held.numbers).0.metadata.whole_len).1 in omega (arith, m));
      }
        where
          large : 0 < q.block
          large = let b = block_least q.block sized.block in omega (arith, b)

      nobodys : IsNobodys serves.parts (held t.pending (seen (file_of trace file.number))) block
      nobodys =
          nobodys_then l trace file serves t index 2 inside_q (omega arith) into payload_here refl first count all_of alone_of block (λ j other ne h. by_side j other ne (beside_self serves.parts (sizes l trace file serves) H serves.as_held.sound index j block other holds h))
        where
          by_side : (j : ℕ) (other : Area) → j ≢ index → ((index ≡ j) × (block ≡ other)) ⊎ ((block.at + block.len ≤ other.at) ⊎ (other.at + other.len ≤ block.at)) → (block.at + block.len ≤ other.at) ⊎ (other.at + other.len ≤ block.at)
          by_side j other ne (inl e) = absurd (ne (sym e.0))
          by_side j other ne (inr s) = s

      abbrev after : Placed
      after = placed_with (with_zeros l.tables.parts.sector first count file.member.layer) (loose_or_named first count file) file

      pub kept_for_later : Serves (layer_by l t (with_freed (old / 2 ^ 20) (q.block / megabyte) l.space)) trace (placed_with (with_zeros l.tables.parts.sector first count file.member.layer) (loose_or_named first count file) file)
      kept_for_later = by_room (cases_Bool (nat_lt (length l.space.freed) 1024))
        where
          one_more : Serves (layer_by l t (record (l.space) { freed = l.space.freed ++ (left ∷ []) })) trace after
          one_more = left_serves l trace file serves t index 2 inside_q (omega arith) into payload_here refl first count all_of alone_of (record (l.space) { freed = l.space.freed ++ (left ∷ []) }) (record {
            next = space_then.next;
            tight = space_then.tight;
            placed = All-append (λ (f : Freed). IsPlaced serves.parts (length (seen (file_of trace file.number))) (area_of f)) l.space.freed (left ∷ []) space_then.placed
                (only_one (λ (f : Freed). IsPlaced serves.parts (length (seen (file_of trace file.number))) (area_of f)) (subst (IsPlaced serves.parts (length (seen (file_of trace file.number)))) (sym area_is) placed));
            freed = All-append (λ (f : Freed). IsNobodys serves.parts (held t.pending (seen (file_of trace file.number))) (area_of f)) l.space.freed (left ∷ []) space_then.freed
                (only_one (λ (f : Freed). IsNobodys serves.parts (held t.pending (seen (file_of trace file.number))) (area_of f)) (subst (IsNobodys serves.parts (held t.pending (seen (file_of trace file.number)))) (sym area_is) nobodys));
            committed = All-append (λ (f : Freed). f.committed ≡ true → IsNobodys serves.parts serves.bytes (area_of f)) l.space.freed (left ∷ []) space_then.committed
                (only_one (λ (f : Freed). f.committed ≡ true → IsNobodys serves.parts serves.bytes (area_of f)) (λ e. absurd (let wrong : false ≡ true = e in let w : ⊥ = cc in w)));
          })
            where
              only_one : (P : Freed → Type 0) → P left → All P (left ∷ [])
              only_one P h zero d b = h
              only_one P h (suc k) d b = absurd (omega (arith, b))

          by_room : (nat_lt (length l.space.freed) 1024 ≡ true) ⊎ (nat_lt (length l.space.freed) 1024 ≡ false) → Serves (layer_by l t (with_freed (old / 2 ^ 20) (q.block / megabyte) l.space)) trace after
          by_room (inl e) = rw e one_more
          by_room (inr e) = rw e dropped

      -- the same of the layer as the code leaves it
      pub drops_kept : (behind : Layer) (space : Space) (units : ℕ) → behind ≡ layer_by l t l.space → units ≡ l.tables.parts.block / megabyte → space ≡ with_freed (old / 2 ^ 20) units behind.space → Serves (record behind { space = space }) trace after
      drops_kept behind space units only units_are space_is =
          let in_units : units ≡ q.block / megabyte = units_are ∙ ap (λ (p : Shape). p.block / megabyte) serves.as_held.shape in
          let is : space ≡ with_freed (old / 2 ^ 20) (q.block / megabyte) l.space = space_is ∙ (ap (λ (b : Layer). with_freed (old / 2 ^ 20) units b.space) only ∙ ap (λ n. with_freed (old / 2 ^ 20) n l.space) in_units) in
          let all : record behind { space = space } ≡ layer_by l t (with_freed (old / 2 ^ 20) (q.block / megabyte) l.space) = ap (λ (b : Layer). let x : Layer = record b { space = space } in x) only ∙ ap (layer_by l t) is in
          subst (λ (b : Layer). Serves b trace after) (sym all) kept_for_later

  -- ---- of the layer as the code leaves it

  module _ (ready : IsReady l disk) where
    pub drops : (behind : Layer) → behind ≡ layer_by l t l.space → WhereTold disk.told (DropsBlock l behind first count)
    drops behind only = λ trace told file serves.
        subst (λ (b : Layer). Serves b trace (placed_with (with_zeros l.tables.parts.sector first count file.member.layer) (loose_or_named first count file) file)) (sym only)
        (dropped trace told file serves)

    pub drops_ready : (behind : Layer) → behind ≡ layer_by l t l.space → IsReady behind disk
    drops_ready behind only =
        subst (λ (b : Layer). IsReady b disk) (sym only)
        (ready_then l t l.space disk ready parts_are refl (λ trace told file serves.
        (placed_with (with_zeros l.tables.parts.sector first count file.member.layer) (loose_or_named first count file) file, dropped trace told file serves)))

    module _ (old units : ℕ) (six : 6 ≤ old % 8) (found : WhereTold disk.told (λ trace. old ≡ table_entry (table_words.shape_of l.tables.parts) (held_file l.tables trace) index)) (units_are : units ≡ l.tables.parts.block / megabyte) where
      pub drops_place : (behind : Layer) (space : Space) → behind ≡ layer_by l t l.space → space ≡ with_freed (old / 2 ^ 20) units behind.space → WhereTold disk.told (DropsBlock l (record behind { space = space }) first count)
      drops_place behind space only space_is = λ trace told file serves. drops_kept trace told file serves old (found trace told) six behind space units only units_are space_is

      next_same : (at : ℕ) (s : Space) → (with_freed at units s).next ≡ s.next
      next_same at s = by_room (nat_lt (length s.freed) 1024)
        where
          by_room : (b : Bool) → (let x : Space = (if b then record s { freed = s.freed ++ record { at = at; units = units; committed = false } ∷ [] } else s) in x).next ≡ s.next
          by_room true = refl
          by_room false = refl

      pub drops_place_ready : (behind : Layer) (space : Space) → behind ≡ layer_by l t l.space → space ≡ with_freed (old / 2 ^ 20) units behind.space → IsReady (record behind { space = space }) disk
      drops_place_ready behind space only space_is =
          let all : record behind { space = space } ≡ layer_by l t space = ap (λ (b : Layer). let x : Layer = record b { space = space } in x) only in
          let next : space.next ≡ l.space.next = ap (λ (s : Space). s.next) space_is ∙ (next_same (old / 2 ^ 20) behind.space ∙ ap (λ (b : Layer). b.space.next) only) in
          subst (λ (b : Layer). IsReady b disk) (sym all)
          (ready_then l t space disk ready parts_are next (λ trace told file serves. (
            placed_with (with_zeros l.tables.parts.sector first count file.member.layer) (loose_or_named first count file) file,
            subst (λ (b : Layer). Serves b trace (placed_with (with_zeros l.tables.parts.sector first count file.member.layer) (loose_or_named first count file) file)) all (drops_place behind space only space_is trace told file serves),
          )))
