-- A block that the file doesn't have is made in part.
use Rattle.std.proofs.Common.{◌≡◌, ◌≢◌, ℕ, ◌+◌, ◌-◌, ◌*◌, ◌/◌, ◌%◌, ◌^◌, ◌<◌, ◌≤◌, true, false, length, Some, refl, sym, ap, subst, ◌∙◌, arith, inr}
use Rattle.std.proofs.Math.Nat.{add-mul, mul-div_cancel}
use Rattle.std.proofs.lemmas.Nat.{div-add-mod', div-mul-add, mod_below}
use Rattle.vx_base.specs.Fields.{zeros}
use Rattle.vhdx_format.specs.AllocationTables.{bitmap_index_of, state_of, unit_of}
use Rattle.vhdx_format.specs.Fields.{megabyte}
use Rattle.vhdx_format.specs.Layers.{HasSizes, Shape, bitmap_entry_of, block_of, chunk_ratio_of, entry_of, place_at, sector_bit, state_at, table_entry}
use Rattle.vhdx_format.proofs.LayerLemmas.{entries_apart, same_chunk}
use Rattle.vhdx_format.proofs.SizeLemmas.{ratio_in_range}
use Rattle.store_model.specs.Disk.{Disk, WhereBothTold, WhereTold}
use Rattle.store_model.specs.Trace.{Trace}
use Rattle.table_pages.specs.Held.{shape_of}
use Rattle.table_pages.specs.declared.tables.TableParts.{TableParts}
use Rattle.chain_model.specs.Images.{Placed}
use Rattle.layer_session.specs.declared.file.Layer.{Layer}
use Rattle.layer_session.specs.declared.file.LayerFault.{LayerFault}
use Rattle.layer_session.specs.Calls.{Fails, HoldsRest, KeepsOver, is_among, loose_or_named, placed_with}
use Rattle.layer_session.specs.Keeping.{IsReady, IsRunAt, Serves}
use Rattle.layer_session.specs.Planning.{per_block}
use Rattle.layer_session.specs.Steps.{IsMade, held_by}
use Rattle.layer_session.specs.Taking.{HasMade, IsAbsent, IsBroken, KeepsOthers, MayBeMade, in_part}
use Rattle.layer_session.proofs.Alike.{not_true}
use Rattle.layer_session.proofs.Beside.{among}
use Rattle.layer_session.proofs.BlockRuns.{IsOfSectors, in_blocks, of_sectors, rest_of}
use Rattle.layer_session.proofs.Going.{ready_next}
use Rattle.layer_session.proofs.Marks.{Marks, marks_bitmap, marks_bits, marks_others, marks_same, marks_serves, marks_state}
use Rattle.layer_session.proofs.Payload.{within}
use Rattle.layer_session.proofs.Places.{in_run}
use Rattle.layer_session.proofs.Resting.{others_then}
use Rattle.layer_session.proofs.Told.{both_map, both_self}

-- ---- the sectors of a block

module _ (p : Shape) (h : HasSizes p) where
  w : IsOfSectors p.sector p.block (per_block p)
  w = of_sectors p h

  pub same_block : (s i : ℕ) → entry_of p s ≡ entry_of p i → block_of p s ≡ block_of p i
  same_block s i e = (entries_apart (chunk_ratio_of p) (ratio_in_range p.sector p.block h.sector h.block).0).payloads (block_of p s) (block_of p i) e

  -- they have one sector bitmap block
  pub one_bitmap : (s i : ℕ) → entry_of p s ≡ entry_of p i → bitmap_entry_of p s ≡ bitmap_entry_of p i
  one_bitmap s i e =
      let chunks : s / 2 ^ 23 ≡ i / 2 ^ 23 = sym (same_chunk p h s) ∙ ap (λ b. b / chunk_ratio_of p) (same_block s i e) ∙ same_chunk p h i in
      ap (λ c. bitmap_index_of c (chunk_ratio_of p)) chunks

  -- the block begins here
  pub start_is : (first : ℕ) → first - first * p.sector % p.block / p.sector ≡ first / per_block p * per_block p
  start_is first =
      let rest : first * p.sector % p.block / p.sector ≡ first % per_block p = ap (λ n. n / p.sector) (rest_of p.sector p.block (per_block p) w first) ∙ mul-div_cancel (first % per_block p) w.some in
      let all : first / per_block p * per_block p + first % per_block p ≡ first = div-add-mod' first (per_block p) in
      omega (arith, rest, all)

  pub in_its_block : (first s : ℕ) → is_among (first / per_block p * per_block p) (per_block p) s ≡ true → entry_of p s ≡ entry_of p first
  in_its_block first s n =
      let v = within (first / per_block p * per_block p) (per_block p) s n in
      let from = v.0 in
      let to = v.1 in
      let b : s / per_block p ≡ first / per_block p = ap (λ k. k / per_block p) (let e : s ≡ first / per_block p * per_block p + (s - first / per_block p * per_block p) = omega (arith, from) in e)
      ∙ div-mul-add (first / per_block p) (per_block p) (s - first / per_block p * per_block p) (omega (arith, from, to)) in
      let blocks : block_of p s ≡ block_of p first = in_blocks p.sector p.block (per_block p) w s ∙ b ∙ sym (in_blocks p.sector p.block (per_block p) w first) in
      ap (λ k. k + k / chunk_ratio_of p) blocks

  pub all_of_block : (first s : ℕ) → entry_of p s ≡ entry_of p first → is_among (first / per_block p * per_block p) (per_block p) s ≡ true
  all_of_block first s e =
      let b : s / per_block p ≡ first / per_block p = sym (in_blocks p.sector p.block (per_block p) w s) ∙ same_block s first e ∙ in_blocks p.sector p.block (per_block p) w first in
      let rows : s / per_block p * per_block p ≡ first / per_block p * per_block p = ap (λ n. n * per_block p) b in
      let all : s / per_block p * per_block p + s % per_block p ≡ s = div-add-mod' s (per_block p) in
      let less : s % per_block p < per_block p = mod_below s (per_block p) w.any in
      among (first / per_block p * per_block p) (per_block p) s (omega (arith, rows, all)) (omega (arith, rows, all, less))

  -- sectors of a run that lies in one block
  pub run_in_one : (first count : ℕ) → first * p.sector % p.block + count * p.sector ≤ p.block → (s : ℕ) → is_among first count s ≡ true → entry_of p s ≡ entry_of p first
  run_in_one first count run s n =
      let v = within first count s n in
      let from = v.0 in
      let to = v.1 in
      let j = s - first in
      let some = w.some in
      let split : count * p.sector ≡ (j + 1 + (count - (j + 1))) * p.sector = ap (λ k. k * p.sector) (let e : count ≡ j + 1 + (count - (j + 1)) = omega (arith, from, to) in e) in
      let rows : (j + 1 + (count - (j + 1))) * p.sector ≡ (j + 1) * p.sector + (count - (j + 1)) * p.sector = add-mul (j + 1) (count - (j + 1)) p.sector in
      let row : (j + 1) * p.sector ≡ j * p.sector + 1 * p.sector = add-mul j 1 p.sector in
      let r = in_run p.sector first j p.block (omega (arith, run, split, rows, row, some)) in
      ap (λ k. k + k / chunk_ratio_of p) (ap (λ k. k * p.sector / p.block) (let e : s ≡ first + j = omega (arith, from) in e) ∙ r.block_is)

pub none_among : (s : ℕ) → is_among 0 0 s ≡ false
none_among s = not_true _ (λ n. let v = within 0 0 s n in let b = v.1 in omega (arith, b))

-- ---- the bits of the block are cleared

module _ (l mid : Layer) (old : Disk) (ready : IsReady l old) (word first start per : ℕ) (on_disk : first < l.tables.parts.sectors) (m : Marks l mid word start per false)
    (start_at : start ≡ first - first * l.tables.parts.sector % l.tables.parts.block / l.tables.parts.sector) (per_is : per ≡ l.tables.parts.block / l.tables.parts.sector) (room : start % 2 ^ 23 + per ≤ 2 ^ 23)
    (absent : WhereTold old.told (λ t. IsAbsent (shape_of l.tables.parts) (held_by l t) first word)) where
  abbrev p : Shape
  p = shape_of l.tables.parts

  sized : HasSizes p
  sized = record { sector = ready.readable.sizes.sector; block = ready.readable.sizes.block }

  start_row : start ≡ first / per_block p * per_block p
  start_row = start_at ∙ start_is p sized first

  at_start : (P : ℕ → ℕ → Type 0) → P (first / per_block p * per_block p) (per_block p) → P start per
  at_start P h = subst (λ n. P n per) (sym start_row) (subst (P (first / per_block p * per_block p)) (sym per_is) h)

  g1 : (s : ℕ) → is_among start per s ≡ true → entry_of p s ≡ entry_of p first
  g1 = at_start (λ a n. (s : ℕ) → is_among a n s ≡ true → entry_of p s ≡ entry_of p first) (in_its_block p sized first)

  g2 : (s : ℕ) → entry_of p s ≡ entry_of p first → is_among start per s ≡ true
  g2 = at_start (λ a n. (s : ℕ) → entry_of p s ≡ entry_of p first → is_among a n s ≡ true) (all_of_block p sized first)

  start_below : start < l.tables.parts.sectors
  start_below = omega (arith, start_at, on_disk)

  start_entry : entry_of p start ≡ entry_of p first
  start_entry = g1 start (among start per start (omega arith) (omega (arith, per_is, (of_sectors p sized).any)))

  module _ (t : Trace) (told : old.told ≡ Some t) where
    a : IsAbsent p (held_by l t) first word
    a = absent t told

    word_start : word ≡ table_entry p (held_by l t) (bitmap_entry_of p start)
    word_start = a.word_is ∙ ap (table_entry p (held_by l t)) (sym (one_bitmap p sized start first start_entry))

    pub part_served : (file : Placed) → Serves l t file → Serves mid t file
    part_served file serves =
        marks_same l mid word start per false m t file serves start_below a.parent a.there word_start room
        (λ s b n. subst (λ i. state_at p (held_by l t) i ≢ 7) (sym (g1 s n)) (λ seven. let z = a.absent in omega (arith, seven, z)))

    pub part_bitmap : (s : ℕ) → s < l.tables.parts.sectors → table_entry p (held_by mid t) (bitmap_entry_of p s) ≡ table_entry p (held_by l t) (bitmap_entry_of p s)
    part_bitmap = let one = ready.told t told in marks_bitmap l mid word start per false m t one.0 one.1 start_below a.parent a.there word_start room

    pub part_may : MayBeMade (shape_of mid.tables.parts) (held_by mid t) first 7
    part_may =
        let one = ready.told t told in
        subst (λ (q : TableParts). MayBeMade (shape_of q) (held_by mid t) first 7) (sym m.parts)
        (in_part refl a.parent (ap state_of (marks_state l mid word start per false m t one.0 one.1 start_below a.parent a.there word_start room first on_disk) ∙ a.absent)
        (λ s b e. (
          ap state_of (part_bitmap s b) ∙ ap (state_at p (held_by l t)) (one_bitmap p sized s first e) ∙ (ap state_of (sym a.word_is) ∙ a.there),
          subst (λ n. n ≢ 1) (sym (marks_bits l mid word start per false m t one.0 one.1 start_below a.parent a.there word_start room s b (g2 s e))) (λ z. omega (arith, z)),
        )))

    pub part_others : KeepsOthers l mid first t t
    part_others =
        let one = ready.told t told in
        let k = marks_others l mid word start per false m t one.0 one.1 start_below a.parent a.there word_start room (λ s b n. g1 s n ∙ sym start_entry) in
        record { others = λ s b ne. k.others s b (λ e. ne (e ∙ start_entry)) }

  pub part_ready : IsReady mid old
  part_ready =
      ready_next l mid old old ready refl m.parts (ap (λ (x : Layer). x.log.file) m.only) (subst (λ (x : Layer). x.log.len ≤ x.space.next * megabyte) (sym m.only) ready.next) (subst (λ (x : Layer). x.space.next ≤ 2 ^ 44) (sym m.only) ready.most)
      (subst (λ (x : Layer). x.zeros.items ≡ zeros megabyte) (sym m.only) ready.clear) (subst (λ (x : Layer). length x.plans.items ≡ 257) (sym m.only) ready.plans) (both_self _ old.told (λ t told file serves. (file, part_served t told file serves)))

  pub part_over : (new : Disk) → WhereBothTold (KeepsOver mid) old.told new.told → WhereBothTold (KeepsOver l) old.told new.told
  part_over new over = both_map (KeepsOver mid) (KeepsOver l) old.told new.told over (λ t u told then k. record { over = λ file serves. k.over file (part_served t told file serves) })

  pub part_broken : (left : Layer) (new : Disk) (fault : LayerFault) (count : ℕ) → IsBroken mid left 0 0 old new fault → IsBroken l left first count old new fault
  part_broken left new fault count b = record {
    cause = b.cause;
    written = b.written;
    fails = subst (λ (q : TableParts). Fails q.file old new fault) m.parts b.fails;
    readable = b.readable;
    holds = both_map (HoldsRest mid left 0 0) (HoldsRest l left first count) old.told new.told b.holds
        (λ t u told then k. record { holds = λ file serves. let h = k.holds file (part_served t told file serves) in (h.0, (h.1.0, h.1.1, λ s off. h.1.2 s (none_among s))) });
    parts = b.parts ∙ m.parts;
    number = b.number ∙ ap (λ (x : Layer). x.log.number) m.only;
    header = b.header ∙ ap (λ (x : Layer). x.log.header) m.only;
  }

  -- ---- its place is taken, and sectors are marked

  module _ (left new : Layer) (then : Disk) (place count : ℕ) (made : WhereBothTold (HasMade mid left first 7 place) old.told then.told) (some : 0 < count) (run : first * l.tables.parts.sector % l.tables.parts.block + count * l.tables.parts.sector ≤ l.tables.parts.block)
      (all_on_disk : first + count ≤ l.tables.parts.sectors) (left_parts : left.tables.parts ≡ mid.tables.parts) (k : Marks left new word first count true) (few : first % 2 ^ 23 + count ≤ 2 ^ 23) where
    parts_left : left.tables.parts ≡ l.tables.parts
    parts_left = left_parts ∙ m.parts

    parts_new : new.tables.parts ≡ l.tables.parts
    parts_new = k.parts ∙ parts_left

    module _ (t u : Trace) (told : old.told ≡ Some t) (h : HasMade mid left first 7 place t u) where
      one : (file : Placed) × Serves l t file
      one = ready.told t told

      left_serves : (file : Placed) → Serves l t file → Serves left u file
      left_serves file serves = h.serves file (part_served t told file serves)

      by_mid : (P : Shape → Type 0) → P (shape_of mid.tables.parts) → P p
      by_mid P x = subst (λ (q : TableParts). P (shape_of q)) m.parts x

      state_is : state_at p (held_by left u) (entry_of p first) ≡ 7
      state_is = by_mid (λ q. state_at q (held_by left u) (entry_of q first) ≡ 7) h.state_is

      bitmap_is : table_entry p (held_by left u) (bitmap_entry_of p first) ≡ table_entry p (held_by mid t) (bitmap_entry_of p first)
      bitmap_is =
          let x : p.parent ≡ true → table_entry p (held_by left u) (bitmap_entry_of p first) ≡ table_entry p (held_by mid t) (bitmap_entry_of p first) =
          subst (λ (q : TableParts). first < q.sectors → q.parent ≡ true → table_entry (shape_of q) (held_by left u) (bitmap_entry_of (shape_of q) first) ≡ table_entry (shape_of q) (held_by mid t) (bitmap_entry_of (shape_of q) first)) m.parts (λ b. (h.bits first b).bitmap) on_disk in
          x (a t told).parent

      by_left : (P : TableParts → Type 0) → P l.tables.parts → P left.tables.parts
      by_left P x = subst P (sym parts_left) x

      word_left : word ≡ table_entry (shape_of left.tables.parts) (held_by left u) (bitmap_entry_of (shape_of left.tables.parts) first)
      word_left = by_left (λ q. word ≡ table_entry (shape_of q) (held_by left u) (bitmap_entry_of (shape_of q) first)) ((a t told).word_is ∙ sym (part_bitmap t told first on_disk) ∙ sym bitmap_is)

      below_left : first < left.tables.parts.sectors
      below_left = by_left (λ q. first < q.sectors) on_disk

      parent_left : left.tables.parts.parent ≡ true
      parent_left = by_left (λ q. q.parent ≡ true) (a t told).parent

      same_state : table_entry p (held_by new u) (entry_of p first) ≡ table_entry p (held_by left u) (entry_of p first)
      same_state = subst (λ (q : TableParts). table_entry (shape_of q) (held_by new u) (entry_of (shape_of q) first) ≡ table_entry (shape_of q) (held_by left u) (entry_of (shape_of q) first)) parts_left
          (marks_state left new word first count true k u one.0 (left_serves one.0 one.1) below_left parent_left (a t told).there word_left few first below_left)

      bit_set : (s : ℕ) → s < l.tables.parts.sectors → is_among first count s ≡ true → sector_bit p (held_by new u) s ≡ 1
      bit_set = subst (λ (q : TableParts). (s : ℕ) → s < q.sectors → is_among first count s ≡ true → sector_bit (shape_of q) (held_by new u) s ≡ 1) parts_left
          (marks_bits left new word first count true k u one.0 (left_serves one.0 one.1) below_left parent_left (a t told).there word_left few)

      place_is : place ≡ place_at p (held_by left u) (entry_of p first) + first * l.tables.parts.sector % l.tables.parts.block
      place_is = subst (λ (q : TableParts). place ≡ place_at (shape_of q) (held_by left u) (entry_of (shape_of q) first) + first * q.sector % q.block) m.parts h.place_is

      one_made : IsMade l new first count place t u
      one_made = record {
        stand = subst (λ (q : TableParts). IsRunAt (shape_of q) (held_by new u) first count place) (sym parts_new) (record {
          some = some;
          run = run;
          there = inr (ap state_of same_state ∙ state_is);
          place_is = place_is ∙ ap (λ n. unit_of n * megabyte + first * l.tables.parts.sector % l.tables.parts.block) (sym same_state);
          marked = λ s from to seven. bit_set s (omega (arith, to, all_on_disk)) (among first count s from to);
        });
        serves = λ file serves. let x = marks_serves left new word first count true k u file (left_serves file serves) below_left parent_left (a t told).there word_left few in (x.0, x.1.0, x.1.1);
      }

      one_others : KeepsOthers l new first t u
      one_others =
          others_then l left new first t u u parts_left (others_then l mid left first t t u m.parts (part_others t told) h.others)
          (marks_others left new word first count true k u one.0 (left_serves one.0 one.1) below_left parent_left (a t told).there word_left few
          (by_left (λ q. (s : ℕ) → s < q.sectors → is_among first count s ≡ true → entry_of (shape_of q) s ≡ entry_of (shape_of q) first) (λ s b n. run_in_one p sized first count run s n)))

    pub part_made : WhereBothTold (IsMade l new first count place) old.told then.told
    part_made = both_map (HasMade mid left first 7 place) (IsMade l new first count place) old.told then.told made (λ t u told after h. one_made t u told h)

    pub part_kept : WhereBothTold (KeepsOthers l new first) old.told then.told
    part_kept = both_map (HasMade mid left first 7 place) (KeepsOthers l new first) old.told then.told made (λ t u told after h. one_others t u told h)

    pub part_ends : IsReady left then → then ≡ record old { told = then.told } → IsReady new then
    part_ends ready_left counts =
        ready_next l new old then ready (ap (λ (d : Disk). d.files) counts) parts_new (ap (λ (x : Layer). x.log.file) k.only ∙ (ready_left.one_file ∙ (ap (λ (q : TableParts). q.file) parts_left ∙ sym ready.one_file)))
        (subst (λ (x : Layer). x.log.len ≤ x.space.next * megabyte) (sym k.only) ready_left.next) (subst (λ (x : Layer). x.space.next ≤ 2 ^ 44) (sym k.only) ready_left.most)
        (subst (λ (x : Layer). x.zeros.items ≡ zeros megabyte) (sym k.only) ready_left.clear) (subst (λ (x : Layer). length x.plans.items ≡ 257) (sym k.only) ready_left.plans)
        (both_map (IsMade l new first count place) _ old.told then.told part_made (λ t u b c h file serves. let x = h.serves file serves in (placed_with x.0 (loose_or_named first count file) file, x.1)))
