-- Sectors at their places are made zeros, piece by piece.
use Rattle.std.proofs.Common.{◌≡◌, ℕ, ◌+◌, ◌-◌, ◌*◌, ◌/◌, ◌%◌, ◌^◌, ◌<◌, ◌≤◌, ◌⊎◌, ◌||◌, Bool, true, false, List, length, length-drop, take, drop, min, get_or, Option, Some, refl, sym, ap, subst, ◌∙◌, arith, inl, inr, mul_comm, if◌then◌else◌}
use Rattle.std.proofs.Math.Nat.{add-mul}
use Rattle.std.proofs.lemmas.Bool.{cases_Bool}
use Rattle.std.proofs.lemmas.List.{ext_get_or, get_or-drop, get_or-take, length-take-le}
use Rattle.store_model.proofs.Parts.{length-part}
use Rattle.vx_base.specs.Fields.{bytes_at, zeros}
use Rattle.vhdx_format.specs.AllocationTables.{IsSectorSize, state_of, unit_of}
use Rattle.vhdx_format.specs.Fields.{megabyte}
use Rattle.vhdx_format.specs.FileParts.{shape_of}
use Rattle.vhdx_format.specs.Layers.{HasSizes, Shape, bitmap_entry_of, chunk_ratio_of, entry_of, place_at, state_at}
use Rattle.vhdx_format.proofs.LayerLemmas.{sector_entries}
use Rattle.vhdx_format.proofs.SizeLemmas.{sector_cases, sector_least}
use Rattle.store_model.specs.Disk.{Disk, WhereBothTold, WhereTold}
use Rattle.store_model.specs.File.{seen}
use Rattle.store_model.specs.Trace.{Trace, file_of}
use Rattle.table_pages.specs.Held.{held}
use Rattle.table_pages.specs.Held as table_words
use Rattle.table_pages.proofs.Laying.{part_byte}
use Rattle.chain_model.specs.Images.{Placed}
use Rattle.chain_model.specs.Layers as chain
use Rattle.layer_session.specs.declared.file.Layer.{Layer}
use Rattle.layer_session.specs.declared.file.LayerFault.{LayerFault}
use Rattle.layer_session.specs.Calls.{HasPut, HoldsRest, PutsInto, is_among, sectors_in, with_bytes, with_zeros}
use Rattle.layer_session.specs.Keeping.{IsReady, IsRunAt, Serves}
use Rattle.layer_session.specs.Steps.{StandFrom, held_by}
use Rattle.layer_session.specs.Taking.{IsBroken, IsDone, KeepsEntries}
use Rattle.layer_session.proofs.Alike.{bitmap_there, not_true}
use Rattle.layer_session.proofs.Beside.{among}
use Rattle.layer_session.proofs.Clearing.{some_zeros}
use Rattle.layer_session.proofs.Entered.{sizes}
use Rattle.layer_session.proofs.Joining.{IsOutside, Moves, among_split, broken_after, part_outside, put_join, put_moves, puts_after, puts_more}
use Rattle.layer_session.proofs.Parting.{run_in_one}
use Rattle.layer_session.proofs.Payload.{inside, within}
use Rattle.layer_session.proofs.Placing.{zero_at, zeros_len}
use Rattle.layer_session.proofs.Places.{in_run}
use Rattle.layer_session.proofs.Resting.{entries_then}
use Rattle.layer_session.proofs.Running.{sectors_of}
use Rattle.layer_session.proofs.SameEntries.{by_shape, held_here}
use Rattle.layer_session.proofs.Told.{both_map, both_then, told_from}
use Rattle.layer_session.proofs.Written.{whole_of}

-- ---- zeros that are put

pub zeros_off : (z first count : ℕ) (layer : chain.Layer) (s : ℕ) → is_among first count s ≡ false → with_zeros z first count layer s ≡ layer s
zeros_off z first count layer s off = rw off refl

pub bytes_off : (z first count : ℕ) (bytes : List ℕ) (layer : chain.Layer) (s : ℕ) → is_among first count s ≡ false → with_bytes z first count bytes layer s ≡ layer s
bytes_off z first count bytes layer s off = rw off refl

-- bytes that are all zeros
zero_bytes : (z first count : ℕ) (bytes : List ℕ) → length bytes ≡ z * count → ((i : ℕ) → i < length bytes → get_or bytes i 0 ≡ 0) → (layer : chain.Layer) (s : ℕ) → with_bytes z first count bytes layer s ≡ with_zeros z first count layer s
zero_bytes z first count bytes whole all layer s = by_name (cases_Bool (is_among first count s))
  where
    here : is_among first count s ≡ true → bytes_at bytes (z * (s - first)) z ≡ zeros z
    here h =
        let v = within first count s h in
        let from = v.0 in
        let to = v.1 in
        let j = s - first in
        let split : z * count ≡ z * j + z + (count - (j + 1)) * z = mul_comm z count ∙ ap (λ n. n * z) (let e : count ≡ j + 1 + (count - (j + 1)) = omega (arith, from, to) in e) ∙ add-mul (j + 1) (count - (j + 1)) z
        ∙ ap (λ n. n + (count - (j + 1)) * z) (add-mul j 1 z ∙ (let e : j * z + 1 * z ≡ z * j + z = let c = mul_comm j z in omega (arith, c) in e)) in
        let fits : z * j + z ≤ length bytes = omega (arith, whole, split) in
        ext_get_or 0 _ _ (length-part bytes (z * j) z fits ∙ sym (zeros_len z))
        (λ i l. let b : i < z = omega (arith, l, length-part bytes (z * j) z fits) in part_byte bytes (z * j) z i b ∙ all (z * j + i) (omega (arith, b, fits)) ∙ sym (zero_at z i b))

    by_name : (is_among first count s ≡ true) ⊎ (is_among first count s ≡ false) → with_bytes z first count bytes layer s ≡ with_zeros z first count layer s
    by_name (inr off) = bytes_off z first count bytes layer s off ∙ sym (zeros_off z first count layer s off)
    by_name (inl h) =
        let a : with_bytes z first count bytes layer s ≡ Some (bytes_at bytes (z * (s - first)) z) = rw h refl in
        let b : with_zeros z first count layer s ≡ Some (zeros z) = rw h refl in
        a ∙ ap Some (here h) ∙ sym b

-- first some, then the rest
pub zeros_join : (z first len count : ℕ) → len ≤ count → (layer : chain.Layer) (s : ℕ) → with_zeros z (first + len) (count - len) (with_zeros z first len layer) s ≡ with_zeros z first count layer s
zeros_join z first len count fits layer s = by_tests (is_among first len s) (is_among (first + len) (count - len) s) ∙ ap (λ b. if b then Some (zeros z) else layer s) (sym (among_split first len count s fits))
  where
    by_tests : (a b : Bool) → (if b then Some (zeros z) else (if a then Some (zeros z) else layer s)) ≡ (if (a || b) then Some (zeros z) else layer s)
    by_tests true true = refl
    by_tests true false = refl
    by_tests false true = refl
    by_tests false false = refl

-- the same of bytes
pub bytes_join : (z first len count : ℕ) → len ≤ count → (bytes front back : List ℕ) → length bytes ≡ z * count → front ≡ take (z * len) bytes → back ≡ drop (z * len) bytes → (layer : chain.Layer) (s : ℕ)
    → with_bytes z (first + len) (count - len) back (with_bytes z first len front layer) s ≡ with_bytes z first count bytes layer s
bytes_join z first len count fits bytes front back whole front_is back_is layer s = by_tests (cases_Bool (is_among first len s)) (cases_Bool (is_among (first + len) (count - len) s))
  where
    all : is_among first count s ≡ (is_among first len s || is_among (first + len) (count - len) s)
    all = among_split first len count s fits

    row : (n : ℕ) → n < count → z * n + z ≤ z * count
    row n l =
        let split : z * count ≡ z * n + z + (count - (n + 1)) * z = mul_comm z count ∙ ap (λ k. k * z) (let e : count ≡ n + 1 + (count - (n + 1)) = omega (arith, l) in e) ∙ add-mul (n + 1) (count - (n + 1)) z
        ∙ ap (λ k. k + (count - (n + 1)) * z) (add-mul n 1 z ∙ (let e : n * z + 1 * z ≡ z * n + z = let c = mul_comm n z in omega (arith, c) in e)) in
        omega (arith, split)

    in_front : is_among first len s ≡ true → bytes_at front (z * (s - first)) z ≡ bytes_at bytes (z * (s - first)) z
    in_front h =
        let v = within first len s h in
        let from = v.0 in
        let to = v.1 in
        let fit : z * (s - first) + z ≤ z * len = row_len (s - first) (omega (arith, from, to)) in
        let fit_all : z * len ≤ z * count = mul-le_left fits in
        let long : length front ≡ z * len = ap length front_is ∙ length-take-le (z * len) bytes (omega (arith, whole, fit_all)) in
        ext_get_or 0 _ _ (length-part front (z * (s - first)) z (omega (arith, long, fit)) ∙ sym (length-part bytes (z * (s - first)) z (omega (arith, whole, fit, fit_all))))
        (λ i l. let b : i < z = omega (arith, l, length-part front (z * (s - first)) z (omega (arith, long, fit))) in
        part_byte front (z * (s - first)) z i b ∙ ap (λ x. get_or x (z * (s - first) + i) 0) front_is ∙ get_or-take (z * len) bytes (z * (s - first) + i) 0 (omega (arith, b, fit)) ∙ sym (part_byte bytes (z * (s - first)) z i b))
      where
        row_len : (n : ℕ) → n < len → z * n + z ≤ z * len
        row_len n l =
            let split : z * len ≡ z * n + z + (len - (n + 1)) * z = mul_comm z len ∙ ap (λ k. k * z) (let e : len ≡ n + 1 + (len - (n + 1)) = omega (arith, l) in e) ∙ add-mul (n + 1) (len - (n + 1)) z
            ∙ ap (λ k. k + (len - (n + 1)) * z) (add-mul n 1 z ∙ (let e : n * z + 1 * z ≡ z * n + z = let c = mul_comm n z in omega (arith, c) in e)) in
            omega (arith, split)

        mul-le_left : len ≤ count → z * len ≤ z * count
        mul-le_left f =
            let split : z * count ≡ z * len + (count - len) * z = mul_comm z count ∙ ap (λ k. k * z) (let e : count ≡ len + (count - len) = omega (arith, f) in e) ∙ add-mul len (count - len) z ∙ ap (λ k. k + (count - len) * z) (mul_comm len z) in
            omega (arith, split)

    in_back : is_among (first + len) (count - len) s ≡ true → bytes_at back (z * (s - (first + len))) z ≡ bytes_at bytes (z * (s - first)) z
    in_back h =
        let v = within (first + len) (count - len) s h in
        let from = v.0 in
        let to = v.1 in
        let place : z * (s - first) ≡ z * len + z * (s - (first + len)) =
        mul_comm z (s - first) ∙ ap (λ k. k * z) (let e : s - first ≡ len + (s - (first + len)) = omega (arith, from) in e) ∙ add-mul len (s - (first + len)) z ∙ (let a = mul_comm len z in let b = mul_comm (s - (first + len)) z in omega (arith, a, b)) in
        let fit : z * (s - first) + z ≤ z * count = row (s - first) (omega (arith, from, to, fits)) in
        let long : length back ≡ length bytes - z * len = ap length back_is ∙ length-drop (z * len) bytes in
        ext_get_or 0 _ _ (length-part back (z * (s - (first + len))) z (omega (arith, long, whole, fit, place)) ∙ sym (length-part bytes (z * (s - first)) z (omega (arith, whole, fit))))
        (λ i l. let b : i < z = omega (arith, l, length-part back (z * (s - (first + len))) z (omega (arith, long, whole, fit, place))) in
        part_byte back (z * (s - (first + len))) z i b ∙ ap (λ x. get_or x (z * (s - (first + len)) + i) 0) back_is ∙ get_or-drop (z * len) bytes (z * (s - (first + len)) + i) 0
        ∙ ap (λ n. get_or bytes n 0) (let e : z * len + (z * (s - (first + len)) + i) ≡ z * (s - first) + i = omega (arith, place) in e) ∙ sym (part_byte bytes (z * (s - first)) z i b))

    by_tests : (is_among first len s ≡ true) ⊎ (is_among first len s ≡ false) → (is_among (first + len) (count - len) s ≡ true) ⊎ (is_among (first + len) (count - len) s ≡ false)
        → with_bytes z (first + len) (count - len) back (with_bytes z first len front layer) s ≡ with_bytes z first count bytes layer s
    by_tests (inr a) (inr b) =
        let none : is_among first count s ≡ false = all ∙ (let e : (is_among first len s || is_among (first + len) (count - len) s) ≡ false = rw (a, b) refl in e) in
        bytes_off z (first + len) (count - len) back (with_bytes z first len front layer) s b ∙ bytes_off z first len front layer s a ∙ sym (bytes_off z first count bytes layer s none)
    by_tests (inl a) (inr b) =
        let named : is_among first count s ≡ true = all ∙ (let e : (is_among first len s || is_among (first + len) (count - len) s) ≡ true = rw a refl in e) in
        let one : with_bytes z first len front layer s ≡ Some (bytes_at front (z * (s - first)) z) = rw a refl in
        let two : with_bytes z first count bytes layer s ≡ Some (bytes_at bytes (z * (s - first)) z) = rw named refl in
        bytes_off z (first + len) (count - len) back (with_bytes z first len front layer) s b ∙ one ∙ ap Some (in_front a) ∙ sym two
    by_tests x (inl b) =
        let named : is_among first count s ≡ true = all ∙ or_right (is_among first len s) (is_among (first + len) (count - len) s) b in
        let one : with_bytes z (first + len) (count - len) back (with_bytes z first len front layer) s ≡ Some (bytes_at back (z * (s - (first + len))) z) = rw b refl in
        let two : with_bytes z first count bytes layer s ≡ Some (bytes_at bytes (z * (s - first)) z) = rw named refl in
        one ∙ ap Some (in_back b) ∙ sym two
      where
        or_right : (x y : Bool) → y ≡ true → (x || y) ≡ true
        or_right true y h = refl
        or_right false y h = h

-- ---- one piece, and the rest

pub done_zeros : (l : Layer) (old new : Disk) (first count n : ℕ) (bytes : List ℕ) → n ≡ count → length bytes ≡ l.tables.parts.sector * count → ((i : ℕ) → i < length bytes → get_or bytes i 0 ≡ 0) → IsDone l l first n (with_bytes l.tables.parts.sector first n bytes) old new
    → IsDone l l first count (with_zeros l.tables.parts.sector first count) old new
done_zeros l old new first count n bytes same whole all done =
    let d : IsDone l l first count (with_bytes l.tables.parts.sector first count bytes) old new = subst (λ k. IsDone l l first k (with_bytes l.tables.parts.sector first k bytes) old new) same done in
    record {
      put = both_map (HasPut l l first count (with_bytes l.tables.parts.sector first count bytes)) (HasPut l l first count (with_zeros l.tables.parts.sector first count)) old.told new.told d.put
          (λ t u a b h. subst (λ (f : chain.Layer → chain.Layer). HasPut l l first count f t u) (λ i layer s. zero_bytes l.tables.parts.sector first count bytes whole all layer s i) h);
      ready = d.ready;
      counts = d.counts;
      parts = d.parts;
      number = d.number;
      header = d.header;
    }

-- one call behind another, of whatever layers
module _ (l mid : Layer) (first len count : ℕ) (fits : len ≤ count) (f : chain.Layer → chain.Layer) (agree : (layer : chain.Layer) (s : ℕ) → is_among first len s ≡ false → f layer s ≡ layer s) (old behind : Disk) (one : IsDone l mid first len f old behind) where
  pub low_part : IsOutside first count first len
  low_part = part_outside first count first len (omega arith) (omega (arith, fits))

  pub high_part : IsOutside first count (first + len) (count - len)
  high_part = part_outside first count (first + len) (count - len) (omega arith) (omega (arith, fits))

  moved : WhereBothTold (Moves l mid first len) old.told behind.told
  moved = both_map (HasPut l mid first len f) (Moves l mid first len) old.told behind.told one.put (λ t u a b h. put_moves l mid first len f agree t u h)

  pub join_moments : (new : Disk) → WhereBothTold (PutsInto l first len) old.told behind.told → WhereBothTold (PutsInto mid (first + len) (count - len)) behind.told new.told → WhereBothTold (PutsInto l first count) old.told new.told
  join_moments new puts rest =
      puts_after l mid first count first len (first + len) (count - len) low_part high_part old.told behind.told new.told (puts_more l first count first len low_part old.told behind.told puts) moved rest

  pub join_done : (new : Layer) (end : Disk) (g h : chain.Layer → chain.Layer) → ((layer : chain.Layer) (s : ℕ) → g (f layer) s ≡ h layer s) → IsDone mid new (first + len) (count - len) g behind end → IsDone l new first count h old end
  join_done new end g h same two = record {
    put = put_join l mid new first len count fits f g h same old.told behind.told end.told one.put two.put;
    ready = two.ready;
    counts = two.counts ∙ ap (λ (d : Disk). (let x : Disk = record d { told = end.told } in x)) one.counts;
    parts = two.parts ∙ one.parts;
    number = two.number ∙ one.number;
    header = two.header ∙ one.header;
  }

  pub join_broken : (left : Layer) (end : Disk) (fault : LayerFault) → IsBroken mid left (first + len) (count - len) behind end fault → IsBroken l left first count old end fault
  join_broken left end fault br = broken_after l mid left first count first len (first + len) (count - len) low_part high_part old behind end fault one.parts (one.number, one.header) one.counts moved br

-- the first of them fails
pub broken_more : (l left : Layer) (first count a n : ℕ) → IsOutside first count a n → (old new : Disk) (fault : LayerFault) → IsBroken l left a n old new fault → IsBroken l left first count old new fault
broken_more l left first count a n out old new fault b = record {
  cause = b.cause;
  written = b.written;
  fails = b.fails;
  readable = b.readable;
  holds = both_map (HoldsRest l left a n) (HoldsRest l left first count) old.told new.told b.holds (λ t u x y k. record { holds = λ file serves. let h = k.holds file serves in (h.0, (h.1.0, h.1.1, λ s off. h.1.2 s (out s off))) });
  parts = b.parts;
  number = b.number;
  header = b.header;
}

pub entries_join : (l : Layer) (a b c : Option Trace) → WhereBothTold (KeepsEntries l l) a b → WhereBothTold (KeepsEntries l l) b c → WhereBothTold (KeepsEntries l l) a c
entries_join l a b c one two = both_then (KeepsEntries l l) (KeepsEntries l l) (KeepsEntries l l) a b c one two (λ t u v e f k r. record {
  all = λ s below. entries_then (table_words.shape_of l.tables.parts) (held_by l t) (held_by l u) (held_by l v) s (k.all s below) (r.all s below);
})

-- ---- what stands

-- a partially present block has a sector bitmap block
pub part_chunk : (l : Layer) (t : Trace) (file : Placed) → Serves l t file → (s : ℕ) → s < l.tables.parts.sectors → state_at (table_words.shape_of l.tables.parts) (held_by l t) (entry_of (table_words.shape_of l.tables.parts) s) ≡ 7
    → (l.tables.parts.parent ≡ true) × (state_at (table_words.shape_of l.tables.parts) (held_by l t) (bitmap_entry_of (table_words.shape_of l.tables.parts) s) ≡ 6)
part_chunk l t file serves = by_shape l t file serves (λ p. (s : ℕ) → s < p.sectors → state_at p (held_by l t) (entry_of p s) ≡ 7 → (p.parent ≡ true) × (state_at p (held_by l t) (bitmap_entry_of p s) ≡ 6))
    (subst (λ z. (s : ℕ) → s < (shape_of serves.parts).sectors → state_at (shape_of serves.parts) z (entry_of (shape_of serves.parts) s) ≡ 7 → ((shape_of serves.parts).parent ≡ true) × (state_at (shape_of serves.parts) z (bitmap_entry_of (shape_of serves.parts) s) ≡ 6)) (held_here l t file serves)
    (λ s b seven. by_parent s b seven (cases_Bool serves.parts.parent)))
  where
    by_parent : (s : ℕ) → s < (shape_of serves.parts).sectors → state_at (shape_of serves.parts) (held l.tables.pending (seen (file_of t file.number))) (entry_of (shape_of serves.parts) s) ≡ 7 → ((shape_of serves.parts).parent ≡ true) ⊎ ((shape_of serves.parts).parent ≡ false)
        → ((shape_of serves.parts).parent ≡ true) × (state_at (shape_of serves.parts) (held l.tables.pending (seen (file_of t file.number))) (bitmap_entry_of (shape_of serves.parts) s) ≡ 6)
    by_parent s b seven (inl parent) =
        (parent, bitmap_there serves.parts (held l.tables.pending (seen (file_of t file.number))) (held l.tables.pending (seen (file_of t file.number))) (omega arith) (sizes l t file serves) serves.as_held.numbers serves.as_held.sound s b parent seven)
    by_parent s b seven (inr alone) =
        absurd (serves.as_held.sound.states (entry_of (shape_of serves.parts) s) (inl ((sector_entries (shape_of serves.parts) (record { sector = (sizes l t file serves).sector; block = (sizes l t file serves).block })).payload s b, inr (inr (seven, alone)))))

-- sectors stand where they stood, where no table changes
pub stand_still : (l : Layer) (t u : Trace) (file : Placed) (first count place : ℕ) → Serves l t file → first + count ≤ l.tables.parts.sectors → HasSizes (table_words.shape_of l.tables.parts) → KeepsEntries l l t u → StandFrom l first count place t → StandFrom l first count place u
stand_still l t u file first count place serves on_disk sized k s =
    let some = s.some in
    let below : first < l.tables.parts.sectors = omega (arith, on_disk, some) in
    let word = (k.all first below).entry in
    record {
      some = s.some;
      run = s.run;
      there = subst (λ w. (state_of w ≡ 6) ⊎ (state_of w ≡ 7)) (sym word) s.there;
      place_is = s.place_is ∙ ap (λ w. unit_of w * megabyte + first * l.tables.parts.sector % l.tables.parts.block) (sym word);
      marked = λ i from to seven.
          let before : state_at (table_words.shape_of l.tables.parts) (held_by l t) (entry_of (table_words.shape_of l.tables.parts) first) ≡ 7 = ap state_of (sym word) ∙ seven in
          let b : i < l.tables.parts.sectors = omega (arith, to, on_disk) in
          let mine : state_at (table_words.shape_of l.tables.parts) (held_by l t) (entry_of (table_words.shape_of l.tables.parts) i) ≡ 7 =
          ap (state_at (table_words.shape_of l.tables.parts) (held_by l t)) (run_in_one (table_words.shape_of l.tables.parts) sized first count s.run i (among first count i from to)) ∙ before in
          let chunk = part_chunk l t file serves i b mine in
          (k.all i b).bits.bit chunk.0 chunk.1 ∙ s.marked i from to before;
    }

-- the rest of a run stands behind its first sectors
pub sub_run : (p : Shape) (file : List ℕ) (first len count place : ℕ) → HasSizes p → len < count → IsRunAt p file first count place → IsRunAt p file (first + len) (count - len) (place + p.sector * len)
sub_run p file first len count place sized fits s =
    let r = s.run in
    let at = s.place_is in
    let least : 512 ≤ p.sector = sector_least p.sector sized.sector in
    let rows : count * p.sector ≡ len * p.sector + (count - len) * p.sector = ap (λ n. n * p.sector) (let e : count ≡ len + (count - len) = omega (arith, fits) in e) ∙ add-mul len (count - len) p.sector in
    let more : (count - len) * p.sector ≡ 1 * p.sector + (count - len - 1) * p.sector = ap (λ n. n * p.sector) (let e : count - len ≡ 1 + (count - len - 1) = omega (arith, fits) in e) ∙ add-mul 1 (count - len - 1) p.sector in
    let step = in_run p.sector first len p.block (omega (arith, r, rows, more, least)) in
    let offset_same = step.place_is in
    let entry_same : entry_of p (first + len) ≡ entry_of p first = ap (λ b. b + b / chunk_ratio_of p) step.block_is in
    let swap = mul_comm p.sector len in
    record {
      some = omega (arith, fits);
      run = omega (arith, r, rows, offset_same);
      there = subst (λ i. (state_at p file i ≡ 6) ⊎ (state_at p file i ≡ 7)) (sym entry_same) s.there;
      place_is = omega (arith, at, swap, offset_same, ap (λ i. place_at p file i) entry_same);
      marked = λ i from to seven. s.marked i (omega (arith, from)) (omega (arith, to, fits)) (ap (state_at p file) (sym entry_same) ∙ seven);
    }

module _ (l : Layer) (old new : Disk) (ready : IsReady l old) (first count place : ℕ) (on_disk : first + count ≤ l.tables.parts.sectors) (stand : WhereTold old.told (λ t. StandFrom l first count place t)) where
  sized : HasSizes (table_words.shape_of l.tables.parts)
  sized = record { sector = ready.readable.sizes.sector; block = ready.readable.sizes.block }

  -- no place is beyond all numbers
  pub place_small : (bytes : List ℕ) → length bytes ≡ l.tables.parts.sector * count → WhereTold old.told (λ t. place + l.tables.parts.sector * count ≤ 2 ^ 63)
  place_small bytes whole t told =
      let one = ready.told t told in
      let i = inside l t one.0 one.1 first count place (stand t told) on_disk bytes (whole_of l t one.0 one.1 count (length bytes) whole) in
      let m = one.1.as_held.most in
      omega (arith, i, m, whole)

  pub rest_stands : (len next : ℕ) → len < count → WhereTold old.told (λ t. next ≡ place + l.tables.parts.sector * len) → WhereBothTold (KeepsEntries l l) old.told new.told → WhereTold new.told (λ t. StandFrom l (first + len) (count - len) next t)
  rest_stands len next fits next_is same = told_from (KeepsEntries l l) (λ t. StandFrom l first count place t) (λ t. StandFrom l (first + len) (count - len) next t) old.told new.told stand same
      (λ t u told k s.
      let one = ready.told t told in
      subst (λ n. StandFrom l (first + len) (count - len) n u) (sym (next_is t told)) (sub_run (table_words.shape_of l.tables.parts) (held_by l u) first len count place sized fits (stand_still l t u one.0 first count place one.1 on_disk sized k s)))

  -- the first of them stand so too
  pub first_stands : (len : ℕ) → 0 < len → len ≤ count → WhereTold old.told (λ t. StandFrom l first len place t)
  first_stands len some fits t told =
      let s = stand t told in
      let r = s.run in
      let rows : count * l.tables.parts.sector ≡ len * l.tables.parts.sector + (count - len) * l.tables.parts.sector = ap (λ n. n * l.tables.parts.sector) (let e : count ≡ len + (count - len) = omega (arith, fits) in e) ∙ add-mul len (count - len) l.tables.parts.sector in
      record { some = some; run = omega (arith, r, rows); there = s.there; place_is = s.place_is; marked = λ i from to seven. s.marked i from (omega (arith, to, fits)) seven }

-- ---- as many zeros as there are at hand

module _ (l : Layer) (z len : ℕ) (z_is : z ≡ l.tables.parts.sector) (size : IsSectorSize l.tables.parts.sector) (few : len ≤ megabyte / z) (d : List ℕ) (d_is : d ≡ zeros megabyte) where
  fits_in : z * len ≤ megabyte
  fits_in = by_size (sector_cases l.tables.parts.sector size)
    where
      by_size : (l.tables.parts.sector ≡ 512) ⊎ (l.tables.parts.sector ≡ 4096) → z * len ≤ megabyte
      by_size (inl e) = let s : z ≡ 512 = z_is ∙ e in let f : len ≤ megabyte / 512 = subst (λ n. len ≤ megabyte / n) s few in subst (λ n. n * len ≤ megabyte) (sym s) (omega (arith, f))
      by_size (inr e) = let s : z ≡ 4096 = z_is ∙ e in let f : len ≤ megabyte / 4096 = subst (λ n. len ≤ megabyte / n) s few in subst (λ n. n * len ≤ megabyte) (sym s) (omega (arith, f))

  both : (length (take (z * len) d) ≡ z * len) × ((i : ℕ) → i < z * len → get_or (take (z * len) d) i 0 ≡ 0)
  both = subst (λ (x : List ℕ). (length (take (z * len) x) ≡ z * len) × ((i : ℕ) → i < z * len → get_or (take (z * len) x) i 0 ≡ 0)) (sym d_is) (some_zeros megabyte (z * len) fits_in)

  pub piece_long : length (take (z * len) d) ≡ z * len
  piece_long = both.0

  pub piece_clear : (i : ℕ) → i < length (take (z * len) d) → get_or (take (z * len) d) i 0 ≡ 0
  piece_clear i h = both.1 i (omega (arith, h, both.0))

  pub piece_whole : length (take (z * len) d) ≡ l.tables.parts.sector * len
  piece_whole = piece_long ∙ ap (λ n. n * len) z_is

  pub piece_count : sectors_in l (take (z * len) d) ≡ len
  piece_count = sectors_of l l len (take (z * len) d) refl size piece_whole

  pub piece_at : z * len ≡ l.tables.parts.sector * len
  piece_at = ap (λ n. n * len) z_is

  -- a piece that isn't none
  pub piece_some : (count : ℕ) → 0 < count → len ≡ min count (megabyte / z) → 0 < len
  piece_some count some is = by_size (sector_cases l.tables.parts.sector size)
    where
      by_size : (l.tables.parts.sector ≡ 512) ⊎ (l.tables.parts.sector ≡ 4096) → 0 < len
      by_size (inl e) = let s : z ≡ 512 = z_is ∙ e in let f : len ≡ min count (megabyte / 512) = subst (λ n. len ≡ min count (megabyte / n)) s is in omega (arith, f, some)
      by_size (inr e) = let s : z ≡ 4096 = z_is ∙ e in let f : len ≡ min count (megabyte / 4096) = subst (λ n. len ≡ min count (megabyte / n)) s is in omega (arith, f, some)

-- no sector, and the rest of some bytes

pub nobody : (first count s : ℕ) → count ≡ 0 → is_among first count s ≡ false
nobody first count s none = not_true _ (λ n. let v = within first count s n in let a = v.0 in let b = v.1 in omega (arith, a, b, none))

pub zeros_nobody : (z first count : ℕ) → count ≡ 0 → (layer : chain.Layer) (s : ℕ) → with_zeros z first count layer s ≡ layer s
zeros_nobody z first count none layer s = zeros_off z first count layer s (nobody first count s none)

pub bytes_nobody : (z first count : ℕ) → count ≡ 0 → (bytes : List ℕ) (layer : chain.Layer) (s : ℕ) → with_bytes z first count bytes layer s ≡ layer s
bytes_nobody z first count none bytes layer s = bytes_off z first count bytes layer s (nobody first count s none)

parts_of : (z len count : ℕ) → len ≤ count → z * count ≡ z * len + z * (count - len)
parts_of z len count fits = mul_comm z count ∙ ap (λ k. k * z) (let e : count ≡ len + (count - len) = omega (arith, fits) in e) ∙ add-mul len (count - len) z ∙ (let a = mul_comm len z in let b = mul_comm (count - len) z in omega (arith, a, b))

pub front_whole : (z len count : ℕ) → len ≤ count → (bytes front : List ℕ) → length bytes ≡ z * count → front ≡ take (z * len) bytes → length front ≡ z * len
front_whole z len count fits bytes front whole is = ap length is ∙ length-take-le (z * len) bytes (let split = parts_of z len count fits in omega (arith, whole, split))

pub back_whole : (z len count : ℕ) → len ≤ count → (bytes back : List ℕ) → length bytes ≡ z * count → back ≡ drop (z * len) bytes → length back ≡ z * (count - len)
back_whole z len count fits bytes back whole is = ap length is ∙ length-drop (z * len) bytes ∙ (let split = parts_of z len count fits in omega (arith, whole, split))
