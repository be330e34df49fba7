-- What a run of sectors touches.
use Rattle.std.proofs.Common.{◌≡◌, ℕ, ◌+◌, ◌-◌, ◌*◌, ◌/◌, ◌%◌, ◌<◌, ◌≤◌, ◌⊎◌, true, false, List, length, refl, ap, ◌∙◌, arith, inl, inr}
use Rattle.std.specs.Prelude.{Ok}
use Rattle.std.proofs.lemmas.Bool.{cases_lt, cases_Bool, le-leb, lt-ltb}
use Rattle.std.proofs.lemmas.Nat.{div_below, div-add-mod', mod_below}
use Rattle.vx_base.specs.declared.parts.Parts.{Parts}
use Rattle.vhdx_format.specs.Fields.{megabyte, overlaps}
use Rattle.vhdx_format.specs.FileParts.{shape_of, taken_areas, read_parts}
use Rattle.vhdx_format.specs.HeldBlocks.{Area, HoldsBlock, IsBitmapEntry, IsPayloadEntry, IsSoundTable, bitmap, payload}
use Rattle.vhdx_format.specs.Layers.{Shape, block_of, chunk_ratio_of, entry_of, place_at}
use Rattle.vhdx_format.proofs.LayerLemmas.{entries_apart, sector_entries}
use Rattle.vhdx_format.proofs.SizeLemmas.{ratio_in_range, sector_least}
use Rattle.log_write.specs.Sessions.{IsKept}
use Rattle.layer_session.specs.Calls.{is_among}
use Rattle.layer_session.specs.Keeping.{AreBeside, IsRunAt, IsTablePlace, StandsAt, bitmap as bitmap_place, entries, metadata, regions}
use Rattle.layer_session.proofs.Alike.{AreSizes, IsInFile, block_in_file, block_kept, off_range}
use Rattle.layer_session.proofs.Places.{in_run, same_sector}
use Rattle.layer_session.proofs.Sectors.{in_block}

pub among : (first count s : ℕ) → first ≤ s → s < first + count → is_among first count s ≡ true
among first count s from to = let a = le-leb first s from in let b = lt-ltb s (first + count) to in rw (a, b) refl

-- a committed block and the one as held, of the sectors of a run
module _ (parts : Parts) (sizes : AreSizes parts) (bytes now : List ℕ) (numbers : read_parts parts.header now ≡ Ok parts)
    (sound : IsSoundTable (shape_of parts) (taken_areas parts) now) (beside : AreBeside parts bytes now)
    (first count place : ℕ) (run : IsRunAt (shape_of parts) now first count place) (on_disk : first + count ≤ parts.geometry.sectors) where
  abbrev p : Shape
  p = shape_of parts

  abbrev entry : ℕ
  entry = entry_of p first

  abbrev here : Area
  here = record { at = place_at p now entry; len = p.block }

  abbrev was : ℕ → Area
  was s = record { at = place_at p bytes (entry_of p s); len = p.block }

  first_below : first < p.sectors
  first_below = let some = run.some in omega (arith, on_disk, some)

  payload_of : (s : ℕ) → s < p.sectors → IsPayloadEntry p (entry_of p s)
  payload_of s below = (sector_entries p (record { sector = sizes.sector; block = sizes.block })).payload s below

  pub holds : HoldsBlock p now entry here
  holds = payload (payload_of first first_below) run.there

  ratio_some : 0 < chunk_ratio_of p
  ratio_some = (ratio_in_range p.sector p.block sizes.sector sizes.block).0

  -- it lies in that block
  pub in_area : (i : ℕ) → place ≤ i → i < place + count * p.sector → (place_at p now entry ≤ i) × (i < place_at p now entry + p.block)
  in_area i from to = let a = run.place_is in let b = run.run in (omega (arith, a, from), omega (arith, a, b, to))

  pub run_kept : (i : ℕ) → place ≤ i → i < place + count * p.sector → IsKept parts.header i × (i < length now)
  run_kept i from to = let w = in_area i from to in block_kept parts now now (omega arith) sizes numbers sound entry here holds i w.0 w.1

  -- a sector that had a byte there when it was committed is one of the run
  pub named_only : (s i : ℕ) → s < p.sectors → StandsAt p bytes s i → place ≤ i → i < place + count * p.sector → is_among first count s ≡ true
  named_only s i below st from to = by_beside (beside entry (entry_of p s) here (was s) holds (payload (payload_of s below) st.there))
    where
      w : (place_at p now entry ≤ i) × (i < place_at p now entry + p.block)
      w = in_area i from to

      fits : s * p.sector % p.block + p.sector ≤ p.block
      fits = in_block s p.sector p.block sizes.sector sizes.block

      by_beside : ((entry ≡ entry_of p s) × (here ≡ was s))
          ⊎ ((place_at p now entry + p.block ≤ place_at p bytes (entry_of p s)) ⊎ (place_at p bytes (entry_of p s) + p.block ≤ place_at p now entry)) → is_among first count s ≡ true
      by_beside (inr (inl l)) = let a = st.from in absurd (omega (arith, l, w, a))
      by_beside (inr (inr l)) = let a = st.to in absurd (omega (arith, l, w, a, fits))
      by_beside (inl (e, f)) =
          let one : block_of p first ≡ block_of p s = (entries_apart (chunk_ratio_of p) ratio_some).payloads (block_of p first) (block_of p s) e in
          let at : place_at p now entry ≡ place_at p bytes (entry_of p s) = ap (λ (a : Area). a.at) f in
          let z = p.sector in
          let least = sector_least p.sector sizes.sector in
          let some : 0 < z = omega (arith, least) in
          let k = (i - place) / z in
          let r = (i - place) % z in
          let split : k * z + r ≡ i - place = div-add-mod' (i - place) z in
          let rest : r < z = mod_below (i - place) z some in
          let few : k < count = div_below (i - place) z count some (omega (arith, from, to)) in
          let place_is = run.place_is in
          let all = run.run in
          let inside : first * z % p.block + k * z < p.block = omega (arith, split, from, to, all) in
          let t = in_run z first k p.block inside in
          let block_is = t.block_is in
          let off = t.place_is in
          let st_from = st.from in
          let st_to = st.to in
          let same : first + k ≡ s =
          same_sector z p.block (place_at p now entry) (first + k) s i (block_is ∙ one) (omega (arith, off, place_is, split, from)) (omega (arith, off, place_is, split, rest, from)) (omega (arith, at, st_from)) (omega (arith, at, st_to)) in
          among first count s (omega (arith, same)) (omega (arith, same, few))

  pub in_file : IsInFile parts now now (omega arith) sizes numbers sound here
  in_file = block_in_file parts now now (omega arith) sizes numbers sound entry here holds

  -- two blocks as held have no place together
  apart_held : (i j x : ℕ) (a b : Area) → HoldsBlock p now i a → HoldsBlock p now j b → (i ≡ j → ⊥) → a.at ≤ x → x < a.at + a.len → b.at ≤ x → x < b.at + b.len → ⊥
  apart_held i j x a b ha hb other from to ofrom oto = by_order (cases_lt i j) (cases_Bool (overlaps a.at a.len b.at b.len)) (cases_Bool (overlaps b.at b.len a.at a.len))
    where
      no_range : (x < b.at) ⊎ (b.at + b.len ≤ x) → ⊥
      no_range (inl l) = omega arith
      no_range (inr l) = omega arith

      no_other : (x < a.at) ⊎ (a.at + a.len ≤ x) → ⊥
      no_other (inl l) = omega arith
      no_other (inr l) = omega arith

      by_order : (i < j) ⊎ (j ≤ i) → (overlaps a.at a.len b.at b.len ≡ true) ⊎ (overlaps a.at a.len b.at b.len ≡ false) → (overlaps b.at b.len a.at a.len ≡ true) ⊎ (overlaps b.at b.len a.at a.len ≡ false) → ⊥
      by_order (inl l) (inl o) any = sound.apart i j (l, (a, b, ha, hb, o))
      by_order (inl l) (inr n) any = no_range (off_range a.at a.len b.at b.len x n from to)
      by_order (inr l) any (inl o) = sound.apart j i (by_ne (cases_lt j i), (b, a, hb, ha, o))
        where
          by_ne : (j < i) ⊎ (i ≤ j) → j < i
          by_ne (inl k) = k
          by_ne (inr k) = absurd (other (omega (arith, l, k)))
      by_order (inr l) any (inr n) = no_other (off_range b.at b.len a.at a.len x n ofrom oto)

  no_bitmap : (index : ℕ) → IsBitmapEntry p index → entry ≡ index → ⊥
  no_bitmap index be e = (entries_apart (chunk_ratio_of p) ratio_some).kinds (block_of p first) be.chunk (e ∙ be.at_index)

  abbrev block_at : List ℕ → ℕ → Area
  block_at file index = record { at = place_at p file index; len = megabyte }

  -- no place of it is one of the tables' as held
  pub off_tables : (i : ℕ) → place ≤ i → i < place + count * p.sector → IsTablePlace parts now i → ⊥
  off_tables i from to any = by_place any
    where
      w : (place_at p now entry ≤ i) × (i < place_at p now entry + p.block)
      w = in_area i from to

      low : megabyte ≤ place_at p now entry
      low = in_file.low

      out : (b m : ℕ) → overlaps (place_at p now entry) p.block b m ≡ false → b ≤ i → i < b + m → ⊥
      out b m o l k = by_side (off_range (place_at p now entry) p.block b m i o w.0 w.1)
        where
          by_side : (i < b) ⊎ (b + m ≤ i) → ⊥
          by_side (inl x) = omega (arith, x, l)
          by_side (inr x) = omega (arith, x, k)

      by_place : IsTablePlace parts now i → ⊥
      by_place (regions l k) = omega (arith, k, w, low)
      by_place (entries l k) = out parts.bat_at parts.bat_len in_file.off_table l k
      by_place (metadata l k) = out parts.meta_at parts.meta_len in_file.off_metadata l k
      by_place (bitmap_place index be six l k) = apart_held entry index i here (block_at now index) holds (bitmap be six) (no_bitmap index be) w.0 w.1 l k
