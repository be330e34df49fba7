-- Two files of one length with the same entries: the same blocks, and a table as sound.
use Rattle.std.proofs.Common.{◌≡◌, ◌≢◌, ℕ, ◌+◌, ◌*◌, ◌/◌, ◌<◌, ◌≤◌, ◌⊎◌, true, false, List, length, sym, ap, subst, refl, arith, inl, inr}
use Rattle.std.proofs.lemmas.Bool.{cases_Bool}
use Rattle.vx_base.specs.declared.parts.Parts.{Parts}
use Rattle.vhdx_format.specs.AllocationTables.{bitmap_index_of, state_of, table_entries, unit_of}
use Rattle.vhdx_format.specs.Fields.{megabyte}
use Rattle.vhdx_format.specs.FileParts.{shape_of, taken_areas}
use Rattle.vhdx_format.specs.HeldBlocks.{Area, HasBadPlace, HasBadState, HoldsBlock, IsBitmapEntry, IsPayloadEntry, IsSoundTable, LacksBitmap, bitmap, payload}
use Rattle.vhdx_format.specs.Layers.{Shape, block_count, chunk_ratio_of, table_entry}
use Rattle.vhdx_format.proofs.LayerLemmas.{div-div_ceil, entries_within}
use Rattle.vhdx_format.proofs.SizeLemmas.{ratio_in_range}
use Rattle.layer_session.specs.Keeping.{IsTablePlace, bitmap as bitmap_place, entries, metadata, regions}
use Rattle.layer_session.proofs.Alike.{AreSizes}

module _ (parts : Parts) (sizes : AreSizes parts) (old new : List ℕ) (as_long : length new ≡ length old) (same : (j : ℕ) → 8 * j + 8 ≤ parts.bat_len → table_entry (shape_of parts) new j ≡ table_entry (shape_of parts) old j) where
  abbrev p : Shape
  p = shape_of parts

  pub payload_same : (j : ℕ) → IsPayloadEntry p j → table_entry p new j ≡ table_entry p old j
  unfolding table_entries
  payload_same j e =
      let within = (entries_within (block_count p) (chunk_ratio_of p) p.parent (ratio_in_range p.sector p.block sizes.sector sizes.block).0).payloads e.block e.on_disk in
      same j (omega (arith, within, e.at_index, sizes.entries))

  pub bitmap_same : (j : ℕ) → IsBitmapEntry p j → table_entry p new j ≡ table_entry p old j
  unfolding table_entries
  bitmap_same j e =
      let within = (entries_within (block_count p) (chunk_ratio_of p) p.parent (ratio_in_range p.sector p.block sizes.sector sizes.block).0).bitmaps e.chunk e.parent e.on_disk in
      same j (omega (arith, within, e.at_index, sizes.entries))

  pub holds_same : (j : ℕ) (a : Area) → HoldsBlock p new j a → HoldsBlock p old j a
  holds_same j _ (payload e st) =
      let f = payload_same j e in
      subst (λ k. HoldsBlock p old j (record { at = k; len = p.block })) (ap (λ w. unit_of w * megabyte) (sym f)) (payload e (subst (λ w. (state_of w ≡ 6) ⊎ (state_of w ≡ 7)) f st))
  holds_same j _ (bitmap e st) =
      let f = bitmap_same j e in
      subst (λ k. HoldsBlock p old j (record { at = k; len = megabyte })) (ap (λ w. unit_of w * megabyte) (sym f)) (bitmap e (subst (λ w. state_of w ≡ 6) f st))

  module _ (sound : IsSoundTable p (taken_areas parts) old) where
    bad_state : (i : ℕ) → HasBadState p new i → ⊥
    bad_state i (inl (e, h)) = sound.states i (inl (e, subst (λ w. (state_of w ≡ 4) ⊎ ((state_of w ≡ 5) ⊎ ((state_of w ≡ 7) × (p.parent ≡ false)))) (payload_same i e) h))
    bad_state i (inr (e, f, g)) = sound.states i (inr (e, subst (λ w. state_of w ≢ 0) (bitmap_same i e) f, subst (λ w. state_of w ≢ 6) (bitmap_same i e) g))

    bad_place : (i : ℕ) → HasBadPlace p (taken_areas parts) new i → ⊥
    bad_place i (a, h, inl l) = sound.places i (a, holds_same i a h, inl l)
    bad_place i (a, h, inr (inl l)) = sound.places i (a, holds_same i a h, inr (inl (omega (arith, l, as_long))))
    bad_place i (a, h, inr (inr o)) = sound.places i (a, holds_same i a h, inr (inr o))

    chunk_entry : (b : ℕ) → b < block_count p → p.parent ≡ true → IsBitmapEntry p (bitmap_index_of (b / chunk_ratio_of p) (chunk_ratio_of p))
    chunk_entry b below parent = record { parent = parent; chunk = b / chunk_ratio_of p; on_disk = div-div_ceil b (block_count p) (chunk_ratio_of p) (ratio_in_range p.sector p.block sizes.sector sizes.block).0 below; at_index = refl }

    lacks : (i : ℕ) → LacksBitmap p new i → ⊥
    lacks i (e, seven, none) = by_parent (cases_Bool p.parent)
      where
        by_parent : (p.parent ≡ true) ⊎ (p.parent ≡ false) → ⊥
        by_parent (inl parent) = sound.bitmaps i (e, subst (λ w. state_of w ≡ 7) (payload_same i e) seven, subst (λ w. state_of w ≡ 0) (bitmap_same _ (chunk_entry e.block e.on_disk parent)) none)
        by_parent (inr alone) = bad_state i (inl (e, inr (inr (seven, alone))))

    pub sound_same : IsSoundTable p (taken_areas parts) new
    sound_same = record { states = bad_state; places = bad_place; apart = λ i j h. sound.apart i j (h.0, (h.1.0, h.1.1, holds_same i h.1.0 h.1.2, holds_same j h.1.1 h.1.3, h.1.4)); bitmaps = lacks }

  pub places_same : (i : ℕ) → IsTablePlace parts new i → IsTablePlace parts old i
  places_same i (regions l k) = regions l k
  places_same i (entries l k) = entries l k
  places_same i (metadata l k) = metadata l k
  places_same i (bitmap_place j be six l k) =
      let e = bitmap_same j be in
      bitmap_place j be (subst (λ w. state_of w ≡ 6) e six) (subst (λ w. unit_of w * megabyte ≤ i) e l) (subst (λ w. i < unit_of w * megabyte + megabyte) e k)

  pub places_kept : (i : ℕ) → IsTablePlace parts old i → IsTablePlace parts new i
  places_kept i (regions l k) = regions l k
  places_kept i (entries l k) = entries l k
  places_kept i (metadata l k) = metadata l k
  places_kept i (bitmap_place j be six l k) =
      let e = sym (bitmap_same j be) in
      bitmap_place j be (subst (λ w. state_of w ≡ 6) e six) (subst (λ w. unit_of w * megabyte ≤ i) e l) (subst (λ w. i < unit_of w * megabyte + megabyte) e k)
