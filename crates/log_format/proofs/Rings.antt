-- The bytes at a place of a ring that may have run past its end.
use Rattle.std.proofs.Common.{◌≡◌, ℕ, ◌+◌, ◌-◌, ◌*◌, ◌%◌, ◌<◌, ◌≤◌, ◌⊎◌, List, length, take, drop, sym, ◌∙◌, ap, inl, inr, arith}
use Rattle.std.proofs.lemmas.Bool.{cases_lt}
use Rattle.vhdx_format.specs.Logs.{ring_bytes, wrapped}
use Rattle.vhdx_format.proofs.RingLaws.{ring_bytes-below, ring_bytes-past, wrapped-below, wrapped-past}

-- bytes of one sector don't run past the ring's end
pub piece_here : (ring : List ℕ) (place start n : ℕ) → length ring % 4096 ≡ 0 → place < 2 * length ring → place % 4096 + n ≤ 4096 → start ≡ wrapped (length ring) place
    → (start + n ≤ length ring) × (ring_bytes ring place n ≡ take n (drop start ring))
piece_here ring place start n whole twice sector is = by_place (cases_lt place (length ring))
  where
    by_place : (place < length ring) ⊎ (length ring ≤ place) → (start + n ≤ length ring) × (ring_bytes ring place n ≡ take n (drop start ring))
    by_place (inl h) =
        let e : start ≡ place = is ∙ wrapped-below (length ring) place h in
        let room : place + n ≤ length ring = omega (arith, whole, sector, h) in (omega (arith, e, room), ring_bytes-below ring place n (omega (arith, h)) room ∙ ap (λ s. take n (drop s ring)) (sym e))
    by_place (inr h) =
        let e : start ≡ place - length ring = is ∙ wrapped-past (length ring) place h in
        let room : place - length ring + n ≤ length ring = omega (arith, whole, sector, h, twice) in (omega (arith, e, room), ring_bytes-past ring place n h ∙ ap (λ s. take n (drop s ring)) (sym e))
