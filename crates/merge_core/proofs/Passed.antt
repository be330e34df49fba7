-- Stripes that a file has nothing of, by sectors that it doesn't have.
use Rattle.std.proofs.Common.{◌≡◌, ◌≢◌, ◌⊎◌, ℕ, ◌+◌, ◌-◌, ◌*◌, ◌/◌, ◌%◌, ◌<◌, ◌≤◌, None, cond, inl, inr, sym, ap, subst, ◌∙◌, arith}
use Rattle.std.proofs.Math.Nat.{add-mul, mul-le-mul_right}
use Rattle.std.proofs.lemmas.Bool.{cases_eq, cases_lt, ne_eqb}
use Rattle.std.proofs.lemmas.Nat.{div-add-mod', mod_below}
use Rattle.store_model.specs.Disk.{Disk, WhereTold}
use Rattle.chain_model.specs.Layers as chain
use Rattle.chain_model.specs.Merges.{LacksStripes}
use Rattle.chain_model.specs.Stripes.{per_stripe, stripe_count, stripe_of}
use Rattle.layer_session.specs.Absent.{OwnsNone}
use Rattle.layer_session.specs.FileLayers.{Holds, IsReadableFile}
use Rattle.layer_session.specs.declared.file_layer.FileLayer.{FileLayer}
use Rattle.vx_base.specs.declared.parts.Geometry.{Geometry}
use Rattle.merge_core.specs.Ranges.{whole_stripes}
use Rattle.merge_core.proofs.PieceLemmas.{holds_off, some_sectors}

module _ (from count per : ℕ) (some : 0 < per) where
  whole : (s : ℕ) → s / per * per + s % per ≡ s
  whole s = div-add-mod' s per

  rest : (s : ℕ) → s % per < per
  rest s = mod_below s per some

  -- whole stripes from one on end within the sectors
  ends_within : (from + count / per) * per ≤ from * per + count
  ends_within = let sum : (from + count / per) * per ≡ from * per + count / per * per = add-mul from (count / per) per in omega (arith, sum, whole count)

  begins_behind : (s : ℕ) → from ≤ s / per → from * per ≤ s
  begins_behind s le = let up : from * per ≤ s / per * per = mul-le-mul_right per le in omega (arith, up, whole s)

  lies_within : (s : ℕ) → s / per < from + count / per → s < from * per + count
  lies_within s less =
      let up : (s / per + 1) * per ≤ (from + count / per) * per = mul-le-mul_right per (let le : s / per + 1 ≤ from + count / per = omega (arith, less) in le) in
      let next : (s / per + 1) * per ≡ s / per * per + 1 * per = add-mul (s / per) 1 per in
      omega (arith, up, next, ends_within, whole s, rest s)

-- a layer that has none of the sectors, and none off the disk, has none of the stripes
pub lacks_passed : (z n from count : ℕ) (layer : chain.Layer) → 0 < per_stripe z → OwnsNone layer (from * per_stripe z) count → ((s : ℕ) → n ≤ s → layer s ≡ None) → LacksStripes z from (whole_stripes from count z n) layer
lacks_passed z n from count layer some none off s low high = by_disk (cases_lt s n)
  where
    at : from * per_stripe z ≤ s → s < from * per_stripe z + count → layer s ≡ None
    at le less = ap layer (let e : s ≡ from * per_stripe z + (s - from * per_stripe z) = omega (arith, le) in e) ∙ none (s - from * per_stripe z) (omega (arith, le, less))

    by_end : s < n → (from * per_stripe z + count ≡ n) ⊎ (from * per_stripe z + count ≢ n) → layer s ≡ None
    by_end on (inl end) = at (begins_behind from count (per_stripe z) some s low) (omega (arith, on, end))
    by_end on (inr other) =
        at (begins_behind from count (per_stripe z) some s low)
        (lies_within from count (per_stripe z) some s
        (subst (λ k. stripe_of z s < from + k) (ap (λ b. cond b (stripe_count z n - from) (count / per_stripe z)) (ne_eqb (from * per_stripe z + count) n other)) high))

    by_disk : (s < n) ⊎ (n ≤ s) → layer s ≡ None
    by_disk (inr past) = off s past
    by_disk (inl on) = by_end on (cases_eq (from * per_stripe z + count) n)

-- so it is with what a look at a file found
pub pass_none : (l : FileLayer) (disk : Disk) (geometry : Geometry) → IsReadableFile geometry disk l → (from first count k : ℕ) → first ≡ from * per_stripe geometry.sector → k ≡ whole_stripes from count geometry.sector geometry.sectors
    → ((layer : chain.Layer) → WhereTold disk.told (λ trace. Holds l trace layer → OwnsNone layer first count)) → (layer : chain.Layer) → WhereTold disk.told (λ trace. Holds l trace layer → LacksStripes geometry.sector from k layer)
pass_none l disk geometry readable from first count k first_is k_is none layer trace told holds =
    subst (λ k. LacksStripes geometry.sector from k layer) (sym k_is)
    (lacks_passed geometry.sector geometry.sectors from count layer (some_sectors l disk geometry readable) (subst (λ f. OwnsNone layer f count) first_is (none layer trace told holds))
    (λ s past. holds_off l trace layer holds s (subst (λ n. n ≤ s) (sym readable.sectors) past)))
