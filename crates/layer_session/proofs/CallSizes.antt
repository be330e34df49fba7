-- How many blocks the sectors of one call lie in.
use Rattle.std.proofs.Common.{◌≡◌, ℕ, zero, suc, ◌+◌, ◌-◌, ◌*◌, ◌/◌, ◌^◌, ◌<◌, ◌≤◌, ◌⊎◌, ap, subst, ◌∙◌, arith, inl, inr, mul_comm, if◌then◌else◌}
use Rattle.std.proofs.Math.Nat.{add-mul, mul-le-mul_right, mul_assoc}
use Rattle.std.proofs.lemmas.Bool.{cases_lt, ne_eqb}
use Rattle.std.proofs.lemmas.Nat.{div-add-mod', div_below, mod_below}
use Rattle.vhdx_format.specs.Layers.{HasSizes, Shape, block_of}
use Rattle.vhdx_format.proofs.SizeLemmas.{block_least}
use Rattle.layer_session.specs.Blocks.{blocks_of}
use Rattle.layer_session.specs.Planning.{per_block}
use Rattle.layer_session.proofs.BlockRuns.{in_blocks, of_sectors}

-- sectors of no more than 256 MB are fewer than 256 blocks have, and one
few_sectors : (z per n : ℕ) → 0 < z → 2 ^ 20 ≤ per * z → z * (n + 1) ≤ 2 ^ 28 → n < 256 * per
few_sectors z per n some least size = by_place (cases_lt n (256 * per))
  where
    by_place : (n < 256 * per) ⊎ (256 * per ≤ n) → n < 256 * per
    by_place (inl less) = less
    by_place (inr all) =
        let rows : 256 * per * z ≤ n * z = mul-le-mul_right z all in
        let whole : 256 * per * z ≡ 256 * (per * z) = mul_assoc 256 per z in
        let one : (n + 1) * z ≡ n * z + 1 * z = add-mul n 1 z in
        let swap : z * (n + 1) ≡ (n + 1) * z = mul_comm z (n + 1) in
        absurd (omega (arith, rows, whole, one, swap, some, least, size))

-- so they lie in 257 blocks at most
pub few_in_call : (p : Shape) → HasSizes p → (first count : ℕ) → p.sector * count ≤ 2 ^ 28 → blocks_of p first count ≤ 257
few_in_call p h first zero size = omega arith
few_in_call p h first (suc n) size =
    let w = of_sectors p h in
    let per : ℕ = per_block p in
    let low : n < 256 * per = few_sectors p.sector per n w.some (subst (λ b. 2 ^ 20 ≤ b) w.block_is (block_least p.block h.block)) (let e : p.sector * suc n ≡ p.sector * (n + 1) = ap (λ k. p.sector * k) (let one : suc n ≡ n + 1 = omega arith in one) in omega (arith, e, size)) in
    let last : block_of p (first + suc n - 1) ≡ (first + n) / per = in_blocks p.sector p.block per w (first + suc n - 1) ∙ ap (λ s. s / per) (let e : first + suc n - 1 ≡ first + n = omega arith in e) in
    let begin : block_of p first ≡ first / per = in_blocks p.sector p.block per w first in
    let rows : (first / per + 257) * per ≡ first / per * per + 257 * per = add-mul (first / per) 257 per in
    let below : (first + n) / per < first / per + 257 = div_below (first + n) per (first / per + 257) w.any (omega (arith, rows, low, div-add-mod' first per, mod_below first per w.any)) in
    let is : blocks_of p first (suc n) ≡ block_of p (first + suc n - 1) - block_of p first + 1 = ap (λ t. if t then 0 else block_of p (first + suc n - 1) - block_of p first + 1) (ne_eqb (suc n) 0 (λ e. omega arith)) in
    omega (arith, is, last, begin, below)
