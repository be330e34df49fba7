-- The runs of sectors that lie in one block, block by block.
use Rattle.std.proofs.Common.{◌≡◌, ◌≢◌, ℕ, zero, suc, ◌+◌, ◌-◌, ◌*◌, ◌/◌, ◌%◌, ◌^◌, ◌<◌, ◌≤◌, ◌⊎◌, ◌==◌, false, List, ◌∷◌, refl, sym, ap, subst, ◌∙◌, arith, inl, inr}
use Rattle.std.specs.Prelude.{min}
use Rattle.std.specs.List.{range_with_len}
use Rattle.std.proofs.Math.Nat.{add-mul, mul-div-mul_right, mul-div_cancel, mul_assoc}
use Rattle.std.proofs.lemmas.Bool.{cases_eq, cases_lt, ne_eqb}
use Rattle.std.proofs.lemmas.Nat.{div-add-mod', div-mul-add, mod_below, mod-mul-add, pow-add}
use Rattle.vhdx_format.specs.Layers.{HasSizes, Shape, block_of}
use Rattle.vhdx_format.proofs.SizeLemmas.{block_least, block_power, sector_cases, sector_least}
use Rattle.layer_session.specs.Blocks.{blocks_of, run_in_block}
use Rattle.layer_session.specs.Planning.{blocks_with, per_block, run_count, run_first}

-- ---- blocks of whole sectors

-- a block of so many sectors
pub record IsOfSectors (z block per : ℕ) : Type 0 where
  pub block_is : block ≡ per * z
  pub some : 0 < z
  pub any : 0 < per

pub of_sectors : (p : Shape) → HasSizes p → IsOfSectors p.sector p.block (per_block p)
of_sectors p h = by_sector (sector_cases p.sector h.sector)
  where
    from : (q : ℕ) → p.block ≡ q * p.sector → IsOfSectors p.sector p.block (per_block p)
    from zero e = absurd (let l : 2 ^ 20 ≤ p.block = block_least p.block h.block in omega (arith, e, l))
    from (suc n) e =
        let some : 0 < p.sector = let l : 512 ≤ p.sector = sector_least p.sector h.sector in omega (arith, l) in
        let per : per_block p ≡ suc n = ap (λ b. b / p.sector) e ∙ mul-div_cancel (suc n) some in
        record { block_is = e ∙ ap (λ k. k * p.sector) (sym per); some = some; any = omega (arith, per) }

    by_sector : (p.sector ≡ 512) ⊎ (p.sector ≡ 4096) → IsOfSectors p.sector p.block (per_block p)
    by_sector (inl e) =
        let b = block_power p.block h.block in
        from (2 ^ (11 + b.power)) (b.is ∙ ap (λ n. 2 ^ n) (let same : 20 + b.power ≡ 11 + b.power + 9 = omega arith in same) ∙ pow-add 2 (11 + b.power) 9 ∙ ap (λ z. 2 ^ (11 + b.power) * z) (sym e))
    by_sector (inr e) =
        let b = block_power p.block h.block in
        from (2 ^ (8 + b.power)) (b.is ∙ ap (λ n. 2 ^ n) (let same : 20 + b.power ≡ 8 + b.power + 12 = omega arith in same) ∙ pow-add 2 (8 + b.power) 12 ∙ ap (λ z. 2 ^ (8 + b.power) * z) (sym e))

module _ (z block per : ℕ) (w : IsOfSectors z block per) where
  pub in_blocks : (s : ℕ) → s * z / block ≡ s / per
  in_blocks s = ap (λ n. s * z / n) w.block_is ∙ mul-div-mul_right s per w.some

  below : (r : ℕ) → r < per → r * z + z ≤ per * z
  below r h =
      let t = per - (r + 1) in
      let split : per * z ≡ (r + 1) * z + t * z = ap (λ n. n * z) (let e : per ≡ r + 1 + t = omega (arith, h) in e) ∙ add-mul (r + 1) t z in
      let one : (r + 1) * z ≡ r * z + 1 * z = add-mul r 1 z in
      omega (arith, split, one)

  pub rest_of : (s : ℕ) → s * z % block ≡ s % per * z
  rest_of s =
      let whole : s / per * per + s % per ≡ s = div-add-mod' s per in
      let rows : s * z ≡ s / per * per * z + s % per * z = ap (λ n. n * z) (sym whole) ∙ add-mul (s / per * per) (s % per) z in
      let row : s / per * per * z ≡ s / per * block = mul_assoc (s / per) per z ∙ ap (λ n. s / per * n) (sym w.block_is) in
      let fits : s % per * z < block = let k : s % per * z + z ≤ per * z = below (s % per) (mod_below s per w.any) in let e = w.block_is in let l = w.some in omega (arith, k, e, l) in
      ap (λ n. n % block) (rows ∙ ap (λ n. n + s % per * z) row) ∙ mod-mul-add (s / per) block (s % per * z) fits

  pub room_of : (s : ℕ) → (block - s * z % block) / z ≡ per - s % per
  room_of s =
      let t = per - s % per in
      let l : s % per < per = mod_below s per w.any in
      let split : per * z ≡ s % per * z + t * z = ap (λ n. n * z) (let e : per ≡ s % per + t = omega (arith, l) in e) ∙ add-mul (s % per) t z in
      let e = w.block_is in
      let rest = rest_of s in
      let left : block - s * z % block ≡ t * z = omega (arith, split, e, rest) in
      ap (λ n. n / z) left ∙ mul-div_cancel t w.some

-- ---- a run

-- the sectors of a call in its first block, and where the others go on
pub record IsRun (p : Shape) (first count : ℕ) : Type 0 where
  pub some : 0 < run_in_block p first count
  pub most : run_in_block p first count ≤ count
  pub from : run_first p first (block_of p first) ≡ first
  pub long : run_count p first (first + count) (block_of p first) ≡ run_in_block p first count
  pub blocks : blocks_with p first count ≡ block_of p first ∷ blocks_with p (first + run_in_block p first count) (count - run_in_block p first count)
  pub few : blocks_of p first count ≡ 1 + blocks_of p (first + run_in_block p first count) (count - run_in_block p first count)
  -- a later block
  pub above : (b : ℕ) → block_of p (first + run_in_block p first count) ≤ b
      → b < block_of p (first + run_in_block p first count) + blocks_of p (first + run_in_block p first count) (count - run_in_block p first count) → block_of p first < b
  pub later : (b : ℕ) → block_of p first < b → run_first p (first + run_in_block p first count) b ≡ run_first p first b

module _ (p : Shape) (h : HasSizes p) (first count : ℕ) (some : 0 < count) where
  abbrev per : ℕ
  per = per_block p

  w : IsOfSectors p.sector p.block per
  w = of_sectors p h

  abbrev run : ℕ
  run = run_in_block p first count

  pub run_is : run ≡ min count (per - first % per)
  run_is = ap (λ n. min count n) (room_of p.sector p.block per w first)

  at : (s : ℕ) → block_of p s ≡ s / per
  at s = in_blocks p.sector p.block per w s

  whole : (s : ℕ) → s / per * per + s % per ≡ s
  whole s = div-add-mod' s per

  less : (s : ℕ) → s % per < per
  less s = mod_below s per w.any

  next_row : (b : ℕ) → (b + 1) * per ≡ b * per + per
  next_row b = let e : (b + 1) * per ≡ b * per + 1 * per = add-mul b 1 per in omega (arith, e)

  -- a number of a block
  in_row : (b s : ℕ) → b * per ≤ s → s < b * per + per → s / per ≡ b
  in_row b s from to = ap (λ n. n / per) (let e : s ≡ b * per + (s - b * per) = omega (arith, from) in e) ∙ div-mul-add b per (s - b * per) (omega (arith, from, to))

  rows_up : (b c : ℕ) → b < c → b * per + per ≤ c * per
  rows_up b c l =
      let t = c - (b + 1) in
      let split : c * per ≡ (b + 1) * per + t * per = ap (λ n. n * per) (let e : c ≡ b + 1 + t = omega (arith, l) in e) ∙ add-mul (b + 1) t per in
      omega (arith, split, next_row b)

  -- the last sector of a call of more than its first block lies in a later one
  last_row : (s b : ℕ) → b * per + per ≤ s → b + 1 ≤ s / per
  last_row s b l = by_place (cases_lt (s / per) (b + 1))
    where
      by_place : (s / per < b + 1) ⊎ (b + 1 ≤ s / per) → b + 1 ≤ s / per
      by_place (inr k) = k
      by_place (inl k) = absurd (by_row (cases_lt (s / per) b))
        where
          by_row : (s / per < b) ⊎ (b ≤ s / per) → ⊥
          by_row (inl m) = omega (arith, rows_up (s / per) b m, whole s, less s, l)
          by_row (inr m) = let e : s / per ≡ b = omega (arith, k, m) in omega (arith, ap (λ n. n * per) e, whole s, less s, l)

  abbrev b0 : ℕ
  b0 = block_of p first

  here : b0 * per + first % per ≡ first
  here = ap (λ n. n * per + first % per) (at first) ∙ whole first

  abbrev left : ℕ
  left = count - run

  some_blocks : (s n : ℕ) → 0 < n → blocks_of p s n ≡ block_of p (s + n - 1) - block_of p s + 1
  some_blocks s n l = let e : (n == 0) ≡ false = ne_eqb n 0 (λ z. omega (arith, z, l)) in rw e refl

  no_blocks : (s n : ℕ) → n ≡ 0 → blocks_of p s n ≡ 0
  no_blocks s n z = rw z refl

  -- the rest begins with the next block
  pub next : 0 < left → (first + run ≡ b0 * per + per) × (block_of p (first + run) ≡ b0 + 1)
  next l =
      let e : first + run ≡ b0 * per + per = omega (arith, run_is, here, less first, l) in
      (e, at (first + run) ∙ in_row (b0 + 1) (first + run) (omega (arith, e, next_row b0)) (omega (arith, e, next_row b0, w.any)))

  few_blocks : blocks_of p first count ≡ 1 + blocks_of p (first + run) left
  few_blocks = by_left (cases_eq left 0)
    where
      by_left : (left ≡ 0) ⊎ (left ≢ 0) → blocks_of p first count ≡ 1 + blocks_of p (first + run) left
      by_left (inl none) =
          let last : block_of p (first + count - 1) ≡ b0 = at (first + count - 1) ∙ in_row b0 (first + count - 1) (omega (arith, here, some)) (omega (arith, here, run_is, none, some, less first)) in
          omega (arith, some_blocks first count some, last, no_blocks (first + run) left none)
      by_left (inr more) =
          let l : 0 < left = omega (arith, more) in
          let n = next l in
          let same : first + run + left - 1 ≡ first + count - 1 = omega (arith, l) in
          let last : b0 + 1 ≤ block_of p (first + count - 1) = subst (λ k. b0 + 1 ≤ k) (sym (at (first + count - 1))) (last_row (first + count - 1) b0 (omega (arith, n.0, l))) in
          omega (arith, some_blocks first count some, some_blocks (first + run) left l, ap (block_of p) same, n.1, last)

  range_cons : (a n m : ℕ) → m ≡ 1 + n → range_with_len a m ≡ a ∷ range_with_len (a + 1) n
  range_cons a n m e = ap (range_with_len a) (let f : m ≡ suc n = omega (arith, e) in f)

  pub runs : IsRun p first count
  runs = record {
    some = omega (arith, run_is, less first, some);
    most = omega (arith, run_is);
    from = omega (arith, here);
    long = omega (arith, here, next_row b0, run_is, less first);
    blocks = range_cons b0 (blocks_of p (first + run) left) (blocks_of p first count) few_blocks ∙ ap (λ (z : List ℕ). b0 ∷ z) (by_left (cases_eq left 0));
    few = few_blocks;
    above = λ b from to. by_rest b from to (cases_eq left 0);
    later = λ b l. let up = rows_up b0 b l in omega (arith, here, run_is, less first, up);
  }
    where
      by_left : (left ≡ 0) ⊎ (left ≢ 0) → range_with_len (b0 + 1) (blocks_of p (first + run) left) ≡ blocks_with p (first + run) left
      by_left (inl none) = let e : blocks_of p (first + run) left ≡ 0 = no_blocks (first + run) left none in rw e refl
      by_left (inr more) = ap (λ a. range_with_len a (blocks_of p (first + run) left)) (sym (next (omega (arith, more))).1)

      by_rest : (b : ℕ) → block_of p (first + run) ≤ b → b < block_of p (first + run) + blocks_of p (first + run) left → (left ≡ 0) ⊎ (left ≢ 0) → b0 < b
      by_rest b from to (inl none) = absurd (omega (arith, from, to, no_blocks (first + run) left none))
      by_rest b from to (inr more) = let n = next (omega (arith, more)) in omega (arith, n.1, from)
