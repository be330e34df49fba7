-- What a call that is refused for want of room says of the leaf's end.
use Rattle.std.proofs.Common.{◌≡◌, ◌≢◌, ◌<◌, ◌≤◌, ◌+◌, ◌-◌, ◌*◌, ◌/◌, ◌^◌, ◌==◌, ◌||◌, ◌&&◌, ◌⊎◌, ℕ, zero, suc, Bool, true, false, cond, List, [], ◌∷◌, length, Some, ap, ◌∙◌, arith, inl, inr}
use Rattle.std.specs.Prelude.{count_by, if◌then◌else◌}
use Rattle.std.specs.List.{list_any, range_with_len}
use Rattle.std.proofs.Math.Nat.{add-mul, mul-le-mul_right, mul_assoc}
use Rattle.std.proofs.lemmas.Bool.{cases_eq, leb-false, ne_eqb, or_parts}
use Rattle.std.proofs.lemmas.List.FromFn.{length-range_with_len}
use Rattle.std.proofs.lemmas.Nat.{div-add-mod', div_below, mod_below}
use Rattle.vhdx_format.specs.Fields.{megabyte}
use Rattle.vhdx_format.specs.Layers.{Shape, block_of, chunk_count, chunk_ratio_of}
use Rattle.vhdx_format.proofs.SizeLemmas.{block_least, block_most}
use Rattle.block_alloc.specs.Spaces.{Space, fits_in, limit, usable}
use Rattle.store_model.specs.Disk.{Disk}
use Rattle.store_model.specs.Trace.{Trace}
use Rattle.table_pages.specs.Held.{HasTables, shape_of}
use Rattle.layer_session.specs.Blocks.{blocks_of}
use Rattle.layer_session.specs.Planning.{blocks_with, is_chunk_wanted, is_making, is_part, step_at, wanted_bitmaps, wanted_blocks}
use Rattle.layer_session.specs.Steps.{held_by, is_full}
use Rattle.layer_session.specs.declared.file.Layer.{Layer}
use Rattle.layer_session.proofs.Counting.{count_cons, count_none, count_same}
use Rattle.std.proofs.lemmas.List.Sums.{count_by-le-length}
use Rattle.vhdx_format.proofs.MadeOpen.{block_units}

-- ---- how many blocks sectors lie in

-- a block has whole units, from 1 to 256
record HasUnits (block units : ℕ) : Type 0 where
  is : units * megabyte ≡ block
  some : 1 ≤ units
  most : units ≤ 256

units_of : (p : Shape) → 2 ^ 20 ≤ p.block → p.block ≤ 2 ^ 28 → p.block / megabyte * megabyte ≡ p.block → HasUnits p.block (p.block / megabyte)
units_of p least most whole = record { is = whole; some = omega (arith, least); most = omega (arith, most) }

-- so many sectors lie in a part of so many units, and in one block more at each end
module _ (block units a b : ℕ) (u : HasUnits block units) where
  any : 0 < block
  any = omega (arith, u.is, u.some)

  up_to : (n : ℕ) → n < n / block * block + 1 * block
  up_to n = omega (arith, div-add-mod' n block, mod_below n block any)

  quotients : (a + b) / block < a / block + b / block + 2
  quotients =
      let rows : (a / block + b / block + 2) * block ≡ a / block * block + b / block * block + 2 * block = add-mul (a / block + b / block) 2 block ∙ ap (λ n. n + 2 * block) (add-mul (a / block) (b / block) block) in
      div_below (a + b) block (a / block + b / block + 2) any (omega (arith, rows, up_to a, up_to b))

  -- the part's own blocks
  part : b < 2 ^ 28 → b / block * units ≤ 255
  part few =
      let rows : b / block * units * megabyte ≡ b / block * block = mul_assoc (b / block) units megabyte ∙ ap (λ n. b / block * n) u.is in
      omega (arith, rows, few, div-add-mod' b block)

few_blocks : (q units n : ℕ) → 1 ≤ units → units ≤ 256 → q * units ≤ 255 → n ≤ q + 2 → (n ≤ 257) × (n * units ≤ 767)
few_blocks q units n some most part few =
    let alone : q * 1 ≤ q * units = mul_low q 1 units some in
    let all : n * units ≤ (q + 2) * units = mul-le-mul_right units few in
    (omega (arith, alone, part, few), omega (arith, all, add-mul q 2 units, part, most))
  where
    mul_low : (q a b : ℕ) → a ≤ b → q * a ≤ q * b
    mul_low zero a b h = omega arith
    mul_low (suc q) a b h = omega (arith, mul_low q a b h)

blocks_few : (p : Shape) (units first count : ℕ) → HasUnits p.block units → p.sector ≡ 512 → count ≤ 524288 → (blocks_of p first count ≤ 257) × (blocks_of p first count * units ≤ 767)
blocks_few p units first zero u sector few = (omega arith, omega arith)
blocks_few p units first (suc n) u sector few =
    let a = first * 512 in
    let b = n * 512 in
    let ends : block_of p (first + suc n - 1) ≡ (a + b) / p.block = ap (λ z. (first + suc n - 1) * z / p.block) sector ∙ ap (λ m. m / p.block) (let e : (first + suc n - 1) * 512 ≡ first * 512 + n * 512 = omega arith in e) in
    let begins : block_of p first ≡ a / p.block = ap (λ z. first * z / p.block) sector in
    let within : b < 2 ^ 28 = omega (arith, few) in
    let is : blocks_of p first (suc n) ≡ block_of p (first + suc n - 1) - block_of p first + 1 = ap (λ t. if t then 0 else block_of p (first + suc n - 1) - block_of p first + 1) (ne_eqb (suc n) 0 (λ e. omega arith)) in
    let counted : blocks_of p first (suc n) ≤ b / p.block + 2 = omega (arith, is, ends, begins, quotients p.block units a b u) in
    few_blocks (b / p.block) units (blocks_of p first (suc n)) u.some u.most (part p.block units a b u within) counted

-- ---- how many sector bitmap blocks

or_le : (a b : Bool) → cond (a || b) 1 0 ≤ cond a 1 0 + cond b 1 0
or_le true b = omega arith
or_le false b = omega arith

and_le : (a b : Bool) → cond (a && b) 1 0 ≤ cond b 1 0
and_le true b = omega arith
and_le false b = omega arith

count_or : (x y : ℕ → Bool) (cs : List ℕ) → count_by (λ c. x c || y c) cs ≤ count_by x cs + count_by y cs
count_or x y [] = omega arith
count_or x y (c ∷ cs) = omega (arith, count_cons (λ c. x c || y c) c cs, count_cons x c cs, count_cons y c cs, or_le (x c) (y c), count_or x y cs)

count_and : (x y : ℕ → Bool) (cs : List ℕ) → count_by (λ c. x c && y c) cs ≤ count_by y cs
count_and x y [] = omega arith
count_and x y (c ∷ cs) = omega (arith, count_cons (λ c. x c && y c) c cs, count_cons y c cs, and_le (x c) (y c), count_and x y cs)

-- one number is one of some that follow one another at most once
count_above : (t : ℕ) (q : Bool) (a n : ℕ) → t < a → count_by (λ c. (t == c) && q) (range_with_len a n) ≡ 0
count_above t q a n low = count_same (λ c. (t == c) && q) (λ c. false) a n (λ i from to. ap (λ b. b && q) (ne_eqb t i (λ e. omega (arith, low, from, e)))) ∙ count_none a n

count_here : (t : ℕ) (q : Bool) (a n : ℕ) → count_by (λ c. (t == c) && q) (range_with_len a n) ≤ 1
count_here t q a zero = omega arith
count_here t q a (suc n) = by_place (cases_eq t a) (count_here t q (a + 1) n)
  where
    at_most : (b : Bool) → cond b 1 0 ≤ 1
    at_most true = omega arith
    at_most false = omega arith

    by_place : (t ≡ a) ⊎ (t ≢ a) → count_by (λ c. (t == c) && q) (range_with_len (a + 1) n) ≤ 1 → count_by (λ c. (t == c) && q) (range_with_len a (suc n)) ≤ 1
    by_place (inl e) rest = omega (arith, count_cons (λ c. (t == c) && q) a (range_with_len (a + 1) n), at_most ((t == a) && q), count_above t q (a + 1) n (omega (arith, e)))
    by_place (inr ne) rest =
        let none : ◌≡◌ {A = ℕ} (cond ((t == a) && q) 1 0) 0 = ap (λ b. cond (b && q) 1 0) (ne_eqb t a ne) in
        omega (arith, count_cons (λ c. (t == c) && q) a (range_with_len (a + 1) n), none, rest)

-- each of some items is in one chunk
any_few : (f : ℕ → ℕ) (q : ℕ → Bool) (bs : List ℕ) (a n : ℕ) → count_by (λ c. list_any (λ b. (f b == c) && q b) bs) (range_with_len a n) ≤ length bs
any_few f q [] a n = omega (arith, count_none a n)
any_few f q (b ∷ bs) a n =
    omega (arith, count_or (λ c. (f b == c) && q b) (λ c. list_any (λ b. (f b == c) && q b) bs) (range_with_len a n), count_here (f b) (q b) a n, any_few f q bs a n)

bitmaps_few : (p : Shape) (file : List ℕ) (trims : Bool) (first count : ℕ) → wanted_bitmaps p file trims first count ≤ blocks_of p first count
bitmaps_few p file trims first count =
    let bs = blocks_with p first count in
    let lacks : ℕ → Bool = λ chunk. is_chunk_wanted p file trims first count chunk in
    let any : ℕ → Bool = λ chunk. list_any (λ b. (b / chunk_ratio_of p == chunk) && is_part (step_at p file trims first (first + count) b)) bs in
    let within : wanted_bitmaps p file trims first count ≤ count_by any (range_with_len 0 (chunk_count p)) = count_and _ any (range_with_len 0 (chunk_count p)) in
    omega (arith, within, any_few (λ b. b / chunk_ratio_of p) (λ b. is_part (step_at p file trims first (first + count) b)) bs 0 (chunk_count p), length-range_with_len (block_of p first) (blocks_of p first count))

payloads_few : (p : Shape) (file : List ℕ) (trims : Bool) (first count : ℕ) → wanted_blocks p file trims first count ≤ blocks_of p first count
payloads_few p file trims first count =
    omega (arith, count_by-le-length (λ b. is_making (step_at p file trims first (first + count) b)) (blocks_with p first count), length-range_with_len (block_of p first) (blocks_of p first count))

-- ---- the end

past_limit : (payloads units bitmaps : ℕ) (s : Space) → fits_in payloads units bitmaps s ≡ false → limit < s.next + payloads * units + bitmaps
past_limit payloads units bitmaps s full =
    let past : limit < s.next + (payloads - usable units s) * units + bitmaps = leb-false _ _ (or_parts ((payloads - usable units s == 0) && (bitmaps == 0)) _ full).1 in
    let fewer : payloads - usable units s ≤ payloads = omega arith in
    omega (arith, past, mul-le-mul_right units fewer)

-- A call on at most 524,288 sectors asks for at most 1,024 units.
pub full_is_far : (trims : Bool) (first count next : ℕ) (leaf : Layer) (disk : Disk) (trace : Trace) → HasTables leaf.tables.parts → leaf.tables.parts.sector ≡ 512 → count ≤ 524288 → disk.told ≡ Some trace
    → is_full trims first count next leaf disk → 2 ^ 43 < next + 1024
full_is_far trims first count next leaf disk trace sizes sector few told full =
    let p : Shape = shape_of leaf.tables.parts in
    let file = held_by leaf trace in
    let units = p.block / megabyte in
    let u : HasUnits p.block units = units_of p (block_least p.block sizes.block) (block_most p.block sizes.block) (block_units p.block sizes.block) in
    let blocks = blocks_few p units first count u sector few in
    let past = past_limit (wanted_blocks p file trims first count) units (wanted_bitmaps p file trims first count) leaf.space (full.1 trace told) in
    let payload : wanted_blocks p file trims first count * units ≤ blocks_of p first count * units = mul-le-mul_right units (payloads_few p file trims first count) in
    omega (arith, past, payload, blocks.0, blocks.1, bitmaps_few p file trims first count, full.0)
