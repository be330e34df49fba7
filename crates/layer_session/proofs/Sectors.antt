-- Bytes of parts of a file, and that a sector lies in one block.
use Rattle.std.proofs.Common.{◌≡◌, ℕ, ◌+◌, ◌*◌, ◌/◌, ◌%◌, ◌^◌, ◌<◌, ◌≤◌, ◌⊎◌, inl, inr, List, drop, take, sym, ap, ◌∙◌, arith}
use Rattle.std.proofs.Math.Nat.{mul_assoc}
use Rattle.std.proofs.lemmas.List.{drop-drop}
use Rattle.std.proofs.lemmas.Nat.{div-add-mod', mod_below, pow-add}
use Rattle.byteorder.specs.Numbers.{little_from-take}
use Rattle.vx_base.specs.Fields.{bytes_at, number_at, u64_at}
use Rattle.vhdx_format.specs.AllocationTables.{IsBlockSize, IsSectorSize}
use Rattle.vhdx_format.proofs.Placed.{bytes_of_front}
use Rattle.vhdx_format.proofs.SizeLemmas.{block_least, block_power, sector_cases}

-- bytes of bytes
pub bytes_in : (file : List ℕ) (at n k l : ℕ) → k + l ≤ n → bytes_at (bytes_at file at n) k l ≡ bytes_at file (at + k) l
unfolding bytes_at
bytes_in file at n k l h = bytes_of_front (drop at file) n k l h ∙ ap (take l) (drop-drop k at file)

-- a number of eight bytes that were read alone
pub read_back : (file : List ℕ) (at : ℕ) → u64_at (bytes_at file at 8) 0 ≡ u64_at file at
unfolding number_at bytes_at
read_back file at = little_from-take 0 8 8 (drop at file) (omega arith)

-- a sector that begins in a block ends in it
pub in_block : (s sector block : ℕ) → IsSectorSize sector → IsBlockSize block → s * sector % block + sector ≤ block
in_block s sector block sized of_block = by_sector (sector_cases sector sized)
  where
    -- blocks of q sectors of 512 bytes
    small : (q : ℕ) → block ≡ q * 512 → s * 512 % block + 512 ≤ block
    small q split =
        let d = s * 512 / block in
        let whole : d * block + s * 512 % block ≡ s * 512 = div-add-mod' (s * 512) block in
        let rows : d * block ≡ d * q * 512 = ap (λ n. d * n) split ∙ sym (mul_assoc d q 512) in
        let below : s * 512 % block < block = mod_below (s * 512) block (omega (arith, block_least block of_block)) in
        omega (arith, whole, rows, below, split)

    large : (q : ℕ) → block ≡ q * 4096 → s * 4096 % block + 4096 ≤ block
    large q split =
        let d = s * 4096 / block in
        let whole : d * block + s * 4096 % block ≡ s * 4096 = div-add-mod' (s * 4096) block in
        let rows : d * block ≡ d * q * 4096 = ap (λ n. d * n) split ∙ sym (mul_assoc d q 4096) in
        let below : s * 4096 % block < block = mod_below (s * 4096) block (omega (arith, block_least block of_block)) in
        omega (arith, whole, rows, below, split)

    by_sector : (sector ≡ 512) ⊎ (sector ≡ 4096) → s * sector % block + sector ≤ block
    by_sector (inl e) =
        let b = block_power block of_block in
        rw e (small (2 ^ (11 + b.power)) (b.is ∙ ap (λ n. 2 ^ n) (let same : 20 + b.power ≡ 11 + b.power + 9 = omega arith in same) ∙ pow-add 2 (11 + b.power) 9))
    by_sector (inr e) =
        let b = block_power block of_block in
        rw e (large (2 ^ (8 + b.power)) (b.is ∙ ap (λ n. 2 ^ n) (let same : 20 + b.power ≡ 8 + b.power + 12 = omega arith in same) ∙ pow-add 2 (8 + b.power) 12))

-- the first of some sectors on a disk is on it
pub first_below : (first count sectors : ℕ) → 0 < count → first + count ≤ sectors → first < sectors
first_below first count sectors some on_disk = omega (arith, some, on_disk)

-- and a part of them lies on it too
pub part_on : (first len count sectors : ℕ) → len ≤ count → first + count ≤ sectors → first + len ≤ sectors
part_on first len count sectors fits on_disk = omega (arith, fits, on_disk)
