-- Which bits of a mask a read leaves, whatever the store tells.
use Rattle.std.specs.Prelude.{◌≡◌, ◌⊎◌, ℕ, ◌+◌, ◌*◌, ◌<◌, ◌≤◌, List, length}
use Rattle.vhdx_format.specs.SectorBitmaps.{bit_of}

-- the bits are as they were, but for so many from `at` on
abbrev pub KeepsOthers : ℕ → ℕ → List ℕ → List ℕ → Type 0
KeepsOthers at count old new = (k : ℕ) → k < 8 * length old → (k < at) ⊎ (at + count ≤ k) → bit_of new k ≡ bit_of old k

-- what was found stays so
abbrev pub KeepsFound : List ℕ → List ℕ → Type 0
KeepsFound old new = (k : ℕ) → k < 8 * length old → bit_of old k ≡ 1 → bit_of new k ≡ 1
