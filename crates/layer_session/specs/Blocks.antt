-- Runs of sectors that lie in one block.
use Rattle.std.specs.Prelude.{ℕ, ◌+◌, ◌-◌, ◌*◌, ◌/◌, ◌%◌, ◌==◌, if◌then◌else◌, min}
use Rattle.vhdx_format.specs.Layers.{Shape, block_of}

-- how many of the sectors from `first` on lie in its block, at most `count`
abbrev pub run_in_block : Shape → ℕ → ℕ → ℕ
run_in_block p first count = min count ((p.block - first * p.sector % p.block) / p.sector)

-- how many blocks they lie in
abbrev pub blocks_of : Shape → ℕ → ℕ → ℕ
blocks_of p first count = if count == 0 then 0 else block_of p (first + count - 1) - block_of p first + 1
