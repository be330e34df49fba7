-- The numbers that a load is drawn from (profile).
use Rattle.std.specs.Prelude.{ℕ, zero, suc, ◌+◌, ◌*◌, ◌/◌, ◌%◌, ◌^◌}

-- the state behind a draw: a linear congruence modulo 2 ^ 64
abbrev pub next_state : ℕ → ℕ
next_state x = (x * 6364136223846793005 + 1442695040888963407) % 2 ^ 64

-- the state behind so many draws, which is the seed at first
unfoldable pub state_behind : ℕ → ℕ → ℕ
state_behind seed zero = seed
state_behind seed (suc n) = next_state (state_behind seed n)

-- what draw n gives, counted from 1: the upper 31 bits of the state behind it
abbrev pub draw : ℕ → ℕ → ℕ
draw seed n = state_behind seed n / 2 ^ 33
