-- Words of 64 bits as a list of bits.
use Rattle.std.specs.Prelude.{ℕ, ◌/◌, ◌%◌, List, slice_index}
use Rattle.std.specs.Int.{bit_at}

-- bit t, the least significant of a word first
abbrev pub bit_of : List ℕ → ℕ → ℕ
bit_of words t = bit_at (slice_index words (t / 64)) (t % 64)
