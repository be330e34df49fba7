-- Where the ring of a log is (profile).
use Rattle.std.specs.Prelude.{◌≡◌, ℕ, ◌+◌, ◌%◌, ◌^◌, ◌<◌, List, length}

-- the ring of a log that stands at `log` in its file: whole pages, and less than 4 GB of them, that end below 2^64
pub record IsRingAt (log : ℕ) (ring : List ℕ) : Type 0 where
  pub whole : length ring % 4096 ≡ 0
  pub short : length ring < 2 ^ 32
  pub ends : log + length ring < 2 ^ 64
