use Rattle.std.proofs.Common.{◌≡◌, ℕ, length, get_or}
use Rattle.std.specs.Prelude.{◌&&◌, nat_le, nat_lt, if◌then◌else◌}
use Rattle.merge_core.proofs.stamps.fill_words.Given as goal

abbrev pub invariant-loop-t : goal.invariant-loop-t
invariant-loop-t l = (length l.words ≡ length l.fn.words) × ((k : ℕ) → get_or l.words k 0 ≡ (if nat_le l.from k && nat_lt k l.t then l.value else get_or l.fn.words k 0))
