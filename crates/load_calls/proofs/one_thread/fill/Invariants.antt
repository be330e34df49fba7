use Rattle.std.proofs.Common.{◌≡◌, ℕ, ◌<◌, ◌≤◌, get_or, length}
use Rattle.load_calls.proofs.one_thread.fill.Given as goal

abbrev pub invariant-loop-k : goal.invariant-loop-k
invariant-loop-k l = record {
  len : length l.firsts ≡ length l.initial.firsts;
  filled : (j : ℕ) → l.first ≤ j → j < l.k → get_or l.firsts j 0 ≡ l.byte;
  before : (j : ℕ) → j < l.first → get_or l.firsts j 0 ≡ get_or l.initial.firsts j 0;
  behind : (j : ℕ) → l.k ≤ j → get_or l.firsts j 0 ≡ get_or l.initial.firsts j 0;
}
