use Rattle.std.proofs.Common.{◌≡◌, ◌==◌, length, take_while, drop, ◌+◌, ◌-◌, ◌≤◌}
use Rattle.script.proofs.answer.run_len.Given as goal

-- what was gone through is in front of the rest
abbrev pub invariant-loop-alike : goal.invariant-loop-alike
invariant-loop-alike l = record {
  within : l.count ≤ length l.bytes;
  sum : l.count + length (take_while (λ b. b == l.fn.byte) (drop l.count l.bytes)) ≡ length (take_while (λ b. b == l.fn.byte) l.bytes);
}

abbrev pub decreases-loop-alike : goal.decreases-loop-alike
decreases-loop-alike l = length l.bytes - l.count
