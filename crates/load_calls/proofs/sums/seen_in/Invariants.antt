use Rattle.std.proofs.Common.{◌≡◌, ◌*◌, ◌≤◌}
use Rattle.load_calls.specs.Printed.{first_bytes}
use Rattle.load_calls.proofs.sums.seen_in.Given as goal

abbrev pub invariant-loop-k : goal.invariant-loop-k
invariant-loop-k l = record { sum : l.sum ≡ first_bytes l.bytes l.k; most : l.sum ≤ 255 * l.k }
