use Rattle.std.proofs.Common.{◌≡◌, ◌*◌, ◌^◌, ◌≤◌}
use Rattle.load_calls.specs.Printed.{weighed_bytes}
use Rattle.load_calls.proofs.sums.page_sum.Given as goal

abbrev pub invariant-loop-k : goal.invariant-loop-k
invariant-loop-k l = record { sum : l.sum ≡ weighed_bytes l.first l.bytes l.k; most : l.sum ≤ 2 ^ 41 * l.k }
