use Rattle.std.proofs.Common.{◌≡◌, ◌*◌, ◌^◌, ◌≤◌}
use Rattle.load_calls.specs.OneThread.{weighed_firsts}
use Rattle.load_calls.proofs.one_thread.weighed.Given as goal

abbrev pub invariant-loop-k : goal.invariant-loop-k
invariant-loop-k l = record { sum : l.sum ≡ weighed_firsts l.firsts l.k; most : l.sum ≤ 2 ^ 26 * l.k }
