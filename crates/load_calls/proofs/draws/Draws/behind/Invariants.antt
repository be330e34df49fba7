use Rattle.std.proofs.Common.{◌≡◌}
use Rattle.load_calls.specs.Draws.{state_behind}
use Rattle.load_calls.proofs.draws.Draws.behind.Given as goal

abbrev pub invariant-loop : goal.invariant-loop
invariant-loop l = l.draws ≡ state_behind l.seed l.counter
