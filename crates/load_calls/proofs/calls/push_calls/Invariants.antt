use Rattle.std.proofs.Common.{◌≡◌, ◌+◌, ◌-◌, ◌*◌, ◌++◌}
use Rattle.load_calls.specs.Draws.{state_behind}
use Rattle.load_calls.specs.Load.{forms_from, lines_of, call_by}
use Rattle.load_calls.proofs.calls.push_calls.Given as goal

abbrev pub invariant-loop : goal.invariant-loop
invariant-loop l = record {
  state : l.draws ≡ state_behind l.seed (2 * (128 + 256 * (l.guest - 1) + l.counter));
  lines : l.lines.items ≡ l.initial.lines.items ++ lines_of l.guest (forms_from (call_by l.guest) l.seed (128 + 256 * (l.guest - 1)) l.counter);
}
