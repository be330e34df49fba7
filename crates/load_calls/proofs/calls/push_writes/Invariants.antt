use Rattle.std.proofs.Common.{◌≡◌, ◌+◌, ◌*◌, ◌++◌}
use Rattle.load_calls.specs.Draws.{state_behind}
use Rattle.load_calls.specs.Load.{forms_from, lines_of, write_by}
use Rattle.load_calls.proofs.calls.push_writes.Given as goal

abbrev pub invariant-loop : goal.invariant-loop
invariant-loop l = record {
  state : l.draws ≡ state_behind l.seed (2 * (32 * l.file + l.counter));
  lines : l.lines.items ≡ l.initial.lines.items ++ lines_of 1 (forms_from write_by l.seed (32 * l.file) l.counter);
}
