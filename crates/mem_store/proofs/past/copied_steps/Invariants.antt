use Rattle.std.proofs.Common.{◌≡◌, take}
use Rattle.mem_file.specs.Steps.{ops_done}
use Rattle.mem_store.proofs.past.copied_steps.Given as goal

abbrev pub invariant-loop-step : goal.invariant-loop-step
invariant-loop-step l = ops_done l.copies.items ≡ ops_done (take l.step-index l.steps)
