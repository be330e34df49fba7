use Rattle.std.proofs.Common.{◌≡◌, take}
use Rattle.store_model.specs.Trace.{ops_of}
use Rattle.mem_file.specs.Steps.{changes_of, ops_done}
use Rattle.mem_store.proofs.crash.steps_of.Given as goal

abbrev pub invariant-loop-change : goal.invariant-loop-change
invariant-loop-change l = ops_done l.steps.items ≡ ops_of l.file (changes_of (take l.change-index l.order))
