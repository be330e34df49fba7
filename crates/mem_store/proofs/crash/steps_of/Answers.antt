use Rattle.std.proofs.Common.{ap}
use Rattle.store_model.specs.Trace.{ops_of}
use Rattle.mem_file.specs.Steps.{changes_of, ops_done}
use Rattle.mem_store.proofs.Copies.{all_copied, none_made}
use Rattle.mem_store.proofs.crash.steps_of.Goals as goal

pub loop-change-init : goal.loop-change-init
loop-change-init c = ap ops_done c.new-steps.ensures.items

pub returns : goal.returns
returns c = all_copied (λ order. ops_of c.args.file (changes_of order)) _ c.args.order.now c.loop-change.change-index c.loop-change.invariant c.loop-change-test.false

pub returns-in_err-push : goal.returns-in_err-push
returns-in_err-push c = none_made c.from_residual-in_err-push.result c.from_residual-in_err-push.ensures.0 _

pub returns-in_err-try_clone : goal.returns-in_err-try_clone
returns-in_err-try_clone c = none_made c.from_residual.result c.from_residual.ensures.0 _
