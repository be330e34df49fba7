use Rattle.std.proofs.Common.{ap}
use Rattle.mem_file.specs.Steps.{ops_done}
use Rattle.mem_store.proofs.Copies.{all_copied, none_made, steps_more}
use Rattle.mem_store.proofs.past.copied_steps.Goals as goal

pub loop-step-init : goal.loop-step-init
loop-step-init c = ap ops_done c.new-copies.ensures.items

pub loop-step-preserved : goal.loop-step-preserved
loop-step-preserved c = steps_more c.loop-step.copies.items c.push.new.self.items c.in_ok-try_clone.field-0 c.args.steps.now c.loop-step.step-index c.step-item.result c.in_ok-push.ensures.items c.loop-step.invariant c.in_ok-try_clone.ensures c.loop-step-test.true c.step-item.is

pub returns : goal.returns
returns c = all_copied ops_done _ c.args.steps.now c.loop-step.step-index c.loop-step.invariant c.loop-step-test.false

pub returns-in_err-push : goal.returns-in_err-push
returns-in_err-push c = none_made c.from_residual-in_err-push.result c.from_residual-in_err-push.ensures.0 _

pub returns-in_err-try_clone : goal.returns-in_err-try_clone
returns-in_err-try_clone c = none_made c.from_residual.result c.from_residual.ensures.0 _
