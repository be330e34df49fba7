use Rattle.copy_workers.proofs.Turns.{swept_through, worked_twice}
use Rattle.copy_workers.proofs.worker.Worker.deliver.Goals as goal

pub returns-in-Err-Stale-clause-worked : goal.returns-in-Err-Stale-clause-worked
returns-in-Err-Stale-clause-worked g c = worked_twice 2 2 c.args.self.now.seat c.move_stripe.new.self.seat c.move_live.new.self.seat c.move_stripe.ensures.worked c.move_live.ensures.worked

pub returns-in-Err-Stale-clause-swept : goal.returns-in-Err-Stale-clause-swept
returns-in-Err-Stale-clause-swept g c = swept_through c.args.stripe c.args.self.now.seat c.move_stripe.new.self.seat c.move_live.new.self.seat c.move_stripe.ensures.worked.keeps c.move_live.ensures.swept c.move_live.ensures.worked.keeps.free
