use Rattle.copy_workers.proofs.Turns.{worked_twice}
use Rattle.copy_workers.proofs.worker.Worker.move_live.Goals as goal

pub returns-clause-worked : goal.returns-clause-worked
returns-clause-worked g c = worked_twice 1 1 c.args.self.now.seat c.fetch_live.new.self.seat c.put.new.self.seat c.fetch_live.ensures.worked c.put.ensures.worked
