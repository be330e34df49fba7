use Rattle.std.proofs.Common.{arith}
use Rattle.shared_chain.specs.Merging.{finishes}
use Rattle.copy_workers.proofs.Turns.{has_worked, may_turn}
use Rattle.copy_workers.proofs.worker.Worker.finish.Goals as goal

pub unlock-requires-clause-turn : goal.unlock-requires-clause-turn
unlock-requires-clause-turn g c =
    may_turn g.S.Store.disk c.args.self.now.seat c.lock.new.seat c.in-Ok.held c.value.result.now c.finish-answer.new.self finishes (omega arith) c.finish-answer.result c.value.ensures.value c.in-Ok.ensures.ok c.finish-answer.ensures.stepped

pub returns-clause-worked : goal.returns-clause-worked
returns-clause-worked g c =
    has_worked g.S.Store.disk c.args.self.now.seat c.lock.new.seat c.in-Ok.held c.value.result.now c.finish-answer.new.self finishes (omega arith) c.finish-answer.result c.value.ensures.value c.in-Ok.ensures.ok c.finish-answer.ensures.stepped
    c.unlock.new.seat c.unlock.ensures
