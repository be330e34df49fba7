use Rattle.copy_workers.proofs.Fetching.{placed_source}
use Rattle.copy_workers.proofs.worker.Worker.new.Goals as goal

pub returns-clause-source : goal.returns-clause-source
returns-clause-source g c first began own of =
    placed_source g.S.Store.disk first c.args.seat.basis c.args.readers c.args.source c.new.result c.new.ensures.readers c.new.ensures.source began own of
