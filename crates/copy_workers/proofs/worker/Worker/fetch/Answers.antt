use Rattle.vx_base.proofs.Handed.{ok_then}
use Rattle.copy_workers.proofs.Fetching.{fetched_by, source_kept}
use Rattle.copy_workers.proofs.worker.Worker.fetch.Goals as goal

pub returns-clause-source : goal.returns-clause-source
returns-clause-source g c = source_kept g.S.Store.disk c.args.self.now.seat.basis c.args.self.now.reads c.fetch.new.self c.requires.source c.fetch.ensures.same

pub returns-clause-fetched : goal.returns-clause-fetched
returns-clause-fetched g c = ok_then c.fetch.result (fetched_by g.S.Store.disk c.args.self.now.seat c.args.self.now.reads c.args.stripe c.fetch.new.piece c.requires.source) c.fetch.ensures.fetched
