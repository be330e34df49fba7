use Rattle.chain_core.proofs.Skipped.{skipped}
use Rattle.chain_core.proofs.layers.Layers.skip.Goals as goal

pub returns : goal.returns
returns g c =
    skipped c.args.self.now c.find_passed.new.self c.mark_run.new.merge c.mark_run_too.new.retiring (g.S.Store.disk c.args.store.now) (g.S.Store.disk c.find_passed.new.store) c.args.from c.in_ok-count.count c.in_ok-count.ensures
    c.mark_run.ensures.marks c.mark_run_too.ensures.marks
