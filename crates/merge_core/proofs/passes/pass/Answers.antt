use Rattle.merge_core.proofs.Passed.{pass_none}
use Rattle.merge_core.proofs.passes.pass.Goals as goal

pub returns-clause-none : goal.returns-clause-none
returns-clause-none g c =
    pass_none c.args.source.now (g.S.Store.disk c.args.store.now) c.args.geometry c.requires.readable c.args.from c.stripe_range-first.result.0 c.in_ok-count.count c.whole_stripes.result c.stripe_range-first.ensures.first c.whole_stripes.ensures.is c.in_ok-count.ensures.none
