use Rattle.chain_core.proofs.Skipped.{skip_err, skip_ok, skip_stopped}
use Rattle.chain_core.proofs.chain.Chain.skip.Goals as goal

pub returns-in_err-check_fit-clause-told : goal.returns-in_err-check_fit-clause-told
returns-in_err-check_fit-clause-told g c = skip_stopped c.args.self.now.layers (g.S.Store.disk c.args.self.now.store) c.args.from c.from_residual.result c.from_residual.ensures.0

pub returns-in_err-find_stripe-clause-told : goal.returns-in_err-find_stripe-clause-told
returns-in_err-find_stripe-clause-told g c =
    skip_stopped c.args.self.now.layers (g.S.Store.disk c.args.self.now.store) c.args.from c.from_residual-in_err-find_stripe.result c.from_residual-in_err-find_stripe.ensures.0

pub returns-in-Ok-clause-told : goal.returns-in-Ok-clause-told
returns-in-Ok-clause-told g c = skip_ok c.args.self.now.layers c.skip.new.self (g.S.Store.disk c.args.self.now.store) (g.S.Store.disk c.skip.new.store) c.args.from c.in-Ok.count c.in-Ok.ensures

pub returns-in-Err-clause-told : goal.returns-in-Err-clause-told
returns-in-Err-clause-told g c = skip_err c.args.self.now.layers c.skip.new.self (g.S.Store.disk c.args.self.now.store) (g.S.Store.disk c.skip.new.store) c.args.from c.in-Err.fault c.in-Err.ensures
