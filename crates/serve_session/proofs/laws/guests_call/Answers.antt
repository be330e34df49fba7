use Rattle.serve_session.proofs.Calling.{begins, goes_on}
use Rattle.serve_session.proofs.laws.guests_call.Goals as goal

pub returns-clause-begins : goal.returns-clause-begins
returns-clause-begins g c = begins g.S.Store.disk c.args.chain.now.value.first

pub returns-clause-goes_on : goal.returns-clause-goes_on
returns-clause-goes_on g c = goes_on g.S.Store.disk c.args.chain.now.value.first
