use Rattle.serve_session.proofs.Joining.{one_joined}
use Rattle.serve_session.proofs.serving.join_guest.Goals as goal

pub returns-clause-joined : goal.returns-clause-joined
returns-clause-joined g c asking guests outcomes j hears =
    one_joined g.S.Store.disk c.args.chain.now.value.first c.args.lock.now asking c.args.first.now c.args.seat c.join.new.first guests outcomes j hears c.join.ensures.both c.join.ensures.seen c.join.ensures.basis
