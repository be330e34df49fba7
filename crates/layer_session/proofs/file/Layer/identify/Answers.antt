use Rattle.layer_session.proofs.Identified.{broken_by, identify_moments, ready_by, served_by}
use Rattle.layer_session.proofs.file.Layer.identify.Goals as goal

pub returns-clause-moments : goal.returns-clause-moments
returns-clause-moments g c =
    identify_moments c.args.self.now c.args.id (g.S.Store.disk c.args.store.now) (g.S.Store.disk c.identify.new.store) c.requires.ready.one_file c.requires.header c.identify.ensures.only c.identify.ensures.moments

pub returns-clause-identified : goal.returns-clause-identified
returns-clause-identified g c =
    served_by c.args.self.now c.args.id (g.S.Store.disk c.args.store.now) (g.S.Store.disk c.identify.new.store) c.requires.ready.one_file c.requires.header c.identify.ensures.only
    c.identify.new.self c.identify.ensures.rest c.identify.result c.identify.ensures.log c.identify.ensures.running

pub returns-clause-ready : goal.returns-clause-ready
returns-clause-ready g c =
    ready_by c.args.self.now c.args.id (g.S.Store.disk c.args.store.now) (g.S.Store.disk c.identify.new.store) c.requires.ready.one_file c.requires.header c.identify.ensures.only
    c.identify.new.self c.identify.ensures.rest c.identify.result c.identify.ensures.log c.identify.ensures.running c.requires.ready c.identify.ensures.counts

pub returns-clause-broken : goal.returns-clause-broken
returns-clause-broken g c =
    broken_by c.args.self.now (g.S.Store.disk c.args.store.now) (g.S.Store.disk c.identify.new.store) c.requires.ready c.identify.ensures.rest c.identify.new.self c.identify.result c.identify.ensures.kept c.identify.ensures.err
