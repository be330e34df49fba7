use Rattle.log_write.specs.Writing.{identify_plan}
use Rattle.log_write.proofs.Identifying.{identify_moments, open_by, rest_by, running_by, synced_by}
use Rattle.log_write.proofs.Promises.{only_by}
use Rattle.store_model.proofs.Plans.{fails_by}
use Rattle.log_write.proofs.session.Log.identify.Goals as goal

pub returns-clause-err : goal.returns-clause-err
returns-clause-err g c =
    fails_by c.args.self.now.file (identify_plan c.args.self.now.header c.args.data_write) (g.S.Store.disk c.args.store.now) (g.S.Store.disk c.put_identified.new.store) c.put_identified.result c.put_identified.ensures.err

pub returns-clause-rest : goal.returns-clause-rest
returns-clause-rest g c =
    rest_by c.args.self.now c.args.data_write c.put_identified.ensures.sound (g.S.Store.disk c.args.store.now) (g.S.Store.disk c.put_identified.new.store) c.requires.open c.put_identified.result
    c.put_identified.ensures.ok c.put_identified.ensures.err
    (only_by c.args.self.now.file (identify_plan c.args.self.now.header c.args.data_write) (g.S.Store.disk c.args.store.now) (g.S.Store.disk c.put_identified.new.store) c.put_identified.result c.put_identified.ensures.ok c.put_identified.ensures.err)

pub returns-clause-synced : goal.returns-clause-synced
returns-clause-synced g c =
    synced_by c.args.self.now c.args.data_write c.put_identified.ensures.writable (g.S.Store.disk c.args.store.now) (g.S.Store.disk c.put_identified.new.store) c.put_identified.result c.put_identified.ensures.ok

pub returns-clause-open : goal.returns-clause-open
returns-clause-open g c =
    open_by c.args.self.now c.put_identified.new.self c.args.data_write (g.S.Store.disk c.args.store.now) (g.S.Store.disk c.put_identified.new.store) c.put_identified.ensures.sound c.requires.open
    c.put_identified.result c.put_identified.ensures.ok c.put_identified.ensures.log

pub returns-clause-moments : goal.returns-clause-moments
returns-clause-moments g c tables least written low t told r =
    identify_moments c.args.self.now c.args.data_write c.put_identified.ensures.writable (g.S.Store.disk c.args.store.now) (g.S.Store.disk c.put_identified.new.store) c.put_identified.result
    c.put_identified.ensures.ok c.put_identified.ensures.err tables least written low t told r

pub returns-clause-running : goal.returns-clause-running
returns-clause-running g c =
    running_by c.args.self.now c.put_identified.new.self c.args.data_write (g.S.Store.disk c.args.store.now) (g.S.Store.disk c.put_identified.new.store) c.put_identified.ensures.writable
    c.put_identified.result c.put_identified.ensures.ok c.put_identified.ensures.log

pub returns-clause-only : goal.returns-clause-only
returns-clause-only g c =
    only_by c.args.self.now.file (identify_plan c.args.self.now.header c.args.data_write) (g.S.Store.disk c.args.store.now) (g.S.Store.disk c.put_identified.new.store) c.put_identified.result c.put_identified.ensures.ok c.put_identified.ensures.err
