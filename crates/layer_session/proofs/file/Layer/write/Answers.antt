use Rattle.std.proofs.Common.{sym, subst, ◌<◌}
use Rattle.std.specs.Prelude.{Ok, Err}
use Rattle.layer_session.specs.Calls.{sectors_in}
use Rattle.layer_session.proofs.WriteEnds.{write_done, write_same, write_stops}
use Rattle.layer_session.proofs.WriteSteps.{open_for, within_log, write_moments}
use Rattle.layer_session.proofs.file.Layer.write.Goals as goal

pub write-requires-clause-there : goal.write-requires-clause-there
write-requires-clause-there g c = subst (λ n. n < (g.S.Store.disk c.args.store.now).files) (sym c.requires.ready.one_file) c.requires.ready.readable.there

pub write-requires-clause-within : goal.write-requires-clause-within
write-requires-clause-within g c =
    within_log c.args.self.now (g.S.Store.disk c.args.store.now) c.args.first (sectors_in c.args.self.now c.args.bytes.now) c.args.place c.args.bytes.now c.requires.ready c.requires.whole c.requires.on_disk c.requires.stand

pub write-requires-clause-open : goal.write-requires-clause-open
write-requires-clause-open g c = open_for c.args.self.now (g.S.Store.disk c.args.store.now) c.requires.ready

pub returns-in-Ok-clause-moments : goal.returns-in-Ok-clause-moments
returns-in-Ok-clause-moments g c =
    write_moments c.args.self.now c.args.first (sectors_in c.args.self.now c.args.bytes.now) c.args.place c.args.bytes.now c.requires.whole c.requires.on_disk (g.S.Store.disk c.args.store.now) (g.S.Store.disk c.write.new.store)
    c.args.self.now.log.file c.requires.ready.one_file c.requires.stand (Ok tt) c.in-Ok.ensures.ok tt

pub returns-in-Err-clause-moments : goal.returns-in-Err-clause-moments
returns-in-Err-clause-moments g c =
    write_moments c.args.self.now c.args.first (sectors_in c.args.self.now c.args.bytes.now) c.args.place c.args.bytes.now c.requires.whole c.requires.on_disk (g.S.Store.disk c.args.store.now) (g.S.Store.disk c.write.new.store)
    c.args.self.now.log.file c.requires.ready.one_file c.requires.stand (Err c.in-Err.fault) tt c.in-Err.ensures.err

pub returns-in-Ok-clause-done : goal.returns-in-Ok-clause-done
returns-in-Ok-clause-done g c =
    write_done c.args.self.now c.args.first (sectors_in c.args.self.now c.args.bytes.now) c.args.place c.args.bytes.now c.requires.whole c.requires.on_disk (g.S.Store.disk c.args.store.now) (g.S.Store.disk c.write.new.store)
    c.requires.ready c.requires.stand c.in-Ok.ensures.ok

pub returns-in-Ok-clause-same : goal.returns-in-Ok-clause-same
returns-in-Ok-clause-same g c =
    write_same c.args.self.now c.args.first (sectors_in c.args.self.now c.args.bytes.now) c.args.place c.args.bytes.now c.requires.whole c.requires.on_disk (g.S.Store.disk c.args.store.now) (g.S.Store.disk c.write.new.store)
    c.requires.ready c.requires.stand c.in-Ok.ensures.ok

pub returns-in-Err-clause-broken : goal.returns-in-Err-clause-broken
returns-in-Err-clause-broken g c =
    write_stops c.args.self.now c.args.first (sectors_in c.args.self.now c.args.bytes.now) c.args.place c.args.bytes.now c.requires.whole c.requires.on_disk (g.S.Store.disk c.args.store.now) (g.S.Store.disk c.write.new.store)
    c.requires.ready c.requires.stand c.in-Err.fault c.in-Err.ensures.err
