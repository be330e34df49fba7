use Rattle.std.proofs.Common.{◌<◌, sym, subst}
use Rattle.std.specs.Prelude.{Ok, Err}
use Rattle.store_model.specs.Disk.{WhereBothTold}
use Rattle.log_write.specs.Sessions.{LogState}
use Rattle.layer_session.specs.declared.file.Layer.{Layer}
use Rattle.layer_session.specs.Calls.{HoldsRest}
use Rattle.layer_session.specs.Keeping.{IsReadable}
use Rattle.layer_session.proofs.WriteSteps.{grow_broken, grow_moments, open_for}
use Rattle.layer_session.proofs.file.Layer.grow.Goals as goal

pub grow-requires-clause-there : goal.grow-requires-clause-there
grow-requires-clause-there g c = subst (λ n. n < (g.S.Store.disk c.args.store.now).files) (sym c.requires.ready.one_file) c.requires.ready.readable.there

pub grow-requires-clause-open : goal.grow-requires-clause-open
grow-requires-clause-open g c = open_for c.args.self.now (g.S.Store.disk c.args.store.now) c.requires.ready

pub returns-in-Ok-clause-moments : goal.returns-in-Ok-clause-moments
returns-in-Ok-clause-moments g c =
    grow_moments c.args.self.now c.args.len c.requires.longer (g.S.Store.disk c.args.store.now) (g.S.Store.disk c.grow.new.store) c.args.self.now.log.file c.requires.ready.one_file (Ok tt) c.in-Ok.ensures.ok tt

pub returns-in-Err-clause-moments : goal.returns-in-Err-clause-moments
returns-in-Err-clause-moments g c =
    grow_moments c.args.self.now c.args.len c.requires.longer (g.S.Store.disk c.args.store.now) (g.S.Store.disk c.grow.new.store) c.args.self.now.log.file c.requires.ready.one_file (Err c.in-Err.fault) tt c.in-Err.ensures.err

pub returns-in-Err-clause-broken : goal.returns-in-Err-clause-broken
returns-in-Err-clause-broken g c =
    let l : Layer = c.args.self.now in
    let old = g.S.Store.disk c.args.store.now in
    let new = g.S.Store.disk c.grow.new.store in
    subst (λ (log : LogState). (let then : Layer = record l { log = log } in IsReadable then new × WhereBothTold (HoldsRest l then 0 0) old.told new.told)) (sym c.in-Err.ensures.kept)
    (grow_broken l old new l.log.file c.in-Err.fault c.requires.ready c.in-Err.ensures.err)
