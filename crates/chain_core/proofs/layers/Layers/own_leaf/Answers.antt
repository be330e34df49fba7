use Rattle.std.proofs.Common.{refl}
use Rattle.layer_session.proofs.ReadOnly.{some_failed}
use Rattle.chain_core.proofs.Finding.{leaf_adds, leaf_reads}
use Rattle.chain_core.proofs.Standing.{leaf_of}
use Rattle.chain_core.proofs.layers.Layers.own_leaf.Goals as goal

pub returns-in-Some-clause-reads : goal.returns-in-Some-clause-reads
returns-in-Some-clause-reads g c =
    leaf_reads c.args.self.now _ c.in-Some.leaf c.own.new.self _ (g.S.Store.disk c.args.store.now) (g.S.Store.disk c.own.new.store) c.own.result
    (record { geometry = refl; below = refl; merge = refl; parts = c.own.ensures.same.parts; was = c.in-Some.is; now = refl }) refl c.own.ensures.same c.own.ensures.stays c.own.ensures.err c.requires.ready

pub returns-in-Some-clause-adds : goal.returns-in-Some-clause-adds
returns-in-Some-clause-adds g c =
    leaf_adds c.args.self.now c.in-Some.leaf (g.S.Store.disk c.args.store.now) c.args.first c.args.count c.args.mask.now c.own.new.mask c.args.out.now c.own.new.out c.own.result c.in-Some.is c.requires.ready c.own.ensures.owned

pub returns-in-Some-clause-err : goal.returns-in-Some-clause-err
returns-in-Some-clause-err g c =
    let leaf = leaf_of c.args.self.now c.in-Some.leaf (g.S.Store.disk c.args.store.now) c.in-Some.is c.requires.ready in
    some_failed c.in-Some.leaf.tables.parts.file (g.S.Store.disk c.args.store.now) (g.S.Store.disk c.own.new.store) c.own.result leaf.ready.readable.there c.own.ensures.err
