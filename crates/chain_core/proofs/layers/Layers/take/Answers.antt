use Rattle.std.proofs.Common.{refl, length}
use Rattle.std.specs.Vec.{with_item}
use Rattle.chain_core.specs.declared.layers.Layers.{Layers}
use Rattle.chain_core.proofs.Places.{below_takes, source_at, is_none, leaf_merge, merge_of, readable_of}
use Rattle.chain_core.proofs.Numbers.{length_items, within_len}
use Rattle.chain_core.proofs.layers.Layers.take.Goals as goal

pub returns : goal.returns
returns g c =
    let old : Layers = c.args.self.now in
    let u = c.in-Some.merge in
    let before = g.S.Store.disk c.args.store.now in
    let source = c.index_mut-source.result.now in
    let next = c.take.new.source in
    let new : Layers = record old { below = with_item old.below u.source next } in
    let e = c.take.ensures in
    below_takes old new u source next before (g.S.Store.disk c.take.new.store) c.take.result c.take.new.self c.args.stripe c.in-Some.is c.requires.ready (source_at old u before source _ c.in-Some.is c.requires.ready c.index_mut-source.ensures.value)
    refl refl refl refl refl e.filled e.empty e.fits e.stripe e.stamp e.taken e.same e.stays e.err

pub take_leaf-requires-clause-none : goal.take_leaf-requires-clause-none
take_leaf-requires-clause-none g c = is_none c.args.self.now.merge c.in_default.not-Some

pub take_leaf-requires-clause-merge : goal.take_leaf-requires-clause-merge
take_leaf-requires-clause-merge g c = leaf_merge c.args.self.now (is_none c.args.self.now.merge c.in_default.not-Some) c.requires.merge

pub index_mut-source-requires : goal.index_mut-source-requires
index_mut-source-requires g c =
    let items = c.args.self.now.below.items in
    within_len c.in-Some.merge.source (length items) (length items) c.args.self.now.below.len (merge_of c.args.self.now c.in-Some.merge (g.S.Store.disk c.args.store.now) c.in-Some.is c.requires.ready).there refl (length_items c.args.self.now.below)

pub take-requires-clause-readable : goal.take-requires-clause-readable
take-requires-clause-readable g c =
    let old : Layers = c.args.self.now in
    let u = c.in-Some.merge in
    let before = g.S.Store.disk c.args.store.now in
    readable_of old u before c.index_mut-source.result.now c.requires.ready (source_at old u before c.index_mut-source.result.now _ c.in-Some.is c.requires.ready c.index_mut-source.ensures.value)

pub take-requires-clause-stripe : goal.take-requires-clause-stripe
take-requires-clause-stripe g c = c.requires.stripe
