use Rattle.std.proofs.Common.{refl, length}
use Rattle.std.specs.Vec.{with_item}
use Rattle.chain_core.specs.declared.layers.Layers.{Layers}
use Rattle.chain_core.proofs.Places.{is_none, leaf_merge, merge_of, readable_of, source_at}
use Rattle.chain_core.proofs.Skipped.{below_passed}
use Rattle.chain_core.proofs.Numbers.{length_items, within_len}
use Rattle.chain_core.proofs.layers.Layers.find_passed.Goals as goal

pub returns : goal.returns
returns g c =
    let old : Layers = c.args.self.now in
    let u = c.in-Some.merge in
    let before = g.S.Store.disk c.args.store.now in
    let source = c.index_mut-source.result.now in
    let next = c.pass.new.source in
    let new : Layers = record old { below = with_item old.below u.source next } in
    let e = c.pass.ensures in
    below_passed old new u source next before (g.S.Store.disk c.pass.new.store) c.pass.result c.args.from c.in-Some.is c.requires.ready (source_at old u before source _ c.in-Some.is c.requires.ready c.index_mut-source.ensures.value)
    refl refl refl refl refl e.there e.few e.passes e.none e.same e.stays e.err

pub find_passed_of_leaf-requires-clause-none : goal.find_passed_of_leaf-requires-clause-none
find_passed_of_leaf-requires-clause-none g c = is_none c.args.self.now.merge c.in_default.not-Some

pub find_passed_of_leaf-requires-clause-merge : goal.find_passed_of_leaf-requires-clause-merge
find_passed_of_leaf-requires-clause-merge g c = leaf_merge c.args.self.now (is_none c.args.self.now.merge c.in_default.not-Some) c.requires.merge

pub index_mut-source-requires : goal.index_mut-source-requires
index_mut-source-requires g c =
    let items = c.args.self.now.below.items in
    within_len c.in-Some.merge.source (length items) (length items) c.args.self.now.below.len (merge_of c.args.self.now c.in-Some.merge (g.S.Store.disk c.args.store.now) c.in-Some.is c.requires.ready).there refl (length_items c.args.self.now.below)

pub pass-requires-clause-readable : goal.pass-requires-clause-readable
pass-requires-clause-readable g c =
    let old : Layers = c.args.self.now in
    let u = c.in-Some.merge in
    let before = g.S.Store.disk c.args.store.now in
    readable_of old u before c.index_mut-source.result.now c.requires.ready (source_at old u before c.index_mut-source.result.now _ c.in-Some.is c.requires.ready c.index_mut-source.ensures.value)

pub pass-requires-clause-stripe : goal.pass-requires-clause-stripe
pass-requires-clause-stripe g c = c.requires.stripe
