use Rattle.std.proofs.Common.{refl}
use Rattle.chain_core.proofs.Skipped.{leaf_passed}
use Rattle.chain_core.proofs.Places.{leaf_not_none, retiring_session}
use Rattle.chain_core.proofs.layers.Layers.find_passed_of_leaf.Goals as goal

pub returns-in-Some : goal.returns-in-Some
returns-in-Some g c =
    let e = c.pass_own.ensures in
    leaf_passed c.args.self.now _ c.in-Some.leaf c.pass_own.new.source (g.S.Store.disk c.args.store.now) (g.S.Store.disk c.pass_own.new.store) c.pass_own.result c.args.from
    (record { geometry = refl; below = refl; merge = refl; parts = e.same.parts; was = c.in-Some.is; now = refl }) refl c.requires.none c.requires.merge c.requires.ready
    e.there e.few e.passes e.none e.same e.stays e.err

pub returns-in-None : goal.returns-in-None
returns-in-None g c = absurd (leaf_not_none c.args.self.now c.in-None.is (retiring_session c.args.self.now (g.S.Store.disk c.args.store.now) c.requires.merge c.requires.ready))
