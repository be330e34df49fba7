use Rattle.std.proofs.Common.{refl, ◌∙◌}
use Rattle.chain_core.proofs.LeafPuts.{leaf_takes}
use Rattle.chain_core.proofs.Places.{leaf_not_none, retiring_session}
use Rattle.chain_core.proofs.layers.Layers.take_leaf.Goals as goal

pub returns-in-Some : goal.returns-in-Some
returns-in-Some g c =
    let e = c.take_own.ensures in
    leaf_takes c.args.self.now _ c.in-Some.leaf c.take_own.new.source (g.S.Store.disk c.args.store.now) (g.S.Store.disk c.take_own.new.store) c.take_own.result c.take_own.new.self c.args.stripe
    (record { geometry = refl; below = refl; merge = refl; parts = e.same.parts; was = c.in-Some.is; now = refl }) refl c.requires.none c.requires.merge c.requires.ready c.requires.stripe
    e.filled e.empty e.fits e.stripe (e.stamp ∙ c.stamp-stamp.ensures) e.taken e.same e.stays e.err

pub returns-in-None : goal.returns-in-None
returns-in-None g c = absurd (leaf_not_none c.args.self.now c.in-None.is (retiring_session c.args.self.now (g.S.Store.disk c.args.store.now) c.requires.merge c.requires.ready))
