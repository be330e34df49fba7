use Rattle.std.proofs.Common.{suc, length, refl, subst}
use Rattle.std.specs.Prelude.{None, Some}
use Rattle.log_write.specs.declared.ids.SessionIds.{SessionIds}
use Rattle.layer_session.specs.Begins.{in_session}
use Rattle.chain_core.specs.declared.layers.Layers.{Layers}
use Rattle.chain_core.specs.Starting.{StartsWith}
use Rattle.std.specs.Prelude.{◌∷◌}
use Rattle.chain_core.proofs.Beginning.{begun_moments, begun_ready, begun_serving, none_changed, none_logged, others_stay, rest_moments}
use Rattle.chain_core.proofs.Numbers.{next_within, one_low, zero_suc}
use Rattle.chain_core.proofs.layers.Layers.begin.Goals as goal

pub returns-in_err-below-clause-moments : goal.returns-in_err-below-clause-moments
returns-in_err-below-clause-moments g c = rest_moments c.args.leaf.now c.args.others.now (g.S.Store.disk c.args.store.now) c.requires.files

pub returns-in_err-session-clause-moments : goal.returns-in_err-session-clause-moments
returns-in_err-session-clause-moments g c =
    begun_moments c.args.leaf.now c.args.others.now c.of_session.result (g.S.Store.disk c.args.store.now) (g.S.Store.disk c.begin.new.store) c.requires.files c.begin.ensures.moments

pub returns-clause-moments : goal.returns-clause-moments
returns-clause-moments g c =
    begun_moments c.args.leaf.now c.args.others.now c.of_session.result (g.S.Store.disk c.args.store.now) (g.S.Store.disk c.begin.new.store) c.requires.files c.begin.ensures.moments

pub returns-in_err-below-clause-still : goal.returns-in_err-below-clause-still
returns-in_err-below-clause-still g c = none_changed (g.S.Store.disk c.args.store.now).told _ refl

pub returns-in_err-session-clause-still : goal.returns-in_err-session-clause-still
returns-in_err-session-clause-still g c =
    others_stay c.args.leaf.now.parts c.of_session.result (g.S.Store.disk c.args.store.now).told (g.S.Store.disk c.begin.new.store).told c.begin.ensures.moments

pub returns-clause-still : goal.returns-clause-still
returns-clause-still g c =
    others_stay c.args.leaf.now.parts c.of_session.result (g.S.Store.disk c.args.store.now).told (g.S.Store.disk c.begin.new.store).told c.begin.ensures.moments

pub returns-clause-serving : goal.returns-clause-serving
returns-clause-serving g c =
    let layers : Layers = record { geometry = c.args.leaf.now.parts.geometry; leaf = Some c.in_ok-session.session; below = c.in_ok-below.below; merge = None; retiring = None } in
    subst (λ (ids : SessionIds). StartsWith (λ parts. in_session parts ids) (c.args.leaf.now ∷ c.args.others.now) layers (g.S.Store.disk c.args.store.now).told (g.S.Store.disk c.begin.new.store).told) c.of_session.ensures
    (begun_serving c.args.leaf.now c.args.others.now c.of_session.result layers c.in_ok-session.session (g.S.Store.disk c.args.store.now) (g.S.Store.disk c.begin.new.store) c.requires.files refl refl (refl, refl) c.in_ok-below.ensures
    c.begin.ensures.moments c.in_ok-session.ensures.served)

pub returns-clause-ready : goal.returns-clause-ready
returns-clause-ready g c =
    let layers : Layers = record { geometry = c.args.leaf.now.parts.geometry; leaf = Some c.in_ok-session.session; below = c.in_ok-below.below; merge = None; retiring = None } in
    begun_ready c.args.leaf.now c.args.others.now c.of_session.result layers c.in_ok-session.session (g.S.Store.disk c.args.store.now) (g.S.Store.disk c.begin.new.store) c.requires.files refl refl (refl, refl) c.in_ok-below.ensures
    c.begin.ensures.moments c.in_ok-session.ensures.ready c.in_ok-session.ensures.parts c.in_ok-session.ensures.counts

pub layers_of-requires-clause-served : goal.layers_of-requires-clause-served
layers_of-requires-clause-served g c = λ k d below. c.requires.files.served (suc k) d (next_within k (length c.args.others.now) below)

pub begin-requires-clause-numbers : goal.begin-requires-clause-numbers
begin-requires-clause-numbers g c = (c.requires.files.served 0 c.args.leaf.now (zero_suc (length c.args.others.now))).numbers

pub returns-clause-low : goal.returns-clause-low
returns-clause-low g c = (one_low c.in_ok-session.session.log.number c.in_ok-session.ensures.parts.first, none_logged 1 1 c.args.others.now c.in_ok-below.below.items c.in_ok-below.ensures)
