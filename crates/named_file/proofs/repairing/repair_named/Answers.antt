use Rattle.link_rules.proofs.Lent.{are_away, lent_only, unsealed_lent}
use Rattle.named_file.proofs.Repaired.{answers_in, leaves_in, unlent_answers_repair, unlent_leaves_repair}
use Rattle.named_file.proofs.Touched.{only_repaired, repaired_safely, unlent_only, unlent_safely}
use Rattle.named_file.proofs.repairing.repair_named.Goals as goal

pub returns-in_err-store-clause-answer : goal.returns-in_err-store-clause-answer
returns-in_err-store-clause-answer g c = unlent_answers_repair c.args.name.now (g.I.Ids.drawn c.args.ids.now) _ _ _ _ c.from_residual.ensures.1 c.in_err-store.ensures.err

pub returns-in_err-store-clause-leaves : goal.returns-in_err-store-clause-leaves
returns-in_err-store-clause-leaves g c = unlent_leaves_repair c.args.name.now _ _ _ _ c.from_residual.ensures.1 c.requires.idle c.in_err-store.ensures.err

pub returns-in_err-store-clause-only : goal.returns-in_err-store-clause-only
returns-in_err-store-clause-only g c = unlent_only c.args.name.now _ _ _ c.in_err-store.ensures.err

pub returns-in_err-store-clause-moments : goal.returns-in_err-store-clause-moments
returns-in_err-store-clause-moments g c = unlent_safely c.args.name.now _ _ _ c.in_err-store.ensures.err

pub repair-repaired-requires-clause-unsealed : goal.repair-repaired-requires-clause-unsealed
repair-repaired-requires-clause-unsealed g c = unsealed_lent c.args.name.now _ _ _ c.in_ok-store.ensures.ok

pub give_back-requires : goal.give_back-requires
give_back-requires g c = are_away c.args.name.now _ _ _ (lent_only c.args.name.now _ _ _ _ c.in_ok-store.ensures.ok c.repair-repaired.ensures.only) c.in_ok-store.ensures.ok.there

pub returns-clause-answer : goal.returns-clause-answer
returns-clause-answer g c =
    answers_in c.args.name.now _ _ (g.H.Host.hosted c.give_back.new.self) _ (g.H.S.Store.disk c.repair-repaired.new.store) c.requires.idle c.in_ok-store.ensures.ok c.repair-repaired.ensures.only c.repair-repaired.ensures.moments c.give_back.ensures.folder
    _ _ c.repair-repaired.result c.repair-repaired.ensures.answer

pub returns-clause-leaves : goal.returns-clause-leaves
returns-clause-leaves g c =
    leaves_in c.args.name.now _ _ (g.H.Host.hosted c.give_back.new.self) _ (g.H.S.Store.disk c.repair-repaired.new.store) c.requires.idle c.in_ok-store.ensures.ok c.repair-repaired.ensures.only c.repair-repaired.ensures.moments c.give_back.ensures.folder
    (λ none. c.give_back.ensures.untold) c.give_back.ensures.count c.give_back.ensures.past c.repair-repaired.result c.repair-repaired.ensures.store

pub returns-clause-only : goal.returns-clause-only
returns-clause-only g c =
    only_repaired c.args.name.now _ _ (g.H.Host.hosted c.give_back.new.self) _ (g.H.S.Store.disk c.repair-repaired.new.store) c.requires.idle c.in_ok-store.ensures.ok c.repair-repaired.ensures.only c.repair-repaired.ensures.moments c.give_back.ensures.folder

pub returns-clause-moments : goal.returns-clause-moments
returns-clause-moments g c =
    repaired_safely c.args.name.now _ _ (g.H.Host.hosted c.give_back.new.self) _ (g.H.S.Store.disk c.repair-repaired.new.store) c.requires.idle c.in_ok-store.ensures.ok c.repair-repaired.ensures.only c.repair-repaired.ensures.moments c.give_back.ensures.folder
    c.give_back.ensures.past
