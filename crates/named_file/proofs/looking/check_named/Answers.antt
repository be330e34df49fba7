use Rattle.std.proofs.Common.{◌≡◌}
use Rattle.link_rules.proofs.Lent.{are_away, lent_as, unsealed_lent}
use Rattle.link_rules.proofs.Safe.{opened_safely, unlent_safely}
use Rattle.named_file.proofs.Looked.{fault_left, found_there, looked_left, unlent_answers, unlent_leaves_look}
use Rattle.named_file.proofs.looking.check_named.Goals as goal

pub returns-in_err-store-clause-answer : goal.returns-in_err-store-clause-answer
returns-in_err-store-clause-answer g c = unlent_answers c.args.name.now _ _ _ _ c.from_residual.ensures.1 c.in_err-store.ensures.err

pub returns-in_err-store-clause-leaves : goal.returns-in_err-store-clause-leaves
returns-in_err-store-clause-leaves g c = unlent_leaves_look c.args.name.now _ _ _ _ c.from_residual.ensures.1 c.requires.idle c.in_err-store.ensures.err

pub returns-in_err-store-clause-moments : goal.returns-in_err-store-clause-moments
returns-in_err-store-clause-moments g c = unlent_safely (λ folder other. other ≡ c.args.name.now) c.args.name.now _ _ _ c.in_err-store.ensures.err

pub check-found-requires-clause-unsealed : goal.check-found-requires-clause-unsealed
check-found-requires-clause-unsealed g c = unsealed_lent c.args.name.now _ _ _ c.in_ok-store.ensures.ok

pub give_back-requires : goal.give_back-requires
give_back-requires g c = are_away c.args.name.now _ _ _ (lent_as c.args.name.now _ _ _ _ c.in_ok-store.ensures.ok c.check-found.ensures.kept) c.in_ok-store.ensures.ok.there

pub returns-in_err-found-clause-leaves : goal.returns-in_err-found-clause-leaves
returns-in_err-found-clause-leaves g c =
    fault_left c.args.name.now _ _ _ _ _ c.in_ok-store.ensures.ok c.check-found.ensures.kept c.requires.idle c.give_back.ensures.folder (λ none. c.give_back.ensures.untold) c.give_back.ensures.count c.give_back.ensures.past
    c.from_residual-in_err-found.result c.in_err-found.field-0.0 c.from_residual-in_err-found.ensures.1 c.in_err-found.ensures.store

pub returns-in_err-found-clause-moments : goal.returns-in_err-found-clause-moments
returns-in_err-found-clause-moments g c =
    opened_safely c.args.name.now _ _ _ _ (g.H.S.Store.disk c.check-found.new.store) c.requires.idle c.in_ok-store.ensures.ok c.check-found.ensures.kept c.check-found.ensures.moments c.give_back.ensures.folder c.give_back.ensures.past

pub returns-clause-answer : goal.returns-clause-answer
returns-clause-answer g c = found_there c.args.name.now _ _ _ c.in_ok-found.field-0 c.requires.idle c.in_ok-store.ensures.ok c.in_ok-found.ensures.found

pub returns-clause-leaves : goal.returns-clause-leaves
returns-clause-leaves g c =
    looked_left c.args.name.now _ _ _ _ _ c.in_ok-store.ensures.ok c.check-found.ensures.kept c.requires.idle c.give_back.ensures.folder (λ none. c.give_back.ensures.untold) c.give_back.ensures.count c.give_back.ensures.past
    c.in_ok-found.field-0 c.in_ok-found.ensures.store

pub returns-clause-moments : goal.returns-clause-moments
returns-clause-moments g c =
    opened_safely c.args.name.now _ _ _ _ (g.H.S.Store.disk c.check-found.new.store) c.requires.idle c.in_ok-store.ensures.ok c.check-found.ensures.kept c.check-found.ensures.moments c.give_back.ensures.folder c.give_back.ensures.past
