use Rattle.link_rules.specs.Chains.{names_of}
use Rattle.command_base.specs.Causes.{meaning_of_chain}
use Rattle.command_base.proofs.Back.{all_files, back_attaches, back_left, back_requires, lent_opened, told_kept, unlent_attaches, unlent_leaves}
use Rattle.load_command.proofs.Summed.{has_summed}
use Rattle.load_command.proofs.sum.sum_files.Goals as goal

pub returns-in_err-store-clause-moments : goal.returns-in_err-store-clause-moments
returns-in_err-store-clause-moments g c = unlent_attaches (names_of c.args.files.now) _ _ (meaning_of_chain c.in_err-store.field-0.0) c.in_err-store.ensures.err

pub returns-in_err-store-clause-leaves : goal.returns-in_err-store-clause-leaves
returns-in_err-store-clause-leaves g c = unlent_leaves _ _ _ c.in_err-store.field-0.0 c.from_residual.ensures.1 c.requires.idle c.in_err-store.ensures.err

pub sum_store-sum-requires-clause-all : goal.sum_store-sum-requires-clause-all
sum_store-sum-requires-clause-all g c = all_files c.args.files.now _ _ _ c.requires.idle c.requires.once c.requires.opened c.in_ok-store.ensures.ok

pub sum_store-sum-requires-clause-opened : goal.sum_store-sum-requires-clause-opened
sum_store-sum-requires-clause-opened g c = lent_opened c.args.files.now _ _ _ c.requires.idle c.requires.once c.requires.opened c.in_ok-store.ensures.ok

pub give_back-requires : goal.give_back-requires
give_back-requires g c =
    back_requires c.args.files.now _ _ _ c.requires.idle c.requires.once c.requires.opened c.in_ok-store.ensures.ok (g.H.S.Store.disk c.sum_store-sum.new.store) (told_kept _ _ c.sum_store-sum.result c.sum_store-sum.ensures.store)

pub returns-clause-sum : goal.returns-clause-sum
returns-clause-sum g c =
    has_summed c.args.files.now _ _ _ c.requires.idle c.requires.once c.requires.opened c.in_ok-store.ensures.ok c.args.geometry c.min.result c.sum_store-sum.result c.requires.geometry c.min.ensures c.sum_store-sum.ensures.sum

pub returns-clause-moments : goal.returns-clause-moments
returns-clause-moments g c =
    back_attaches c.args.files.now _ _ _ c.requires.idle c.requires.once c.requires.opened c.in_ok-store.ensures.ok (g.H.S.Store.disk c.sum_store-sum.new.store) (told_kept _ _ c.sum_store-sum.result c.sum_store-sum.ensures.store) _ c.give_back.ensures.folder (λ none. c.give_back.ensures.untold)
    c.give_back.ensures.past c.give_back.ensures.count

pub returns-clause-leaves : goal.returns-clause-leaves
returns-clause-leaves g c =
    back_left c.args.files.now _ _ _ c.requires.idle c.requires.once c.requires.opened c.in_ok-store.ensures.ok (g.H.S.Store.disk c.sum_store-sum.new.store) (told_kept _ _ c.sum_store-sum.result c.sum_store-sum.ensures.store) _ c.give_back.ensures.folder (λ none. c.give_back.ensures.untold)
    c.give_back.ensures.past c.give_back.ensures.count c.sum_store-sum.result c.sum_store-sum.ensures.store
