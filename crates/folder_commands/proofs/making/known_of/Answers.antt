use Rattle.link_rules.specs.Chains.{names_of}
use Rattle.command_base.specs.Causes.{meaning_of_chain}
use Rattle.command_base.proofs.Back.{all_files, back_attaches, back_left, back_requires, has_shown, lent_opened, told_kept, unlent_attaches, unlent_leaves}
use Rattle.folder_commands.proofs.making.known_of.Goals as goal

pub returns-in_err-store-clause-moments : goal.returns-in_err-store-clause-moments
returns-in_err-store-clause-moments g c = unlent_attaches (names_of c.args.files.now) _ _ (meaning_of_chain c.in_err-store.field-0.0) c.in_err-store.ensures.err

pub returns-in_err-store-clause-leaves : goal.returns-in_err-store-clause-leaves
returns-in_err-store-clause-leaves g c = unlent_leaves _ _ _ c.in_err-store.field-0.0 c.from_residual.ensures.1 c.requires.idle c.in_err-store.ensures.err

pub all_shown-known-requires-clause-all : goal.all_shown-known-requires-clause-all
all_shown-known-requires-clause-all g c = all_files c.args.files.now _ _ _ c.requires.idle c.requires.once c.requires.opened c.in_ok-store.ensures.ok

pub all_shown-known-requires-clause-opened : goal.all_shown-known-requires-clause-opened
all_shown-known-requires-clause-opened g c = lent_opened c.args.files.now _ _ _ c.requires.idle c.requires.once c.requires.opened c.in_ok-store.ensures.ok

pub give_back-requires : goal.give_back-requires
give_back-requires g c =
    back_requires c.args.files.now _ _ _ c.requires.idle c.requires.once c.requires.opened c.in_ok-store.ensures.ok (g.H.S.Store.disk c.all_shown-known.new.store) (told_kept _ _ c.all_shown-known.result c.all_shown-known.ensures.store)

pub returns-clause-ids : goal.returns-clause-ids
returns-clause-ids g c = has_shown c.args.files.now _ _ _ c.requires.idle c.requires.once c.requires.opened c.in_ok-store.ensures.ok (λ ids. ids.items) c.all_shown-known.result c.all_shown-known.ensures.ids

pub returns-clause-moments : goal.returns-clause-moments
returns-clause-moments g c =
    back_attaches c.args.files.now _ _ _ c.requires.idle c.requires.once c.requires.opened c.in_ok-store.ensures.ok (g.H.S.Store.disk c.all_shown-known.new.store) (told_kept _ _ c.all_shown-known.result c.all_shown-known.ensures.store) _ c.give_back.ensures.folder (λ none. c.give_back.ensures.untold)
    c.give_back.ensures.past c.give_back.ensures.count

pub returns-clause-leaves : goal.returns-clause-leaves
returns-clause-leaves g c =
    back_left c.args.files.now _ _ _ c.requires.idle c.requires.once c.requires.opened c.in_ok-store.ensures.ok (g.H.S.Store.disk c.all_shown-known.new.store) (told_kept _ _ c.all_shown-known.result c.all_shown-known.ensures.store) _ c.give_back.ensures.folder (λ none. c.give_back.ensures.untold)
    c.give_back.ensures.past c.give_back.ensures.count c.all_shown-known.result c.all_shown-known.ensures.store
