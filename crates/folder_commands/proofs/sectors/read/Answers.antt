use Rattle.link_rules.specs.Chains.{names_of}
use Rattle.command_base.specs.Causes.{meaning_of_chain}
use Rattle.command_base.proofs.Back.{all_files, back_attaches, back_left, back_requires, has_read, lent_opened, told_kept, unlent_attaches, unlent_leaves}
use Rattle.folder_commands.proofs.sectors.read.Goals as goal

pub returns-in_err-store-clause-moments : goal.returns-in_err-store-clause-moments
returns-in_err-store-clause-moments g c = unlent_attaches (names_of c.args.files.now) _ _ (meaning_of_chain c.in_err-store.field-0.0) c.in_err-store.ensures.err

pub returns-in_err-store-clause-leaves : goal.returns-in_err-store-clause-leaves
returns-in_err-store-clause-leaves g c = unlent_leaves _ _ _ c.in_err-store.field-0.0 c.from_residual.ensures.1 c.requires.idle c.in_err-store.ensures.err

pub sectors_of-read-requires-clause-all : goal.sectors_of-read-requires-clause-all
sectors_of-read-requires-clause-all g c = all_files c.args.files.now _ _ _ c.requires.idle c.requires.once c.requires.opened c.in_ok-store.ensures.ok

pub sectors_of-read-requires-clause-opened : goal.sectors_of-read-requires-clause-opened
sectors_of-read-requires-clause-opened g c = lent_opened c.args.files.now _ _ _ c.requires.idle c.requires.once c.requires.opened c.in_ok-store.ensures.ok

pub give_back-requires : goal.give_back-requires
give_back-requires g c =
    back_requires c.args.files.now _ _ _ c.requires.idle c.requires.once c.requires.opened c.in_ok-store.ensures.ok (g.H.S.Store.disk c.sectors_of-read.new.store) (told_kept _ _ c.sectors_of-read.result c.sectors_of-read.ensures.store)

pub returns-clause-bytes : goal.returns-clause-bytes
returns-clause-bytes g c = has_read c.args.files.now _ _ _ c.requires.idle c.requires.once c.requires.opened c.in_ok-store.ensures.ok c.args.first c.args.count (λ b. b) c.sectors_of-read.result c.sectors_of-read.ensures.bytes

pub returns-clause-moments : goal.returns-clause-moments
returns-clause-moments g c =
    back_attaches c.args.files.now _ _ _ c.requires.idle c.requires.once c.requires.opened c.in_ok-store.ensures.ok (g.H.S.Store.disk c.sectors_of-read.new.store) (told_kept _ _ c.sectors_of-read.result c.sectors_of-read.ensures.store) _ c.give_back.ensures.folder (λ none. c.give_back.ensures.untold)
    c.give_back.ensures.past c.give_back.ensures.count

pub returns-clause-leaves : goal.returns-clause-leaves
returns-clause-leaves g c =
    back_left c.args.files.now _ _ _ c.requires.idle c.requires.once c.requires.opened c.in_ok-store.ensures.ok (g.H.S.Store.disk c.sectors_of-read.new.store) (told_kept _ _ c.sectors_of-read.result c.sectors_of-read.ensures.store) _ c.give_back.ensures.folder (λ none. c.give_back.ensures.untold)
    c.give_back.ensures.past c.give_back.ensures.count c.sectors_of-read.result c.sectors_of-read.ensures.store
