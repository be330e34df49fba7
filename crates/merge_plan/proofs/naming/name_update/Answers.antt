use Rattle.std.specs.Option.{option_copied}
use Rattle.merge_plan.proofs.Paging.{is_inside}
use Rattle.merge_plan.proofs.RetiredNames.{has_naming}
use Rattle.merge_plan.proofs.naming.name_update.Goals as goal

pub retire_update-requires-clause-inside : goal.retire_update-requires-clause-inside
retire_update-requires-clause-inside g c = is_inside (g.S.Store.disk c.args.store.now) c.args.number c.args.file.now c.requires.opened

pub returns-clause-pages : goal.returns-clause-pages
returns-clause-pages g c =
    has_naming (g.S.Store.disk c.args.store.now) c.args.number c.args.file.now c.args.over.now (option_copied c.args.to) c.in_ok-pages.pages c.requires.opened c.has_metadata.ensures c.requires.over
    c.requires.sound c.is_name.ensures c.in_ok-pages.ensures.pages c.in_ok-pages.ensures.few c.in_ok-pages.ensures.answer
