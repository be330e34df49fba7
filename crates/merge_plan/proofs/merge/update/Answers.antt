use Rattle.merge_plan.specs.Converting.{of_meta}
use Rattle.merge_plan.specs.Steps.{UpdateFails}
use Rattle.merge_plan.proofs.Paging.{has_pages, is_inside, is_sound, update_fails}
use Rattle.merge_plan.proofs.Planned.{passed_on}
use Rattle.merge_plan.proofs.merge.update.Goals as goal

pub locator_update-requires-clause-inside : goal.locator_update-requires-clause-inside
locator_update-requires-clause-inside g c = is_inside (g.S.Store.disk c.args.store.now) c.args.number c.args.file.now c.requires.opened

pub locator_update-requires-clause-sound : goal.locator_update-requires-clause-sound
locator_update-requires-clause-sound g c = is_sound (g.S.Store.disk c.args.store.now) c.args.number c.args.file.now c.requires.opened

pub returns-in_err-pages-clause-err : goal.returns-in_err-pages-clause-err
returns-in_err-pages-clause-err g c =
    let old = g.S.Store.disk c.args.store.now in
    let new = g.S.Store.disk c.locator_update.new.store in
    let refusal = c.in_err-pages.field-0.0 in
    passed_on (UpdateFails c.args.file.now.parts c.args.number old new c.args.locator.now) c.from_residual.result (of_meta refusal) c.from_residual.ensures.1
    (update_fails old new c.args.number c.args.file.now.parts c.args.locator.now refusal c.requires.there c.in_err-pages.ensures.answer
    (c.in_err-pages.ensures.short c.requires.short) c.in_err-pages.ensures.file c.in_err-pages.ensures.store)

pub returns-clause-pages : goal.returns-clause-pages
returns-clause-pages g c =
    has_pages (g.S.Store.disk c.args.store.now) c.args.number c.args.file.now c.args.locator.now c.in_ok-pages.pages c.requires.opened c.has_metadata.ensures c.requires.short
    c.in_ok-pages.ensures.pages c.in_ok-pages.ensures.few c.in_ok-pages.ensures.answer
