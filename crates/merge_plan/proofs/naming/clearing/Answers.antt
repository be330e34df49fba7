use Rattle.std.proofs.Common.{not, ap, ◌∙◌}
use Rattle.merge_plan.specs.LeafSteps.{ClearingFails}
use Rattle.merge_plan.proofs.Paging.{is_sound}
use Rattle.merge_plan.proofs.Planned.{passed_on}
use Rattle.merge_plan.proofs.RetiredNames.{clearing_fails, has_clearing}
use Rattle.merge_plan.proofs.naming.clearing.Goals as goal

pub name_update-requires-clause-sound : goal.name_update-requires-clause-sound
name_update-requires-clause-sound g c = is_sound (g.S.Store.disk c.args.store.now) 1 c.args.target.now c.requires.opened

pub returns-in_err-pages-clause-err : goal.returns-in_err-pages-clause-err
returns-in_err-pages-clause-err g c =
    let old = g.S.Store.disk c.args.store.now in
    let new = g.S.Store.disk c.name_update.new.store in
    passed_on (ClearingFails c.args.target.now old new) c.from_residual.result c.in_err-pages.field-0.0 c.from_residual.ensures.1
    (clearing_fails old new c.args.target.now c.in_err-pages.field-0.0 c.requires.opened (c.is_none.ensures ∙ ap not c.if-is_none.false) c.in_err-pages.ensures.err)

pub returns-clause-pages : goal.returns-clause-pages
returns-clause-pages g c = (
  c.is_none.ensures ∙ ap not c.if-is_none.false,
  has_clearing c.args.target.now.parts 1 (g.S.Store.disk c.args.store.now) c.in_ok-pages.pages c.in_ok-pages.ensures.pages,
)
