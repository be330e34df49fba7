use Rattle.std.proofs.Common.{◌++◌}
use Rattle.merge_plan.specs.Drawing.{drawn_ids, inner_ids, log_ids}
use Rattle.merge_plan.proofs.Drawn.{draws_more}
use Rattle.merge_plan.proofs.drawing.MergeIds.draw.Goals as goal

pub returns-clause-draws : goal.returns-clause-draws
returns-clause-draws g c =
    let leaf = drawn_ids c.draw-leaf.result in
    let source = log_ids c.draw-source.result in
    let target = drawn_ids c.draw-target.result in
    draws_more (leaf ++ source ++ target) (inner_ids c.draw_inner-child.result) _ _ _
    (draws_more (leaf ++ source) target _ _ _ (draws_more leaf source _ _ _ c.draw-leaf.ensures c.draw-source.ensures) c.draw-target.ensures) c.draw_inner-child.ensures.draws
