use Rattle.std.proofs.Common.{[], ◌∷◌, ◌++◌}
use Rattle.merge_plan.specs.Drawing.{drawn_ids}
use Rattle.merge_plan.proofs.Drawn.{draws_more, draws_one}
use Rattle.merge_plan.proofs.leaf_drawing.LeafMergeIds.draw.Goals as goal

pub returns : goal.returns
returns g c =
    let leaf = drawn_ids c.draw-leaf.result in
    let target = drawn_ids c.draw-target.result in
    draws_more (leaf ++ target) (c.draw-third.result ∷ []) _ _ _ (draws_more leaf target _ _ _ c.draw-leaf.ensures c.draw-target.ensures)
    (draws_one c.draw-third.result _ _ c.draw-third.ensures.id c.draw-third.ensures.told)
