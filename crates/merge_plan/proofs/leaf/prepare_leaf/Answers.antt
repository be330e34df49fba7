use Rattle.merge_plan.specs.LeafSteps.{leaf_files}
use Rattle.merge_plan.proofs.LeafPrepared.{first_two, planned, stopped}
use Rattle.merge_plan.proofs.leaf.prepare_leaf.Goals as goal

pub plan-requires-clause-can : goal.plan-requires-clause-can
plan-requires-clause-can g c = c.requires.can

pub plan-requires-clause-first : goal.plan-requires-clause-first
plan-requires-clause-first g c = first_two c.args.files.now c.index-files-0.result c.index-files-1.result c.requires.parent c.index-files-0.is c.index-files-1.is

pub plan-requires-clause-drawn : goal.plan-requires-clause-drawn
plan-requires-clause-drawn g c = c.draw-drawn.ensures.each

pub returns-clause-planned : goal.returns-clause-planned
returns-clause-planned g c =
    planned c.args.files.now (g.S.Store.disk c.args.store.now) (g.I.Ids.drawn c.args.ids.now) (g.I.Ids.drawn c.draw-drawn.new.ids) (leaf_files c.index-files-0.result c.index-files-1.result c.args.files.now) c.draw-drawn.result
    (first_two c.args.files.now c.index-files-0.result c.index-files-1.result c.requires.parent c.index-files-0.is c.index-files-1.is) c.draw-drawn.ensures c.plan.result c.plan.ensures.planned c.plan.ensures.ids

pub returns-clause-stays : goal.returns-clause-stays
returns-clause-stays g c = c.plan.ensures.stays

pub returns-clause-err : goal.returns-clause-err
returns-clause-err g c =
    stopped c.args.files.now (g.S.Store.disk c.args.store.now) (g.I.Ids.drawn c.args.ids.now) (g.I.Ids.drawn c.draw-drawn.new.ids) (leaf_files c.index-files-0.result c.index-files-1.result c.args.files.now) c.draw-drawn.result
    (first_two c.args.files.now c.index-files-0.result c.index-files-1.result c.requires.parent c.index-files-0.is c.index-files-1.is) c.draw-drawn.ensures (g.S.Store.disk c.plan.new.store) c.plan.result c.plan.ensures.err
