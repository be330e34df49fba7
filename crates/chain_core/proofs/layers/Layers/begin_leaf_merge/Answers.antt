use Rattle.std.proofs.Common.{refl}
use Rattle.chain_core.specs.LeafStarting.{BeginsLeafMerge, leaf_files_in}
use Rattle.vx_base.proofs.Handed.{handed}
use Rattle.chain_core.proofs.layers.Layers.begin_leaf_merge.Goals as goal

pub returns-in_err-both : goal.returns-in_err-both
returns-in_err-both g c =
    handed (BeginsLeafMerge (leaf_files_in c.args.of) c.args.merge (g.S.Store.disk c.args.store.now) (g.S.Store.disk c.begin_both.new.store)) c.from_residual.result c.in_err-both.field-0.0 c.from_residual.ensures c.in_err-both.ensures.err

pub returns-in_default : goal.returns-in_default
returns-in_default g c = c.in_ok-both.ensures.begun.full

pub returns : goal.returns
returns g c =
    c.in_ok-both.ensures.begun.made c.args.room c.requires.room _ _
    (record { geometry = refl; top = refl; alone = refl; kept = refl; below = c.in-Ok.ensures; retires = refl; clears = refl; last = refl; marks = refl; stamps = refl })
