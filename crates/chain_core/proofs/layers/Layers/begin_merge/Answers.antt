use Rattle.std.proofs.Common.{ap, refl}
use Rattle.link_rules.specs.declared.linked.LinkedFile.{LinkedFile}
use Rattle.chain_core.specs.MergeStarting.{BeginsMerge, files_in}
use Rattle.vx_base.proofs.Handed.{handed}
use Rattle.chain_core.proofs.layers.Layers.begin_merge.Goals as goal

pub returns-in_err-begun : goal.returns-in_err-begun
returns-in_err-begun g c =
    handed (BeginsMerge (files_in c.args.of) c.args.merge (g.S.Store.disk c.args.store.now) (g.S.Store.disk c.begin_all.new.store)) c.from_residual.result c.in_err-begun.field-0.0 c.from_residual.ensures c.in_err-begun.ensures.err

pub returns-in_default : goal.returns-in_default
returns-in_default g c = c.in_ok-begun.ensures.begun.full

pub returns : goal.returns
returns g c =
    c.in_ok-begun.ensures.begun.made c.args.room c.requires.room _ _
    (record { geometry = ap (λ (x : LinkedFile). x.parts.geometry) c.leaf_of-top.ensures; top = refl; kept = refl; alone = refl; below = c.in-Ok.ensures; place = refl; marks = refl; relinks = refl })
