use Rattle.std.proofs.Common.{◌+◌, List, take, sym, subst}
use Rattle.layer_session.specs.declared.file_layer.FileLayer.{FileLayer}
use Rattle.chain_core.specs.Starting.{AreReadOf}
use Rattle.chain_core.proofs.Beginning.{one_more}
use Rattle.chain_core.proofs.starting.layers_of.Goals as goal

pub loop-place-preserved : goal.loop-place-preserved
loop-place-preserved c =
    subst (λ (layers : List FileLayer). AreReadOf c.args.first (take (c.loop-place.place + 1) c.args.files.now) layers) (sym c.in_ok-push.ensures.items)
    (one_more c.args.first c.loop-place.place c.args.files.now c.index-files-place.result c.loop-place.layers.items c.in_ok-layer.layer c.loop-place-test.true c.index-files-place.is c.loop-place.invariant c.in_ok-layer.ensures)
