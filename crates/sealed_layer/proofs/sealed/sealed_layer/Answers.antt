use Rattle.sealed_layer.proofs.AsStore.{for_readers}
use Rattle.sealed_layer.proofs.sealed.sealed_layer.Goals as goal

pub returns : goal.returns
returns c = for_readers c.args.layer.now c.in_ok-layer.layer c.in_ok-layer.ensures
