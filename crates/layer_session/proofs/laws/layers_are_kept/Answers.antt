use Rattle.layer_session.proofs.Crashes.{layers_are_kept}
use Rattle.layer_session.proofs.laws.layers_are_kept.Goals as goal

pub returns : goal.returns
returns c = layers_are_kept
