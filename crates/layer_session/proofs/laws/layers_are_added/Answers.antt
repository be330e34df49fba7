use Rattle.layer_session.proofs.Owned.{layers_are_added}
use Rattle.layer_session.proofs.laws.layers_are_added.Goals as goal

pub returns : goal.returns
returns c = layers_are_added
