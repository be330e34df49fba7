use Rattle.layer_session.proofs.Standing.{layers_stand}
use Rattle.layer_session.proofs.laws.layers_stand.Goals as goal

pub returns : goal.returns
returns c = layers_stand
