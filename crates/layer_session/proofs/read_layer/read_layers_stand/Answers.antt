use Rattle.layer_session.proofs.ReadOnly.{read_layers_stand}
use Rattle.layer_session.proofs.read_layer.read_layers_stand.Goals as goal

pub returns : goal.returns
returns c = read_layers_stand
