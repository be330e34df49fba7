use Rattle.layer_session.proofs.FileLayers.{file_layers_stand, others_stand}
use Rattle.layer_session.proofs.file_layer.file_layers_stand.Goals as goal

pub returns-clause-one : goal.returns-clause-one
returns-clause-one c = file_layers_stand

pub returns-clause-all : goal.returns-clause-all
returns-clause-all c = others_stand
