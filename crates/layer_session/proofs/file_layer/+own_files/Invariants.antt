use Rattle.std.proofs.Common.{length}
use Rattle.layer_session.proofs.file_layer.+own_files.Given as goal

abbrev pub decreases-own_files : goal.decreases-own_files
decreases-own_files g l = length l.layers.now
