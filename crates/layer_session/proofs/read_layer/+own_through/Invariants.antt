use Rattle.std.proofs.Common.{length}
use Rattle.layer_session.proofs.read_layer.+own_through.Given as goal

abbrev pub decreases-own_through : goal.decreases-own_through
decreases-own_through g l = length l.layers.now
