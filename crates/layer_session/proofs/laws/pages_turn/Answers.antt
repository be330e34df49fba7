use Rattle.layer_session.proofs.PagesTurned.{pages_turn}
use Rattle.layer_session.proofs.laws.pages_turn.Goals as goal

pub returns : goal.returns
returns c = pages_turn
