use Rattle.layer_session.proofs.Written.{writes_are_served}
use Rattle.layer_session.proofs.laws.writes_are_served.Goals as goal

pub returns : goal.returns
returns c = writes_are_served
