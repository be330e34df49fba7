use Rattle.script_session.proofs.Leaving as leaving
use Rattle.script_session.proofs.laws.finishes_leave.Goals as goal

pub returns : goal.returns
returns c = leaving.finishes_leave
