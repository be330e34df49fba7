use Rattle.script_session.proofs.Leaving as leaving
use Rattle.script_session.proofs.laws.fetches_leave.Goals as goal

pub returns : goal.returns
returns c = leaving.fetches_leave
