use Rattle.script_session.proofs.Leaving as leaving
use Rattle.script_session.proofs.laws.skips_leave.Goals as goal

pub returns : goal.returns
returns c = leaving.skips_leave
