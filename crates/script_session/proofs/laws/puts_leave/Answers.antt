use Rattle.script_session.proofs.Leaving as leaving
use Rattle.script_session.proofs.laws.puts_leave.Goals as goal

pub returns : goal.returns
returns c = leaving.puts_leave
