use Rattle.script_session.proofs.LinesTold.{lines_told}
use Rattle.script_session.proofs.laws.lines_tell_history.Goals as goal

pub returns : goal.returns
returns c = lines_told
