use Rattle.script_session.proofs.Counting.{lines_counted}
use Rattle.script_session.proofs.laws.lines_count_faults.Goals as goal

pub returns : goal.returns
returns c = lines_counted
