use Rattle.disk_calls.proofs.Whole.{one_history}
use Rattle.disk_calls.proofs.laws.one_history.Goals as goal

pub returns : goal.returns
returns c = record { history = one_history }
