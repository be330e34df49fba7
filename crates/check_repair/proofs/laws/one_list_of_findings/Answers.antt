use Rattle.check_repair.proofs.OneList.{one_list}
use Rattle.check_repair.proofs.laws.one_list_of_findings.Goals as goal

pub returns : goal.returns
returns c = one_list
