use Rattle.merge_plan.proofs.Gathered.{not_ok_so}
use Rattle.merge_plan.proofs.merge.judge.Goals as goal

pub returns-in_err-known-clause-fit : goal.returns-in_err-known-clause-fit
returns-in_err-known-clause-fit g c = not_ok_so c.from_residual.result c.from_residual.ensures.0 _

pub returns-in_err-known-clause-stays : goal.returns-in_err-known-clause-stays
returns-in_err-known-clause-stays g c = not_ok_so c.from_residual.result c.from_residual.ensures.0 _
