use Rattle.merge_plan.proofs.Gathered.{not_if_ok_so, not_ok_so}
use Rattle.merge_plan.proofs.merge.prepare.Goals as goal

pub plan-requires-clause-can : goal.plan-requires-clause-can
plan-requires-clause-can g c = c.requires

pub plan-requires-clause-found : goal.plan-requires-clause-found
plan-requires-clause-found g c = c.in_ok-found.ensures.found

pub plan-requires-clause-drawn : goal.plan-requires-clause-drawn
plan-requires-clause-drawn g c = c.draw-drawn.ensures.draws.each

pub returns-in_err-found-clause-planned : goal.returns-in_err-found-clause-planned
returns-in_err-found-clause-planned g c = not_if_ok_so c.from_residual.result c.from_residual.ensures.0 _

pub returns-in_err-found-clause-stays : goal.returns-in_err-found-clause-stays
returns-in_err-found-clause-stays g c = not_ok_so c.from_residual.result c.from_residual.ensures.0 _

pub returns-clause-stays : goal.returns-clause-stays
returns-clause-stays g c = c.plan.ensures.stays
