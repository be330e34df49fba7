use Rattle.merge_plan.proofs.Judging.{IsJudgedTo}
use Rattle.merge_plan.proofs.drawing.first_unfit.Given as goal

-- none before this place is unfit
abbrev pub invariant-loop-place : goal.invariant-loop-place
invariant-loop-place l = IsJudgedTo l.known l.drawn l.place
