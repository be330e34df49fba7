use Rattle.std.proofs.Common.{◌≡◌, None, subst, sym}
use Rattle.std.specs.Prelude.{IfErr, IfOk}
use Rattle.load_command.specs.Stops.{EndsBadly, EndsWell}
use Rattle.load_command.proofs.Sessions.{not_begun}
use Rattle.load_command.proofs.serving.judge.Goals as goal

pub returns-in-Ok-clause-well : goal.returns-in-Ok-clause-well
returns-in-Ok-clause-well c = subst (λ r. IfOk c.judge_run.result (λ tally. EndsWell r tally × (tally.refused ≡ None))) (sym c.in-Ok.is) c.judge_run.ensures.well

pub returns-in-Ok-clause-badly : goal.returns-in-Ok-clause-badly
returns-in-Ok-clause-badly c = subst (λ r. IfErr c.judge_run.result (EndsBadly r)) (sym c.in-Ok.is) c.judge_run.ensures.badly

pub returns-in-Err-clause-badly : goal.returns-in-Err-clause-badly
returns-in-Err-clause-badly c = not_begun c.args.run c.in-Err.refusal c.in-Err.is
