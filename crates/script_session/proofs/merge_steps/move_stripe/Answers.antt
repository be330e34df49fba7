use Rattle.script_session.specs.MergeSteps.{fetched_and, not_fetched}
use Rattle.script_session.proofs.merge_steps.move_stripe.Goals as goal

pub returns-in-Ok-clause-answers : goal.returns-in-Ok-clause-answers
returns-in-Ok-clause-answers g c = fetched_and _ c.in-Ok.field-0 _ _ _ _ c.in-Ok.ensures.answers c.put.ensures.answers

pub returns-in-Err-clause-answers : goal.returns-in-Err-clause-answers
returns-in-Err-clause-answers g c = not_fetched _ _ _ _ c.in-Err.ensures.answers
