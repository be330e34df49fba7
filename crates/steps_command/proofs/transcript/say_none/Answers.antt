use Rattle.steps_command.proofs.Told.{none_at_end, none_at_line, none_at_all}
use Rattle.steps_command.proofs.transcript.say_none.Goals as goal

pub returns-in-Err-default : goal.returns-in-Err-default
returns-in-Err-default g c = none_at_end _ _ _ _ _ c.args.fault c.args.closed c.in-Err-default.fault c.in-Err-default.is-0 c.fail.ensures

pub returns-in-Ok-Some : goal.returns-in-Ok-Some
returns-in-Ok-Some g c = none_at_line _ _ _ _ _ c.args.fault c.args.closed c.in-Ok-Some.fault _ c.in-Ok-Some.is-1 c.in-Ok-Some.is-0 c.fail-in-Ok-Some.ensures

pub returns-in-Ok-None : goal.returns-in-Ok-None
returns-in-Ok-None g c = none_at_all _ _ _ _ _ c.args.fault c.args.closed _ c.in-Ok-None.is-1 c.in-Ok-None.is-0 c.out_of_memory.ensures
