use Rattle.steps_command.proofs.Told.{ran_lines, ran_none}
use Rattle.steps_command.proofs.transcript.show_ran.Goals as goal

pub returns-in-Ok : goal.returns-in-Ok
returns-in-Ok g c = ran_lines _ _ _ _ _ c.args.end c.args.run.transcript c.args.run.fault c.args.run.closed c.in-Ok.text c.as_bytes.result.now c.in-Ok.is c.as_bytes.ensures.value c.say_lines.ensures

pub returns-in-Err : goal.returns-in-Err
returns-in-Err g c = ran_none _ _ _ _ _ c.args.end c.args.run.transcript c.args.run.fault c.args.run.closed c.in-Err.field-0 c.in-Err.is c.say_none.ensures
