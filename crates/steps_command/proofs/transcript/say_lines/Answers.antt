use Rattle.steps_command.proofs.Told.{told_at_end, told_in_lines, told_whole}
use Rattle.steps_command.proofs.transcript.say_lines.Goals as goal

pub returns-in-None-Ok : goal.returns-in-None-Ok
returns-in-None-Ok g c = told_whole _ _ _ _ _ c.args.end c.args.text.now c.args.fault c.args.closed _ c.in-None-Ok.is-0 c.in-None-Ok.is-1 c.deliver.ensures

pub returns-in-None-Err : goal.returns-in-None-Err
returns-in-None-Err g c = told_at_end _ _ _ _ _ c.args.end c.args.text.now c.args.fault c.args.closed _ c.in-None-Err.is-0 c.in-None-Err.is-1 c.deliver-in-None-Err.ensures

pub returns-in-Some-default : goal.returns-in-Some-default
returns-in-Some-default g c = told_in_lines _ _ _ _ _ c.args.end c.args.text.now c.args.fault c.args.closed _ c.in-Some-default.is-0 c.deliver-in-Some-default.ensures
