use Rattle.serve_command.specs.Guests.{end_of}
use Rattle.serve_command.proofs.Told.{served_lines, served_none}
use Rattle.serve_command.proofs.transcript.show_merge_run.Goals as goal

pub returns-in-Ok : goal.returns-in-Ok
returns-in-Ok g c =
    let run = c.args.run in
    served_lines _ _ _ _ _ (end_of run.merged) run.unread c.end_of.result run.run.transcript run.run.fault run.run.closed c.in-Ok.text c.as_bytes.result.now c.in-Ok.is c.as_bytes.ensures.value c.end_of.ensures c.say_lines.ensures

pub returns-in-Err : goal.returns-in-Err
returns-in-Err g c =
    let run = c.args.run in
    served_none _ _ _ _ _ (end_of run.merged) run.unread run.run.transcript run.run.fault run.run.closed c.in-Err.field-0 c.in-Err.is c.say_none_served.ensures
