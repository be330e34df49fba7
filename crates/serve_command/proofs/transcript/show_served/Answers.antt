use Rattle.serve_command.proofs.Told.{served_told}
use Rattle.serve_command.proofs.transcript.show_served.Goals as goal

pub returns-in-Ok : goal.returns-in-Ok
returns-in-Ok g c = served_told _ _ _ _ _ c.args.run c.in-Ok.run' c.in-Ok.is c.show_merge_run.ensures
