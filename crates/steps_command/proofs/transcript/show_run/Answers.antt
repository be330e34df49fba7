use Rattle.steps_command.proofs.Told.{run_told}
use Rattle.steps_command.proofs.transcript.show_run.Goals as goal

pub returns-in-Ok : goal.returns-in-Ok
returns-in-Ok g c = run_told _ _ _ _ _ c.args.run c.in-Ok.run' c.in-Ok.is c.show_ran.ensures
