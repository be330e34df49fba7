use Rattle.vhdx_app.proofs.Resuming.{openings_resume, resumed_runs_go_on, runs_resume, sessions_resume}
use Rattle.vhdx_app.proofs.laws.runs_resume.Goals as goal

pub returns : goal.returns
returns c = record { each = runs_resume; served = sessions_resume; again = openings_resume; over = resumed_runs_go_on }
