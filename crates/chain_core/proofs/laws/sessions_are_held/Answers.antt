use Rattle.chain_core.proofs.Showing.{leaves_are_left, readings_are_held, sessions_are_held}
use Rattle.chain_core.proofs.laws.sessions_are_held.Goals as goal

pub returns-clause-sessions : goal.returns-clause-sessions
returns-clause-sessions c = sessions_are_held

pub returns-clause-readings : goal.returns-clause-readings
returns-clause-readings c = readings_are_held

pub returns-clause-left : goal.returns-clause-left
returns-clause-left c = leaves_are_left
