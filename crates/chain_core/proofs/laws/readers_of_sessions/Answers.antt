use Rattle.chain_core.proofs.SealedSteps.{readers_of_session}
use Rattle.chain_core.proofs.laws.readers_of_sessions.Goals as goal

pub returns : goal.returns
returns c = readers_of_session
