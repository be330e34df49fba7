use Rattle.chain_core.proofs.SealedSteps.{readers_succeed}
use Rattle.chain_core.proofs.laws.readers_succeed.Goals as goal

pub returns : goal.returns
returns c = record { later = readers_succeed }
