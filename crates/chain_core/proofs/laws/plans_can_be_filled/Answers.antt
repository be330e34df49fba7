use Rattle.chain_core.proofs.Later.{plans_can_be_filled}
use Rattle.chain_core.proofs.laws.plans_can_be_filled.Goals as goal

pub returns : goal.returns
returns c = plans_can_be_filled
