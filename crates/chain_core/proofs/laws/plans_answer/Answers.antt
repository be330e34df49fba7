use Rattle.chain_core.proofs.Later.{plans_answer}
use Rattle.chain_core.proofs.laws.plans_answer.Goals as goal

pub returns : goal.returns
returns c = plans_answer
