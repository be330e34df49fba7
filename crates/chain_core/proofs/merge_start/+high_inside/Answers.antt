use Rattle.std.proofs.Common.{arith}
use Rattle.chain_core.proofs.Spending.{spent_short}
use Rattle.chain_core.proofs.merge_start.+high_inside.Goals as goal

pub returns-in_default : goal.returns-in_default
returns-in_default g c = spent_short c.args.files.now c.args.name.now (omega (arith, c.in_default.len_below))
