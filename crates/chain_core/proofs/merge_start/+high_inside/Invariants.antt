use Rattle.std.proofs.Common.{length}
use Rattle.chain_core.proofs.merge_start.+high_inside.Given as goal

abbrev pub decreases-high_inside : goal.decreases-high_inside
decreases-high_inside l = length l.files.now
