use Rattle.std.proofs.Common.{length}
use Rattle.chain_core.proofs.layers.+end_files.Given as goal

abbrev pub decreases-end_files : goal.decreases-end_files
decreases-end_files g l = length l.below.items
