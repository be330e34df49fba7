use Rattle.std.proofs.Common.{length}
use Rattle.chain_core.proofs.sealing.+seal_files.Given as goal

abbrev pub decreases-seal_files : goal.decreases-seal_files
decreases-seal_files g l = length l.layers.now
