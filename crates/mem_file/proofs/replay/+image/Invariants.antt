use Rattle.std.proofs.Common.{length}
use Rattle.mem_file.proofs.replay.+image.Given as goal

abbrev pub decreases-image : goal.decreases-image
decreases-image l = length l.steps.now
