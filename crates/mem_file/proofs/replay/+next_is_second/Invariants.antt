use Rattle.std.proofs.Common.{length}
use Rattle.mem_file.proofs.replay.+next_is_second.Given as goal

abbrev pub decreases-next_is_second : goal.decreases-next_is_second
decreases-next_is_second l = length l.steps.now
