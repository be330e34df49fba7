use Rattle.std.proofs.Common.{length}
use Rattle.block_alloc.proofs.freed.+touches_none.Given as goal

abbrev pub decreases-touches_none : goal.decreases-touches_none
decreases-touches_none l = length l.freed.now
