use Rattle.std.proofs.Common.{◌∙◌}
use Rattle.printing.proofs.Sending.{appended, piece_within}
use Rattle.printing.proofs.print.send.Goals as goal

pub loop-at-preserved : goal.loop-at-preserved
loop-at-preserved g c = (
  piece_within c.args.text.now c.loop-at.at c.in_ok-taken.taken c.loop-at.invariant.0 c.in_ok-taken.ensures.bound,
  appended _ _ _ c.args.text.now c.loop-at.at c.in_ok-taken.taken c.loop-at.invariant.1 c.in_ok-taken.ensures.bytes,
  c.in_ok-taken.ensures.count.ok ∙ c.loop-at.invariant.2,
)
