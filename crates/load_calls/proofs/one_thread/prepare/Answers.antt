use Rattle.std.proofs.Common.{◌∙◌}
use Rattle.load_calls.proofs.Prepared.{with_writes_left}
use Rattle.load_calls.proofs.one_thread.prepare.Goals as goal

pub returns-clause-left : goal.returns-clause-left
returns-clause-left c disk are =
    with_writes_left c.args.seed c.args.file c.as_slice.result.now c.run.new.firsts c.run.result disk (c.as_slice.ensures ∙ c.in_ok-lines.ensures) (c.run.ensures.left disk are)
