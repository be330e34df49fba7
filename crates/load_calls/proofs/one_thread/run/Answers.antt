use Rattle.std.proofs.Common.{arith, refl, ◌∙◌}
use Rattle.load_calls.proofs.Firsts.{no_lines, one_more_line}
use Rattle.load_calls.proofs.one_thread.run.Goals as goal

pub loop-line-init : goal.loop-line-init
loop-line-init c = record { len = refl; left = no_lines c.args.firsts.now; most = omega arith }

pub loop-line-preserved : goal.loop-line-preserved
loop-line-preserved c =
    let e = c.call-seen.ensures in
    record {
      len = e.len ∙ c.loop-line.invariant.len;
      left = λ disk are. one_more_line c.args.lines.now c.loop-line.line-index _ c.loop-line.firsts c.call-seen.new.firsts c.loop-line.seen c.call-seen.result disk c.loop-line-test.true (c.loop-line.invariant.left disk are) e.left e.saw;
      most = omega arith;
    }
