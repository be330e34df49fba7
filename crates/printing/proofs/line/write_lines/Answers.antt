use Rattle.std.proofs.Common.{◌+◌, ◌-◌, ◌<◌, ◌++◌, take, refl, ap, ◌∙◌, arith}
use Rattle.printing.specs.Answers.{sector_lines}
use Rattle.printing.proofs.Lines.{one_line, all_lines}
use Rattle.printing.proofs.line.write_lines.Goals as goal

pub loop-number-preserved : goal.loop-number-preserved
loop-number-preserved c =
    let inv = c.loop-number.invariant in
    let left = c.args.first + c.args.count - c.loop-number.number in
    let some : 0 < left = omega (arith, c.loop-number-test.true) in (
      c.add_line-filled.ensures.same ∙ inv.0,
      omega (arith, c.add_line-filled.ensures.inside, inv.1, c.loop-number.auto.number),
      omega (arith, c.split_at.ensures.back_len, inv.2, c.loop-number-test.true),
      ap (λ t. t ++ sector_lines 512 (c.loop-number.number + 1) c.split_at.result.1.now (c.args.first + c.args.count - (c.loop-number.number + 1))) c.add_line-filled.ensures.line
          ∙ one_line (take c.loop-number.filled c.loop-number.page) c.loop-number.rest.now _ c.split_at.result.0.now c.split_at.result.1.now _ c.loop-number.number left _ refl c.split_at.ensures.front c.split_at.ensures.back some (omega arith) inv.3,
    )

pub returns-clause-lines : goal.returns-clause-lines
returns-clause-lines c =
    let inv = c.loop-number.invariant in
    all_lines (take c.loop-number.filled c.loop-number.page) c.loop-number.rest.now (sector_lines 512 c.args.first c.args.sectors.now c.args.count) c.loop-number.number (c.args.first + c.args.count - c.loop-number.number) (omega (arith, c.loop-number-test.false)) inv.3
