use Rattle.std.proofs.Common.{◌∙◌, arith}
use Rattle.std.specs.Prelude.{decimal}
use Rattle.printing.specs.Answers as spec
use Rattle.printing.proofs.Digits.{few_digits, line_of}
use Rattle.printing.proofs.line.write_line.Goals as goal

pub write_decimal-digits-requires : goal.write_decimal-digits-requires
write_decimal-digits-requires c = omega (arith, few_digits c.args.number c.ranges.number.fits, c.requires.room)

pub split_at_mut-bytes-requires : goal.split_at_mut-bytes-requires
split_at_mut-bytes-requires c = omega (arith, few_digits c.args.number c.ranges.number.fits, c.requires.room, c.write_decimal-digits.ensures.len, c.write_decimal-digits.auto.out, c.split_at_mut-behind.ensures.back_len)

pub returns-clause-line : goal.returns-clause-line
returns-clause-line c =
    line_of (decimal c.args.number) c.args.line.now c.write_decimal-digits.new.out _ c.write_bytes.new.out (spec.sector_bytes c.args.sector.now) _ c.write_decimal-digits.result c.write_decimal-digits.ensures.len c.write_decimal-digits.ensures.digits c.split_at_mut-behind.ensures.front
    (c.write_bytes.auto.out ∙ c.split_at_mut-bytes.ensures.front_len) c.write_bytes.ensures
