use Rattle.std.proofs.Common.{arith}
use Rattle.printing.proofs.Digits.{end_of, few_digits}
use Rattle.printing.proofs.line.write_end.Goals as goal

pub write_decimal-digits-requires : goal.write_decimal-digits-requires
write_decimal-digits-requires c = omega (arith, few_digits c.args.number c.ranges.number.fits, c.requires)

pub bounds-out-digits : goal.bounds-out-digits
bounds-out-digits c = omega (arith, few_digits c.args.number c.ranges.number.fits, c.requires, c.write_decimal-digits.ensures.len, c.write_decimal-digits.auto.out)

pub returns-clause-few : goal.returns-clause-few
returns-clause-few c = omega (arith, few_digits c.args.number c.ranges.number.fits, c.write_decimal-digits.ensures.len)

pub returns-clause-end : goal.returns-clause-end
returns-clause-end c =
    end_of c.args.number c.args.out.now c.write_decimal-digits.new.out c.write_decimal-digits.result c.write_decimal-digits.ensures.len c.write_decimal-digits.ensures.digits
    (omega (arith, few_digits c.args.number c.ranges.number.fits, c.requires))
