use Rattle.std.proofs.Common.{length, sym, ap, arith}
use Rattle.std.proofs.lemmas.Fmt.{decimal_digit}
use Rattle.printing.proofs.Digits.{first_digit, digits_len, next_digit}
use Rattle.printing.proofs.line.+write_decimal.Goals as goal

pub bounds-out-0 : goal.bounds-out-0
bounds-out-0 t c = omega (arith, c.requires, ap length (decimal_digit c.args.number c.if-number-lt10.true))

pub returns-then-number-lt10-clause-len : goal.returns-then-number-lt10-clause-len
returns-then-number-lt10-clause-len t c = sym (ap length (decimal_digit c.args.number c.if-number-lt10.true))

pub returns-then-number-lt10-clause-digits : goal.returns-then-number-lt10-clause-digits
returns-then-number-lt10-clause-digits t c = first_digit c.args.number c.args.out.now c.if-number-lt10.true c.requires

pub write_decimal-len-requires : goal.write_decimal-len-requires
write_decimal-len-requires t c =
    let longer = digits_len c.args.number c.if-number-lt10.false c.ranges.number.fits in (
      omega (arith, c.decreases, c.if-number-lt10.false),
      omega (arith, c.requires, longer),
    )

pub bounds-out-len : goal.bounds-out-len
bounds-out-len t c = omega (arith, c.requires, c.write_decimal-len.ensures.len, c.write_decimal-len.auto.out, digits_len c.args.number c.if-number-lt10.false c.ranges.number.fits)

pub returns-clause-len : goal.returns-clause-len
returns-clause-len t c = omega (arith, c.write_decimal-len.ensures.len, digits_len c.args.number c.if-number-lt10.false c.ranges.number.fits)

pub returns-clause-digits : goal.returns-clause-digits
returns-clause-digits t c =
    next_digit c.args.number c.write_decimal-len.result c.args.out.now c.write_decimal-len.new.out c.if-number-lt10.false c.ranges.number.fits c.requires c.write_decimal-len.ensures.len c.write_decimal-len.ensures.digits
