use Rattle.printing.proofs.line.+write_decimal.Given as goal

abbrev pub decreases-write_decimal : goal.decreases-write_decimal
decreases-write_decimal c = c.number
