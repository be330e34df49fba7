use Rattle.printing.proofs.Digits.{named_of}
use Rattle.printing.proofs.Lines.{one_set}
use Rattle.printing.proofs.line.write_named.Goals as goal

pub returns-clause-line : goal.returns-clause-line
returns-clause-line c =
    named_of c.args.told.now c.args.name.now _ _ _ _ c.copy_from_slice.ensures.after c.copy_from_slice-2.ensures.after (one_set _ 10 c.split_at_mut-end.ensures.front_len)
