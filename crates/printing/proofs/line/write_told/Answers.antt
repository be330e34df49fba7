use Rattle.printing.proofs.Digits.{told_of}
use Rattle.printing.proofs.Lines.{one_set}
use Rattle.printing.proofs.line.write_told.Goals as goal

pub returns-clause-line : goal.returns-clause-line
returns-clause-line c =
    told_of c.args.told.now c.args.name.now c.args.number _ _ _ _ c.write_end.result c.copy_from_slice.ensures.after c.copy_from_slice-2.ensures.after (one_set _ 32 c.split_at_mut-space.ensures.front_len) c.write_end.ensures.end
