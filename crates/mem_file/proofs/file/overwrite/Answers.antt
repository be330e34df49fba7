use Rattle.std.proofs.Common.{arith}
use Rattle.mem_file.proofs.StepLemmas.{written_over-put_mid}
use Rattle.mem_file.proofs.file.overwrite.Goals as goal

pub returns : goal.returns
returns c = written_over-put_mid _ _ _ c.args.at _ c.copy_from_slice.ensures.after (omega arith)
