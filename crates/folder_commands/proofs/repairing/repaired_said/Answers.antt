use Rattle.std.proofs.Common.{ap, refl}
use Rattle.folder_commands.specs.Repairs.{repaired_line}
use Rattle.printing.specs.Sent.{cut}
use Rattle.printing.proofs.Saying.{text_sent}
use Rattle.folder_commands.proofs.repairing.repaired_said.Goals as goal

pub returns-in-Err : goal.returns-in-Err
returns-in-Err g c = text_sent _ _ _ _ _ _ _ _ (ap repaired_line c.as_bytes.ensures.value) (cut refl c.in-Err.ensures.cut.0 c.in-Err.ensures.cut.1 c.in-Err.ensures.rose)
