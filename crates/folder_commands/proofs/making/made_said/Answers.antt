use Rattle.std.proofs.Common.{ap, refl}
use Rattle.command_base.specs.Making.{made_line}
use Rattle.printing.specs.Sent.{cut}
use Rattle.printing.proofs.Saying.{text_sent}
use Rattle.folder_commands.proofs.making.made_said.Goals as goal

pub returns-in-Err : goal.returns-in-Err
returns-in-Err g c = text_sent _ _ _ _ _ _ _ _ (ap (λ n. made_line n c.args.len) c.as_bytes.ensures.value) (cut refl c.in-Err.ensures.cut.0 c.in-Err.ensures.cut.1 c.in-Err.ensures.rose)
