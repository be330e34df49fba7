use Rattle.std.proofs.Common.{refl}
use Rattle.printing.specs.Sent.{cut}
use Rattle.command_base.proofs.refusing.fail.Goals as goal

pub returns-in-Err : goal.returns-in-Err
returns-in-Err g c = cut refl c.in-Err.ensures.cut.0 c.in-Err.ensures.cut.1 c.in-Err.ensures.rose
