use Rattle.printing.proofs.Saying.{said_line, said_none, text_sent}
use Rattle.printing.proofs.print.say.Goals as goal

pub returns-in-Ok : goal.returns-in-Ok
returns-in-Ok g c = said_line _ _ _ _ _ _ c.args.line _ c.in-Ok.is (text_sent _ _ _ _ _ _ _ _ c.as_bytes.ensures.value c.deliver.ensures)

pub returns-in-Err : goal.returns-in-Err
returns-in-Err g c = said_none _ _ _ _ _ _ c.args.line _ c.in-Err.is c.out_of_memory.ensures
