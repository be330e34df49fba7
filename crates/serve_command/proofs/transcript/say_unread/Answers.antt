use Rattle.serve_command.proofs.Told.{unread_none, unread_some}
use Rattle.serve_command.proofs.transcript.say_unread.Goals as goal

pub returns-then-unread-gt0 : goal.returns-then-unread-gt0
returns-then-unread-gt0 g c = unread_some _ _ _ _ _ c.args.unread c.if-unread-gt0.true c.fail.ensures

pub returns-else-unread-gt0 : goal.returns-else-unread-gt0
returns-else-unread-gt0 g c = unread_none _ _ _ _ _ c.args.unread c.if-unread-gt0.false c.out_of_memory.ensures
