use Rattle.command_base.proofs.Said.{refusal_sent}
use Rattle.load_command.proofs.Sessions.{call_said}
use Rattle.load_command.proofs.stop.say_stop.Goals as goal

pub returns-in-Call : goal.returns-in-Call
returns-in-Call g c = call_said c.args.stop c.in-Call.refusal _ _ _ _ _ c.in-Call.is (refusal_sent _ _ _ _ _ _ _ _ c.call_line.ensures c.refuse.ensures)
