use Rattle.std.proofs.Common.{Ok, refl, sym}
use Rattle.load_command.specs.Stops.{call_refused}
use Rattle.load_command.proofs.Sessions.{ended_badly, ended_well}
use Rattle.load_command.proofs.serving.judge_run.Goals as goal

pub returns-then-not-is_done-clause-badly : goal.returns-then-not-is_done-clause-badly
returns-then-not-is_done-clause-badly c = ended_badly (Ok c.args.run) c.args.run refl (sym c.if-not-is_done.ensures)

pub returns-in-None-clause-well : goal.returns-in-None-clause-well
returns-in-None-clause-well c = (ended_well (Ok c.args.run) c.args.run refl (sym c.if-not-is_done.ensures), c.in-None.is)

pub returns-clause-badly : goal.returns-clause-badly
returns-clause-badly c = call_refused c.args.run.tally c.in-Some.refusal (ended_well (Ok c.args.run) c.args.run refl (sym c.if-not-is_done.ensures)) c.in-Some.is
