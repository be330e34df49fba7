use Rattle.command_base.specs.Causes.{meaning_of_repair}
use Rattle.command_base.proofs.Said.{refusal_sent, reports_for}
use Rattle.folder_commands.proofs.repairing.refuse_repair.Goals as goal

pub returns-in-Open : goal.returns-in-Open
returns-in-Open g c = reports_for (meaning_of_repair c.args.name.now) _ _ _ _ _ c.args.refusal _ c.in-Open.is c.refuse_opening.ensures

pub returns-in-IdUnfit : goal.returns-in-IdUnfit
returns-in-IdUnfit g c = reports_for (meaning_of_repair c.args.name.now) _ _ _ _ _ c.args.refusal _ c.in-IdUnfit.is (refusal_sent _ _ _ _ _ _ _ c.unfit_line.result c.unfit_line.ensures c.refuse.ensures)

pub returns-in-Store : goal.returns-in-Store
returns-in-Store g c = reports_for (meaning_of_repair c.args.name.now) _ _ _ _ _ c.args.refusal _ c.in-Store.is c.fail.ensures

pub returns-in-NoRoom : goal.returns-in-NoRoom
returns-in-NoRoom g c = reports_for (meaning_of_repair c.args.name.now) _ _ _ _ _ c.args.refusal _ c.in-NoRoom.is c.out_of_memory.ensures
