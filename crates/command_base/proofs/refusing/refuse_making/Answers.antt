use Rattle.command_base.specs.Causes.{meaning_of_make}
use Rattle.command_base.proofs.Said.{refusal_sent, reports_for}
use Rattle.command_base.proofs.refusing.refuse_making.Goals as goal

pub returns-in-NameTaken : goal.returns-in-NameTaken
returns-in-NameTaken g c = reports_for (meaning_of_make c.args.name.now) _ _ _ _ _ c.args.refusal _ c.in-NameTaken.is (refusal_sent _ _ _ _ _ _ _ c.taken_line.result c.taken_line.ensures c.refuse.ensures)

pub returns-in-IdUnfit : goal.returns-in-IdUnfit
returns-in-IdUnfit g c = reports_for (meaning_of_make c.args.name.now) _ _ _ _ _ c.args.refusal _ c.in-IdUnfit.is (refusal_sent _ _ _ _ _ _ _ c.unfit_line.result c.unfit_line.ensures c.refuse-in-IdUnfit.ensures)

pub returns-in-Host : goal.returns-in-Host
returns-in-Host g c = reports_for (meaning_of_make c.args.name.now) _ _ _ _ _ c.args.refusal _ c.in-Host.is c.fail.ensures

pub returns-in-Store : goal.returns-in-Store
returns-in-Store g c = reports_for (meaning_of_make c.args.name.now) _ _ _ _ _ c.args.refusal _ c.in-Store.is c.fail-in-Store.ensures

pub returns-in-NoRoom : goal.returns-in-NoRoom
returns-in-NoRoom g c = reports_for (meaning_of_make c.args.name.now) _ _ _ _ _ c.args.refusal _ c.in-NoRoom.is c.out_of_memory.ensures
