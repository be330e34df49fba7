use Rattle.command_base.specs.Causes.{meaning_of_chain}
use Rattle.command_base.proofs.Said.{reports_for}
use Rattle.command_base.proofs.refusing.refuse_chain.Goals as goal

pub returns-in-Unlinked : goal.returns-in-Unlinked
returns-in-Unlinked g c = reports_for meaning_of_chain _ _ _ _ _ c.args.refusal _ c.in-Unlinked.is c.refuse_link.ensures

pub returns-in-Host : goal.returns-in-Host
returns-in-Host g c = reports_for meaning_of_chain _ _ _ _ _ c.args.refusal _ c.in-Host.is c.fail.ensures

pub returns-in-Store : goal.returns-in-Store
returns-in-Store g c = reports_for meaning_of_chain _ _ _ _ _ c.args.refusal _ c.in-Store.is c.fail-in-Store.ensures

pub returns-in-NoRoom : goal.returns-in-NoRoom
returns-in-NoRoom g c = reports_for meaning_of_chain _ _ _ _ _ c.args.refusal _ c.in-NoRoom.is c.out_of_memory.ensures
