use Rattle.file_open.specs.Causes.{meaning_of}
use Rattle.link_rules.specs.Causes.{of_file}
use Rattle.command_base.specs.Causes.{of_chain}
use Rattle.command_base.proofs.RuleSaid.{rule_said}
use Rattle.command_base.proofs.Said.{reports_for}
use Rattle.command_base.proofs.refusing.refuse_opening.Goals as goal

pub returns-in-Host : goal.returns-in-Host
returns-in-Host g c = reports_for (λ r. of_chain (of_file c.args.file.now (meaning_of r))) _ _ _ _ _ c.args.refusal _ c.in-Host.is c.fail.ensures

pub returns-in-Store : goal.returns-in-Store
returns-in-Store g c = reports_for (λ r. of_chain (of_file c.args.file.now (meaning_of r))) _ _ _ _ _ c.args.refusal _ c.in-Store.is c.fail-in-Store.ensures

pub returns-in-NoRoom : goal.returns-in-NoRoom
returns-in-NoRoom g c = reports_for (λ r. of_chain (of_file c.args.file.now (meaning_of r))) _ _ _ _ _ c.args.refusal _ c.in-NoRoom.is c.out_of_memory.ensures

pub returns-in_default : goal.returns-in_default
returns-in_default g c = rule_said c.args.file.now _ _ _ _ _ c.unopened_line.result c.args.refusal c.in_default.not-Host c.in_default.not-Store c.in_default.not-NoRoom c.unopened_line.ensures c.refuse.ensures
