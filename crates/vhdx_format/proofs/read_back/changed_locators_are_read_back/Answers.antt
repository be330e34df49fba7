use Rattle.vhdx_format.proofs.RelinkedValues.{locators_relink}
use Rattle.vhdx_format.proofs.RelinkedRules.{locators_keep_rules}
use Rattle.vhdx_format.proofs.RelinkedRead.{relinked_are_read}
use Rattle.vhdx_format.proofs.read_back.changed_locators_are_read_back.Goals as goal

pub returns-clause-named : goal.returns-clause-named
returns-clause-named c = locators_relink

pub returns-clause-rules : goal.returns-clause-rules
returns-clause-rules c = locators_keep_rules

pub returns-clause-read : goal.returns-clause-read
returns-clause-read c = relinked_are_read
