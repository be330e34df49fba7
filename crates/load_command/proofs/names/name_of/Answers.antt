use Rattle.load_command.proofs.Named.{names_are}
use Rattle.load_command.proofs.names.name_of.Goals as goal

pub returns-in-0-clause-name : goal.returns-in-0-clause-name
returns-in-0-clause-name c = names_are 0

pub returns-in-1-clause-name : goal.returns-in-1-clause-name
returns-in-1-clause-name c = names_are 1

pub returns-in-2-clause-name : goal.returns-in-2-clause-name
returns-in-2-clause-name c = names_are 2

pub returns-in-3-clause-name : goal.returns-in-3-clause-name
returns-in-3-clause-name c = names_are 3

pub returns-in_default-clause-name : goal.returns-in_default-clause-name
returns-in_default-clause-name c = names_are 4
