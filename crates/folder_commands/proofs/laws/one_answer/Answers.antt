use Rattle.command_base.proofs.OneAnswer.{finds_once}
use Rattle.folder_commands.proofs.laws.one_answer.Goals as goal

pub returns : goal.returns
returns c = finds_once
