use Rattle.folder_commands.proofs.MadeShow.{made_show}
use Rattle.folder_commands.proofs.laws.new_files_show.Goals as goal

pub returns : goal.returns
returns c = made_show
