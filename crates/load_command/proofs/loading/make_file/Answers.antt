use Rattle.command_line.specs.Requests.{plain_file}
use Rattle.load_command.proofs.Made.{made_told, unmade_told}
use Rattle.load_command.proofs.loading.make_file.Goals as goal

pub returns-in-Ok-clause-done : goal.returns-in-Ok-clause-done
returns-in-Ok-clause-done g c seed =
    made_told seed c.args.file c.name_of.result.now (plain_file c.file_of.result) _ _ c.make_new.result _ c.name_of.ensures.value c.file_of.ensures.value c.in-Ok.is c.requires.idle c.file_of.ensures.new c.make_new.ensures.ended c.make_new.ensures.untold c.make_new.ensures.typed

pub returns-in-Err-clause-stopped : goal.returns-in-Err-clause-stopped
returns-in-Err-clause-stopped g c seed =
    unmade_told seed c.args.file c.name_of.result.now (plain_file c.file_of.result) _ _ c.make_new.result c.in-Err.refusal c.name_of.ensures.value c.file_of.ensures.value c.in-Err.is c.requires.idle c.make_new.ensures.ended
