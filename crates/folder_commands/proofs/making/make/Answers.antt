use Rattle.vhdx_format.proofs.WrittenTexts.{length-name}
use Rattle.folder_commands.proofs.making.make.Goals as goal

pub say_made-requires : goal.say_made-requires
say_made-requires g c = length-name c.args.name.now c.requires.name

pub returns : goal.returns
returns g c = c.make_new-made.ensures.ended _ _ _ _ _ c.say_made.ensures
