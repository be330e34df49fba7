use Rattle.script.specs.declared.refusal.SourceRefusal.TheVariants as source
use Rattle.steps_command.proofs.Told.{source_told}
use Rattle.steps_command.proofs.refusing.refuse_script.Goals as goal

pub returns-in-Line : goal.returns-in-Line
returns-in-Line g c = source_told _ _ _ _ _ c.args.refusal (source.Line c.in-Line.number) c.in-Line.is c.name_line.ensures

pub returns-in-Source : goal.returns-in-Source
returns-in-Source g c = source_told _ _ _ _ _ c.args.refusal (source.Source c.in-Source.fault) c.in-Source.is c.fail.ensures

pub returns-in-NoRoom : goal.returns-in-NoRoom
returns-in-NoRoom g c = source_told _ _ _ _ _ c.args.refusal source.NoRoom c.in-NoRoom.is c.out_of_memory.ensures
