use Rattle.std.proofs.Common.{Err, ap, ◌∙◌}
use Rattle.folder_commands.proofs.Said.{made_so, no_room_so}
use Rattle.folder_commands.proofs.making.say_made.Goals as goal

pub returns-in-Ok : goal.returns-in-Ok
returns-in-Ok g c = made_so _ _ _ _ _ _ _ _ c.in-Ok.is c.made_said.ensures

pub returns-in-Err-NoRoom : goal.returns-in-Err-NoRoom
returns-in-Err-NoRoom g c = no_room_so _ _ _ _ _ _ _ (c.in-Err-NoRoom.is ∙ ap Err c.in-Err-NoRoom.field-0-is) c.out_of_memory.ensures
