use Rattle.std.proofs.Common.{◌≡◌, ◌++◌, take}
use Rattle.folder_commands.proofs.making.add_all.Given as goal

-- those so far were added
abbrev pub invariant-loop-id : goal.invariant-loop-id
invariant-loop-id l = l.known.items ≡ l.initial.known.items ++ take l.id-index l.ids
