use Rattle.std.proofs.Common.{◌≡◌, length, take}
use Rattle.command_base.specs.Commands.{AreLayersFrom}
use Rattle.folder_commands.proofs.sectors.layers_of.Given as goal

-- the layers so far are those of the files so far
abbrev pub invariant-loop-file : goal.invariant-loop-file
invariant-loop-file l = record {
  number : length l.layers.items ≡ l.file-index;
  layers : AreLayersFrom 0 (take l.file-index l.files) l.layers.items;
}
