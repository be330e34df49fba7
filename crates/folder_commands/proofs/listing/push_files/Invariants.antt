use Rattle.std.proofs.Common.{◌≡◌, ◌++◌, length, string_bytes}
use Rattle.command_base.specs.Info as spec
use Rattle.folder_commands.proofs.listing.push_files.Given as goal

-- the text so far, and the lines of the files that are left
abbrev pub invariant-loop-rest : goal.invariant-loop-rest
invariant-loop-rest l = string_bytes l.text ++ spec.file_lines l.rest ≡ string_bytes l.fn.text ++ spec.file_lines l.files

abbrev pub decreases-loop-rest : goal.decreases-loop-rest
decreases-loop-rest l = length l.rest
