use Rattle.std.proofs.Common.{◌≡◌, ◌++◌, length, map, string_bytes}
use Rattle.check_repair.specs.Answers.{copy_finding}
use Rattle.command_base.specs.Checks.{finding_lines}
use Rattle.folder_commands.proofs.findings.push_copies.Given as goal

-- the text so far, and the lines of the faults that are left
abbrev pub invariant-loop-rest : goal.invariant-loop-rest
invariant-loop-rest l = string_bytes l.text ++ finding_lines l.file (map copy_finding l.rest) ≡ string_bytes l.fn.text ++ finding_lines l.file (map copy_finding l.faults)

abbrev pub decreases-loop-rest : goal.decreases-loop-rest
decreases-loop-rest l = length l.rest
