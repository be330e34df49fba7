use Rattle.std.proofs.Common.{◌≡◌, ◌++◌, length, map, string_bytes}
use Rattle.check_repair.specs.Findings.{Breaks}
use Rattle.parent_locator.specs.Listing.{fault_rule}
use Rattle.command_base.specs.Checks.{finding_lines}
use Rattle.folder_commands.proofs.findings.push_locator.Given as goal

-- the text so far, and the lines of the faults that are left
abbrev pub invariant-loop-rest : goal.invariant-loop-rest
invariant-loop-rest l = string_bytes l.text ++ finding_lines l.file (map Breaks (map fault_rule l.rest)) ≡ string_bytes l.fn.text ++ finding_lines l.file (map Breaks (map fault_rule l.faults))

abbrev pub decreases-loop-rest : goal.decreases-loop-rest
decreases-loop-rest l = length l.rest
