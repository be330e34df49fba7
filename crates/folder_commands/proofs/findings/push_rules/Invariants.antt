use Rattle.std.proofs.Common.{◌++◌, List, drop, map, string_bytes}
use Rattle.vhdx_format.specs.Rules.{BrokenRule}
use Rattle.check_repair.specs.Answers.{MeanRules}
use Rattle.check_repair.specs.Findings.{Breaks}
use Rattle.command_base.specs.Checks.{finding_lines}
use Rattle.folder_commands.proofs.Listed.{AreLeft}
use Rattle.folder_commands.proofs.findings.push_rules.Given as goal

-- the text so far, and the lines of the rules that are left
abbrev pub invariant-loop-refusal : goal.invariant-loop-refusal
invariant-loop-refusal l = (all : List BrokenRule) → MeanRules l.refusals all
    → AreLeft l.file (string_bytes l.text) (drop l.refusal-index l.refusals) (string_bytes l.fn.text ++ finding_lines l.file (map Breaks all))
