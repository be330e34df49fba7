use Rattle.std.proofs.Common.{◌++◌, ◌∙◌, ap, codes, string_bytes}
use Rattle.check_repair.specs.Answers.{copy_finding}
use Rattle.command_base.specs.Checks.{finding_said}
use Rattle.folder_commands.proofs.Listed.{line_of}
use Rattle.folder_commands.proofs.findings.push_copy.Goals as goal

pub returns : goal.returns
returns c =
    let said = finding_said (copy_finding c.args.fault.now) in
    line_of (string_bytes c.args.text.now) said.0 c.args.file.now said.1 (string_bytes c.push_head.new.text) (string_bytes c.push_copy_value.new.text) (string_bytes c.push_str.new.self)
    (c.in_ok-push_head.ensures ∙ ap (λ t. string_bytes c.args.text.now ++ (codes "finding " ++ t ++ codes " " ++ c.args.file.now)) c.copy_name.ensures)
    c.in_ok-push_copy_value.ensures c.in_ok-push_str.ensures.bytes
