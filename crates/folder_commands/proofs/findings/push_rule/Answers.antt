use Rattle.std.proofs.Common.{string_bytes}
use Rattle.file_open.specs.Causes.{cause_of}
use Rattle.folder_commands.proofs.Listed.{rule_line}
use Rattle.folder_commands.proofs.findings.push_rule.Goals as goal

pub returns : goal.returns
returns c =
    rule_line (cause_of c.args.refusal.now) (string_bytes c.args.text.now) c.name_of.result.now c.args.file.now (string_bytes c.push_head.new.text) (string_bytes c.push_values.new.text) (string_bytes c.push_str.new.self)
    c.name_of.ensures c.in_ok-push_head.ensures c.in_ok-push_values.ensures c.in_ok-push_str.ensures.bytes
