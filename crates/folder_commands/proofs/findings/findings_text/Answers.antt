use Rattle.std.proofs.Common.{◌++◌, ◌∙◌, ap, map, string_bytes, subst, sym}
use Rattle.parent_locator.specs.Listing.{fault_rule}
use Rattle.check_repair.specs.Answers.{MeanRules, copy_finding}
use Rattle.check_repair.specs.Findings.{Breaks}
use Rattle.command_base.specs.Checks.{finding_lines}
use Rattle.folder_commands.proofs.Listed.{three_parts}
use Rattle.folder_commands.proofs.findings.findings_text.Goals as goal

pub returns : goal.returns
returns c = λ rules mean.
    let file = c.args.file.now in
    let found = c.args.found.now in
    three_parts file rules (map fault_rule found.locator.items) (map copy_finding found.copies.items) (string_bytes c.new-text.result) (string_bytes c.push_rules.new.text) (string_bytes c.push_locator.new.text) (string_bytes c.push_copies.new.text)
    c.new-text.ensures.bytes (c.in_ok-push_rules.ensures rules (subst (λ r. MeanRules r rules) (sym c.as_slice.ensures.value) mean))
    (c.in_ok-push_locator.ensures ∙ ap (λ xs. string_bytes c.push_rules.new.text ++ finding_lines file (map Breaks (map fault_rule xs))) c.as_slice-2.ensures.value)
    (c.in_ok-push_copies.ensures ∙ ap (λ xs. string_bytes c.push_locator.new.text ++ finding_lines file (map copy_finding xs)) c.as_slice-3.ensures.value)
