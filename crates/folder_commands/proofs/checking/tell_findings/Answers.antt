use Rattle.std.proofs.Common.{◌++◌, ◌∙◌, map, sym}
use Rattle.parent_locator.specs.Listing.{fault_rule}
use Rattle.check_repair.specs.Answers.{copy_finding}
use Rattle.check_repair.specs.Findings.{Breaks}
use Rattle.printing.proofs.Saying.{text_sent}
use Rattle.command_base.specs.Commands.{clean, listed, ran_out}
use Rattle.folder_commands.proofs.Listed.{empty_text, no_lines, some_lines, text_left}
use Rattle.folder_commands.proofs.checking.tell_findings.Goals as goal

pub returns-in-Err : goal.returns-in-Err
returns-in-Err g c = λ rules mean. ran_out c.out_of_memory.ensures

pub returns-then-is_empty : goal.returns-then-is_empty
returns-then-is_empty g c = λ rules mean.
    let findings = map Breaks (rules ++ map fault_rule c.args.found.now.locator.items) ++ map copy_finding c.args.found.now.copies.items in
    clean (no_lines c.args.name.now findings (sym (c.as_bytes-lines.ensures.value ∙ c.in-Ok.ensures rules mean) ∙ empty_text c.as_bytes-lines.result.now c.is_empty.result c.is_empty.ensures c.if-is_empty.true)) c.deliver.ensures

pub returns : goal.returns
returns g c = λ rules mean.
    let findings = map Breaks (rules ++ map fault_rule c.args.found.now.locator.items) ++ map copy_finding c.args.found.now.copies.items in
    listed (some_lines c.args.name.now findings (λ e. text_left c.as_bytes-lines.result.now c.is_empty.result c.is_empty.ensures c.if-is_empty.false (c.as_bytes-lines.ensures.value ∙ c.in-Ok.ensures rules mean ∙ e)))
    (text_sent _ _ _ _ _ _ _ _ (c.as_bytes-lines.ensures.value ∙ c.in-Ok.ensures rules mean) c.deliver-2.ensures)
