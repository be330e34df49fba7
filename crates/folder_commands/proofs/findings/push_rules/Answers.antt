use Rattle.std.proofs.Common.{◌++◌, ◌+◌, ◌∷◌, ◌∙◌, ap, drop, map, refl, string_bytes, subst, sym}
use Rattle.std.proofs.Math.ListN.{drop_of_length-le}
use Rattle.std.proofs.lemmas.List.{drop_more}
use Rattle.check_repair.specs.Findings.{Breaks}
use Rattle.command_base.specs.Checks.{finding_lines}
use Rattle.folder_commands.proofs.Listed.{AreLeft, no_rules, one_rule}
use Rattle.folder_commands.proofs.findings.push_rules.Goals as goal

pub loop-refusal-init : goal.loop-refusal-init
loop-refusal-init c = λ all mean. record { rules = all; mean = mean; whole = refl }

pub loop-refusal-preserved : goal.loop-refusal-preserved
loop-refusal-preserved c = λ all mean.
    let refusals = c.args.refusals.now in
    let i = c.loop-refusal.refusal-index in
    let text = string_bytes c.loop-refusal.text in
    let whole = string_bytes c.args.text.now ++ finding_lines c.args.file.now (map Breaks all) in
    one_rule c.args.file.now text (string_bytes c.push_rule.new.text) c.refusal-item.result (drop (i + 1) refusals) whole c.in_ok-push_rule.ensures
    (subst (λ r. AreLeft c.args.file.now text r whole) (drop_more refusals i c.refusal-item.result c.loop-refusal-test.true ∙ ap (λ z. z ∷ drop (i + 1) refusals) (sym c.refusal-item.is)) (c.loop-refusal.invariant all mean))

pub returns : goal.returns
returns c = λ rules mean.
    no_rules c.args.file.now (string_bytes c.loop-refusal.text) (string_bytes c.args.text.now ++ finding_lines c.args.file.now (map Breaks rules)) (drop c.loop-refusal.refusal-index c.args.refusals.now)
    (drop_of_length-le c.args.refusals.now c.loop-refusal-test.false) (c.loop-refusal.invariant rules mean)
