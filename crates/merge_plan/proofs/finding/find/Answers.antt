use Rattle.std.proofs.Common.{Some, sym, ap, ◌∙◌, arith}
use Rattle.link_rules.specs.declared.linked.LinkedFile.{LinkedFile}
use Rattle.merge_plan.proofs.Placing.{has_first, has_last, has_none, named_there}
use Rattle.merge_plan.proofs.finding.find.Goals as goal

pub returns-in_default-clause-err : goal.returns-in_default-clause-err
returns-in_default-clause-err c = has_none c.args.name.now c.args.files.now (sym c.place_of.ensures ∙ c.in_default.is)

pub returns-then-place-files-clause-err : goal.returns-then-place-files-clause-err
returns-then-place-files-clause-err c = has_last c.args.name.now c.args.files.now c.in-Some.place (sym c.place_of.ensures ∙ c.in-Some.is) c.if-place-files.true

pub returns-then-place-eq0-clause-err : goal.returns-then-place-eq0-clause-err
returns-then-place-eq0-clause-err c =
    has_first c.args.name.now c.args.files.now (sym c.place_of.ensures ∙ c.in-Some.is ∙ ap Some c.if-place-eq0.true) (omega arith)

pub returns-clause-named : goal.returns-clause-named
returns-clause-named c =
    ap (λ (f : LinkedFile). f.name) c.index-files-place-2.is
    ∙ named_there c.args.name.now c.args.files.now c.in-Some.place c.index-files-place-2.result (sym c.place_of.ensures ∙ c.in-Some.is)
