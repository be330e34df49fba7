use Rattle.std.proofs.Common.{◌+◌, ap, drop, refl, sym, ◌∙◌}
use Rattle.std.proofs.Math.ListN.{drop_of_length-le}
use Rattle.std.proofs.lemmas.List.{drop_more}
use Rattle.clap.specs.Words.{app_of}
use Rattle.command_line.specs.Parsing.{with_forms}
use Rattle.command_line.proofs.parsing.with_forms.Goals as goal

pub loop-form-init : goal.loop-form-init
loop-form-init c = refl

pub loop-form-preserved : goal.loop-form-preserved
loop-form-preserved c =
    let forms = c.args.forms.now in
    let i = c.loop-form.form-index in
    ap (λ a. with_forms a (drop (i + 1) forms)) c.in_ok-command.ensures
    ∙ ap (with_forms (app_of c.loop-form.command)) (sym (drop_more forms i _ c.loop-form-test.true))
    ∙ c.loop-form.invariant

pub returns : goal.returns
returns c = ap (with_forms (app_of c.loop-form.command)) (sym (drop_of_length-le c.args.forms.now c.loop-form-test.false)) ∙ c.loop-form.invariant
