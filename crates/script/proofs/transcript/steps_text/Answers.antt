use Rattle.std.proofs.Common.{◌+◌, ◌++◌, refl, sym, ap, drop, ◌∙◌}
use Rattle.script.specs.declared.told.ToldCall.{ToldCall}
use Rattle.script.specs.Transcript.{steps_text, told_line}
use Rattle.script.proofs.Lines.{last_line, next_line}
use Rattle.script.proofs.transcript.steps_text.Goals as goal

pub loop-line-preserved : goal.loop-line-preserved
loop-line-preserved c =
    let told = c.args.told.now in
    let i = c.loop-line.line-index in
    next_line steps_text told i c.line-item.result _ _ _ _ _ c.loop-line-test.true c.in_ok-push_told_line.ensures
    (ap (λ l. l ++ steps_text (drop (i + 1) told))
    (ap (λ (t : ToldCall). told_line t.place t.text) (sym c.line-item.is) ∙ ap (λ t. told_line c.line-item.result.place t) (sym c.as_str.ensures)))
    c.loop-line.invariant

pub loop-line-init : goal.loop-line-init
loop-line-init c = ap (λ l. l ++ steps_text c.args.told.now) c.new-out.ensures.bytes

pub returns : goal.returns
returns c = last_line steps_text c.args.told.now c.loop-line.line-index _ _ c.loop-line-test.false refl c.loop-line.invariant
