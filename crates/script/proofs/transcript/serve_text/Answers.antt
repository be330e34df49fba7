use Rattle.std.proofs.Common.{◌+◌, ◌++◌, List, refl, sym, ap, drop, ◌∙◌}
use Rattle.script.specs.declared.told.ToldCall.{ToldCall}
use Rattle.script.specs.Transcript.{entry_lines, unplaced_from, unplaced_lines}
use Rattle.script.proofs.Lines.{last_line, next_line}
use Rattle.script.proofs.transcript.serve_text.Goals as goal

pub loop-told-preserved : goal.loop-told-preserved
loop-told-preserved c =
    let guests = c.args.guests.now in
    let i = c.loop-told.told-index in
    record {
      numbered = ap (λ n. n + 1) c.loop-told.invariant.numbered;
      text = next_line (λ gs. unplaced_lines (i + 1) gs) guests i c.told-item.result _ _ _ _ _ c.loop-told-test.true c.in_ok-push_unplaced.ensures
          (ap (λ l. l ++ unplaced_lines (i + 1 + 1) (drop (i + 1) guests))
          (ap (λ (t : List ToldCall). unplaced_from (i + 1) 1 t) (sym (c.as_slice.ensures ∙ c.told-item.is))
          ∙ ap (λ n. unplaced_from (n + 1) 1 c.as_slice.result.now) (sym c.loop-told.invariant.numbered)))
          c.loop-told.invariant.text;
    }

pub loop-told-init : goal.loop-told-init
loop-told-init c = record {
  numbered = refl;
  text = ap (λ l. l ++ unplaced_lines 1 c.args.guests.now) (c.in_ok-push_entries.ensures ∙ ap (λ l. l ++ entry_lines c.args.guests.now 1 c.args.history.now) c.new-out.ensures.bytes);
}

pub returns : goal.returns
returns c =
    last_line (λ gs. unplaced_lines (c.loop-told.told-index + 1) gs) c.args.guests.now c.loop-told.told-index _ _ c.loop-told-test.false refl c.loop-told.invariant.text
