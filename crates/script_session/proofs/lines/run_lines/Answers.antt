use Rattle.std.proofs.Common.{refl}
use Rattle.std.proofs.lemmas.List.{take_all}
use Rattle.script_session.proofs.Running.{all_of, number_few, number_next, run_next, run_of, whole_next, whole_of}
use Rattle.script_session.proofs.lines.run_lines.Goals as goal

pub returns-in-Err-clause-ran : goal.returns-in-Err-clause-ran
returns-in-Err-clause-ran g c =
    run_of _ _ _ _ _ _ _ _ _ _
    (run_next _ _ c.loop-line.number _ c.loop-line-test.true c.loop-line.invariant.numbered _ _ _ _ _ _ _ _ _ _ _ _ (all_of _ _ _ _ _ _ _ _ c.loop-line.invariant.ran) c.answer_line-answer.ensures.answers refl (c.later_of-fault.ensures _ _)) tt refl

pub returns-clause-ran : goal.returns-clause-ran
returns-clause-ran g c = whole_of _ _ _ _ _ _ _ _ _ _ c.loop-line.invariant.ran (take_all _ _ c.loop-line-test.false, refl) refl

pub next_number-number-requires : goal.next_number-number-requires
next_number-number-requires g c = number_few _ _ _ c.loop-line-test.true c.loop-line.invariant.numbered c.requires.few

pub loop-line-preserved : goal.loop-line-preserved
loop-line-preserved g c = record {
  room = c.answer_line-answer.ensures.room;
  numbered = number_next _ _ c.loop-line.number _ c.loop-line-test.true c.loop-line.invariant.numbered _ c.next_number-number.ensures;
  sound = c.answer_line-answer.ensures.sound;
  slot = c.answer_line-answer.ensures.slot;
  ran = whole_next _ _ c.loop-line.number _ c.loop-line-test.true c.loop-line.invariant.numbered _ _ _ _ _ _ _ _ _ _ _ _ c.loop-line.invariant.ran c.answer_line-answer.ensures.answers
      c.in_default.ensures.text c.in_default.ensures.memory (c.later_of-fault.ensures _ _);
}
