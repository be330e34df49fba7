use Rattle.chain_core.specs.Sessions.{IsSound, kept_marks, seen}
use Rattle.script_session.specs.Answers.{IsSlot}
use Rattle.script_session.specs.MergeSteps.{AnswersTurns}
use Rattle.script_session.proofs.Moving.{left_in}
use Rattle.script_session.proofs.merge_steps.copy_missing.Given as goal

-- the turns so far were done
abbrev pub invariant-loop-stripe : goal.invariant-loop-stripe
invariant-loop-stripe g l = record {
  sound : IsSound (seen g.S.Store.disk g.R.Recorder.noted g.R.Recorder.told l.chain);
  slot : IsSlot l.chain.layers.geometry l.piece;
  turns : AnswersTurns (seen g.S.Store.disk g.R.Recorder.noted g.R.Recorder.told l.fn.chain) l.fn.piece (seen g.S.Store.disk g.R.Recorder.noted g.R.Recorder.told l.chain) l.piece;
}

abbrev pub decreases-loop-stripe : goal.decreases-loop-stripe
decreases-loop-stripe g l = left_in (kept_marks l.chain.layers)
