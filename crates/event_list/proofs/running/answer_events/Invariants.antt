use Rattle.std.proofs.Common.{◌≡◌, ◌+◌, All, length, take, vec_capacity}
use Rattle.chain_core.specs.Sessions.{IsSound, seen}
use Rattle.script_session.specs.Answers.{IsSlot}
use Rattle.event_list.specs.Answered.{RunsFrom}
use Rattle.event_list.proofs.running.answer_events.Given as goal

-- the events so far were answered
abbrev pub invariant-loop-event : goal.invariant-loop-event
invariant-loop-event g l = record {
  sound : IsSound (seen g.S.Store.disk g.R.Recorder.noted g.R.Recorder.told l.chain);
  geometry : l.chain.layers.geometry ≡ l.fn.chain.layers.geometry;
  slots : All (IsSlot l.chain.layers.geometry) l.pieces;
  reserved : vec_capacity l.out ≡ vec_capacity l.fn.out;
  count : length l.out.items ≡ length l.fn.out.items + l.event-index;
  ran : RunsFrom (take l.event-index l.events) l.fn.out.items l.out.items (seen g.S.Store.disk g.R.Recorder.noted g.R.Recorder.told l.fn.chain) l.fn.pieces (seen g.S.Store.disk g.R.Recorder.noted g.R.Recorder.told l.chain) l.pieces;
}
