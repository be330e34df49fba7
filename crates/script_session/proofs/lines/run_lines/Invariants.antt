use Rattle.std.proofs.Common.{◌≡◌, length, map, take}
use Rattle.std.specs.Prelude.{string_bytes}
use Rattle.chain_core.specs.Sessions.{IsSound, seen}
use Rattle.script_session.specs.Answers.{IsSlot}
use Rattle.script_session.specs.Told.{number_behind}
use Rattle.script_session.proofs.Running.{HasRunWhole}
use Rattle.script_session.proofs.lines.run_lines.Given as goal

-- the lines so far have run
abbrev pub invariant-loop-line : goal.invariant-loop-line
invariant-loop-line g l = record {
  room : length l.room ≡ 1048576;
  numbered : l.number ≡ number_behind 1 (take l.line-index l.lines);
  sound : IsSound (seen g.S.Store.disk g.R.Recorder.noted g.R.Recorder.told l.chain);
  slot : IsSlot l.chain.layers.geometry l.piece;
  ran : HasRunWhole (map g.N.AsStr.text l.names) (take l.line-index l.lines) (seen g.S.Store.disk g.R.Recorder.noted g.R.Recorder.told l.fn.chain) l.fn.piece (seen g.S.Store.disk g.R.Recorder.noted g.R.Recorder.told l.chain) l.piece (string_bytes l.text) l.fault;
}
