use Rattle.std.proofs.Common.{refl}
use Rattle.chain_core.specs.Sessions.{seen}
use Rattle.script_session.proofs.Ending.{ended_by}
use Rattle.script_session.proofs.Moving.{no_slot}
use Rattle.script_session.proofs.session.run_to_end.Goals as goal

pub returns : goal.returns
returns g c =
    let told = seen g.S.Store.disk g.R.Recorder.noted g.R.Recorder.told in
    let end = c.close-store.ensures in
    record {
      behind = told c.run_lines-transcript.new.chain;
      ran = c.run_lines-transcript.ensures.ran;
      ended = ended_by g.S.Store.disk (told c.run_lines-transcript.new.chain) c.run_lines-transcript.new.chain.store c.close-store.result.0 c.close-store.result.2 refl end.broken end.read end.counts end.err end.told;
    }

pub run_lines-transcript-requires-clause-slot : goal.run_lines-transcript-requires-clause-slot
run_lines-transcript-requires-clause-slot g c = no_slot c.args.chain.layers.geometry c.args.piece.now c.requires.slot

pub close-store-requires : goal.close-store-requires
close-store-requires g c = c.run_lines-transcript.ensures.sound

pub run_lines-transcript-requires-clause-sound : goal.run_lines-transcript-requires-clause-sound
run_lines-transcript-requires-clause-sound g c = c.requires.sound
