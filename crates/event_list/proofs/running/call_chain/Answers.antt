use Rattle.chain_core.specs.Events.{placed}
use Rattle.chain_core.specs.Refusing.{refused}
use Rattle.chain_core.specs.Sessions.{seen}
use Rattle.event_list.proofs.Ran.{early_seen}
use Rattle.event_list.proofs.running.call_chain.Goals as goal

pub returns-clause-answers : goal.returns-clause-answers
returns-clause-answers g c =
    let e = c.call.ensures in
    let before = seen g.S.Store.disk g.R.Recorder.noted g.R.Recorder.told c.args.chain.now in
    record {
      sound = c.requires.sound;
      early = early_seen g.S.Store.disk g.R.Recorder.noted g.R.Recorder.told c.args.chain.now c.call.new.self (refused c.args.call.now before) (placed c.call.result) e.early;
      notes = e.notes;
      cause = e.cause;
      room = e.room;
      replies = e.replies;
      told = e.told;
      geometry = e.geometry;
      session = e.session;
      leaf = e.leaf;
      merge = e.merge;
      events = e.events;
    }
