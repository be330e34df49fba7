use Rattle.script_session.proofs.Moving.{finish_answers}
use Rattle.event_list.proofs.steps.finish.Goals as goal

pub returns-clause-answers : goal.returns-clause-answers
returns-clause-answers g c =
    let e = c.finish.ensures in
    record {
      finished = finish_answers g.S.Store.disk g.R.Recorder.noted g.R.Recorder.told c.args.chain.now c.finish.new.self c.finish.result c.requires e.early e.cause e.told e.events e.geometry e.session e.history;
      events = e.events;
    }
