use Rattle.script_session.proofs.Seen.{filled_front, write_answers}
use Rattle.script_session.proofs.calls.write_some.Goals as goal

pub returns-clause-answers : goal.returns-clause-answers
returns-clause-answers g c =
    let e = c.write.ensures in
    write_answers g.S.Store.disk g.R.Recorder.noted g.R.Recorder.told c.args.chain.now c.write.new.self c.caller.result _ c.args.first c.args.count c.args.byte _ c.write.result
    c.caller.ensures c.requires.sound (filled_front c.args.count c.args.byte c.args.room.now _ c.requires.few c.requires.room c.fill_bytes.ensures)
    e.early e.events e.geometry e.session e.notes e.cause e.room e.merge e.told
