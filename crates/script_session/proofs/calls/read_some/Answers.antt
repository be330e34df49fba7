use Rattle.std.proofs.Common.{refl, rules}
use Rattle.script_session.proofs.Seen.{read_answers}
use Rattle.script_session.proofs.calls.read_some.Goals as goal

pub returns-clause-answers : goal.returns-clause-answers
returns-clause-answers g c =
    let e = c.read.ensures in
    read_answers g.S.Store.disk g.R.Recorder.noted g.R.Recorder.told c.args.chain.now c.read.new.self c.caller.result _ c.args.first _ c.args.count c.args.room.now c.read.new.out c.read.result
    c.caller.ensures c.requires.sound c.requires.few c.requires.room (search rules) refl
    e.early e.events e.geometry e.session e.notes e.cause e.finds e.merge e.told
