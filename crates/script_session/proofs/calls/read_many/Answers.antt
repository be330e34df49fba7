use Rattle.script_session.proofs.Many.{none_left, read_answers}
use Rattle.script_session.proofs.calls.read_many.Goals as goal

pub returns-clause-answers : goal.returns-clause-answers
returns-clause-answers g c =
    let e = c.read.ensures in
    λ reply. read_answers g.S.Store.disk g.R.Recorder.noted g.R.Recorder.told c.args.chain.now c.read.new.self c.caller.result _ c.args.first c.args.count c.read.result c.too_long.result reply
    c.caller.ensures c.too_long.ensures c.requires.sound c.requires.many e.early e.events e.geometry e.session e.merge e.told

pub read-requires-clause-whole : goal.read-requires-clause-whole
read-requires-clause-whole g c = none_left c.args.chain.now.layers.geometry.sector c.requires.sound.sector
