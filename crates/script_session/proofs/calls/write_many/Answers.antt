use Rattle.guest_model.specs.declared.call.Reply.TheVariants as replies
use Rattle.script_session.proofs.Many.{none_left, write_answers}
use Rattle.script_session.proofs.calls.write_many.Goals as goal

pub returns-clause-answers : goal.returns-clause-answers
returns-clause-answers g c =
    let e = c.write.ensures in
    λ byte. write_answers g.S.Store.disk g.R.Recorder.noted g.R.Recorder.told c.args.chain.now c.write.new.self c.caller.result _ c.args.first c.args.count byte c.write.result c.too_long.result replies.Done
    c.caller.ensures c.too_long.ensures c.requires.sound c.requires.many e.early e.events e.geometry e.session e.merge e.told

pub write-requires-clause-whole : goal.write-requires-clause-whole
write-requires-clause-whole g c = none_left c.args.chain.now.layers.geometry.sector c.requires.sound.sector
