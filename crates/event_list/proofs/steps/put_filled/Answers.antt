use Rattle.std.proofs.Common.{sym, ◌∙◌}
use Rattle.guest_model.specs.declared.refusal.ChainRefusal.TheVariants.{NoPiece}
use Rattle.chain_core.specs.Sessions.{seen}
use Rattle.script_session.proofs.Moving.{put_answers, put_barred, put_refused_so, unfilled_refused}
use Rattle.event_list.proofs.steps.put_filled.Goals as goal

pub put-requires-clause-fits : goal.put-requires-clause-fits
put-requires-clause-fits g c = c.requires.slot (sym c.is_filled.ensures ∙ c.if-is_filled.true)

pub returns-then-is_filled-clause-answers : goal.returns-then-is_filled-clause-answers
returns-then-is_filled-clause-answers g c =
    let e = c.put.ensures in
    put_answers g.S.Store.disk g.R.Recorder.noted g.R.Recorder.told c.args.chain.now c.put.new.self c.args.piece.now c.put.result c.requires.sound e.early e.cause e.room e.told e.events e.geometry e.session e.history

pub returns-in-Ok-clause-answers : goal.returns-in-Ok-clause-answers
returns-in-Ok-clause-answers g c =
    let s = seen g.S.Store.disk g.R.Recorder.noted g.R.Recorder.told c.args.chain.now in
    put_refused_so c.args.piece.now s NoPiece c.requires.sound (unfilled_refused s c.args.piece.now c.in-Ok.ensures.ok (sym c.is_filled.ensures ∙ c.if-is_filled.false))

pub returns-in-Err-clause-answers : goal.returns-in-Err-clause-answers
returns-in-Err-clause-answers g c =
    let s = seen g.S.Store.disk g.R.Recorder.noted g.R.Recorder.told c.args.chain.now in
    put_barred c.args.piece.now s c.in-Err.refusal c.requires.sound c.in-Err.ensures.err
