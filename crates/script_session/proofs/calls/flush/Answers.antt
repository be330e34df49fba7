use Rattle.std.proofs.Common.{refl, subst}
use Rattle.guest_model.specs.declared.call.Call.TheVariants as calls
use Rattle.guest_model.specs.declared.call.Reply.TheVariants as replies
use Rattle.chain_core.specs.Sessions.{seen}
use Rattle.script_session.specs.Answers.{Answers}
use Rattle.script_session.proofs.Seen.{answers_by, on_ok}
use Rattle.script_session.proofs.calls.flush.Goals as goal

pub returns-clause-answers : goal.returns-clause-answers
returns-clause-answers g c =
    let e = c.flush.ensures in
    let told = seen g.S.Store.disk g.R.Recorder.noted g.R.Recorder.told in
    subst (λ who. Answers who calls.Flush c.flush.result replies.Done (told c.args.chain.now) (told c.flush.new.self)) c.caller.ensures
    (answers_by g.S.Store.disk g.R.Recorder.noted g.R.Recorder.told c.args.chain.now c.flush.new.self c.caller.result calls.Flush c.flush.result replies.Done c.requires
    e.early e.events e.geometry e.session e.notes e.cause e.room (on_ok c.flush.result (refl, λ trace is v serving. refl)) e.merge e.told)
