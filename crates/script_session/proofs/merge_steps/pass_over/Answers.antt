use Rattle.std.proofs.Common.{ap}
use Rattle.merge_core.specs.declared.piece.Piece.{Piece}
use Rattle.script_session.proofs.Moving.{skip_answers, skip_refused}
use Rattle.script_session.proofs.merge_steps.pass_over.Goals as goal

pub returns-clause-passed : goal.returns-clause-passed
returns-clause-passed g c =
    let e = c.skip.ensures in
    skip_answers g.S.Store.disk g.R.Recorder.noted g.R.Recorder.told c.args.chain.now c.skip.new.self c.args.stripe c.skip.result c.requires e.early e.cause e.few e.told e.events e.geometry e.session e.history

pub returns-clause-refused : goal.returns-clause-refused
returns-clause-refused g c =
    let e = c.skip.ensures in
    skip_refused g.S.Store.disk g.R.Recorder.noted g.R.Recorder.told c.args.chain.now c.skip.new.self c.args.stripe c.skip.result c.clear.new.self (ap (λ (p : Piece). p.filled) c.clear.ensures) c.requires e.early e.cause e.marks e.told e.events e.geometry e.session e.history
