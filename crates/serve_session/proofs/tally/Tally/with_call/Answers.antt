use Rattle.serve_session.specs.Asking.{shown_in}
use Rattle.serve_session.proofs.Tallies.{call_adds}
use Rattle.serve_session.proofs.tally.Tally.with_call.Goals as goal

pub returns : goal.returns
returns c = call_adds (shown_in c.args.room.now c.args.form) c.args.answer c.args.self c.of.result c.and.result c.of.ensures.seen c.of.ensures.few c.of.ensures.refused c.and.ensures.seen c.and.ensures.refused
