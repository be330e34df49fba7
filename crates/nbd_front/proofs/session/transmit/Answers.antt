use Rattle.std.proofs.Common.{arith}
use Rattle.nbd_front.specs.Messages.{transmitting}
use Rattle.nbd_front.proofs.Steps.{is_given_up, leads_over}
use Rattle.nbd_front.proofs.session.transmit.Goals as goal

pub returns-then-not-branch : goal.returns-then-not-branch
returns-then-not-branch g c = record {
  session = c.loop-desk.invariant.on _ _ (leads_over c.args.export.now transmitting _ _ _ c.if-not-branch.true c.in_ok-serve_request.ensures.on);
}

pub returns : goal.returns
returns g c = record { session = c.loop-desk.invariant.on _ _ (is_given_up c.args.export.now transmitting _ c.loop-desk.desk.intake.fits (omega (arith, c.loop-desk-test.false))) }
