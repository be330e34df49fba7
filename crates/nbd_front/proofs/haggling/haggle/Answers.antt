use Rattle.std.proofs.Common.{arith}
use Rattle.nbd_front.specs.Messages.{haggling}
use Rattle.nbd_front.proofs.Steps.{is_given_up}
use Rattle.nbd_front.proofs.haggling.haggle.Goals as goal

pub returns-clause-ended : goal.returns-clause-ended
returns-clause-ended g c = λ disk. c.loop-desk.invariant disk _ _ (is_given_up c.args.export.now (haggling c.args.flags) _ c.loop-desk.desk.intake.fits (omega (arith, c.loop-desk-test.false)))
