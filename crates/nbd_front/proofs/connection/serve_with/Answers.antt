use Rattle.std.proofs.Common.{refl}
use Rattle.nbd_front.proofs.Steps.{greeting_cut, served_whole}
use Rattle.nbd_front.proofs.connection.serve_with.Goals as goal

pub returns-in-Err : goal.returns-in-Err
returns-in-Err g c = record {
  served = greeting_cut _ _ _ _ _ _ refl refl refl (c.in-Err.ensures.cut.0, rw c.greeting.ensures at c.in-Err.ensures.cut.1)
      c.in-Err.ensures.rose c.in-Err.ensures.told;
}

pub returns : goal.returns
returns g c = record {
  served = served_whole _ g.D.DiskCalls.size g.D.DiskCalls.known g.D.DiskCalls.lawful c.args.export.now c.args.desk.now c.serve_session-end.new.desk _ _ _ _ _
      c.requires.disk c.serve_session-end.new.desk.intake.len c.requires.fresh.empty c.requires.fresh.at c.requires.fresh.tally
      (rw c.greeting.ensures at c.in_default.ensures.ok) c.in_default.ensures.quiet c.serve_session-end.ensures.session;
}
