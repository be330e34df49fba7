use Rattle.std.proofs.Common.{inr}
use Rattle.chain_core.proofs.merge_start.link_twice.Goals as goal

pub returns-in-Ok : goal.returns-in-Ok
returns-in-Ok g c =
    let u = c.update.ensures in
    let s = c.in-Ok.ensures in
    record { moments = u.moments; updated = s.updated; ready = s.ready; number = u.number; parts = u.parts; counts = s.counts; err = tt }

pub returns-in-Err : goal.returns-in-Err
returns-in-Err g c =
    let u = c.update.ensures in
    record { moments = u.moments; updated = tt; ready = tt; number = u.number; parts = u.parts; counts = tt; err = inr c.in-Err.ensures.err }
