use Rattle.std.proofs.Common.{inr}
use Rattle.chain_core.proofs.merge_start.close.Goals as goal

pub returns-in-Ok : goal.returns-in-Ok
returns-in-Ok g c =
    let s = c.in-Ok.ensures in
    record { moments = c.close.ensures.moments; closed = s.closed; can = s.can; parts = s.parts; counts = s.counts; err = tt }

pub returns-in-Err : goal.returns-in-Err
returns-in-Err g c = record { moments = c.close.ensures.moments; closed = tt; can = tt; parts = tt; counts = tt; err = inr c.in-Err.ensures.err }
