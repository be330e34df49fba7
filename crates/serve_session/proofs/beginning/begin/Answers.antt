use Rattle.std.proofs.Common.{None}
use Rattle.serve_session.proofs.beginning.begin.Goals as goal

pub returns-in_default-clause-ended : goal.returns-in_default-clause-ended
returns-in_default-clause-ended g c =
    let e = c.end_fresh-store.ensures in
    record { first = c.in-Ok.made.0; sealing = c.in-Ok.ensures.sealed; counted = e.counted None tt; leaves = e.leaves }
