use Rattle.std.proofs.Common.{[], None}
use Rattle.shared_chain.specs.Homes.{session_of}
use Rattle.shared_chain.proofs.Counting.{ends_counted, fresh_counted}
use Rattle.shared_chain.proofs.Ended.{ended, leaves}
use Rattle.shared_chain.proofs.Homing.{begins}
use Rattle.shared_chain.proofs.shared.end_fresh.Goals as goal

pub returns-clause-ended : goal.returns-clause-ended
returns-clause-ended g c =
    let disk = g.S.Store.disk in
    let e = c.close-store.ensures in
    ended disk c.args.chain c.close-store.result.0 c.close-store.result.2 e.broken e.read e.counts e.err e.told

pub returns-clause-counted : goal.returns-clause-counted
returns-clause-counted g c met is_met =
    let disk = g.S.Store.disk in
    let e = c.close-store.ensures in
    let end = ended disk c.args.chain c.close-store.result.0 c.close-store.result.2 e.broken e.read e.counts e.err e.told in
    let s = session_of disk c.args.chain in
    ends_counted s.disk s (disk c.close-store.result.0) met c.close-store.result.2 (fresh_counted s met c.requires.whole is_met) end

pub returns-clause-leaves : goal.returns-clause-leaves
returns-clause-leaves g c =
    let disk = g.S.Store.disk in
    let e = c.close-store.ensures in
    let end = ended disk c.args.chain c.close-store.result.0 c.close-store.result.2 e.broken e.read e.counts e.err e.told in
    let s = session_of disk c.args.chain in
    leaves s s [] (disk c.close-store.result.0) c.close-store.result.2 None None None (begins s c.requires.sound c.requires.whole) end.broken end.told
