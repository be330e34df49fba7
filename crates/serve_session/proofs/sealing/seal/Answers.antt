use Rattle.std.proofs.Common.{sym, subst}
use Rattle.store_model.specs.Disk.{fault_in}
use Rattle.serve_session.specs.Sealing.{EndsUnserved}
use Rattle.serve_session.proofs.Sealed.{apart_in, met_counted, read_there, sealed_all, sealed_part, sets_for, synced_for}
use Rattle.serve_session.proofs.sealing.seal.Goals as goal

pub seal-requires-clause-synced : goal.seal-requires-clause-synced
seal-requires-clause-synced g c = synced_for g.S.Store.disk c.args.chain c.requires.session c.requires.serves

pub returns-in-Ok-clause-sealed : goal.returns-in-Ok-clause-sealed
returns-in-Ok-clause-sealed g c =
    let e = c.in-Ok.ensures in
    sealed_all g.S.Store.disk c.args.chain c.seal.new.self e.only e.sound e.told e.ok

pub returns-in-Ok-clause-sets : goal.returns-in-Ok-clause-sets
returns-in-Ok-clause-sets g c =
    let disk = g.S.Store.disk in
    let e = c.in-Ok.ensures in
    let synced = synced_for disk c.args.chain c.requires.session c.requires.serves in
    sets_for disk c.args.chain c.seal.new.self e.only e.sound e.told c.args.guests c.in-Ok.readers c.requires.session c.requires.serves e.ok
    (read_there disk c.args.chain c.requires.sound c.requires.whole synced) (apart_in disk c.args.chain c.requires.sound c.requires.whole) e.made

pub returns-in-Err-clause-ended : goal.returns-in-Err-clause-ended
returns-in-Err-clause-ended g c =
    let disk = g.S.Store.disk in
    let e = c.in-Err.ensures in
    let fault = c.in-Err.fault in
    let synced = synced_for disk c.args.chain c.requires.session c.requires.serves in
    let there = read_there disk c.args.chain c.requires.sound c.requires.whole synced in
    subst (λ met. EndsUnserved disk c.args.chain c.end_fresh-store.result.0 met c.end_fresh-store.result.1) (sym c.fault_in-met.ensures)
    (record {
      first = c.seal.new.self;
      sealing = sealed_part disk c.args.chain c.seal.new.self e.only e.sound e.told fault there e.err;
      counted = c.end_fresh-store.ensures.counted (fault_in fault) (met_counted disk c.args.chain c.seal.new.self e.only e.sound e.told fault there e.err);
      leaves = c.end_fresh-store.ensures.leaves;
    })
