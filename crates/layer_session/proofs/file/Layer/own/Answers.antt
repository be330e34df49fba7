use Rattle.std.proofs.Common.{◌+◌, arith}
use Rattle.vx_base.proofs.Handed.{ok_then}
use Rattle.layer_session.specs.Calls.{own_bytes}
use Rattle.layer_session.specs.Reading.{layer_by}
use Rattle.layer_session.proofs.Owned.{adds_alike}
use Rattle.layer_session.proofs.Readable.{layer_is, read_is_same, tables_readable, tables_stored}
use Rattle.layer_session.proofs.file.Layer.own.Goals as goal

pub returns-clause-same : goal.returns-clause-same
returns-clause-same g c = read_is_same c.args.self.now c.own_missing.new.tables (g.S.Store.disk c.args.store.now) c.own_missing.ensures.reads c.requires.readable

pub returns-clause-owned : goal.returns-clause-owned
returns-clause-owned g c =
    let l = c.args.self.now in
    ok_then c.own_missing.result
    (λ added parts layer t told h.
    adds_alike layer (layer_by l.tables t) l.tables.parts.sector c.args.first c.args.count c.args.at c.args.mask.now c.own_missing.new.mask c.args.out.now c.own_missing.new.out
    (λ i below. layer_is l.tables parts layer (own_bytes l t) h (c.args.first + i) (let on_disk = c.requires.on_disk in omega (arith, below, on_disk))) (added t told))
    c.own_missing.ensures.added

pub own_missing-requires-clause-readable : goal.own_missing-requires-clause-readable
own_missing-requires-clause-readable g c =
    let l = c.args.self.now in
    let disk = g.S.Store.disk c.args.store.now in
    record { tables = tables_readable l disk c.requires.readable; stored = tables_stored l disk c.requires.readable }

pub own_missing-requires-clause-room : goal.own_missing-requires-clause-room
own_missing-requires-clause-room g c = record { bytes = c.requires.out; bits = c.requires.mask; ends = c.requires.ends }
