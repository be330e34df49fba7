use Rattle.std.proofs.Common.{◌+◌, arith}
use Rattle.vx_base.proofs.Handed.{ok_then}
use Rattle.store_model.specs.File.{seen}
use Rattle.store_model.specs.Trace.{file_of}
use Rattle.layer_session.specs.Reading.{layer_by}
use Rattle.layer_session.proofs.Owned.{adds_alike}
use Rattle.layer_session.proofs.ReadOnly.{can_hold, read_holds, same_read}
use Rattle.layer_session.proofs.Readable.{held_readable, held_stored, layer_is}
use Rattle.layer_session.proofs.read_layer.ReadLayer.own.Goals as goal

pub returns-clause-same : goal.returns-clause-same
returns-clause-same g c = same_read c.args.self.now c.own_missing.new.tables (g.S.Store.disk c.args.store.now) c.own_missing.ensures.reads c.requires.readable

pub returns-clause-owned : goal.returns-clause-owned
returns-clause-owned g c =
    let l = c.args.self.now in
    ok_then c.own_missing.result
    (λ added file t told r.
    adds_alike file.member.layer (layer_by l.tables t) l.tables.parts.sector c.args.first c.args.count c.args.at c.args.mask.now c.own_missing.new.mask c.args.out.now c.own_missing.new.out
    (λ i below. layer_is l.tables r.parts file.member.layer (seen (file_of t l.tables.parts.file)) (read_holds l t file r) (c.args.first + i) (let on_disk = c.requires.on_disk in omega (arith, below, on_disk))) (added t told))
    c.own_missing.ensures.added

pub own_missing-requires-clause-readable : goal.own_missing-requires-clause-readable
own_missing-requires-clause-readable g c =
    let r = c.requires.readable in
    let t = c.args.self.now.tables in
    let disk = g.S.Store.disk c.args.store.now in
    let can = can_hold c.args.self.now disk r in
    record { tables = held_readable t disk r.there r.sizes can; stored = held_stored t disk r.there r.sizes can }

pub own_missing-requires-clause-room : goal.own_missing-requires-clause-room
own_missing-requires-clause-room g c = record { bytes = c.requires.out; bits = c.requires.mask; ends = c.requires.ends }
