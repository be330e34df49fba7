use Rattle.layer_session.proofs.ReadOnly.{can_hold, same_read}
use Rattle.layer_session.proofs.Readable.{held_readable, held_stored}
use Rattle.layer_session.proofs.Whereabout.{read_located}
use Rattle.layer_session.proofs.read_layer.ReadLayer.locate.Goals as goal

pub locate-requires-clause-readable : goal.locate-requires-clause-readable
locate-requires-clause-readable g c =
    let r = c.requires.readable in
    let t = c.args.self.now.tables in
    let disk = g.S.Store.disk c.args.store.now in
    let can = can_hold c.args.self.now disk r in
    record { tables = held_readable t disk r.there r.sizes can; stored = held_stored t disk r.there r.sizes can }

pub returns-clause-located : goal.returns-clause-located
returns-clause-located g c = read_located c.args.self.now (g.S.Store.disk c.args.store.now) c.args.first c.args.count c.locate.result c.requires.on_disk c.locate.ensures.most c.locate.ensures.located

pub returns-clause-same : goal.returns-clause-same
returns-clause-same g c = same_read c.args.self.now c.locate.new.tables (g.S.Store.disk c.args.store.now) c.locate.ensures.reads c.requires.readable
