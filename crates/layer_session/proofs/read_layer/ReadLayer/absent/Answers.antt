use Rattle.std.proofs.Common.{subst}
use Rattle.store_model.specs.File.{seen}
use Rattle.store_model.specs.Trace.{file_of}
use Rattle.chain_model.specs.Layers as chain
use Rattle.layer_session.specs.FileLayers.{Holds}
use Rattle.layer_session.specs.Keeping.{HoldsLayer}
use Rattle.layer_session.specs.declared.file_layer.FileLayer.TheVariants.{Read}
use Rattle.layer_session.proofs.Absences.{found_none}
use Rattle.layer_session.proofs.ReadOnly.{can_hold, read_holds, same_read}
use Rattle.layer_session.proofs.Readable.{held_readable}
use Rattle.layer_session.proofs.read_layer.ReadLayer.absent.Goals as goal

pub find_absent-requires-clause-readable : goal.find_absent-requires-clause-readable
find_absent-requires-clause-readable g c =
    let r = c.requires.readable in
    let disk = g.S.Store.disk c.args.store.now in
    held_readable c.args.self.now.tables disk r.there r.sizes (can_hold c.args.self.now disk r)

pub returns-clause-none : goal.returns-clause-none
returns-clause-none g c =
    let l = c.args.self.now in
    found_none l.tables (g.S.Store.disk c.args.store.now) c.args.first c.args.count c.find_absent.result (Holds (Read l))
    (λ trace layer h. (h.1.0.parts, subst (λ (k : chain.Layer). HoldsLayer l.tables h.1.0.parts k (seen (file_of trace l.tables.parts.file))) h.1.1 (read_holds l trace h.0 h.1.0))) c.requires.on_disk c.find_absent.ensures.most c.find_absent.ensures.absent

pub returns-clause-same : goal.returns-clause-same
returns-clause-same g c = same_read c.args.self.now c.find_absent.new.tables (g.S.Store.disk c.args.store.now) c.find_absent.ensures.reads c.requires.readable
