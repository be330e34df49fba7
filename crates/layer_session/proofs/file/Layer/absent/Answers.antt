use Rattle.layer_session.specs.FileLayers.{Holds}
use Rattle.layer_session.specs.declared.file_layer.FileLayer.TheVariants.{Session}
use Rattle.layer_session.proofs.Absences.{found_none}
use Rattle.layer_session.proofs.Readable.{read_is_same, tables_readable}
use Rattle.layer_session.proofs.file.Layer.absent.Goals as goal

pub find_absent-requires-clause-readable : goal.find_absent-requires-clause-readable
find_absent-requires-clause-readable g c = tables_readable c.args.self.now (g.S.Store.disk c.args.store.now) c.requires.readable

pub returns-clause-none : goal.returns-clause-none
returns-clause-none g c =
    found_none c.args.self.now.tables (g.S.Store.disk c.args.store.now) c.args.first c.args.count c.find_absent.result (Holds (Session c.args.self.now)) (λ trace layer h. h) c.requires.on_disk c.find_absent.ensures.most c.find_absent.ensures.absent

pub returns-clause-same : goal.returns-clause-same
returns-clause-same g c = read_is_same c.args.self.now c.find_absent.new.tables (g.S.Store.disk c.args.store.now) c.find_absent.ensures.reads c.requires.readable
