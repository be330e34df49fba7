use Rattle.std.proofs.Common.{sym, subst}
use Rattle.store_model.specs.Disk.{WhereBothTold}
use Rattle.layer_session.specs.FileLayers.{FileTurns, FileUpdatesOver}
use Rattle.layer_session.specs.Updating.{UpdatesOver}
use Rattle.layer_session.specs.declared.file_layer.FileLayer.{FileLayer}
use Rattle.layer_session.specs.declared.file_layer.FileLayer.TheVariants.{Session}
use Rattle.layer_session.proofs.Told.{both_map}
use Rattle.layer_session.proofs.file_layer.FileLayer.update.Goals as goal

pub update-requires-clause-turns : goal.update-requires-clause-turns
update-requires-clause-turns g c t told =
    let turns : FileTurns (Session c.in-Session.layer) c.args.pages.now t = subst (λ (l : FileLayer). FileTurns l c.args.pages.now t) c.in-Session.is (c.requires.turns t told) in
    record { file = turns.file; ties = turns.ties; region = turns.region; serves = turns.has; into = turns.into }

pub returns-in-Session-clause-moments : goal.returns-in-Session-clause-moments
returns-in-Session-clause-moments g c =
    let old = g.S.Store.disk c.args.store.now in
    let new = g.S.Store.disk c.update.new.store in
    subst (λ (l : FileLayer). WhereBothTold (FileUpdatesOver l c.args.pages.now) old.told new.told) (sym c.in-Session.is)
    (both_map (UpdatesOver c.in-Session.layer c.args.pages.now) (FileUpdatesOver (Session c.in-Session.layer) c.args.pages.now) old.told new.told c.update.ensures.moments (λ t u x y h. record { over = h.over }))
