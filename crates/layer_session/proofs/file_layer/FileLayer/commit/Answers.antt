use Rattle.std.proofs.Common.{sym, subst}
use Rattle.vx_base.proofs.Handed.{ok_then}
use Rattle.store_model.specs.Disk.{WhereBothTold}
use Rattle.layer_session.specs.Calls.{HasCommitted, KeepsOver}
use Rattle.layer_session.specs.FileLayers.{FileHasCommitted, FileKeepsOver}
use Rattle.layer_session.specs.declared.file_layer.FileLayer.{FileLayer}
use Rattle.layer_session.specs.declared.file_layer.FileLayer.TheVariants.{Session}
use Rattle.layer_session.proofs.Told.{both_map}
use Rattle.layer_session.proofs.file_layer.FileLayer.commit.Goals as goal

pub returns-in-Session-clause-moments : goal.returns-in-Session-clause-moments
returns-in-Session-clause-moments g c =
    let old = g.S.Store.disk c.args.store.now in
    let new = g.S.Store.disk c.commit.new.store in
    subst (λ (l : FileLayer). WhereBothTold (FileKeepsOver l) old.told new.told) (sym c.in-Session.is)
    (both_map (KeepsOver c.in-Session.layer) (FileKeepsOver (Session c.in-Session.layer)) old.told new.told c.commit.ensures.moments (λ t u x y h. record { over = λ file has any. h.over file has }))

pub returns-in-Session-clause-committed : goal.returns-in-Session-clause-committed
returns-in-Session-clause-committed g c =
    let old = g.S.Store.disk c.args.store.now in
    let new = g.S.Store.disk c.commit.new.store in
    ok_then c.commit.result
    (λ (k : WhereBothTold (HasCommitted c.in-Session.layer c.commit.new.self) old.told new.told).
    subst (λ (l : FileLayer). WhereBothTold (FileHasCommitted l (Session c.commit.new.self)) old.told new.told) (sym c.in-Session.is)
    (both_map (HasCommitted c.in-Session.layer c.commit.new.self) (FileHasCommitted (Session c.in-Session.layer) (Session c.commit.new.self)) old.told new.told k (λ t u x y h. record { has = λ file has any. h.serves file has })))
    c.commit.ensures.committed
