use Rattle.std.proofs.Common.{sym, subst, ◌+◌, ◌≤◌}
use Rattle.std.specs.Prelude.{IfErr, IfOk}
use Rattle.store_model.specs.Disk.{ReadFailed, WhereTold}
use Rattle.chain_model.specs.Layers as chain
use Rattle.layer_session.specs.Absent.{FindsAbsent, OwnsNone, tables_of}
use Rattle.layer_session.specs.FileLayers.{FileCanBeRead, Holds, IsSameFile, number_of, table_parts}
use Rattle.layer_session.specs.declared.file_layer.FileLayer.{FileLayer}
use Rattle.layer_session.specs.declared.file_layer.FileLayer.TheVariants.{Read, Session}
use Rattle.layer_session.proofs.Handing.{same_read_file, same_session}
use Rattle.layer_session.proofs.file_layer.FileLayer.absent.Goals as goal

pub absent-requires-clause-readable : goal.absent-requires-clause-readable
absent-requires-clause-readable g c = subst (λ (l : FileLayer). FileCanBeRead l (g.S.Store.disk c.args.store.now)) c.in-Session.is c.requires.readable

pub absent-requires-clause-on_disk : goal.absent-requires-clause-on_disk
absent-requires-clause-on_disk g c = subst (λ (l : FileLayer). c.args.first + c.args.count ≤ (table_parts l).sectors) c.in-Session.is c.requires.on_disk

pub absent-requires-in-Read-clause-readable : goal.absent-requires-in-Read-clause-readable
absent-requires-in-Read-clause-readable g c = subst (λ (l : FileLayer). FileCanBeRead l (g.S.Store.disk c.args.store.now)) c.in-Read.is c.requires.readable

pub absent-requires-in-Read-clause-on_disk : goal.absent-requires-in-Read-clause-on_disk
absent-requires-in-Read-clause-on_disk g c = subst (λ (l : FileLayer). c.args.first + c.args.count ≤ (table_parts l).sectors) c.in-Read.is c.requires.on_disk

pub returns-in-Session-clause-absent : goal.returns-in-Session-clause-absent
returns-in-Session-clause-absent g c = subst (λ (l : FileLayer). IfOk c.absent.result (λ n. FindsAbsent (tables_of l) (g.S.Store.disk c.args.store.now) c.args.first c.args.count n)) (sym c.in-Session.is) c.absent.ensures.absent

pub returns-in-Session-clause-none : goal.returns-in-Session-clause-none
returns-in-Session-clause-none g c =
    subst (λ (l : FileLayer). IfOk c.absent.result (λ n. (layer : chain.Layer) → WhereTold (g.S.Store.disk c.args.store.now).told (λ trace. Holds l trace layer → OwnsNone layer c.args.first n))) (sym c.in-Session.is) c.absent.ensures.none

pub returns-in-Session-clause-same : goal.returns-in-Session-clause-same
returns-in-Session-clause-same g c = subst (λ (l : FileLayer). IsSameFile l (Session c.absent.new.self) (g.S.Store.disk c.args.store.now)) (sym c.in-Session.is) (same_session c.in-Session.layer c.absent.new.self (g.S.Store.disk c.args.store.now) c.absent.ensures.same)

pub returns-in-Session-clause-err : goal.returns-in-Session-clause-err
returns-in-Session-clause-err g c = subst (λ (l : FileLayer). IfErr c.absent.result (ReadFailed (number_of l) (g.S.Store.disk c.args.store.now) (g.S.Store.disk c.absent.new.store))) (sym c.in-Session.is) c.absent.ensures.err

pub returns-in-Read-clause-absent : goal.returns-in-Read-clause-absent
returns-in-Read-clause-absent g c = subst (λ (l : FileLayer). IfOk c.absent-in-Read.result (λ n. FindsAbsent (tables_of l) (g.S.Store.disk c.args.store.now) c.args.first c.args.count n)) (sym c.in-Read.is) c.absent-in-Read.ensures.absent

pub returns-in-Read-clause-none : goal.returns-in-Read-clause-none
returns-in-Read-clause-none g c =
    subst (λ (l : FileLayer). IfOk c.absent-in-Read.result (λ n. (layer : chain.Layer) → WhereTold (g.S.Store.disk c.args.store.now).told (λ trace. Holds l trace layer → OwnsNone layer c.args.first n))) (sym c.in-Read.is) c.absent-in-Read.ensures.none

pub returns-in-Read-clause-same : goal.returns-in-Read-clause-same
returns-in-Read-clause-same g c = subst (λ (l : FileLayer). IsSameFile l (Read c.absent-in-Read.new.self) (g.S.Store.disk c.args.store.now)) (sym c.in-Read.is) (same_read_file c.in-Read.layer c.absent-in-Read.new.self (g.S.Store.disk c.args.store.now) c.absent-in-Read.ensures.same)

pub returns-in-Read-clause-err : goal.returns-in-Read-clause-err
returns-in-Read-clause-err g c = subst (λ (l : FileLayer). IfErr c.absent-in-Read.result (ReadFailed (number_of l) (g.S.Store.disk c.args.store.now) (g.S.Store.disk c.absent-in-Read.new.store))) (sym c.in-Read.is) c.absent-in-Read.ensures.err
