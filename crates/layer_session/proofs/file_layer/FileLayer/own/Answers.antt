use Rattle.std.proofs.Common.{sym, subst, length, ◌+◌, ◌*◌, ◌≤◌, ◌≡◌}
use Rattle.std.specs.Prelude.{IfErr, OnOk}
use Rattle.vx_base.proofs.Handed.{ok_then}
use Rattle.store_model.specs.Disk.{ReadFailed, WhereTold}
use Rattle.chain_model.specs.Layers as chain
use Rattle.layer_session.specs.Calls.{AddsOwned}
use Rattle.layer_session.specs.FileLayers.{FileCanBeRead, Holds, IsSameFile, number_of, table_parts}
use Rattle.layer_session.specs.declared.file_layer.FileLayer.{FileLayer}
use Rattle.layer_session.proofs.FileLayers.{has_held}
use Rattle.layer_session.specs.declared.file_layer.FileLayer.TheVariants.{Read, Session}
use Rattle.layer_session.proofs.Handing.{same_read_file, same_session}
use Rattle.layer_session.proofs.file_layer.FileLayer.own.Goals as goal

pub returns-in-Session-clause-held : goal.returns-in-Session-clause-held
returns-in-Session-clause-held g c =
    subst (λ (l : FileLayer). OnOk c.own.result ((layer : chain.Layer) → WhereTold (g.S.Store.disk c.args.store.now).told (λ trace. Holds l trace layer → AddsOwned layer (table_parts l).sector c.args.first c.args.count c.args.at c.args.mask.now c.own.new.mask c.args.out.now c.own.new.out))) (sym c.in-Session.is)
    (ok_then c.own.result (λ owned layer trace told h. owned h.0 layer trace told h.1) c.own.ensures.owned)

pub returns-in-Session-clause-owned : goal.returns-in-Session-clause-owned
returns-in-Session-clause-owned g c =
    ok_then c.own.result (λ held file trace told h. held file.member.layer trace told (has_held c.args.self.now trace file h)) (returns-in-Session-clause-held g c)

pub returns-in-Read-clause-held : goal.returns-in-Read-clause-held
returns-in-Read-clause-held g c =
    subst (λ (l : FileLayer). OnOk c.own-in-Read.result ((layer : chain.Layer) → WhereTold (g.S.Store.disk c.args.store.now).told (λ trace. Holds l trace layer → AddsOwned layer (table_parts l).sector c.args.first c.args.count c.args.at c.args.mask.now c.own-in-Read.new.mask c.args.out.now c.own-in-Read.new.out))) (sym c.in-Read.is)
    (ok_then c.own-in-Read.result
    (λ owned layer trace told h. subst (λ (f : chain.Layer). AddsOwned f c.in-Read.layer.tables.parts.sector c.args.first c.args.count c.args.at c.args.mask.now c.own-in-Read.new.mask c.args.out.now c.own-in-Read.new.out) h.1.1 (owned h.0 trace told h.1.0))
    c.own-in-Read.ensures.owned)

pub own-requires-clause-readable : goal.own-requires-clause-readable
own-requires-clause-readable g c = subst (λ (l : FileLayer). FileCanBeRead l (g.S.Store.disk c.args.store.now)) c.in-Session.is c.requires.readable

pub own-requires-clause-on_disk : goal.own-requires-clause-on_disk
own-requires-clause-on_disk g c = subst (λ (l : FileLayer). c.args.first + c.args.count ≤ (table_parts l).sectors) c.in-Session.is c.requires.on_disk

pub own-requires-clause-out : goal.own-requires-clause-out
own-requires-clause-out g c = subst (λ (l : FileLayer). length c.args.out.now ≡ (table_parts l).sector * c.args.count) c.in-Session.is c.requires.out

pub own-requires-clause-mask : goal.own-requires-clause-mask
own-requires-clause-mask g c = c.requires.mask

pub own-requires-clause-ends : goal.own-requires-clause-ends
own-requires-clause-ends g c = c.requires.ends

pub returns-in-Session-clause-same : goal.returns-in-Session-clause-same
returns-in-Session-clause-same g c = subst (λ (l : FileLayer). IsSameFile l (Session c.own.new.self) (g.S.Store.disk c.args.store.now)) (sym c.in-Session.is) (same_session c.in-Session.layer c.own.new.self (g.S.Store.disk c.args.store.now) c.own.ensures.same)

pub returns-in-Session-clause-stays : goal.returns-in-Session-clause-stays
returns-in-Session-clause-stays g c = c.own.ensures.stays

pub returns-in-Session-clause-err : goal.returns-in-Session-clause-err
returns-in-Session-clause-err g c = subst (λ (l : FileLayer). IfErr c.own.result (ReadFailed (number_of l) (g.S.Store.disk c.args.store.now) (g.S.Store.disk c.own.new.store))) (sym c.in-Session.is) c.own.ensures.err

pub own-requires-in-Read-clause-readable : goal.own-requires-in-Read-clause-readable
own-requires-in-Read-clause-readable g c = subst (λ (l : FileLayer). FileCanBeRead l (g.S.Store.disk c.args.store.now)) c.in-Read.is c.requires.readable

pub own-requires-in-Read-clause-on_disk : goal.own-requires-in-Read-clause-on_disk
own-requires-in-Read-clause-on_disk g c = subst (λ (l : FileLayer). c.args.first + c.args.count ≤ (table_parts l).sectors) c.in-Read.is c.requires.on_disk

pub own-requires-in-Read-clause-out : goal.own-requires-in-Read-clause-out
own-requires-in-Read-clause-out g c = subst (λ (l : FileLayer). length c.args.out.now ≡ (table_parts l).sector * c.args.count) c.in-Read.is c.requires.out

pub own-requires-in-Read-clause-mask : goal.own-requires-in-Read-clause-mask
own-requires-in-Read-clause-mask g c = c.requires.mask

pub own-requires-in-Read-clause-ends : goal.own-requires-in-Read-clause-ends
own-requires-in-Read-clause-ends g c = c.requires.ends

pub returns-in-Read-clause-same : goal.returns-in-Read-clause-same
returns-in-Read-clause-same g c = subst (λ (l : FileLayer). IsSameFile l (Read c.own-in-Read.new.self) (g.S.Store.disk c.args.store.now)) (sym c.in-Read.is) (same_read_file c.in-Read.layer c.own-in-Read.new.self (g.S.Store.disk c.args.store.now) c.own-in-Read.ensures.same)

pub returns-in-Read-clause-stays : goal.returns-in-Read-clause-stays
returns-in-Read-clause-stays g c = c.own-in-Read.ensures.stays

pub returns-in-Read-clause-err : goal.returns-in-Read-clause-err
returns-in-Read-clause-err g c = subst (λ (l : FileLayer). IfErr c.own-in-Read.result (ReadFailed (number_of l) (g.S.Store.disk c.args.store.now) (g.S.Store.disk c.own-in-Read.new.store))) (sym c.in-Read.is) c.own-in-Read.ensures.err

pub returns-in-Read-clause-owned : goal.returns-in-Read-clause-owned
returns-in-Read-clause-owned g c = ok_then c.own-in-Read.result (λ held file trace told h. held file.member.layer trace told (has_held c.args.self.now trace file h)) (returns-in-Read-clause-held g c)
