use Rattle.std.proofs.Common.{◌≡◌, ◌∙◌, [], Some, refl, sym, ap, subst}
use Rattle.std.specs.Prelude.{IfErr, IfSome, OnErr, OnOk, option_map}
use Rattle.vx_base.proofs.Handed.{ok_then}
use Rattle.store_model.specs.Plans.{FailsToChange}
use Rattle.log_write.specs.Writing.{HasNextNumber, identified_header}
use Rattle.log_write.specs.Sessions.{LogState}
use Rattle.store_model.specs.Disk.{WhereBothTold}
use Rattle.layer_session.specs.Identifying.{FileHasIdentified, FileIdentifiesOver, HasIdentified, IdentifiesOver}
use Rattle.layer_session.specs.declared.file.Layer.{Layer}
use Rattle.layer_session.specs.declared.file_layer.FileLayer.TheVariants.{Session}
use Rattle.layer_session.proofs.Told.{both_map}
use Rattle.table_pages.specs.declared.tables.Tables.{Tables}
use Rattle.layer_session.specs.FileLayers.{FileIsReady, WaitsForNone, log_header, log_number, number_of, table_parts}
use Rattle.layer_session.specs.declared.file_layer.FileLayer.{FileLayer}
use Rattle.layer_session.proofs.Handing.{no_session, on_err_map}
use Rattle.layer_session.proofs.file_layer.FileLayer.identify.Goals as goal

pub identify-requires-clause-ready : goal.identify-requires-clause-ready
identify-requires-clause-ready g c = subst (λ (l : FileLayer). FileIsReady l (g.S.Store.disk c.args.store.now)) c.in-Session.is c.requires.ready

pub identify-requires-clause-header : goal.identify-requires-clause-header
identify-requires-clause-header g c = subst (λ (l : FileLayer). IfSome (log_header l) HasNextNumber) c.in-Session.is c.requires.header

pub returns-in-Session-clause-ready : goal.returns-in-Session-clause-ready
returns-in-Session-clause-ready g c = c.identify.ensures.ready

pub returns-in-Session-clause-session : goal.returns-in-Session-clause-session
returns-in-Session-clause-session g c = refl

pub returns-in-Session-clause-counts : goal.returns-in-Session-clause-counts
returns-in-Session-clause-counts g c = c.identify.ensures.counts

pub returns-in-Session-clause-number : goal.returns-in-Session-clause-number
returns-in-Session-clause-number g c = subst (λ (l : FileLayer). Some c.identify.new.self.log.number ≡ log_number l) (sym c.in-Session.is) (ap Some c.identify.ensures.number)

pub returns-in-Session-clause-parts : goal.returns-in-Session-clause-parts
returns-in-Session-clause-parts g c = subst (λ (l : FileLayer). c.identify.new.self.tables.parts ≡ table_parts l) (sym c.in-Session.is) (ap (λ (t : Tables). t.parts) c.identify.ensures.tables)

pub returns-in-Session-clause-err : goal.returns-in-Session-clause-err
returns-in-Session-clause-err g c = subst (λ (l : FileLayer). IfErr c.identify.result (FailsToChange (number_of l) (g.S.Store.disk c.args.store.now) (g.S.Store.disk c.identify.new.store))) (sym c.in-Session.is) (c.identify.ensures.err)

pub returns-in-Read-clause-moments : goal.returns-in-Read-clause-moments
returns-in-Read-clause-moments g c = no_session c.args.self.now c.in-Read.field-0 c.in-Read.is c.requires.session _

pub returns-in-Read-clause-identified : goal.returns-in-Read-clause-identified
returns-in-Read-clause-identified g c = no_session c.args.self.now c.in-Read.field-0 c.in-Read.is c.requires.session _

pub returns-in-Read-clause-ready : goal.returns-in-Read-clause-ready
returns-in-Read-clause-ready g c = no_session c.args.self.now c.in-Read.field-0 c.in-Read.is c.requires.session _

pub returns-in-Read-clause-header : goal.returns-in-Read-clause-header
returns-in-Read-clause-header g c = no_session c.args.self.now c.in-Read.field-0 c.in-Read.is c.requires.session _

pub returns-in-Read-clause-empty : goal.returns-in-Read-clause-empty
returns-in-Read-clause-empty g c = no_session c.args.self.now c.in-Read.field-0 c.in-Read.is c.requires.session _

pub returns-in-Read-clause-number : goal.returns-in-Read-clause-number
returns-in-Read-clause-number g c = no_session c.args.self.now c.in-Read.field-0 c.in-Read.is c.requires.session _

pub returns-in-Read-clause-session : goal.returns-in-Read-clause-session
returns-in-Read-clause-session g c = no_session c.args.self.now c.in-Read.field-0 c.in-Read.is c.requires.session _

pub returns-in-Read-clause-parts : goal.returns-in-Read-clause-parts
returns-in-Read-clause-parts g c = no_session c.args.self.now c.in-Read.field-0 c.in-Read.is c.requires.session _

pub returns-in-Read-clause-counts : goal.returns-in-Read-clause-counts
returns-in-Read-clause-counts g c = no_session c.args.self.now c.in-Read.field-0 c.in-Read.is c.requires.session _

pub returns-in-Session-clause-moments : goal.returns-in-Session-clause-moments
returns-in-Session-clause-moments g c =
    subst (λ (l : FileLayer). WhereBothTold (FileIdentifiesOver l c.args.id) (g.S.Store.disk c.args.store.now).told (g.S.Store.disk c.identify.new.store).told) (sym c.in-Session.is)
    (both_map (IdentifiesOver c.in-Session.layer c.args.id) (FileIdentifiesOver (Session c.in-Session.layer) c.args.id) (g.S.Store.disk c.args.store.now).told (g.S.Store.disk c.identify.new.store).told c.identify.ensures.moments (λ t u x y h. record { over = h.over }))

pub returns-in-Session-clause-identified : goal.returns-in-Session-clause-identified
returns-in-Session-clause-identified g c =
    subst (λ (l : FileLayer). OnOk c.identify.result (WhereBothTold (FileHasIdentified l (Session c.identify.new.self) c.args.id) (g.S.Store.disk c.args.store.now).told (g.S.Store.disk c.identify.new.store).told)) (sym c.in-Session.is)
    (ok_then c.identify.result (λ w. both_map (HasIdentified c.in-Session.layer c.identify.new.self c.args.id) (FileHasIdentified (Session c.in-Session.layer) (Session c.identify.new.self) c.args.id) (g.S.Store.disk c.args.store.now).told (g.S.Store.disk c.identify.new.store).told w (λ t u x y h. record { has = h.serves })) c.identify.ensures.identified)

pub returns-in-Session-clause-header : goal.returns-in-Session-clause-header
returns-in-Session-clause-header g c =
    subst (λ (l : FileLayer). OnOk c.identify.result (Some c.identify.new.self.log.header ≡ option_map (λ header. identified_header header c.args.id) (log_header l))) (sym c.in-Session.is)
    (ok_then c.identify.result (λ e. ap (λ (s : LogState). Some s.header) e) c.identify.ensures.log)

pub returns-in-Session-clause-kept : goal.returns-in-Session-clause-kept
returns-in-Session-clause-kept g c =
    subst (λ (l : FileLayer). OnErr c.identify.result (Session c.identify.new.self ≡ l)) (sym c.in-Session.is)
    (on_err_map c.identify.result (c.identify.new.self ≡ c.in-Session.layer) (Session c.identify.new.self ≡ Session c.in-Session.layer) (λ e. ap (λ (x : Layer). Session x) e) c.identify.ensures.kept)

pub returns-in-Session-clause-empty : goal.returns-in-Session-clause-empty
returns-in-Session-clause-empty g c =
    subst (λ (l : FileLayer). WaitsForNone l → c.identify.new.self.tables.pending ≡ []) (sym c.in-Session.is)
    (λ h. ap (λ (t : Tables). t.pending) c.identify.ensures.tables ∙ h)

pub returns-in-Session-clause-readable : goal.returns-in-Session-clause-readable
returns-in-Session-clause-readable g c = on_err_map c.identify.result _ _ (λ broken. broken.0) c.identify.ensures.broken
