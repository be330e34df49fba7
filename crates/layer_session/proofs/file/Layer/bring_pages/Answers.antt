use Rattle.std.proofs.Common.{◌≡◌, ◌∙◌, length, ap, refl, sym, subst, List}
use Rattle.table_pages.specs.Held.{shape_of}
use Rattle.layer_session.specs.SectorRanges.{FitInCall}
use Rattle.layer_session.specs.Bringing.{most_bit_pages}
use Rattle.layer_session.proofs.Exits.{ok_not_full}
use Rattle.layer_session.proofs.Known.{read_not_full, room_brings}
use Rattle.std.specs.Vec.{with_items}
use Rattle.store_model.specs.Disk.{Disk}
use Rattle.layer_session.specs.declared.file.Layer.{Layer}
use Rattle.layer_session.specs.Calls.{IsSame}
use Rattle.layer_session.specs.Bringing.{LeadsTo, Brings}
use Rattle.layer_session.proofs.BroughtServed.{brought_same}
use Rattle.layer_session.proofs.Leading.{leads_read, leads_same, planned_long, plans_same}
use Rattle.layer_session.proofs.Readable.{same_then, tables_readable}
use Rattle.std.proofs.lemmas.List.{with_items_is}
use Rattle.layer_session.specs.declared.planning.Plan.{Plan}
use Rattle.layer_session.specs.ByTables.{NameFar, NameNear}
use Rattle.layer_session.proofs.file.Layer.bring_pages.Goals as goal

pub bring-requires-clause-readable : goal.bring-requires-clause-readable
bring-requires-clause-readable g c = tables_readable c.args.self.now (g.S.Store.disk c.args.store.now) c.requires.ready.readable

pub returns-in-Ok-clause-leads : goal.returns-in-Ok-clause-leads
returns-in-Ok-clause-leads g c =
    let l : Layer = c.args.self.now in
    let disk : Disk = g.S.Store.disk c.args.store.now in
    let long : length c.bring.new.plans ≡ l.plans.len = c.bring.ensures.len ∙ c.as_mut_slice-plans.ensures.len in
    let mid : Layer = record l { tables = c.bring.new.tables } in
    let new : Layer = record l { tables = c.bring.new.tables; plans = with_items l.plans c.bring.new.plans } in
    let one : IsSame l mid disk = brought_same l c.bring.new.tables disk c.bring.ensures.brought c.requires.ready.readable in
    let two : IsSame mid new disk = plans_same mid new disk refl one.readable (planned_long l c.bring.new.plans long c.requires.ready.plans) in
    subst (LeadsTo l new disk) (sym c.in-Ok.ensures.stays) (leads_same l new disk c.requires.ready (same_then l mid new disk one two) refl)

pub returns-in-Err-clause-leads : goal.returns-in-Err-clause-leads
returns-in-Err-clause-leads g c =
    let l : Layer = c.args.self.now in
    let disk : Disk = g.S.Store.disk c.args.store.now in
    let long : length c.bring.new.plans ≡ l.plans.len = c.bring.ensures.len ∙ c.as_mut_slice-plans.ensures.len in
    let mid : Layer = record l { tables = c.bring.new.tables } in
    let new : Layer = record l { tables = c.bring.new.tables; plans = with_items l.plans c.bring.new.plans } in
    let one : IsSame l mid disk = brought_same l c.bring.new.tables disk c.bring.ensures.brought c.requires.ready.readable in
    let two : IsSame mid new disk = plans_same mid new disk refl one.readable (planned_long l c.bring.new.plans long c.requires.ready.plans) in
    leads_read (Unit {0}) l new disk (g.S.Store.disk c.bring.new.store) c.in-Err.fault (leads_same l new disk c.requires.ready (same_then l mid new disk one two) refl) c.in-Err.ensures.err

pub returns-in-Ok-clause-brings : goal.returns-in-Ok-clause-brings
returns-in-Ok-clause-brings g c =
    let long : length c.bring.new.plans ≡ c.args.self.now.plans.len = c.bring.ensures.len ∙ c.as_mut_slice-plans.ensures.len in
    let items : c.as_mut_slice-plans.result.now ≡ c.args.self.now.plans.items = c.as_mut_slice-plans.ensures.value in
    subst (λ (plans : List Plan). Brings c.args.self.now.tables.parts c.args.missing c.args.first c.args.count c.bring.new.tables c.args.self.now.plans.items plans) (sym (with_items_is c.args.self.now.plans c.bring.new.plans long))
    (subst (λ (old : List Plan). Brings c.args.self.now.tables.parts c.args.missing c.args.first c.args.count c.bring.new.tables old c.bring.new.plans) items c.in-Ok.ensures.brings)

pub returns-in-Ok-clause-near_there : goal.returns-in-Ok-clause-near_there
returns-in-Ok-clause-near_there g c there =
    let long : length c.bring.new.plans ≡ c.args.self.now.plans.len = c.bring.ensures.len ∙ c.as_mut_slice-plans.ensures.len in
    subst (λ (plans : List Plan). NameNear c.args.self.now.tables (g.S.Store.disk c.args.store.now) plans c.args.first c.args.count) (sym (with_items_is c.args.self.now.plans c.bring.new.plans long)) (c.in-Ok.ensures.near_there there)

pub returns-in-Ok-clause-far_there : goal.returns-in-Ok-clause-far_there
returns-in-Ok-clause-far_there g c on there =
    let long : length c.bring.new.plans ≡ c.args.self.now.plans.len = c.bring.ensures.len ∙ c.as_mut_slice-plans.ensures.len in
    subst (λ (plans : List Plan). NameFar c.args.self.now.tables (g.S.Store.disk c.args.store.now) plans c.args.first c.args.count) (sym (with_items_is c.args.self.now.plans c.bring.new.plans long)) (c.in-Ok.ensures.far_there on there)

pub bring-requires-clause-some : goal.bring-requires-clause-some
bring-requires-clause-some g c = c.requires.some

pub bring-requires-clause-fit : goal.bring-requires-clause-fit
bring-requires-clause-fit g c = subst (λ n. FitInCall c.args.self.now.tables.parts n c.args.first c.args.count) (sym (ap length c.as_mut_slice-plans.ensures.value ∙ c.requires.ready.plans)) c.requires.fit

pub bring-requires-clause-near : goal.bring-requires-clause-near
bring-requires-clause-near g c = c.requires.near

pub bring-requires-clause-far : goal.bring-requires-clause-far
bring-requires-clause-far g c = c.requires.far

pub bring-requires-clause-near_there : goal.bring-requires-clause-near_there
bring-requires-clause-near_there g c there = subst (λ (plans : List Plan). NameNear c.args.self.now.tables (g.S.Store.disk c.args.store.now) plans c.args.first c.args.count) (sym c.as_mut_slice-plans.ensures.value) (c.requires.near_there there)

pub bring-requires-clause-far_there : goal.bring-requires-clause-far_there
bring-requires-clause-far_there g c on there = subst (λ (plans : List Plan). NameFar c.args.self.now.tables (g.S.Store.disk c.args.store.now) plans c.args.first c.args.count) (sym c.as_mut_slice-plans.ensures.value) (c.requires.far_there on there)

pub bring-requires-clause-room : goal.bring-requires-clause-room
bring-requires-clause-room g c = room_brings (length c.args.self.now.tables.pending) (most_bit_pages (shape_of c.args.self.now.tables.parts) c.args.count) c.requires.room

pub returns-in-Ok-clause-never : goal.returns-in-Ok-clause-never
returns-in-Ok-clause-never g c next e = ok_not_full tt next e

pub returns-in-Err-clause-never : goal.returns-in-Err-clause-never
returns-in-Err-clause-never g c next e = read_not_full c.in-Err.fault next e

pub returns-in-Ok-clause-log : goal.returns-in-Ok-clause-log
returns-in-Ok-clause-log g c = refl

pub returns-in-Ok-clause-space : goal.returns-in-Ok-clause-space
returns-in-Ok-clause-space g c = refl

pub returns-in-Ok-clause-few : goal.returns-in-Ok-clause-few
returns-in-Ok-clause-few g c = c.bring.ensures.few

pub returns-in-Err-clause-log : goal.returns-in-Err-clause-log
returns-in-Err-clause-log g c = refl

pub returns-in-Err-clause-space : goal.returns-in-Err-clause-space
returns-in-Err-clause-space g c = refl

pub returns-in-Err-clause-few : goal.returns-in-Err-clause-few
returns-in-Err-clause-few g c = c.bring.ensures.few

pub returns-in-Ok-clause-held : goal.returns-in-Ok-clause-held
returns-in-Ok-clause-held g c = c.bring.ensures.brought.held

pub returns-in-Ok-clause-stays : goal.returns-in-Ok-clause-stays
returns-in-Ok-clause-stays g c = c.in-Ok.ensures.stays
