use Rattle.std.proofs.Common.{◌≡◌, ◌∙◌, List, ap, length, refl, sym, subst}
use Rattle.std.specs.Vec.{with_items}
use Rattle.std.proofs.lemmas.List.{with_items_is}
use Rattle.store_model.specs.Disk.{Disk}
use Rattle.layer_session.specs.declared.file.Layer.{Layer}
use Rattle.layer_session.specs.declared.planning.Plan.{Plan}
use Rattle.layer_session.specs.declared.planning.Wanted.{Wanted}
use Rattle.layer_session.specs.Calls.{IsSame}
use Rattle.layer_session.specs.Bringing.{LeadsTo}
use Rattle.layer_session.specs.Planning.{IsLooked, AreCounted}
use Rattle.table_pages.specs.Held.{shape_of}
use Rattle.layer_session.specs.Steps.{held_by}
use Rattle.layer_session.proofs.Leading.{leads_read, leads_same, planned_long, plans_same}
use Rattle.layer_session.proofs.CallSizes.{few_in_call}
use Rattle.layer_session.proofs.Exits.{few_in, ok_not_full}
use Rattle.layer_session.proofs.Known.{read_not_full}
use Rattle.layer_session.proofs.Portions.{few_plans}
use Rattle.layer_session.proofs.Readable.{read_is_same, same_then, tables_readable}
use Rattle.layer_session.proofs.file.Layer.look.Goals as goal

pub look-requires-clause-readable : goal.look-requires-clause-readable
look-requires-clause-readable g c = tables_readable c.args.self.now (g.S.Store.disk c.args.store.now) c.requires.ready.readable

pub returns-in-Ok-clause-looked : goal.returns-in-Ok-clause-looked
returns-in-Ok-clause-looked g c t told =
    let long : length c.look.new.plans ≡ c.args.self.now.plans.len = c.look.auto.plans ∙ c.as_mut_slice-plans.ensures.len in
    subst (λ (plans : List Plan). IsLooked (shape_of c.args.self.now.tables.parts) (held_by c.args.self.now t) c.args.trims plans 0 c.args.first c.args.count c.in-Ok.wanted) (sym (with_items_is c.args.self.now.plans c.look.new.plans long))
    (c.in-Ok.ensures.looked t told)

pub returns-in-Ok-clause-leads : goal.returns-in-Ok-clause-leads
returns-in-Ok-clause-leads g c =
    let l : Layer = c.args.self.now in
    let disk : Disk = g.S.Store.disk c.args.store.now in
    let long : length c.look.new.plans ≡ l.plans.len = c.look.auto.plans ∙ c.as_mut_slice-plans.ensures.len in
    let mid : Layer = record l { tables = c.look.new.tables } in
    let new : Layer = record l { tables = c.look.new.tables; plans = with_items l.plans c.look.new.plans } in
    let one : IsSame l mid disk = read_is_same l c.look.new.tables disk c.look.ensures.reads c.requires.ready.readable in
    let two : IsSame mid new disk = plans_same mid new disk refl one.readable (planned_long l c.look.new.plans long c.requires.ready.plans) in
    subst (LeadsTo l new disk) (sym c.in-Ok.ensures.stays) (leads_same l new disk c.requires.ready (same_then l mid new disk one two) refl)

pub returns-in-Err-clause-leads : goal.returns-in-Err-clause-leads
returns-in-Err-clause-leads g c =
    let l : Layer = c.args.self.now in
    let disk : Disk = g.S.Store.disk c.args.store.now in
    let long : length c.look.new.plans ≡ l.plans.len = c.look.auto.plans ∙ c.as_mut_slice-plans.ensures.len in
    let mid : Layer = record l { tables = c.look.new.tables } in
    let new : Layer = record l { tables = c.look.new.tables; plans = with_items l.plans c.look.new.plans } in
    let one : IsSame l mid disk = read_is_same l c.look.new.tables disk c.look.ensures.reads c.requires.ready.readable in
    let two : IsSame mid new disk = plans_same mid new disk refl one.readable (planned_long l c.look.new.plans long c.requires.ready.plans) in
    leads_read Wanted l new disk (g.S.Store.disk c.look.new.store) c.in-Err.fault (leads_same l new disk c.requires.ready (same_then l mid new disk one two) refl) c.in-Err.ensures.err

pub returns-in-Ok-clause-counted : goal.returns-in-Ok-clause-counted
returns-in-Ok-clause-counted g c =
    let long : length c.look.new.plans ≡ c.args.self.now.plans.len = c.look.auto.plans ∙ c.as_mut_slice-plans.ensures.len in
    subst (λ (plans : List Plan). AreCounted (shape_of c.args.self.now.tables.parts) plans 0 c.args.first c.args.count c.in-Ok.wanted) (sym (with_items_is c.args.self.now.plans c.look.new.plans long)) c.in-Ok.ensures.counted

pub look-requires-clause-on_disk : goal.look-requires-clause-on_disk
look-requires-clause-on_disk g c = c.requires.on_disk

pub look-requires-clause-few : goal.look-requires-clause-few
look-requires-clause-few g c =
    few_in _ _ (few_in_call (shape_of c.args.self.now.tables.parts) (record { sector = c.requires.ready.readable.sizes.sector; block = c.requires.ready.readable.sizes.block }) c.args.first c.args.count c.requires.few)
    (ap length c.as_mut_slice-plans.ensures.value ∙ c.requires.ready.plans)

pub look-requires-clause-room : goal.look-requires-clause-room
look-requires-clause-room g c = few_plans _ (ap length c.as_mut_slice-plans.ensures.value ∙ c.requires.ready.plans)

pub returns-in-Ok-clause-log : goal.returns-in-Ok-clause-log
returns-in-Ok-clause-log g c = refl

pub returns-in-Err-clause-log : goal.returns-in-Err-clause-log
returns-in-Err-clause-log g c = refl

pub returns-in-Ok-clause-space : goal.returns-in-Ok-clause-space
returns-in-Ok-clause-space g c = refl

pub returns-in-Err-clause-space : goal.returns-in-Err-clause-space
returns-in-Err-clause-space g c = refl

pub returns-in-Ok-clause-stays : goal.returns-in-Ok-clause-stays
returns-in-Ok-clause-stays g c = c.in-Ok.ensures.stays

pub returns-in-Ok-clause-never : goal.returns-in-Ok-clause-never
returns-in-Ok-clause-never g c next e = ok_not_full c.in-Ok.wanted next e

pub returns-in-Err-clause-never : goal.returns-in-Err-clause-never
returns-in-Err-clause-never g c next e = read_not_full c.in-Err.fault next e
