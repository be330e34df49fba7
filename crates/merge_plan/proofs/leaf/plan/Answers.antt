use Rattle.std.proofs.Common.{◌≡◌, ◌<◌, List, Some, None, refl, sym, ap, subst, ◌∙◌, arith}
use Rattle.store_model.specs.Disk.{Disk}
use Rattle.vhdx_format.specs.declared.log_entry.Page.{Page}
use Rattle.meta_edit.specs.Edits.{IsSound}
use Rattle.merge_plan.specs.Attached.{CanStart}
use Rattle.merge_plan.specs.Drawing.{JudgesDrawn}
use Rattle.merge_plan.specs.LeafMerging.{ClearsTarget}
use Rattle.merge_plan.specs.LeafPlanning.{StopsLeaf, leaf_merge_ids}
use Rattle.merge_plan.specs.LeafSteps.{HasNaming, NamingFails, leaf_files}
use Rattle.merge_plan.proofs.Gathered.{not_if_ok_so, not_ok_so}
use Rattle.merge_plan.proofs.LeafPlanned.{IsLeafLocator, can_plan_leaf, clearing_stops, has_leaf_plan, judge_stops, link_stops, locator_stops, name_stops, short_enough}
use Rattle.merge_plan.proofs.Planned.{passed_on}
use Rattle.merge_plan.proofs.RetiredNames.{sound_over}
use Rattle.merge_plan.proofs.leaf.plan.Goals as goal

pub update-requires-clause-served : goal.update-requires-clause-served
update-requires-clause-served g c =
    let m = leaf_files c.args.source.now c.args.target.now c.args.files.now in
    let old = g.S.Store.disk c.args.store.now in
    let can = can_plan_leaf c.args.files.now old m c.requires.can c.requires.first in
    can.source_served

pub update-requires-clause-opened : goal.update-requires-clause-opened
update-requires-clause-opened g c =
    let m = leaf_files c.args.source.now c.args.target.now c.args.files.now in
    let old = g.S.Store.disk c.args.store.now in
    let can = can_plan_leaf c.args.files.now old m c.requires.can c.requires.first in
    can.source_opened

pub returns-in_err-twice-clause-err : goal.returns-in_err-twice-clause-err
returns-in_err-twice-clause-err g c =
    let m = leaf_files c.args.source.now c.args.target.now c.args.files.now in
    let old = g.S.Store.disk c.args.store.now in
    let can = can_plan_leaf c.args.files.now old m c.requires.can c.requires.first in
    let l : IsLeafLocator m c.args.ids.target.data_write c.in_ok-locator.locator = record { is = c.in_ok-locator.ensures.pairs; short = c.in_ok-locator.ensures.short } in
    let new = g.S.Store.disk c.update.new.store in
    passed_on (StopsLeaf c.args.files.now old new m c.args.ids) c.from_residual-in_err-twice.result c.in_err-twice.field-0.0 c.from_residual-in_err-twice.ensures.1
    (link_stops c.args.files.now old m can c.args.ids c.in_ok-locator.locator l new c.in_err-twice.field-0.0 c.in_err-twice.ensures.err)

pub clearing-requires-clause-served : goal.clearing-requires-clause-served
clearing-requires-clause-served g c =
    let m = leaf_files c.args.source.now c.args.target.now c.args.files.now in
    let old = g.S.Store.disk c.args.store.now in
    let can = can_plan_leaf c.args.files.now old m c.requires.can c.requires.first in
    can.target_served

pub clearing-requires-clause-opened : goal.clearing-requires-clause-opened
clearing-requires-clause-opened g c =
    let m = leaf_files c.args.source.now c.args.target.now c.args.files.now in
    let old = g.S.Store.disk c.args.store.now in
    let can = can_plan_leaf c.args.files.now old m c.requires.can c.requires.first in
    λ t told. can.target_opened t (sym (ap (λ (d : Disk). d.told) c.in_ok-twice.ensures.stays) ∙ told)

pub returns-in_err-clear-clause-err : goal.returns-in_err-clear-clause-err
returns-in_err-clear-clause-err g c =
    let m = leaf_files c.args.source.now c.args.target.now c.args.files.now in
    let old = g.S.Store.disk c.args.store.now in
    let can = can_plan_leaf c.args.files.now old m c.requires.can c.requires.first in
    let l : IsLeafLocator m c.args.ids.target.data_write c.in_ok-locator.locator = record { is = c.in_ok-locator.ensures.pairs; short = c.in_ok-locator.ensures.short } in
    let mid = g.S.Store.disk c.update.new.store in
    let new = g.S.Store.disk c.clearing.new.store in
    passed_on (StopsLeaf c.args.files.now old new m c.args.ids) c.from_residual-in_err-clear.result c.in_err-clear.field-0.0 c.from_residual-in_err-clear.ensures.1
    (clearing_stops c.args.files.now old m can c.args.ids c.in_ok-locator.locator l mid new c.in_err-clear.field-0.0 c.in_ok-twice.ensures.stays c.in_err-clear.ensures.err)

pub name_update-requires-clause-served : goal.name_update-requires-clause-served
name_update-requires-clause-served g c =
    let m = leaf_files c.args.source.now c.args.target.now c.args.files.now in
    let old = g.S.Store.disk c.args.store.now in
    let can = can_plan_leaf c.args.files.now old m c.requires.can c.requires.first in
    can.source_served

pub name_update-requires-clause-opened : goal.name_update-requires-clause-opened
name_update-requires-clause-opened g c =
    let m = leaf_files c.args.source.now c.args.target.now c.args.files.now in
    let old = g.S.Store.disk c.args.store.now in
    let can = can_plan_leaf c.args.files.now old m c.requires.can c.requires.first in
    let same : g.S.Store.disk c.clearing.new.store ≡ old = c.in_ok-clear.ensures.stays ∙ c.in_ok-twice.ensures.stays in
    λ t told. can.source_opened t (sym (ap (λ (d : Disk). d.told) same) ∙ told)

pub name_update-requires-clause-sound : goal.name_update-requires-clause-sound
name_update-requires-clause-sound g c =
    let m = leaf_files c.args.source.now c.args.target.now c.args.files.now in
    let old = g.S.Store.disk c.args.store.now in
    let can = can_plan_leaf c.args.files.now old m c.requires.can c.requires.first in
    let same : g.S.Store.disk c.clearing.new.store ≡ old = c.in_ok-clear.ensures.stays ∙ c.in_ok-twice.ensures.stays in
    let sound : IsSound c.args.source.now.parts 0 c.as_slice.result.now old =
    subst (λ (pages : List Page). IsSound c.args.source.now.parts 0 pages old) (sym c.as_slice.ensures.pages)
    (sound_over old 0 c.args.source.now c.in_ok-locator.locator c.in_ok-twice.twice can.source_opened c.in_ok-twice.ensures.pages) in
    λ t told. sound t (sym (ap (λ (d : Disk). d.told) same) ∙ told)

pub returns-in_err-retire-clause-err : goal.returns-in_err-retire-clause-err
returns-in_err-retire-clause-err g c =
    let m = leaf_files c.args.source.now c.args.target.now c.args.files.now in
    let old = g.S.Store.disk c.args.store.now in
    let can = can_plan_leaf c.args.files.now old m c.requires.can c.requires.first in
    let l : IsLeafLocator m c.args.ids.target.data_write c.in_ok-locator.locator = record { is = c.in_ok-locator.ensures.pairs; short = c.in_ok-locator.ensures.short } in
    let same : g.S.Store.disk c.clearing.new.store ≡ old = c.in_ok-clear.ensures.stays ∙ c.in_ok-twice.ensures.stays in
    let mid = g.S.Store.disk c.clearing.new.store in
    let new = g.S.Store.disk c.name_update.new.store in
    let fails : NamingFails c.args.source.now.parts 0 c.in_ok-twice.twice mid new (Some c.args.target.now.name) c.in_err-retire.field-0.0 =
    subst (λ (pages : List Page). NamingFails c.args.source.now.parts 0 pages mid new (Some c.args.target.now.name) c.in_err-retire.field-0.0) c.as_slice.ensures.pages c.in_err-retire.ensures.err in
    passed_on (StopsLeaf c.args.files.now old new m c.args.ids) c.from_residual-in_err-retire.result c.in_err-retire.field-0.0 c.from_residual-in_err-retire.ensures.1
    (name_stops c.args.files.now old m can c.args.ids c.in_ok-locator.locator l c.in_ok-twice.twice c.in_ok-twice.ensures.pages mid new c.in_err-retire.field-0.0 same fails)

pub returns-in_err-judge-clause-err : goal.returns-in_err-judge-clause-err
returns-in_err-judge-clause-err g c =
    let m = leaf_files c.args.source.now c.args.target.now c.args.files.now in
    let old = g.S.Store.disk c.args.store.now in
    let can = can_plan_leaf c.args.files.now old m c.requires.can c.requires.first in
    let l : IsLeafLocator m c.args.ids.target.data_write c.in_ok-locator.locator = record { is = c.in_ok-locator.ensures.pairs; short = c.in_ok-locator.ensures.short } in
    let same : g.S.Store.disk c.clearing.new.store ≡ old = c.in_ok-clear.ensures.stays ∙ c.in_ok-twice.ensures.stays in
    let retire : HasNaming c.args.source.now.parts 0 c.in_ok-twice.twice old (Some c.args.target.now.name) c.in_ok-retire.retire =
    subst (λ (d : Disk). HasNaming c.args.source.now.parts 0 c.in_ok-twice.twice d (Some c.args.target.now.name) c.in_ok-retire.retire) same
    (subst (λ (pages : List Page). HasNaming c.args.source.now.parts 0 pages (g.S.Store.disk c.clearing.new.store) (Some c.args.target.now.name) c.in_ok-retire.retire) c.as_slice.ensures.pages c.in_ok-retire.ensures.pages) in
    let mid = g.S.Store.disk c.name_update.new.store in
    let new = g.S.Store.disk c.judge.new.store in
    passed_on (StopsLeaf c.args.files.now old new m c.args.ids) c.from_residual-in_err-judge.result c.in_err-judge.field-0.0 c.from_residual-in_err-judge.ensures.1
    (judge_stops c.args.files.now old m can c.args.ids c.in_ok-locator.locator l c.in_ok-twice.twice c.in_ok-twice.ensures.pages c.in_ok-retire.retire retire mid new c.in_err-judge.field-0.0
    (c.in_ok-retire.ensures.stays ∙ same) c.in_err-judge.ensures.err)

pub returns-clause-planned : goal.returns-clause-planned
returns-clause-planned g c =
    let m = leaf_files c.args.source.now c.args.target.now c.args.files.now in
    let old = g.S.Store.disk c.args.store.now in
    let can = can_plan_leaf c.args.files.now old m c.requires.can c.requires.first in
    let l : IsLeafLocator m c.args.ids.target.data_write c.in_ok-locator.locator = record { is = c.in_ok-locator.ensures.pairs; short = c.in_ok-locator.ensures.short } in
    let same : g.S.Store.disk c.clearing.new.store ≡ old = c.in_ok-clear.ensures.stays ∙ c.in_ok-twice.ensures.stays in
    let retire : HasNaming c.args.source.now.parts 0 c.in_ok-twice.twice old (Some c.args.target.now.name) c.in_ok-retire.retire =
    subst (λ (d : Disk). HasNaming c.args.source.now.parts 0 c.in_ok-twice.twice d (Some c.args.target.now.name) c.in_ok-retire.retire) same
    (subst (λ (pages : List Page). HasNaming c.args.source.now.parts 0 pages (g.S.Store.disk c.clearing.new.store) (Some c.args.target.now.name) c.in_ok-retire.retire) c.as_slice.ensures.pages c.in_ok-retire.ensures.pages) in
    let clear : ClearsTarget c.args.target.now 1 old c.in_ok-clear.clear =
    subst (λ (d : Disk). ClearsTarget c.args.target.now 1 d c.in_ok-clear.clear) c.in_ok-twice.ensures.stays c.in_ok-clear.ensures.pages in
    let fit : JudgesDrawn c.args.files.now old (leaf_merge_ids c.args.ids) None =
    subst (λ (d : Disk). JudgesDrawn c.args.files.now d (leaf_merge_ids c.args.ids) None) (c.in_ok-retire.ensures.stays ∙ same) c.in_ok-judge.ensures.fit in
    has_leaf_plan c.args.files.now old m can c.args.ids c.in_ok-locator.locator l
    (record { ids = c.args.ids; twice = c.in_ok-twice.twice; clear = c.in_ok-clear.clear; retire = c.in_ok-retire.retire }) refl c.in_ok-locator.ensures.typed c.requires.drawn fit
    c.in_ok-twice.ensures.pages clear retire

pub returns-in_err-locator-clause-planned : goal.returns-in_err-locator-clause-planned
returns-in_err-locator-clause-planned g c = not_if_ok_so c.from_residual.result c.from_residual.ensures.0 _

pub returns-in_err-locator-clause-ids : goal.returns-in_err-locator-clause-ids
returns-in_err-locator-clause-ids g c = not_if_ok_so c.from_residual.result c.from_residual.ensures.0 _

pub returns-in_err-locator-clause-stays : goal.returns-in_err-locator-clause-stays
returns-in_err-locator-clause-stays g c = not_ok_so c.from_residual.result c.from_residual.ensures.0 _

pub returns-in_err-twice-clause-planned : goal.returns-in_err-twice-clause-planned
returns-in_err-twice-clause-planned g c = not_if_ok_so c.from_residual-in_err-twice.result c.from_residual-in_err-twice.ensures.0 _

pub returns-in_err-twice-clause-ids : goal.returns-in_err-twice-clause-ids
returns-in_err-twice-clause-ids g c = not_if_ok_so c.from_residual-in_err-twice.result c.from_residual-in_err-twice.ensures.0 _

pub returns-in_err-twice-clause-stays : goal.returns-in_err-twice-clause-stays
returns-in_err-twice-clause-stays g c = not_ok_so c.from_residual-in_err-twice.result c.from_residual-in_err-twice.ensures.0 _

pub returns-in_err-clear-clause-planned : goal.returns-in_err-clear-clause-planned
returns-in_err-clear-clause-planned g c = not_if_ok_so c.from_residual-in_err-clear.result c.from_residual-in_err-clear.ensures.0 _

pub returns-in_err-clear-clause-ids : goal.returns-in_err-clear-clause-ids
returns-in_err-clear-clause-ids g c = not_if_ok_so c.from_residual-in_err-clear.result c.from_residual-in_err-clear.ensures.0 _

pub returns-in_err-clear-clause-stays : goal.returns-in_err-clear-clause-stays
returns-in_err-clear-clause-stays g c = not_ok_so c.from_residual-in_err-clear.result c.from_residual-in_err-clear.ensures.0 _

pub returns-in_err-retire-clause-planned : goal.returns-in_err-retire-clause-planned
returns-in_err-retire-clause-planned g c = not_if_ok_so c.from_residual-in_err-retire.result c.from_residual-in_err-retire.ensures.0 _

pub returns-in_err-retire-clause-ids : goal.returns-in_err-retire-clause-ids
returns-in_err-retire-clause-ids g c = not_if_ok_so c.from_residual-in_err-retire.result c.from_residual-in_err-retire.ensures.0 _

pub returns-in_err-retire-clause-stays : goal.returns-in_err-retire-clause-stays
returns-in_err-retire-clause-stays g c = not_ok_so c.from_residual-in_err-retire.result c.from_residual-in_err-retire.ensures.0 _

pub returns-in_err-judge-clause-planned : goal.returns-in_err-judge-clause-planned
returns-in_err-judge-clause-planned g c = not_if_ok_so c.from_residual-in_err-judge.result c.from_residual-in_err-judge.ensures.0 _

pub returns-in_err-judge-clause-ids : goal.returns-in_err-judge-clause-ids
returns-in_err-judge-clause-ids g c = not_if_ok_so c.from_residual-in_err-judge.result c.from_residual-in_err-judge.ensures.0 _

pub returns-in_err-judge-clause-stays : goal.returns-in_err-judge-clause-stays
returns-in_err-judge-clause-stays g c = not_ok_so c.from_residual-in_err-judge.result c.from_residual-in_err-judge.ensures.0 _

pub returns-in_err-locator-clause-err : goal.returns-in_err-locator-clause-err
returns-in_err-locator-clause-err g c =
    let m = leaf_files c.args.source.now c.args.target.now c.args.files.now in
    let old = g.S.Store.disk c.args.store.now in
    passed_on (StopsLeaf c.args.files.now old old m c.args.ids) c.from_residual.result c.in_err-locator.field-0.0 c.from_residual.ensures.1 (locator_stops c.args.files.now old m c.args.ids c.in_err-locator.field-0.0 c.in_err-locator.ensures.err)

pub update-requires-clause-short : goal.update-requires-clause-short
update-requires-clause-short g c = short_enough c.in_ok-locator.locator c.in_ok-locator.ensures.short

pub update-requires-clause-there : goal.update-requires-clause-there
update-requires-clause-there g c =
    let can = can_plan_leaf c.args.files.now (g.S.Store.disk c.args.store.now) (leaf_files c.args.source.now c.args.target.now c.args.files.now) c.requires.can c.requires.first in
    omega (arith, can.there)

pub clearing-requires-clause-there : goal.clearing-requires-clause-there
clearing-requires-clause-there g c =
    let can = can_plan_leaf c.args.files.now (g.S.Store.disk c.args.store.now) (leaf_files c.args.source.now c.args.target.now c.args.files.now) c.requires.can c.requires.first in
    subst (λ (d : Disk). 1 < d.files) (sym c.in_ok-twice.ensures.stays) can.there

pub name_update-requires-clause-there : goal.name_update-requires-clause-there
name_update-requires-clause-there g c =
    let can = can_plan_leaf c.args.files.now (g.S.Store.disk c.args.store.now) (leaf_files c.args.source.now c.args.target.now c.args.files.now) c.requires.can c.requires.first in
    subst (λ (d : Disk). 0 < d.files) (sym (c.in_ok-clear.ensures.stays ∙ c.in_ok-twice.ensures.stays)) (omega (arith, can.there))

pub judge-requires : goal.judge-requires
judge-requires g c = subst (CanStart c.args.files.now) (sym (c.in_ok-retire.ensures.stays ∙ c.in_ok-clear.ensures.stays ∙ c.in_ok-twice.ensures.stays)) c.requires.can

pub returns-clause-stays : goal.returns-clause-stays
returns-clause-stays g c = c.in_ok-judge.ensures.stays ∙ c.in_ok-retire.ensures.stays ∙ c.in_ok-clear.ensures.stays ∙ c.in_ok-twice.ensures.stays

pub returns-clause-ids : goal.returns-clause-ids
returns-clause-ids g c = refl
