use Rattle.std.proofs.Common.{◌≡◌, ℕ, ◌+◌, List, sym, ap, subst, ◌∙◌, ◌<◌, ◌≤◌, ◌-◌, ◌^◌, length}
use Rattle.std.specs.Prelude.{None}
use Rattle.store_model.specs.declared.fault.SealFault.TheVariants.{NoRoom}
use Rattle.chain_model.specs.Stripes.{stripe_count}
use Rattle.link_rules.specs.declared.linked.LinkedFile.{LinkedFile}
use Rattle.merge_plan.specs.Merging.{source_place}
use Rattle.chain_core.specs.MergeStarting.{StartsWithMerge, files_in, spent}
use Rattle.chain_core.specs.Starting.{AreReadOf}
use Rattle.chain_core.specs.declared.merge_start.MergeStartRefusal.TheVariants.{Begin, Plan}
use Rattle.vx_base.proofs.Handed.{handed}
use Rattle.chain_core.proofs.MergePlanned.{above_served, below_served, can_at, child_some, has_begun, leaf_numbers, low, no_room, none_of, not_begun, plan_at, spent_start, unplanned}
use Rattle.chain_core.proofs.MergeSpots.{few_above, few_rest, not_first, not_last}
use Rattle.chain_core.proofs.Numbers.{two_up, fits_below, fits_most}
use Rattle.chain_core.proofs.layers.Layers.start_merge.Goals as goal

pub returns-in-Some : goal.returns-in-Some
returns-in-Some g c =
    let files = c.args.files.now in
    let name = c.args.source.now in
    let old = g.S.Store.disk c.args.store.now in
    let before = g.I.Ids.drawn c.args.ids.now in
    spent_start files name old before c.in-Some.number c.requires (sym c.high_number.ensures ∙ c.in-Some.is)

pub returns-in_err-merge : goal.returns-in_err-merge
returns-in_err-merge g c =
    let files = c.args.files.now in
    let name = c.args.source.now in
    let old = g.S.Store.disk c.args.store.now in
    let before = g.I.Ids.drawn c.args.ids.now in
    let mid = g.S.Store.disk c.prepare.new.store in
    let now = g.I.Ids.drawn c.prepare.new.ids in
    let none : spent files name ≡ None = sym c.high_number.ensures ∙ none_of c.high_number.result c.in_default.not-Some in
    handed (StartsWithMerge files name old mid before now) _ (Plan c.in_err-merge.field-0.0) c.from_residual.ensures (unplanned files name old mid before now c.in_err-merge.field-0.0 c.requires none c.in_err-merge.ensures.err)

pub new-requires-clause-sector : goal.new-requires-clause-sector
new-requires-clause-sector g c =
    let files = c.args.files.now in
    let name = c.args.source.now in
    let old = g.S.Store.disk c.args.store.now in
    let before = g.I.Ids.drawn c.args.ids.now in
    let mid = g.S.Store.disk c.prepare.new.store in
    let now = g.I.Ids.drawn c.prepare.new.ids in
    let none : spent files name ≡ None = sym c.high_number.ensures ∙ none_of c.high_number.result c.in_default.not-Some in
    let merge = c.in_ok-merge.merge in
    let n = files_in c.split-of.result in
    (leaf_numbers files name old before now merge c.requires none c.in_ok-merge.ensures.planned n c.split-of.ensures.files c.split-of.ensures.place c.leaf_of.result.now c.leaf_of.ensures).sector

pub new-requires-clause-size : goal.new-requires-clause-size
new-requires-clause-size g c =
    let files = c.args.files.now in
    let name = c.args.source.now in
    let old = g.S.Store.disk c.args.store.now in
    let before = g.I.Ids.drawn c.args.ids.now in
    let mid = g.S.Store.disk c.prepare.new.store in
    let now = g.I.Ids.drawn c.prepare.new.ids in
    let none : spent files name ≡ None = sym c.high_number.ensures ∙ none_of c.high_number.result c.in_default.not-Some in
    let merge = c.in_ok-merge.merge in
    let n = files_in c.split-of.result in
    (leaf_numbers files name old before now merge c.requires none c.in_ok-merge.ensures.planned n c.split-of.ensures.files c.split-of.ensures.place c.leaf_of.result.now c.leaf_of.ensures).most

pub new-requires-clause-above : goal.new-requires-clause-above
new-requires-clause-above g c =
    let files = c.args.files.now in
    let name = c.args.source.now in
    let old = g.S.Store.disk c.args.store.now in
    let before = g.I.Ids.drawn c.args.ids.now in
    let mid = g.S.Store.disk c.prepare.new.store in
    let now = g.I.Ids.drawn c.prepare.new.ids in
    let none : spent files name ≡ None = sym c.high_number.ensures ∙ none_of c.high_number.result c.in_default.not-Some in
    let merge = c.in_ok-merge.merge in
    let n = files_in c.split-of.result in
    above_served files name old before now merge c.requires none c.in_ok-merge.ensures.planned n c.split-of.ensures.files c.split-of.ensures.place c.behind_first.result.now c.behind_first.ensures

pub new-requires-clause-below : goal.new-requires-clause-below
new-requires-clause-below g c =
    let files = c.args.files.now in
    let name = c.args.source.now in
    let old = g.S.Store.disk c.args.store.now in
    let before = g.I.Ids.drawn c.args.ids.now in
    let mid = g.S.Store.disk c.prepare.new.store in
    let now = g.I.Ids.drawn c.prepare.new.ids in
    let none : spent files name ≡ None = sym c.high_number.ensures ∙ none_of c.high_number.result c.in_default.not-Some in
    let merge = c.in_ok-merge.merge in
    let n = files_in c.split-of.result in
    below_served files name old before now merge c.requires none c.in_ok-merge.ensures.planned n c.split-of.ensures.files c.split-of.ensures.place

pub returns-in_err-room : goal.returns-in_err-room
returns-in_err-room g c =
    let files = c.args.files.now in
    let name = c.args.source.now in
    let old = g.S.Store.disk c.args.store.now in
    let before = g.I.Ids.drawn c.args.ids.now in
    let mid = g.S.Store.disk c.prepare.new.store in
    let now = g.I.Ids.drawn c.prepare.new.ids in
    let none : spent files name ≡ None = sym c.high_number.ensures ∙ none_of c.high_number.result c.in_default.not-Some in
    let merge = c.in_ok-merge.merge in
    let n = files_in c.split-of.result in
    handed (StartsWithMerge files name old mid before now) _ (Begin NoRoom) c.from_residual-in_err-room.ensures (no_room files name old before now merge c.requires none c.in_ok-merge.ensures.planned n c.split-of.ensures.files c.split-of.ensures.place mid c.in_ok-merge.ensures.stays)

pub begin_merge-requires-clause-plan : goal.begin_merge-requires-clause-plan
begin_merge-requires-clause-plan g c =
    let files = c.args.files.now in
    let name = c.args.source.now in
    let old = g.S.Store.disk c.args.store.now in
    let before = g.I.Ids.drawn c.args.ids.now in
    let mid = g.S.Store.disk c.prepare.new.store in
    let now = g.I.Ids.drawn c.prepare.new.ids in
    let none : spent files name ≡ None = sym c.high_number.ensures ∙ none_of c.high_number.result c.in_default.not-Some in
    let merge = c.in_ok-merge.merge in
    let n = files_in c.split-of.result in
    plan_at files name old before now merge c.requires none c.in_ok-merge.ensures.planned n c.split-of.ensures.files c.split-of.ensures.place mid c.in_ok-merge.ensures.stays

pub begin_merge-requires-clause-low : goal.begin_merge-requires-clause-low
begin_merge-requires-clause-low g c =
    let files = c.args.files.now in
    let name = c.args.source.now in
    let old = g.S.Store.disk c.args.store.now in
    let before = g.I.Ids.drawn c.args.ids.now in
    let mid = g.S.Store.disk c.prepare.new.store in
    let now = g.I.Ids.drawn c.prepare.new.ids in
    let none : spent files name ≡ None = sym c.high_number.ensures ∙ none_of c.high_number.result c.in_default.not-Some in
    let merge = c.in_ok-merge.merge in
    let n = files_in c.split-of.result in
    low files name old before now merge c.requires none c.in_ok-merge.ensures.planned n c.split-of.ensures.files c.split-of.ensures.place

pub begin_merge-requires-clause-room : goal.begin_merge-requires-clause-room
begin_merge-requires-clause-room g c =
    let files = c.args.files.now in
    let name = c.args.source.now in
    let old = g.S.Store.disk c.args.store.now in
    let before = g.I.Ids.drawn c.args.ids.now in
    let mid = g.S.Store.disk c.prepare.new.store in
    let now = g.I.Ids.drawn c.prepare.new.ids in
    let none : spent files name ≡ None = sym c.high_number.ensures ∙ none_of c.high_number.result c.in_default.not-Some in
    let merge = c.in_ok-merge.merge in
    let n = files_in c.split-of.result in
    let place : source_place n ≡ merge.source = c.split-of.ensures.place in
    record {
      marks = c.in_ok-room.ensures.marks;
      stripes = c.in_ok-room.ensures.stripes ∙ ap (λ (f : LinkedFile). stripe_count f.parts.geometry.sector f.parts.geometry.sectors) c.leaf_of.ensures;
      above = subst (λ (fs : List LinkedFile). AreReadOf 1 fs c.in_ok-room.room.above.items) c.behind_first.ensures c.in_ok-room.ensures.above;
      below = subst (λ (k : ℕ). AreReadOf k n.below c.in_ok-room.room.below.items) (two_up merge.source (source_place n) place) c.in_ok-room.ensures.below;
    }

pub returns-in_err-layers : goal.returns-in_err-layers
returns-in_err-layers g c =
    let files = c.args.files.now in
    let name = c.args.source.now in
    let old = g.S.Store.disk c.args.store.now in
    let before = g.I.Ids.drawn c.args.ids.now in
    let mid = g.S.Store.disk c.prepare.new.store in
    let now = g.I.Ids.drawn c.prepare.new.ids in
    let none : spent files name ≡ None = sym c.high_number.ensures ∙ none_of c.high_number.result c.in_default.not-Some in
    let merge = c.in_ok-merge.merge in
    let n = files_in c.split-of.result in
    let new = g.S.Store.disk c.begin_merge.new.store in
    handed (StartsWithMerge files name old new before now) _ (Begin c.in_err-layers.field-0.0) c.from_residual-in_err-layers.ensures (not_begun files name old before now merge c.requires none c.in_ok-merge.ensures.planned n c.split-of.ensures.files c.split-of.ensures.place mid new c.in_ok-merge.ensures.stays c.in_err-layers.field-0.0 c.in_err-layers.ensures)

pub returns : goal.returns
returns g c =
    let files = c.args.files.now in
    let name = c.args.source.now in
    let old = g.S.Store.disk c.args.store.now in
    let before = g.I.Ids.drawn c.args.ids.now in
    let mid = g.S.Store.disk c.prepare.new.store in
    let now = g.I.Ids.drawn c.prepare.new.ids in
    let none : spent files name ≡ None = sym c.high_number.ensures ∙ none_of c.high_number.result c.in_default.not-Some in
    let merge = c.in_ok-merge.merge in
    let n = files_in c.split-of.result in
    let new = g.S.Store.disk c.begin_merge.new.store in
    has_begun files name old before now merge c.requires none c.in_ok-merge.ensures.planned n c.split-of.ensures.files c.split-of.ensures.place mid new c.in_ok-merge.ensures.stays c.in_ok-layers.layers c.in_ok-layers.ensures

pub prepare-requires : goal.prepare-requires
prepare-requires g c = c.requires

pub split-of-requires-clause-first : goal.split-of-requires-clause-first
split-of-requires-clause-first g c = let p = c.in_ok-merge.ensures.planned in not_first p.m c.in_ok-merge.merge.source p.plan.place

pub split-of-requires-clause-last : goal.split-of-requires-clause-last
split-of-requires-clause-last g c = let p = c.in_ok-merge.ensures.planned in not_last p.m c.args.files.now c.in_ok-merge.merge.source p.begun.files_are.files_are p.plan.place

pub new-requires-clause-few : goal.new-requires-clause-few
new-requires-clause-few g c = few_above (files_in c.split-of.result) c.args.files.now c.behind_first.result.now c.split-of.ensures.files c.behind_first.ensures c.requires.few

pub new-requires-clause-rest : goal.new-requires-clause-rest
new-requires-clause-rest g c = few_rest (files_in c.split-of.result) c.args.files.now c.in_ok-merge.merge.source c.split-of.ensures.files c.split-of.ensures.place c.requires.few

pub begin_merge-requires-clause-files : goal.begin_merge-requires-clause-files
begin_merge-requires-clause-files g c =
    let files = c.args.files.now in
    let name = c.args.source.now in
    let old = g.S.Store.disk c.args.store.now in
    let before = g.I.Ids.drawn c.args.ids.now in
    let mid = g.S.Store.disk c.prepare.new.store in
    let now = g.I.Ids.drawn c.prepare.new.ids in
    let none : spent files name ≡ None = sym c.high_number.ensures ∙ none_of c.high_number.result c.in_default.not-Some in
    let merge = c.in_ok-merge.merge in
    let n = files_in c.split-of.result in
    can_at files name old before now merge c.requires none c.in_ok-merge.ensures.planned n c.split-of.ensures.files c.split-of.ensures.place mid c.in_ok-merge.ensures.stays

pub begin_merge-requires-clause-child : goal.begin_merge-requires-clause-child
begin_merge-requires-clause-child g c =
    let files = c.args.files.now in
    let name = c.args.source.now in
    let old = g.S.Store.disk c.args.store.now in
    let before = g.I.Ids.drawn c.args.ids.now in
    let mid = g.S.Store.disk c.prepare.new.store in
    let now = g.I.Ids.drawn c.prepare.new.ids in
    let none : spent files name ≡ None = sym c.high_number.ensures ∙ none_of c.high_number.result c.in_default.not-Some in
    let merge = c.in_ok-merge.merge in
    let n = files_in c.split-of.result in
    child_some files name old before now merge c.requires none c.in_ok-merge.ensures.planned n c.split-of.ensures.files c.split-of.ensures.place

pub overflow_add-rest : goal.overflow_add-rest
overflow_add-rest g c =
    let n = files_in c.split-of.result in
    let few = few_rest n c.args.files.now c.in_ok-merge.merge.source c.split-of.ensures.files c.split-of.ensures.place c.requires.few in
    let below : c.in_ok-merge.merge.source + 2 < 2 ^ 32 = fits_below (c.in_ok-merge.merge.source + 2) (length n.below) few in
    let most : c.in_ok-merge.merge.source + 2 ≤ 2 ^ 32 - 1 = fits_most (c.in_ok-merge.merge.source + 2) (length n.below) few in
    assumption (below, most)
