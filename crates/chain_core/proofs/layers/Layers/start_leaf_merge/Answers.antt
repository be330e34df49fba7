use Rattle.std.proofs.Common.{◌≡◌, sym, ◌∙◌}
use Rattle.std.specs.Prelude.{None}
use Rattle.store_model.specs.declared.fault.SealFault.TheVariants.{NoRoom}
use Rattle.chain_core.specs.LeafStarting.{StartsWithLeafMerge, leaf_files_in, spent_leaf}
use Rattle.chain_core.specs.declared.merge_start.MergeStartRefusal.TheVariants.{Begin, Plan}
use Rattle.chain_core.proofs.LeafPlanned.{below_served, has_started, leaf_numbers, low, no_room, not_begun, plan_at, spent_start, unplanned}
use Rattle.vx_base.proofs.Handed.{handed}
use Rattle.chain_core.proofs.MergePlanned.{none_of}
use Rattle.chain_core.proofs.layers.Layers.start_leaf_merge.Goals as goal

pub returns-in-Some : goal.returns-in-Some
returns-in-Some g c = spent_start c.args.files.now (g.S.Store.disk c.args.store.now) (g.I.Ids.drawn c.args.ids.now) c.in-Some.number c.requires.can (sym c.high_of_two.ensures ∙ c.in-Some.is)

pub returns-in_err-merge : goal.returns-in_err-merge
returns-in_err-merge g c =
    let files = c.args.files.now in
    let old = g.S.Store.disk c.args.store.now in
    let before = g.I.Ids.drawn c.args.ids.now in
    let mid = g.S.Store.disk c.prepare_leaf.new.store in
    let now = g.I.Ids.drawn c.prepare_leaf.new.ids in
    let none : spent_leaf files ≡ None = sym c.high_of_two.ensures ∙ none_of c.high_of_two.result c.in_default.not-Some in
    handed (StartsWithLeafMerge files old mid before now) _ (Plan c.in_err-merge.field-0.0) c.from_residual.ensures (unplanned files old mid before now c.in_err-merge.field-0.0 c.requires.can none c.in_err-merge.ensures.err)

pub new-requires-clause-sector : goal.new-requires-clause-sector
new-requires-clause-sector g c =
    let files = c.args.files.now in
    let none : spent_leaf files ≡ None = sym c.high_of_two.ensures ∙ none_of c.high_of_two.result c.in_default.not-Some in
    (leaf_numbers files (g.S.Store.disk c.args.store.now) (g.I.Ids.drawn c.args.ids.now) (g.I.Ids.drawn c.prepare_leaf.new.ids) c.in_ok-merge.merge c.requires.can none c.in_ok-merge.ensures.planned (leaf_files_in c.part-of.result) c.part-of.ensures).sector

pub new-requires-clause-size : goal.new-requires-clause-size
new-requires-clause-size g c =
    let files = c.args.files.now in
    let none : spent_leaf files ≡ None = sym c.high_of_two.ensures ∙ none_of c.high_of_two.result c.in_default.not-Some in
    (leaf_numbers files (g.S.Store.disk c.args.store.now) (g.I.Ids.drawn c.args.ids.now) (g.I.Ids.drawn c.prepare_leaf.new.ids) c.in_ok-merge.merge c.requires.can none c.in_ok-merge.ensures.planned (leaf_files_in c.part-of.result) c.part-of.ensures).most

pub new-requires-clause-below : goal.new-requires-clause-below
new-requires-clause-below g c =
    let files = c.args.files.now in
    let none : spent_leaf files ≡ None = sym c.high_of_two.ensures ∙ none_of c.high_of_two.result c.in_default.not-Some in
    below_served files (g.S.Store.disk c.args.store.now) (g.I.Ids.drawn c.args.ids.now) (g.I.Ids.drawn c.prepare_leaf.new.ids) c.in_ok-merge.merge c.requires.can none c.in_ok-merge.ensures.planned (leaf_files_in c.part-of.result) c.part-of.ensures

pub returns-in_err-room : goal.returns-in_err-room
returns-in_err-room g c =
    let files = c.args.files.now in
    let old = g.S.Store.disk c.args.store.now in
    let before = g.I.Ids.drawn c.args.ids.now in
    let mid = g.S.Store.disk c.prepare_leaf.new.store in
    let now = g.I.Ids.drawn c.prepare_leaf.new.ids in
    let none : spent_leaf files ≡ None = sym c.high_of_two.ensures ∙ none_of c.high_of_two.result c.in_default.not-Some in
    handed (StartsWithLeafMerge files old mid before now) _ (Begin NoRoom) c.from_residual-in_err-room.ensures
    (no_room files old before now c.in_ok-merge.merge c.requires.can none c.in_ok-merge.ensures.planned (leaf_files_in c.part-of.result) c.part-of.ensures mid c.in_ok-merge.ensures.stays)

pub begin_leaf_merge-requires-clause-plan : goal.begin_leaf_merge-requires-clause-plan
begin_leaf_merge-requires-clause-plan g c =
    let files = c.args.files.now in
    let none : spent_leaf files ≡ None = sym c.high_of_two.ensures ∙ none_of c.high_of_two.result c.in_default.not-Some in
    plan_at files (g.S.Store.disk c.args.store.now) (g.I.Ids.drawn c.args.ids.now) (g.I.Ids.drawn c.prepare_leaf.new.ids) c.in_ok-merge.merge c.requires.can none c.in_ok-merge.ensures.planned (leaf_files_in c.part-of.result) c.part-of.ensures
    (g.S.Store.disk c.prepare_leaf.new.store) c.in_ok-merge.ensures.stays

pub begin_leaf_merge-requires-clause-low : goal.begin_leaf_merge-requires-clause-low
begin_leaf_merge-requires-clause-low g c =
    let files = c.args.files.now in
    let none : spent_leaf files ≡ None = sym c.high_of_two.ensures ∙ none_of c.high_of_two.result c.in_default.not-Some in
    low files (g.S.Store.disk c.args.store.now) (g.I.Ids.drawn c.args.ids.now) (g.I.Ids.drawn c.prepare_leaf.new.ids) c.in_ok-merge.merge c.requires.can none c.in_ok-merge.ensures.planned (leaf_files_in c.part-of.result) c.part-of.ensures

pub returns-in_err-layers : goal.returns-in_err-layers
returns-in_err-layers g c =
    let files = c.args.files.now in
    let old = g.S.Store.disk c.args.store.now in
    let before = g.I.Ids.drawn c.args.ids.now in
    let mid = g.S.Store.disk c.prepare_leaf.new.store in
    let now = g.I.Ids.drawn c.prepare_leaf.new.ids in
    let none : spent_leaf files ≡ None = sym c.high_of_two.ensures ∙ none_of c.high_of_two.result c.in_default.not-Some in
    let new = g.S.Store.disk c.begin_leaf_merge.new.store in
    handed (StartsWithLeafMerge files old new before now) _ (Begin c.in_err-layers.field-0.0) c.from_residual-in_err-layers.ensures
    (not_begun files old before now c.in_ok-merge.merge c.requires.can none c.in_ok-merge.ensures.planned (leaf_files_in c.part-of.result) c.part-of.ensures mid new c.in_ok-merge.ensures.stays c.in_err-layers.field-0.0 c.in_err-layers.ensures)

pub returns : goal.returns
returns g c =
    let files = c.args.files.now in
    let old = g.S.Store.disk c.args.store.now in
    let before = g.I.Ids.drawn c.args.ids.now in
    let mid = g.S.Store.disk c.prepare_leaf.new.store in
    let now = g.I.Ids.drawn c.prepare_leaf.new.ids in
    let none : spent_leaf files ≡ None = sym c.high_of_two.ensures ∙ none_of c.high_of_two.result c.in_default.not-Some in
    let new = g.S.Store.disk c.begin_leaf_merge.new.store in
    has_started files old before now c.in_ok-merge.merge c.requires.can none c.in_ok-merge.ensures.planned (leaf_files_in c.part-of.result) c.part-of.ensures mid new c.in_ok-merge.ensures.stays c.in_ok-layers.layers c.in_ok-layers.ensures
