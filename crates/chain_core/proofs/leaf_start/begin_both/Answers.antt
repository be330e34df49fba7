use Rattle.std.specs.Prelude.{Err, IfErr}
use Rattle.store_model.specs.declared.fault.SealFault.{SealFault}
use Rattle.chain_core.specs.LeafStarting.{BeginsLeafMerge, leaf_files_in}
use Rattle.chain_core.proofs.LeafBegun.{behind_begun, behind_heir, behind_linked, begins_with, begun_stops, has_begun, heir_stops, linked_stops, no_layers, source_numbers, source_ready, target_numbers, target_ready, twice_turns}
use Rattle.vx_base.proofs.Handed.{handed, not_if_ok}
use Rattle.std.proofs.Common.{ap, length, subst, sym}
use Rattle.chain_core.proofs.Numbers.{few_pages, first_low}
use Rattle.log_format.specs.PendingPages.{HasOnePageEach}
use Rattle.chain_core.proofs.leaf_start.begin_both.Goals as goal

pub begin-requires-clause-numbers : goal.begin-requires-clause-numbers
begin-requires-clause-numbers g c = source_numbers (leaf_files_in c.args.of) c.args.merge.now (g.S.Store.disk c.args.store.now) c.requires.files c.requires.plan

pub begin-requires-clause-ready : goal.begin-requires-clause-ready
begin-requires-clause-ready g c =
    source_ready (leaf_files_in c.args.of) c.args.merge.now (g.S.Store.disk c.args.store.now) c.requires.files c.requires.plan c.data_session-leaf_ids.result c.data_session-leaf_ids.ensures

pub returns-in_err-leaf : goal.returns-in_err-leaf
returns-in_err-leaf g c =
    let m = leaf_files_in c.args.of in
    let d = g.S.Store.disk c.args.store.now in
    let a = g.S.Store.disk c.begin.new.store in
    record {
      begun = not_if_ok c.from_residual.result _ c.from_residual.ensures.1 _;
      err = handed (λ answer. IfErr answer (λ (fault : SealFault). BeginsLeafMerge m c.args.merge.now d a (Err fault))) c.from_residual.result c.in_err-leaf.field-0.0 c.from_residual.ensures
          (begun_stops m c.args.merge.now d c.requires.files c.requires.plan c.data_session-leaf_ids.result c.data_session-leaf_ids.ensures a c.begin.ensures.moments c.in_err-leaf.field-0.0 c.in_err-leaf.ensures.err);
    }

pub link_twice-requires-clause-turns : goal.link_twice-requires-clause-turns
link_twice-requires-clause-turns g c =
    let m = leaf_files_in c.args.of in
    let d = g.S.Store.disk c.args.store.now in
    let a = g.S.Store.disk c.begin.new.store in
    let leaf = c.in_ok-leaf.leaf in
    let r1 = behind_begun m c.args.merge.now d c.requires.files c.requires.plan c.data_session-leaf_ids.result c.data_session-leaf_ids.ensures a c.begin.ensures.moments leaf c.in_ok-leaf.ensures.served c.in_ok-leaf.ensures.counts in
    twice_turns m c.args.merge.now d c.requires.files c.requires.plan leaf a r1 c.in_ok-leaf.ensures.parts c.as_slice.result.now c.as_slice.ensures.pages

pub returns-in_err-link_twice : goal.returns-in_err-link_twice
returns-in_err-link_twice g c =
    let m = leaf_files_in c.args.of in
    let d = g.S.Store.disk c.args.store.now in
    let a = g.S.Store.disk c.begin.new.store in
    let leaf = c.in_ok-leaf.leaf in
    let r1 = behind_begun m c.args.merge.now d c.requires.files c.requires.plan c.data_session-leaf_ids.result c.data_session-leaf_ids.ensures a c.begin.ensures.moments leaf c.in_ok-leaf.ensures.served c.in_ok-leaf.ensures.counts in
    let b = g.S.Store.disk c.link_twice.new.store in
    record {
      begun = not_if_ok c.from_residual-in_err-link_twice.result _ c.from_residual-in_err-link_twice.ensures.1 _;
      err = handed (λ answer. IfErr answer (λ (fault : SealFault). BeginsLeafMerge m c.args.merge.now d b (Err fault))) c.from_residual-in_err-link_twice.result c.in_err-link_twice.field-0.0 c.from_residual-in_err-link_twice.ensures
          (linked_stops m c.args.merge.now d c.requires.files c.requires.plan leaf a r1 c.in_ok-leaf.ensures.parts c.as_slice.result.now c.as_slice.ensures.pages b c.link_twice.ensures.moments c.in_err-link_twice.field-0.0 c.in_err-link_twice.ensures.err);
    }

pub begin-requires-2-clause-numbers : goal.begin-requires-2-clause-numbers
begin-requires-2-clause-numbers g c = target_numbers (leaf_files_in c.args.of) c.args.merge.now (g.S.Store.disk c.args.store.now) c.requires.files c.requires.plan

pub begin-requires-2-clause-ready : goal.begin-requires-2-clause-ready
begin-requires-2-clause-ready g c =
    let m = leaf_files_in c.args.of in
    let d = g.S.Store.disk c.args.store.now in
    let a = g.S.Store.disk c.begin.new.store in
    let leaf = c.in_ok-leaf.leaf in
    let r1 = behind_begun m c.args.merge.now d c.requires.files c.requires.plan c.data_session-leaf_ids.result c.data_session-leaf_ids.ensures a c.begin.ensures.moments leaf c.in_ok-leaf.ensures.served c.in_ok-leaf.ensures.counts in
    let b = g.S.Store.disk c.link_twice.new.store in
    let twice = c.link_twice.new.source in
    let r2 = behind_linked m c.args.merge.now d c.requires.files c.requires.plan leaf a r1 c.in_ok-leaf.ensures.parts c.as_slice.result.now c.as_slice.ensures.pages b c.link_twice.ensures.moments twice c.in_ok-link_twice.ensures.updated c.in_ok-link_twice.ensures.counts in
    target_ready m c.args.merge.now d c.requires.files c.requires.plan twice b r2 c.data_session-target_ids.result c.data_session-target_ids.ensures

pub returns-in_err-target : goal.returns-in_err-target
returns-in_err-target g c =
    let m = leaf_files_in c.args.of in
    let d = g.S.Store.disk c.args.store.now in
    let a = g.S.Store.disk c.begin.new.store in
    let leaf = c.in_ok-leaf.leaf in
    let r1 = behind_begun m c.args.merge.now d c.requires.files c.requires.plan c.data_session-leaf_ids.result c.data_session-leaf_ids.ensures a c.begin.ensures.moments leaf c.in_ok-leaf.ensures.served c.in_ok-leaf.ensures.counts in
    let b = g.S.Store.disk c.link_twice.new.store in
    let twice = c.link_twice.new.source in
    let r2 = behind_linked m c.args.merge.now d c.requires.files c.requires.plan leaf a r1 c.in_ok-leaf.ensures.parts c.as_slice.result.now c.as_slice.ensures.pages b c.link_twice.ensures.moments twice c.in_ok-link_twice.ensures.updated c.in_ok-link_twice.ensures.counts in
    let e = g.S.Store.disk c.begin-2.new.store in
    record {
      begun = not_if_ok c.from_residual-in_err-target.result _ c.from_residual-in_err-target.ensures.1 _;
      err = handed (λ answer. IfErr answer (λ (fault : SealFault). BeginsLeafMerge m c.args.merge.now d e (Err fault))) c.from_residual-in_err-target.result c.in_err-target.field-0.0 c.from_residual-in_err-target.ensures
          (heir_stops m c.args.merge.now d c.requires.files c.requires.plan twice b r2 c.data_session-target_ids.result c.data_session-target_ids.ensures e c.begin-2.ensures.moments c.in_err-target.field-0.0 c.in_err-target.ensures.err);
    }

pub returns : goal.returns
returns g c =
    let m = leaf_files_in c.args.of in
    let d = g.S.Store.disk c.args.store.now in
    let a = g.S.Store.disk c.begin.new.store in
    let leaf = c.in_ok-leaf.leaf in
    let r1 = behind_begun m c.args.merge.now d c.requires.files c.requires.plan c.data_session-leaf_ids.result c.data_session-leaf_ids.ensures a c.begin.ensures.moments leaf c.in_ok-leaf.ensures.served c.in_ok-leaf.ensures.counts in
    let b = g.S.Store.disk c.link_twice.new.store in
    let twice = c.link_twice.new.source in
    let r2 = behind_linked m c.args.merge.now d c.requires.files c.requires.plan leaf a r1 c.in_ok-leaf.ensures.parts c.as_slice.result.now c.as_slice.ensures.pages b c.link_twice.ensures.moments twice c.in_ok-link_twice.ensures.updated c.in_ok-link_twice.ensures.counts in
    let e = g.S.Store.disk c.begin-2.new.store in
    let target = c.in_ok-target.target in
    let r3 = behind_heir m c.args.merge.now d c.requires.files c.requires.plan twice b r2 c.data_session-target_ids.result c.data_session-target_ids.ensures e c.begin-2.ensures.moments target c.in_ok-target.ensures.served c.in_ok-target.ensures.counts in
    record {
      begun = record {
        full = no_layers m c.args.merge.now d c.requires.files c.requires.plan twice b r2 c.data_session-target_ids.result c.data_session-target_ids.ensures e c.begin-2.ensures.moments c.in_ok-target.ensures.counts;
        made = λ room fits layers u are.
            begins_with m c.args.merge.now d c.requires.files c.requires.plan twice b r2 c.data_session-target_ids.result c.data_session-target_ids.ensures e c.begin-2.ensures.moments layers
            (has_begun m c.args.merge.now d c.requires.files c.requires.plan e room fits c.requires.low.target leaf twice target r3
            (record { old = b; was = c.in_ok-link_twice.ensures.ready; counts = r2.counts; of = c.in_ok-leaf.ensures.parts; parts = c.link_twice.ensures.parts; number = c.link_twice.ensures.number })
            (record { old = e; was = c.in_ok-target.ensures.ready; counts = r3.counts; of = c.in_ok-target.ensures.parts; session = c.data_session-target_ids.result; header = c.in_ok-target.ensures.header })
            layers u are.geometry are.top are.alone are.kept are.below are.retires are.clears are.last are.marks are.stamps);
      };
      err = tt;
    }

pub begin-requires-clause-low : goal.begin-requires-clause-low
begin-requires-clause-low g c = c.requires.low.leaf

pub begin-requires-2-clause-low : goal.begin-requires-2-clause-low
begin-requires-2-clause-low g c = c.requires.low.target

pub link_twice-requires-clause-ready : goal.link_twice-requires-clause-ready
link_twice-requires-clause-ready g c = c.in_ok-leaf.ensures.ready

pub link_twice-requires-clause-empty : goal.link_twice-requires-clause-empty
link_twice-requires-clause-empty g c = c.in_ok-leaf.ensures.empty

pub link_twice-requires-clause-numbers : goal.link_twice-requires-clause-numbers
link_twice-requires-clause-numbers g c = first_low c.in_ok-leaf.leaf.log.number c.in_ok-leaf.ensures.parts.first

pub link_twice-requires-clause-few : goal.link_twice-requires-clause-few
link_twice-requires-clause-few g c = few_pages (length c.args.merge.now.twice) (length c.as_slice.result.now) c.requires.plan.twice.has.few (ap length c.as_slice.ensures.pages)

pub link_twice-requires-clause-apart : goal.link_twice-requires-clause-apart
link_twice-requires-clause-apart g c = subst HasOnePageEach (sym c.as_slice.ensures.pages) c.as_slice.ensures.apart
