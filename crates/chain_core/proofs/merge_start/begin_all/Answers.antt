use Rattle.std.specs.Prelude.{Err, IfErr}
use Rattle.store_model.specs.declared.fault.SealFault.{SealFault}
use Rattle.std.proofs.Common.{ap, ◌∙◌}
use Rattle.table_pages.specs.declared.tables.TableParts.{TableParts}
use Rattle.chain_core.specs.MergeStarting.{BeginsMerge, files_in}
use Rattle.chain_core.proofs.MergeAsked.{child_numbers, target_numbers}
use Rattle.chain_core.proofs.MergeBegun.{begins_merge, behind_child, behind_target, behind_upper, child_ready, child_stops, child_within, close_stops, made_of_child, no_layers, source_still, target_ready, target_stops, target_within}
use Rattle.vx_base.proofs.Handed.{handed, not_if_ok}
use Rattle.chain_core.proofs.merge_start.begin_all.Goals as goal

pub returns-in_err-upper : goal.returns-in_err-upper
returns-in_err-upper g c =
    let m = files_in c.args.of in
    let d = g.S.Store.disk c.args.store.now in
    let e = g.S.Store.disk c.begin_upper.new.store in
    record {
      begun = not_if_ok c.from_residual.result _ c.from_residual.ensures.1 _;
      err = handed (λ answer. IfErr answer (λ (fault : SealFault). BeginsMerge m c.args.merge.now d e (Err fault))) c.from_residual.result c.in_err-upper.field-0.0 c.from_residual.ensures c.in_err-upper.ensures.err;
    }

pub begin-requires-clause-numbers : goal.begin-requires-clause-numbers
begin-requires-clause-numbers g c =
    let m = files_in c.args.of in
    let d = g.S.Store.disk c.args.store.now in
    target_numbers m c.args.merge.now d c.requires.files c.requires.plan

pub begin-requires-clause-there : goal.begin-requires-clause-there
begin-requires-clause-there g c =
    let m = files_in c.args.of in
    let d = g.S.Store.disk c.args.store.now in
    let e = g.S.Store.disk c.begin_upper.new.store in
    let upper = c.in_ok-upper.upper in
    let leaf = upper.leaf in
    let twice = upper.source in
    let r3 = behind_upper m c.args.merge.now d c.requires.files c.requires.plan leaf twice e c.in_ok-upper.ensures.begun in
    target_within m c.args.merge.now d c.requires.files c.requires.plan leaf twice e r3 c.data_session-target_ids.result c.data_session-target_ids.ensures

pub begin-requires-clause-ready : goal.begin-requires-clause-ready
begin-requires-clause-ready g c =
    let m = files_in c.args.of in
    let d = g.S.Store.disk c.args.store.now in
    let e = g.S.Store.disk c.begin_upper.new.store in
    let upper = c.in_ok-upper.upper in
    let leaf = upper.leaf in
    let twice = upper.source in
    let r3 = behind_upper m c.args.merge.now d c.requires.files c.requires.plan leaf twice e c.in_ok-upper.ensures.begun in
    target_ready m c.args.merge.now d c.requires.files c.requires.plan leaf twice e r3 c.data_session-target_ids.result c.data_session-target_ids.ensures

pub returns-in_err-target : goal.returns-in_err-target
returns-in_err-target g c =
    let m = files_in c.args.of in
    let d = g.S.Store.disk c.args.store.now in
    let e = g.S.Store.disk c.begin_upper.new.store in
    let upper = c.in_ok-upper.upper in
    let leaf = upper.leaf in
    let twice = upper.source in
    let r3 = behind_upper m c.args.merge.now d c.requires.files c.requires.plan leaf twice e c.in_ok-upper.ensures.begun in
    let f = g.S.Store.disk c.begin.new.store in
    record {
      begun = not_if_ok c.from_residual-in_err-target.result _ c.from_residual-in_err-target.ensures.1 _;
      err = handed (λ answer. IfErr answer (λ (fault : SealFault). BeginsMerge m c.args.merge.now d f (Err fault))) c.from_residual-in_err-target.result c.in_err-target.field-0.0 c.from_residual-in_err-target.ensures
          (target_stops m c.args.merge.now d c.requires.files c.requires.plan leaf twice e r3 c.data_session-target_ids.result c.data_session-target_ids.ensures f c.begin.ensures.moments c.in_err-target.field-0.0 c.in_err-target.ensures.err);
    }

pub begin_child-requires-clause-numbers : goal.begin_child-requires-clause-numbers
begin_child-requires-clause-numbers g c =
    let m = files_in c.args.of in
    let d = g.S.Store.disk c.args.store.now in
    child_numbers m c.args.merge.now d c.requires.files c.requires.plan

pub begin_child-requires-clause-there : goal.begin_child-requires-clause-there
begin_child-requires-clause-there g c =
    let m = files_in c.args.of in
    let d = g.S.Store.disk c.args.store.now in
    let e = g.S.Store.disk c.begin_upper.new.store in
    let upper = c.in_ok-upper.upper in
    let leaf = upper.leaf in
    let twice = upper.source in
    let r3 = behind_upper m c.args.merge.now d c.requires.files c.requires.plan leaf twice e c.in_ok-upper.ensures.begun in
    let f = g.S.Store.disk c.begin.new.store in
    let target = c.in_ok-target.target in
    let r4 = behind_target m c.args.merge.now d c.requires.files c.requires.plan leaf twice e r3 c.data_session-target_ids.result c.data_session-target_ids.ensures f c.begin.ensures.moments target c.in_ok-target.ensures.served c.in_ok-target.ensures.counts in
    child_within m c.args.merge.now d c.requires.files c.requires.plan c.requires.child leaf twice target f r4

pub begin_child-requires-clause-ready : goal.begin_child-requires-clause-ready
begin_child-requires-clause-ready g c =
    let m = files_in c.args.of in
    let d = g.S.Store.disk c.args.store.now in
    let e = g.S.Store.disk c.begin_upper.new.store in
    let upper = c.in_ok-upper.upper in
    let leaf = upper.leaf in
    let twice = upper.source in
    let r3 = behind_upper m c.args.merge.now d c.requires.files c.requires.plan leaf twice e c.in_ok-upper.ensures.begun in
    let f = g.S.Store.disk c.begin.new.store in
    let target = c.in_ok-target.target in
    let r4 = behind_target m c.args.merge.now d c.requires.files c.requires.plan leaf twice e r3 c.data_session-target_ids.result c.data_session-target_ids.ensures f c.begin.ensures.moments target c.in_ok-target.ensures.served c.in_ok-target.ensures.counts in
    child_ready m c.args.merge.now d c.requires.files c.requires.plan c.requires.child leaf twice target f r4

pub returns-in_err-child : goal.returns-in_err-child
returns-in_err-child g c =
    let m = files_in c.args.of in
    let d = g.S.Store.disk c.args.store.now in
    let e = g.S.Store.disk c.begin_upper.new.store in
    let upper = c.in_ok-upper.upper in
    let leaf = upper.leaf in
    let twice = upper.source in
    let r3 = behind_upper m c.args.merge.now d c.requires.files c.requires.plan leaf twice e c.in_ok-upper.ensures.begun in
    let f = g.S.Store.disk c.begin.new.store in
    let target = c.in_ok-target.target in
    let r4 = behind_target m c.args.merge.now d c.requires.files c.requires.plan leaf twice e r3 c.data_session-target_ids.result c.data_session-target_ids.ensures f c.begin.ensures.moments target c.in_ok-target.ensures.served c.in_ok-target.ensures.counts in
    let h = g.S.Store.disk c.begin_child.new.store in
    record {
      begun = not_if_ok c.from_residual-in_err-child.result _ c.from_residual-in_err-child.ensures.1 _;
      err = handed (λ answer. IfErr answer (λ (fault : SealFault). BeginsMerge m c.args.merge.now d h (Err fault))) c.from_residual-in_err-child.result c.in_err-child.field-0.0 c.from_residual-in_err-child.ensures
          (child_stops m c.args.merge.now d c.requires.files c.requires.plan c.requires.child leaf twice target f r4 h c.begin_child.ensures.moments c.in_err-child.field-0.0 c.in_err-child.ensures.err);
    }

pub close-requires-clause-ready : goal.close-requires-clause-ready
close-requires-clause-ready g c =
    let m = files_in c.args.of in
    let d = g.S.Store.disk c.args.store.now in
    let e = g.S.Store.disk c.begin_upper.new.store in
    let upper = c.in_ok-upper.upper in
    let leaf = upper.leaf in
    let twice = upper.source in
    let r3 = behind_upper m c.args.merge.now d c.requires.files c.requires.plan leaf twice e c.in_ok-upper.ensures.begun in
    let f = g.S.Store.disk c.begin.new.store in
    let target = c.in_ok-target.target in
    let r4 = behind_target m c.args.merge.now d c.requires.files c.requires.plan leaf twice e r3 c.data_session-target_ids.result c.data_session-target_ids.ensures f c.begin.ensures.moments target c.in_ok-target.ensures.served c.in_ok-target.ensures.counts in
    let h = g.S.Store.disk c.begin_child.new.store in
    let child = c.in_ok-child.child in
    let r5 = behind_child m c.args.merge.now d c.requires.files c.requires.plan c.requires.child leaf twice target f r4 h c.begin_child.ensures.moments child c.in_ok-child.ensures.begun c.in_ok-child.ensures.counts in
    source_still m c.args.merge.now d c.requires.files c.requires.plan leaf twice target child h r5 e c.in_ok-upper.ensures.begun.linked_ready r3.counts

pub returns-in_err-source : goal.returns-in_err-source
returns-in_err-source g c =
    let m = files_in c.args.of in
    let d = g.S.Store.disk c.args.store.now in
    let e = g.S.Store.disk c.begin_upper.new.store in
    let upper = c.in_ok-upper.upper in
    let leaf = upper.leaf in
    let twice = upper.source in
    let r3 = behind_upper m c.args.merge.now d c.requires.files c.requires.plan leaf twice e c.in_ok-upper.ensures.begun in
    let f = g.S.Store.disk c.begin.new.store in
    let target = c.in_ok-target.target in
    let r4 = behind_target m c.args.merge.now d c.requires.files c.requires.plan leaf twice e r3 c.data_session-target_ids.result c.data_session-target_ids.ensures f c.begin.ensures.moments target c.in_ok-target.ensures.served c.in_ok-target.ensures.counts in
    let h = g.S.Store.disk c.begin_child.new.store in
    let child = c.in_ok-child.child in
    let r5 = behind_child m c.args.merge.now d c.requires.files c.requires.plan c.requires.child leaf twice target f r4 h c.begin_child.ensures.moments child c.in_ok-child.ensures.begun c.in_ok-child.ensures.counts in
    let z = g.S.Store.disk c.close.new.store in
    record {
      begun = not_if_ok c.from_residual-in_err-source.result _ c.from_residual-in_err-source.ensures.1 _;
      err = handed (λ answer. IfErr answer (λ (fault : SealFault). BeginsMerge m c.args.merge.now d z (Err fault))) c.from_residual-in_err-source.result c.in_err-source.field-0.0 c.from_residual-in_err-source.ensures
          (close_stops m c.args.merge.now d c.requires.files c.requires.plan leaf twice target child h r5 z c.close.ensures.moments c.in_err-source.field-0.0 (ap (λ (p : TableParts). p.file) c.in_ok-upper.ensures.begun.linked_parts ∙ c.in_ok-upper.ensures.begun.source_is.number) c.in_err-source.ensures.err);
    }

pub returns : goal.returns
returns g c =
    let m = files_in c.args.of in
    let d = g.S.Store.disk c.args.store.now in
    let e = g.S.Store.disk c.begin_upper.new.store in
    let upper = c.in_ok-upper.upper in
    let leaf = upper.leaf in
    let twice = upper.source in
    let r3 = behind_upper m c.args.merge.now d c.requires.files c.requires.plan leaf twice e c.in_ok-upper.ensures.begun in
    let f = g.S.Store.disk c.begin.new.store in
    let target = c.in_ok-target.target in
    let r4 = behind_target m c.args.merge.now d c.requires.files c.requires.plan leaf twice e r3 c.data_session-target_ids.result c.data_session-target_ids.ensures f c.begin.ensures.moments target c.in_ok-target.ensures.served c.in_ok-target.ensures.counts in
    let h = g.S.Store.disk c.begin_child.new.store in
    let child = c.in_ok-child.child in
    let r5 = behind_child m c.args.merge.now d c.requires.files c.requires.plan c.requires.child leaf twice target f r4 h c.begin_child.ensures.moments child c.in_ok-child.ensures.begun c.in_ok-child.ensures.counts in
    let z = g.S.Store.disk c.close.new.store in
    let closed = c.in_ok-source.source in
    record {
      begun = record {
        full = no_layers m c.args.merge.now d c.requires.files c.requires.plan leaf twice target child h r5 z c.close.ensures.moments c.in_ok-source.ensures.counts;
        made = λ room fits layers u are.
            begins_merge m c.args.merge.now d c.requires.files c.requires.plan leaf twice target child h r5 z c.close.ensures.moments closed c.in_ok-source.ensures.closed c.in_ok-source.ensures.counts c.in_ok-upper.ensures.begun.begun room fits c.requires.child c.in_ok-child.ensures.some
            (record { old = c.in_ok-upper.ensures.begun.first; was = c.in_ok-upper.ensures.begun.leaf_ready; counts = c.in_ok-upper.ensures.begun.leaf_counts; of = c.in_ok-upper.ensures.begun.leaf_is })
            (record { old = f; was = c.in_ok-target.ensures.ready; counts = r4.counts; of = c.in_ok-target.ensures.parts })
            (made_of_child m c.args.merge.now d c.requires.files c.requires.plan child h r5.counts c.in_ok-child.ensures.ready c.in_ok-child.ensures.parts)
            c.in_ok-upper.ensures.begun.source_is (c.in_ok-source.ensures.parts ∙ c.in_ok-upper.ensures.begun.linked_parts) c.in_ok-source.ensures.can layers u are.geometry are.top are.kept are.alone are.below are.place are.marks are.relinks;
      };
      err = tt;
    }

pub begin-requires-clause-low : goal.begin-requires-clause-low
begin-requires-clause-low g c = c.requires.low.target

pub begin_child-requires-clause-low : goal.begin_child-requires-clause-low
begin_child-requires-clause-low g c = c.requires.low.child
