use Rattle.std.specs.Prelude.{Err, IfErr}
use Rattle.store_model.specs.declared.fault.SealFault.{SealFault}
use Rattle.chain_core.specs.MergeStarting.{BeginsMerge, files_in}
use Rattle.chain_core.proofs.MergeAsked.{source_numbers}
use Rattle.chain_core.proofs.MergeBegun.{begun_upper, behind_source, behind_top, leaf_numbered, leaf_ready, locator_stops, source_ready, source_stops, source_within, top_stops, twice_turns, many_files}
use Rattle.vx_base.proofs.Handed.{handed, not_if_ok}
use Rattle.chain_core.proofs.Numbers.{few_pages, first_low, some_files}
use Rattle.std.proofs.Common.{◌≤◌, ◌-◌, ◌^◌, ap, length, subst, sym}
use Rattle.link_rules.specs.declared.linked.LinkedFile.{LinkedFile}
use Rattle.log_format.specs.PendingPages.{HasOnePageEach}
use Rattle.chain_core.proofs.merge_start.begin_upper.Goals as goal

pub begin-requires-clause-numbers : goal.begin-requires-clause-numbers
begin-requires-clause-numbers g c =
    let m = files_in c.args.of in
    let d = g.S.Store.disk c.args.store.now in
    leaf_numbered m c.args.merge.now d c.requires.files c.requires.plan c.leaf_of-top.result.now c.data_session-leaf_ids.result c.leaf_of-top.ensures c.data_session-leaf_ids.ensures

pub begin-requires-clause-ready : goal.begin-requires-clause-ready
begin-requires-clause-ready g c =
    let m = files_in c.args.of in
    let d = g.S.Store.disk c.args.store.now in
    leaf_ready m c.args.merge.now d c.requires.files c.requires.plan c.leaf_of-top.result.now c.data_session-leaf_ids.result c.leaf_of-top.ensures c.data_session-leaf_ids.ensures

pub returns-in_err-leaf : goal.returns-in_err-leaf
returns-in_err-leaf g c =
    let m = files_in c.args.of in
    let d = g.S.Store.disk c.args.store.now in
    let a = g.S.Store.disk c.begin.new.store in
    record {
      begun = not_if_ok c.from_residual.result _ c.from_residual.ensures.1 _;
      err = handed (λ answer. IfErr answer (λ (fault : SealFault). BeginsMerge m c.args.merge.now d a (Err fault))) c.from_residual.result c.in_err-leaf.field-0.0 c.from_residual.ensures
          (top_stops m c.args.merge.now d c.requires.files c.requires.plan c.leaf_of-top.result.now c.data_session-leaf_ids.result c.leaf_of-top.ensures c.data_session-leaf_ids.ensures a c.begin.ensures.moments c.in_err-leaf.field-0.0 c.in_err-leaf.ensures.err);
    }

pub begin-requires-2-clause-numbers : goal.begin-requires-2-clause-numbers
begin-requires-2-clause-numbers g c =
    let m = files_in c.args.of in
    let d = g.S.Store.disk c.args.store.now in
    source_numbers m c.args.merge.now d c.requires.files c.requires.plan

pub begin-requires-2-clause-there : goal.begin-requires-2-clause-there
begin-requires-2-clause-there g c =
    let m = files_in c.args.of in
    let d = g.S.Store.disk c.args.store.now in
    let a = g.S.Store.disk c.begin.new.store in
    let leaf = c.in_ok-leaf.leaf in
    let r1 = behind_top m c.args.merge.now d c.requires.files c.requires.plan c.leaf_of-top.result.now c.data_session-leaf_ids.result c.leaf_of-top.ensures c.data_session-leaf_ids.ensures a c.begin.ensures.moments leaf c.in_ok-leaf.ensures.served c.in_ok-leaf.ensures.counts in
    source_within m c.args.merge.now d c.requires.files c.requires.plan leaf a r1 c.log_session-source_ids.result c.log_session-source_ids.ensures

pub begin-requires-2-clause-ready : goal.begin-requires-2-clause-ready
begin-requires-2-clause-ready g c =
    let m = files_in c.args.of in
    let d = g.S.Store.disk c.args.store.now in
    let a = g.S.Store.disk c.begin.new.store in
    let leaf = c.in_ok-leaf.leaf in
    let r1 = behind_top m c.args.merge.now d c.requires.files c.requires.plan c.leaf_of-top.result.now c.data_session-leaf_ids.result c.leaf_of-top.ensures c.data_session-leaf_ids.ensures a c.begin.ensures.moments leaf c.in_ok-leaf.ensures.served c.in_ok-leaf.ensures.counts in
    source_ready m c.args.merge.now d c.requires.files c.requires.plan leaf a r1 c.log_session-source_ids.result c.log_session-source_ids.ensures

pub returns-in_err-source : goal.returns-in_err-source
returns-in_err-source g c =
    let m = files_in c.args.of in
    let d = g.S.Store.disk c.args.store.now in
    let a = g.S.Store.disk c.begin.new.store in
    let leaf = c.in_ok-leaf.leaf in
    let r1 = behind_top m c.args.merge.now d c.requires.files c.requires.plan c.leaf_of-top.result.now c.data_session-leaf_ids.result c.leaf_of-top.ensures c.data_session-leaf_ids.ensures a c.begin.ensures.moments leaf c.in_ok-leaf.ensures.served c.in_ok-leaf.ensures.counts in
    let b = g.S.Store.disk c.begin-2.new.store in
    record {
      begun = not_if_ok c.from_residual-in_err-source.result _ c.from_residual-in_err-source.ensures.1 _;
      err = handed (λ answer. IfErr answer (λ (fault : SealFault). BeginsMerge m c.args.merge.now d b (Err fault))) c.from_residual-in_err-source.result c.in_err-source.field-0.0 c.from_residual-in_err-source.ensures
          (source_stops m c.args.merge.now d c.requires.files c.requires.plan leaf a r1 c.log_session-source_ids.result c.log_session-source_ids.ensures b c.begin-2.ensures.moments c.in_err-source.field-0.0 c.in_err-source.ensures.err);
    }

pub link_twice-requires-clause-turns : goal.link_twice-requires-clause-turns
link_twice-requires-clause-turns g c =
    let m = files_in c.args.of in
    let d = g.S.Store.disk c.args.store.now in
    let a = g.S.Store.disk c.begin.new.store in
    let leaf = c.in_ok-leaf.leaf in
    let r1 = behind_top m c.args.merge.now d c.requires.files c.requires.plan c.leaf_of-top.result.now c.data_session-leaf_ids.result c.leaf_of-top.ensures c.data_session-leaf_ids.ensures a c.begin.ensures.moments leaf c.in_ok-leaf.ensures.served c.in_ok-leaf.ensures.counts in
    let b = g.S.Store.disk c.begin-2.new.store in
    let source = c.in_ok-source.source in
    let r2 = behind_source m c.args.merge.now d c.requires.files c.requires.plan leaf a r1 c.log_session-source_ids.result c.log_session-source_ids.ensures b c.begin-2.ensures.moments source c.in_ok-source.ensures.served c.in_ok-source.ensures.counts in
    twice_turns m c.args.merge.now d c.requires.files c.requires.plan leaf source b r2 c.in_ok-source.ensures.parts c.as_slice.result.now c.as_slice.ensures.pages

pub returns-in_err-link_twice : goal.returns-in_err-link_twice
returns-in_err-link_twice g c =
    let m = files_in c.args.of in
    let d = g.S.Store.disk c.args.store.now in
    let a = g.S.Store.disk c.begin.new.store in
    let leaf = c.in_ok-leaf.leaf in
    let r1 = behind_top m c.args.merge.now d c.requires.files c.requires.plan c.leaf_of-top.result.now c.data_session-leaf_ids.result c.leaf_of-top.ensures c.data_session-leaf_ids.ensures a c.begin.ensures.moments leaf c.in_ok-leaf.ensures.served c.in_ok-leaf.ensures.counts in
    let b = g.S.Store.disk c.begin-2.new.store in
    let source = c.in_ok-source.source in
    let r2 = behind_source m c.args.merge.now d c.requires.files c.requires.plan leaf a r1 c.log_session-source_ids.result c.log_session-source_ids.ensures b c.begin-2.ensures.moments source c.in_ok-source.ensures.served c.in_ok-source.ensures.counts in
    let e = g.S.Store.disk c.link_twice.new.store in
    record {
      begun = not_if_ok c.from_residual-in_err-link_twice.result _ c.from_residual-in_err-link_twice.ensures.1 _;
      err = handed (λ answer. IfErr answer (λ (fault : SealFault). BeginsMerge m c.args.merge.now d e (Err fault))) c.from_residual-in_err-link_twice.result c.in_err-link_twice.field-0.0 c.from_residual-in_err-link_twice.ensures
          (locator_stops m c.args.merge.now d c.requires.files c.requires.plan leaf source b r2 c.in_ok-source.ensures.parts c.as_slice.result.now c.as_slice.ensures.pages e c.link_twice.ensures.moments c.in_err-link_twice.field-0.0 c.in_err-link_twice.ensures.err);
    }

pub returns : goal.returns
returns g c =
    let m = files_in c.args.of in
    let d = g.S.Store.disk c.args.store.now in
    record {
      begun = begun_upper m c.args.merge.now d c.requires.files c.requires.plan c.leaf_of-top.result.now c.leaf_of-top.ensures c.data_session-leaf_ids.result c.log_session-source_ids.result c.data_session-leaf_ids.ensures
          c.log_session-source_ids.ensures c.as_slice.result.now c.as_slice.ensures.pages c.in_ok-leaf.leaf c.in_ok-source.source c.link_twice.new.source
          (g.S.Store.disk c.begin.new.store) (g.S.Store.disk c.begin-2.new.store) (g.S.Store.disk c.link_twice.new.store) c.begin.ensures.moments c.in_ok-leaf.ensures.served c.in_ok-leaf.ensures.ready c.in_ok-leaf.ensures.parts
          c.in_ok-leaf.ensures.counts c.begin-2.ensures.moments c.in_ok-source.ensures.served c.in_ok-source.ensures.parts c.in_ok-source.ensures.counts c.link_twice.ensures.moments c.in_ok-link_twice.ensures.updated
          c.in_ok-link_twice.ensures.ready c.link_twice.ensures.parts c.link_twice.ensures.number c.in_ok-link_twice.ensures.counts;
      err = tt;
    }

pub begin-requires-clause-there : goal.begin-requires-clause-there
begin-requires-clause-there g c =
    let m = files_in c.args.of in
    let d = g.S.Store.disk c.args.store.now in
    some_files (length m.above) (length m.below) d.files (many_files m c.args.merge.now d c.requires.files c.requires.plan)

pub begin-requires-clause-low : goal.begin-requires-clause-low
begin-requires-clause-low g c = subst (λ (f : LinkedFile). f.parts.header.number ≤ 2 ^ 64 - 2 ^ 32) (sym c.leaf_of-top.ensures) c.requires.low.leaf

pub begin-requires-2-clause-low : goal.begin-requires-2-clause-low
begin-requires-2-clause-low g c = c.requires.low.source

pub link_twice-requires-clause-ready : goal.link_twice-requires-clause-ready
link_twice-requires-clause-ready g c = c.in_ok-source.ensures.ready

pub link_twice-requires-clause-empty : goal.link_twice-requires-clause-empty
link_twice-requires-clause-empty g c = c.in_ok-source.ensures.empty

pub link_twice-requires-clause-numbers : goal.link_twice-requires-clause-numbers
link_twice-requires-clause-numbers g c = first_low c.in_ok-source.source.log.number c.in_ok-source.ensures.parts.first

pub link_twice-requires-clause-few : goal.link_twice-requires-clause-few
link_twice-requires-clause-few g c = few_pages (length c.args.merge.now.twice) (length c.as_slice.result.now) c.requires.plan.twice.has.few (ap length c.as_slice.ensures.pages)

pub link_twice-requires-clause-apart : goal.link_twice-requires-clause-apart
link_twice-requires-clause-apart g c = subst HasOnePageEach (sym c.as_slice.ensures.pages) c.as_slice.ensures.apart
