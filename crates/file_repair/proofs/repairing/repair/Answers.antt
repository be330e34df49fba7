use Rattle.std.proofs.Common.{ℕ, Ok, Err, refl}
use Rattle.store_model.proofs.Plans.{fails}
use Rattle.file_open.proofs.Leaving.{still_opened}
use Rattle.file_repair.specs.Repaired.{repair_plan}
use Rattle.file_repair.specs.Repaired as spec
use Rattle.file_repair.specs.Repairing.{AnswersRepair, LeavesRepaired}
use Rattle.file_repair.specs.declared.refusal.RepairRefusal.TheVariants.{Open, Store}
use Rattle.file_repair.proofs.Joined.{answers_ready, change_leaves, draws_one, ended_after, handed_on, moments_after, moments_same, only_after, only_of, open_moments, ready_told, repaired_after}
use Rattle.file_repair.proofs.repairing.repair.Goals as goal

pub returns-in_err-parts-clause-moments : goal.returns-in_err-parts-clause-moments
returns-in_err-parts-clause-moments g c = open_moments c.args.file (g.S.Store.disk c.args.store.now).told (g.S.Store.disk c.open_file.new.store).told c.in_err-parts.ensures.moments

pub returns-in_err-parts-clause-answer : goal.returns-in_err-parts-clause-answer
returns-in_err-parts-clause-answer g c =
    handed_on (AnswersRepair c.args.file (g.I.Ids.drawn c.args.ids.now) (g.I.Ids.drawn c.args.ids.now) (g.S.Store.disk c.args.store.now).told (g.S.Store.disk c.open_file.new.store).told)
    c.from_residual.result (Open c.in_err-parts.field-0.0) c.from_residual.ensures.1 (refl, c.in_err-parts.ensures.opens)

-- ---- judged unfit, or a read that failed

pub returns-in_err-copies-clause-answer : goal.returns-in_err-copies-clause-answer
returns-in_err-copies-clause-answer g c =
    handed_on (AnswersRepair c.args.file (g.I.Ids.drawn c.args.ids.now) (g.I.Ids.drawn c.draw-id.new.ids) (g.S.Store.disk c.args.store.now).told (g.S.Store.disk c.ready.new.store).told)
    c.from_residual-in_err-copies.result c.in_err-copies.field-0.0 c.from_residual-in_err-copies.ensures.1
    (answers_ready ℕ c.args.file c.draw-id.result (g.I.Ids.drawn c.args.ids.now) (g.I.Ids.drawn c.draw-id.new.ids) (g.S.Store.disk c.args.store.now).told (g.S.Store.disk c.open_file.new.store).told (g.S.Store.disk c.ready.new.store).told
    c.in_ok-parts.parts c.in_err-copies.field-0.0 c.in_ok-parts.ensures.store.told c.in_ok-parts.ensures.opens c.in_err-copies.ensures.judged c.in_err-copies.ensures.err
    (draws_one c.draw-id.result (g.I.Ids.drawn c.args.ids.now) (g.I.Ids.drawn c.draw-id.new.ids) c.draw-id.ensures.id c.draw-id.ensures.told))

pub returns-in_err-copies-clause-only : goal.returns-in_err-copies-clause-only
returns-in_err-copies-clause-only g c =
    only_of c.args.file (g.S.Store.disk c.args.store.now).told (g.S.Store.disk c.open_file.new.store).told (g.S.Store.disk c.ready.new.store).told
    (ready_told ℕ c.args.file (g.S.Store.disk c.open_file.new.store) (g.S.Store.disk c.ready.new.store) c.in_err-copies.field-0.0 c.in_err-copies.ensures.store) c.in_ok-parts.ensures.kept

pub returns-in_err-copies-clause-moments : goal.returns-in_err-copies-clause-moments
returns-in_err-copies-clause-moments g c =
    moments_same c.args.file (g.S.Store.disk c.args.store.now).told (g.S.Store.disk c.open_file.new.store).told (g.S.Store.disk c.ready.new.store).told
    (ready_told ℕ c.args.file (g.S.Store.disk c.open_file.new.store) (g.S.Store.disk c.ready.new.store) c.in_err-copies.field-0.0 c.in_err-copies.ensures.store)
    (open_moments c.args.file (g.S.Store.disk c.args.store.now).told (g.S.Store.disk c.open_file.new.store).told c.in_ok-parts.ensures.moments)

-- ---- rewriting

pub returns-in_err-rewrite-clause-store : goal.returns-in_err-rewrite-clause-store
returns-in_err-rewrite-clause-store g c =
    handed_on (LeavesRepaired c.args.file (g.S.Store.disk c.args.store.now) (g.S.Store.disk c.rewrite.new.store)) c.from_residual-in_err-rewrite.result (Store c.in_err-rewrite.field-0.0) c.from_residual-in_err-rewrite.ensures.1
    (change_leaves c.args.file (g.S.Store.disk c.args.store.now) (g.S.Store.disk c.ready.new.store) (g.S.Store.disk c.rewrite.new.store) c.in_err-rewrite.field-0.0
    (still_opened c.args.file (g.S.Store.disk c.args.store.now) (g.S.Store.disk c.open_file.new.store) (g.S.Store.disk c.ready.new.store) c.in_ok-parts.ensures.store c.in_ok-copies.ensures.store)
    (fails c.args.file (g.S.Store.disk c.rewrite.new.store) c.in_err-rewrite.field-0.0 c.in_err-rewrite.ensures.err))

pub returns-in_err-rewrite-clause-only : goal.returns-in_err-rewrite-clause-only
returns-in_err-rewrite-clause-only g c =
    only_after c.args.file (g.S.Store.disk c.args.store.now) (g.S.Store.disk c.open_file.new.store) (g.S.Store.disk c.ready.new.store) (g.S.Store.disk c.rewrite.new.store) c.in_ok-copies.ensures.store c.in_ok-parts.ensures.kept
    (repair_plan (spec.repaired_header c.in_ok-parts.parts.header c.draw-id.result) c.as_slice.result.now) (Err c.in_err-rewrite.field-0.0) tt c.in_err-rewrite.ensures.err

pub returns-in_err-rewrite-clause-moments : goal.returns-in_err-rewrite-clause-moments
returns-in_err-rewrite-clause-moments g c =
    moments_after c.args.file (g.S.Store.disk c.args.store.now) (g.S.Store.disk c.open_file.new.store) (g.S.Store.disk c.ready.new.store) (g.S.Store.disk c.rewrite.new.store)
    c.in_ok-copies.ensures.store c.in_ok-parts.parts c.in_ok-parts.ensures.store c.in_ok-parts.ensures.opens c.in_ok-parts.ensures.numbers c.in_ok-parts.ensures.moments
    (repair_plan (spec.repaired_header c.in_ok-parts.parts.header c.draw-id.result) c.as_slice.result.now) (Err c.in_err-rewrite.field-0.0) tt c.in_err-rewrite.ensures.err c.in_err-rewrite.ensures.moments

-- ---- repaired

pub returns-clause-store : goal.returns-clause-store
returns-clause-store g c =
    ended_after c.args.file (g.S.Store.disk c.args.store.now) (g.S.Store.disk c.open_file.new.store) (g.S.Store.disk c.ready.new.store) (g.S.Store.disk c.rewrite.new.store) c.in_ok-copies.ensures.store c.in_ok-parts.ensures.store
    (spec.repaired_header c.in_ok-parts.parts.header c.draw-id.result) c.as_slice.result.now c.in_ok-rewrite.ensures.ok

pub returns-clause-answer : goal.returns-clause-answer
returns-clause-answer g c = (
  c.draw-id.result,
  draws_one c.draw-id.result (g.I.Ids.drawn c.args.ids.now) (g.I.Ids.drawn c.draw-id.new.ids) c.draw-id.ensures.id c.draw-id.ensures.told,
  repaired_after c.args.file (g.S.Store.disk c.args.store.now) (g.S.Store.disk c.open_file.new.store) (g.S.Store.disk c.ready.new.store) (g.S.Store.disk c.rewrite.new.store)
      c.in_ok-copies.ensures.store c.in_ok-parts.parts c.in_ok-parts.ensures.store c.in_ok-parts.ensures.opens c.in_ok-parts.ensures.numbers c.draw-id.result c.in_ok-copies.ensures.judged c.in_ok-rewrite.ensures.repaired,
)

pub returns-in_err-rewrite-clause-answer : goal.returns-in_err-rewrite-clause-answer
returns-in_err-rewrite-clause-answer g c =
    handed_on (AnswersRepair c.args.file (g.I.Ids.drawn c.args.ids.now) (g.I.Ids.drawn c.draw-id.new.ids) (g.S.Store.disk c.args.store.now).told (g.S.Store.disk c.rewrite.new.store).told)
    c.from_residual-in_err-rewrite.result (Store c.in_err-rewrite.field-0.0) c.from_residual-in_err-rewrite.ensures.1
    (c.draw-id.result, draws_one c.draw-id.result (g.I.Ids.drawn c.args.ids.now) (g.I.Ids.drawn c.draw-id.new.ids) c.draw-id.ensures.id c.draw-id.ensures.told)

pub returns-clause-only : goal.returns-clause-only
returns-clause-only g c =
    only_after c.args.file (g.S.Store.disk c.args.store.now) (g.S.Store.disk c.open_file.new.store) (g.S.Store.disk c.ready.new.store) (g.S.Store.disk c.rewrite.new.store) c.in_ok-copies.ensures.store c.in_ok-parts.ensures.kept
    (repair_plan (spec.repaired_header c.in_ok-parts.parts.header c.draw-id.result) c.as_slice.result.now) (Ok c.in_ok-rewrite.field-0) c.in_ok-rewrite.ensures.ok tt

pub returns-clause-moments : goal.returns-clause-moments
returns-clause-moments g c =
    moments_after c.args.file (g.S.Store.disk c.args.store.now) (g.S.Store.disk c.open_file.new.store) (g.S.Store.disk c.ready.new.store) (g.S.Store.disk c.rewrite.new.store)
    c.in_ok-copies.ensures.store c.in_ok-parts.parts c.in_ok-parts.ensures.store c.in_ok-parts.ensures.opens c.in_ok-parts.ensures.numbers c.in_ok-parts.ensures.moments
    (repair_plan (spec.repaired_header c.in_ok-parts.parts.header c.draw-id.result) c.as_slice.result.now) (Ok c.in_ok-rewrite.field-0) c.in_ok-rewrite.ensures.ok tt c.in_ok-rewrite.ensures.moments
