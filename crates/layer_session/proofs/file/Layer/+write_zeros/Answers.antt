use Rattle.std.proofs.Common.{◌-◌, ◌<◌, arith, sym, ap, subst, ◌∙◌, take, refl}
use Rattle.store_model.specs.Disk.{Disk, WhereBothTold}
use Rattle.layer_session.specs.Keeping.{IsReadable}
use Rattle.layer_session.specs.Taking.{HoldsBeside}
use Rattle.layer_session.proofs.Clearing.{broken_join, cleared_join, clears_join, clears_none, first_piece, piece_broken, piece_err, piece_ok, piece_readable, rest_unused, taken_zeros}
use Rattle.layer_session.proofs.Told.{err_map, ok_map, on_err}
use Rattle.vx_base.proofs.Handed.{failed_for, not_ok, ok_then}
use Rattle.store_model.specs.Plans.{FailsToChange}
use Rattle.layer_session.proofs.Known.{behind_change, counts_changed, few_of}
use Rattle.layer_session.proofs.file.Layer.+write_zeros.Goals as goal

pub returns-then-count-eq0-clause-moments : goal.returns-then-count-eq0-clause-moments
returns-then-count-eq0-clause-moments g t c =
    clears_none c.args.self.now c.args.place c.args.count (g.S.Store.disk c.args.store.now).told

pub slice_bounds-write-end : goal.slice_bounds-write-end
slice_bounds-write-end g t c =
    let long = taken_zeros c.min-len.result c.deref.result.now (c.deref.ensures.value ∙ c.requires.clear) (omega arith) in sym long.0

pub returns-in_err-write-clause-moments : goal.returns-in_err-write-clause-moments
returns-in_err-write-clause-moments g t c =
    let long = taken_zeros c.min-len.result c.deref.result.now (c.deref.ensures.value ∙ c.requires.clear) (omega arith) in
    piece_err c.args.self.now c.args.place (take c.min-len.result c.deref.result.now) (omega (arith, long.0)) c.args.count (omega (arith, long.0)) (g.S.Store.disk c.args.store.now) (g.S.Store.disk c.write.new.store) c.args.self.now.log.file c.requires.one_file c.in_err-write.field-0.0 c.in_err-write.ensures.err

pub returns-in_err-write-clause-broken : goal.returns-in_err-write-clause-broken
returns-in_err-write-clause-broken g t c =
    let long = taken_zeros c.min-len.result c.deref.result.now (c.deref.ensures.value ∙ c.requires.clear) (omega arith) in
    on_err c.from_residual.result _ (piece_broken c.args.self.now c.args.place (take c.min-len.result c.deref.result.now) (omega (arith, long.0)) c.args.count (omega (arith, long.0)) (g.S.Store.disk c.args.store.now) (g.S.Store.disk c.write.new.store) c.args.self.now.log.file c.requires.one_file c.in_err-write.field-0.0 c.requires.readable c.requires.unused c.in_err-write.ensures.err)

pub write_zeros-requires : goal.write_zeros-requires
write_zeros-requires g t c κs within =
    let long = taken_zeros c.min-len.result c.deref.result.now (c.deref.ensures.value ∙ c.requires.clear) (omega arith) in
    let first = first_piece c.args.self.now c.args.place c.min-len.result c.args.count c.saturating_add.result (take c.min-len.result c.deref.result.now) (g.S.Store.disk c.args.store.now) (g.S.Store.disk c.write.new.store) c.requires.one_file (omega arith) (omega arith) long c.requires.unused c.saturating_add.ensures c.in_ok-write.ensures.ok in
    let readable = piece_readable c.args.self.now (g.S.Store.disk c.args.store.now) (g.S.Store.disk c.write.new.store) c.args.place c.min-len.result c.args.count (omega arith) c.requires.readable (ap (λ (d : Disk). d.files) c.in_ok-write.ensures.ok) c.requires.unused first.cleared in
    let unused = rest_unused c.args.self.now c.args.place c.min-len.result c.args.count c.saturating_add.result (omega arith) (g.S.Store.disk c.args.store.now).told (g.S.Store.disk c.write.new.store).told (g.S.Store.disk c.write.new.store).told first.next_is c.requires.unused first.cleared in
    (omega arith, (within.0, (within.1, (readable, (c.requires.one_file, (c.requires.clear, unused))))))

pub returns-clause-moments : goal.returns-clause-moments
returns-clause-moments g t c =
    let long = taken_zeros c.min-len.result c.deref.result.now (c.deref.ensures.value ∙ c.requires.clear) (omega arith) in
    let first = first_piece c.args.self.now c.args.place c.min-len.result c.args.count c.saturating_add.result (take c.min-len.result c.deref.result.now) (g.S.Store.disk c.args.store.now) (g.S.Store.disk c.write.new.store) c.requires.one_file (omega arith) (omega arith) long c.requires.unused c.saturating_add.ensures c.in_ok-write.ensures.ok in
    clears_join c.args.self.now c.args.place c.min-len.result c.args.count c.saturating_add.result (omega arith) (g.S.Store.disk c.args.store.now).told (g.S.Store.disk c.write.new.store).told (g.S.Store.disk c.write_zeros.new.store).told first.next_is (piece_ok c.args.self.now c.args.place (take c.min-len.result c.deref.result.now) (omega (arith, long.0)) c.args.count (omega (arith, long.0)) (g.S.Store.disk c.args.store.now) (g.S.Store.disk c.write.new.store) c.args.self.now.log.file c.requires.one_file c.in_ok-write.ensures.ok) first.cleared c.write_zeros.ensures.moments

pub returns-clause-cleared : goal.returns-clause-cleared
returns-clause-cleared g t c =
    let long = taken_zeros c.min-len.result c.deref.result.now (c.deref.ensures.value ∙ c.requires.clear) (omega arith) in
    let first = first_piece c.args.self.now c.args.place c.min-len.result c.args.count c.saturating_add.result (take c.min-len.result c.deref.result.now) (g.S.Store.disk c.args.store.now) (g.S.Store.disk c.write.new.store) c.requires.one_file (omega arith) (omega arith) long c.requires.unused c.saturating_add.ensures c.in_ok-write.ensures.ok in
    ok_map c.write_zeros.result _ _ c.write_zeros.ensures.cleared (cleared_join c.args.self.now c.args.place c.min-len.result c.args.count c.saturating_add.result (omega arith) (g.S.Store.disk c.args.store.now).told (g.S.Store.disk c.write.new.store).told (g.S.Store.disk c.write_zeros.new.store).told first.next_is first.cleared)

pub returns-clause-broken : goal.returns-clause-broken
returns-clause-broken g t c =
    let long = taken_zeros c.min-len.result c.deref.result.now (c.deref.ensures.value ∙ c.requires.clear) (omega arith) in
    let first = first_piece c.args.self.now c.args.place c.min-len.result c.args.count c.saturating_add.result (take c.min-len.result c.deref.result.now) (g.S.Store.disk c.args.store.now) (g.S.Store.disk c.write.new.store) c.requires.one_file (omega arith) (omega arith) long c.requires.unused c.saturating_add.ensures c.in_ok-write.ensures.ok in
    let join = broken_join c.args.self.now c.args.place c.min-len.result c.args.count c.saturating_add.result (omega arith) (g.S.Store.disk c.args.store.now).told (g.S.Store.disk c.write.new.store).told (g.S.Store.disk c.write_zeros.new.store).told first.next_is first.cleared in
    err_map c.write_zeros.result (IsReadable c.args.self.now (g.S.Store.disk c.write_zeros.new.store) × WhereBothTold (HoldsBeside c.args.self.now c.saturating_add.result (c.args.count - c.min-len.result)) (g.S.Store.disk c.write.new.store).told (g.S.Store.disk c.write_zeros.new.store).told) _
    c.write_zeros.ensures.broken (λ b. (b.0, join b.1))

pub overflow_sub-count : goal.overflow_sub-count
overflow_sub-count g t c = few_of c.min-len.result c.args.count 1048576 c.min-len.ensures

pub returns-clause-counts : goal.returns-clause-counts
returns-clause-counts g t c = ok_then c.write_zeros.result (λ e. e ∙ ap (λ (d : Disk). record d { told = (g.S.Store.disk c.write_zeros.new.store).told }) c.in_ok-write.ensures.ok) c.write_zeros.ensures.counts

pub returns-clause-err : goal.returns-clause-err
returns-clause-err g t c = behind_change c.write_zeros.result c.args.self.now.tables.parts.file (g.S.Store.disk c.args.store.now) (g.S.Store.disk c.write.new.store) (g.S.Store.disk c.write_zeros.new.store) (counts_changed (g.S.Store.disk c.args.store.now) (g.S.Store.disk c.write.new.store) _ c.in_ok-write.ensures.ok) c.write_zeros.ensures.err

pub returns-in_err-write-clause-cleared : goal.returns-in_err-write-clause-cleared
returns-in_err-write-clause-cleared g t c = not_ok c.from_residual.result _ c.from_residual.ensures.1 _

pub returns-in_err-write-clause-counts : goal.returns-in_err-write-clause-counts
returns-in_err-write-clause-counts g t c = not_ok c.from_residual.result _ c.from_residual.ensures.1 _

pub returns-in_err-write-clause-err : goal.returns-in_err-write-clause-err
returns-in_err-write-clause-err g t c =
    let e = c.in_err-write.ensures.err in
    failed_for c.from_residual.result _ c.from_residual.ensures.1 _
    (subst (λ n. FailsToChange n (g.S.Store.disk c.args.store.now) (g.S.Store.disk c.write.new.store) c.in_err-write.field-0.0) c.requires.one_file (record { stays = e.stays; of_file = e.of_file; count = e.count }))

pub returns-then-count-eq0-clause-broken : goal.returns-then-count-eq0-clause-broken
returns-then-count-eq0-clause-broken g t c = tt

pub returns-then-count-eq0-clause-counts : goal.returns-then-count-eq0-clause-counts
returns-then-count-eq0-clause-counts g t c = refl

pub returns-then-count-eq0-clause-err : goal.returns-then-count-eq0-clause-err
returns-then-count-eq0-clause-err g t c = tt

pub write-requires-clause-there : goal.write-requires-clause-there
write-requires-clause-there g t c = subst (λ f. f < (g.S.Store.disk c.args.store.now).files) (sym c.requires.one_file) c.requires.readable.there
