use Rattle.std.proofs.Common.{◌+◌, ◌-◌, ◌*◌, arith, ap, subst, ◌∙◌, refl, length}
use Rattle.layer_session.specs.TablesRead.{HasRead}
use Rattle.layer_session.proofs.Owned.{adds_rest}
use Rattle.layer_session.proofs.Parted.{adds_again}
use Rattle.layer_session.proofs.Planned.{read_none, read_then}
use Rattle.vx_base.proofs.Handed.{failed_for, not_ok, ok_then}
use Rattle.layer_session.proofs.Handing.{fails_then, few_bytes, few_rows, front_in, stays_then}
use Rattle.table_pages.specs.declared.tables.TableParts.{TableParts}
use Rattle.layer_session.proofs.RunsRead.{end_at, fit_front, none_added, not_none, reads_rest, rest_smaller}
use Rattle.layer_session.proofs.Known.{end_fits}
use Rattle.layer_session.proofs.Finding.{found_none, found_then}
use Rattle.layer_session.proofs.reading.+own_missing.Goals as goal

pub returns-clause-reads : goal.returns-clause-reads
returns-clause-reads g n c =
    read_then c.args.tables.now c.add_run.new.tables c.own_missing.new.tables (g.S.Store.disk c.args.store.now) c.add_run.ensures.reads (subst (HasRead c.add_run.new.tables c.own_missing.new.tables) c.in_ok-add_run.ensures.stays c.own_missing.ensures.reads)

pub returns-clause-added : goal.returns-clause-added
returns-clause-added g n c =
    ok_then c.own_missing.result
    (λ added t told.
    let old = c.args.tables.now in
    let new = c.add_run.new.tables in
    let len = c.first_run-run.result.count in
    adds_rest _ old.parts.sector c.args.first len c.args.count c.args.at c.args.mask.now c.add_run.new.mask c.own_missing.new.mask c.args.out.now c.split_at_mut-piece.result.0.now c.add_run.new.out
    c.split_at_mut-piece.result.1.now c.own_missing.new.out c.first_run-run.ensures.most c.split_at_mut-piece.ensures.value (c.split_at_mut-piece.ensures.front_len ∙ ap (λ s. s * len) c.from.ensures) c.requires.room.bits
    (c.in_ok-add_run.ensures.added t told)
    (adds_again old new (g.S.Store.disk c.args.store.now) c.add_run.ensures.reads t (c.args.first + len) (c.args.count - len) (c.args.at + len) c.add_run.new.mask c.own_missing.new.mask c.split_at_mut-piece.result.1.now c.own_missing.new.out
    (added t (ap (λ d. d.told) c.in_ok-add_run.ensures.stays ∙ told))))
    c.own_missing.ensures.added

pub returns-in_err-add_run-clause-added : goal.returns-in_err-add_run-clause-added
returns-in_err-add_run-clause-added g n c = not_ok c.from_residual.result c.in_err-add_run.field-0.0 c.from_residual.ensures.1 _

pub returns-in_err-add_run-clause-stays : goal.returns-in_err-add_run-clause-stays
returns-in_err-add_run-clause-stays g n c = not_ok c.from_residual.result c.in_err-add_run.field-0.0 c.from_residual.ensures.1 _

pub returns-in_err-add_run-clause-err : goal.returns-in_err-add_run-clause-err
returns-in_err-add_run-clause-err g n c = failed_for c.from_residual.result c.in_err-add_run.field-0.0 c.from_residual.ensures.1 _ c.in_err-add_run.ensures.err

pub returns-then-count-eq0-clause-stays : goal.returns-then-count-eq0-clause-stays
returns-then-count-eq0-clause-stays g n c = refl

pub returns-in_err-add_run-clause-reads : goal.returns-in_err-add_run-clause-reads
returns-in_err-add_run-clause-reads g n c = c.add_run.ensures.reads

pub returns-then-count-eq0-clause-reads : goal.returns-then-count-eq0-clause-reads
returns-then-count-eq0-clause-reads g n c = read_none _ _ c.requires.readable.tables

pub returns-clause-stays : goal.returns-clause-stays
returns-clause-stays g n c = stays_then c.own_missing.result (g.S.Store.disk c.args.store.now) (g.S.Store.disk c.add_run.new.store) (g.S.Store.disk c.own_missing.new.store) c.in_ok-add_run.ensures.stays c.own_missing.ensures.stays

pub returns-clause-err : goal.returns-clause-err
returns-clause-err g n c = fails_then c.own_missing.result c.args.tables.now.parts.file c.add_run.new.tables.parts.file (g.S.Store.disk c.args.store.now) (g.S.Store.disk c.add_run.new.store) (g.S.Store.disk c.own_missing.new.store) c.in_ok-add_run.ensures.stays (ap (λ (p : TableParts). p.file) c.add_run.ensures.reads.as_held.parts_are) c.own_missing.ensures.err

pub split_at_mut-piece-requires : goal.split_at_mut-piece-requires
split_at_mut-piece-requires g n c = front_in c.from.result c.args.tables.now.parts.sector c.first_run-run.result.count c.args.count (length c.args.out.now) c.from.ensures c.first_run-run.ensures.most c.requires.room.bytes

pub add_run-requires-clause-readable : goal.add_run-requires-clause-readable
add_run-requires-clause-readable g n c = c.requires.readable

pub add_run-requires-clause-on_disk : goal.add_run-requires-clause-on_disk
add_run-requires-clause-on_disk g n c = few_rows c.args.first (c.first_run-run.result.count) c.args.count _ c.first_run-run.ensures.most c.requires.on_disk

pub overflow_sub-count : goal.overflow_sub-count
overflow_sub-count g n c = c.first_run-run.ensures.most

pub first_run-run-requires-clause-within : goal.first_run-run-requires-clause-within
first_run-run-requires-clause-within g n c = c.requires.room.bits

pub add_run-requires-clause-all : goal.add_run-requires-clause-all
add_run-requires-clause-all g n c = c.first_run-run.ensures.same

pub overflow_mul-from : goal.overflow_mul-from
overflow_mul-from g n c = let few = few_bytes c.from.result c.args.tables.now.parts.sector c.args.first c.first_run-run.result.count c.args.count c.args.tables.now.parts.sectors c.from.ensures c.first_run-run.ensures.most c.requires.on_disk c.requires.readable.tables.sizes.most in omega (arith, few)

pub own_missing-requires : goal.own_missing-requires
own_missing-requires g n c κs within =
    let asked = reads_rest c.args.tables.now c.add_run.new.tables (g.S.Store.disk c.args.store.now) (g.S.Store.disk c.add_run.new.store) c.add_run.ensures.reads c.in_ok-add_run.ensures.stays c.requires.readable c.args.first
    c.first_run-run.result.count c.args.count c.args.out.now c.split_at_mut-piece.result.0.now c.split_at_mut-piece.result.1.now c.args.mask.now c.add_run.new.mask c.args.at c.first_run-run.ensures.most c.requires.on_disk c.requires.room c.split_at_mut-piece.ensures.value
    (c.split_at_mut-piece.ensures.front_len ∙ ap (λ s. s * c.first_run-run.result.count) c.from.ensures) c.add_run.auto.mask in (rest_smaller c.first_run-run.result.count c.args.count n c.decreases c.first_run-run.ensures.some c.first_run-run.ensures.most, (within.0, (within.1, (asked.readable, (asked.on_disk, asked.room)))))

pub add_run-requires-clause-room : goal.add_run-requires-clause-room
add_run-requires-clause-room g n c =
    fit_front c.args.count c.first_run-run.result.count c.args.tables.now.parts.sector c.args.out.now c.split_at_mut-piece.result.0.now c.args.mask.now c.args.at c.first_run-run.ensures.most (c.split_at_mut-piece.ensures.front_len ∙ ap (λ s. s * c.first_run-run.result.count) c.from.ensures) c.requires.room

pub first_run-run-requires-clause-fits : goal.first_run-run-requires-clause-fits
first_run-run-requires-clause-fits g n c = c.requires.room.ends

pub overflow_add-first : goal.overflow_add-first
overflow_add-first g n c = end_fits c.args.tables.now.parts c.requires.readable.tables.sizes c.args.first c.first_run-run.result.count (few_rows c.args.first c.first_run-run.result.count c.args.count _ c.first_run-run.ensures.most c.requires.on_disk)

pub overflow_add-at : goal.overflow_add-at
overflow_add-at g n c = end_at c.args.at c.first_run-run.result.count c.args.count c.first_run-run.ensures.most c.requires.room.ends

pub returns-then-count-eq0-clause-err : goal.returns-then-count-eq0-clause-err
returns-then-count-eq0-clause-err g n c = tt

pub first_run-run-requires-clause-some : goal.first_run-run-requires-clause-some
first_run-run-requires-clause-some g n c = not_none c.args.count c.if-count-eq0.false

pub returns-then-count-eq0-clause-added : goal.returns-then-count-eq0-clause-added
returns-then-count-eq0-clause-added g n c = λ t told. none_added _ c.args.tables.now.parts.sector c.args.first c.args.count c.args.at c.args.mask.now c.args.out.now c.if-count-eq0.true

pub returns-clause-found : goal.returns-clause-found
returns-clause-found g n c = found_then c.args.mask.now c.add_run.new.mask c.own_missing.new.mask c.add_run.auto.mask c.add_run.ensures.found c.own_missing.ensures.found

pub returns-in_err-add_run-clause-found : goal.returns-in_err-add_run-clause-found
returns-in_err-add_run-clause-found g n c = c.add_run.ensures.found

pub returns-then-count-eq0-clause-found : goal.returns-then-count-eq0-clause-found
returns-then-count-eq0-clause-found g n c = found_none c.args.mask.now
