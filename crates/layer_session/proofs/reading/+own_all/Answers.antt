use Rattle.std.proofs.Common.{◌+◌, ◌-◌, ◌*◌, arith, ap, subst, ◌∙◌, refl, length}
use Rattle.layer_session.specs.TablesRead.{HasRead}
use Rattle.layer_session.proofs.Owned.{owned_rest}
use Rattle.layer_session.proofs.Parted.{owned_again}
use Rattle.layer_session.proofs.Planned.{read_none, read_then}
use Rattle.table_pages.specs.declared.tables.TableParts.{TableParts}
use Rattle.vx_base.proofs.Handed.{failed_for, not_ok, ok_then}
use Rattle.layer_session.proofs.Handing.{fails_then, few_bytes, few_rows, front_in, none_owned, stays_then}
use Rattle.layer_session.proofs.RunsRead.{end_at, fit_front, not_none, reads_rest, rest_smaller}
use Rattle.layer_session.proofs.Known.{end_fits}
use Rattle.layer_session.proofs.Sectors.{first_below}
use Rattle.layer_session.proofs.Finding.{others_front, others_none, others_then}
use Rattle.layer_session.proofs.reading.+own_all.Goals as goal

pub returns-clause-reads : goal.returns-clause-reads
returns-clause-reads g n c =
    read_then c.args.tables.now c.own_run.new.tables c.own_all.new.tables (g.S.Store.disk c.args.store.now) c.own_run.ensures.reads (subst (HasRead c.own_run.new.tables c.own_all.new.tables) c.in_ok-own_run.ensures.stays c.own_all.ensures.reads)

pub returns-clause-owned : goal.returns-clause-owned
returns-clause-owned g n c =
    ok_then c.own_all.result
    (λ owned t told.
    let old = c.args.tables.now in
    let new = c.own_run.new.tables in
    let len = c.run_in_block-len.result in
    owned_rest _ old.parts.sector c.args.first len c.args.count c.args.at c.args.mask.now c.own_run.new.mask c.own_all.new.mask c.args.out.now c.split_at_mut-run.result.0.now c.own_run.new.out
    c.split_at_mut-run.result.1.now c.own_all.new.out c.run_in_block-len.ensures.most c.split_at_mut-run.ensures.value (c.split_at_mut-run.ensures.front_len ∙ ap (λ s. s * len) c.from.ensures) c.requires.room.bits (c.in_ok-own_run.ensures.owned t told)
    (owned_again old new (g.S.Store.disk c.args.store.now) c.own_run.ensures.reads t (c.args.first + len) (c.args.count - len) (c.args.at + len) c.own_run.new.mask c.own_all.new.mask c.split_at_mut-run.result.1.now c.own_all.new.out
    (owned t (ap (λ d. d.told) c.in_ok-own_run.ensures.stays ∙ told))))
    c.own_all.ensures.owned

pub returns-in_err-own_run-clause-owned : goal.returns-in_err-own_run-clause-owned
returns-in_err-own_run-clause-owned g n c = not_ok c.from_residual.result c.in_err-own_run.field-0.0 c.from_residual.ensures.1 _

pub returns-in_err-own_run-clause-stays : goal.returns-in_err-own_run-clause-stays
returns-in_err-own_run-clause-stays g n c = not_ok c.from_residual.result c.in_err-own_run.field-0.0 c.from_residual.ensures.1 _

pub returns-in_err-own_run-clause-err : goal.returns-in_err-own_run-clause-err
returns-in_err-own_run-clause-err g n c = failed_for c.from_residual.result c.in_err-own_run.field-0.0 c.from_residual.ensures.1 _ c.in_err-own_run.ensures.err

pub returns-in_err-own_run-clause-reads : goal.returns-in_err-own_run-clause-reads
returns-in_err-own_run-clause-reads g n c = c.own_run.ensures.reads

pub returns-then-count-eq0-clause-reads : goal.returns-then-count-eq0-clause-reads
returns-then-count-eq0-clause-reads g n c = read_none _ _ c.requires.readable.tables

pub returns-then-count-eq0-clause-stays : goal.returns-then-count-eq0-clause-stays
returns-then-count-eq0-clause-stays g n c = refl

pub returns-clause-stays : goal.returns-clause-stays
returns-clause-stays g n c = stays_then c.own_all.result (g.S.Store.disk c.args.store.now) (g.S.Store.disk c.own_run.new.store) (g.S.Store.disk c.own_all.new.store) c.in_ok-own_run.ensures.stays c.own_all.ensures.stays

pub returns-clause-err : goal.returns-clause-err
returns-clause-err g n c = fails_then c.own_all.result c.args.tables.now.parts.file c.own_run.new.tables.parts.file (g.S.Store.disk c.args.store.now) (g.S.Store.disk c.own_run.new.store) (g.S.Store.disk c.own_all.new.store) c.in_ok-own_run.ensures.stays (ap (λ (p : TableParts). p.file) c.own_run.ensures.reads.as_held.parts_are) c.own_all.ensures.err

pub split_at_mut-run-requires : goal.split_at_mut-run-requires
split_at_mut-run-requires g n c = front_in c.from.result c.args.tables.now.parts.sector c.run_in_block-len.result c.args.count (length c.args.out.now) c.from.ensures c.run_in_block-len.ensures.most c.requires.room.bytes

pub own_run-requires-clause-readable : goal.own_run-requires-clause-readable
own_run-requires-clause-readable g n c = c.requires.readable

pub run_in_block-len-requires-clause-parts : goal.run_in_block-len-requires-clause-parts
run_in_block-len-requires-clause-parts g n c = c.requires.readable.tables.sizes

pub overflow_sub-count : goal.overflow_sub-count
overflow_sub-count g n c = c.run_in_block-len.ensures.most

pub overflow_mul-from : goal.overflow_mul-from
overflow_mul-from g n c = let few = few_bytes c.from.result c.args.tables.now.parts.sector c.args.first c.run_in_block-len.result c.args.count c.args.tables.now.parts.sectors c.from.ensures c.run_in_block-len.ensures.most c.requires.on_disk c.requires.readable.tables.sizes.most in omega (arith, few)

pub returns-then-count-eq0-clause-owned : goal.returns-then-count-eq0-clause-owned
returns-then-count-eq0-clause-owned g n c = λ t told. none_owned _ c.args.tables.now.parts.sector c.args.first c.args.count c.args.at c.args.mask.now c.args.out.now c.if-count-eq0.true

pub own_all-requires : goal.own_all-requires
own_all-requires g n c κs within =
    let asked = reads_rest c.args.tables.now c.own_run.new.tables (g.S.Store.disk c.args.store.now) (g.S.Store.disk c.own_run.new.store) c.own_run.ensures.reads c.in_ok-own_run.ensures.stays c.requires.readable c.args.first
    c.run_in_block-len.result c.args.count c.args.out.now c.split_at_mut-run.result.0.now c.split_at_mut-run.result.1.now c.args.mask.now c.own_run.new.mask c.args.at c.run_in_block-len.ensures.most c.requires.on_disk c.requires.room c.split_at_mut-run.ensures.value
    (c.split_at_mut-run.ensures.front_len ∙ ap (λ s. s * c.run_in_block-len.result) c.from.ensures) c.own_run.auto.mask in (rest_smaller c.run_in_block-len.result c.args.count n c.decreases c.run_in_block-len.ensures.some c.run_in_block-len.ensures.most, (within.0, (within.1, (asked.readable, (asked.on_disk, asked.room)))))

pub own_run-requires-clause-room : goal.own_run-requires-clause-room
own_run-requires-clause-room g n c =
    fit_front c.args.count c.run_in_block-len.result c.args.tables.now.parts.sector c.args.out.now c.split_at_mut-run.result.0.now c.args.mask.now c.args.at c.run_in_block-len.ensures.most (c.split_at_mut-run.ensures.front_len ∙ ap (λ s. s * c.run_in_block-len.result) c.from.ensures) c.requires.room

pub own_run-requires-clause-some : goal.own_run-requires-clause-some
own_run-requires-clause-some g n c = c.run_in_block-len.ensures.some

pub own_run-requires-clause-block : goal.own_run-requires-clause-block
own_run-requires-clause-block g n c = record { on_disk = few_rows c.args.first c.run_in_block-len.result c.args.count _ c.run_in_block-len.ensures.most c.requires.on_disk; run = c.run_in_block-len.ensures.inside }

pub overflow_add-first : goal.overflow_add-first
overflow_add-first g n c = end_fits c.args.tables.now.parts c.requires.readable.tables.sizes c.args.first c.run_in_block-len.result (few_rows c.args.first c.run_in_block-len.result c.args.count _ c.run_in_block-len.ensures.most c.requires.on_disk)

pub overflow_add-at : goal.overflow_add-at
overflow_add-at g n c = end_at c.args.at c.run_in_block-len.result c.args.count c.run_in_block-len.ensures.most c.requires.room.ends

pub returns-then-count-eq0-clause-err : goal.returns-then-count-eq0-clause-err
returns-then-count-eq0-clause-err g n c = tt

pub run_in_block-len-requires-clause-count : goal.run_in_block-len-requires-clause-count
run_in_block-len-requires-clause-count g n c = not_none c.args.count c.if-count-eq0.false

pub run_in_block-len-requires-clause-first : goal.run_in_block-len-requires-clause-first
run_in_block-len-requires-clause-first g n c = first_below c.args.first c.args.count c.args.tables.now.parts.sectors (not_none c.args.count c.if-count-eq0.false) c.requires.on_disk

pub returns-clause-others : goal.returns-clause-others
returns-clause-others g n c =
    others_then c.args.at c.run_in_block-len.result c.args.count c.args.mask.now c.own_run.new.mask c.own_all.new.mask c.run_in_block-len.ensures.most c.own_run.auto.mask c.own_run.ensures.others c.own_all.ensures.others

pub returns-in_err-own_run-clause-others : goal.returns-in_err-own_run-clause-others
returns-in_err-own_run-clause-others g n c = others_front c.args.at c.run_in_block-len.result c.args.count c.args.mask.now c.own_run.new.mask c.run_in_block-len.ensures.most c.own_run.ensures.others

pub returns-then-count-eq0-clause-others : goal.returns-then-count-eq0-clause-others
returns-then-count-eq0-clause-others g n c = others_none c.args.at c.args.count c.args.mask.now
