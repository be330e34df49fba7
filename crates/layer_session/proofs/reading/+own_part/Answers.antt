use Rattle.std.specs.Prelude.{min}
use Rattle.std.proofs.Common.{◌^◌, ◌+◌, ◌-◌, ◌*◌, length, arith, ap, subst, ◌∙◌, refl}
use Rattle.table_pages.specs.declared.tables.TableParts.{TableParts}
use Rattle.layer_session.specs.TablesRead.{HasRead}
use Rattle.layer_session.proofs.Owned.{owned_rest}
use Rattle.layer_session.proofs.Parted.{owned_again}
use Rattle.layer_session.proofs.Planned.{read_none, read_then}
use Rattle.layer_session.proofs.RunsRead.{bitmap_front, bitmap_rest, byte_small, end_at, fit_front, not_none, once_bits, once_few, once_some, part_behind, part_first, reads_rest, rest_smaller}
use Rattle.vx_base.proofs.Handed.{failed_for, not_ok, ok_then}
use Rattle.layer_session.proofs.Handing.{fails_then, few_bytes, few_rows, front_in, none_owned, stays_then}
use Rattle.layer_session.proofs.Known.{end_fits}
use Rattle.layer_session.proofs.Finding.{others_front, others_none, others_then}
use Rattle.layer_session.proofs.reading.+own_part.Goals as goal

pub returns-clause-reads : goal.returns-clause-reads
returns-clause-reads g n c =
    read_then c.args.tables.now c.own_few.new.tables c.own_part.new.tables (g.S.Store.disk c.args.store.now) c.own_few.ensures.reads
    (subst (HasRead c.own_few.new.tables c.own_part.new.tables) c.in_ok-own_few.ensures.stays c.own_part.ensures.reads)

pub returns-clause-owned : goal.returns-clause-owned
returns-clause-owned g n c =
    ok_then c.own_part.result
    (λ owned t told.
    let old = c.args.tables.now in
    let new = c.own_few.new.tables in
    let disk = g.S.Store.disk c.args.store.now in
    let len = c.min-len.result in
    let few = once_few c.args.first c.args.count c.min-len.result c.min-len.ensures in
    owned_rest _ old.parts.sector c.args.first len c.args.count c.args.at c.args.mask.now c.own_few.new.mask c.own_part.new.mask c.args.out.now c.split_at_mut-piece.result.0.now c.own_few.new.out
    c.split_at_mut-piece.result.1.now c.own_part.new.out few c.split_at_mut-piece.ensures.value (c.split_at_mut-piece.ensures.front_len ∙ ap (λ s. s * len) c.from.ensures) c.requires.room.bits (c.in_ok-own_few.ensures.owned t told)
    (owned_again old new disk c.own_few.ensures.reads t (c.args.first + len) (c.args.count - len) (c.args.at + len) c.own_few.new.mask c.own_part.new.mask c.split_at_mut-piece.result.1.now c.own_part.new.out
    (owned t (ap (λ d. d.told) c.in_ok-own_few.ensures.stays ∙ told))))
    c.own_part.ensures.owned

pub returns-in_err-own_few-clause-owned : goal.returns-in_err-own_few-clause-owned
returns-in_err-own_few-clause-owned g n c = not_ok c.from_residual.result c.in_err-own_few.field-0.0 c.from_residual.ensures.1 _

pub returns-in_err-own_few-clause-stays : goal.returns-in_err-own_few-clause-stays
returns-in_err-own_few-clause-stays g n c = not_ok c.from_residual.result c.in_err-own_few.field-0.0 c.from_residual.ensures.1 _

pub returns-in_err-own_few-clause-err : goal.returns-in_err-own_few-clause-err
returns-in_err-own_few-clause-err g n c = failed_for c.from_residual.result c.in_err-own_few.field-0.0 c.from_residual.ensures.1 _ c.in_err-own_few.ensures.err

pub returns-then-count-eq0-clause-stays : goal.returns-then-count-eq0-clause-stays
returns-then-count-eq0-clause-stays g n c = refl

pub returns-in_err-own_few-clause-reads : goal.returns-in_err-own_few-clause-reads
returns-in_err-own_few-clause-reads g n c = c.own_few.ensures.reads

pub returns-then-count-eq0-clause-reads : goal.returns-then-count-eq0-clause-reads
returns-then-count-eq0-clause-reads g n c = read_none _ _ c.requires.readable.tables

pub returns-clause-stays : goal.returns-clause-stays
returns-clause-stays g n c = stays_then c.own_part.result (g.S.Store.disk c.args.store.now) (g.S.Store.disk c.own_few.new.store) (g.S.Store.disk c.own_part.new.store) c.in_ok-own_few.ensures.stays c.own_part.ensures.stays

pub returns-clause-err : goal.returns-clause-err
returns-clause-err g n c = fails_then c.own_part.result c.args.tables.now.parts.file c.own_few.new.tables.parts.file (g.S.Store.disk c.args.store.now) (g.S.Store.disk c.own_few.new.store) (g.S.Store.disk c.own_part.new.store) c.in_ok-own_few.ensures.stays (ap (λ (p : TableParts). p.file) c.own_few.ensures.reads.as_held.parts_are) c.own_part.ensures.err

pub split_at_mut-piece-requires : goal.split_at_mut-piece-requires
split_at_mut-piece-requires g n c = front_in c.from.result c.args.tables.now.parts.sector c.min-len.result c.args.count (length c.args.out.now) c.from.ensures (once_few c.args.first c.args.count c.min-len.result c.min-len.ensures) c.requires.room.bytes

pub own_few-requires-clause-readable : goal.own_few-requires-clause-readable
own_few-requires-clause-readable g n c = c.requires.readable

pub overflow_mul-bytes : goal.overflow_mul-bytes
overflow_mul-bytes g n c = let few = few_bytes c.from.result c.args.tables.now.parts.sector c.args.first c.min-len.result c.args.count c.args.tables.now.parts.sectors c.from.ensures (once_few c.args.first c.args.count c.min-len.result c.min-len.ensures) c.requires.bitmap.on_disk c.requires.readable.tables.sizes.most in omega (arith, few)

pub returns-then-count-eq0-clause-owned : goal.returns-then-count-eq0-clause-owned
returns-then-count-eq0-clause-owned g n c = λ t told. none_owned _ c.args.tables.now.parts.sector c.args.first c.args.count c.args.at c.args.mask.now c.args.out.now c.if-count-eq0.true

pub own_part-requires : goal.own_part-requires
own_part-requires g n c κs within =
    let old = c.args.tables.now in
    let new = c.own_few.new.tables in
    let disk = g.S.Store.disk c.args.store.now in
    let after = g.S.Store.disk c.own_few.new.store in
    let reads = c.own_few.ensures.reads in
    let stays = c.in_ok-own_few.ensures.stays in
    let len = c.min-len.result in
    let few = once_few c.args.first c.args.count c.min-len.result c.min-len.ensures in
    let asked = reads_rest old new disk after reads stays c.requires.readable c.args.first len c.args.count c.args.out.now c.split_at_mut-piece.result.0.now c.split_at_mut-piece.result.1.now c.args.mask.now c.own_few.new.mask c.args.at
    few c.requires.bitmap.on_disk c.requires.room c.split_at_mut-piece.ensures.value (c.split_at_mut-piece.ensures.front_len ∙ ap (λ s. s * len) c.from.ensures) c.own_few.auto.mask in (
      rest_smaller len c.args.count n c.decreases (once_some c.args.first c.args.count len c.min-len.ensures (not_none c.args.count c.if-count-eq0.false)) few,
      (
        within.0,
        (
          within.1,
          (
            asked.readable,
            (
              bitmap_rest old new disk after reads stays c.args.first len c.args.count few c.requires.bitmap,
              (
                part_behind old new disk after reads stays c.requires.readable c.args.first len c.args.count c.args.place c.saturating_add.result few c.requires.bitmap.on_disk
                    (c.saturating_add.ensures ∙ ap (λ s. min (c.args.place + s * len) (2 ^ 64 - 1)) c.from.ensures) c.requires.part,
                asked.room,
              ),
            ),
          ),
        ),
      ),
    )

pub own_few-requires-clause-part : goal.own_few-requires-clause-part
own_few-requires-clause-part g n c =
    let some = not_none c.args.count c.if-count-eq0.false in
    let few = once_few c.args.first c.args.count c.min-len.result c.min-len.ensures in
    part_first c.args.tables.now (g.S.Store.disk c.args.store.now) c.requires.readable c.args.first c.min-len.result c.args.count c.args.place few c.requires.bitmap.on_disk some (c.requires.part some)

pub own_few-requires-clause-bitmap : goal.own_few-requires-clause-bitmap
own_few-requires-clause-bitmap g n c = let few = once_few c.args.first c.args.count c.min-len.result c.min-len.ensures in bitmap_front c.args.tables.now (g.S.Store.disk c.args.store.now) c.args.first c.min-len.result c.args.count few c.requires.bitmap

pub own_few-requires-clause-room : goal.own_few-requires-clause-room
own_few-requires-clause-room g n c =
    let few = once_few c.args.first c.args.count c.min-len.result c.min-len.ensures in
    fit_front c.args.count c.min-len.result c.args.tables.now.parts.sector c.args.out.now c.split_at_mut-piece.result.0.now c.args.mask.now c.args.at few (c.split_at_mut-piece.ensures.front_len ∙ ap (λ s. s * c.min-len.result) c.from.ensures) c.requires.room

pub overflow_sub-first : goal.overflow_sub-first
overflow_sub-first g n c = byte_small c.args.first

pub overflow_sub-count : goal.overflow_sub-count
overflow_sub-count g n c = once_few c.args.first c.args.count c.min-len.result c.min-len.ensures

pub overflow_add-first : goal.overflow_add-first
overflow_add-first g n c = end_fits c.args.tables.now.parts c.requires.readable.tables.sizes c.args.first c.min-len.result (few_rows c.args.first c.min-len.result c.args.count _ (once_few c.args.first c.args.count c.min-len.result c.min-len.ensures) c.requires.bitmap.on_disk)

pub overflow_add-at : goal.overflow_add-at
overflow_add-at g n c = end_at c.args.at c.min-len.result c.args.count (once_few c.args.first c.args.count c.min-len.result c.min-len.ensures) c.requires.room.ends

pub own_few-requires-clause-few : goal.own_few-requires-clause-few
own_few-requires-clause-few g n c = once_bits c.args.first c.args.count c.min-len.result c.min-len.ensures

pub own_few-requires-clause-some : goal.own_few-requires-clause-some
own_few-requires-clause-some g n c = once_some c.args.first c.args.count c.min-len.result c.min-len.ensures (not_none c.args.count c.if-count-eq0.false)

pub returns-then-count-eq0-clause-err : goal.returns-then-count-eq0-clause-err
returns-then-count-eq0-clause-err g n c = tt

pub returns-clause-others : goal.returns-clause-others
returns-clause-others g n c =
    others_then c.args.at c.min-len.result c.args.count c.args.mask.now c.own_few.new.mask c.own_part.new.mask (once_few c.args.first c.args.count c.min-len.result c.min-len.ensures) c.own_few.auto.mask c.own_few.ensures.others c.own_part.ensures.others

pub returns-in_err-own_few-clause-others : goal.returns-in_err-own_few-clause-others
returns-in_err-own_few-clause-others g n c =
    others_front c.args.at c.min-len.result c.args.count c.args.mask.now c.own_few.new.mask (once_few c.args.first c.args.count c.min-len.result c.min-len.ensures) c.own_few.ensures.others

pub returns-then-count-eq0-clause-others : goal.returns-then-count-eq0-clause-others
returns-then-count-eq0-clause-others g n c = others_none c.args.at c.args.count c.args.mask.now
