use Rattle.std.proofs.Common.{◌≡◌, true, false, ap, refl, subst, sym}
use Rattle.table_pages.specs.Held.{held_file, shape_of}
use Rattle.layer_session.specs.Planning.{are_marked}
use Rattle.layer_session.specs.TablesRead.{HasRead}
use Rattle.layer_session.proofs.Choices.{readable_then}
use Rattle.layer_session.proofs.Planned.{marked_then, not_marked, read_none, read_then}
use Rattle.layer_session.proofs.RunsRead.{bitmap_front, bitmap_rest, byte_small, not_none, once_bits, once_few, once_some, rest_smaller}
use Rattle.table_pages.specs.declared.tables.TableParts.{TableParts}
use Rattle.vx_base.proofs.Handed.{failed_for, not_if_ok, not_ok}
use Rattle.layer_session.proofs.Handing.{fails_then, few_rows, stays_then}
use Rattle.layer_session.proofs.Known.{end_fits}
use Rattle.layer_session.proofs.planning.+are_marked.Goals as goal

pub returns-then-not-branch-clause-marked : goal.returns-then-not-branch-clause-marked
returns-then-not-branch-clause-marked g t c trace told =
    not_marked _ _ c.args.first c.min-len.result c.args.count (once_few c.args.first c.args.count c.min-len.result c.min-len.ensures) (λ all. let is : c.in_ok-are_few_marked.field-0 ≡ true = (c.in_ok-are_few_marked.ensures.marked trace told).1 all in let isnt : c.in_ok-are_few_marked.field-0 ≡ false = c.if-not-branch.true in cc)

pub returns-clause-reads : goal.returns-clause-reads
returns-clause-reads g t c =
    read_then c.args.tables.now c.are_few_marked.new.tables c.are_marked.new.tables (g.S.Store.disk c.args.store.now) c.are_few_marked.ensures.reads
    (subst (HasRead c.are_few_marked.new.tables c.are_marked.new.tables) c.in_ok-are_few_marked.ensures.stays c.are_marked.ensures.reads)

pub returns-clause-marked : goal.returns-clause-marked
returns-clause-marked g t c =
    marked_then c.args.tables.now c.are_few_marked.new.tables (g.S.Store.disk c.args.store.now) (g.S.Store.disk c.are_few_marked.new.store) c.args.first c.min-len.result c.args.count c.are_marked.result
    c.are_few_marked.ensures.reads c.in_ok-are_few_marked.ensures.stays (once_few c.args.first c.args.count c.min-len.result c.min-len.ensures) (λ trace told. (c.in_ok-are_few_marked.ensures.marked trace told).0 c.if-not-branch.false) c.are_marked.ensures.marked

pub are_marked-requires : goal.are_marked-requires
are_marked-requires g t c κs within =
    let old = c.args.tables.now in
    let new = c.are_few_marked.new.tables in
    let disk = g.S.Store.disk c.args.store.now in
    let after = g.S.Store.disk c.are_few_marked.new.store in
    let stays = c.in_ok-are_few_marked.ensures.stays in
    let few = once_few c.args.first c.args.count c.min-len.result c.min-len.ensures in (
      rest_smaller c.min-len.result c.args.count t c.decreases (once_some c.args.first c.args.count c.min-len.result c.min-len.ensures (not_none c.args.count c.if-count-eq0.false)) few,
      (
        within.0,
        (
          within.1,
          (
            readable_then old new disk after c.requires.readable c.are_few_marked.ensures.reads stays,
            bitmap_rest old new disk after c.are_few_marked.ensures.reads stays c.args.first c.min-len.result c.args.count few c.requires.bitmap,
          ),
        ),
      ),
    )

pub are_few_marked-requires-clause-readable : goal.are_few_marked-requires-clause-readable
are_few_marked-requires-clause-readable g t c = c.requires.readable

pub are_few_marked-requires-clause-bitmap : goal.are_few_marked-requires-clause-bitmap
are_few_marked-requires-clause-bitmap g t c =
    let few = once_few c.args.first c.args.count c.min-len.result c.min-len.ensures in bitmap_front c.args.tables.now (g.S.Store.disk c.args.store.now) c.args.first c.min-len.result c.args.count few c.requires.bitmap

pub overflow_sub-first : goal.overflow_sub-first
overflow_sub-first g t c = byte_small c.args.first

pub overflow_sub-count : goal.overflow_sub-count
overflow_sub-count g t c = once_few c.args.first c.args.count c.min-len.result c.min-len.ensures

pub overflow_add-first : goal.overflow_add-first
overflow_add-first g t c = end_fits c.args.tables.now.parts c.requires.readable.sizes c.args.first c.min-len.result (few_rows c.args.first c.min-len.result c.args.count _ (once_few c.args.first c.args.count c.min-len.result c.min-len.ensures) c.requires.bitmap.on_disk)

pub are_few_marked-requires-clause-few : goal.are_few_marked-requires-clause-few
are_few_marked-requires-clause-few g t c = once_bits c.args.first c.args.count c.min-len.result c.min-len.ensures

pub are_few_marked-requires-clause-some : goal.are_few_marked-requires-clause-some
are_few_marked-requires-clause-some g t c = once_some c.args.first c.args.count c.min-len.result c.min-len.ensures (not_none c.args.count c.if-count-eq0.false)

pub returns-then-count-eq0-clause-reads : goal.returns-then-count-eq0-clause-reads
returns-then-count-eq0-clause-reads g t c = read_none _ _ c.requires.readable

pub returns-then-count-eq0-clause-stays : goal.returns-then-count-eq0-clause-stays
returns-then-count-eq0-clause-stays g t c = refl

pub returns-then-count-eq0-clause-err : goal.returns-then-count-eq0-clause-err
returns-then-count-eq0-clause-err g t c = tt

pub returns-in_err-are_few_marked-clause-marked : goal.returns-in_err-are_few_marked-clause-marked
returns-in_err-are_few_marked-clause-marked g t c = not_if_ok c.from_residual.result _ c.from_residual.ensures.1 _

pub returns-in_err-are_few_marked-clause-reads : goal.returns-in_err-are_few_marked-clause-reads
returns-in_err-are_few_marked-clause-reads g t c = c.are_few_marked.ensures.reads

pub returns-in_err-are_few_marked-clause-stays : goal.returns-in_err-are_few_marked-clause-stays
returns-in_err-are_few_marked-clause-stays g t c = not_ok c.from_residual.result _ c.from_residual.ensures.1 _

pub returns-in_err-are_few_marked-clause-err : goal.returns-in_err-are_few_marked-clause-err
returns-in_err-are_few_marked-clause-err g t c = failed_for c.from_residual.result _ c.from_residual.ensures.1 _ c.in_err-are_few_marked.ensures.err

pub returns-then-not-branch-clause-reads : goal.returns-then-not-branch-clause-reads
returns-then-not-branch-clause-reads g t c = c.are_few_marked.ensures.reads

pub returns-then-not-branch-clause-stays : goal.returns-then-not-branch-clause-stays
returns-then-not-branch-clause-stays g t c = c.in_ok-are_few_marked.ensures.stays

pub returns-then-not-branch-clause-err : goal.returns-then-not-branch-clause-err
returns-then-not-branch-clause-err g t c = tt

pub returns-clause-stays : goal.returns-clause-stays
returns-clause-stays g t c = stays_then c.are_marked.result (g.S.Store.disk c.args.store.now) (g.S.Store.disk c.are_few_marked.new.store) (g.S.Store.disk c.are_marked.new.store) c.in_ok-are_few_marked.ensures.stays c.are_marked.ensures.stays

pub returns-clause-err : goal.returns-clause-err
returns-clause-err g t c = fails_then c.are_marked.result c.args.tables.now.parts.file c.are_few_marked.new.tables.parts.file (g.S.Store.disk c.args.store.now) (g.S.Store.disk c.are_few_marked.new.store) (g.S.Store.disk c.are_marked.new.store) c.in_ok-are_few_marked.ensures.stays (ap (λ (p : TableParts). p.file) c.are_few_marked.ensures.reads.as_held.parts_are) c.are_marked.ensures.err

pub returns-then-count-eq0-clause-marked : goal.returns-then-count-eq0-clause-marked
returns-then-count-eq0-clause-marked g t c trace told =
    subst (λ n. true ≡ are_marked (shape_of c.args.tables.now.parts) (held_file c.args.tables.now trace) c.args.first n) (sym c.if-count-eq0.true) refl
