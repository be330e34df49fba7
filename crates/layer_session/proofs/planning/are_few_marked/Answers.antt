use Rattle.std.proofs.Common.{rules}
use Rattle.layer_session.proofs.Planned.{bits_tell}
use Rattle.layer_session.proofs.RunsRead.{bits_asked, bits_were_read, byte_before, byte_begins, byte_on_disk, bytes_few, skip_fits, skip_small}
use Rattle.vx_base.proofs.Handed.{failed_for, not_if_ok, not_ok}
use Rattle.layer_session.proofs.planning.are_few_marked.Goals as goal

pub bits-requires-clause-there : goal.bits-requires-clause-there
bits-requires-clause-there g c = c.requires.readable.there

pub bits-requires-clause-parts : goal.bits-requires-clause-parts
bits-requires-clause-parts g c = c.requires.readable.sizes

pub bits-requires-clause-parent : goal.bits-requires-clause-parent
bits-requires-clause-parent g c = c.requires.bitmap.parent

pub bits-requires-clause-first : goal.bits-requires-clause-first
bits-requires-clause-first g c = byte_on_disk c.args.first c.args.count c.args.tables.now.parts.sectors c.requires.some c.requires.bitmap.on_disk

pub bits-requires-clause-bytes : goal.bits-requires-clause-bytes
bits-requires-clause-bytes g c = byte_begins c.args.first

pub bits-requires-clause-tables : goal.bits-requires-clause-tables
bits-requires-clause-tables g c = c.requires.readable.tables

pub bits-requires-clause-bitmap : goal.bits-requires-clause-bitmap
bits-requires-clause-bitmap g c = bits_asked c.args.tables.now (g.S.Store.disk c.args.store.now) c.args.first c.args.count c.requires.readable c.requires.some c.requires.bitmap

pub returns-in_err-bits-clause-reads : goal.returns-in_err-bits-clause-reads
returns-in_err-bits-clause-reads g c =
    bits_were_read c.args.tables.now (g.S.Store.disk c.args.store.now) c.args.first c.args.count c.requires.readable c.requires.some c.requires.bitmap c.bits.new.self c.bits.ensures.as_held c.bits.ensures.places

pub returns-clause-reads : goal.returns-clause-reads
returns-clause-reads g c =
    bits_were_read c.args.tables.now (g.S.Store.disk c.args.store.now) c.args.first c.args.count c.requires.readable c.requires.some c.requires.bitmap c.bits.new.self c.bits.ensures.as_held c.bits.ensures.places

pub returns-clause-marked : goal.returns-clause-marked
returns-clause-marked g c trace told =
    bits_tell c.args.tables.now.parts _ c.bits.new.out c.args.first c.args.count c.are_set.result (c.in_ok-bits.ensures.bits trace told) (search rules) c.are_set.ensures

pub overflow_sub-first : goal.overflow_sub-first
overflow_sub-first g c = byte_before c.args.first

pub overflow_add-skip : goal.overflow_add-skip
overflow_add-skip g c = skip_fits c.args.first c.args.count c.requires.few

pub are_set-requires-clause-fits : goal.are_set-requires-clause-fits
are_set-requires-clause-fits g c = skip_small c.args.first c.args.count c.requires.few

pub returns-in_err-bits-clause-marked : goal.returns-in_err-bits-clause-marked
returns-in_err-bits-clause-marked g c = not_if_ok c.from_residual.result _ c.from_residual.ensures.1 _

pub returns-in_err-bits-clause-stays : goal.returns-in_err-bits-clause-stays
returns-in_err-bits-clause-stays g c = not_ok c.from_residual.result _ c.from_residual.ensures.1 _

pub returns-in_err-bits-clause-err : goal.returns-in_err-bits-clause-err
returns-in_err-bits-clause-err g c = failed_for c.from_residual.result _ c.from_residual.ensures.1 _ c.in_err-bits.ensures.err

pub returns-clause-stays : goal.returns-clause-stays
returns-clause-stays g c = c.in_ok-bits.ensures.stays

pub returns-clause-err : goal.returns-clause-err
returns-clause-err g c = tt

pub slice_bounds-bits-end : goal.slice_bounds-bits-end
slice_bounds-bits-end g c = bytes_few c.args.first c.args.count c.div_ceil-bytes.result c.div_ceil-bytes.ensures c.requires.few
