use Rattle.std.proofs.Common.{rules, ap, ◌∙◌, refl, sym}
use Rattle.store_model.specs.File.{seen}
use Rattle.store_model.specs.Trace.{file_of}
use Rattle.table_pages.specs.Held.{held_file}
use Rattle.layer_session.proofs.Parted.{part_owned, part_within}
use Rattle.vx_base.proofs.Handed.{failed_for, not_ok, ok_then}
use Rattle.layer_session.proofs.Handing.{fails_then, stays_then, there_still}
use Rattle.layer_session.proofs.RunsRead.{bits_asked, bits_were_read, byte_before, byte_begins, byte_on_disk, bytes_few, skip_fits, skip_small}
use Rattle.layer_session.proofs.Finding.{others_none}
use Rattle.layer_session.proofs.reading.own_few.Goals as goal

pub returns-clause-owned : goal.returns-clause-owned
returns-clause-owned g c =
    ok_then c.own_marked.result
    (λ owned t told.
    part_owned c.args.tables.now.parts (seen (file_of t c.args.tables.now.parts.file)) (held_file c.args.tables.now t) c.requires.readable.tables.sizes (c.requires.readable.stored t told) c.args.first c.args.count c.requires.bitmap.on_disk
    (c.requires.part t told).run c.args.place (c.requires.part t told) c.requires.some c.bits.new.out c.args.at c.args.mask.now c.own_marked.new.mask c.args.out.now c.own_marked.new.out (c.in_ok-bits.ensures.bits t told) (search rules)
    (owned t (ap (λ d. d.told) c.in_ok-bits.ensures.stays ∙ told)))
    c.own_marked.ensures.owned

pub bits-requires-clause-there : goal.bits-requires-clause-there
bits-requires-clause-there g c = c.requires.readable.tables.there

pub bits-requires-clause-parts : goal.bits-requires-clause-parts
bits-requires-clause-parts g c = c.requires.readable.tables.sizes

pub bits-requires-clause-tables : goal.bits-requires-clause-tables
bits-requires-clause-tables g c = c.requires.readable.tables.tables

pub returns-in_err-bits-clause-owned : goal.returns-in_err-bits-clause-owned
returns-in_err-bits-clause-owned g c = not_ok c.from_residual.result c.in_err-bits.field-0.0 c.from_residual.ensures.1 _

pub returns-in_err-bits-clause-stays : goal.returns-in_err-bits-clause-stays
returns-in_err-bits-clause-stays g c = not_ok c.from_residual.result c.in_err-bits.field-0.0 c.from_residual.ensures.1 _

pub returns-in_err-bits-clause-err : goal.returns-in_err-bits-clause-err
returns-in_err-bits-clause-err g c = failed_for c.from_residual.result c.in_err-bits.field-0.0 c.from_residual.ensures.1 _ c.in_err-bits.ensures.err

pub own_marked-requires-clause-there : goal.own_marked-requires-clause-there
own_marked-requires-clause-there g c = there_still c.args.tables.now.parts.file (g.S.Store.disk c.args.store.now) (g.S.Store.disk c.bits.new.store) c.in_ok-bits.ensures.stays c.requires.readable.tables.there

pub own_marked-requires-clause-inside : goal.own_marked-requires-clause-inside
own_marked-requires-clause-inside g c =
    λ t after.
    let told = ap (λ d. d.told) (sym c.in_ok-bits.ensures.stays) ∙ after in
    part_within c.args.tables.now.parts (seen (file_of t c.args.tables.now.parts.file)) (held_file c.args.tables.now t) c.requires.readable.tables.sizes (c.requires.readable.stored t told) c.args.first c.args.count c.requires.bitmap.on_disk
    (c.requires.part t told).run c.args.place (c.requires.part t told) c.requires.some

pub own_marked-requires-clause-small : goal.own_marked-requires-clause-small
own_marked-requires-clause-small g c = λ t after. (c.requires.readable.stored t (ap (λ d. d.told) (sym c.in_ok-bits.ensures.stays) ∙ after)).most

pub returns-clause-stays : goal.returns-clause-stays
returns-clause-stays g c = stays_then c.own_marked.result (g.S.Store.disk c.args.store.now) (g.S.Store.disk c.bits.new.store) (g.S.Store.disk c.own_marked.new.store) c.in_ok-bits.ensures.stays c.own_marked.ensures.stays

pub returns-clause-err : goal.returns-clause-err
returns-clause-err g c = fails_then c.own_marked.result c.args.tables.now.parts.file c.args.tables.now.parts.file (g.S.Store.disk c.args.store.now) (g.S.Store.disk c.bits.new.store) (g.S.Store.disk c.own_marked.new.store) c.in_ok-bits.ensures.stays refl c.own_marked.ensures.err

pub returns-in_err-bits-clause-reads : goal.returns-in_err-bits-clause-reads
returns-in_err-bits-clause-reads g c =
    bits_were_read c.args.tables.now (g.S.Store.disk c.args.store.now) c.args.first c.args.count c.requires.readable.tables c.requires.some c.requires.bitmap c.bits.new.self c.bits.ensures.as_held c.bits.ensures.places

pub returns-clause-reads : goal.returns-clause-reads
returns-clause-reads g c =
    bits_were_read c.args.tables.now (g.S.Store.disk c.args.store.now) c.args.first c.args.count c.requires.readable.tables c.requires.some c.requires.bitmap c.bits.new.self c.bits.ensures.as_held c.bits.ensures.places

pub bits-requires-clause-bitmap : goal.bits-requires-clause-bitmap
bits-requires-clause-bitmap g c = bits_asked c.args.tables.now (g.S.Store.disk c.args.store.now) c.args.first c.args.count c.requires.readable.tables c.requires.some c.requires.bitmap

pub bits-requires-clause-parent : goal.bits-requires-clause-parent
bits-requires-clause-parent g c = c.requires.bitmap.parent

pub bits-requires-clause-first : goal.bits-requires-clause-first
bits-requires-clause-first g c = byte_on_disk c.args.first c.args.count c.args.tables.now.parts.sectors c.requires.some c.requires.bitmap.on_disk

pub bits-requires-clause-bytes : goal.bits-requires-clause-bytes
bits-requires-clause-bytes g c = byte_begins c.args.first

pub own_marked-requires-clause-room : goal.own_marked-requires-clause-room
own_marked-requires-clause-room g c = c.requires.room

pub overflow_sub-first : goal.overflow_sub-first
overflow_sub-first g c = byte_before c.args.first

pub overflow_add-skip : goal.overflow_add-skip
overflow_add-skip g c = skip_fits c.args.first c.args.count c.requires.few

pub own_marked-requires-clause-fits : goal.own_marked-requires-clause-fits
own_marked-requires-clause-fits g c = skip_small c.args.first c.args.count c.requires.few

pub slice_bounds-bits-end : goal.slice_bounds-bits-end
slice_bounds-bits-end g c = bytes_few c.args.first c.args.count c.div_ceil-bytes.result c.div_ceil-bytes.ensures c.requires.few

pub returns-clause-others : goal.returns-clause-others
returns-clause-others g c = c.own_marked.ensures.others

pub returns-in_err-bits-clause-others : goal.returns-in_err-bits-clause-others
returns-in_err-bits-clause-others g c = others_none c.args.at c.args.count c.args.mask.now
