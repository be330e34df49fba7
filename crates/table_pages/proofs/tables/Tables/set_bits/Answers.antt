use Rattle.std.proofs.Common.{◌≡◌, ◌+◌, ◌/◌, ◌%◌, ◌^◌, ap, length, subst, ◌∙◌, ℕ, arith}
use Rattle.store_model.specs.Disk.{ReadFailed, WhereTold}
use Rattle.vhdx_format.specs.Fields.{megabyte}
use Rattle.vx_base.proofs.Handed.{failed_for, not_ok}
use Rattle.table_pages.specs.Held.{AreChanged, AreTablesIn, bit_pages, held_file}
use Rattle.table_pages.proofs.Sectors.{sectors_set, sectors_tables}
use Rattle.table_pages.proofs.Known.{bitmap_inside, failed_then, few_same, held_as, held_then, keeps_in_bitmap, keeps_no_more, none_in_bitmap, on_err_any, puts_in_bitmap, puts_then, table_kept, tables_still, there_still}
use Rattle.table_pages.proofs.tables.Tables.set_bits.Goals as goal

pub returns-clause-set : goal.returns-clause-set
returns-clause-set g c =
    sectors_set c.args.self.now c.bitmap_at.new.self c.bring_pages.new.self c.set_block.new.self _ _ c.in_ok-place.place c.args.first _ c.args.count c.args.on c.in_ok-place.ensures.as_held c.in_ok-place.ensures.stays
    c.bring_pages.ensures.parts c.bring_pages.ensures.tables c.bring_pages.ensures.held c.set_block.ensures.parts c.in_ok-place.ensures.place c.requires.bitmap c.set_block.ensures.set

pub returns-clause-tables : goal.returns-clause-tables
returns-clause-tables g c =
    sectors_tables c.args.self.now c.bitmap_at.new.self c.bring_pages.new.self c.set_block.new.self _ _ c.in_ok-place.place c.args.first _ c.args.count c.args.on c.in_ok-place.ensures.as_held c.in_ok-place.ensures.stays
    c.bring_pages.ensures.parts c.bring_pages.ensures.tables c.bring_pages.ensures.held c.set_block.ensures.parts c.in_ok-place.ensures.place c.requires.bitmap c.set_block.ensures.set

-- where the block stands

pub bitmap_at-requires-clause-there : goal.bitmap_at-requires-clause-there
bitmap_at-requires-clause-there g c = c.requires.there

pub bitmap_at-requires-clause-parts : goal.bitmap_at-requires-clause-parts
bitmap_at-requires-clause-parts g c = c.requires.parts

pub bitmap_at-requires-clause-parent : goal.bitmap_at-requires-clause-parent
bitmap_at-requires-clause-parent g c = c.requires.parent

pub bitmap_at-requires-clause-sector : goal.bitmap_at-requires-clause-sector
bitmap_at-requires-clause-sector g c = c.requires.first

pub bitmap_at-requires-clause-tables : goal.bitmap_at-requires-clause-tables
bitmap_at-requires-clause-tables g c = c.requires.tables

-- its entry can't be read

pub returns-in_err-place-clause-set : goal.returns-in_err-place-clause-set
returns-in_err-place-clause-set g c = not_ok c.from_residual.result c.in_err-place.field-0.0 c.from_residual.ensures.1 _

pub returns-in_err-place-clause-unchanged : goal.returns-in_err-place-clause-unchanged
returns-in_err-place-clause-unchanged g c =
    on_err_any c.from_residual.result (WhereTold (g.S.Store.disk c.args.store.now).told (λ trace. held_file c.bitmap_at.new.self trace ≡ held_file c.args.self.now trace)) (held_as c.args.self.now c.bitmap_at.new.self (g.S.Store.disk c.args.store.now) c.in_err-place.ensures.as_held)

pub returns-in_err-place-clause-within : goal.returns-in_err-place-clause-within
returns-in_err-place-clause-within g c =
    none_in_bitmap c.args.self.now c.bitmap_at.new.self (g.S.Store.disk c.args.store.now) c.args.first c.in_err-place.ensures.as_held.unchanged

pub returns-in_err-place-clause-parts : goal.returns-in_err-place-clause-parts
returns-in_err-place-clause-parts g c = c.in_err-place.ensures.as_held.parts_are

pub returns-in_err-place-clause-few : goal.returns-in_err-place-clause-few
returns-in_err-place-clause-few g c = few_same c.args.self.now.pending c.bitmap_at.new.self.pending _ c.in_err-place.ensures.as_held.unchanged

pub returns-in_err-place-clause-tables : goal.returns-in_err-place-clause-tables
returns-in_err-place-clause-tables g c = c.in_err-place.ensures.as_held.tables

pub returns-in_err-place-clause-stays : goal.returns-in_err-place-clause-stays
returns-in_err-place-clause-stays g c = not_ok c.from_residual.result c.in_err-place.field-0.0 c.from_residual.ensures.1 _

pub returns-in_err-place-clause-err : goal.returns-in_err-place-clause-err
returns-in_err-place-clause-err g c =
    failed_for c.from_residual.result c.in_err-place.field-0.0 c.from_residual.ensures.1 (ReadFailed c.args.self.now.parts.file (g.S.Store.disk c.args.store.now) (g.S.Store.disk c.bitmap_at.new.store)) c.in_err-place.ensures.err

pub returns-in_err-place-clause-places : goal.returns-in_err-place-clause-places
returns-in_err-place-clause-places g c =
    table_kept c.args.self.now c.bitmap_at.new.self (g.S.Store.disk c.args.store.now) c.args.first c.in_err-place.ensures.places

-- its pages

pub overflow_add-first : goal.overflow_add-first
overflow_add-first g c = omega (arith, c.requires.chunk)

pub div_ceil-pages-requires : goal.div_ceil-pages-requires
div_ceil-pages-requires g c = omega arith

pub bring_pages-requires-clause-there : goal.bring_pages-requires-clause-there
bring_pages-requires-clause-there g c =
    there_still c.args.self.now c.bitmap_at.new.self (g.S.Store.disk c.args.store.now) (g.S.Store.disk c.bitmap_at.new.store) c.in_ok-place.ensures.as_held.parts_are c.in_ok-place.ensures.stays c.requires.there

pub bring_pages-requires-clause-aligned : goal.bring_pages-requires-clause-aligned
bring_pages-requires-clause-aligned g c = c.in_ok-place.ensures.aligned

pub bring_pages-requires-clause-end : goal.bring_pages-requires-clause-end
bring_pages-requires-clause-end g c = c.in_ok-place.ensures.end

pub bring_pages-requires-clause-within : goal.bring_pages-requires-clause-within
bring_pages-requires-clause-within g c = omega (arith, c.requires.chunk, c.div_ceil-pages.ensures)

pub bring_pages-requires-clause-room : goal.bring_pages-requires-clause-room
bring_pages-requires-clause-room g c = omega (arith, c.requires.room, c.div_ceil-pages.ensures, ap length c.in_ok-place.ensures.as_held.unchanged)

pub bring_pages-requires-clause-tables : goal.bring_pages-requires-clause-tables
bring_pages-requires-clause-tables g c =
    tables_still c.bitmap_at.new.self (g.S.Store.disk c.args.store.now) (g.S.Store.disk c.bitmap_at.new.store) c.in_ok-place.ensures.stays c.in_ok-place.ensures.as_held.tables

pub bring_pages-requires-clause-inside : goal.bring_pages-requires-clause-inside
bring_pages-requires-clause-inside g c =
    bitmap_inside c.args.self.now c.bitmap_at.new.self (g.S.Store.disk c.args.store.now) c.args.first c.in_ok-place.place c.in_ok-place.ensures.place (g.S.Store.disk c.bitmap_at.new.store) c.in_ok-place.ensures.as_held c.in_ok-place.ensures.stays c.requires.bitmap

-- one of them can't be read

pub returns-in_err-bring_pages-clause-set : goal.returns-in_err-bring_pages-clause-set
returns-in_err-bring_pages-clause-set g c =
    not_ok c.from_residual-in_err-bring_pages.result c.in_err-bring_pages.field-0.0 c.from_residual-in_err-bring_pages.ensures.1 _

pub returns-in_err-bring_pages-clause-unchanged : goal.returns-in_err-bring_pages-clause-unchanged
returns-in_err-bring_pages-clause-unchanged g c =
    on_err_any c.from_residual-in_err-bring_pages.result (WhereTold (g.S.Store.disk c.args.store.now).told (λ trace. held_file c.bring_pages.new.self trace ≡ held_file c.args.self.now trace))
    (held_then c.args.self.now c.bitmap_at.new.self c.bring_pages.new.self (g.S.Store.disk c.args.store.now) (g.S.Store.disk c.bitmap_at.new.store) c.in_ok-place.ensures.stays (held_as c.args.self.now c.bitmap_at.new.self (g.S.Store.disk c.args.store.now) c.in_ok-place.ensures.as_held) c.in_err-bring_pages.ensures.held)

pub returns-in_err-bring_pages-clause-within : goal.returns-in_err-bring_pages-clause-within
returns-in_err-bring_pages-clause-within g c =
    puts_in_bitmap c.args.self.now c.bitmap_at.new.self (g.S.Store.disk c.args.store.now) c.args.first c.in_ok-place.place c.in_ok-place.ensures.place c.bring_pages.new.self c.in_ok-place.ensures.as_held.unchanged c.in_err-bring_pages.ensures.within

pub returns-in_err-bring_pages-clause-parts : goal.returns-in_err-bring_pages-clause-parts
returns-in_err-bring_pages-clause-parts g c = c.in_err-bring_pages.ensures.parts ∙ c.in_ok-place.ensures.as_held.parts_are

pub returns-in_err-bring_pages-clause-few : goal.returns-in_err-bring_pages-clause-few
returns-in_err-bring_pages-clause-few g c =
    omega (arith, c.in_err-bring_pages.ensures.few, c.div_ceil-pages.ensures, ap length c.in_ok-place.ensures.as_held.unchanged)

pub returns-in_err-bring_pages-clause-tables : goal.returns-in_err-bring_pages-clause-tables
returns-in_err-bring_pages-clause-tables g c = subst (AreTablesIn c.bring_pages.new.self) c.in_ok-place.ensures.stays c.in_err-bring_pages.ensures.tables

pub returns-in_err-bring_pages-clause-stays : goal.returns-in_err-bring_pages-clause-stays
returns-in_err-bring_pages-clause-stays g c =
    not_ok c.from_residual-in_err-bring_pages.result c.in_err-bring_pages.field-0.0 c.from_residual-in_err-bring_pages.ensures.1 _

pub returns-in_err-bring_pages-clause-err : goal.returns-in_err-bring_pages-clause-err
returns-in_err-bring_pages-clause-err g c =
    failed_for c.from_residual-in_err-bring_pages.result c.in_err-bring_pages.field-0.0 c.from_residual-in_err-bring_pages.ensures.1 (ReadFailed c.args.self.now.parts.file (g.S.Store.disk c.args.store.now) (g.S.Store.disk c.bring_pages.new.store))
    (failed_then c.args.self.now.parts.file c.bitmap_at.new.self.parts.file (g.S.Store.disk c.args.store.now) (g.S.Store.disk c.bitmap_at.new.store) (g.S.Store.disk c.bring_pages.new.store) c.in_err-bring_pages.field-0.0 (ap (λ p. p.file) c.in_ok-place.ensures.as_held.parts_are) c.in_ok-place.ensures.stays c.in_err-bring_pages.ensures.err)

pub returns-in_err-bring_pages-clause-places : goal.returns-in_err-bring_pages-clause-places
returns-in_err-bring_pages-clause-places g c =
    keeps_in_bitmap c.args.self.now c.bitmap_at.new.self (g.S.Store.disk c.args.store.now) c.args.first c.in_ok-place.place c.in_ok-place.ensures.place c.bring_pages.new.self c.in_ok-place.ensures.places c.in_err-bring_pages.ensures.places

-- the bits

pub set_block-requires-clause-aligned : goal.set_block-requires-clause-aligned
set_block-requires-clause-aligned g c = c.in_ok-place.ensures.aligned

pub set_block-requires-clause-end : goal.set_block-requires-clause-end
set_block-requires-clause-end g c = c.in_ok-place.ensures.end

pub set_block-requires-clause-within : goal.set_block-requires-clause-within
set_block-requires-clause-within g c = c.requires.chunk

pub set_block-requires-clause-changed : goal.set_block-requires-clause-changed
set_block-requires-clause-changed g c =
    let same : c.div_ceil-pages.result ≡ bit_pages (c.args.first % 2 ^ 23) c.args.count = omega (arith, c.div_ceil-pages.ensures) in
    subst (λ (n : ℕ). AreChanged c.in_ok-place.place (c.args.first % 2 ^ 23 / 32768) n c.bring_pages.new.self.pending) same c.in_ok-bring_pages.ensures.changed

pub returns-clause-within : goal.returns-clause-within
returns-clause-within g c =
    puts_in_bitmap c.args.self.now c.bitmap_at.new.self (g.S.Store.disk c.args.store.now) c.args.first c.in_ok-place.place c.in_ok-place.ensures.place c.set_block.new.self c.in_ok-place.ensures.as_held.unchanged (puts_then c.in_ok-place.place c.bitmap_at.new.self.pending c.bring_pages.new.self.pending c.set_block.new.self.pending c.in_ok-bring_pages.ensures.within c.set_block.ensures.within)

pub returns-clause-parts : goal.returns-clause-parts
returns-clause-parts g c = c.set_block.ensures.parts ∙ c.in_ok-bring_pages.ensures.parts ∙ c.in_ok-place.ensures.as_held.parts_are

pub returns-clause-few : goal.returns-clause-few
returns-clause-few g c =
    omega (arith, c.set_block.ensures.len, c.in_ok-bring_pages.ensures.few, c.div_ceil-pages.ensures, ap length c.in_ok-place.ensures.as_held.unchanged)

pub returns-clause-stays : goal.returns-clause-stays
returns-clause-stays g c = c.in_ok-bring_pages.ensures.stays ∙ c.in_ok-place.ensures.stays

pub returns-clause-places : goal.returns-clause-places
returns-clause-places g c =
    keeps_in_bitmap c.args.self.now c.bitmap_at.new.self (g.S.Store.disk c.args.store.now) c.args.first c.in_ok-place.place c.in_ok-place.ensures.place c.set_block.new.self c.in_ok-place.ensures.places (keeps_no_more c.in_ok-place.place (c.in_ok-place.place + megabyte) c.bitmap_at.new.self c.bring_pages.new.self c.set_block.new.self c.in_ok-bring_pages.ensures.places c.set_block.ensures.places)
