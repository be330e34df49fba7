use Rattle.std.proofs.Common.{◌≡◌, ◌+◌, ◌-◌, ◌*◌, ◌/◌, ◌%◌, ◌^◌, ◌≤◌, length, true, false, inl, refl, if◌then◌else◌, ◌∙◌, ap, subst, sym}
use Rattle.vhdx_format.specs.Fields.{megabyte}
use Rattle.store_model.specs.File.{seen}
use Rattle.store_model.specs.Trace.{file_of}
use Rattle.table_pages.specs.Held.{AreChanged, held_file, shape_of}
use Rattle.layer_session.specs.Bringing.{HasBits, InChunk, IsSpanned, most_bit_pages}
use Rattle.layer_session.specs.Planning.{is_marking}
use Rattle.layer_session.proofs.BitRuns.{each_map}
use Rattle.layer_session.proofs.Brought.{block_there, hand_then, named_same, names_still, pages_brought}
use Rattle.layer_session.proofs.EntryBrought.{entry_brought}
use Rattle.layer_session.proofs.Equal.{true_false}
use Rattle.layer_session.proofs.Known.{brought_none, entry_at_hand, entry_few, few_bits, none_more, pages_few, pages_inside, place_aligned, room_less, room_one}
use Rattle.vx_base.proofs.Handed.{failed_for, not_ok}
use Rattle.layer_session.proofs.Exits.{bits_within, le_more, less_le}
use Rattle.layer_session.proofs.preparing.bring_chunk.Goals as goal

pub returns-in_default-clause-named : goal.returns-in_default-clause-named
returns-in_default-clause-named g c e =
    named_same (shape_of c.args.tables.now.parts) (c.args.sector / 2 ^ 23) c.args.plans.now (InChunk (c.args.sector / 2 ^ 23) (λ s n plan. is_marking plan.step ≡ true → ⊥)) 0 c.args.first c.args.count c.in_default.ensures

pub returns-in_default-clause-at_hand : goal.returns-in_default-clause-at_hand
returns-in_default-clause-at_hand g c e =
    each_map (shape_of c.args.tables.now.parts) c.args.plans.now (InChunk (c.args.sector / 2 ^ 23) (λ s n plan. is_marking plan.step ≡ true → ⊥)) (InChunk (c.args.sector / 2 ^ 23) (HasBits c.args.tables.now))
    (λ s n plan off here. record { bits = λ m. absurd (off here (ap is_marking m)); all_bits = λ m. absurd (off here (ap is_marking m)) }) 0 c.args.first c.args.count c.in_default.ensures

pub bring_pages-requires-clause-inside : goal.bring_pages-requires-clause-inside
bring_pages-requires-clause-inside g c t told =
    let parts = c.args.tables.now.parts in
    let b = block_there (shape_of parts) (held_file c.args.tables.now t) c.args.plans.now c.args.sector c.args.first c.args.count c.in-Some.bits c.in-Some.ensures (c.requires.there c.if-missing.false t told) in
    subst (λ n. n + megabyte ≤ length (seen (file_of t parts.file))) (sym b.2) ((c.requires.readable.bitmaps t told).within c.args.sector c.requires.sector b.0 b.1)

pub returns-in_err-bring_pages-clause-brought : goal.returns-in_err-bring_pages-clause-brought
returns-in_err-bring_pages-clause-brought g c =
    let parts = c.args.tables.now.parts in
    pages_brought c.args.tables.now c.bring_pages.new.self (g.S.Store.disk c.args.store.now) (c.in-Some.bits.word / 2 ^ 20 * megabyte) c.args.sector c.requires.readable c.requires.sector c.bring_pages.ensures.parts c.bring_pages.ensures.within
    c.bring_pages.ensures.tables c.bring_pages.ensures.held c.bring_pages.ensures.places
    (λ t told. block_there (shape_of parts) (held_file c.args.tables.now t) c.args.plans.now c.args.sector c.args.first c.args.count c.in-Some.bits c.in-Some.ensures (c.requires.there c.if-missing.false t told))

pub returns-in_err-bring_pages-clause-named : goal.returns-in_err-bring_pages-clause-named
returns-in_err-bring_pages-clause-named g c e =
    named_same (shape_of c.args.tables.now.parts) (c.args.sector / 2 ^ 23) c.args.plans.now (InChunk (c.args.sector / 2 ^ 23) (IsSpanned (shape_of c.args.tables.now.parts) c.in-Some.bits)) 0 c.args.first c.args.count c.in-Some.ensures.spans

pub returns-clause-brought : goal.returns-clause-brought
returns-clause-brought g c =
    let parts = c.args.tables.now.parts in
    pages_brought c.args.tables.now c.bring_pages.new.self (g.S.Store.disk c.args.store.now) (c.in-Some.bits.word / 2 ^ 20 * megabyte) c.args.sector c.requires.readable c.requires.sector c.bring_pages.ensures.parts c.bring_pages.ensures.within
    c.bring_pages.ensures.tables c.bring_pages.ensures.held c.bring_pages.ensures.places
    (λ t told. block_there (shape_of parts) (held_file c.args.tables.now t) c.args.plans.now c.args.sector c.args.first c.args.count c.in-Some.bits c.in-Some.ensures (c.requires.there c.if-missing.false t told))

pub returns-clause-at_hand : goal.returns-clause-at_hand
returns-clause-at_hand g c e =
    hand_then c.args.tables.now.parts c.bring_pages.new.self c.bring_pages.ensures.parts c.requires.readable.sizes c.args.plans.now c.name_bitmap.new.plans (c.args.sector / 2 ^ 23) c.args.first c.args.count c.in-Some.bits.word c.in-Some.bits c.in-Some.ensures
    c.name_bitmap.ensures.named c.name_bitmap.ensures.word
    (subst (λ n. AreChanged (c.in-Some.bits.word / 2 ^ 20 * megabyte) (c.in-Some.bits.first % 2 ^ 23 / 32768) n c.bring_pages.new.self.pending) c.pages_of_bits-pages.ensures c.in_ok-bring_pages.ensures.changed)

pub returns-clause-there : goal.returns-clause-there
returns-clause-there g c e t told =
    names_still (shape_of c.args.tables.now.parts) (held_file c.args.tables.now t) c.args.plans.now c.args.sector c.args.first c.args.count c.in-Some.bits c.in-Some.ensures (c.requires.there c.if-missing.false t told)
    c.name_bitmap.new.plans c.name_bitmap.ensures.named c.name_bitmap.ensures.word

pub returns-then-missing-clause-brought : goal.returns-then-missing-clause-brought
returns-then-missing-clause-brought g c =
    let e = c.bring_entry.ensures in
    entry_brought c.args.tables.now c.bring_entry.new.self (g.S.Store.disk c.args.store.now) c.bitmap_entry_index.result c.bring_entry.result c.requires.readable.sizes c.bitmap_entry_index.ensures.inside e.parts e.adds e.unchanged e.tables e.held e.places

pub bitmap_entry_index-requires-clause-parts : goal.bitmap_entry_index-requires-clause-parts
bitmap_entry_index-requires-clause-parts g c = c.requires.readable.sizes

pub bring_entry-requires-clause-parts : goal.bring_entry-requires-clause-parts
bring_entry-requires-clause-parts g c = c.requires.readable.sizes

pub bits_of-requires-clause-sizes : goal.bits_of-requires-clause-sizes
bits_of-requires-clause-sizes g c = c.requires.readable.sizes

pub bitmap_entry_index-requires-clause-sector : goal.bitmap_entry_index-requires-clause-sector
bitmap_entry_index-requires-clause-sector g c = c.requires.sector

pub bring_entry-requires-clause-index : goal.bring_entry-requires-clause-index
bring_entry-requires-clause-index g c = c.bitmap_entry_index.ensures.inside

pub returns-then-missing-clause-len : goal.returns-then-missing-clause-len
returns-then-missing-clause-len g c = refl

pub returns-then-missing-clause-same : goal.returns-then-missing-clause-same
returns-then-missing-clause-same g c e = refl

pub returns-then-missing-clause-named : goal.returns-then-missing-clause-named
returns-then-missing-clause-named g c e = absurd (true_false (sym (let on : c.args.missing ≡ true = c.if-missing.true in on) ∙ e))

pub returns-then-missing-clause-at_hand : goal.returns-then-missing-clause-at_hand
returns-then-missing-clause-at_hand g c e = absurd (true_false (sym (let on : c.args.missing ≡ true = c.if-missing.true in on) ∙ e))

pub returns-then-missing-clause-there : goal.returns-then-missing-clause-there
returns-then-missing-clause-there g c e = absurd (true_false (sym (let on : c.args.missing ≡ true = c.if-missing.true in on) ∙ e))

pub returns-then-missing-clause-stays : goal.returns-then-missing-clause-stays
returns-then-missing-clause-stays g c = c.bring_entry.ensures.stays

pub returns-then-missing-clause-err : goal.returns-then-missing-clause-err
returns-then-missing-clause-err g c = c.bring_entry.ensures.err

pub returns-in_default-clause-len : goal.returns-in_default-clause-len
returns-in_default-clause-len g c = refl

pub returns-in_default-clause-same : goal.returns-in_default-clause-same
returns-in_default-clause-same g c e = refl

pub returns-in_default-clause-stays : goal.returns-in_default-clause-stays
returns-in_default-clause-stays g c = refl

pub returns-in_default-clause-few : goal.returns-in_default-clause-few
returns-in_default-clause-few g c = le_more (length c.args.tables.now.pending) (if c.args.missing then 1 else most_bit_pages (shape_of c.args.tables.now.parts) c.args.count)

pub returns-in_default-clause-entry : goal.returns-in_default-clause-entry
returns-in_default-clause-entry g c e = absurd (true_false (sym e ∙ (let off : c.args.missing ≡ false = c.if-missing.false in off)))

pub returns-in_default-clause-there : goal.returns-in_default-clause-there
returns-in_default-clause-there g c e t told = c.requires.there e t told

pub returns-in_err-bring_pages-clause-len : goal.returns-in_err-bring_pages-clause-len
returns-in_err-bring_pages-clause-len g c = refl

pub returns-in_err-bring_pages-clause-same : goal.returns-in_err-bring_pages-clause-same
returns-in_err-bring_pages-clause-same g c e = refl

pub returns-in_err-bring_pages-clause-entry : goal.returns-in_err-bring_pages-clause-entry
returns-in_err-bring_pages-clause-entry g c e = absurd (true_false (sym e ∙ (let off : c.args.missing ≡ false = c.if-missing.false in off)))

pub returns-in_err-bring_pages-clause-at_hand : goal.returns-in_err-bring_pages-clause-at_hand
returns-in_err-bring_pages-clause-at_hand g c e = not_ok c.from_residual.result c.in_err-bring_pages.field-0.0 c.from_residual.ensures.1 _

pub returns-in_err-bring_pages-clause-stays : goal.returns-in_err-bring_pages-clause-stays
returns-in_err-bring_pages-clause-stays g c = not_ok c.from_residual.result c.in_err-bring_pages.field-0.0 c.from_residual.ensures.1 _

pub returns-clause-entry : goal.returns-clause-entry
returns-clause-entry g c e = absurd (true_false (sym e ∙ (let off : c.args.missing ≡ false = c.if-missing.false in off)))

pub overflow_sub-bits : goal.overflow_sub-bits
overflow_sub-bits g c = less_le c.in-Some.bits.first c.in-Some.bits.end c.in-Some.ensures.span.some

pub pages_of_bits-pages-requires : goal.pages_of_bits-pages-requires
pages_of_bits-pages-requires g c = bits_within (c.args.sector / 2 ^ 23) c.in-Some.bits.first c.in-Some.bits.end c.in-Some.ensures.span.from c.in-Some.ensures.span.some c.in-Some.ensures.span.to

pub bring_entry-requires-clause-there : goal.bring_entry-requires-clause-there
bring_entry-requires-clause-there g c = c.requires.readable.there

pub bring_pages-requires-clause-there : goal.bring_pages-requires-clause-there
bring_pages-requires-clause-there g c = c.requires.readable.there

pub bitmap_entry_index-requires-clause-parent : goal.bitmap_entry_index-requires-clause-parent
bitmap_entry_index-requires-clause-parent g c = c.requires.parent c.if-missing.true

pub bring_entry-requires-clause-tables : goal.bring_entry-requires-clause-tables
bring_entry-requires-clause-tables g c = c.requires.readable.tables

pub bring_entry-requires-clause-room : goal.bring_entry-requires-clause-room
bring_entry-requires-clause-room g c = inl (room_one (length c.args.tables.now.pending) _ c.requires.room)

pub returns-then-missing-clause-few : goal.returns-then-missing-clause-few
returns-then-missing-clause-few g c = entry_few c.bring_entry.result _ c.args.tables.now.pending c.bring_entry.new.self.pending c.args.missing _ c.if-missing.true c.bring_entry.ensures.adds c.bring_entry.ensures.unchanged

pub returns-then-missing-clause-entry : goal.returns-then-missing-clause-entry
returns-then-missing-clause-entry g c e = entry_at_hand c.bring_entry.result c.args.tables.now.parts _ _ c.args.tables.now.pending c.bring_entry.new.self.pending c.bitmap_entry_index.ensures.index c.bring_entry.ensures.adds

pub bits_of-requires-clause-on_disk : goal.bits_of-requires-clause-on_disk
bits_of-requires-clause-on_disk g c = c.requires.fit.on_disk

pub bits_of-requires-clause-few : goal.bits_of-requires-clause-few
bits_of-requires-clause-few g c = none_more _ _ c.requires.fit.few

pub returns-in_default-clause-brought : goal.returns-in_default-clause-brought
returns-in_default-clause-brought g c = brought_none c.args.tables.now (g.S.Store.disk c.args.store.now) c.requires.readable.tables

pub bring_pages-requires-clause-aligned : goal.bring_pages-requires-clause-aligned
bring_pages-requires-clause-aligned g c = place_aligned c.in-Some.bits.word

pub bring_pages-requires-clause-within : goal.bring_pages-requires-clause-within
bring_pages-requires-clause-within g c =
    pages_inside (c.in-Some.bits.first % 2 ^ 23) (c.in-Some.bits.end - c.in-Some.bits.first) c.pages_of_bits-pages.result
    (bits_within (c.args.sector / 2 ^ 23) c.in-Some.bits.first c.in-Some.bits.end c.in-Some.ensures.span.from c.in-Some.ensures.span.some c.in-Some.ensures.span.to) c.pages_of_bits-pages.ensures

pub bring_pages-requires-clause-room : goal.bring_pages-requires-clause-room
bring_pages-requires-clause-room g c =
    room_less (length c.args.tables.now.pending) c.pages_of_bits-pages.result (most_bit_pages (shape_of c.args.tables.now.parts) c.args.count)
    (pages_few (shape_of c.args.tables.now.parts) (record { sector = c.requires.readable.sizes.sector; block = c.requires.readable.sizes.block }) (c.args.sector / 2 ^ 23) c.args.first c.args.count c.in-Some.bits.first c.in-Some.bits.end c.pages_of_bits-pages.result
    c.in-Some.ensures.span.near c.in-Some.ensures.span.far c.pages_of_bits-pages.ensures)
    c.requires.room

pub bring_pages-requires-clause-tables : goal.bring_pages-requires-clause-tables
bring_pages-requires-clause-tables g c = c.requires.readable.tables

pub returns-in_err-bring_pages-clause-few : goal.returns-in_err-bring_pages-clause-few
returns-in_err-bring_pages-clause-few g c =
    few_bits c.args.missing (length c.bring_pages.new.self.pending) (length c.args.tables.now.pending) c.pages_of_bits-pages.result (most_bit_pages (shape_of c.args.tables.now.parts) c.args.count) c.if-missing.false c.bring_pages.ensures.few
    (pages_few (shape_of c.args.tables.now.parts) (record { sector = c.requires.readable.sizes.sector; block = c.requires.readable.sizes.block }) (c.args.sector / 2 ^ 23) c.args.first c.args.count c.in-Some.bits.first c.in-Some.bits.end c.pages_of_bits-pages.result
    c.in-Some.ensures.span.near c.in-Some.ensures.span.far c.pages_of_bits-pages.ensures)

pub returns-in_err-bring_pages-clause-there : goal.returns-in_err-bring_pages-clause-there
returns-in_err-bring_pages-clause-there g c e = c.requires.there e

pub returns-in_err-bring_pages-clause-err : goal.returns-in_err-bring_pages-clause-err
returns-in_err-bring_pages-clause-err g c = failed_for c.from_residual.result _ c.from_residual.ensures.1 _ c.in_err-bring_pages.ensures.err

pub name_bitmap-requires-clause-sizes : goal.name_bitmap-requires-clause-sizes
name_bitmap-requires-clause-sizes g c = c.requires.readable.sizes

pub name_bitmap-requires-clause-on_disk : goal.name_bitmap-requires-clause-on_disk
name_bitmap-requires-clause-on_disk g c = c.requires.fit.on_disk

pub name_bitmap-requires-clause-few : goal.name_bitmap-requires-clause-few
name_bitmap-requires-clause-few g c = none_more _ _ c.requires.fit.few

pub returns-clause-few : goal.returns-clause-few
returns-clause-few g c =
    few_bits c.args.missing (length c.bring_pages.new.self.pending) (length c.args.tables.now.pending) c.pages_of_bits-pages.result (most_bit_pages (shape_of c.args.tables.now.parts) c.args.count) c.if-missing.false c.bring_pages.ensures.few
    (pages_few (shape_of c.args.tables.now.parts) (record { sector = c.requires.readable.sizes.sector; block = c.requires.readable.sizes.block }) (c.args.sector / 2 ^ 23) c.args.first c.args.count c.in-Some.bits.first c.in-Some.bits.end c.pages_of_bits-pages.result
    c.in-Some.ensures.span.near c.in-Some.ensures.span.far c.pages_of_bits-pages.ensures)

pub returns-clause-len : goal.returns-clause-len
returns-clause-len g c = c.name_bitmap.ensures.len

pub returns-clause-same : goal.returns-clause-same
returns-clause-same g c e = absurd (true_false (sym e ∙ (let off : c.args.missing ≡ false = c.if-missing.false in off)))

pub returns-clause-named : goal.returns-clause-named
returns-clause-named g c e = c.name_bitmap.ensures.named

pub returns-clause-stays : goal.returns-clause-stays
returns-clause-stays g c = c.in_ok-bring_pages.ensures.stays
