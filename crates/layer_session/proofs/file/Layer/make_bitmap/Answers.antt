use Rattle.std.proofs.Common.{◌≡◌, ◌∙◌, true, ◌+◌, ◌*◌, ◌/◌, ◌%◌, ◌^◌, ◌-◌, ◌<◌, ◌≤◌, length, ap, arith, refl, sym, subst}
use Rattle.vhdx_format.specs.Fields.{megabyte}
use Rattle.log_format.specs.PendingPages.{has_place}
use Rattle.layer_session.specs.declared.file.Layer.{Layer}
use Rattle.table_pages.specs.Held.{AreChanged, bit_pages, entry_place}
use Rattle.table_pages.specs.Pages.{page_place}
use Rattle.layer_session.proofs.Exits.{bits_within, less_le}
use Rattle.layer_session.proofs.Known.{end_longer, log_long, more_pages, pages_inside, place_aligned, place_ends, place_fits, same_plans, same_space, unit_fits}
use Rattle.layer_session.proofs.WriteSteps.{open_for}
use Rattle.std.proofs.lemmas.Bool.{leb-true}
use Rattle.store_model.specs.Disk.{Disk, WhereBothTold}
use Rattle.table_pages.proofs.Knowing.{adds_place}
use Rattle.layer_session.specs.Bringing.{HasMade, LeadsTo}
use Rattle.layer_session.proofs.Making.{done_leads, done_made, grown_ready, making_breaks}
use Rattle.layer_session.proofs.file.Layer.make_bitmap.Goals as goal

pub set_entry-requires-clause-readable : goal.set_entry-requires-clause-readable
set_entry-requires-clause-readable g c =
    let unit : c.in-Ok.unit ≡ c.args.self.now.space.next = c.in-Ok.ensures.given.1 in
    let low : c.args.self.now.space.next + 1 ≤ 2 ^ 43 = leb-true _ _ c.requires.lacks.room in
    (grown_ready c.args.self.now (g.S.Store.disk c.args.store.now) (g.S.Store.disk c.grow.new.store) c.requires.ready c.in-Ok.unit c.place_in.result unit low c.place_in.ensures c.in_default.ensures.ok c.grow.new.self c.take_end.new.self
    c.in_default.ensures.log c.in-Ok.ensures.taken).readable

pub returns-in-Err-grow-clause-leads : goal.returns-in-Err-grow-clause-leads
returns-in-Err-grow-clause-leads g c = making_breaks c.args.self.now c.grow.new.self c.take_end.new.self (g.S.Store.disk c.args.store.now) (g.S.Store.disk c.grow.new.store) c.in-Err-grow.fault c.requires.ready c.in-Err-grow.ensures.err

pub bring_zeros-requires-clause-room : goal.bring_zeros-requires-clause-room
bring_zeros-requires-clause-room g c = let h = c.set_entry.ensures.few in let k = c.requires.lacks.few in omega (arith, h, k, c.pages_of_bits-pages.ensures)

pub returns-clause-leads : goal.returns-clause-leads
returns-clause-leads g c =
    let unit : c.in-Ok.unit ≡ c.args.self.now.space.next = c.in-Ok.ensures.given.1 in
    let low : c.args.self.now.space.next + 1 ≤ 2 ^ 43 = leb-true _ _ c.requires.lacks.room in
    subst (LeadsTo c.args.self.now (record (c.set_entry.new.self) { tables = c.bring_zeros.new.self }) (g.S.Store.disk c.args.store.now)) (sym c.set_entry.ensures.stays)
    (done_leads c.args.self.now (g.S.Store.disk c.args.store.now) (g.S.Store.disk c.grow.new.store) c.requires.ready c.in-Ok.unit c.place_in.result unit low c.place_in.ensures c.in_default.ensures.ok c.grow.new.self c.take_end.new.self
    c.in_default.ensures.log c.in-Ok.ensures.taken
    c.set_entry.new.self c.set_entry.ensures.only c.args.sector c.pack-word.result c.bitmap_entry_index-index.result c.requires.sector c.requires.lacks.parent c.pack-word.ensures.read_back.0 c.pack-word.ensures.read_back.1
    (omega (arith, c.pack-word.ensures.word, unit, low)) c.bitmap_entry_index-index.ensures.index c.bitmap_entry_index-index.ensures.inside c.requires.lacks.missing c.set_entry.ensures.parts c.set_entry.ensures.set c.set_entry.ensures.tables c.set_entry.ensures.places
    c.bring_zeros.new.self (c.args.bits.first % 2 ^ 23 / 32768) c.pages_of_bits-pages.result (omega (arith, c.pages_of_bits-pages.ensures, c.requires.bits.from, c.requires.bits.to, c.requires.bits.some)) c.bring_zeros.ensures.parts c.bring_zeros.ensures.within
    c.bring_zeros.ensures.places c.bring_zeros.ensures.held)

pub returns-clause-keeps : goal.returns-clause-keeps
returns-clause-keeps g c at h = c.bring_zeros.ensures.within.keeps at ((adds_place _ c.set_entry.ensures.set.put.bytes c.args.self.now.tables.pending c.set_entry.new.self.tables.pending c.set_entry.ensures.set.put.pages).keeps at h)

pub returns-clause-few : goal.returns-clause-few
returns-clause-few g c = let h = c.set_entry.ensures.few in let k = c.bring_zeros.ensures.few in omega (arith, h, k, c.pages_of_bits-pages.ensures)

pub returns-clause-made : goal.returns-clause-made
returns-clause-made g c =
    let unit : c.in-Ok.unit ≡ c.args.self.now.space.next = c.in-Ok.ensures.given.1 in
    let low : c.args.self.now.space.next + 1 ≤ 2 ^ 43 = leb-true _ _ c.requires.lacks.room in
    subst (λ (d : Disk). WhereBothTold (HasMade c.args.self.now (record (c.set_entry.new.self) { tables = c.bring_zeros.new.self }) c.args.sector c.pack-word.result) (g.S.Store.disk c.args.store.now).told d.told) (sym c.set_entry.ensures.stays)
    (done_made c.args.self.now (g.S.Store.disk c.args.store.now) (g.S.Store.disk c.grow.new.store) c.requires.ready c.in-Ok.unit c.place_in.result unit low c.place_in.ensures c.in_default.ensures.ok c.grow.new.self c.take_end.new.self
    c.in_default.ensures.log c.in-Ok.ensures.taken
    c.set_entry.new.self c.set_entry.ensures.only c.args.sector c.pack-word.result c.bitmap_entry_index-index.result c.requires.sector c.requires.lacks.parent c.pack-word.ensures.read_back.0 c.pack-word.ensures.read_back.1
    (omega (arith, c.pack-word.ensures.word, unit, low)) c.bitmap_entry_index-index.ensures.index c.bitmap_entry_index-index.ensures.inside c.requires.lacks.missing c.set_entry.ensures.parts c.set_entry.ensures.set c.set_entry.ensures.tables c.set_entry.ensures.places
    c.bring_zeros.new.self (c.args.bits.first % 2 ^ 23 / 32768) c.pages_of_bits-pages.result (omega (arith, c.pages_of_bits-pages.ensures, c.requires.bits.from, c.requires.bits.to, c.requires.bits.some)) c.bring_zeros.ensures.parts c.bring_zeros.ensures.within
    c.bring_zeros.ensures.places c.bring_zeros.ensures.held)

pub bitmap_entry_index-index-requires-clause-parts : goal.bitmap_entry_index-index-requires-clause-parts
bitmap_entry_index-index-requires-clause-parts g c = c.requires.ready.readable.sizes

pub bitmap_entry_index-index-requires-clause-parent : goal.bitmap_entry_index-index-requires-clause-parent
bitmap_entry_index-index-requires-clause-parent g c = c.requires.lacks.parent

pub bitmap_entry_index-index-requires-clause-sector : goal.bitmap_entry_index-index-requires-clause-sector
bitmap_entry_index-index-requires-clause-sector g c = c.requires.sector

pub returns-in-Err-clause-leads : goal.returns-in-Err-clause-leads
returns-in-Err-clause-leads g c = absurd (c.in-Err.ensures.given c.requires.lacks.room)

pub returns-in-Err-clause-refused : goal.returns-in-Err-clause-refused
returns-in-Err-clause-refused g c = absurd (c.in-Err.ensures.given c.requires.lacks.room)

pub returns-in-Err-clause-plans : goal.returns-in-Err-clause-plans
returns-in-Err-clause-plans g c = absurd (c.in-Err.ensures.given c.requires.lacks.room)

pub returns-in-Err-clause-log : goal.returns-in-Err-clause-log
returns-in-Err-clause-log g c = absurd (c.in-Err.ensures.given c.requires.lacks.room)

pub returns-in-Err-clause-few : goal.returns-in-Err-clause-few
returns-in-Err-clause-few g c = absurd (c.in-Err.ensures.given c.requires.lacks.room)

pub returns-in-Err-clause-keeps : goal.returns-in-Err-clause-keeps
returns-in-Err-clause-keeps g c at there = absurd (c.in-Err.ensures.given c.requires.lacks.room)

pub place_in-requires : goal.place_in-requires
place_in-requires g c = unit_fits c.in-Ok.unit c.args.self.now.space.next c.in-Ok.ensures.given.1 (leb-true _ _ c.requires.lacks.room)

pub grow-requires-clause-there : goal.grow-requires-clause-there
grow-requires-clause-there g c = subst (λ f. f < (g.S.Store.disk c.args.store.now).files) (sym c.requires.ready.one_file) c.requires.ready.readable.there

pub grow-requires-clause-longer : goal.grow-requires-clause-longer
grow-requires-clause-longer g c = end_longer c.args.self.now.log.len c.args.self.now.space.next c.in-Ok.unit c.place_in.result c.requires.ready.next c.in-Ok.ensures.given.1 (leb-true _ _ c.requires.lacks.room) c.place_in.ensures

pub grow-requires-clause-open : goal.grow-requires-clause-open
grow-requires-clause-open g c = open_for c.args.self.now (g.S.Store.disk c.args.store.now) c.requires.ready

pub returns-in-Err-grow-clause-plans : goal.returns-in-Err-grow-clause-plans
returns-in-Err-grow-clause-plans g c = refl

pub returns-in-Err-grow-clause-log : goal.returns-in-Err-grow-clause-log
returns-in-Err-grow-clause-log g c = log_long c.args.self.now.log c.grow.new.self c.args.self.now.log.len c.in-Err-grow.ensures.kept

pub returns-in-Err-grow-clause-keeps : goal.returns-in-Err-grow-clause-keeps
returns-in-Err-grow-clause-keeps g c at there = there

pub returns-in-Err-grow-clause-few : goal.returns-in-Err-grow-clause-few
returns-in-Err-grow-clause-few g c = more_pages (length c.args.self.now.tables.pending) (bit_pages (c.args.bits.first % 2 ^ 23) (c.args.bits.end - c.args.bits.first))

pub set_entry-requires-clause-inside : goal.set_entry-requires-clause-inside
set_entry-requires-clause-inside g c = c.bitmap_entry_index-index.ensures.inside

pub set_entry-requires-clause-at_hand : goal.set_entry-requires-clause-at_hand
set_entry-requires-clause-at_hand g c = subst (λ i. has_place (page_place (entry_place c.args.self.now.tables.parts i)) c.args.self.now.tables.pending ≡ true) (sym c.bitmap_entry_index-index.ensures.index) c.requires.lacks.entry

pub overflow_sub-bits : goal.overflow_sub-bits
overflow_sub-bits g c = less_le c.args.bits.first c.args.bits.end c.requires.bits.some

pub pages_of_bits-pages-requires : goal.pages_of_bits-pages-requires
pages_of_bits-pages-requires g c = bits_within (c.args.sector / 2 ^ 23) c.args.bits.first c.args.bits.end c.requires.bits.from c.requires.bits.some c.requires.bits.to

pub bring_zeros-requires-clause-aligned : goal.bring_zeros-requires-clause-aligned
bring_zeros-requires-clause-aligned g c = place_aligned c.pack-word.result

pub bring_zeros-requires-clause-within : goal.bring_zeros-requires-clause-within
bring_zeros-requires-clause-within g c = pages_inside (c.args.bits.first % 2 ^ 23) (c.args.bits.end - c.args.bits.first) c.pages_of_bits-pages.result (bits_within (c.args.sector / 2 ^ 23) c.args.bits.first c.args.bits.end c.requires.bits.from c.requires.bits.some c.requires.bits.to) c.pages_of_bits-pages.ensures

pub returns-clause-space : goal.returns-clause-space
returns-clause-space g c = same_space (record (c.args.self.now) { log = c.grow.new.self; space = c.take_end.new.self }) c.set_entry.new.self c.set_entry.ensures.only ∙ c.in-Ok.ensures.taken

pub returns-clause-plans : goal.returns-clause-plans
returns-clause-plans g c = same_plans (record (c.args.self.now) { log = c.grow.new.self; space = c.take_end.new.self }) c.set_entry.new.self c.set_entry.ensures.only

pub returns-clause-log : goal.returns-clause-log
returns-clause-log g c = log_long c.args.self.now.log c.set_entry.new.self.log c.place_in.result (ap (λ (l : Layer). l.log) c.set_entry.ensures.only ∙ c.in_default.ensures.log)

pub returns-clause-at_hand : goal.returns-clause-at_hand
returns-clause-at_hand g c = subst (λ n. AreChanged (c.pack-word.result / 2 ^ 20 * megabyte) (c.args.bits.first % 2 ^ 23 / 32768) n c.bring_zeros.new.self.pending) c.pages_of_bits-pages.ensures c.bring_zeros.ensures.changed

pub returns-clause-six : goal.returns-clause-six
returns-clause-six g c = c.pack-word.ensures.read_back.0

pub pack-word-requires-clause-unit : goal.pack-word-requires-clause-unit
pack-word-requires-clause-unit g c = unit_fits c.in-Ok.unit c.args.self.now.space.next c.in-Ok.ensures.given.1 (leb-true _ _ c.requires.lacks.room)

pub overflow_mul-word : goal.overflow_mul-word
overflow_mul-word g c =
    let unit = c.in-Ok.ensures.given.1 in let low : c.args.self.now.space.next + 1 ≤ 2 ^ 43 = leb-true _ _ c.requires.lacks.room in
    place_fits c.pack-word.result (omega (arith, c.pack-word.ensures.word, unit, low))

pub bring_zeros-requires-clause-end : goal.bring_zeros-requires-clause-end
bring_zeros-requires-clause-end g c =
    let unit = c.in-Ok.ensures.given.1 in let low : c.args.self.now.space.next + 1 ≤ 2 ^ 43 = leb-true _ _ c.requires.lacks.room in
    place_ends c.pack-word.result (omega (arith, c.pack-word.ensures.word, unit, low))
