use Rattle.std.proofs.Common.{◌∙◌, List, length, inl, refl, subst, true, ◌+◌, ◌*◌, ◌<◌, ◌≤◌, sym}
use Rattle.vx_base.proofs.Handed.{failed_for, not_ok, ok_then}
use Rattle.layer_session.proofs.Exits.{last_on, le_more}
use Rattle.layer_session.proofs.Sectors.{first_below}
use Rattle.layer_session.proofs.Known.{brought_none, end_fits, entry_few, fails_from, few_two, none_more, of_parts, room_next, room_one, some_sum}
use Rattle.vhdx_format.specs.declared.log_entry.Page.{Page}
use Rattle.table_pages.specs.Held.{Adds, entry_place, AreTablesIn, HasTables}
use Rattle.table_pages.specs.Pages.{page_place}
use Rattle.table_pages.specs.declared.tables.TableParts.{TableParts}
use Rattle.layer_session.proofs.BothChunks.{entries_set, entries_unset, brought_then}
use Rattle.table_pages.specs.declared.tables.Tables.{Tables}
use Rattle.layer_session.specs.Bringing.{HasBrought}
use Rattle.layer_session.proofs.EntryBrought.{entry_brought}
use Rattle.layer_session.proofs.preparing.bring_entries.Goals as goal

pub returns-then-not-set_entries-clause-at_hand : goal.returns-then-not-set_entries-clause-at_hand
returns-then-not-set_entries-clause-at_hand g c = entries_unset c.args.tables.now.parts c.args.tables.now c.args.plans.now c.args.first c.args.count (c.set_entries.ensures.none c.if-not-set_entries.true)

pub returns-clause-at_hand : goal.returns-clause-at_hand
returns-clause-at_hand g c =
    let parts : TableParts = c.args.tables.now.parts in
    let mid : List Page = c.bring_entry.new.self.pending in
    let one = subst (λ n. Adds (page_place (entry_place parts n)) c.args.tables.now.pending mid) c.entry_index.ensures.index c.in_ok-bring_entry.ensures.adds in
    ok_then c.bring_entry-2.result (λ adds.
    entries_set parts c.bring_entry-2.new.self (c.bring_entry-2.ensures.parts ∙ c.bring_entry.ensures.parts) c.requires.readable.sizes c.args.plans.now c.args.first c.args.count c.requires.fit.size c.set_entries.ensures.there c.args.tables.now.pending mid one
    (subst (λ n. Adds (page_place (entry_place parts n)) mid c.bring_entry-2.new.self.pending) c.entry_index-2.ensures.index (subst (λ (x : TableParts). Adds (page_place (entry_place x c.entry_index-2.result)) mid c.bring_entry-2.new.self.pending) c.bring_entry.ensures.parts adds)))
    c.bring_entry-2.ensures.adds

pub bring_entry-requires-2-clause-tables : goal.bring_entry-requires-2-clause-tables
bring_entry-requires-2-clause-tables g c = subst (AreTablesIn c.bring_entry.new.self) (sym c.in_ok-bring_entry.ensures.stays) c.bring_entry.ensures.tables

pub returns-clause-brought : goal.returns-clause-brought
returns-clause-brought g c =
    let old : Tables = c.args.tables.now in
    let mid : Tables = c.bring_entry.new.self in
    let new : Tables = c.bring_entry-2.new.self in
    brought_then old mid new (g.S.Store.disk c.args.store.now)
    (entry_brought old mid (g.S.Store.disk c.args.store.now) c.entry_index.result c.bring_entry.result c.requires.readable.sizes c.entry_index.ensures.inside c.bring_entry.ensures.parts c.bring_entry.ensures.adds c.bring_entry.ensures.unchanged
    c.bring_entry.ensures.tables c.bring_entry.ensures.held c.bring_entry.ensures.places)
    (subst (HasBrought mid new) c.in_ok-bring_entry.ensures.stays
    (entry_brought mid new (g.S.Store.disk c.bring_entry.new.store) c.entry_index-2.result c.bring_entry-2.result (subst HasTables (sym c.bring_entry.ensures.parts) c.requires.readable.sizes)
    (subst (λ (x : TableParts). 8 * c.entry_index-2.result + 8 ≤ x.bat_len) (sym c.bring_entry.ensures.parts) c.entry_index-2.ensures.inside) c.bring_entry-2.ensures.parts c.bring_entry-2.ensures.adds c.bring_entry-2.ensures.unchanged
    c.bring_entry-2.ensures.tables c.bring_entry-2.ensures.held c.bring_entry-2.ensures.places))

pub set_entries-requires-clause-sizes : goal.set_entries-requires-clause-sizes
set_entries-requires-clause-sizes g c = c.requires.readable.sizes

pub set_entries-requires-clause-on_disk : goal.set_entries-requires-clause-on_disk
set_entries-requires-clause-on_disk g c = c.requires.fit.on_disk

pub set_entries-requires-clause-few : goal.set_entries-requires-clause-few
set_entries-requires-clause-few g c = none_more _ _ c.requires.fit.few

pub returns-then-not-set_entries-clause-brought : goal.returns-then-not-set_entries-clause-brought
returns-then-not-set_entries-clause-brought g c = brought_none c.args.tables.now (g.S.Store.disk c.args.store.now) c.requires.readable.tables

pub returns-then-not-set_entries-clause-few : goal.returns-then-not-set_entries-clause-few
returns-then-not-set_entries-clause-few g c = le_more (length c.args.tables.now.pending) 2

pub returns-then-not-set_entries-clause-stays : goal.returns-then-not-set_entries-clause-stays
returns-then-not-set_entries-clause-stays g c = refl

pub overflow_add-last : goal.overflow_add-last
overflow_add-last g c = end_fits c.args.tables.now.parts c.requires.readable.sizes c.args.first c.args.count c.requires.fit.on_disk

pub overflow_sub-last : goal.overflow_sub-last
overflow_sub-last g c = some_sum c.args.first c.args.count c.requires.some

pub entry_index-requires-clause-parts : goal.entry_index-requires-clause-parts
entry_index-requires-clause-parts g c = c.requires.readable.sizes

pub entry_index-requires-2-clause-parts : goal.entry_index-requires-2-clause-parts
entry_index-requires-2-clause-parts g c = c.requires.readable.sizes

pub entry_index-requires-clause-sector : goal.entry_index-requires-clause-sector
entry_index-requires-clause-sector g c = first_below c.args.first c.args.count _ c.requires.some c.requires.fit.on_disk

pub entry_index-requires-2-clause-sector : goal.entry_index-requires-2-clause-sector
entry_index-requires-2-clause-sector g c = last_on c.args.first c.args.count _ c.requires.some c.requires.fit.on_disk

pub bring_entry-requires-clause-there : goal.bring_entry-requires-clause-there
bring_entry-requires-clause-there g c = c.requires.readable.there

pub bring_entry-requires-clause-parts : goal.bring_entry-requires-clause-parts
bring_entry-requires-clause-parts g c = c.requires.readable.sizes

pub bring_entry-requires-clause-index : goal.bring_entry-requires-clause-index
bring_entry-requires-clause-index g c = c.entry_index.ensures.inside

pub bring_entry-requires-clause-tables : goal.bring_entry-requires-clause-tables
bring_entry-requires-clause-tables g c = c.requires.readable.tables

pub bring_entry-requires-clause-room : goal.bring_entry-requires-clause-room
bring_entry-requires-clause-room g c = inl (room_one (length c.args.tables.now.pending) 0 c.requires.room)

pub returns-in_err-bring_entry-clause-brought : goal.returns-in_err-bring_entry-clause-brought
returns-in_err-bring_entry-clause-brought g c =
    entry_brought c.args.tables.now c.bring_entry.new.self (g.S.Store.disk c.args.store.now) c.entry_index.result c.bring_entry.result c.requires.readable.sizes c.entry_index.ensures.inside c.bring_entry.ensures.parts c.bring_entry.ensures.adds c.bring_entry.ensures.unchanged
    c.bring_entry.ensures.tables c.bring_entry.ensures.held c.bring_entry.ensures.places

pub returns-in_err-bring_entry-clause-few : goal.returns-in_err-bring_entry-clause-few
returns-in_err-bring_entry-clause-few g c = subst (λ (p : List Page). length p ≤ length c.args.tables.now.pending + 2) (sym c.in_err-bring_entry.ensures.unchanged) (le_more (length c.args.tables.now.pending) 2)

pub returns-in_err-bring_entry-clause-at_hand : goal.returns-in_err-bring_entry-clause-at_hand
returns-in_err-bring_entry-clause-at_hand g c = not_ok c.from_residual.result _ c.from_residual.ensures.1 _

pub returns-in_err-bring_entry-clause-stays : goal.returns-in_err-bring_entry-clause-stays
returns-in_err-bring_entry-clause-stays g c = not_ok c.from_residual.result _ c.from_residual.ensures.1 _

pub returns-in_err-bring_entry-clause-err : goal.returns-in_err-bring_entry-clause-err
returns-in_err-bring_entry-clause-err g c = failed_for c.from_residual.result _ c.from_residual.ensures.1 _ c.in_err-bring_entry.ensures.err

pub bring_entry-requires-2-clause-there : goal.bring_entry-requires-2-clause-there
bring_entry-requires-2-clause-there g c = subst (λ d. c.bring_entry.new.self.parts.file < d.files) (sym c.in_ok-bring_entry.ensures.stays) (of_parts (λ p. p.file < (g.S.Store.disk c.args.store.now).files) _ _ c.bring_entry.ensures.parts c.requires.readable.there)

pub bring_entry-requires-2-clause-parts : goal.bring_entry-requires-2-clause-parts
bring_entry-requires-2-clause-parts g c = of_parts HasTables _ _ c.bring_entry.ensures.parts c.requires.readable.sizes

pub bring_entry-requires-2-clause-index : goal.bring_entry-requires-2-clause-index
bring_entry-requires-2-clause-index g c = of_parts (λ p. 8 * c.entry_index-2.result + 8 ≤ p.bat_len) _ _ c.bring_entry.ensures.parts c.entry_index-2.ensures.inside

pub bring_entry-requires-2-clause-room : goal.bring_entry-requires-2-clause-room
bring_entry-requires-2-clause-room g c = inl (room_next (length c.args.tables.now.pending) (length c.bring_entry.new.self.pending) c.in_ok-bring_entry.ensures.adds.few c.requires.room)

pub returns-clause-few : goal.returns-clause-few
returns-clause-few g c =
    few_two (length c.args.tables.now.pending) (length c.bring_entry.new.self.pending) (length c.bring_entry-2.new.self.pending) c.in_ok-bring_entry.ensures.adds.few
    (entry_few c.bring_entry-2.result _ c.bring_entry.new.self.pending c.bring_entry-2.new.self.pending true 0 refl c.bring_entry-2.ensures.adds c.bring_entry-2.ensures.unchanged)

pub returns-clause-stays : goal.returns-clause-stays
returns-clause-stays g c = ok_then c.bring_entry-2.result (λ e. e ∙ c.in_ok-bring_entry.ensures.stays) c.bring_entry-2.ensures.stays

pub returns-clause-err : goal.returns-clause-err
returns-clause-err g c = fails_from c.bring_entry-2.result _ _ _ _ _ c.bring_entry.ensures.parts c.in_ok-bring_entry.ensures.stays c.bring_entry-2.ensures.err
