use Rattle.std.proofs.Common.{◌≡◌, ◌+◌, ◌-◌, ◌/◌, ◌<◌, ◌≤◌, ◌^◌, ◌∙◌, true, length, if◌then◌else◌, ap, refl, subst, sym}
use Rattle.std.specs.Prelude.{Some}
use Rattle.vx_base.proofs.Handed.{failed_for, not_ok, ok_then, on_ok_any}
use Rattle.store_model.specs.Disk.{Disk}
use Rattle.store_model.specs.Trace.{Trace}
use Rattle.table_pages.specs.Held.{held_file, shape_of}
use Rattle.table_pages.specs.declared.tables.TableParts.{TableParts}
use Rattle.layer_session.specs.SectorRanges.{FitInCall}
use Rattle.layer_session.specs.ByTables.{most_brought}
use Rattle.layer_session.specs.Bringing.{HasBrought, most_bit_pages}
use Rattle.layer_session.specs.TablesRead.{AreReadable}
use Rattle.layer_session.proofs.BothChunks.{brings_one, brings_two, brought_then, keeps_of, names_of, names_on, names_two, readable_brought, two_if}
use Rattle.layer_session.proofs.Exits.{last_on}
use Rattle.layer_session.proofs.Sectors.{first_below}
use Rattle.layer_session.proofs.Known.{end_fits, entry_least, failed_from, fails_from, few_far, few_near, more_room, of_parts, room_entries, room_far, room_near, some_sum}
use Rattle.layer_session.proofs.preparing.bring.Goals as goal

pub returns-in_err-bring_chunk-clause-brought : goal.returns-in_err-bring_chunk-clause-brought
returns-in_err-bring_chunk-clause-brought g c =
    brought_then c.args.tables.now c.bring_entries.new.tables c.bring_chunk.new.tables (g.S.Store.disk c.args.store.now) c.bring_entries.ensures.brought
    (subst (HasBrought c.bring_entries.new.tables c.bring_chunk.new.tables) c.in_ok-bring_entries.ensures.stays c.bring_chunk.ensures.brought)

pub returns-then-last-first-clause-brought : goal.returns-then-last-first-clause-brought
returns-then-last-first-clause-brought g c =
    brought_then c.args.tables.now c.bring_entries.new.tables c.bring_chunk.new.tables (g.S.Store.disk c.args.store.now) c.bring_entries.ensures.brought
    (subst (HasBrought c.bring_entries.new.tables c.bring_chunk.new.tables) c.in_ok-bring_entries.ensures.stays c.bring_chunk.ensures.brought)

pub returns-then-last-first-clause-brings : goal.returns-then-last-first-clause-brings
returns-then-last-first-clause-brings g c =
    brings_one c.args.tables.now.parts c.args.missing c.args.first c.args.count c.bring_entries.new.tables c.bring_chunk.new.tables c.args.plans.now c.bring_chunk.new.plans c.bring_entries.ensures.brought.parts_are
    (keeps_of c.bring_entries.new.tables c.bring_chunk.new.tables (g.S.Store.disk c.bring_entries.new.store) c.bring_chunk.ensures.brought) c.in_ok-bring_entries.ensures.at_hand c.bring_chunk.ensures.same c.bring_chunk.ensures.named
    c.in_ok-bring_chunk.ensures.at_hand c.in_ok-bring_chunk.ensures.entry c.if-last-first.true

pub bring_chunk-requires-2-clause-readable : goal.bring_chunk-requires-2-clause-readable
bring_chunk-requires-2-clause-readable g c =
    subst (AreReadable c.bring_chunk.new.tables) (sym (c.in_ok-bring_chunk.ensures.stays ∙ c.in_ok-bring_entries.ensures.stays))
    (readable_brought c.args.tables.now c.bring_chunk.new.tables (g.S.Store.disk c.args.store.now) c.requires.readable
    (brought_then c.args.tables.now c.bring_entries.new.tables c.bring_chunk.new.tables (g.S.Store.disk c.args.store.now) c.bring_entries.ensures.brought
    (subst (HasBrought c.bring_entries.new.tables c.bring_chunk.new.tables) c.in_ok-bring_entries.ensures.stays c.bring_chunk.ensures.brought)))

pub bring_chunk-requires-2-clause-there : goal.bring_chunk-requires-2-clause-there
bring_chunk-requires-2-clause-there g c e t told =
    let disk : Disk = g.S.Store.disk c.args.store.now in
    let here : disk.told ≡ Some t = ap (λ (d : Disk). d.told) (sym (c.in_ok-bring_chunk.ensures.stays ∙ c.in_ok-bring_entries.ensures.stays)) ∙ told in
    let b = brought_then c.args.tables.now c.bring_entries.new.tables c.bring_chunk.new.tables disk c.bring_entries.ensures.brought
    (subst (HasBrought c.bring_entries.new.tables c.bring_chunk.new.tables) c.in_ok-bring_entries.ensures.stays c.bring_chunk.ensures.brought) in
    names_of c.args.tables.now.parts c.bring_chunk.new.tables.parts c.bring_chunk.new.plans ((c.args.first + c.args.count - 1) / 2 ^ 23) (held_file c.args.tables.now t) (held_file c.bring_chunk.new.tables t) c.args.first c.args.count b.parts_are (b.held t here)
    (names_on c.args.tables.now.parts c.args.missing c.args.first c.args.count c.bring_entries.new.tables c.bring_chunk.new.tables c.args.plans.now c.bring_chunk.new.plans c.bring_entries.ensures.brought.parts_are
    (keeps_of c.bring_entries.new.tables c.bring_chunk.new.tables (g.S.Store.disk c.bring_entries.new.store) c.bring_chunk.ensures.brought) c.in_ok-bring_entries.ensures.at_hand c.bring_chunk.ensures.same c.bring_chunk.ensures.named
    c.in_ok-bring_chunk.ensures.at_hand c.in_ok-bring_chunk.ensures.entry (held_file c.args.tables.now t) c.if-last-first.false (c.requires.far_there c.if-last-first.false e t here))

pub returns-clause-brought : goal.returns-clause-brought
returns-clause-brought g c =
    brought_then c.args.tables.now c.bring_chunk.new.tables c.bring_chunk-2.new.tables (g.S.Store.disk c.args.store.now)
    (brought_then c.args.tables.now c.bring_entries.new.tables c.bring_chunk.new.tables (g.S.Store.disk c.args.store.now) c.bring_entries.ensures.brought
    (subst (HasBrought c.bring_entries.new.tables c.bring_chunk.new.tables) c.in_ok-bring_entries.ensures.stays c.bring_chunk.ensures.brought))
    (subst (HasBrought c.bring_chunk.new.tables c.bring_chunk-2.new.tables) (c.in_ok-bring_chunk.ensures.stays ∙ c.in_ok-bring_entries.ensures.stays) c.bring_chunk-2.ensures.brought)

pub returns-clause-brings : goal.returns-clause-brings
returns-clause-brings g c =
    two_if c.bring_chunk-2.result (λ far far_entry.
    brings_two c.args.tables.now.parts c.args.missing c.args.first c.args.count c.bring_entries.new.tables c.bring_chunk.new.tables c.args.plans.now c.bring_chunk.new.plans c.bring_entries.ensures.brought.parts_are
    (keeps_of c.bring_entries.new.tables c.bring_chunk.new.tables (g.S.Store.disk c.bring_entries.new.store) c.bring_chunk.ensures.brought) c.in_ok-bring_entries.ensures.at_hand c.bring_chunk.ensures.same c.bring_chunk.ensures.named
    c.in_ok-bring_chunk.ensures.at_hand c.in_ok-bring_chunk.ensures.entry c.bring_chunk-2.new.tables c.bring_chunk-2.new.plans (c.bring_chunk.ensures.brought.parts_are ∙ c.bring_entries.ensures.brought.parts_are)
    (keeps_of c.bring_chunk.new.tables c.bring_chunk-2.new.tables (g.S.Store.disk c.bring_chunk.new.store) c.bring_chunk-2.ensures.brought) c.bring_chunk-2.ensures.same c.bring_chunk-2.ensures.named c.if-last-first.false far far_entry)
    c.bring_chunk-2.ensures.at_hand c.bring_chunk-2.ensures.entry

pub returns-clause-near_there : goal.returns-clause-near_there
returns-clause-near_there g c e =
    on_ok_any c.bring_chunk-2.result _ (λ (t : Trace) (told : (g.S.Store.disk c.args.store.now).told ≡ Some t).
    names_two c.args.tables.now.parts c.args.missing c.args.first c.args.count c.bring_entries.new.tables c.bring_chunk.new.tables c.args.plans.now c.bring_chunk.new.plans c.bring_entries.ensures.brought.parts_are
    (keeps_of c.bring_entries.new.tables c.bring_chunk.new.tables (g.S.Store.disk c.bring_entries.new.store) c.bring_chunk.ensures.brought) c.in_ok-bring_entries.ensures.at_hand c.bring_chunk.ensures.same c.bring_chunk.ensures.named
    c.in_ok-bring_chunk.ensures.at_hand c.in_ok-bring_chunk.ensures.entry c.bring_chunk-2.new.tables c.bring_chunk-2.new.plans (c.bring_chunk.ensures.brought.parts_are ∙ c.bring_entries.ensures.brought.parts_are)
    (keeps_of c.bring_chunk.new.tables c.bring_chunk-2.new.tables (g.S.Store.disk c.bring_chunk.new.store) c.bring_chunk-2.ensures.brought) c.bring_chunk-2.ensures.same c.bring_chunk-2.ensures.named
    (held_file c.args.tables.now t) c.if-last-first.false
    (names_of c.bring_entries.new.tables.parts c.args.tables.now.parts c.bring_chunk.new.plans (c.args.first / 2 ^ 23) (held_file c.bring_entries.new.tables t) (held_file c.args.tables.now t) c.args.first c.args.count
    (sym c.bring_entries.ensures.brought.parts_are) (sym (c.bring_entries.ensures.brought.held t told))
    (c.bring_chunk.ensures.there e t (ap (λ (d : Disk). d.told) c.in_ok-bring_entries.ensures.stays ∙ told))))

pub bring_chunk-requires-clause-readable : goal.bring_chunk-requires-clause-readable
bring_chunk-requires-clause-readable g c =
    subst (AreReadable c.bring_entries.new.tables) (sym c.in_ok-bring_entries.ensures.stays)
    (readable_brought c.args.tables.now c.bring_entries.new.tables (g.S.Store.disk c.args.store.now) c.requires.readable c.bring_entries.ensures.brought)

pub returns-clause-far_there : goal.returns-clause-far_there
returns-clause-far_there g c goes e =
    let disk : Disk = g.S.Store.disk c.args.store.now in
    let b = brought_then c.args.tables.now c.bring_entries.new.tables c.bring_chunk.new.tables disk c.bring_entries.ensures.brought
    (subst (HasBrought c.bring_entries.new.tables c.bring_chunk.new.tables) c.in_ok-bring_entries.ensures.stays c.bring_chunk.ensures.brought) in
    on_ok_any c.bring_chunk-2.result _ (λ (t : Trace) (told : disk.told ≡ Some t).
    names_of c.bring_chunk.new.tables.parts c.args.tables.now.parts c.bring_chunk-2.new.plans ((c.args.first + c.args.count - 1) / 2 ^ 23) (held_file c.bring_chunk.new.tables t) (held_file c.args.tables.now t) c.args.first c.args.count
    (sym b.parts_are) (sym (b.held t told)) (c.bring_chunk-2.ensures.there e t (ap (λ (d : Disk). d.told) (c.in_ok-bring_chunk.ensures.stays ∙ c.in_ok-bring_entries.ensures.stays) ∙ told)))

pub overflow_add-last : goal.overflow_add-last
overflow_add-last g c = end_fits c.args.tables.now.parts c.requires.readable.sizes c.args.first c.args.count c.requires.fit.on_disk

pub overflow_sub-last : goal.overflow_sub-last
overflow_sub-last g c = some_sum c.args.first c.args.count c.requires.some

pub bring_entries-requires-clause-readable : goal.bring_entries-requires-clause-readable
bring_entries-requires-clause-readable g c = c.requires.readable

pub bring_entries-requires-clause-some : goal.bring_entries-requires-clause-some
bring_entries-requires-clause-some g c = c.requires.some

pub bring_entries-requires-clause-fit : goal.bring_entries-requires-clause-fit
bring_entries-requires-clause-fit g c = c.requires.fit

pub bring_entries-requires-clause-room : goal.bring_entries-requires-clause-room
bring_entries-requires-clause-room g c = room_entries (length c.args.tables.now.pending) (most_bit_pages (shape_of c.args.tables.now.parts) c.args.count) c.requires.room

pub returns-in_err-bring_entries-clause-brought : goal.returns-in_err-bring_entries-clause-brought
returns-in_err-bring_entries-clause-brought g c = c.bring_entries.ensures.brought

pub returns-in_err-bring_entries-clause-few : goal.returns-in_err-bring_entries-clause-few
returns-in_err-bring_entries-clause-few g c = more_room _ _ (most_brought c.args.missing (shape_of c.args.tables.now.parts) c.args.count) c.bring_entries.ensures.few

pub returns-in_err-bring_entries-clause-len : goal.returns-in_err-bring_entries-clause-len
returns-in_err-bring_entries-clause-len g c = refl

pub returns-in_err-bring_entries-clause-brings : goal.returns-in_err-bring_entries-clause-brings
returns-in_err-bring_entries-clause-brings g c = not_ok c.from_residual.result _ c.from_residual.ensures.1 _

pub returns-in_err-bring_entries-clause-near_there : goal.returns-in_err-bring_entries-clause-near_there
returns-in_err-bring_entries-clause-near_there g c e = not_ok c.from_residual.result _ c.from_residual.ensures.1 _

pub returns-in_err-bring_entries-clause-far_there : goal.returns-in_err-bring_entries-clause-far_there
returns-in_err-bring_entries-clause-far_there g c goes e = not_ok c.from_residual.result _ c.from_residual.ensures.1 _

pub returns-in_err-bring_entries-clause-stays : goal.returns-in_err-bring_entries-clause-stays
returns-in_err-bring_entries-clause-stays g c = not_ok c.from_residual.result _ c.from_residual.ensures.1 _

pub returns-in_err-bring_entries-clause-err : goal.returns-in_err-bring_entries-clause-err
returns-in_err-bring_entries-clause-err g c = failed_for c.from_residual.result _ c.from_residual.ensures.1 _ c.in_err-bring_entries.ensures.err

pub bring_chunk-requires-clause-fit : goal.bring_chunk-requires-clause-fit
bring_chunk-requires-clause-fit g c = of_parts (λ p. FitInCall p (length c.args.plans.now) c.args.first c.args.count) _ _ c.bring_entries.ensures.brought.parts_are c.requires.fit

pub bring_chunk-requires-clause-sector : goal.bring_chunk-requires-clause-sector
bring_chunk-requires-clause-sector g c = of_parts (λ p. c.args.first < p.sectors) _ _ c.bring_entries.ensures.brought.parts_are (first_below c.args.first c.args.count c.args.tables.now.parts.sectors c.requires.some c.requires.fit.on_disk)

pub bring_chunk-requires-clause-parent : goal.bring_chunk-requires-clause-parent
bring_chunk-requires-clause-parent g c e = of_parts (λ p. p.parent ≡ true) _ _ c.bring_entries.ensures.brought.parts_are (c.requires.near e)

pub bring_chunk-requires-clause-there : goal.bring_chunk-requires-clause-there
bring_chunk-requires-clause-there g c e t told =
    let here : (g.S.Store.disk c.args.store.now).told ≡ Some t = ap (λ (d : Disk). d.told) (sym c.in_ok-bring_entries.ensures.stays) ∙ told in
    names_of c.args.tables.now.parts c.bring_entries.new.tables.parts c.args.plans.now (c.args.first / 2 ^ 23) (held_file c.args.tables.now t) (held_file c.bring_entries.new.tables t) c.args.first c.args.count
    c.bring_entries.ensures.brought.parts_are (c.bring_entries.ensures.brought.held t here) (c.requires.near_there e t here)

pub bring_chunk-requires-clause-room : goal.bring_chunk-requires-clause-room
bring_chunk-requires-clause-room g c =
    of_parts (λ p. length c.bring_entries.new.tables.pending + most_bit_pages (shape_of p) c.args.count ≤ 120) _ _ c.bring_entries.ensures.brought.parts_are
    (room_near (length c.args.tables.now.pending) _ (most_bit_pages (shape_of c.args.tables.now.parts) c.args.count) c.bring_entries.ensures.few c.requires.room)

pub returns-in_err-bring_chunk-clause-few : goal.returns-in_err-bring_chunk-clause-few
returns-in_err-bring_chunk-clause-few g c =
    few_near (length c.args.tables.now.pending) _ _ (if c.args.missing.near then 1 else most_bit_pages (shape_of c.args.tables.now.parts) c.args.count) _ c.bring_entries.ensures.few
    (subst (λ (p : TableParts). length c.bring_chunk.new.tables.pending ≤ length c.bring_entries.new.tables.pending + (if c.args.missing.near then 1 else most_bit_pages (shape_of p) c.args.count)) c.bring_entries.ensures.brought.parts_are c.bring_chunk.ensures.few)

pub returns-in_err-bring_chunk-clause-len : goal.returns-in_err-bring_chunk-clause-len
returns-in_err-bring_chunk-clause-len g c = c.bring_chunk.ensures.len

pub returns-in_err-bring_chunk-clause-brings : goal.returns-in_err-bring_chunk-clause-brings
returns-in_err-bring_chunk-clause-brings g c = not_ok c.from_residual-in_err-bring_chunk.result _ c.from_residual-in_err-bring_chunk.ensures.1 _

pub returns-in_err-bring_chunk-clause-near_there : goal.returns-in_err-bring_chunk-clause-near_there
returns-in_err-bring_chunk-clause-near_there g c e = not_ok c.from_residual-in_err-bring_chunk.result _ c.from_residual-in_err-bring_chunk.ensures.1 _

pub returns-in_err-bring_chunk-clause-far_there : goal.returns-in_err-bring_chunk-clause-far_there
returns-in_err-bring_chunk-clause-far_there g c goes e = not_ok c.from_residual-in_err-bring_chunk.result _ c.from_residual-in_err-bring_chunk.ensures.1 _

pub returns-in_err-bring_chunk-clause-stays : goal.returns-in_err-bring_chunk-clause-stays
returns-in_err-bring_chunk-clause-stays g c = not_ok c.from_residual-in_err-bring_chunk.result _ c.from_residual-in_err-bring_chunk.ensures.1 _

pub returns-in_err-bring_chunk-clause-err : goal.returns-in_err-bring_chunk-clause-err
returns-in_err-bring_chunk-clause-err g c =
    failed_for c.from_residual-in_err-bring_chunk.result _ c.from_residual-in_err-bring_chunk.ensures.1 _
    (failed_from _ _ _ _ _ _ c.bring_entries.ensures.brought.parts_are c.in_ok-bring_entries.ensures.stays c.in_err-bring_chunk.ensures.err)

pub returns-then-last-first-clause-few : goal.returns-then-last-first-clause-few
returns-then-last-first-clause-few g c =
    few_near (length c.args.tables.now.pending) _ _ (if c.args.missing.near then 1 else most_bit_pages (shape_of c.args.tables.now.parts) c.args.count) _ c.bring_entries.ensures.few
    (subst (λ (p : TableParts). length c.bring_chunk.new.tables.pending ≤ length c.bring_entries.new.tables.pending + (if c.args.missing.near then 1 else most_bit_pages (shape_of p) c.args.count)) c.bring_entries.ensures.brought.parts_are c.bring_chunk.ensures.few)

pub returns-then-last-first-clause-len : goal.returns-then-last-first-clause-len
returns-then-last-first-clause-len g c = c.bring_chunk.ensures.len

pub returns-then-last-first-clause-near_there : goal.returns-then-last-first-clause-near_there
returns-then-last-first-clause-near_there g c e t told =
    names_of c.bring_entries.new.tables.parts c.args.tables.now.parts c.bring_chunk.new.plans (c.args.first / 2 ^ 23) (held_file c.bring_entries.new.tables t) (held_file c.args.tables.now t) c.args.first c.args.count
    (sym c.bring_entries.ensures.brought.parts_are) (sym (c.bring_entries.ensures.brought.held t told))
    (c.bring_chunk.ensures.there e t (ap (λ (d : Disk). d.told) c.in_ok-bring_entries.ensures.stays ∙ told))

pub returns-then-last-first-clause-far_there : goal.returns-then-last-first-clause-far_there
returns-then-last-first-clause-far_there g c goes e = absurd (goes c.if-last-first.true)

pub returns-then-last-first-clause-stays : goal.returns-then-last-first-clause-stays
returns-then-last-first-clause-stays g c = c.in_ok-bring_chunk.ensures.stays ∙ c.in_ok-bring_entries.ensures.stays

pub bring_chunk-requires-2-clause-fit : goal.bring_chunk-requires-2-clause-fit
bring_chunk-requires-2-clause-fit g c =
    of_parts (λ p. FitInCall p (length c.bring_chunk.new.plans) c.args.first c.args.count) _ _ (c.bring_chunk.ensures.brought.parts_are ∙ c.bring_entries.ensures.brought.parts_are)
    (subst (λ n. FitInCall c.args.tables.now.parts n c.args.first c.args.count) (sym c.bring_chunk.ensures.len) c.requires.fit)

pub bring_chunk-requires-2-clause-sector : goal.bring_chunk-requires-2-clause-sector
bring_chunk-requires-2-clause-sector g c =
    of_parts (λ p. c.args.first + c.args.count - 1 < p.sectors) _ _ (c.bring_chunk.ensures.brought.parts_are ∙ c.bring_entries.ensures.brought.parts_are) (last_on c.args.first c.args.count c.args.tables.now.parts.sectors c.requires.some c.requires.fit.on_disk)

pub bring_chunk-requires-2-clause-parent : goal.bring_chunk-requires-2-clause-parent
bring_chunk-requires-2-clause-parent g c e = of_parts (λ p. p.parent ≡ true) _ _ (c.bring_chunk.ensures.brought.parts_are ∙ c.bring_entries.ensures.brought.parts_are) (c.requires.far e)

pub bring_chunk-requires-2-clause-room : goal.bring_chunk-requires-2-clause-room
bring_chunk-requires-2-clause-room g c =
    of_parts (λ p. length c.bring_chunk.new.tables.pending + most_bit_pages (shape_of p) c.args.count ≤ 120) _ _ (c.bring_chunk.ensures.brought.parts_are ∙ c.bring_entries.ensures.brought.parts_are)
    (room_far (length c.args.tables.now.pending) _ _ _ (most_bit_pages (shape_of c.args.tables.now.parts) c.args.count) c.bring_entries.ensures.few
    (subst (λ (p : TableParts). length c.bring_chunk.new.tables.pending ≤ length c.bring_entries.new.tables.pending + (if c.args.missing.near then 1 else most_bit_pages (shape_of p) c.args.count)) c.bring_entries.ensures.brought.parts_are c.bring_chunk.ensures.few)
    (entry_least c.args.missing.near (shape_of c.args.tables.now.parts) c.args.count) c.requires.room)

pub returns-clause-few : goal.returns-clause-few
returns-clause-few g c =
    few_far (length c.args.tables.now.pending) _ _ _ (if c.args.missing.near then 1 else most_bit_pages (shape_of c.args.tables.now.parts) c.args.count) (if c.args.missing.far then 1 else most_bit_pages (shape_of c.args.tables.now.parts) c.args.count) c.bring_entries.ensures.few
    (subst (λ (p : TableParts). length c.bring_chunk.new.tables.pending ≤ length c.bring_entries.new.tables.pending + (if c.args.missing.near then 1 else most_bit_pages (shape_of p) c.args.count)) c.bring_entries.ensures.brought.parts_are c.bring_chunk.ensures.few)
    (subst (λ (p : TableParts). length c.bring_chunk-2.new.tables.pending ≤ length c.bring_chunk.new.tables.pending + (if c.args.missing.far then 1 else most_bit_pages (shape_of p) c.args.count)) (c.bring_chunk.ensures.brought.parts_are ∙ c.bring_entries.ensures.brought.parts_are)
    c.bring_chunk-2.ensures.few)

pub returns-clause-len : goal.returns-clause-len
returns-clause-len g c = c.bring_chunk-2.ensures.len ∙ c.bring_chunk.ensures.len

pub returns-clause-stays : goal.returns-clause-stays
returns-clause-stays g c = ok_then c.bring_chunk-2.result (λ e. e ∙ (c.in_ok-bring_chunk.ensures.stays ∙ c.in_ok-bring_entries.ensures.stays)) c.bring_chunk-2.ensures.stays

pub returns-clause-err : goal.returns-clause-err
returns-clause-err g c =
    fails_from c.bring_chunk-2.result _ _ _ _ _ (c.bring_chunk.ensures.brought.parts_are ∙ c.bring_entries.ensures.brought.parts_are) (c.in_ok-bring_chunk.ensures.stays ∙ c.in_ok-bring_entries.ensures.stays) c.bring_chunk-2.ensures.err
