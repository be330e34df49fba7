use Rattle.std.proofs.Common.{◌≡◌, true, false, ◌+◌, ◌*◌, ◌%◌, ◌/◌, ◌^◌, ◌≤◌, length, refl, ap, sym, subst, ◌∙◌, inl, inr}
use Rattle.std.specs.Prelude.{min, ◌-◌}
use Rattle.vx_base.specs.Fields.{zeros}
use Rattle.vhdx_format.specs.Fields.{megabyte}
use Rattle.store_model.specs.File.{seen}
use Rattle.store_model.specs.Trace.{file_of}
use Rattle.vhdx_format.specs.Layers.{entry_of, state_at, table_entry}
use Rattle.table_pages.specs.declared.tables.TableParts.{TableParts}
use Rattle.table_pages.specs.Held.{held_file, shape_of}
use Rattle.layer_session.specs.Runs.{SectorsFit}
use Rattle.layer_session.specs.TablesRead.{HasRead}
use Rattle.layer_session.proofs.Parted.{absent_owned, full_owned, owned_again, part_again, run_within, start_is, zeros_owned}
use Rattle.layer_session.proofs.Owned.{run_left}
use Rattle.layer_session.proofs.RunsRead.{sectors_again}
use Rattle.layer_session.proofs.Planned.{bits_there_again, entry_reads, read_then}
use Rattle.bat_entry.proofs.Standing.{absent, here, marked}
use Rattle.layer_session.proofs.Spots.{in_chunk}
use Rattle.bat_entry.proofs.Standing as standing
use Rattle.vx_base.proofs.Handed.{failed_for, not_ok, ok_then}
use Rattle.layer_session.proofs.Handing.{fails_then, sectors_of, stays_then, there_still}
use Rattle.layer_session.proofs.Sectors.{first_below}
use Rattle.layer_session.proofs.Finding.{others_none, others_set}
use Rattle.layer_session.proofs.reading.own_run.Goals as goal

pub returns-in-Here-clause-owned : goal.returns-in-Here-clause-owned
returns-in-Here-clause-owned g c =
    ok_then c.take_run.result
    (λ owned t told.
    let held = held_file c.args.tables.now t in
    let file = seen (file_of t c.args.tables.now.parts.file) in
    let word : table_entry (shape_of c.args.tables.now.parts) held (entry_of (shape_of c.args.tables.now.parts) c.args.first) ≡ c.in_ok-word.word =
    sym (c.in_ok-word.ensures.entry t told ∙ ap (table_entry (shape_of c.args.tables.now.parts) held) c.entry_index.ensures.index) in
    let six : state_at (shape_of c.args.tables.now.parts) held (entry_of (shape_of c.args.tables.now.parts) c.args.first) ≡ 6 = ap (λ w. w % 8) word ∙ here c.args.tables.now.parts.parent c.in_ok-word.word _ c.in-Here.is c.sectors_of.ensures in
    full_owned c.args.tables.now.parts file held c.requires.readable.tables.sizes (c.requires.readable.stored t told) c.args.first c.args.count c.requires.block.on_disk c.requires.block.run c.place_in-place.result c.args.at c.args.mask.now c.take_run.new.mask c.args.out.now c.take_run.new.out six
    (start_is c.args.tables.now.parts file held c.requires.readable.tables.sizes (c.requires.readable.stored t told) c.args.first c.args.count c.requires.block.on_disk c.requires.block.run (inl six) c.requires.some c.place_in-place.result
    (c.place_in-place.ensures ∙ ap (λ o. min (c.in_ok-word.word / 2 ^ 20 * megabyte + o) (2 ^ 64 - 1)) c.offset_in_block.ensures.is
    ∙ ap (λ w. min (w / 2 ^ 20 * megabyte + c.args.first * c.args.tables.now.parts.sector % c.args.tables.now.parts.block) (2 ^ 64 - 1)) (sym word)))
    (owned t (ap (λ d. d.told) c.in_ok-word.ensures.stays ∙ told)))
    c.take_run.ensures.owned

pub returns-in-Marked-clause-owned : goal.returns-in-Marked-clause-owned
returns-in-Marked-clause-owned g c =
    ok_then c.own_part.result
    (λ owned t told.
    owned_again c.args.tables.now c.entry.new.self (g.S.Store.disk c.args.store.now) (entry_reads c.args.tables.now c.entry.new.self (g.S.Store.disk c.args.store.now) c.entry.ensures.as_held c.entry.ensures.places) t
    c.args.first c.args.count c.args.at c.args.mask.now c.own_part.new.mask c.args.out.now c.own_part.new.out (owned t (ap (λ d. d.told) c.in_ok-word.ensures.stays ∙ told)))
    c.own_part.ensures.owned

pub returns-in-Marked-clause-reads : goal.returns-in-Marked-clause-reads
returns-in-Marked-clause-reads g c =
    read_then c.args.tables.now c.entry.new.self c.own_part.new.tables (g.S.Store.disk c.args.store.now)
    (entry_reads c.args.tables.now c.entry.new.self (g.S.Store.disk c.args.store.now) c.entry.ensures.as_held c.entry.ensures.places)
    (subst (HasRead c.entry.new.self c.own_part.new.tables) c.in_ok-word.ensures.stays c.own_part.ensures.reads)

pub returns-in-Zeros-clause-owned : goal.returns-in-Zeros-clause-owned
returns-in-Zeros-clause-owned g c t told =
    let held = held_file c.args.tables.now t in
    let word : table_entry (shape_of c.args.tables.now.parts) held (entry_of (shape_of c.args.tables.now.parts) c.args.first) ≡ c.in_ok-word.word =
    sym (c.in_ok-word.ensures.entry t told ∙ ap (table_entry (shape_of c.args.tables.now.parts) held) c.entry_index.ensures.index) in
    let state : state_at (shape_of c.args.tables.now.parts) held (entry_of (shape_of c.args.tables.now.parts) c.args.first) ≡ c.in_ok-word.word % 8 = ap (λ w. w % 8) word in
    let nothing = standing.zeros c.args.tables.now.parts.parent c.in_ok-word.word _ c.in-Zeros.is c.sectors_of.ensures in
    zeros_owned c.args.tables.now.parts (seen (file_of t c.args.tables.now.parts.file)) held c.requires.readable.tables.sizes (c.requires.readable.stored t told) c.args.first c.args.count c.requires.block.on_disk c.requires.block.run c.args.at c.args.mask.now
    c.set_range-in-Zeros.new.bits c.args.out.now c.clear.new.out (c.requires.readable.tables.states t told) c.requires.some (λ e. nothing.0 (sym state ∙ e)) (λ e. nothing.1 (sym state ∙ e)) (λ e. nothing.2 (sym state ∙ e))
    c.set_range-in-Zeros.ensures c.requires.room.bits c.set_range-in-Zeros.auto.bits c.clear.auto.out (c.clear.ensures ∙ ap zeros c.requires.room.bytes)

pub returns-in-Here-clause-reads : goal.returns-in-Here-clause-reads
returns-in-Here-clause-reads g c = entry_reads _ _ _ c.entry.ensures.as_held c.entry.ensures.places

pub returns-in-Absent-clause-reads : goal.returns-in-Absent-clause-reads
returns-in-Absent-clause-reads g c = entry_reads _ _ _ c.entry.ensures.as_held c.entry.ensures.places

pub returns-in-Zeros-clause-reads : goal.returns-in-Zeros-clause-reads
returns-in-Zeros-clause-reads g c = entry_reads _ _ _ c.entry.ensures.as_held c.entry.ensures.places

pub entry_index-requires-clause-parts : goal.entry_index-requires-clause-parts
entry_index-requires-clause-parts g c = c.requires.readable.tables.sizes

pub entry-requires-clause-there : goal.entry-requires-clause-there
entry-requires-clause-there g c = c.requires.readable.tables.there

pub entry-requires-clause-parts : goal.entry-requires-clause-parts
entry-requires-clause-parts g c = c.requires.readable.tables.sizes

pub entry-requires-clause-index : goal.entry-requires-clause-index
entry-requires-clause-index g c = c.entry_index.ensures.inside

pub entry-requires-clause-tables : goal.entry-requires-clause-tables
entry-requires-clause-tables g c = c.requires.readable.tables.tables

pub returns-in_err-word-clause-owned : goal.returns-in_err-word-clause-owned
returns-in_err-word-clause-owned g c = not_ok c.from_residual.result c.in_err-word.field-0.0 c.from_residual.ensures.1 _

pub returns-in_err-word-clause-stays : goal.returns-in_err-word-clause-stays
returns-in_err-word-clause-stays g c = not_ok c.from_residual.result c.in_err-word.field-0.0 c.from_residual.ensures.1 _

pub returns-in_err-word-clause-reads : goal.returns-in_err-word-clause-reads
returns-in_err-word-clause-reads g c = entry_reads _ _ _ c.entry.ensures.as_held c.entry.ensures.places

pub returns-in_err-word-clause-err : goal.returns-in_err-word-clause-err
returns-in_err-word-clause-err g c = failed_for c.from_residual.result c.in_err-word.field-0.0 c.from_residual.ensures.1 _ c.in_err-word.ensures.err

pub offset_in_block-requires-clause-parts : goal.offset_in_block-requires-clause-parts
offset_in_block-requires-clause-parts g c = c.requires.readable.tables.sizes

pub take_run-requires-clause-there : goal.take_run-requires-clause-there
take_run-requires-clause-there g c = there_still c.args.tables.now.parts.file (g.S.Store.disk c.args.store.now) (g.S.Store.disk c.entry.new.store) c.in_ok-word.ensures.stays c.requires.readable.tables.there

pub own_part-requires-clause-part : goal.own_part-requires-clause-part
own_part-requires-clause-part g c =
    λ some t after.
    part_again c.args.tables.now c.entry.new.self (g.S.Store.disk c.args.store.now) (entry_reads c.args.tables.now c.entry.new.self (g.S.Store.disk c.args.store.now) c.entry.ensures.as_held c.entry.ensures.places) c.args.first c.args.count c.place_in-place.result
    (λ t told.
    let held = held_file c.args.tables.now t in
    let word : table_entry (shape_of c.args.tables.now.parts) held (entry_of (shape_of c.args.tables.now.parts) c.args.first) ≡ c.in_ok-word.word =
    sym (c.in_ok-word.ensures.entry t told ∙ ap (table_entry (shape_of c.args.tables.now.parts) held) c.entry_index.ensures.index) in
    let seven : state_at (shape_of c.args.tables.now.parts) held (entry_of (shape_of c.args.tables.now.parts) c.args.first) ≡ 7 = ap (λ w. w % 8) word ∙ (marked c.args.tables.now.parts.parent c.in_ok-word.word _ c.in-Marked.is c.sectors_of.ensures).0 in
    record {
      run = c.requires.block.run;
      seven = seven;
      place_is =
          start_is c.args.tables.now.parts (seen (file_of t c.args.tables.now.parts.file)) held c.requires.readable.tables.sizes (c.requires.readable.stored t told) c.args.first c.args.count c.requires.block.on_disk c.requires.block.run (inr seven) c.requires.some c.place_in-place.result
          (c.place_in-place.ensures ∙ ap (λ o. min (c.in_ok-word.word / 2 ^ 20 * megabyte + o) (2 ^ 64 - 1)) c.offset_in_block.ensures.is
          ∙ ap (λ w. min (w / 2 ^ 20 * megabyte + c.args.first * c.args.tables.now.parts.sector % c.args.tables.now.parts.block) (2 ^ 64 - 1)) (sym word));
    })
    t (ap (λ d. d.told) (sym c.in_ok-word.ensures.stays) ∙ after)

pub take_run-requires-clause-inside : goal.take_run-requires-clause-inside
take_run-requires-clause-inside g c =
    λ yes t after.
    let told = ap (λ d. d.told) (sym c.in_ok-word.ensures.stays) ∙ after in
    let held = held_file c.args.tables.now t in
    let word : table_entry (shape_of c.args.tables.now.parts) held (entry_of (shape_of c.args.tables.now.parts) c.args.first) ≡ c.in_ok-word.word =
    sym (c.in_ok-word.ensures.entry t told ∙ ap (table_entry (shape_of c.args.tables.now.parts) held) c.entry_index.ensures.index) in
    let six : state_at (shape_of c.args.tables.now.parts) held (entry_of (shape_of c.args.tables.now.parts) c.args.first) ≡ 6 = ap (λ w. w % 8) word ∙ here c.args.tables.now.parts.parent c.in_ok-word.word _ c.in-Here.is c.sectors_of.ensures in
    subst (λ n. n + c.args.tables.now.parts.sector * c.args.count ≤ length (seen (file_of t c.args.tables.now.parts.file))) (sym (
    start_is c.args.tables.now.parts (seen (file_of t c.args.tables.now.parts.file)) held c.requires.readable.tables.sizes (c.requires.readable.stored t told) c.args.first c.args.count c.requires.block.on_disk c.requires.block.run (inl six) c.requires.some c.place_in-place.result
    (c.place_in-place.ensures ∙ ap (λ o. min (c.in_ok-word.word / 2 ^ 20 * megabyte + o) (2 ^ 64 - 1)) c.offset_in_block.ensures.is
    ∙ ap (λ w. min (w / 2 ^ 20 * megabyte + c.args.first * c.args.tables.now.parts.sector % c.args.tables.now.parts.block) (2 ^ 64 - 1)) (sym word))))
    (run_within c.args.tables.now.parts (seen (file_of t c.args.tables.now.parts.file)) held c.requires.readable.tables.sizes (c.requires.readable.stored t told) c.args.first c.args.count c.requires.block.on_disk c.requires.block.run (inl six) c.requires.some)

pub returns-in-Here-clause-stays : goal.returns-in-Here-clause-stays
returns-in-Here-clause-stays g c = stays_then c.take_run.result (g.S.Store.disk c.args.store.now) (g.S.Store.disk c.entry.new.store) (g.S.Store.disk c.take_run.new.store) c.in_ok-word.ensures.stays c.take_run.ensures.stays

pub returns-in-Here-clause-err : goal.returns-in-Here-clause-err
returns-in-Here-clause-err g c = fails_then c.take_run.result c.args.tables.now.parts.file c.args.tables.now.parts.file (g.S.Store.disk c.args.store.now) (g.S.Store.disk c.entry.new.store) (g.S.Store.disk c.take_run.new.store) c.in_ok-word.ensures.stays refl c.take_run.ensures.err

pub returns-in-Marked-clause-stays : goal.returns-in-Marked-clause-stays
returns-in-Marked-clause-stays g c = stays_then c.own_part.result (g.S.Store.disk c.args.store.now) (g.S.Store.disk c.entry.new.store) (g.S.Store.disk c.own_part.new.store) c.in_ok-word.ensures.stays c.own_part.ensures.stays

pub returns-in-Marked-clause-err : goal.returns-in-Marked-clause-err
returns-in-Marked-clause-err g c = fails_then c.own_part.result c.args.tables.now.parts.file c.entry.new.self.parts.file (g.S.Store.disk c.args.store.now) (g.S.Store.disk c.entry.new.store) (g.S.Store.disk c.own_part.new.store) c.in_ok-word.ensures.stays (ap (λ (p : TableParts). p.file) c.entry.ensures.as_held.parts_are) c.own_part.ensures.err

pub returns-in-Zeros-clause-stays : goal.returns-in-Zeros-clause-stays
returns-in-Zeros-clause-stays g c = c.in_ok-word.ensures.stays

pub entry_index-requires-clause-sector : goal.entry_index-requires-clause-sector
entry_index-requires-clause-sector g c = first_below c.args.first c.args.count c.args.tables.now.parts.sectors c.requires.some c.requires.block.on_disk

pub offset_in_block-requires-clause-sector : goal.offset_in_block-requires-clause-sector
offset_in_block-requires-clause-sector g c = first_below c.args.first c.args.count c.args.tables.now.parts.sectors c.requires.some c.requires.block.on_disk

pub returns-in-Absent-clause-stays : goal.returns-in-Absent-clause-stays
returns-in-Absent-clause-stays g c = c.in_ok-word.ensures.stays

pub returns-in-Absent-clause-owned : goal.returns-in-Absent-clause-owned
returns-in-Absent-clause-owned g c t told =
    let parts = c.args.tables.now.parts in
    let file = seen (file_of t parts.file) in
    let held = held_file c.args.tables.now t in
    let word : table_entry (shape_of c.args.tables.now.parts) held (entry_of (shape_of c.args.tables.now.parts) c.args.first) ≡ c.in_ok-word.word =
    sym (c.in_ok-word.ensures.entry t told ∙ ap (table_entry (shape_of c.args.tables.now.parts) held) c.entry_index.ensures.index) in
    let none = absent c.args.tables.now.parts.parent c.in_ok-word.word _ c.in-Absent.is c.sectors_of.ensures in
    absent_owned parts file held c.requires.readable.tables.sizes (c.requires.readable.stored t told) c.args.first c.args.count c.requires.block.on_disk c.requires.block.run c.place_in-place.result c.args.at c.args.mask.now
    c.set_range.new.bits c.args.out.now c.args.out.now (ap (λ w. w % 8) word ∙ none.0) none.1
    (run_left false file c.place_in-place.result parts.sector c.args.count c.args.at c.args.mask.now c.set_range.new.bits c.args.out.now refl c.set_range.ensures c.requires.room.bits c.set_range.auto.bits)

pub own_part-requires-clause-readable : goal.own_part-requires-clause-readable
own_part-requires-clause-readable g c =
    sectors_again c.args.tables.now c.entry.new.self (g.S.Store.disk c.args.store.now) (g.S.Store.disk c.entry.new.store) (entry_reads _ _ _ c.entry.ensures.as_held c.entry.ensures.places) c.in_ok-word.ensures.stays c.requires.readable

pub own_part-requires-clause-room : goal.own_part-requires-clause-room
own_part-requires-clause-room g c = subst (λ (p : TableParts). SectorsFit c.args.count p.sector c.args.out.now c.args.mask.now c.args.at) (sym c.entry.ensures.as_held.parts_are) c.requires.room

pub own_part-requires-clause-bitmap : goal.own_part-requires-clause-bitmap
own_part-requires-clause-bitmap g c =
    let parent = (marked c.args.tables.now.parts.parent c.in_ok-word.word _ c.in-Marked.is c.sectors_of.ensures).1 in
    record {
      parent = subst (λ (p : TableParts). p.parent ≡ true) (sym c.entry.ensures.as_held.parts_are) parent;
      on_disk = sectors_of c.args.tables.now.parts c.entry.new.self.parts (c.args.first + c.args.count) c.entry.ensures.as_held.parts_are c.requires.block.on_disk;
      chunk = in_chunk (shape_of c.args.tables.now.parts) (record { sector = c.requires.readable.tables.sizes.sector; block = c.requires.readable.tables.sizes.block }) c.args.first c.args.count c.requires.some c.requires.block.run;
      bitmap =
          λ some t after.
          bits_there_again c.args.tables.now c.entry.new.self (g.S.Store.disk c.args.store.now) c.args.first (entry_reads c.args.tables.now c.entry.new.self (g.S.Store.disk c.args.store.now) c.entry.ensures.as_held c.entry.ensures.places)
          (λ t told.
          let held = held_file c.args.tables.now t in
          let word : table_entry (shape_of c.args.tables.now.parts) held (entry_of (shape_of c.args.tables.now.parts) c.args.first) ≡ c.in_ok-word.word =
          sym (c.in_ok-word.ensures.entry t told ∙ ap (table_entry (shape_of c.args.tables.now.parts) held) c.entry_index.ensures.index) in
          let seven : state_at (shape_of c.args.tables.now.parts) held (entry_of (shape_of c.args.tables.now.parts) c.args.first) ≡ 7 = ap (λ w. w % 8) word ∙ (marked c.args.tables.now.parts.parent c.in_ok-word.word _ c.in-Marked.is c.sectors_of.ensures).0 in
          (c.requires.readable.tables.bitmaps t told).there c.args.first (first_below c.args.first c.args.count c.args.tables.now.parts.sectors c.requires.some c.requires.block.on_disk) parent seven)
          t (ap (λ d. d.told) (sym c.in_ok-word.ensures.stays) ∙ after);
    }

pub set_range-requires-clause-within : goal.set_range-requires-clause-within
set_range-requires-clause-within g c = c.requires.room.bits

pub set_range-requires-clause-fits : goal.set_range-requires-clause-fits
set_range-requires-clause-fits g c = c.requires.room.ends

pub set_range-requires-in-Zeros-clause-within : goal.set_range-requires-in-Zeros-clause-within
set_range-requires-in-Zeros-clause-within g c = c.requires.room.bits

pub set_range-requires-in-Zeros-clause-fits : goal.set_range-requires-in-Zeros-clause-fits
set_range-requires-in-Zeros-clause-fits g c = c.requires.room.ends

pub take_run-requires-clause-room : goal.take_run-requires-clause-room
take_run-requires-clause-room g c = c.requires.room

pub returns-in-Absent-clause-err : goal.returns-in-Absent-clause-err
returns-in-Absent-clause-err g c = tt

pub returns-in-Zeros-clause-err : goal.returns-in-Zeros-clause-err
returns-in-Zeros-clause-err g c = tt

pub returns-in-Here-clause-others : goal.returns-in-Here-clause-others
returns-in-Here-clause-others g c = c.take_run.ensures.others

pub returns-in-Marked-clause-others : goal.returns-in-Marked-clause-others
returns-in-Marked-clause-others g c = c.own_part.ensures.others

pub returns-in-Absent-clause-others : goal.returns-in-Absent-clause-others
returns-in-Absent-clause-others g c = others_set c.args.mask.now c.set_range.new.bits c.args.at c.args.count false c.set_range.ensures c.requires.room.bits

pub returns-in-Zeros-clause-others : goal.returns-in-Zeros-clause-others
returns-in-Zeros-clause-others g c = others_set c.args.mask.now c.set_range-in-Zeros.new.bits c.args.at c.args.count true c.set_range-in-Zeros.ensures c.requires.room.bits

pub returns-in_err-word-clause-others : goal.returns-in_err-word-clause-others
returns-in_err-word-clause-others g c = others_none c.args.at c.args.count c.args.mask.now
