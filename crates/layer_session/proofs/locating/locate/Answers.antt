use Rattle.std.proofs.Common.{◌≡◌, ◌+◌, ◌*◌, ◌%◌, ◌/◌, ◌^◌, ◌≤◌, length, ap, sym, subst, ◌∙◌, inl}
use Rattle.std.specs.Prelude.{min, ◌-◌}
use Rattle.vhdx_format.specs.Fields.{megabyte}
use Rattle.vhdx_format.specs.Layers.{entry_of, state_at, table_entry}
use Rattle.store_model.specs.File.{seen}
use Rattle.store_model.specs.Trace.{file_of}
use Rattle.table_pages.specs.Held.{held_file, shape_of}
use Rattle.bat_entry.proofs.Standing.{absent, here}
use Rattle.bat_entry.proofs.Standing as standing
use Rattle.layer_session.specs.TablesRead.{HasRead}
use Rattle.layer_session.proofs.Parted.{absent_is, full_is, run_within, start_is, zeros_are}
use Rattle.layer_session.proofs.Planned.{entry_reads, read_then}
use Rattle.layer_session.proofs.Handing.{few_rows}
use Rattle.layer_session.proofs.locating.locate.Goals as goal

pub returns-in-Here-clause-located : goal.returns-in-Here-clause-located
returns-in-Here-clause-located g c t told =
    let parts = c.args.tables.now.parts in
    let file = seen (file_of t parts.file) in
    let held = held_file c.args.tables.now t in
    let len = c.run_in_block-len.result in
    let on_disk = few_rows c.args.first len c.args.count parts.sectors c.run_in_block-len.ensures.most c.requires.on_disk in
    let run = c.run_in_block-len.ensures.inside in
    let word : table_entry (shape_of parts) held (entry_of (shape_of parts) c.args.first) ≡ c.in_ok-word.word = sym (c.in_ok-word.ensures.entry t told ∙ ap (table_entry (shape_of parts) held) c.entry_index.ensures.index) in
    let six : state_at (shape_of parts) held (entry_of (shape_of parts) c.args.first) ≡ 6 = ap (λ w. w % 8) word ∙ here parts.parent c.in_ok-word.word _ c.in-Here.is c.sectors_of.ensures in
    let start = start_is parts file held c.requires.readable.tables.sizes (c.requires.readable.stored t told) c.args.first len on_disk run (inl six) c.run_in_block-len.ensures.some c.place_in-place.result
    (c.place_in-place.ensures ∙ ap (λ o. min (c.in_ok-word.word / 2 ^ 20 * megabyte + o) (2 ^ 64 - 1)) c.offset_in_block.ensures.is ∙ ap (λ w. min (w / 2 ^ 20 * megabyte + c.args.first * parts.sector % parts.block) (2 ^ 64 - 1)) (sym word)) in (
      subst (λ n. n + parts.sector * len ≤ length file) (sym start) (run_within parts file held c.requires.readable.tables.sizes (c.requires.readable.stored t told) c.args.first len on_disk run (inl six) c.run_in_block-len.ensures.some),
      λ i below. full_is parts file held c.requires.readable.tables.sizes (c.requires.readable.stored t told) c.args.first len on_disk run c.place_in-place.result six start i below,
    )

pub returns-in-Marked-clause-reads : goal.returns-in-Marked-clause-reads
returns-in-Marked-clause-reads g c =
    read_then c.args.tables.now c.entry.new.self c.locate_part.new.tables (g.S.Store.disk c.args.store.now)
    (entry_reads c.args.tables.now c.entry.new.self (g.S.Store.disk c.args.store.now) c.entry.ensures.as_held c.entry.ensures.places)
    (subst (HasRead c.entry.new.self c.locate_part.new.tables) c.in_ok-word.ensures.stays c.locate_part.ensures.reads)

pub returns-in-Absent-clause-located : goal.returns-in-Absent-clause-located
returns-in-Absent-clause-located g c t told =
    let parts = c.args.tables.now.parts in
    let held = held_file c.args.tables.now t in
    let len = c.run_in_block-len.result in
    let on_disk = few_rows c.args.first len c.args.count parts.sectors c.run_in_block-len.ensures.most c.requires.on_disk in
    let word : table_entry (shape_of parts) held (entry_of (shape_of parts) c.args.first) ≡ c.in_ok-word.word = sym (c.in_ok-word.ensures.entry t told ∙ ap (table_entry (shape_of parts) held) c.entry_index.ensures.index) in
    let none = absent parts.parent c.in_ok-word.word _ c.in-Absent.is c.sectors_of.ensures in
    λ i below.
    absent_is parts (seen (file_of t parts.file)) held c.requires.readable.tables.sizes (c.requires.readable.stored t told) c.args.first len on_disk c.run_in_block-len.ensures.inside (ap (λ w. w % 8) word ∙ none.0) none.1 i below

pub returns-in-Zeros-clause-located : goal.returns-in-Zeros-clause-located
returns-in-Zeros-clause-located g c t told =
    let parts = c.args.tables.now.parts in
    let held = held_file c.args.tables.now t in
    let len = c.run_in_block-len.result in
    let on_disk = few_rows c.args.first len c.args.count parts.sectors c.run_in_block-len.ensures.most c.requires.on_disk in
    let word : table_entry (shape_of parts) held (entry_of (shape_of parts) c.args.first) ≡ c.in_ok-word.word = sym (c.in_ok-word.ensures.entry t told ∙ ap (table_entry (shape_of parts) held) c.entry_index.ensures.index) in
    let state : state_at (shape_of parts) held (entry_of (shape_of parts) c.args.first) ≡ c.in_ok-word.word % 8 = ap (λ w. w % 8) word in
    let nothing = standing.zeros parts.parent c.in_ok-word.word _ c.in-Zeros.is c.sectors_of.ensures in
    λ i below.
    zeros_are parts (seen (file_of t parts.file)) held c.requires.readable.tables.sizes (c.requires.readable.stored t told) c.args.first len on_disk c.run_in_block-len.ensures.inside
    (c.requires.readable.tables.states t told) c.run_in_block-len.ensures.some (λ e. nothing.0 (sym state ∙ e)) (λ e. nothing.1 (sym state ∙ e)) (λ e. nothing.2 (sym state ∙ e)) i below
