use Rattle.std.proofs.Common.{◌≡◌, ◌≤◌, ◌+◌, ◌∙◌, ◌%◌, true, false, ap, refl, subst, sym}
use Rattle.layer_session.specs.Planning.{are_marked}
use Rattle.layer_session.specs.TablesRead.{HasRead}
use Rattle.table_pages.specs.Held.{held_file, shape_of}
use Rattle.vhdx_format.specs.Layers.{table_entry}
use Rattle.layer_session.proofs.Choices.{chosen_mark, chosen_write, readable_then, said_then}
use Rattle.layer_session.proofs.Planned.{bits_there_again, entry_reads, read_then}
use Rattle.layer_session.proofs.Known.{failed_from, of_parts}
use Rattle.layer_session.proofs.Sectors.{first_below}
use Rattle.layer_session.proofs.Spots.{in_chunk}
use Rattle.vx_base.proofs.Handed.{failed_for, not_if_ok, not_ok}
use Rattle.layer_session.proofs.planning.plan_part.Goals as goal

pub are_marked-requires-clause-readable : goal.are_marked-requires-clause-readable
are_marked-requires-clause-readable g c =
    readable_then c.args.tables.now c.entry.new.self _ _ c.requires.readable (entry_reads _ _ _ c.entry.ensures.as_held c.entry.ensures.places) c.in_ok-bitmap.ensures.stays

pub returns-in_err-are_marked-clause-reads : goal.returns-in_err-are_marked-clause-reads
returns-in_err-are_marked-clause-reads g c =
    read_then c.args.tables.now c.entry.new.self c.are_marked.new.tables (g.S.Store.disk c.args.store.now) (entry_reads _ _ _ c.entry.ensures.as_held c.entry.ensures.places)
    (subst (HasRead c.entry.new.self c.are_marked.new.tables) c.in_ok-bitmap.ensures.stays c.are_marked.ensures.reads)

pub returns-then-branch-clause-planned : goal.returns-then-branch-clause-planned
returns-then-branch-clause-planned g c trace told =
    chosen_write _ _ false _ _ c.args.word _ refl (c.requires.word trace told) c.in_ok-bitmap.bitmap refl c.requires.state
    (sym (said_then (λ p file. c.in_ok-are_marked.field-0 ≡ are_marked p file c.args.first c.args.count) c.args.tables.now c.entry.new.self _ _ trace (entry_reads _ _ _ c.entry.ensures.as_held c.entry.ensures.places)
    c.in_ok-bitmap.ensures.stays c.in_ok-are_marked.ensures.marked told) ∙ c.if-branch.true)

pub returns-then-branch-clause-reads : goal.returns-then-branch-clause-reads
returns-then-branch-clause-reads g c =
    read_then c.args.tables.now c.entry.new.self c.are_marked.new.tables (g.S.Store.disk c.args.store.now) (entry_reads _ _ _ c.entry.ensures.as_held c.entry.ensures.places)
    (subst (HasRead c.entry.new.self c.are_marked.new.tables) c.in_ok-bitmap.ensures.stays c.are_marked.ensures.reads)

pub returns-else-branch-clause-planned : goal.returns-else-branch-clause-planned
returns-else-branch-clause-planned g c trace told =
    chosen_mark _ _ false _ _ c.args.word _ refl (c.requires.word trace told) c.in_ok-bitmap.bitmap refl c.requires.state
    (sym (said_then (λ p file. c.in_ok-are_marked.field-0 ≡ are_marked p file c.args.first c.args.count) c.args.tables.now c.entry.new.self _ _ trace (entry_reads _ _ _ c.entry.ensures.as_held c.entry.ensures.places)
    c.in_ok-bitmap.ensures.stays c.in_ok-are_marked.ensures.marked told) ∙ c.if-branch.false)
    (subst (λ i. c.in_ok-bitmap.bitmap ≡ table_entry (shape_of c.args.tables.now.parts) (held_file c.args.tables.now trace) i) c.bitmap_entry_index-index.ensures.index (c.in_ok-bitmap.ensures.entry trace told))

pub returns-else-branch-clause-reads : goal.returns-else-branch-clause-reads
returns-else-branch-clause-reads g c =
    read_then c.args.tables.now c.entry.new.self c.are_marked.new.tables (g.S.Store.disk c.args.store.now) (entry_reads _ _ _ c.entry.ensures.as_held c.entry.ensures.places)
    (subst (HasRead c.entry.new.self c.are_marked.new.tables) c.in_ok-bitmap.ensures.stays c.are_marked.ensures.reads)

pub are_marked-requires-clause-bitmap : goal.are_marked-requires-clause-bitmap
are_marked-requires-clause-bitmap g c =
    let same = c.entry.ensures.as_held.parts_are in
    let sized = c.requires.readable.sizes in
    let below = first_below c.args.first c.args.count c.args.tables.now.parts.sectors c.requires.some c.requires.block.on_disk in
    record {
      parent = of_parts (λ p. p.parent ≡ true) _ _ same c.requires.parent;
      on_disk = of_parts (λ p. c.args.first + c.args.count ≤ p.sectors) _ _ same c.requires.block.on_disk;
      chunk = in_chunk (shape_of c.args.tables.now.parts) (record { sector = sized.sector; block = sized.block }) c.args.first c.args.count c.requires.some c.requires.block.run;
      bitmap =
          λ some t told.
          let there = bits_there_again c.args.tables.now c.entry.new.self (g.S.Store.disk c.args.store.now) c.args.first (entry_reads _ _ _ c.entry.ensures.as_held c.entry.ensures.places)
          (λ u k. (c.requires.readable.bitmaps u k).there c.args.first below c.requires.parent (ap (λ w. w % 8) (sym (c.requires.word u k)) ∙ c.requires.state)) in
          there t (ap (λ d. d.told) (sym c.in_ok-bitmap.ensures.stays) ∙ told);
    }

pub bitmap_entry_index-index-requires-clause-parts : goal.bitmap_entry_index-index-requires-clause-parts
bitmap_entry_index-index-requires-clause-parts g c = c.requires.readable.sizes

pub bitmap_entry_index-index-requires-clause-parent : goal.bitmap_entry_index-index-requires-clause-parent
bitmap_entry_index-index-requires-clause-parent g c = c.requires.parent

pub bitmap_entry_index-index-requires-clause-sector : goal.bitmap_entry_index-index-requires-clause-sector
bitmap_entry_index-index-requires-clause-sector g c = first_below c.args.first c.args.count c.args.tables.now.parts.sectors c.requires.some c.requires.block.on_disk

pub entry-requires-clause-there : goal.entry-requires-clause-there
entry-requires-clause-there g c = c.requires.readable.there

pub entry-requires-clause-parts : goal.entry-requires-clause-parts
entry-requires-clause-parts g c = c.requires.readable.sizes

pub entry-requires-clause-index : goal.entry-requires-clause-index
entry-requires-clause-index g c = c.bitmap_entry_index-index.ensures.inside

pub entry-requires-clause-tables : goal.entry-requires-clause-tables
entry-requires-clause-tables g c = c.requires.readable.tables

pub returns-in_err-bitmap-clause-planned : goal.returns-in_err-bitmap-clause-planned
returns-in_err-bitmap-clause-planned g c = not_if_ok c.from_residual.result _ c.from_residual.ensures.1 _

pub returns-in_err-bitmap-clause-reads : goal.returns-in_err-bitmap-clause-reads
returns-in_err-bitmap-clause-reads g c = entry_reads _ _ _ c.entry.ensures.as_held c.entry.ensures.places

pub returns-in_err-bitmap-clause-stays : goal.returns-in_err-bitmap-clause-stays
returns-in_err-bitmap-clause-stays g c = not_ok c.from_residual.result _ c.from_residual.ensures.1 _

pub returns-in_err-bitmap-clause-err : goal.returns-in_err-bitmap-clause-err
returns-in_err-bitmap-clause-err g c = failed_for c.from_residual.result _ c.from_residual.ensures.1 _ c.in_err-bitmap.ensures.err

pub returns-in_err-are_marked-clause-planned : goal.returns-in_err-are_marked-clause-planned
returns-in_err-are_marked-clause-planned g c = not_if_ok c.from_residual-in_err-are_marked.result _ c.from_residual-in_err-are_marked.ensures.1 _

pub returns-in_err-are_marked-clause-stays : goal.returns-in_err-are_marked-clause-stays
returns-in_err-are_marked-clause-stays g c = not_ok c.from_residual-in_err-are_marked.result _ c.from_residual-in_err-are_marked.ensures.1 _

pub returns-in_err-are_marked-clause-err : goal.returns-in_err-are_marked-clause-err
returns-in_err-are_marked-clause-err g c = failed_for c.from_residual-in_err-are_marked.result _ c.from_residual-in_err-are_marked.ensures.1 _ (failed_from _ _ _ _ _ _ c.entry.ensures.as_held.parts_are c.in_ok-bitmap.ensures.stays c.in_err-are_marked.ensures.err)

pub returns-then-branch-clause-stays : goal.returns-then-branch-clause-stays
returns-then-branch-clause-stays g c = c.in_ok-are_marked.ensures.stays ∙ c.in_ok-bitmap.ensures.stays

pub returns-then-branch-clause-err : goal.returns-then-branch-clause-err
returns-then-branch-clause-err g c = tt

pub returns-else-branch-clause-stays : goal.returns-else-branch-clause-stays
returns-else-branch-clause-stays g c = c.in_ok-are_marked.ensures.stays ∙ c.in_ok-bitmap.ensures.stays

pub returns-else-branch-clause-err : goal.returns-else-branch-clause-err
returns-else-branch-clause-err g c = tt
