use Rattle.std.proofs.Common.{◌≡◌, ◌⊎◌, Bool, ◌+◌, ◌*◌, ◌<◌, ◌≤◌, ◌∙◌, true, false, inl, inr, sym, subst}
use Rattle.layer_session.specs.SectorRanges.{LieInBlock}
use Rattle.layer_session.specs.TablesRead.{HasRead}
use Rattle.table_pages.specs.Held.{AreTablesIn, HasTables, held_file, shape_of}
use Rattle.vhdx_format.specs.Layers.{entry_of, table_entry}
use Rattle.layer_session.proofs.Choices.{chosen_drop, chosen_leave, chosen_make, chosen_part, planned_then, readable_then, said_then}
use Rattle.layer_session.proofs.Planned.{both_not, entry_reads, planned_write, read_then}
use Rattle.layer_session.proofs.Sectors.{first_below}
use Rattle.layer_session.proofs.Known.{failed_from, fails_from, held_still, of_parts, state_fits}
use Rattle.vx_base.proofs.Handed.{failed_for, not_if_ok, not_ok, ok_then}
use Rattle.layer_session.proofs.planning.plan_of.Goals as goal
use Rattle.layer_session.proofs.planning.plan_of.Goals.{then-state-ge-FULLY_PRESENT, else-state-ge-FULLY_PRESENT, then-word-eq2, else-word-eq2, else-trims-via-then-trims+else-is_whole_block, else-trims-via-else-trims}

-- in a file without a parent, or a block that isn't in this state
alone : (parent : Bool) (Other : Type 0) → ((parent ≡ true) × Other) ⊎ (parent ≡ false) → (parent ≡ false) ⊎ Other
alone parent Other (inl h) = inr h.1
alone parent Other (inr h) = inl h

pub plan_part-requires-clause-readable : goal.plan_part-requires-clause-readable
plan_part-requires-clause-readable g c =
    readable_then c.args.tables.now c.entry.new.self _ _ c.requires.readable (entry_reads _ _ _ c.entry.ensures.as_held c.entry.ensures.places) c.in_ok-word.ensures.stays

pub returns-then-state-eq-PARTLY_PRESENT-clause-planned : goal.returns-then-state-eq-PARTLY_PRESENT-clause-planned
returns-then-state-eq-PARTLY_PRESENT-clause-planned g c =
    planned_then c.args.tables.now c.entry.new.self _ _ c.args.trims _ _ _ (entry_reads _ _ _ c.entry.ensures.as_held c.entry.ensures.places) c.in_ok-word.ensures.stays
    (elim c.else-trims.branch [
      | else-trims-via-then-trims+else-is_whole_block w ↦ both_not c.args.trims _ (inr (sym w.is_whole_block.ensures ∙ w.if-is_whole_block.false))
      | else-trims-via-else-trims w ↦ both_not c.args.trims _ (inl w.if-trims.false)
    ])
    c.plan_part.ensures.planned

pub returns-then-state-eq-PARTLY_PRESENT-clause-reads : goal.returns-then-state-eq-PARTLY_PRESENT-clause-reads
returns-then-state-eq-PARTLY_PRESENT-clause-reads g c =
    read_then c.args.tables.now c.entry.new.self c.plan_part.new.tables (g.S.Store.disk c.args.store.now) (entry_reads _ _ _ c.entry.ensures.as_held c.entry.ensures.places)
    (subst (HasRead c.entry.new.self c.plan_part.new.tables) c.in_ok-word.ensures.stays c.plan_part.ensures.reads)

pub entry-requires-then-state-eq-NOT_PRESENT-clause-tables : goal.entry-requires-then-state-eq-NOT_PRESENT-clause-tables
entry-requires-then-state-eq-NOT_PRESENT-clause-tables g c = subst (AreTablesIn c.entry.new.self) (sym c.in_ok-word.ensures.stays) c.entry.ensures.as_held.tables

pub returns-in_err-bitmap-clause-reads : goal.returns-in_err-bitmap-clause-reads
returns-in_err-bitmap-clause-reads g c =
    read_then c.args.tables.now c.entry.new.self c.entry-then-state-eq-NOT_PRESENT.new.self (g.S.Store.disk c.args.store.now) (entry_reads _ _ _ c.entry.ensures.as_held c.entry.ensures.places)
    (subst (HasRead c.entry.new.self c.entry-then-state-eq-NOT_PRESENT.new.self) c.in_ok-word.ensures.stays (entry_reads _ _ _ c.entry-then-state-eq-NOT_PRESENT.ensures.as_held c.entry-then-state-eq-NOT_PRESENT.ensures.places))

pub returns-then-state-eq-NOT_PRESENT-clause-planned : goal.returns-then-state-eq-NOT_PRESENT-clause-planned
returns-then-state-eq-NOT_PRESENT-clause-planned g c trace told =
    chosen_part _ _ c.args.trims _ _ c.in_ok-word.word _ c.entry_index.ensures.index (c.in_ok-word.ensures.entry trace told) c.in_ok-bitmap.bitmap
    (elim c.else-trims.branch [
      | else-trims-via-then-trims+else-is_whole_block w ↦ both_not c.args.trims _ (inr (sym w.is_whole_block.ensures ∙ w.if-is_whole_block.false))
      | else-trims-via-else-trims w ↦ both_not c.args.trims _ (inl w.if-trims.false)
    ])
    c.if-parts-2.true c.if-state-eq-NOT_PRESENT.true
    (subst (λ i. c.in_ok-bitmap.bitmap ≡ table_entry (shape_of c.args.tables.now.parts) (held_file c.args.tables.now trace) i) c.bitmap_entry_index.ensures.index
    (said_then (λ p file. c.in_ok-bitmap.bitmap ≡ table_entry p file c.bitmap_entry_index.result) c.args.tables.now c.entry.new.self _ _ trace
    (entry_reads _ _ _ c.entry.ensures.as_held c.entry.ensures.places) c.in_ok-word.ensures.stays c.in_ok-bitmap.ensures.entry told))

pub returns-then-state-eq-NOT_PRESENT-clause-reads : goal.returns-then-state-eq-NOT_PRESENT-clause-reads
returns-then-state-eq-NOT_PRESENT-clause-reads g c =
    read_then c.args.tables.now c.entry.new.self c.entry-then-state-eq-NOT_PRESENT.new.self (g.S.Store.disk c.args.store.now) (entry_reads _ _ _ c.entry.ensures.as_held c.entry.ensures.places)
    (subst (HasRead c.entry.new.self c.entry-then-state-eq-NOT_PRESENT.new.self) c.in_ok-word.ensures.stays (entry_reads _ _ _ c.entry-then-state-eq-NOT_PRESENT.ensures.as_held c.entry-then-state-eq-NOT_PRESENT.ensures.places))

pub entry_index-requires-clause-parts : goal.entry_index-requires-clause-parts
entry_index-requires-clause-parts g c = c.requires.readable.sizes

pub entry_index-requires-clause-sector : goal.entry_index-requires-clause-sector
entry_index-requires-clause-sector g c = first_below c.args.first c.args.count c.args.tables.now.parts.sectors c.requires.some c.requires.block.on_disk

pub entry-requires-clause-there : goal.entry-requires-clause-there
entry-requires-clause-there g c = c.requires.readable.there

pub entry-requires-clause-parts : goal.entry-requires-clause-parts
entry-requires-clause-parts g c = c.requires.readable.sizes

pub entry-requires-clause-index : goal.entry-requires-clause-index
entry-requires-clause-index g c = c.entry_index.ensures.inside

pub entry-requires-clause-tables : goal.entry-requires-clause-tables
entry-requires-clause-tables g c = c.requires.readable.tables

pub returns-in_err-word-clause-planned : goal.returns-in_err-word-clause-planned
returns-in_err-word-clause-planned g c = not_if_ok c.from_residual.result _ c.from_residual.ensures.1 _

pub returns-in_err-word-clause-reads : goal.returns-in_err-word-clause-reads
returns-in_err-word-clause-reads g c = entry_reads _ _ _ c.entry.ensures.as_held c.entry.ensures.places

pub returns-in_err-word-clause-stays : goal.returns-in_err-word-clause-stays
returns-in_err-word-clause-stays g c = not_ok c.from_residual.result _ c.from_residual.ensures.1 _

pub returns-in_err-word-clause-err : goal.returns-in_err-word-clause-err
returns-in_err-word-clause-err g c = failed_for c.from_residual.result _ c.from_residual.ensures.1 _ c.in_err-word.ensures.err

pub is_whole_block-requires-clause-parts : goal.is_whole_block-requires-clause-parts
is_whole_block-requires-clause-parts g c = c.requires.readable.sizes

pub is_whole_block-requires-clause-on_disk : goal.is_whole_block-requires-clause-on_disk
is_whole_block-requires-clause-on_disk g c = c.requires.block.on_disk

pub is_whole_block-requires-clause-some : goal.is_whole_block-requires-clause-some
is_whole_block-requires-clause-some g c = c.requires.some

pub returns-then-is_whole_block-clause-reads : goal.returns-then-is_whole_block-clause-reads
returns-then-is_whole_block-clause-reads g c = entry_reads _ _ _ c.entry.ensures.as_held c.entry.ensures.places

pub returns-then-is_whole_block-clause-stays : goal.returns-then-is_whole_block-clause-stays
returns-then-is_whole_block-clause-stays g c = c.in_ok-word.ensures.stays

pub overflow_cast-state : goal.overflow_cast-state
overflow_cast-state g c = state_fits c.in_ok-word.word

pub plan_part-requires-clause-parent : goal.plan_part-requires-clause-parent
plan_part-requires-clause-parent g c = of_parts (λ p. p.parent ≡ true) _ _ c.entry.ensures.as_held.parts_are c.if-parts.true

pub plan_part-requires-clause-state : goal.plan_part-requires-clause-state
plan_part-requires-clause-state g c = c.if-state-eq-PARTLY_PRESENT.true

pub plan_part-requires-clause-word : goal.plan_part-requires-clause-word
plan_part-requires-clause-word g c =
    held_still (λ p file. c.in_ok-word.word ≡ table_entry p file (entry_of p c.args.first)) c.args.tables.now c.entry.new.self _ _ c.entry.ensures.as_held c.in_ok-word.ensures.stays
    (λ t told. subst (λ i. c.in_ok-word.word ≡ table_entry (shape_of c.args.tables.now.parts) (held_file c.args.tables.now t) i) c.entry_index.ensures.index (c.in_ok-word.ensures.entry t told))

pub returns-then-state-eq-PARTLY_PRESENT-clause-stays : goal.returns-then-state-eq-PARTLY_PRESENT-clause-stays
returns-then-state-eq-PARTLY_PRESENT-clause-stays g c = ok_then c.plan_part.result (λ e. e ∙ c.in_ok-word.ensures.stays) c.plan_part.ensures.stays

pub returns-then-state-eq-PARTLY_PRESENT-clause-err : goal.returns-then-state-eq-PARTLY_PRESENT-clause-err
returns-then-state-eq-PARTLY_PRESENT-clause-err g c = fails_from c.plan_part.result _ _ _ _ _ c.entry.ensures.as_held.parts_are c.in_ok-word.ensures.stays c.plan_part.ensures.err

pub bitmap_entry_index-requires-clause-parts : goal.bitmap_entry_index-requires-clause-parts
bitmap_entry_index-requires-clause-parts g c = c.requires.readable.sizes

pub bitmap_entry_index-requires-clause-parent : goal.bitmap_entry_index-requires-clause-parent
bitmap_entry_index-requires-clause-parent g c = c.if-parts-2.true

pub bitmap_entry_index-requires-clause-sector : goal.bitmap_entry_index-requires-clause-sector
bitmap_entry_index-requires-clause-sector g c = first_below c.args.first c.args.count c.args.tables.now.parts.sectors c.requires.some c.requires.block.on_disk

pub entry-requires-then-state-eq-NOT_PRESENT-clause-there : goal.entry-requires-then-state-eq-NOT_PRESENT-clause-there
entry-requires-then-state-eq-NOT_PRESENT-clause-there g c =
    subst (λ d. c.entry.new.self.parts.file < d.files) (sym c.in_ok-word.ensures.stays)
    (of_parts (λ p. p.file < (g.S.Store.disk c.args.store.now).files) _ _ c.entry.ensures.as_held.parts_are c.requires.readable.there)

pub entry-requires-then-state-eq-NOT_PRESENT-clause-parts : goal.entry-requires-then-state-eq-NOT_PRESENT-clause-parts
entry-requires-then-state-eq-NOT_PRESENT-clause-parts g c = of_parts HasTables _ _ c.entry.ensures.as_held.parts_are c.requires.readable.sizes

pub entry-requires-then-state-eq-NOT_PRESENT-clause-index : goal.entry-requires-then-state-eq-NOT_PRESENT-clause-index
entry-requires-then-state-eq-NOT_PRESENT-clause-index g c = of_parts (λ p. 8 * c.bitmap_entry_index.result + 8 ≤ p.bat_len) _ _ c.entry.ensures.as_held.parts_are c.bitmap_entry_index.ensures.inside

pub returns-in_err-bitmap-clause-planned : goal.returns-in_err-bitmap-clause-planned
returns-in_err-bitmap-clause-planned g c = not_if_ok c.from_residual-in_err-bitmap.result _ c.from_residual-in_err-bitmap.ensures.1 _

pub returns-in_err-bitmap-clause-stays : goal.returns-in_err-bitmap-clause-stays
returns-in_err-bitmap-clause-stays g c = not_ok c.from_residual-in_err-bitmap.result _ c.from_residual-in_err-bitmap.ensures.1 _

pub returns-in_err-bitmap-clause-err : goal.returns-in_err-bitmap-clause-err
returns-in_err-bitmap-clause-err g c =
    failed_for c.from_residual-in_err-bitmap.result _ c.from_residual-in_err-bitmap.ensures.1 _
    (failed_from _ _ _ _ _ _ c.entry.ensures.as_held.parts_are c.in_ok-word.ensures.stays c.in_err-bitmap.ensures.err)

pub returns-then-state-eq-NOT_PRESENT-clause-stays : goal.returns-then-state-eq-NOT_PRESENT-clause-stays
returns-then-state-eq-NOT_PRESENT-clause-stays g c = c.in_ok-bitmap.ensures.stays ∙ c.in_ok-word.ensures.stays

pub plan_part-requires-clause-some : goal.plan_part-requires-clause-some
plan_part-requires-clause-some g c = c.requires.some

pub plan_part-requires-clause-block : goal.plan_part-requires-clause-block
plan_part-requires-clause-block g c = of_parts (λ p. LieInBlock p c.args.first c.args.count) _ _ c.entry.ensures.as_held.parts_are c.requires.block

pub returns-then-is_whole_block-clause-planned : goal.returns-then-is_whole_block-clause-planned
returns-then-is_whole_block-clause-planned g c trace told =
    let whole = sym c.is_whole_block.ensures ∙ c.if-is_whole_block.true in
    rw c.unmarked.ensures (
    elim c.if-word-eq2.branch [
      | then-word-eq2 w ↦ rw w.step-is (chosen_leave _ _ _ _ _ _ _ c.entry_index.ensures.index (c.in_ok-word.ensures.entry trace told) c.if-trims.true whole w.if-word-eq2.true)
      | else-word-eq2 w ↦ rw w.step-is (chosen_drop _ _ _ _ _ _ _ c.entry_index.ensures.index (c.in_ok-word.ensures.entry trace told) c.if-trims.true whole w.if-word-eq2.false)
    ])

pub returns-clause-reads : goal.returns-clause-reads
returns-clause-reads g c = entry_reads _ _ _ c.entry.ensures.as_held c.entry.ensures.places

pub returns-clause-stays : goal.returns-clause-stays
returns-clause-stays g c = c.in_ok-word.ensures.stays

pub returns-clause-planned : goal.returns-clause-planned
returns-clause-planned g c trace told =
    rw c.unmarked-2.ensures (
    elim c.if-state-ge-FULLY_PRESENT.branch [
      | then-state-ge-FULLY_PRESENT w ↦ rw w.step-is (
          planned_write c.args.tables.now (g.S.Store.disk c.args.store.now) trace c.args.trims c.args.first c.args.count c.in_ok-word.word c.requires.readable told
          (first_below c.args.first c.args.count c.args.tables.now.parts.sectors c.requires.some c.requires.block.on_disk)
          (subst (λ i. c.in_ok-word.word ≡ table_entry (shape_of c.args.tables.now.parts) (held_file c.args.tables.now trace) i) c.entry_index.ensures.index (c.in_ok-word.ensures.entry trace told))
          w.if-state-ge-FULLY_PRESENT.true (alone _ _ c.else-parts.either) (
          elim c.else-trims.branch [
            | else-trims-via-then-trims+else-is_whole_block v ↦ both_not c.args.trims _ (inr (sym v.is_whole_block.ensures ∙ v.if-is_whole_block.false))
            | else-trims-via-else-trims v ↦ both_not c.args.trims _ (inl v.if-trims.false)
          ])
          )
      | else-state-ge-FULLY_PRESENT w ↦ rw w.step-is (
          chosen_make _ _ c.args.trims _ _ _ _ c.entry_index.ensures.index (c.in_ok-word.ensures.entry trace told) (
          elim c.else-trims.branch [
            | else-trims-via-then-trims+else-is_whole_block v ↦ both_not c.args.trims _ (inr (sym v.is_whole_block.ensures ∙ v.if-is_whole_block.false))
            | else-trims-via-else-trims v ↦ both_not c.args.trims _ (inl v.if-trims.false)
          ]) w.if-state-ge-FULLY_PRESENT.false (alone _ _ c.else-parts-2.either)
          )
    ])

pub returns-clause-err : goal.returns-clause-err
returns-clause-err g c = tt

pub returns-then-is_whole_block-clause-err : goal.returns-then-is_whole_block-clause-err
returns-then-is_whole_block-clause-err g c = tt

pub returns-then-state-eq-NOT_PRESENT-clause-err : goal.returns-then-state-eq-NOT_PRESENT-clause-err
returns-then-state-eq-NOT_PRESENT-clause-err g c = tt
