use Rattle.std.proofs.Common.{◌≡◌, ◌≤◌, ◌+◌, ℕ, length, ap, refl, sym, ◌∙◌, arith}
use Rattle.std.specs.Prelude.{Some}
use Rattle.vx_base.specs.Fields.{u16_at}
use Rattle.vhdx_format.specs.Updates.{items_end, is_full_table, with_new}
use Rattle.vhdx_format.specs.MetadataTables.{metadata_entries, metadata_entry_bytes}
use Rattle.meta_edit.specs.Edits.{id_of, flags_of}
use Rattle.meta_edit.specs.Steps.{added_there}
use Rattle.meta_edit.proofs.Puts.{answers_alike, answers_full}
use Rattle.meta_edit.proofs.Refused.{new_some, new_none}
use Rattle.meta_edit.proofs.change.add_item.Goals as goal

pub returns-clause-answer : goal.returns-clause-answer
returns-clause-answer g c =
    let n : ℕ = c.args.laid.now.parts.now.meta_len in
    let end : ℕ = items_end (metadata_entries c.args.table.now) in
    let place : c.in-Some.place ≡ end = c.in-Some.ensures.place.0 ∙ c.items_end.ensures.end in
    let fits : end + length c.args.value.now ≤ n = omega (arith, c.in-Some.ensures.place.1, c.items_end.ensures.end) in
    let entry = c.new_entry-entry.ensures ∙ ap (λ (z : ℕ). metadata_entry_bytes (id_of c.args.kind) z (length c.args.value.now) (flags_of c.args.kind)) c.offset_of.ensures in
    answers_alike c.args.laid.now (g.S.Store.disk c.args.store.now) (λ region. Some (added_there region c.u16_at.result c.new_entry-entry.result c.in-Some.place c.args.value.now))
    (λ region. with_new region (is_full_table (metadata_entries c.args.table.now)) (u16_at c.args.table.now 10) end (id_of c.args.kind) (flags_of c.args.kind) c.args.value.now)
    c.add_entry.result c.requires.laid
    (λ region whole. ap (λ (k : ℕ). Some (added_there region k c.new_entry-entry.result c.in-Some.place c.args.value.now)) c.u16_at.ensures
    ∙ sym (new_some c.args.kind region c.args.value.now c.new_entry-entry.result (is_full_table (metadata_entries c.args.table.now)) n (u16_at c.args.table.now 10) end c.in-Some.place
    (sym c.is_full_table.ensures.full ∙ c.if-is_full_table.false) whole c.requires.laid.parts.table (c.is_full_table.ensures.room c.if-is_full_table.false) place entry fits))
    c.add_entry.ensures.answer

pub returns-in_default-clause-answer : goal.returns-in_default-clause-answer
returns-in_default-clause-answer g c =
    let end : ℕ = items_end (metadata_entries c.args.table.now) in
    answers_full c.args.laid.now (g.S.Store.disk c.args.store.now) c.args.laid.now.file
    (λ region. with_new region (is_full_table (metadata_entries c.args.table.now)) (u16_at c.args.table.now 10) end (id_of c.args.kind) (flags_of c.args.kind) c.args.value.now) c.requires.laid
    (λ region whole. new_none c.args.kind region c.args.value.now (is_full_table (metadata_entries c.args.table.now)) c.args.laid.now.parts.now.meta_len (u16_at c.args.table.now 10) end
    (sym c.is_full_table.ensures.full ∙ c.if-is_full_table.false) whole c.requires.laid.parts.table (c.is_full_table.ensures.room c.if-is_full_table.false)
    (omega (arith, c.in_default.ensures.none refl, c.items_end.ensures.end)))
