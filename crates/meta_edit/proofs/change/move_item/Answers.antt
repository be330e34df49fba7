use Rattle.std.proofs.Common.{◌≡◌, ◌+◌, ◌/◌, ℕ, List, ◌++◌, length, ap, refl, sym, ◌∙◌, arith}
use Rattle.vx_base.specs.Fields.{u32_bytes, written_over}
use Rattle.vhdx_format.specs.Updates.{entry_place}
use Rattle.meta_edit.specs.Steps.{moved_to}
use Rattle.meta_edit.proofs.Puts.{answers_full, answers_put, ends_put, moved_none, moved_some, overs_alike}
use Rattle.meta_edit.proofs.change.move_item.Goals as goal

pub returns-clause-answer : goal.returns-clause-answer
returns-clause-answer g c =
    let entry : List ℕ = u32_bytes c.args.end ++ u32_bytes (length c.args.value.now) in
    let written : List ℕ = c.place_bytes-entry.result in
    let place : c.in-Some.place ≡ c.args.end = c.in-Some.ensures.place.0 in
    let same : written ≡ entry = c.place_bytes-entry.ensures ∙ ap (λ (z : ℕ). u32_bytes z ++ u32_bytes (length c.args.value.now)) place in
    answers_put c.args.laid.now (λ region. written_over (written_over region c.place_in_entry.result written) c.in-Some.place c.args.value.now)
    (length written / 4096 + 2 + (length c.args.value.now / 4096 + 2)) c.new-updates.result (g.S.Store.disk c.args.store.now) (g.S.Store.disk c.put_both.new.store)
    (λ region. moved_to region c.args.end c.args.old.now c.args.value.now) c.put_both.result c.requires.laid c.new-updates.ensures c.put_both.ensures
    (λ region whole. moved_some region c.args.value.now c.args.laid.now.parts.now.meta_len c.args.end c.args.old.now whole c.requires.index c.requires.laid.parts.table c.in-Some.ensures.place.1
    ∙ overs_alike region c.args.value.now (entry_place c.args.old.now.index + 16) c.place_in_entry.result c.args.end c.in-Some.place entry written (sym c.place_in_entry.ensures) (sym same) (sym place))

pub returns-clause-ends : goal.returns-clause-ends
returns-clause-ends g c =
    let written : List ℕ = c.place_bytes-entry.result in
    let eight : length written ≡ 8 = ap length c.place_bytes-entry.ensures in
    ends_put c.args.laid.now (λ region. written_over (written_over region c.place_in_entry.result written) c.in-Some.place c.args.value.now)
    (length written / 4096 + 2 + (length c.args.value.now / 4096 + 2)) c.new-updates.result (g.S.Store.disk c.args.store.now) (g.S.Store.disk c.put_both.new.store)
    c.put_both.result c.new-updates.ensures (omega (arith, eight, c.requires.value)) c.put_both.ensures

pub returns-in_default-clause-answer : goal.returns-in_default-clause-answer
returns-in_default-clause-answer g c =
    answers_full c.args.laid.now (g.S.Store.disk c.args.store.now) c.args.laid.now.file (λ region. moved_to region c.args.end c.args.old.now c.args.value.now) c.requires.laid
    (λ region whole. moved_none region c.args.value.now c.args.laid.now.parts.now.meta_len c.args.end c.args.old.now whole c.requires.index c.requires.laid.parts.table (c.in_default.ensures.none refl))
