use Rattle.std.proofs.Common.{◌≡◌, ◌+◌, ◌/◌, ℕ, List, ◌++◌, length, ap, sym, ◌∙◌, arith}
use Rattle.std.specs.Prelude.{Some}
use Rattle.vx_base.specs.Fields.{u32_bytes, written_over}
use Rattle.vhdx_format.specs.Updates.{offset_of}
use Rattle.meta_edit.specs.Steps.{changed_there}
use Rattle.meta_edit.proofs.Puts.{answers_put, ends_put}
use Rattle.meta_edit.proofs.change.change_in_place.Goals as goal

pub returns-clause-answer : goal.returns-clause-answer
returns-clause-answer g c =
    let place : List ℕ = c.place_bytes-place.result in
    let entry : List ℕ = u32_bytes (offset_of c.args.old.now.at c.args.value.now) ++ u32_bytes (length c.args.value.now) in
    let same : place ≡ entry = c.place_bytes-place.ensures ∙ ap (λ (z : ℕ). u32_bytes z ++ u32_bytes (length c.args.value.now)) c.offset_of.ensures in
    answers_put c.args.laid.now (λ region. written_over (written_over region c.args.old.now.at c.args.value.now) c.place_in_entry.result place)
    (length c.args.value.now / 4096 + 2 + (length place / 4096 + 2)) c.new-updates.result (g.S.Store.disk c.args.store.now) (g.S.Store.disk c.put_both.new.store)
    (λ region. Some (changed_there region c.args.old.now c.args.value.now)) c.put_both.result c.requires.laid c.new-updates.ensures c.put_both.ensures
    (λ region whole. ap (λ (z : ℕ). Some (written_over (written_over region c.args.old.now.at c.args.value.now) z entry)) (sym c.place_in_entry.ensures)
    ∙ ap (λ (z : List ℕ). Some (written_over (written_over region c.args.old.now.at c.args.value.now) c.place_in_entry.result z)) (sym same))

pub returns-clause-ends : goal.returns-clause-ends
returns-clause-ends g c =
    let place : List ℕ = c.place_bytes-place.result in
    let eight : length place ≡ 8 = ap length c.place_bytes-place.ensures in
    ends_put c.args.laid.now (λ region. written_over (written_over region c.args.old.now.at c.args.value.now) c.place_in_entry.result place)
    (length c.args.value.now / 4096 + 2 + (length place / 4096 + 2)) c.new-updates.result (g.S.Store.disk c.args.store.now) (g.S.Store.disk c.put_both.new.store)
    c.put_both.result c.new-updates.ensures (omega (arith, eight, c.requires.value)) c.put_both.ensures
