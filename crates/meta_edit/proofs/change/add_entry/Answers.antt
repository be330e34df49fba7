use Rattle.meta_edit.proofs.HandedOn.{answers_handed, ends_handed}
use Rattle.std.proofs.Common.{◌≡◌, ◌+◌, ◌*◌, ◌/◌, ℕ, List, length, ap, subst, sym, arith}
use Rattle.std.specs.Prelude.{Some}
use Rattle.vx_base.specs.Fields.{u16_bytes, written_over}
use Rattle.meta_edit.specs.Steps.{IsLaid, added_there}
use Rattle.meta_edit.proofs.Puts.{answers_put, ends_put, put_twice}
use Rattle.meta_edit.proofs.change.add_entry.Goals as goal

both : (region entry value b c : List ℕ) (place i j : ℕ) → b ≡ c → i ≡ j
    → Some (written_over (written_over (written_over region 10 b) (32 * i) entry) place value) ≡ Some (written_over (written_over (written_over region 10 c) (32 * j) entry) place value)
both region entry value b c place i j e f = cc

pub returns-clause-answer : goal.returns-clause-answer
returns-clause-answer g c =
    let number : List ℕ = c.u16_value.result in
    let i : ℕ = c.from.result in
    answers_put c.args.laid.now (λ region. written_over (written_over (written_over region 10 number) (32 * i) c.args.entry.now) c.args.place c.args.value.now)
    (length number / 4096 + 2 + (length c.args.entry.now / 4096 + 2 + (length c.args.value.now / 4096 + 2))) c.new.result (g.S.Store.disk c.args.store.now) (g.S.Store.disk c.put_both.new.store)
    (λ region. Some (added_there region c.args.count c.args.entry.now c.args.place c.args.value.now)) c.put_both.result c.requires.laid c.new.ensures
    (put_twice c.args.laid.now (λ region. written_over region 10 number) (λ region. written_over (written_over region (32 * i) c.args.entry.now) c.args.place c.args.value.now)
    (length number / 4096 + 2) (length c.args.entry.now / 4096 + 2 + (length c.args.value.now / 4096 + 2)) c.new.result c.in_ok-updates.updates (g.S.Store.disk c.args.store.now)
    (g.S.Store.disk c.put_in_region.new.store) (g.S.Store.disk c.put_both.new.store) c.put_both.result c.in_ok-updates.ensures c.put_both.ensures)
    (λ region whole. both region c.args.entry.now c.args.value.now (u16_bytes (c.args.count + 1)) number c.args.place (c.args.count + 1) i (sym c.u16_value.ensures) (sym c.from.ensures))

pub returns-clause-ends : goal.returns-clause-ends
returns-clause-ends g c =
    let number : List ℕ = c.u16_value.result in
    let i : ℕ = c.from.result in
    let two : length number ≡ 2 = ap length c.u16_value.ensures in
    ends_put c.args.laid.now (λ region. written_over (written_over (written_over region 10 number) (32 * i) c.args.entry.now) c.args.place c.args.value.now)
    (length number / 4096 + 2 + (length c.args.entry.now / 4096 + 2 + (length c.args.value.now / 4096 + 2))) c.new.result (g.S.Store.disk c.args.store.now) (g.S.Store.disk c.put_both.new.store)
    c.put_both.result c.new.ensures (omega (arith, two, c.fits-entry, c.told-entry, c.requires.value))
    (put_twice c.args.laid.now (λ region. written_over region 10 number) (λ region. written_over (written_over region (32 * i) c.args.entry.now) c.args.place c.args.value.now)
    (length number / 4096 + 2) (length c.args.entry.now / 4096 + 2 + (length c.args.value.now / 4096 + 2)) c.new.result c.in_ok-updates.updates (g.S.Store.disk c.args.store.now)
    (g.S.Store.disk c.put_in_region.new.store) (g.S.Store.disk c.put_both.new.store) c.put_both.result c.in_ok-updates.ensures c.put_both.ensures)

pub returns-in_err-updates-clause-answer : goal.returns-in_err-updates-clause-answer
returns-in_err-updates-clause-answer g c =
    answers_handed c.args.laid.now (g.S.Store.disk c.args.store.now) (g.S.Store.disk c.put_in_region.new.store) _ c.in_err-updates.field-0.0 c.from_residual.ensures.1
    (λ region. Some (added_there region c.args.count c.args.entry.now c.args.place c.args.value.now)) c.in_err-updates.ensures.outside

pub returns-in_err-updates-clause-ends : goal.returns-in_err-updates-clause-ends
returns-in_err-updates-clause-ends g c =
    ends_handed c.args.laid.now (g.S.Store.disk c.args.store.now) (g.S.Store.disk c.put_in_region.new.store) _ c.in_err-updates.field-0.0 c.from_residual.ensures.1 c.in_err-updates.ensures

pub put_both-requires-clause-laid : goal.put_both-requires-clause-laid
put_both-requires-clause-laid g c = subst (IsLaid c.args.laid.now) (sym c.in_ok-updates.ensures.store) c.requires.laid

pub put_both-requires-clause-updates : goal.put_both-requires-clause-updates
put_both-requires-clause-updates g c = c.in_ok-updates.ensures.within

pub put_both-requires-clause-second : goal.put_both-requires-clause-second
put_both-requires-clause-second g c = λ some. c.requires.last
