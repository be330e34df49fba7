use Rattle.meta_edit.proofs.HandedOn.{puts_handed}
use Rattle.vx_base.specs.Fields.{written_over}
use Rattle.std.proofs.Common.{◌≡◌, ℕ, ◌+◌, ◌/◌, length, subst, arith}
use Rattle.meta_edit.specs.Steps.{WritesLaid}
use Rattle.meta_edit.proofs.Puts.{none_put, written_put}
use Rattle.meta_edit.proofs.change.put_in_region.Goals as goal

pub returns-then-is_empty : goal.returns-then-is_empty
returns-then-is_empty g c =
    let none : length c.args.bytes.now ≡ 0 = grind (arith, c.is_empty.ensures, c.if-is_empty.true) in
    none_put c.args.laid.now (g.S.Store.disk c.args.store.now) c.args.updates c.args.offset c.args.bytes.now c.requires.laid c.requires.updates none

pub returns : goal.returns
returns g c =
    written_put c.args.laid.now (g.S.Store.disk c.args.store.now) (g.S.Store.disk c.put.new.store) c.args.updates c.put.new.updates c.args.offset c.args.bytes.now
    c.requires.laid c.requires.last
    (subst (λ (z : ℕ). WritesLaid c.args.laid.now (c.args.laid.now.parts.now.meta_at + z) c.args.bytes.now (g.S.Store.disk c.args.store.now) c.args.updates c.put.new.updates) c.from.ensures c.in_ok-put.ensures.written)
    c.in_ok-put.ensures.pages c.in_ok-put.ensures.few c.in_ok-put.ensures.store

pub returns-in_err-put : goal.returns-in_err-put
returns-in_err-put g c =
    puts_handed c.args.laid.now (g.S.Store.disk c.args.store.now) (g.S.Store.disk c.put.new.store) _ c.in_err-put.field-0.0 c.from_residual.ensures.1
    (λ region. written_over region c.args.offset c.args.bytes.now) (length c.args.bytes.now / 4096 + 2) c.args.updates (record { outside = c.in_err-put.ensures.err; store = c.in_err-put.ensures.store })
