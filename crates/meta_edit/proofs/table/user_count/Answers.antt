use Rattle.std.proofs.Common.{◌≡◌, ℕ, Bool, cond, ap, sym, ◌∙◌, arith}
use Rattle.vhdx_format.specs.MetadataTables.{is_user, metadata_entry}
use Rattle.meta_edit.proofs.TableLaws.{next_counted}
use Rattle.meta_edit.proofs.table.user_count.Goals as goal
use Rattle.meta_edit.proofs.table.user_count.Goals.{then-is_user, else-is_user}

one_or_none : (b r : Bool) → r ≡ b → cond {A = ℕ} b 1 0 ≡ cond {A = ℕ} r 1 0
one_or_none b r e = ap (λ (x : Bool). cond {A = ℕ} x 1 0) (sym e)

pub loop-i-preserved : goal.loop-i-preserved
loop-i-preserved c =
    let next = next_counted is_user c.args.table.now c.loop-i.i c.u16_at-i-end.result c.loop-i-test.true in
    let same : c.is_user.result ≡ is_user (metadata_entry c.args.table.now c.loop-i.i) = c.is_user.ensures ∙ ap is_user c.entry_at.ensures in
    let here = one_or_none (is_user (metadata_entry c.args.table.now c.loop-i.i)) c.is_user.result same in
    elim c.if-is_user.branch [
      | then-is_user w ↦ (let one : cond {A = ℕ} c.is_user.result 1 0 ≡ 1 = ap (λ (x : Bool). cond {A = ℕ} x 1 0) w.if-is_user.true in record {
        all = omega (arith, next, here, one, w.count-is, c.loop-i.invariant.all);
        few = omega (arith, w.count-is, c.loop-i.invariant.few);
      })
      | else-is_user w ↦ (let none : cond {A = ℕ} c.is_user.result 1 0 ≡ 0 = ap (λ (x : Bool). cond {A = ℕ} x 1 0) w.if-is_user.false in record {
        all = omega (arith, next, here, none, w.count-is, c.loop-i.invariant.all);
        few = omega (arith, w.count-is, c.loop-i.invariant.few);
      })
    ]
