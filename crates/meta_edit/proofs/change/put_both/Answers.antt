use Rattle.meta_edit.proofs.HandedOn.{puts_handed}
use Rattle.meta_edit.specs.Steps.{IsLaid}
use Rattle.std.proofs.Common.{◌/◌, ◌+◌, length, subst, sym}
use Rattle.vx_base.specs.Fields.{written_over}
use Rattle.meta_edit.proofs.Puts.{put_twice}
use Rattle.meta_edit.proofs.change.put_both.Goals as goal

pub returns : goal.returns
returns g c =
    put_twice c.args.laid.now (λ region. written_over region c.args.first_at c.args.first.now) (λ region. written_over region c.args.second_at c.args.second.now)
    (length c.args.first.now / 4096 + 2) (length c.args.second.now / 4096 + 2) c.args.updates c.in_ok-updates.updates (g.S.Store.disk c.args.store.now)
    (g.S.Store.disk c.put_in_region.new.store) (g.S.Store.disk c.put_in_region-2.new.store) c.put_in_region-2.result c.in_ok-updates.ensures c.put_in_region-2.ensures

pub returns-in_err-updates : goal.returns-in_err-updates
returns-in_err-updates g c =
    puts_handed c.args.laid.now (g.S.Store.disk c.args.store.now) (g.S.Store.disk c.put_in_region.new.store) _ c.in_err-updates.field-0.0 c.from_residual.ensures.1
    (λ region. written_over (written_over region c.args.first_at c.args.first.now) c.args.second_at c.args.second.now) (length c.args.first.now / 4096 + 2 + (length c.args.second.now / 4096 + 2)) c.args.updates c.in_err-updates.ensures

pub put_in_region-requires-2 : goal.put_in_region-requires-2
put_in_region-requires-2 g c = record {
  laid = subst (IsLaid c.args.laid.now) (sym c.in_ok-updates.ensures.store) c.requires.laid;
  updates = c.in_ok-updates.ensures.within;
  last = c.requires.second;
}
