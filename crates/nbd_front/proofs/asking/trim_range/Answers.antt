use Rattle.std.proofs.Common.{◌≡◌, ◌+◌, ◌-◌, arith, ◌∙◌, ap}
use Rattle.std.proofs.lemmas.Result.{err_from_is_err_and}
use Rattle.vx_base.specs.declared.parts.Geometry.{Geometry}
use Rattle.nbd_front.proofs.Wanted.{trim_on, trim_refused, trims_done}
use Rattle.nbd_front.proofs.asking.trim_range.Goals as goal

pub returns-in_err-trim-clause-asks : goal.returns-in_err-trim-clause-asks
returns-in_err-trim-clause-asks g c =
    let p = err_from_is_err_and c.from_residual.result c.from_residual.ensures.1 in
    let size = ap (λ (q : Geometry). q.sector) c.loop-done.invariant.size ∙ c.requires.sector in
    rw (p.1, p.2) (c.loop-done.invariant.rest _ _
    (trim_refused _ _ c.args.sector (c.args.offset + c.loop-done.done) (c.args.len - c.loop-done.done) c.min-n.result _ _ _ (omega arith) size c.min-n.ensures c.in_err-trim.ensures.told))

pub loop-done-preserved : goal.loop-done-preserved
loop-done-preserved g c = record {
  inside = omega arith;
  size = (g.D.DiskCalls.lawful _ _ _ _ c.in_ok-trim.ensures.told).size ∙ c.loop-done.invariant.size;
  rest = λ new refused asks.
      let size = ap (λ (q : Geometry). q.sector) c.loop-done.invariant.size ∙ c.requires.sector in
      c.loop-done.invariant.rest new refused
      (trim_on _ _ c.args.sector (c.args.offset + c.loop-done.done) (c.args.len - c.loop-done.done) c.min-n.result _ _ _ _ _ _ _
      (omega arith) size c.min-n.ensures (omega arith) (omega arith) c.in_ok-trim.ensures.told asks);
}

pub returns-clause-asks : goal.returns-clause-asks
returns-clause-asks g c =
    let none : c.args.len - c.loop-done.done ≡ 0 = omega arith in
    c.loop-done.invariant.rest _ _ (rw none (trims_done _ _ _ _))
