use Rattle.std.proofs.Common.{◌≡◌, ap, is_some, sym}
use Rattle.std.specs.Prelude.{Result, Some}
use Rattle.guest_model.specs.Calls.{call_of}
use Rattle.guest_model.specs.declared.refusal.ChainRefusal.{ChainRefusal}
use Rattle.vx_base.proofs.Handed.{failed_for, not_ok}
use Rattle.chain_core.specs.Refusing.{barred, misplaced, out_of}
use Rattle.chain_core.proofs.Accepted.{permitted}
use Rattle.chain_core.proofs.chain.Chain.check.Goals as goal

pub returns-in_err-check_place : goal.returns-in_err-check_place
returns-in_err-check_place g c =
    let call = call_of c.args.call in
    let layers = c.args.self.now.layers in
    let r = c.from_residual.result in
    let same = c.from_residual.ensures.1 in
    record {
      ok = not_ok r _ same _;
      range = not_ok r _ same _;
      session = not_ok r _ same _;
      err = failed_for r c.in_err-check_place.field-0.0 same (λ (e : ChainRefusal). misplaced call layers ≡ Some e)
          (ap (λ (x : Result (Unit {0}) ChainRefusal). out_of x (barred call (is_some layers.leaf))) (sym c.in_err-check_place.ensures));
    }

pub returns : goal.returns
returns g c =
    let p = permitted (call_of c.args.call) c.args.self.now.layers c.only_reads.result c.permit.result c.only_reads.ensures c.permit.ensures c.in_ok-check_place.ensures in
    record { ok = p.ok; range = p.range; session = p.session; err = p.err }
