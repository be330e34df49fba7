use Rattle.std.proofs.Common.{refl, rules, sym, subst, arith, ◌≡◌, ◌<◌, ℕ, Bool, true}
use Rattle.std.specs.Prelude.{Option, Some}
use Rattle.guest_model.specs.declared.call.Call.TheVariants as calls
use Rattle.chain_core.specs.Copying.{IsTouched, Touches, TouchesIf}
use Rattle.chain_core.specs.declared.layers.Retiring.{Retiring}
use Rattle.chain_core.proofs.LeafPuts.{trim_touches}
use Rattle.chain_core.proofs.layers.touch.Goals as goal

pub returns : goal.returns
returns c =
    let z : ℕ = c.args.geometry.sector in
    let r : Retiring = c.in-Some.retiring in
    let w : Retiring = record { marks = c.unmark_range.new.self; stamps = c.set_range.new.self; clear = r.clear; retire = r.retire; third = r.third } in
    let done : c.args.is_done ≡ true = search rules in
    let some : 0 < c.args.count = omega (arith, c.if-count-eq0.false) in
    let touched : IsTouched z (calls.Trim c.args.first c.args.count) c.args.place r w =
    trim_touches z c.args.first c.args.count c.args.place c.stripes_touched-low.result.0 c.stripes_touched-low.result.1 r w c.requires.sector some c.stripes_touched-low.ensures.first c.stripes_touched-low.ensures.last refl
    c.unmark_range.ensures.stripes c.set_range.ensures.stripes c.unmark_range.ensures.marks c.set_range.ensures.stamps in
    subst (λ (b : Bool). TouchesIf b z (calls.Trim c.args.first c.args.count) c.args.place c.args.retiring.now (Some w)) (sym done)
    (subst (λ (o : Option Retiring). Touches z (calls.Trim c.args.first c.args.count) c.args.place o (Some w)) (sym c.in-Some.is) touched)
