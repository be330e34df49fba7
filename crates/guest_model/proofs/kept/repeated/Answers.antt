use Rattle.std.proofs.Common.{◌≡◌, length, replicate, take, true, nat_eq, ◌∙◌, sym, subst}
use Rattle.std.specs.Cmp.Lexicographic.{pointwise}
use Rattle.guest_model.proofs.Repeated.{shifted}
use Rattle.guest_model.proofs.kept.repeated.Goals as goal

pub returns-then-eq : goal.returns-then-eq
returns-then-eq c =
    let b = c.in_ok-byte.byte.now in
    let rest = c.in_ok-byte.rest.now in
    let is = c.in_ok-byte.ensures.cases.0 in
    let same : pointwise nat_eq rest (take (length rest) c.args.bytes.now) ≡ true = sym c.eq.ensures ∙ c.if-eq.true in
    subst (λ bytes. bytes ≡ replicate (length bytes) b) (sym is) (shifted b rest (subst (λ bytes. pointwise nat_eq rest (take (length rest) bytes) ≡ true) is same))
