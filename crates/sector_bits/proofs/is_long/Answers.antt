use Rattle.std.proofs.Common.{◌≡◌, ℕ, ◌+◌, ◌-◌, List, take, drop, get_or, slice_index, replicate, sym, ap, ◌∙◌, arith}
use Rattle.std.proofs.lemmas.List.{get_or-take, get_or-drop, get_or-replicate}
use Rattle.std.specs.Str.{bytes_eq}
use Rattle.std.proofs.lemmas.Slice.Eq.{bytes_eq-Decides}
use Rattle.sector_bits.proofs.is_long.Goals as goal

pub returns : goal.returns
returns c = λ h k a b.
    let same : take (c.args.at + 256 - c.args.at) (drop c.args.at c.args.bits.now) ≡ replicate 256 c.args.byte =
    (bytes_eq-Decides (take (c.args.at + 256 - c.args.at) (drop c.args.at c.args.bits.now)) (replicate 256 c.args.byte)).0 (sym (c.eq.ensures ∙ ap (bytes_eq (take (c.args.at + 256 - c.args.at) (drop c.args.at c.args.bits.now))) c.as_slice.ensures) ∙ h) in
    let m : c.args.at + (k - c.args.at) ≡ k = omega (arith, a) in
    ap (λ i. slice_index c.args.bits.now i) (sym m) ∙ sym (get_or-drop c.args.at c.args.bits.now (k - c.args.at) 0)
    ∙ sym (get_or-take (c.args.at + 256 - c.args.at) (drop c.args.at c.args.bits.now) (k - c.args.at) 0 (omega (arith, a, b)))
    ∙ ap (λ (z : List ℕ). get_or z (k - c.args.at) 0) same ∙ get_or-replicate 256 (k - c.args.at) c.args.byte 0 (omega (arith, a, b))
