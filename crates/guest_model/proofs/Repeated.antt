-- Bytes that are one byte all through.
use Rattle.std.proofs.Common.{◌≡◌, ℕ, true, nat_eq, List, [], ◌∷◌, length, replicate, take, refl, ap, ◌∙◌}
use Rattle.std.proofs.lemmas.Bool.{and_parts, eqb-true}
use Rattle.std.specs.Cmp.Lexicographic.{pointwise}

-- Bytes are one all through, if those behind the first one are those before the last one.
pub shifted : (b : ℕ) (rest : List ℕ) → pointwise nat_eq rest (take (length rest) (b ∷ rest)) ≡ true → b ∷ rest ≡ replicate (length (b ∷ rest)) b
shifted b [] same = refl
shifted b (r ∷ rest) same =
    let parts = and_parts (nat_eq r b) (pointwise nat_eq rest (take (length rest) (r ∷ rest))) same in
    let is : r ≡ b = eqb-true r b parts.0 in
    ap (λ l. b ∷ l) (shifted r rest parts.1 ∙ ap (replicate (length (r ∷ rest))) is)
