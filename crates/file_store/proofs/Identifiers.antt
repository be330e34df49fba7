-- Identifiers of version 4.
use Rattle.std.proofs.Common.{◌≡◌, ℕ, ◌/◌, List, slice_index_or, sym, ap, ◌∙◌, arith}
use Rattle.vx_base.specs.Fields.{zeros}

pub never_zero : (id : List ℕ) → slice_index_or id 7 0 / 16 ≡ 4 → id ≡ zeros 16 → ⊥
unfolding zeros
never_zero id version zero =
    let never : 0 ≡ 4 = sym (ap (λ (bytes : List ℕ). slice_index_or bytes 7 0 / 16) zero) ∙ version in omega (arith, never)
