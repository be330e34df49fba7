-- The views after a seat's view changed, after a seat was cut in two, and after two were joined: what holds of each, and what they sum to.
use Rattle.std.proofs.Common.{◌≡◌, ◌≢◌, ℕ, zero, suc, ◌+◌, List, [], ◌∷◌, ◌++◌, length, set, sym, ◌∙◌, subst, ⊎_elim, arith, length-set, length-append}
use Rattle.std.specs.List.{sum_by}
use Rattle.std.proofs.lemmas.List.Sums.{sum_by_push}
use mathlib.Core.Option.{some, some-injective, some-ne-none}
use lib.ListN.{get_elem?}
use Rattle.atomic_table.proofs.Lists.{at_set, at_snoc}
use Rattle.seats.proofs.Sums.{sum_by-set_at}

pub each-first : {V : Type 0} (P : ℕ → V → Type 0) (v : V) → P 0 v → (j : ℕ) (u : V) → get_elem? (v ∷ []) j ≡ some u → P j u
each-first P v p zero u e = subst (P 0) (some-injective v u e) p
each-first P v p (suc j) u e = absurd (some-ne-none u (sym e))

module _ {V : Type 0} (P : ℕ → V → Type 0) (vs : List V) (id : ℕ) (w : V) (here : P id w) (others : (j : ℕ) (u : V) → get_elem? vs j ≡ some u → j ≢ id → P j u) where
  pub each-set : (j : ℕ) (u : V) → get_elem? (set vs id w) j ≡ some u → P j u
  each-set j u e = ⊎_elim (λ (t : (j ≡ id) × (w ≡ u)). subst (λ (i : ℕ). P i u) (sym t.0) (subst (P id) t.1 here)) (λ (t : (j ≢ id) × (get_elem? vs j ≡ some u)). others j u t.1 t.0) (at_set vs id j w u e)

  pub each-cut : (x : V) → ((j : ℕ) → P j x) → (j : ℕ) (u : V) → get_elem? (set vs id w ++ x ∷ []) j ≡ some u → P j u
  each-cut x new j u e = ⊎_elim (each-set j u) (λ (t : x ≡ u). subst (P j) t (new j)) (at_snoc (set vs id w) x u j e)

module _ {V : Type 0} (P : ℕ → V → Type 0) (vs : List V) (id other : ℕ) (b x : V) (here : P id b) (there : P other x) (others : (j : ℕ) (u : V) → get_elem? vs j ≡ some u → j ≢ id → P j u) where
  pub each-joined : (j : ℕ) (u : V) → get_elem? (set (set vs id b) other x) j ≡ some u → P j u
  each-joined = each-set P (set vs id b) other x there (λ j u e _. each-set P vs id b here others j u e)

module _ {V : Type 0} (vs : List V) (id : ℕ) (w x : V) where
  pub length-cut : length (set vs id w ++ x ∷ []) ≡ length vs + 1
  length-cut = omega (arith, length-append (set vs id w) (x ∷ []), length-set vs id w)

  pub length-joined : (other : ℕ) → length (set (set vs id w) other x) ≡ length vs
  length-joined other = length-set (set vs id w) other x ∙ length-set vs id w

  module _ (f : V → ℕ) (v : V) (at : get_elem? vs id ≡ some v) where
    pub sum-cut : sum_by f (set vs id w ++ x ∷ []) + f v ≡ sum_by f vs + f w + f x
    sum-cut = omega (arith, sum_by_push f (set vs id w) x, sum_by-set_at f vs id v w at)

    pub sum-joined : (other : ℕ) (u : V) → get_elem? (set vs id w) other ≡ some u → sum_by f (set (set vs id w) other x) + f v + f u ≡ sum_by f vs + f w + f x
    sum-joined other u at' = omega (arith, sum_by-set_at f vs id v w at, sum_by-set_at f (set vs id w) other u x at')
