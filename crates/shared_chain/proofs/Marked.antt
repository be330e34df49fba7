-- Lists of stripes that have marks.
use Rattle.std.proofs.Common.{◌≡◌, ◌<◌, ◌==◌, ◌∷◌, ℕ, zero, suc, Bool, true, false, inl, inr, refl, sym, subst, ◌∙◌, arith, eqb-true}
use Rattle.std.specs.Prelude.{if◌then◌else◌}
use Rattle.std.proofs.lemmas.Bool.{eqb-false}
use Rattle.layer_session.proofs.Equal.{true_false}
use Rattle.shared_chain.specs.Bases.{HasStripe, marked_below}

-- a stripe with a mark stands in the list
pub marked_has : (marks : ℕ → Bool) (n t : ℕ) → t < n → marks t ≡ true → HasStripe t (marked_below marks n)
marked_has marks zero t less marked = absurd (omega (arith, less))
marked_has marks (suc n) t less marked = go (marks n) refl (t == n) refl (marked_has marks n t)
  where
    go : (b : Bool) → marks n ≡ b → (e : Bool) → (t == n) ≡ e → (t < n → marks t ≡ true → HasStripe t (marked_below marks n)) → HasStripe t (if b then n ∷ marked_below marks n else marked_below marks n)
    go true m true e below = inl (eqb-true t n e)
    go true m false e below = inr (below (let other = eqb-false t n e in omega (arith, less, other)) marked)
    go false m true e below = absurd (true_false (sym (subst (λ k. marks k ≡ true) (eqb-true t n e) marked) ∙ m))
    go false m false e below = below (let other = eqb-false t n e in omega (arith, less, other)) marked

-- with more marks the list has more
pub marked_more : (marks more : ℕ → Bool) (n t : ℕ) → ((u : ℕ) → marks u ≡ true → more u ≡ true) → HasStripe t (marked_below marks n) → HasStripe t (marked_below more n)
marked_more marks more zero t all h = absurd h
marked_more marks more (suc n) t all h = go (marks n) refl (more n) refl h (marked_more marks more n t all)
  where
    go : (b : Bool) → marks n ≡ b → (c : Bool) → more n ≡ c → HasStripe t (if b then n ∷ marked_below marks n else marked_below marks n) → (HasStripe t (marked_below marks n) → HasStripe t (marked_below more n))
        → HasStripe t (if c then n ∷ marked_below more n else marked_below more n)
    go true m true k (inl e) below = inl e
    go true m true k (inr rest) below = inr (below rest)
    go true m false k h below = absurd (true_false (sym (all n m) ∙ k))
    go false m true k h below = inr (below h)
    go false m false k h below = below h
