-- Pages and their places.
use Rattle.std.proofs.Common.{◌≡◌, ℕ, zero, suc, ◌<◌, ◌⊎◌, ◌==◌, ◌||◌, inl, inr, Bool, true, false, All, List, [], ◌∷◌, length, get_or, refl, subst, arith, eq-eqb}
use Rattle.std.specs.List.{list_any}
use Rattle.std.proofs.lemmas.Bool.{or_cases, eqb-true}
use Rattle.vhdx_format.specs.declared.log_entry.Page.{Page}
use Rattle.log_format.specs.PendingPages.{has_place}

module _ (Q : ℕ → Type 0) where
  -- what holds of each page's place holds of each place of a page
  pub of_places : (pages : List Page) → All (λ (page : Page). Q page.at) pages → (at : ℕ) → has_place at pages ≡ true → Q at
  unfolding has_place
  of_places [] all at h = cc
  of_places (page ∷ pages) all at h = by_test (or_cases (page.at == at) (list_any (λ (p : Page). p.at == at) pages) h) (of_places pages (λ k d b. all (suc k) d (omega (arith, b))) at)
    where
      by_test : ((page.at == at) ≡ true) ⊎ (list_any (λ (p : Page). p.at == at) pages ≡ true) → (list_any (λ (p : Page). p.at == at) pages ≡ true → Q at) → Q at
      by_test (inl e) rest = subst Q (eqb-true page.at at e) (all 0 page (omega arith))
      by_test (inr e) rest = rest e

  has_its_place : (pages : List Page) (k : ℕ) (d : Page) → k < length pages → has_place (get_or pages k d).at pages ≡ true
  unfolding has_place
  has_its_place [] k d l = absurd (omega (arith, l))
  has_its_place (page ∷ pages) zero d l = let e : (page.at == page.at) ≡ true = eq-eqb page.at page.at refl in rw e refl
  has_its_place (page ∷ pages) (suc k) d l = let e = has_its_place pages k d (omega (arith, l)) in or_true (page.at == (get_or pages k d).at) _ e
    where
      or_true : (x y : Bool) → y ≡ true → (x || y) ≡ true
      or_true true y h = refl
      or_true false y h = h

  -- and the other way
  pub all_places : (pages : List Page) → ((at : ℕ) → has_place at pages ≡ true → Q at) → All (λ (page : Page). Q page.at) pages
  all_places pages h = λ k d b. h (get_or pages k d).at (has_its_place pages k d b)
