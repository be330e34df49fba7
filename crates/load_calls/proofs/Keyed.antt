-- Lists whose elements have keys, and that have the same elements of each key in the same order.
use Rattle.std.proofs.Common.{◌≡◌, ℕ, Bool, nat_eq, List, [], ◌∷◌, ◌++◌, refl, sym, ap, ◌∙◌, subst, inl, inr}
use Rattle.std.specs.List.{filter}
use Rattle.std.specs.List.Sorted.{IsPermutation}
use Rattle.std.proofs.lemmas.Bool.{cases_Bool, cond-true, cond-false, eq-eqb, eqb-true}
use Rattle.std.proofs.lemmas.List.Elements.{filter-append}
use Rattle.std.proofs.lemmas.List.Sorted.{IsPermutation-cons, IsPermutation-middle, IsPermutation-refl, IsPermutation-sym, IsPermutation-trans}

-- what is one element by a test begins with that element, and has nothing before it that passes
record StandsFirst {X : Type 0} (p : X → Bool) (x : X) (rest ys : List X) : Type 0 where
  before : List X
  behind : List X
  is : ys ≡ before ++ x ∷ behind
  none : filter p before ≡ []
  others : filter p behind ≡ rest

first_passing : {X : Type 0} (p : X → Bool) (x : X) (rest ys : List X) → filter p ys ≡ x ∷ rest → StandsFirst p x rest ys
first_passing p x rest [] h = cc
first_passing {X} p x rest (y ∷ ys) h = elim (cases_Bool (p y)) [
  | inl passes ↦
      let both : y ∷ filter p ys ≡ x ∷ rest = sym (cond-true (p y) (y ∷ filter p ys) (filter p ys) passes) ∙ h in
      let front : y ≡ x = cc in
      let back : filter p ys ≡ rest = cc in
      record { before = []; behind = ys; is = ap (λ w. w ∷ ys) front; none = refl; others = back }
  | inr fails ↦
      let later = first_passing p x rest ys (sym (cond-false (p y) (y ∷ filter p ys) (filter p ys) fails) ∙ h) in
      record {
        before = y ∷ later.before;
        behind = later.behind;
        is = ap (λ l. y ∷ l) later.is;
        none = cond-false (p y) (y ∷ filter p later.before) (filter p later.before) fails ∙ later.none;
        others = later.others;
      }
]

abbrev AreAlikeBy : {X : Type 0} → (X → ℕ) → List X → List X → Type 0
AreAlikeBy key xs ys = (g : ℕ) → filter (λ x. nat_eq (key x) g) xs ≡ filter (λ x. nat_eq (key x) g) ys

-- without an element that stands first of its key, the others are alike still
others_alike : {X : Type 0} (key : X → ℕ) (x : X) (xs before behind : List X) → AreAlikeBy key (x ∷ xs) (before ++ x ∷ behind)
    → filter (λ y. nat_eq (key y) (key x)) before ≡ [] → filter (λ y. nat_eq (key y) (key x)) behind ≡ filter (λ y. nat_eq (key y) (key x)) xs
    → AreAlikeBy key xs (before ++ behind)
others_alike {X} key x xs before behind alike none rest g = elim (cases_Bool (nat_eq (key x) g)) [
  | inl same ↦
      let is : key x ≡ g = eqb-true (key x) g same in
      let empty : filter (λ y. nat_eq (key y) g) before ≡ [] = subst (λ n. filter (λ y. nat_eq (key y) n) before ≡ []) is none in
      let others : filter (λ y. nat_eq (key y) g) behind ≡ filter (λ y. nat_eq (key y) g) xs = subst (λ n. filter (λ y. nat_eq (key y) n) behind ≡ filter (λ y. nat_eq (key y) n) xs) is rest in
      sym (filter-append (λ y. nat_eq (key y) g) before behind ∙ ap (λ l. l ++ filter (λ y. nat_eq (key y) g) behind) empty ∙ others)
  | inr other ↦
      sym (cond-false (nat_eq (key x) g) (x ∷ filter (λ y. nat_eq (key y) g) xs) (filter (λ y. nat_eq (key y) g) xs) other)
      ∙ alike g
      ∙ filter-append (λ y. nat_eq (key y) g) before (x ∷ behind)
      ∙ ap (λ l. filter (λ y. nat_eq (key y) g) before ++ l) (cond-false (nat_eq (key x) g) (x ∷ filter (λ y. nat_eq (key y) g) behind) (filter (λ y. nat_eq (key y) g) behind) other)
      ∙ sym (filter-append (λ y. nat_eq (key y) g) before behind)
]

no_elements : {X : Type 0} (key : X → ℕ) (ys : List X) → AreAlikeBy key [] ys → [] ≡ ys
no_elements key [] alike = refl
no_elements key (y ∷ ys) alike =
    let here : [] ≡ y ∷ filter (λ x. nat_eq (key x) (key y)) ys = alike (key y) ∙ cond-true (nat_eq (key y) (key y)) (y ∷ filter (λ x. nat_eq (key x) (key y)) ys) (filter (λ x. nat_eq (key x) (key y)) ys) (eq-eqb (key y) (key y) refl) in
    cc

-- they are one list in two orders
pub permuted_by_key : {X : Type 0} (key : X → ℕ) (xs ys : List X) → AreAlikeBy key xs ys → IsPermutation xs ys
permuted_by_key {X} key [] ys alike = let e : [] ≡ ys = no_elements key ys alike in subst (λ (l : List X). IsPermutation [] l) e (IsPermutation-refl [])
permuted_by_key {X} key (x ∷ xs) ys alike =
    let own : filter (λ y. nat_eq (key y) (key x)) ys ≡ x ∷ filter (λ y. nat_eq (key y) (key x)) xs =
    sym (alike (key x)) ∙ cond-true (nat_eq (key x) (key x)) (x ∷ filter (λ y. nat_eq (key y) (key x)) xs) (filter (λ y. nat_eq (key y) (key x)) xs) (eq-eqb (key x) (key x) refl) in
    let found = first_passing (λ y. nat_eq (key y) (key x)) x (filter (λ y. nat_eq (key y) (key x)) xs) ys own in
    let whole : AreAlikeBy key (x ∷ xs) (found.before ++ x ∷ found.behind) = λ g. alike g ∙ ap (filter (λ y. nat_eq (key y) g)) found.is in
    let rest = permuted_by_key key xs (found.before ++ found.behind) (others_alike key x xs found.before found.behind whole found.none found.others) in
    let here = IsPermutation-trans (x ∷ xs) (x ∷ (found.before ++ found.behind)) (found.before ++ x ∷ found.behind)
    (IsPermutation-cons x xs (found.before ++ found.behind) rest)
    (IsPermutation-sym _ _ (IsPermutation-middle found.before x found.behind)) in
    subst (λ (l : List X). IsPermutation (x ∷ xs) l) (sym found.is) here
