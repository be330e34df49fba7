-- Identifiers that are judged one after another.
use Rattle.std.proofs.Common.{◌≡◌, ℕ, ◌+◌, ◌<◌, ◌≤◌, ◌||◌, Bool, true, false, List, ◌∷◌, length, take, drop, get_or, refl, sym, ap, ◌∙◌}
use Rattle.std.specs.Prelude.{Option, Some, None, if◌then◌else◌}
use Rattle.std.specs.List.{list_any}
use Rattle.std.proofs.lemmas.List.{drop_all, drop_more}
use Rattle.std.proofs.lemmas.List.Folds.{list_any_more}
use Rattle.vhdx_format.specs.Fields.{is_zero_id, same_id}
use Rattle.make_file.specs.Identifiers.{first_unfit, is_unfit}

-- Before a place: what is taken are those that were known and those before it; and what is left is judged as all of them are.
pub record IsJudgedTo (known drawn : List (List ℕ)) (place : ℕ) : Type 0 where
  pub taken : List (List ℕ)
  pub among : (id : List ℕ) → list_any (same_id id) taken ≡ (list_any (same_id id) (take place drawn) || list_any (same_id id) known)
  pub left : first_unfit taken (drop place drawn) ≡ first_unfit known drawn

-- whether one at a place is unfit
abbrev pub is_unfit_at : List (List ℕ) → List (List ℕ) → ℕ → List ℕ → Bool
is_unfit_at known drawn place id = is_zero_id id || (list_any (same_id id) (take place drawn) || list_any (same_id id) known)

pub none_judged : (known drawn : List (List ℕ)) → IsJudgedTo known drawn 0
none_judged known drawn = record { taken = known; among = λ id. refl; left = refl }

among_more : (x a k : Bool) → (x || (a || k)) ≡ ((a || x) || k)
among_more true true k = refl
among_more true false k = refl
among_more false true k = refl
among_more false false k = refl

-- the test at a place is that of the definition
test_is : (known drawn : List (List ℕ)) (place : ℕ) (j : IsJudgedTo known drawn place) (id : List ℕ) (b : Bool) → is_unfit_at known drawn place id ≡ b → is_unfit j.taken id ≡ b
test_is known drawn place j id b e = ap (λ t. is_zero_id id || t) (j.among id) ∙ e

left_is : (known drawn : List (List ℕ)) (place : ℕ) (j : IsJudgedTo known drawn place) (id : List ℕ) (b : Bool) → place < length drawn → id ≡ get_or drawn place id
    → is_unfit_at known drawn place id ≡ b → (if b then Some id else first_unfit (id ∷ j.taken) (drop (place + 1) drawn)) ≡ first_unfit known drawn
left_is known drawn place j id b below is e =
    ap (λ t. if t then Some id else first_unfit (id ∷ j.taken) (drop (place + 1) drawn)) (sym (test_is known drawn place j id b e))
    ∙ ap (λ ids. first_unfit j.taken (ids ∷ drop (place + 1) drawn)) is
    ∙ ap (first_unfit j.taken) (sym (drop_more drawn place id below))
    ∙ j.left

pub one_judged : (known drawn : List (List ℕ)) (place : ℕ) (id : List ℕ) → IsJudgedTo known drawn place → place < length drawn → id ≡ get_or drawn place id
    → is_unfit_at known drawn place id ≡ false → IsJudgedTo known drawn (place + 1)
one_judged known drawn place id j below is fit = record {
  taken = id ∷ j.taken;
  among = λ other.
      ap (λ t. same_id other id || t) (j.among other)
      ∙ among_more (same_id other id) (list_any (same_id other) (take place drawn)) (list_any (same_id other) known)
      ∙ ap (λ x. (list_any (same_id other) (take place drawn) || same_id other x) || list_any (same_id other) known) is
      ∙ ap (λ t. t || list_any (same_id other) known) (sym (list_any_more (same_id other) drawn place id below));
  left = left_is known drawn place j id false below is fit;
}

pub one_unfit : (known drawn : List (List ℕ)) (place : ℕ) (id : List ℕ) → IsJudgedTo known drawn place → place < length drawn → id ≡ get_or drawn place id
    → is_unfit_at known drawn place id ≡ true → Some id ≡ first_unfit known drawn
one_unfit known drawn place id j below is unfit = left_is known drawn place j id true below is unfit

pub all_judged : (known drawn : List (List ℕ)) (place : ℕ) → IsJudgedTo known drawn place → length drawn ≤ place → ◌≡◌ {A = Option (List ℕ)} None (first_unfit known drawn)
all_judged known drawn place j past = sym (ap (first_unfit j.taken) (drop_all place drawn past)) ∙ j.left
