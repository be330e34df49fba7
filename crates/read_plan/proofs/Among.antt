-- Numbers among some, and the files of a plan.
use Rattle.std.proofs.Common.{◌≡◌, ℕ, zero, suc, ◌==◌, ◌||◌, ◌<◌, Bool, true, false, is_some, List, [], ◌∷◌, length, map, slice_index, get_or, refl, sym, ap, subst, ◌∙◌, arith}
use Rattle.std.specs.Prelude.{All, Contains, IfNone, IfSome, Option, Some, None}
use Rattle.std.specs.List.{AllByRecursion}
use Rattle.std.proofs.lemmas.Bool.{eq-eqb, eqb-true}
use Rattle.std.proofs.lemmas.List.{get_or_default, length-map}
use Rattle.std.proofs.lemmas.List.Elements.{All-from_recursion}
use Rattle.store_model.specs.Disk.{Sealed}
use Rattle.read_plan.specs.Reading.{AreThere, is_among}
use Rattle.read_plan.specs.declared.plan.Extent.{Extent}
use Rattle.read_plan.proofs.Found.{numbers_are}

true_not_false : {Q : Type 0} → (b : Bool) → b ≡ true → b ≡ false → Q
true_not_false true h k = let never : ◌≡◌ {A = Bool} true false = k in cc
true_not_false false h k = let never : ◌≡◌ {A = Bool} false true = h in cc

-- ---- a number among some

-- it stands at some place
pub among_contains : (numbers : List ℕ) (n : ℕ) → is_among numbers n ≡ true → Contains numbers n
among_contains [] n h = true_not_false (is_among [] n) h refl
among_contains (m ∷ numbers) n h = by_test (λ k. among_contains numbers n k) (m == n) refl h
  where
    by_test : (is_among numbers n ≡ true → Contains numbers n) → (b : Bool) → (m == n) ≡ b → (b || is_among numbers n) ≡ true → Contains (m ∷ numbers) n
    by_test rest true is h = (0, omega arith, eqb-true m n is)
    by_test rest false is h = let k = rest h in (suc k.0, omega (arith, k.1), k.2)

-- and one that stands at some place is among them
pub contains_among : (numbers : List ℕ) (n : ℕ) → Contains numbers n → is_among numbers n ≡ true
contains_among [] n (i, below, is) = absurd (omega (arith, below))
contains_among (m ∷ numbers) n (zero, below, is) = ap (λ b. b || is_among numbers n) (eq-eqb m n is)
contains_among (m ∷ numbers) n (suc i, below, is) = ap (λ b. (m == n) || b) (contains_among numbers n (i, omega (arith, below), is)) ∙ or_true (m == n)
  where
    or_true : (b : Bool) → (b || true) ≡ true
    or_true true = refl
    or_true false = refl

not_among : (numbers : List ℕ) (n : ℕ) → (Contains numbers n → ⊥) → is_among numbers n ≡ false
not_among numbers n none = by_test (is_among numbers n) refl
  where
    by_test : (b : Bool) → is_among numbers n ≡ b → is_among numbers n ≡ false
    by_test true is = absurd (none (among_contains numbers n is))
    by_test false is = is

-- ---- what a search found

found_among : (numbers : List ℕ) (n : ℕ) (r : Option ℕ) → IfSome r (λ i. i < length numbers) → IfSome r (λ i. slice_index numbers i ≡ n) → IfNone r (Contains numbers n → ⊥) → is_some r ≡ is_among numbers n
found_among numbers n None inside number none = sym (not_among numbers n none)
found_among numbers n (Some i) inside number none = sym (contains_among numbers n (i, inside, get_or_default numbers i n 0 inside ∙ number))

pub has_among : {X : Type 0} (F : X → Sealed) (items : List X) (V : List Sealed) → map F items ≡ V → (n : ℕ) (r : Option ℕ) → IfSome r (λ i. i < length items) → IfSome r (λ i. slice_index (map (λ x. (F x).file) items) i ≡ n)
    → IfNone r (Contains (map (λ x. (F x).file) items) n → ⊥) → is_some r ≡ is_among (map (λ s. s.file) V) n
has_among F items V view n None inside number none = subst (λ ns. false ≡ is_among ns n) (sym (numbers_are F items V view)) (found_among (map (λ x. (F x).file) items) n None tt tt none)
has_among F items V view n (Some i) inside number none =
    subst (λ ns. true ≡ is_among ns n) (sym (numbers_are F items V view))
    (found_among (map (λ x. (F x).file) items) n (Some i) (let l = length-map items (λ x. (F x).file) in omega (arith, inside, l)) number tt)

-- ---- the files of a plan

pub none_there : (readers : List Sealed) (plan : List Extent) → plan ≡ [] → AreThere readers plan
none_there readers plan empty = subst (λ (p : List Extent). AreThere readers p) (sym empty) (λ k d below. absurd (omega (arith, below)))

-- that there is a reader of each extent's file, by the numbers of the readers' files
pub there_among : (readers : List Sealed) (plan : List Extent) → AreThere readers plan → AllByRecursion (λ (e : Extent). is_among (map (λ (s : Sealed). s.file) readers) e.file ≡ true) plan
there_among readers [] h = tt
there_among readers (e ∷ plan) h = (contains_among (map (λ (s : Sealed). s.file) readers) e.file (h 0 e (omega arith)), there_among readers plan (λ k d below. h (suc k) d (omega (arith, below))))

pub among_there : (readers : List Sealed) (plan : List Extent) → AllByRecursion (λ (e : Extent). is_among (map (λ (s : Sealed). s.file) readers) e.file ≡ true) plan → AreThere readers plan
among_there readers plan h = All-from_recursion (λ (e : Extent). Contains (map (λ (s : Sealed). s.file) readers) e.file) plan (each plan h)
  where
    each : (plan : List Extent) → AllByRecursion (λ (e : Extent). is_among (map (λ (s : Sealed). s.file) readers) e.file ≡ true) plan → AllByRecursion (λ (e : Extent). Contains (map (λ (s : Sealed). s.file) readers) e.file) plan
    each [] h = tt
    each (e ∷ plan) h = (among_contains (map (λ (s : Sealed). s.file) readers) e.file h.0, each plan h.1)
