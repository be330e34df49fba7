-- Lists that a loop copies, item by item.
use Rattle.std.proofs.Common.{◌≡◌, ◌<◌, ◌≤◌, ℕ, ◌+◌, List, [], ◌∷◌, ◌++◌, ◌∙◌, length, map, take, get_or, Result, Ok, Err, sym, ap, subst}
use Rattle.std.specs.Prelude.{IfOk, IsErr}
use Rattle.std.proofs.lemmas.List.{length-map, map-append, take_all, take_more}
use Rattle.mem_file.specs.Steps.{op_of, ops_done}
use Rattle.mem_file.specs.declared.file.Step.{Step}
use Rattle.mem_file.proofs.StepLemmas.{ops_done-push}

-- where memory ran out nothing is made
pub none_made : {T E : Type 0} (r : Result T E) → IsErr r → (P : T → Type 0) → IfOk r P
none_made (Ok x) e P = let never = e in cc
none_made (Err x) e P = tt

one_more : {A : Type 0} (items : List A) (i : ℕ) (y : A) → i < length items → y ≡ get_or items i y → take (i + 1) items ≡ take i items ++ y ∷ []
one_more items i y within is = take_more items i y within ∙ ap (λ z. take i items ++ z ∷ []) (sym is)

-- one more item is copied
pub map_more : {A B C : Type 0} (f : A → C) (g : B → C) (olds new : List A) (x : A) (items : List B) (i : ℕ) (y : B) → new ≡ olds ++ x ∷ [] → map f olds ≡ map g (take i items) → f x ≡ g y → i < length items → y ≡ get_or items i y
    → map f new ≡ map g (take (i + 1) items)
map_more f g olds new x items i y pushed before same within is =
    ap (map f) pushed ∙ map-append f olds (x ∷ []) ∙ ap (λ l. l ++ f x ∷ []) before ∙ ap (λ c. map g (take i items) ++ c ∷ []) same
    ∙ sym (ap (map g) (one_more items i y within is) ∙ map-append g (take i items) (y ∷ []))

pub steps_more : (olds new : List Step) (x : Step) (steps : List Step) (i : ℕ) (y : Step) → new ≡ olds ++ x ∷ [] → ops_done olds ≡ ops_done (take i steps) → op_of x ≡ op_of y → i < length steps → y ≡ get_or steps i y
    → ops_done new ≡ ops_done (take (i + 1) steps)
steps_more olds new x steps i y pushed before same within is =
    ap ops_done pushed ∙ ops_done-push olds x ∙ ap (λ o. o ∷ ops_done olds) same ∙ ap (λ rest. op_of y ∷ rest) before
    ∙ sym (ap ops_done (one_more steps i y within is) ∙ ops_done-push (take i steps) y)

-- all are copied
pub all_copied : {A C : Type 0} (f : List A → C) (left : C) (items : List A) (i : ℕ) → left ≡ f (take i items) → length items ≤ i → left ≡ f items
all_copied f left items i before end = before ∙ ap f (take_all i items end)

-- a place among what is told of items is one among the items
pub unmapped : {A B : Type 0} (f : A → B) (items : List A) (i : ℕ) → i < length (map f items) → i < length items
unmapped f items i within = subst (λ n. i < n) (length-map items f) within
