-- What equations between answers say. These are lemmas over plain variables: a tactic among a layer's facts reads them all.
use Rattle.std.proofs.Common.{◌≡◌, Bool, true, false, Some, None, List, [], ◌∷◌, refl}
use Rattle.std.specs.Prelude.{Err, Ok, Option, Result, not}

pub false_true : false ≡ true → ⊥
false_true e = cc

pub true_false : true ≡ false → ⊥
true_false e = cc

-- a test that was turned round
pub not_is_false : {b : Bool} → not b ≡ false → b ≡ true
not_is_false {b = true} e = refl
not_is_false {b = false} e = absurd (true_false e)

pub not_is_true : {b : Bool} → not b ≡ true → b ≡ false
not_is_true {b = true} e = absurd (false_true e)
not_is_true {b = false} e = refl

pub none_some : {A : Type 0} {x : A} → None ≡ Some x → ⊥
none_some e = cc

pub some_none : {A : Type 0} {x : A} → ◌≡◌ {A = Option A} (Some x) None → ⊥
some_none e = cc

pub some_same : {A : Type 0} {x y : A} → Some x ≡ Some y → x ≡ y
some_same e = cc

pub err_same : {T E : Type 0} {x y : E} → ◌≡◌ {A = Result T E} (Err x) (Err y) → x ≡ y
err_same e = cc

pub err_ok : {T E : Type 0} {x : T} {y : E} → ◌≡◌ {A = Result T E} (Err y) (Ok x) → ⊥
err_ok e = cc

pub ok_err : {T E : Type 0} {x : T} {y : E} → ◌≡◌ {A = Result T E} (Ok x) (Err y) → ⊥
ok_err e = cc

pub cons_nil : {A : Type 0} {x : A} {xs : List A} → ◌≡◌ {A = List A} (x ∷ xs) [] → ⊥
cons_nil e = cc

pub nil_cons : {A : Type 0} {x : A} {xs : List A} → ◌≡◌ {A = List A} [] (x ∷ xs) → ⊥
nil_cons e = cc

pub first_same : {A : Type 0} {x y : A} {xs ys : List A} → ◌≡◌ {A = List A} (x ∷ xs) (y ∷ ys) → x ≡ y
first_same e = cc

pub rest_same : {A : Type 0} {x y : A} {xs ys : List A} → ◌≡◌ {A = List A} (x ∷ xs) (y ∷ ys) → xs ≡ ys
rest_same e = cc
