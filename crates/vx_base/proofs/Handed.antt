-- What is said of an answer that hands a fault on, or of whatever is answered.
use Rattle.std.proofs.Common.{◌≡◌, sym, subst, ap}
use Rattle.std.specs.Prelude.{Result, Ok, Err, IfErr, IfOk, IsErr, OnOk}
use Rattle.std.specs.Result.{IsErrAnd}

pub err_is : {T E : Type 0} (r : Result T E) (e : E) → IsErrAnd r (λ x. x ≡ e) → r ≡ Err e
err_is (Ok x) e is = absurd is
err_is (Err x) e is = ap (λ f. Err f) is

pub not_ok : {T E : Type 0} (r : Result T E) (e : E) → IsErrAnd r (λ x. x ≡ e) → (P : Type 0) → OnOk r P
not_ok (Ok x) e is P = absurd is
not_ok (Err x) e is P = tt

pub not_if_ok : {T E : Type 0} (r : Result T E) (e : E) → IsErrAnd r (λ x. x ≡ e) → (P : T → Type 0) → IfOk r P
not_if_ok (Ok x) e is P = absurd is
not_if_ok (Err x) e is P = tt

pub failed_for : {T E : Type 0} (r : Result T E) (e : E) → IsErrAnd r (λ x. x ≡ e) → (P : E → Type 0) → P e → IfErr r P
failed_for (Ok x) e is P p = tt
failed_for (Err x) e is P p = subst P (sym is) p

-- the same of whatever is answered
pub handed : {T E : Type 0} (P : Result T E → Type 0) (r : Result T E) (e : E) → IsErr r × IsErrAnd r (λ x. x ≡ e) → P (Err e) → P r
handed P (Ok x) e same h = let never = same.0 in cc
handed P (Err x) e same h = subst (λ f. P (Err f)) (sym same.1) h

pub ok_then : {T E P Q : Type 0} (r : Result T E) → (P → Q) → OnOk r P → OnOk r Q
ok_then (Ok x) f p = f p
ok_then (Err e) f p = tt

pub on_ok_any : {T E : Type 0} (r : Result T E) (P : Type 0) → P → OnOk r P
on_ok_any (Ok x) P p = p
on_ok_any (Err e) P p = tt

pub if_err_any : {T E : Type 0} (r : Result T E) (P : Type 0) → P → IfErr r (λ fault. P)
if_err_any (Ok x) P p = tt
if_err_any (Err e) P p = p
