-- Where content is told before and after.
use Rattle.std.proofs.Common.{◌≡◌, Option, Some, None, refl, subst}
use Rattle.store_model.specs.Disk.{WhereBothTold, WhereTold, told_after}
use Rattle.store_model.specs.File.{Op}
use Rattle.store_model.specs.Trace.{Trace, with_change}
use Rattle.std.specs.Prelude.{IsOk, ℕ, Result, Ok, Err, OnOk, OnErr, IfErr}

-- one change
pub both_changed : (R : Trace → Trace → Type 0) (n : ℕ) (op : Op) (a : Option Trace) → WhereTold a (λ t. R t (with_change n op t)) → WhereBothTold R a (told_after n op a)
both_changed R n op None h = tt
both_changed R n op (Some t) h = h t refl

-- the one and the other
pub both_and : (R S : Trace → Trace → Type 0) (a b : Option Trace) → WhereBothTold R a b → WhereBothTold S a b → WhereBothTold (λ t u. R t u × S t u) a b
both_and R S None None r s = tt
both_and R S None (Some v) r s = absurd r
both_and R S (Some t) None r s = absurd r
both_and R S (Some t) (Some v) r s = (r, s)

-- the one for the other
pub both_map : (R Q : Trace → Trace → Type 0) (a b : Option Trace) → WhereBothTold R a b → ((t u : Trace) → a ≡ Some t → b ≡ Some u → R t u → Q t u) → WhereBothTold Q a b
both_map R Q None None r f = tt
both_map R Q None (Some v) r f = absurd r
both_map R Q (Some t) None r f = absurd r
both_map R Q (Some t) (Some v) r f = f t v refl refl r

-- one after the other
pub both_then : (R S Q : Trace → Trace → Type 0) (a b c : Option Trace) → WhereBothTold R a b → WhereBothTold S b c → ((t u v : Trace) → a ≡ Some t → b ≡ Some u → R t u → S u v → Q t v) → WhereBothTold Q a c
both_then R S Q None None None r s f = tt
both_then R S Q None None (Some w) r s f = absurd s
both_then R S Q None (Some v) c r s f = absurd r
both_then R S Q (Some t) None c r s f = absurd r
both_then R S Q (Some t) (Some v) None r s f = absurd s
both_then R S Q (Some t) (Some v) (Some w) r s f = f t v w refl refl r s

-- what was known before is known after
pub told_from : (R : Trace → Trace → Type 0) (P Q : Trace → Type 0) (a b : Option Trace) → WhereTold a P → WhereBothTold R a b → ((t u : Trace) → a ≡ Some t → R t u → P t → Q u) → WhereTold b Q
told_from R P Q None None p r f v e = cc
told_from R P Q None (Some u) p r f v e = absurd r
told_from R P Q (Some t) None p r f v e = cc
told_from R P Q (Some t) (Some u) p r f v e = let same : u ≡ v = cc in subst Q same (f t u refl r (p t refl))

pub told_on : (R : Trace → Trace → Type 0) (P Q : Trace → Type 0) (a b : Option Trace) → WhereTold a P → WhereBothTold R a b → ((t u : Trace) → R t u → P t → Q u) → WhereTold b Q
told_on R P Q a b p r f = told_from R P Q a b p r (λ t u e. f t u)

-- ---- answers

pub on_err : {T E : Type 0} (r : Result T E) (P : Type 0) → P → OnErr r P
on_err (Ok x) P p = tt
on_err (Err e) P p = p

-- of an answer that is sure
pub sure_ok : {T E P : Type 0} (r : Result T E) → IsOk r → OnOk r P → P
sure_ok (Ok x) is p = p
sure_ok (Err e) is p = let never = is in cc

pub ok_map : {T E : Type 0} (r : Result T E) (P Q : Type 0) → OnOk r P → (P → Q) → OnOk r Q
ok_map (Ok x) P Q p f = f p
ok_map (Err e) P Q p f = tt

pub err_map : {T E : Type 0} (r : Result T E) (P Q : Type 0) → OnErr r P → (P → Q) → OnErr r Q
err_map (Ok x) P Q p f = tt
err_map (Err e) P Q p f = f p

-- nothing happens
pub both_self : (R : Trace → Trace → Type 0) (a : Option Trace) → WhereTold a (λ t. R t t) → WhereBothTold R a a
both_self R None h = tt
both_self R (Some t) h = h t refl

-- an answer that is an error
pub if_err : {T E : Type 0} (r : Result T E) (e : E) (P : E → Type 0) → r ≡ Err e → P e → IfErr r P
if_err (Ok x) e P is p = tt
if_err (Err f) e P is p = let same : e ≡ f = cc in subst P same p

pub if_err_map : {T E : Type 0} (r : Result T E) (P Q : E → Type 0) → IfErr r P → ((e : E) → P e → Q e) → IfErr r Q
if_err_map (Ok x) P Q p f = tt
if_err_map (Err e) P Q p f = f e p

-- what is known of the end
pub both_end : (R : Trace → Trace → Type 0) (Q : Trace → Type 0) (a b : Option Trace) → WhereBothTold R a b → ((t u : Trace) → R t u → Q u) → WhereTold b Q
both_end R Q a None r f v e = cc
both_end R Q None (Some u) r f v e = absurd r
both_end R Q (Some t) (Some u) r f v e = let same : u ≡ v = cc in subst Q same (f t u r)
