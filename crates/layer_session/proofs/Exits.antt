-- What is said of an answer that hands a fault on.
use Rattle.std.proofs.Common.{◌≡◌, ℕ, Option, true, if◌then◌else◌, ◌+◌, ◌-◌, ◌*◌, ◌%◌, ◌<◌, ◌≤◌, ◌^◌, arith, refl, sym, ap, subst, ◌∙◌}
use Rattle.std.specs.Prelude.{Result, Ok, Err, IfErr, OnOk}
use Rattle.std.specs.Result.{IsErrAnd}
use Rattle.store_model.specs.Disk.{WhereBothTold}
use Rattle.store_model.specs.Trace.{Trace}
use Rattle.layer_session.specs.declared.file.Layer.{Layer}
use Rattle.layer_session.specs.ByLayers.{TellsSameBut}
use Rattle.layer_session.proofs.Told.{both_self}
use Rattle.store_model.specs.declared.fault.StoreFault.{StoreFault}
use Rattle.layer_session.specs.declared.file.LayerFault.{LayerFault}
use Rattle.layer_session.specs.declared.file.LayerFault.TheVariants.{Read, Write, FileFull}
use Rattle.layer_session.specs.declared.planning.Plan.{Plan}
use Rattle.layer_session.specs.declared.planning.Step.{Step}
use Rattle.layer_session.specs.Planning.{is_making}
use Rattle.layer_session.specs.Taking.{takes_of}
use Rattle.vhdx_format.specs.AllocationTables.{IsBlockSize}
use Rattle.vhdx_format.proofs.SizeLemmas.{block_most}
use Rattle.layer_session.specs.Calls.{OnRefused, OnRoom}
use Rattle.vx_base.proofs.Handed.{err_is}
use Rattle.vx_base.proofs.Handed.{err_is}

-- a refusal that is handed on
pub refused_for : {T : Type 0} (r : Result T LayerFault) (f : LayerFault) → IsErrAnd r (λ x. x ≡ f) → (P Q : Type 0) → (P → Q) → OnRefused {T = T} (Err f) P → OnRefused r Q
refused_for {T} (Ok x) f is P Q map p = absurd is
refused_for {T} (Err x) f is P Q map p = subst (λ e. OnRefused {T = T} (Err e) Q) (sym is) (by_fault f p)
  where
    by_fault : (e : LayerFault) → OnRefused {T = T} (Err e) P → OnRefused {T = T} (Err e) Q
    by_fault (Read c) h = map h
    by_fault (Write c) h = tt
    by_fault (FileFull n) h = map h

pub room_for : {T : Type 0} (r : Result T LayerFault) (f : LayerFault) → IsErrAnd r (λ x. x ≡ f) → (P Q : Type 0) → (P → Q) → OnRoom {T = T} (Err f) P → OnRoom r Q
room_for {T} (Ok x) f is P Q map p = absurd is
room_for {T} (Err x) f is P Q map p = subst (λ e. OnRoom {T = T} (Err e) Q) (sym is) (by_fault f p)
  where
    by_fault : (e : LayerFault) → OnRoom {T = T} (Err e) P → OnRoom {T = T} (Err e) Q
    by_fault (Read c) h = tt
    by_fault (Write c) h = map h
    by_fault (FileFull n) h = tt

-- a failed change is no refusal
pub no_refusal : {T : Type 0} (r : Result T LayerFault) (f : LayerFault) → IsErrAnd r (λ x. x ≡ f) → (cause : StoreFault) → f ≡ Write cause → (P : Type 0) → OnRefused r P
no_refusal (Ok x) f is cause w P = absurd is
no_refusal {T} (Err x) f is cause w P = subst (λ e. OnRefused {T = T} (Err e) P) (sym (is ∙ w)) tt

pub had_room : {T : Type 0} (r : Result T LayerFault) (f : LayerFault) → IsErrAnd r (λ x. x ≡ f) → (cause : StoreFault) → f ≡ Write cause → (P : Type 0) → P → OnRoom r P
had_room (Ok x) f is cause w P p = absurd is
had_room {T} (Err x) f is cause w P p = subst (λ e. OnRoom {T = T} (Err e) P) (sym (is ∙ w)) p

no_write : (cause : StoreFault) (next : ℕ) → Write cause ≡ FileFull next → ⊥
no_write cause next e = cc

pub not_full : {T : Type 0} (r : Result T LayerFault) (f : LayerFault) → IsErrAnd r (λ x. x ≡ f) → (cause : StoreFault) → f ≡ Write cause → (next : ℕ) → r ≡ Err (FileFull next) → ⊥
not_full (Ok x) f is cause w next e = absurd is
not_full (Err x) f is cause w next e = no_write cause next (sym (is ∙ w) ∙ err_same x (FileFull next) e)
  where
    err_same : {T E : Type 0} (x y : E) → ◌≡◌ {A = Result T E} (Err x) (Err y) → x ≡ y
    err_same x y e = cc

-- ---- an answer that is done, or tells a failed change

pub either_way : {T E : Type 0} (r : Result T E) (A P : Type 0) (B : E → Type 0) → OnOk r A → IfErr r B → (A → P) → ((e : E) → B e → P) → P
either_way (Ok x) A P B done broken f g = f done
either_way (Err e) A P B done broken f g = g e broken

pub refused_off : {T : Type 0} (r : Result T LayerFault) (B : LayerFault → Type 0) → IfErr r B → ((e : LayerFault) → B e → (cause : StoreFault) × (e ≡ Write cause)) → (P : Type 0) → OnRefused r P
refused_off (Ok x) B b told P = tt
refused_off {T} (Err f) B b told P = subst (λ e. OnRefused {T = T} (Err e) P) (sym (told f b).1) tt

pub room_off : {T : Type 0} (r : Result T LayerFault) (B : LayerFault → Type 0) → IfErr r B → ((e : LayerFault) → B e → (cause : StoreFault) × (e ≡ Write cause)) → (P : Type 0) → P → OnRoom r P
room_off (Ok x) B b told P p = p
room_off {T} (Err f) B b told P p = subst (λ e. OnRoom {T = T} (Err e) P) (sym (told f b).1) p

pub full_off : {T : Type 0} (r : Result T LayerFault) (B : LayerFault → Type 0) → IfErr r B → ((e : LayerFault) → B e → (cause : StoreFault) × (e ≡ Write cause)) → (next : ℕ) → r ≡ Err (FileFull next) → ⊥
full_off {T} (Ok x) B b told next e = no_error x (FileFull next) e
  where
    no_error : (x : T) (y : LayerFault) → ◌≡◌ {A = Result T LayerFault} (Ok x) (Err y) → ⊥
    no_error x y e = cc
full_off (Err f) B b told next e = not_full (Err f) f refl (told f b).0 (told f b).1 next e

pub ok_not_full : {T : Type 0} (x : T) (next : ℕ) → ◌≡◌ {A = Result T LayerFault} (Ok x) (Err (FileFull next)) → ⊥
ok_not_full x next e = cc

-- what lies in one block is no longer than a block can be
pub block_few : (in_block long block : ℕ) → in_block + long ≤ block → IsBlockSize block → long ≤ 2 ^ 28
block_few in_block long block fits size = let most = block_most block size in omega (arith, fits, most)

-- ---- what a step takes

pub takes_one : (plan : Plan) (step : Step) → plan.step ≡ step → is_making step ≡ true → takes_of plan ≡ 1
takes_one plan step e m = ap (λ b. if b then 1 else 0) (ap is_making e ∙ m)

-- ---- an answer that never tells that the file is full

pub never_full : {T : Type 0} (r : Result T LayerFault) → OnRefused r ⊥ → (next : ℕ) → r ≡ Err (FileFull next) → ⊥
never_full {T} r refuses next e = subst (λ (x : Result T LayerFault). OnRefused x ⊥) e refuses

pub never_handed : {T : Type 0} (r : Result T LayerFault) (f : LayerFault) → IsErrAnd r (λ x. x ≡ f) → OnRefused {T = T} (Err f) ⊥ → (next : ℕ) → r ≡ Err (FileFull next) → ⊥
never_handed {T} r f is refuses next e = never_full r (subst (λ (x : Result T LayerFault). OnRefused x ⊥) (sym (err_is r f is)) refuses) next e

-- ---- bounds

pub last_on : (first count sectors : ℕ) → 0 < count → first + count ≤ sectors → first + count - 1 < sectors
last_on first count sectors some on = omega (arith, some, on)

pub pages_room : (now pages most : ℕ) → pages ≡ 2 + 2 * (2 + most) → now + pages ≤ 120 → now + 2 + 2 * (2 + most) ≤ 120
pages_room now pages most is room = omega (arith, is, room)

pub le_more : (n more : ℕ) → n ≤ n + more
le_more n more = omega arith

pub few_in : (n len : ℕ) → n ≤ 257 → len ≡ 257 → 0 + n ≤ len
few_in n len few long = omega (arith, few, long)

pub less_le : (n m : ℕ) → n < m → n ≤ m
less_le n m less = omega (arith, less)

pub bits_within : (chunk first end : ℕ) → chunk * 2 ^ 23 ≤ first → first < end → end ≤ chunk * 2 ^ 23 + 2 ^ 23 → first % 2 ^ 23 + (end - first) ≤ 2 ^ 23
bits_within chunk first end from some to = omega (arith, from, some, to)

-- ---- nothing is said anew

pub says_self : (l : Layer) (chunk : ℕ) (x : Option Trace) → WhereBothTold (TellsSameBut chunk l l) x x
says_self l chunk x = both_self (TellsSameBut chunk l l) x (λ t told. record { blocks = record { entry = λ s b. refl; bits = λ s b p e. refl }; bitmaps = λ s b p o. refl })
