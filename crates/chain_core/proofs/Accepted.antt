-- What a guest call says of its noting: where it was refused before that, and once it was noted.
use Rattle.std.proofs.Common.{◌≡◌, ◌+◌, ◌≤◌, ◌/◌, ◌^◌, ℕ, Bool, true, false, is_some, length, ◌||◌, refl, sym, ap, subst, ◌∙◌, arith, nat_lt, ◌==◌, ltb-false}
use Rattle.std.specs.Prelude.{Option, Some, None, Result, Ok, Err, IfErr, IsErrAnd, OnErr, OnOk, if◌then◌else◌}
use Rattle.store_model.specs.declared.fault.StoreFault.{StoreFault}
use Rattle.guest_model.specs.declared.call.Call.{Call}
use Rattle.guest_model.specs.declared.call.Call.TheVariants.{Read, Write, Trim, Flush}
use Rattle.guest_model.specs.declared.refusal.ChainRefusal.{ChainRefusal}
use Rattle.guest_model.specs.declared.refusal.ChainRefusal.TheVariants as refusals
use Rattle.guest_model.specs.Counts.{one_more}
use Rattle.guest_model.specs.Ranges.{range_refusal}
use Rattle.vx_base.specs.declared.parts.Geometry.{Geometry}
use Rattle.chain_core.specs.Refusing.{barred, broken_by, is_read, misplaced, out_of, range_of, unfit}
use Rattle.chain_core.specs.declared.layers.Layers.{Layers}
use Rattle.layer_session.proofs.Equal.{err_ok, err_same, none_some, ok_err, some_same}

pub on_err_any : {T E : Type 0} (result : Result T E) (P : Type 0) → P → OnErr result P
on_err_any (Ok x) P p = tt
on_err_any (Err e) P p = p

-- it asks for no memory
no_room : (x : ChainRefusal) (result : Result (Unit {0}) ChainRefusal) → IsErrAnd result (λ e. e ≡ x) → result ≡ Err refusals.NoRoom → x ≡ refusals.NoRoom
no_room x (Ok t) same is = absurd same
no_room x (Err e) same is = sym same ∙ err_same is

by_fit : (n : ℕ) (b : Bool) (broken : Option StoreFault) → ◌≡◌ {A = Option ChainRefusal} (if b then broken_by broken else Some (refusals.Spent n)) (Some refusals.NoRoom) → ⊥
by_fit n true None is = (let never : ◌≡◌ {A = Option ChainRefusal} None (Some refusals.NoRoom) = is in absurd (none_some never))
by_fit n true (Some f) is = (let never : ◌≡◌ {A = Option ChainRefusal} (Some (refusals.Broken f.file f.count)) (Some refusals.NoRoom) = is in cc)
by_fit n false broken is = (let never : ◌≡◌ {A = Option ChainRefusal} (Some (refusals.Spent n)) (Some refusals.NoRoom) = is in cc)

pub fit_asks_none : (n : ℕ) (broken : Option StoreFault) (x : ChainRefusal) (result : Result (Unit {0}) ChainRefusal) → unfit n broken ≡ Some x → IsErrAnd result (λ e. e ≡ x) → result ≡ Err refusals.NoRoom → ⊥
fit_asks_none n broken x result cause same is = by_fit n (nat_lt n (2 ^ 63)) broken (cause ∙ ap Some (no_room x result same is))

by_range : (first count limit sectors : ℕ) (a b c : Bool)
    → ◌≡◌ {A = Result (Unit {0}) ChainRefusal} (if a then Err refusals.EmptyRange else if b then Err (refusals.TooLong count limit) else if c then Err (refusals.OutOfRange first count sectors) else Ok tt) (Err refusals.NoRoom) → ⊥
by_range first count limit sectors true b c is = (let never : ◌≡◌ {A = Result (Unit {0}) ChainRefusal} (Err refusals.EmptyRange) (Err refusals.NoRoom) = is in cc)
by_range first count limit sectors false true c is = (let never : ◌≡◌ {A = Result (Unit {0}) ChainRefusal} (Err (refusals.TooLong count limit)) (Err refusals.NoRoom) = is in cc)
by_range first count limit sectors false false true is = (let never : ◌≡◌ {A = Result (Unit {0}) ChainRefusal} (Err (refusals.OutOfRange first count sectors)) (Err refusals.NoRoom) = is in cc)
by_range first count limit sectors false false false is = (let never : ◌≡◌ {A = Result (Unit {0}) ChainRefusal} (Ok tt) (Err refusals.NoRoom) = is in absurd (ok_err never))

range_asks : (first count limit sectors : ℕ) → range_refusal first count limit sectors ≡ Err refusals.NoRoom → ⊥
range_asks first count limit sectors = by_range first count limit sectors (count == 0) (nat_lt limit count) (nat_lt sectors (first + count))

by_call : (g : Geometry) (call : Call) → range_of g call ≡ Err refusals.NoRoom → ⊥
by_call g (Read first count) is = range_asks first count 2048 g.sectors is
by_call g (Write first bytes) is = range_asks first (length bytes / g.sector) 2048 g.sectors is
by_call g (Trim first count) is = range_asks first count 524288 g.sectors is
by_call g Flush is = (let never : ◌≡◌ {A = Result (Unit {0}) ChainRefusal} (Ok tt) (Err refusals.NoRoom) = is in absurd (ok_err never))

by_bar : (b : Bool) → ◌≡◌ {A = Option ChainRefusal} (if b then None else Some refusals.ReadOnly) (Some refusals.NoRoom) → ⊥
by_bar true is = (let never : ◌≡◌ {A = Option ChainRefusal} None (Some refusals.NoRoom) = is in absurd (none_some never))
by_bar false is = (let never : ◌≡◌ {A = Option ChainRefusal} (Some refusals.ReadOnly) (Some refusals.NoRoom) = is in cc)

by_out : (r : Result (Unit {0}) ChainRefusal) (b : Bool) → (r ≡ Err refusals.NoRoom → ⊥) → out_of r (if b then None else Some refusals.ReadOnly) ≡ Some refusals.NoRoom → ⊥
by_out (Ok t) b range is = by_bar b is
by_out (Err e) b range is = range (ap Err (some_same is))

pub place_asks_none : (call : Call) (layers : Layers) (x : ChainRefusal) (result : Result (Unit {0}) ChainRefusal) → misplaced call layers ≡ Some x → IsErrAnd result (λ e. e ≡ x) → result ≡ Err refusals.NoRoom → ⊥
place_asks_none call layers x result cause same is = by_out (range_of layers.geometry call) (is_read call || is_some layers.leaf) (by_call layers.geometry call) (cause ∙ ap Some (no_room x result same is))

pub one_noted : (n events : ℕ) → n ≤ events → events ≤ 2 ^ 63 → one_more n ≡ n + 1
one_noted n events noted few = let room : nat_lt (n + 1) (2 ^ 64) ≡ true = grind (arith, noted, few) in ap (λ b. if b then n + 1 else n) room

pub err_is : {T E : Type 0} (result : Result T E) (P : E → Type 0) → IsErrAnd result P → IfErr result P
err_is (Ok x) P is = tt
err_is (Err e) P is = is

-- a range that isn't refused is on the disk, and within the limit
within_by : (first count limit sectors : ℕ) (a b c : Bool) → nat_lt limit count ≡ b → nat_lt sectors (first + count) ≡ c
    → ◌≡◌ {A = Result (Unit {0}) ChainRefusal} (if a then Err refusals.EmptyRange else if b then Err (refusals.TooLong count limit) else if c then Err (refusals.OutOfRange first count sectors) else Ok tt) (Ok tt) → (first + count ≤ sectors) × (count ≤ limit)
within_by first count limit sectors true b c l s is = absurd (err_ok is)
within_by first count limit sectors false true c l s is = absurd (err_ok is)
within_by first count limit sectors false false true l s is = absurd (err_ok is)
within_by first count limit sectors false false false l s is = (ltb-false sectors (first + count) s, ltb-false limit count l)

pub range_within : (first count limit sectors : ℕ) → range_refusal first count limit sectors ≡ Ok tt → (first + count ≤ sectors) × (count ≤ limit)
range_within first count limit sectors = within_by first count limit sectors (count == 0) (nat_lt limit count) (nat_lt sectors (first + count)) refl refl

-- what is said of a call that was looked at by its range, and then for a session
pub record IsPlaced (call : Call) (layers : Layers) (result : Result (Unit {0}) ChainRefusal) : Type 0 where
  pub ok : OnOk result (misplaced call layers ≡ None)
  pub range : OnOk result (range_of layers.geometry call ≡ Ok tt)
  pub session : OnOk result (is_read call ≡ false → is_some layers.leaf ≡ true)
  pub err : IfErr result (λ e. misplaced call layers ≡ Some e)

pub permitted : (call : Call) (layers : Layers) (read : Bool) (result : Result (Unit {0}) ChainRefusal) → read ≡ is_read call → result ≡ (if read || is_some layers.leaf then Ok tt else Err refusals.ReadOnly) → Ok tt ≡ range_of layers.geometry call
    → IsPlaced call layers result
permitted call layers read result same is range =
    by_test (is_read call || is_some layers.leaf) refl (is ∙ ap (λ (b : Bool). if b || is_some layers.leaf then Ok tt else Err refusals.ReadOnly) same)
  where
    by_test : (b : Bool) → (is_read call || is_some layers.leaf) ≡ b → result ≡ (if b then Ok tt else Err refusals.ReadOnly) → IsPlaced call layers result
    by_test true e is =
        subst (IsPlaced call layers) (sym is)
        (record { ok = ap (λ (r : Result (Unit {0}) ChainRefusal). out_of r (barred call (is_some layers.leaf))) (sym range) ∙ ap (λ (b : Bool). if b then None else Some refusals.ReadOnly) e; range = sym range; session = λ none. sym (ap (λ (b : Bool). b || is_some layers.leaf) none) ∙ e; err = tt })
    by_test false e is =
        subst (IsPlaced call layers) (sym is)
        (record { ok = tt; range = tt; session = tt; err = ap (λ (r : Result (Unit {0}) ChainRefusal). out_of r (barred call (is_some layers.leaf))) (sym range) ∙ ap (λ (b : Bool). if b then None else Some refusals.ReadOnly) e })
