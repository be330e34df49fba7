-- The stripes that a call touches, as a range.
use Rattle.std.proofs.Common.{◌≡◌, ℕ, ◌+◌, ◌-◌, ◌*◌, ◌/◌, ◌<◌, ◌≤◌, ◌⊎◌, ◌&&◌, Bool, true, false, not, length, refl, ap, ◌∙◌, arith, inl, inr, if◌then◌else◌}
use Rattle.std.specs.Prelude.{nat_le, nat_lt}
use Rattle.std.proofs.Math.Nat.{add-mul, div-mul-le_self, lt-div-mul-add, mul-le-mul_right}
use Rattle.std.proofs.lemmas.Bool.{and_from, cases_lt, and_parts, le-leb, leb-true, lt-ltb, ltb-true}
use Rattle.std.proofs.lemmas.Nat.{le-div}
use Rattle.guest_model.specs.declared.call.Call.{Call}
use Rattle.guest_model.specs.Calls.{changes, first_sector, sector_count}
use Rattle.chain_model.specs.Stripes.{per_stripe, stamp, touches}
use Rattle.chain_model.proofs.Stamping.{stamps_by_call}
use Rattle.layer_session.proofs.Planned.{same_test}
use Rattle.merge_core.specs.Ranges.{CallsTouchRanges, first_touched, last_touched}

-- the quotient of a number is at most t where it lies before the end of t's part
div_before : (n p t : ℕ) → 0 < p → n < (t + 1) * p → n / p ≤ t
div_before n p t some h = by_place (cases_lt t (n / p))
  where
    by_place : (t < n / p) ⊎ (n / p ≤ t) → n / p ≤ t
    by_place (inr le) = le
    by_place (inl more) =
        let low = div-mul-le_self n p in
        let split : n / p * p ≡ (t + 1) * p + (n / p - (t + 1)) * p = ap (λ k. k * p) (let e : n / p ≡ t + 1 + (n / p - (t + 1)) = omega (arith, more) in e) ∙ add-mul (t + 1) (n / p - (t + 1)) p in
        absurd (omega (arith, h, low, split))

before_div : (n p t : ℕ) → 0 < p → n / p ≤ t → n < (t + 1) * p
before_div n p t some h =
    let high = lt-div-mul-add {a = n} {b = p} some in
    let split : (t + 1) * p ≡ n / p * p + p + (t - n / p) * p = ap (λ k. k * p) (let e : t + 1 ≡ n / p + 1 + (t - n / p) = omega (arith, h) in e) ∙ add-mul (n / p + 1) (t - n / p) p ∙ ap (λ k. k + (t - n / p) * p) (add-mul (n / p) 1 p ∙ (let e : n / p * p + 1 * p ≡ n / p * p + p = omega arith in e)) in
    omega (arith, high, split)

touches_range : (z : ℕ) (call : Call) (t : ℕ) → 0 < per_stripe z → changes call ≡ true → 0 < sector_count z call → touches z call t ≡ (nat_le (first_touched z call) t && nat_le t (last_touched z call))
touches_range z call t some change any = same_test (touches z call t) (nat_le (first_touched z call) t && nat_le t (last_touched z call)) there back
  where
    there : touches z call t ≡ true → (nat_le (first_touched z call) t && nat_le t (last_touched z call)) ≡ true
    there h = let a = and_parts (changes call) _ h in let b = and_parts (nat_lt 0 (sector_count z call)) _ a.1 in let c = and_parts (nat_lt (first_sector call) ((t + 1) * per_stripe z)) _ b.1 in
        let end = ltb-true (t * per_stripe z) (first_sector call + sector_count z call) c.1 in
        and_from _ _ (le-leb _ _ (div_before (first_sector call) (per_stripe z) t some (ltb-true _ _ c.0))) (le-leb _ _ (le-div t (first_sector call + sector_count z call - 1) (per_stripe z) some (omega (arith, end))))

    back : (nat_le (first_touched z call) t && nat_le t (last_touched z call)) ≡ true → touches z call t ≡ true
    back h = let a = and_parts (nat_le (first_touched z call) t) _ h in
        let low = leb-true (first_touched z call) t a.0 in
        let high = leb-true t (last_touched z call) a.1 in
        let row = mul-le-mul_right {m = t} {n = last_touched z call} (per_stripe z) high in
        let last = div-mul-le_self (first_sector call + sector_count z call - 1) (per_stripe z) in
        and_from _ _ change (and_from _ _ (lt-ltb _ _ any) (and_from _ _ (lt-ltb _ _ (before_div (first_sector call) (per_stripe z) t some low)) (lt-ltb _ _ (omega (arith, row, last, any)))))

pub calls_touch_ranges : CallsTouchRanges
calls_touch_ranges = record {
  range = touches_range;
  marks = λ z call marks t some change any. ap (λ b. marks t && not b) (touches_range z call t some change any) ∙ and_swap (marks t) (not (nat_le (first_touched z call) t && nat_le t (last_touched z call)));
  stamps = λ z h e t some change any. stamps_by_call.more z h e t ∙ ap (λ b. if b then length h + 1 else stamp z h t) (touches_range z e.call t some change any);
}
  where
    and_swap : (x y : Bool) → (x && y) ≡ (y && x)
    and_swap true true = refl
    and_swap true false = refl
    and_swap false true = refl
    and_swap false false = refl
