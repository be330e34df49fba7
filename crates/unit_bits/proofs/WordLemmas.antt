-- Runs of ones in a word, and what a word's test and a write to it say of the bits.
use Rattle.std.proofs.Common.{◌≡◌, ◌≢◌, ℕ, ◌+◌, ◌-◌, ◌*◌, ◌/◌, ◌%◌, ◌^◌, ◌<◌, ◌≤◌, ◌⊎◌, ◌&&◌, min, max, true, false, if◌then◌else◌, nat_le, nat_lt, List, length, set, get_or, slice_index, sym, ◌∙◌, ap, inl, inr, arith, get_or-set_other, get_or-set_same}
use Rattle.std.specs.Int.{bit_at}
use Rattle.std.specs.Prelude.{bit_and, bit_or}
use Rattle.std.proofs.lemmas.Bool.{cases_lt, cases_eq, and_from, and_left, and_right, le-leb, lt-leb, lt-ltb, le-ltb}
use Rattle.std.proofs.lemmas.Nat.{pow-add}
use Rattle.std.proofs.lemmas.Nat.Bits.{bit_at_and, bit_at_or, bit_at-zero, bit_at-lt, bit_at_mask_inside, bit_at_mask_below, bit_at_mask_above, same_from_bits, ones_shr}
use Rattle.std.proofs.Math.Nat.{mul_comm, mul-sub, mul-one, mod-eq_of_lt}
use Rattle.std.proofs.Math.Pow.{pow_mono, pow_pos}
use Rattle.unit_bits.specs.Words.{bit_of}

-- ---- one word

module _ (word lo hi : ℕ) where
  -- no bit of the run is set
  pub run_clear : bit_and word (2 ^ hi - 2 ^ lo) ≡ 0 → (i : ℕ) → lo ≤ i → i < hi → bit_at word i ≡ 0
  run_clear e i a b =
      let one : bit_at (2 ^ hi - 2 ^ lo) i ≡ 1 = bit_at_mask_inside lo hi i a b in
      let both : bit_at (bit_and word (2 ^ hi - 2 ^ lo)) i ≡ min (bit_at word i) (bit_at (2 ^ hi - 2 ^ lo) i) = bit_at_and word (2 ^ hi - 2 ^ lo) i in
      let none : bit_at (bit_and word (2 ^ hi - 2 ^ lo)) i ≡ 0 = ap (λ (n : ℕ). bit_at n i) e ∙ bit_at-zero i in
      let small : bit_at word i < 2 = bit_at-lt word i in
      omega (arith, one, both, none, small)

  pub clear_run : ((i : ℕ) → lo ≤ i → i < hi → bit_at word i ≡ 0) → bit_and word (2 ^ hi - 2 ^ lo) ≡ 0
  clear_run h = same_from_bits (bit_and word (2 ^ hi - 2 ^ lo)) 0 (λ i. bit_at_and word (2 ^ hi - 2 ^ lo) i ∙ by_place i (cases_lt i lo) (cases_lt i hi) ∙ sym (bit_at-zero i))
    where
      by_place : (i : ℕ) → (i < lo) ⊎ (lo ≤ i) → (i < hi) ⊎ (hi ≤ i) → min (bit_at word i) (bit_at (2 ^ hi - 2 ^ lo) i) ≡ 0
      by_place i (inl a) b = let z : bit_at (2 ^ hi - 2 ^ lo) i ≡ 0 = bit_at_mask_below lo hi i a in omega (arith, z)
      by_place i (inr a) (inl b) = let z : bit_at word i ≡ 0 = h i a b in omega (arith, z)
      by_place i (inr a) (inr b) = let z : bit_at (2 ^ hi - 2 ^ lo) i ≡ 0 = bit_at_mask_above lo hi i b in omega (arith, z)

  -- with the run set
  pub set_inside : (i : ℕ) → lo ≤ i → i < hi → bit_at (bit_or word (2 ^ hi - 2 ^ lo)) i ≡ 1
  set_inside i a b =
      let one : bit_at (2 ^ hi - 2 ^ lo) i ≡ 1 = bit_at_mask_inside lo hi i a b in
      let small : bit_at word i < 2 = bit_at-lt word i in
      let either : bit_at (bit_or word (2 ^ hi - 2 ^ lo)) i ≡ max (bit_at word i) (bit_at (2 ^ hi - 2 ^ lo) i) = bit_at_or word (2 ^ hi - 2 ^ lo) i in
      omega (arith, one, small, either)

  pub set_outside : (i : ℕ) → (i < lo) ⊎ (hi ≤ i) → bit_at (bit_or word (2 ^ hi - 2 ^ lo)) i ≡ bit_at word i
  set_outside i out = by_place out
    where
      either : bit_at (bit_or word (2 ^ hi - 2 ^ lo)) i ≡ max (bit_at word i) (bit_at (2 ^ hi - 2 ^ lo) i)
      either = bit_at_or word (2 ^ hi - 2 ^ lo) i

      by_place : (i < lo) ⊎ (hi ≤ i) → bit_at (bit_or word (2 ^ hi - 2 ^ lo)) i ≡ bit_at word i
      by_place (inl a) = let z : bit_at (2 ^ hi - 2 ^ lo) i ≡ 0 = bit_at_mask_below lo hi i a in omega (arith, z, either)
      by_place (inr a) = let z : bit_at (2 ^ hi - 2 ^ lo) i ≡ 0 = bit_at_mask_above lo hi i a in omega (arith, z, either)

-- two words without a bit, and together
pub none_of : (a b : ℕ) → bit_or a b ≡ 0 → (a ≡ 0) × (b ≡ 0)
none_of a b e = (same_from_bits a 0 left, same_from_bits b 0 right)
  where
    both : (i : ℕ) → max (bit_at a i) (bit_at b i) ≡ 0
    both i = sym (bit_at_or a b i) ∙ ap (λ (n : ℕ). bit_at n i) e ∙ bit_at-zero i

    left : (i : ℕ) → bit_at a i ≡ bit_at 0 i
    left i = let z : bit_at a i ≡ 0 = omega (arith, both i) in z ∙ sym (bit_at-zero i)

    right : (i : ℕ) → bit_at b i ≡ bit_at 0 i
    right i = let z : bit_at b i ≡ 0 = omega (arith, both i) in z ∙ sym (bit_at-zero i)

pub none_in : (a b : ℕ) → a ≡ 0 → b ≡ 0 → bit_or a b ≡ 0
none_in a b x y = ap (λ (n : ℕ). bit_or n b) x ∙ ap (bit_or 0) y

-- a run, as it is computed
pub run_is : (first count : ℕ) → 0 < count → first + count ≤ 64 → (2 ^ 64 - 1) / 2 ^ (64 - count) * 2 ^ first % 2 ^ 64 ≡ 2 ^ (first + count) - 2 ^ first
run_is first count some fits = ap (λ (n : ℕ). n * 2 ^ first % 2 ^ 64) shifted ∙ ap (λ (n : ℕ). n % 2 ^ 64) times ∙ mod-eq_of_lt small
  where
    shifted : (2 ^ 64 - 1) / 2 ^ (64 - count) ≡ 2 ^ count - 1
    shifted = ones_shr 64 (64 - count) (omega arith) ∙ ap (λ (n : ℕ). 2 ^ n - 1) (let e : 64 - (64 - count) ≡ count = omega (arith, fits) in e)

    times : (2 ^ count - 1) * 2 ^ first ≡ 2 ^ (first + count) - 2 ^ first
    times = mul_comm (2 ^ count - 1) (2 ^ first) ∙ mul-sub (2 ^ first) (2 ^ count) 1 ∙ ap (λ (n : ℕ). n - 2 ^ first * 1) (sym (pow-add 2 first count))
        ∙ ap (λ (n : ℕ). 2 ^ (first + count) - n) (mul-one (2 ^ first))

    small : 2 ^ (first + count) - 2 ^ first < 2 ^ 64
    small =
        let most : 2 ^ (first + count) ≤ 2 ^ 64 = pow_mono fits in
        let some : 0 < 2 ^ first = pow_pos first in
        omega (arith, most, some)

-- ---- places from one up to another

pub is_between : (a b t : ℕ) → a ≤ t → t < b → (nat_le a t && nat_lt t b) ≡ true
is_between a b t from to = and_from _ _ (le-leb a t from) (lt-ltb t b to)

pub is_before : (a b t : ℕ) → t < a → (nat_le a t && nat_lt t b) ≡ false
is_before a b t l = and_left _ _ (lt-leb a t l)

pub is_behind : (a b t : ℕ) → b ≤ t → (nat_le a t && nat_lt t b) ≡ false
is_behind a b t l = and_right _ _ (le-ltb t b l)

-- ---- a run in one of the words

module _ (words : List ℕ) (at count mask : ℕ) (fits : at % 64 + count ≤ 64) (is : mask ≡ 2 ^ (at % 64 + count) - 2 ^ (at % 64)) where
  word : ℕ
  word = slice_index words (at / 64)

  -- the bit of a place of the run
  here : (t : ℕ) → at ≤ t → t < at + count → (t / 64 ≡ at / 64) × (at % 64 ≤ t % 64) × (t % 64 < at % 64 + count)
  here t from to = (omega (arith, fits, from, to), omega (arith, fits, from, to), omega (arith, fits, from, to))

  pub step_clear : bit_and (slice_index words (at / 64)) mask ≡ 0 → (t : ℕ) → at ≤ t → t < at + count → bit_of words t ≡ 0
  step_clear none t from to =
      let h = here t from to in
      ap (λ (i : ℕ). bit_at (slice_index words i) (t % 64)) h.0
      ∙ run_clear (slice_index words (at / 64)) (at % 64) (at % 64 + count) (ap (bit_and (slice_index words (at / 64))) (sym is) ∙ none) (t % 64) h.1 h.2

  pub clear_step : ((t : ℕ) → at ≤ t → t < at + count → bit_of words t ≡ 0) → bit_and (slice_index words (at / 64)) mask ≡ 0
  clear_step h = ap (bit_and (slice_index words (at / 64))) is ∙ clear_run (slice_index words (at / 64)) (at % 64) (at % 64 + count) each
    where
      each : (i : ℕ) → at % 64 ≤ i → i < at % 64 + count → bit_at (slice_index words (at / 64)) i ≡ 0
      each i from to =
          let t : ℕ = at + (i - at % 64) in
          let same_word : t / 64 ≡ at / 64 = omega (arith, fits, from, to) in
          let same_bit : t % 64 ≡ i = omega (arith, fits, from, to) in
          ap (λ (k : ℕ). bit_at (slice_index words k) i) (sym same_word) ∙ ap (λ (k : ℕ). bit_at (slice_index words (t / 64)) k) (sym same_bit)
          ∙ h t (omega arith) (omega (arith, from, to))

  module _ (inside : at / 64 < length words) where
    written : (t : ℕ) → t / 64 ≡ at / 64 → bit_of (set words (at / 64) (bit_or (slice_index words (at / 64)) mask)) t ≡ bit_at (bit_or (slice_index words (at / 64)) (2 ^ (at % 64 + count) - 2 ^ (at % 64))) (t % 64)
    written t e =
        ap (λ (i : ℕ). bit_at (get_or (set words (at / 64) (bit_or (slice_index words (at / 64)) mask)) i 0) (t % 64)) e
        ∙ ap (λ (b : ℕ). bit_at b (t % 64)) (get_or-set_same words (at / 64) (bit_or (slice_index words (at / 64)) mask) 0 inside)
        ∙ ap (λ (m : ℕ). bit_at (bit_or (slice_index words (at / 64)) m) (t % 64)) is

    set_here : (t : ℕ) → at ≤ t → t < at + count → bit_of (set words (at / 64) (bit_or (slice_index words (at / 64)) mask)) t ≡ 1
    set_here t from to =
        let h = here t from to in
        written t h.0 ∙ set_inside (slice_index words (at / 64)) (at % 64) (at % 64 + count) (t % 64) h.1 h.2

    set_elsewhere : (t : ℕ) → (t < at) ⊎ (at + count ≤ t) → bit_of (set words (at / 64) (bit_or (slice_index words (at / 64)) mask)) t ≡ bit_of words t
    set_elsewhere t out = by_word (cases_eq (t / 64) (at / 64))
      where
        outside : t / 64 ≡ at / 64 → (t < at) ⊎ (at + count ≤ t) → (t % 64 < at % 64) ⊎ (at % 64 + count ≤ t % 64)
        outside e (inl a) = inl (omega (arith, e, a))
        outside e (inr a) = inr (omega (arith, e, a))

        by_word : (t / 64 ≡ at / 64) ⊎ (t / 64 ≢ at / 64) → bit_of (set words (at / 64) (bit_or (slice_index words (at / 64)) mask)) t ≡ bit_of words t
        by_word (inl e) =
            written t e ∙ set_outside (slice_index words (at / 64)) (at % 64) (at % 64 + count) (t % 64) (outside e out)
            ∙ ap (λ (i : ℕ). bit_at (slice_index words i) (t % 64)) (sym e)
        by_word (inr d) = ap (λ (b : ℕ). bit_at b (t % 64)) (get_or-set_other words (at / 64) (t / 64) _ 0 d)

    -- the places from `from` up to the run's end, where those before it were set
    pub step_set : (old : List ℕ) (from : ℕ) → from ≤ at → ((t : ℕ) → bit_of words t ≡ (if nat_le from t && nat_lt t at then 1 else bit_of old t))
        → (t : ℕ) → bit_of (set words (at / 64) (bit_or (slice_index words (at / 64)) mask)) t ≡ (if nat_le from t && nat_lt t (at + count) then 1 else bit_of old t)
    step_set old from le h t = by_place (cases_lt t from) (cases_lt t at) (cases_lt t (at + count))
      where
        by_place : (t < from) ⊎ (from ≤ t) → (t < at) ⊎ (at ≤ t) → (t < at + count) ⊎ (at + count ≤ t)
            → bit_of (set words (at / 64) (bit_or (slice_index words (at / 64)) mask)) t ≡ (if nat_le from t && nat_lt t (at + count) then 1 else bit_of old t)
        by_place (inl a) b c = rw (is_before from (at + count) t a) (set_elsewhere t (inl (omega (arith, a, le))) ∙ (rw (is_before from at t a) at (h t)))
        by_place (inr a) (inl b) c = rw (is_between from (at + count) t a (omega (arith, b))) (set_elsewhere t (inl b) ∙ (rw (is_between from at t a b) at (h t)))
        by_place (inr a) (inr b) (inl c) = rw (is_between from (at + count) t a c) (set_here t b c)
        by_place (inr a) (inr b) (inr c) = rw (is_behind from (at + count) t c) (set_elsewhere t (inr c) ∙ (rw (is_behind from at t b) at (h t)))

    -- whether one of them was set
    module _ (old : List ℕ) (from met : ℕ) (h : (t : ℕ) → bit_of words t ≡ (if nat_le from t && nat_lt t at then 1 else bit_of old t)) where
      as_before : (t : ℕ) → at ≤ t → bit_of words t ≡ bit_of old t
      as_before t le = rw (is_behind from at t le) at (h t)

      pub still_none : (met ≡ 0 → (t : ℕ) → from ≤ t → t < at → bit_of old t ≡ 0) → bit_or met (bit_and (slice_index words (at / 64)) mask) ≡ 0
          → (t : ℕ) → from ≤ t → t < at + count → bit_of old t ≡ 0
      still_none none e t a b = by_place (cases_lt t at)
        where
          parts : (met ≡ 0) × (bit_and (slice_index words (at / 64)) mask ≡ 0)
          parts = none_of met (bit_and (slice_index words (at / 64)) mask) e

          by_place : (t < at) ⊎ (at ≤ t) → bit_of old t ≡ 0
          by_place (inl l) = none parts.0 t a l
          by_place (inr r) = sym (as_before t r) ∙ step_clear parts.1 t r b

      pub none_still : from ≤ at → (((t : ℕ) → from ≤ t → t < at → bit_of old t ≡ 0) → met ≡ 0) → ((t : ℕ) → from ≤ t → t < at + count → bit_of old t ≡ 0)
          → bit_or met (bit_and (slice_index words (at / 64)) mask) ≡ 0
      none_still le some all = none_in met (bit_and (slice_index words (at / 64)) mask) (some (λ t a b. all t a (omega (arith, b)))) (clear_step (λ t a b. as_before t a ∙ all t (omega (arith, a, le)) b))
