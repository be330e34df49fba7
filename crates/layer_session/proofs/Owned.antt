-- Which sectors a layer owns, found run by run.
use Rattle.std.proofs.Common.{◌≡◌, ℕ, ◌+◌, ◌-◌, ◌*◌, ◌^◌, ◌<◌, ◌≤◌, ◌⊎◌, ◌++◌, ◌==◌, Bool, true, false, if◌then◌else◌, List, length, Option, Some, None, refl, sym, ap, subst, ◌∙◌, arith, inl, inr}
use Rattle.std.specs.Option.{option_or}
use Rattle.std.specs.Prelude.{min, unwrap_or}
use Rattle.std.proofs.lemmas.Bool.{cases_lt}
use Rattle.std.proofs.lemmas.List.{length-append}
use Rattle.std.proofs.Math.Nat.{mul-add}
use Rattle.store_model.proofs.Parts.{length-part}
use Rattle.vx_base.specs.Fields.{bytes_at}
use Rattle.vhdx_format.specs.SectorBitmaps.{HasRunSet, bit_of, bit_value}
use Rattle.vhdx_format.proofs.Placed.{bytes_past, bytes_within}
use Rattle.sector_bits.proofs.BitLemmas.{is_within-above, is_within-below, is_within-true}
use Rattle.layer_session.proofs.Sectors.{bytes_in}
use Rattle.chain_model.specs.Layers as chain
use Rattle.layer_session.specs.Calls.{AddsOwned, HasOwned}
use Rattle.layer_session.specs.Laws.{LayersAreAdded, NoneFound, told_sector}
use Rattle.layer_session.specs.Reading.{marked_layer, run_layer}

-- a sector of a run ends in it
pub room : (z i n : ℕ) → i < n → z * i + z ≤ z * n
room z i n h =
    let k = n - i - 1 in
    let n_is : n ≡ i + 1 + k = omega (arith, h) in
    let whole : z * n ≡ z * (i + 1 + k) = ap (λ m. z * m) n_is in
    let one : z * (i + 1 + k) ≡ z * (i + 1) + z * k = mul-add z (i + 1) k in
    let two : z * (i + 1) ≡ z * i + z * 1 = mul-add z i 1 in
    omega (arith, whole, one, two)

-- a shorter run has no more bytes
pub rows : (z n m : ℕ) → n ≤ m → z * n ≤ z * m
rows z n m h =
    let whole : z * m ≡ z * (n + (m - n)) = ap (λ k. z * k) (let e : m ≡ n + (m - n) = omega (arith, h) in e) in
    let split : z * (n + (m - n)) ≡ z * n + z * (m - n) = mul-add z n (m - n) in
    omega (arith, whole, split)

-- how long the rest is
pub rest_long : (z n count total back : ℕ) → n ≤ count → total ≡ z * count → z * n + back ≡ total → back ≡ z * (count - n)
rest_long z n count total back few whole split =
    let all : z * count ≡ z * (n + (count - n)) = ap (λ k. z * k) (let e : count ≡ n + (count - n) = omega (arith, few) in e) in
    let both : z * (n + (count - n)) ≡ z * n + z * (count - n) = mul-add z n (count - n) in
    omega (arith, whole, split, all, both)

-- and what is left ends where all did
pub rest_inside : (next place z n count len : ℕ) → next ≡ place + z * n → n ≤ count → place + z * count ≤ len → next + z * (count - n) ≤ len
rest_inside next place z n count len is few within =
    let all : z * count ≡ z * (n + (count - n)) = ap (λ k. z * k) (let e : count ≡ n + (count - n) = omega (arith, few) in e) in
    let both : z * (n + (count - n)) ≡ z * n + z * (count - n) = mul-add z n (count - n) in
    omega (arith, is, within, all, both)

-- where the next run begins
pub next_place : (next place z n count len : ℕ) → next ≡ min (place + z * n) (2 ^ 64 - 1) → n ≤ count → place + z * count ≤ len → len < 2 ^ 64 → next ≡ place + z * n
next_place next place z n count len is few within most = let r = rows z n count few in omega (arith, is, r, within, most)

pub owned_alike : (l k : chain.Layer) (z first other count at : ℕ) (m n a b : List ℕ) → ((i : ℕ) → i < count → l (first + i) ≡ k (other + i)) → HasOwned k z other count at m n a b → HasOwned l z first count at m n a b
owned_alike l k z first other count at m n a b same h = record {
  owned = λ i bytes below e. h.owned i bytes below (sym (same i below) ∙ e);
  others = λ i below e. h.others i below (sym (same i below) ∙ e);
  rest = h.rest;
  mask_len = h.mask_len;
  len = h.len;
}

pub owned_none : (l : chain.Layer) (z first at : ℕ) (m a : List ℕ) → HasOwned l z first 0 at m m a a
owned_none l z first at m a = record {
  owned = λ i bytes below e. absurd (omega (arith, below));
  others = λ i below e. absurd (omega (arith, below));
  rest = λ k d o. refl;
  mask_len = refl;
  len = refl;
}

-- one run behind another
module _ (l : chain.Layer) (z first n k at : ℕ) (m0 m1 m2 a a' b b' : List ℕ) (long : length a ≡ z * n) (inside : at + (n + k) ≤ 8 * length m0)
    (one : HasOwned l z first n at m0 m1 a a') (two : HasOwned l z (first + n) k (at + n) m1 m2 b b') where
  bit_first : (i : ℕ) → i < n → bit_of m2 (at + i) ≡ bit_of m1 (at + i)
  bit_first i h = two.rest (at + i) (let e = one.mask_len in omega (arith, h, inside, e)) (inl (omega (arith, h)))

  first_long : length a' ≡ z * n
  first_long = one.len ∙ long

  in_first : (i : ℕ) → i < n → bytes_at (a' ++ b') (z * i) z ≡ bytes_at a' (z * i) z
  in_first i h = bytes_within a' b' (z * i) z (let r = room z i n h in omega (arith, r, first_long))

  old_first : (i : ℕ) → i < n → bytes_at (a ++ b) (z * i) z ≡ bytes_at a (z * i) z
  old_first i h = bytes_within a b (z * i) z (let r = room z i n h in omega (arith, r, long))

  split : (i : ℕ) → n ≤ i → z * i ≡ z * n + z * (i - n)
  split i h = ap (λ j. z * j) (let e : i ≡ n + (i - n) = omega (arith, h) in e) ∙ mul-add z n (i - n)

  in_second : (i : ℕ) → n ≤ i → bytes_at (a' ++ b') (z * i) z ≡ bytes_at b' (z * (i - n)) z
  in_second i h = bytes_past a' b' (z * i) (z * (i - n)) z (let s = split i h in omega (arith, s, first_long))

  old_second : (i : ℕ) → n ≤ i → bytes_at (a ++ b) (z * i) z ≡ bytes_at b (z * (i - n)) z
  old_second i h = bytes_past a b (z * i) (z * (i - n)) z (let s = split i h in omega (arith, s, long))

  sector_is : (i : ℕ) → n ≤ i → first + n + (i - n) ≡ first + i
  sector_is i h = omega (arith, h)

  bit_is : (i : ℕ) → n ≤ i → at + n + (i - n) ≡ at + i
  bit_is i h = omega (arith, h)

  pub owned_joined : HasOwned l z first (n + k) at m0 m2 (a ++ b) (a' ++ b')
  owned_joined = record {
    owned = λ i bytes below e. owned_by i bytes below e (cases_lt i n);
    others = λ i below e. others_by i below e (cases_lt i n);
    rest = λ j d o. rest_by j d o;
    mask_len = two.mask_len ∙ one.mask_len;
    len = (let x = one.len in let y = two.len in omega (arith, x, y, length-append a b, length-append a' b'));
  } where
    owned_by : (i : ℕ) (bytes : List ℕ) → i < n + k → l (first + i) ≡ Some bytes → (i < n) ⊎ (n ≤ i) → (bit_of m2 (at + i) ≡ 1) × (bytes_at (a' ++ b') (z * i) z ≡ bytes)
    owned_by i bytes below e (inl h) = let o = one.owned i bytes h e in (bit_first i h ∙ o.0, in_first i h ∙ o.1)
    owned_by i bytes below e (inr h) =
        let o = two.owned (i - n) bytes (omega (arith, below, h)) (ap l (sector_is i h) ∙ e) in
        (ap (bit_of m2) (sym (bit_is i h)) ∙ o.0, in_second i h ∙ o.1)

    others_by : (i : ℕ) → i < n + k → l (first + i) ≡ None → (i < n) ⊎ (n ≤ i) → (bit_of m2 (at + i) ≡ 0) × (bytes_at (a' ++ b') (z * i) z ≡ bytes_at (a ++ b) (z * i) z)
    others_by i below e (inl h) = let o = one.others i h e in (bit_first i h ∙ o.0, in_first i h ∙ o.1 ∙ sym (old_first i h))
    others_by i below e (inr h) =
        let o = two.others (i - n) (omega (arith, below, h)) (ap l (sector_is i h) ∙ e) in
        (ap (bit_of m2) (sym (bit_is i h)) ∙ o.0, in_second i h ∙ o.1 ∙ sym (old_second i h))

    rest_by : (j : ℕ) → j < 8 * length m0 → (j < at) ⊎ (at + (n + k) ≤ j) → bit_of m2 j ≡ bit_of m0 j
    rest_by j d (inl x) = two.rest j (let e = one.mask_len in omega (arith, d, e)) (inl (omega (arith, x))) ∙ one.rest j d (inl x)
    rest_by j d (inr x) = two.rest j (let e = one.mask_len in omega (arith, d, e)) (inr (omega (arith, x))) ∙ one.rest j d (inr (omega (arith, x)))

-- the first run of some sectors, and the rest of them
pub owned_rest : (l : chain.Layer) (z first n count at : ℕ) (m0 m1 m2 out a a' b b' : List ℕ) → n ≤ count → out ≡ a ++ b → length a ≡ z * n → at + count ≤ 8 * length m0
    → HasOwned l z first n at m0 m1 a a' → HasOwned l z (first + n) (count - n) (at + n) m1 m2 b b' → HasOwned l z first count at m0 m2 out (a' ++ b')
owned_rest l z first n count at m0 m1 m2 out a a' b b' few out_is long inside one two =
    let all : n + (count - n) ≡ count = omega (arith, few) in
    subst (λ (x : List ℕ). HasOwned l z first count at m0 m2 x (a' ++ b')) (sym out_is)
    (subst (λ c. HasOwned l z first c at m0 m2 (a ++ b) (a' ++ b')) all (owned_joined l z first n (count - n) at m0 m1 m2 a a' b b' long (omega (arith, inside, few)) one two))

-- bits of a run that was set, or cleared
module _ (m m' : List ℕ) (at count : ℕ) (on : Bool) (run : HasRunSet m m' at count on) (inside : at + count ≤ 8 * length m) where
  pub run_bit : (i : ℕ) → i < count → bit_of m' (at + i) ≡ bit_value on
  run_bit i h =
      run (at + i) (omega (arith, h, inside)) ∙ ap (λ (t : Bool). if t then bit_value on else bit_of m (at + i)) (is_within-true at count (at + i) (omega arith) (omega (arith, h)))

  pub run_rest : (k : ℕ) → k < 8 * length m → (k < at) ⊎ (at + count ≤ k) → bit_of m' k ≡ bit_of m k
  run_rest k d (inl h) = run k d ∙ ap (λ (t : Bool). if t then bit_value on else bit_of m k) (is_within-below at count k h)
  run_rest k d (inr h) = run k d ∙ ap (λ (t : Bool). if t then bit_value on else bit_of m k) (is_within-above at count k h)

some_same : (x y : List ℕ) → Some x ≡ Some y → x ≡ y
some_same x y e = cc

pub owned_set : (l : chain.Layer) (z first count at : ℕ) (m m' a b : List ℕ) → HasRunSet m m' at count true → at + count ≤ 8 * length m → length m' ≡ length m → length b ≡ length a
    → ((i : ℕ) → i < count → l (first + i) ≡ Some (bytes_at b (z * i) z)) → HasOwned l z first count at m m' a b
owned_set l z first count at m m' a b run inside mask_len len each = record {
  owned = λ i bytes h e. (run_bit m m' at count true run inside i h, some_same _ _ (sym (each i h) ∙ e));
  others = λ i h e. absurd (let f = sym (each i h) ∙ e in cc);
  rest = run_rest m m' at count true run inside;
  mask_len = mask_len;
  len = len;
}

pub owned_unset : (l : chain.Layer) (z first count at : ℕ) (m m' a : List ℕ) → HasRunSet m m' at count false → at + count ≤ 8 * length m → length m' ≡ length m
    → ((i : ℕ) → i < count → l (first + i) ≡ None) → HasOwned l z first count at m m' a a
owned_unset l z first count at m m' a run inside mask_len each = record {
  owned = λ i bytes h e. absurd (let f = sym (each i h) ∙ e in cc);
  others = λ i h e. (run_bit m m' at count false run inside i h, refl);
  rest = run_rest m m' at count false run inside;
  mask_len = mask_len;
  len = refl;
}

pub from_zero : (i : ℕ) → 0 + i ≡ i
from_zero i = omega arith

-- a run that the file doesn't have
pub run_left : (has : Bool) (file : List ℕ) (place z count at : ℕ) (m m' a : List ℕ) → has ≡ false → HasRunSet m m' at count false → at + count ≤ 8 * length m → length m' ≡ length m
    → HasOwned (run_layer has file place z) z 0 count at m m' a a
run_left has file place z count at m m' a e run inside long =
    owned_unset (run_layer has file place z) z 0 count at m m' a run inside long (λ i h. ap (run_layer has file place z) (from_zero i) ∙ ap (λ (t : Bool). if t then Some (bytes_at file (place + z * i) z) else None) e)

-- a run that was read
pub run_taken : (has : Bool) (file : List ℕ) (place z count at : ℕ) (m m' a b : List ℕ) → has ≡ true → HasRunSet m m' at count true → at + count ≤ 8 * length m → length m' ≡ length m
    → length a ≡ z * count → place + z * count ≤ length file → b ≡ bytes_at file place (length a) → HasOwned (run_layer has file place z) z 0 count at m m' a b
run_taken has file place z count at m m' a b e run inside long whole within is =
    let whole_is : b ≡ bytes_at file place (z * count) = is ∙ ap (bytes_at file place) whole in
    owned_set (run_layer has file place z) z 0 count at m m' a b run inside long (ap length whole_is ∙ length-part file place (z * count) within ∙ sym whole)
    (λ i h.
    ap (run_layer has file place z) (from_zero i) ∙ ap (λ (t : Bool). if t then Some (bytes_at file (place + z * i) z) else None) e
    ∙ ap Some (sym (ap (λ x. bytes_at x (z * i) z) whole_is ∙ bytes_in file place (z * count) (z * i) z (room z i count h))))

-- a run of marked sectors, and those behind it
module _ (bits file : List ℕ) (place next z skip n count at : ℕ) (has : Bool) (m0 m1 m2 a a' b b' : List ℕ) (few : n ≤ count) (same : (i : ℕ) → skip ≤ i → i < skip + n → bit_of bits i ≡ bit_value has)
    (next_is : next ≡ place + z * n) (long : length a ≡ z * n) (inside : at + count ≤ 8 * length m0) (one : HasOwned (run_layer has file place z) z 0 n at m0 m1 a a')
    (two : HasOwned (marked_layer bits (skip + n) file next z) z 0 (count - n) (at + n) m1 m2 b b') where
  abbrev marked : chain.Layer
  marked = marked_layer bits skip file place z

  value_is : (on : Bool) → (bit_value on == 1) ≡ on
  value_is true = refl
  value_is false = refl

  first_same : (i : ℕ) → i < n → marked (0 + i) ≡ run_layer has file place z (0 + i)
  first_same i h =
      let bit : bit_of bits (skip + (0 + i)) ≡ bit_value has = same (skip + (0 + i)) (omega arith) (omega (arith, h)) in
      ap (λ (t : Bool). if t then Some (bytes_at file (place + z * (0 + i)) z) else None) (ap (λ v. v == 1) bit ∙ value_is has)

  second_same : (i : ℕ) → i < count - n → marked (n + i) ≡ marked_layer bits (skip + n) file next z (0 + i)
  second_same i h =
      let bit : skip + (n + i) ≡ skip + n + (0 + i) = omega arith in
      let split : z * (n + i) ≡ z * n + z * i = mul-add z n i in
      let zero_is : z * (0 + i) ≡ z * i = ap (λ j. z * j) (from_zero i) in
      let byte : place + z * (n + i) ≡ next + z * (0 + i) = omega (arith, split, zero_is, next_is) in
      ap (λ j. if bit_of bits j == 1 then Some (bytes_at file (place + z * (n + i)) z) else None) bit
      ∙ ap (λ j. if bit_of bits (skip + n + (0 + i)) == 1 then Some (bytes_at file j z) else None) byte

  pub marked_joined : HasOwned marked z 0 count at m0 m2 (a ++ b) (a' ++ b')
  marked_joined =
      let all : n + (count - n) ≡ count = omega (arith, few) in
      let inside_all : at + (n + (count - n)) ≤ 8 * length m0 = omega (arith, inside, few) in
      let joined = owned_joined marked z 0 n (count - n) at m0 m1 m2 a a' b b' long inside_all (owned_alike marked (run_layer has file place z) z 0 0 n at m0 m1 a a' first_same one)
      (owned_alike marked (marked_layer bits (skip + n) file next z) z (0 + n) 0 (count - n) (at + n) m1 m2 b b' (λ i h. ap (λ j. marked (j + i)) (from_zero n) ∙ second_same i h) two) in
      subst (λ c. HasOwned marked z 0 c at m0 m2 (a ++ b) (a' ++ b')) all joined

-- ---- added to what was found

-- nothing was read where all were found
pub adds_found : (l : chain.Layer) (z first count at : ℕ) (m a : List ℕ) → ((i : ℕ) → at ≤ i → i < at + count → bit_of m i ≡ 1) → AddsOwned l z first count at m m a a
adds_found l z first count at m a all = record {
  found = λ i h e. (e, refl);
  owned = λ i bytes h e. absurd (let one = all (at + i) (omega arith) (omega (arith, h)) in omega (arith, one, e));
  others = λ i h e. absurd (let one = all (at + i) (omega arith) (omega (arith, h)) in omega (arith, one, e));
  rest = λ k d o. refl;
  mask_len = refl;
  len = refl;
}

-- and all where none was
pub adds_owned : (l : chain.Layer) (z first count at : ℕ) (m n a b : List ℕ) → ((i : ℕ) → at ≤ i → i < at + count → bit_of m i ≡ 0) → HasOwned l z first count at m n a b → AddsOwned l z first count at m n a b
adds_owned l z first count at m n a b none h = record {
  found = λ i below e. absurd (let zero = none (at + i) (omega arith) (omega (arith, below)) in omega (arith, zero, e));
  owned = λ i bytes below e o. h.owned i bytes below o;
  others = λ i below e o. h.others i below o;
  rest = h.rest;
  mask_len = h.mask_len;
  len = h.len;
}

-- of a layer that is the same there
pub adds_alike : (l k : chain.Layer) (z first count at : ℕ) (m n a b : List ℕ) → ((i : ℕ) → i < count → l (first + i) ≡ k (first + i)) → AddsOwned k z first count at m n a b → AddsOwned l z first count at m n a b
adds_alike l k z first count at m n a b same h = record {
  found = h.found;
  owned = λ i bytes below e o. h.owned i bytes below e (sym (same i below) ∙ o);
  others = λ i below e o. h.others i below e (sym (same i below) ∙ o);
  rest = h.rest;
  mask_len = h.mask_len;
  len = h.len;
}

pub adds_none : (l : chain.Layer) (z first at : ℕ) (m a : List ℕ) → AddsOwned l z first 0 at m m a a
adds_none l z first at m a = adds_found l z first 0 at m a (λ i h k. absurd (omega (arith, h, k)))

module _ (l : chain.Layer) (z first n k at : ℕ) (m0 m1 m2 a a' b b' : List ℕ) (long : length a ≡ z * n) (inside : at + (n + k) ≤ 8 * length m0)
    (one : AddsOwned l z first n at m0 m1 a a') (two : AddsOwned l z (first + n) k (at + n) m1 m2 b b') where
  bit_one : (i : ℕ) → i < n → bit_of m2 (at + i) ≡ bit_of m1 (at + i)
  bit_one i h = two.rest (at + i) (let e = one.mask_len in omega (arith, h, inside, e)) (inl (omega (arith, h)))

  bit_two : (i : ℕ) → n ≤ i → i < n + k → bit_of m1 (at + n + (i - n)) ≡ bit_of m0 (at + i)
  bit_two i h below = ap (bit_of m1) (let e : at + n + (i - n) ≡ at + i = omega (arith, h) in e) ∙ one.rest (at + i) (omega (arith, below, inside)) (inr (omega (arith, h)))

  new_one : (i : ℕ) → i < n → bytes_at (a' ++ b') (z * i) z ≡ bytes_at a' (z * i) z
  new_one i h = bytes_within a' b' (z * i) z (let r = room z i n h in let e = one.len in omega (arith, r, long, e))

  old_one : (i : ℕ) → i < n → bytes_at (a ++ b) (z * i) z ≡ bytes_at a (z * i) z
  old_one i h = bytes_within a b (z * i) z (let r = room z i n h in omega (arith, r, long))

  parted : (i : ℕ) → n ≤ i → z * i ≡ z * n + z * (i - n)
  parted i h = ap (λ j. z * j) (let e : i ≡ n + (i - n) = omega (arith, h) in e) ∙ mul-add z n (i - n)

  new_two : (i : ℕ) → n ≤ i → bytes_at (a' ++ b') (z * i) z ≡ bytes_at b' (z * (i - n)) z
  new_two i h = bytes_past a' b' (z * i) (z * (i - n)) z (let s = parted i h in let e = one.len in omega (arith, s, long, e))

  old_two : (i : ℕ) → n ≤ i → bytes_at (a ++ b) (z * i) z ≡ bytes_at b (z * (i - n)) z
  old_two i h = bytes_past a b (z * i) (z * (i - n)) z (let s = parted i h in omega (arith, s, long))

  mask_two : (i : ℕ) → n ≤ i → bit_of m2 (at + i) ≡ bit_of m2 (at + n + (i - n))
  mask_two i h = ap (bit_of m2) (let e : at + i ≡ at + n + (i - n) = omega (arith, h) in e)

  layer_two : (i : ℕ) → n ≤ i → l (first + n + (i - n)) ≡ l (first + i)
  layer_two i h = ap l (let e : first + n + (i - n) ≡ first + i = omega (arith, h) in e)

  pub adds_joined : AddsOwned l z first (n + k) at m0 m2 (a ++ b) (a' ++ b')
  adds_joined = record {
    found = λ i below e. found_by i below e (cases_lt i n);
    owned = λ i bytes below e o. owned_by i bytes below e o (cases_lt i n);
    others = λ i below e o. others_by i below e o (cases_lt i n);
    rest = λ j d o. rest_by j d o;
    mask_len = two.mask_len ∙ one.mask_len;
    len = (let x = one.len in let y = two.len in omega (arith, x, y, length-append a b, length-append a' b'));
  } where
    found_by : (i : ℕ) → i < n + k → bit_of m0 (at + i) ≡ 1 → (i < n) ⊎ (n ≤ i) → (bit_of m2 (at + i) ≡ 1) × (bytes_at (a' ++ b') (z * i) z ≡ bytes_at (a ++ b) (z * i) z)
    found_by i below e (inl h) = let f = one.found i h e in (bit_one i h ∙ f.0, new_one i h ∙ f.1 ∙ sym (old_one i h))
    found_by i below e (inr h) = let f = two.found (i - n) (omega (arith, below, h)) (bit_two i h below ∙ e) in (mask_two i h ∙ f.0, new_two i h ∙ f.1 ∙ sym (old_two i h))

    owned_by : (i : ℕ) (bytes : List ℕ) → i < n + k → bit_of m0 (at + i) ≡ 0 → l (first + i) ≡ Some bytes → (i < n) ⊎ (n ≤ i) → (bit_of m2 (at + i) ≡ 1) × (bytes_at (a' ++ b') (z * i) z ≡ bytes)
    owned_by i bytes below e o (inl h) = let f = one.owned i bytes h e o in (bit_one i h ∙ f.0, new_one i h ∙ f.1)
    owned_by i bytes below e o (inr h) = let f = two.owned (i - n) bytes (omega (arith, below, h)) (bit_two i h below ∙ e) (layer_two i h ∙ o) in (mask_two i h ∙ f.0, new_two i h ∙ f.1)

    others_by : (i : ℕ) → i < n + k → bit_of m0 (at + i) ≡ 0 → l (first + i) ≡ None → (i < n) ⊎ (n ≤ i) → (bit_of m2 (at + i) ≡ 0) × (bytes_at (a' ++ b') (z * i) z ≡ bytes_at (a ++ b) (z * i) z)
    others_by i below e o (inl h) = let f = one.others i h e o in (bit_one i h ∙ f.0, new_one i h ∙ f.1 ∙ sym (old_one i h))
    others_by i below e o (inr h) =
        let f = two.others (i - n) (omega (arith, below, h)) (bit_two i h below ∙ e) (layer_two i h ∙ o) in (mask_two i h ∙ f.0, new_two i h ∙ f.1 ∙ sym (old_two i h))

    rest_by : (j : ℕ) → j < 8 * length m0 → (j < at) ⊎ (at + (n + k) ≤ j) → bit_of m2 j ≡ bit_of m0 j
    rest_by j d (inl x) = two.rest j (let e = one.mask_len in omega (arith, d, e)) (inl (omega (arith, x))) ∙ one.rest j d (inl x)
    rest_by j d (inr x) = two.rest j (let e = one.mask_len in omega (arith, d, e)) (inr (omega (arith, x))) ∙ one.rest j d (inr (omega (arith, x)))

pub adds_rest : (l : chain.Layer) (z first n count at : ℕ) (m0 m1 m2 out a a' b b' : List ℕ) → n ≤ count → out ≡ a ++ b → length a ≡ z * n → at + count ≤ 8 * length m0
    → AddsOwned l z first n at m0 m1 a a' → AddsOwned l z (first + n) (count - n) (at + n) m1 m2 b b' → AddsOwned l z first count at m0 m2 out (a' ++ b')
adds_rest l z first n count at m0 m1 m2 out a a' b b' few out_is long inside one two =
    let all : n + (count - n) ≡ count = omega (arith, few) in
    subst (λ (x : List ℕ). AddsOwned l z first count at m0 m2 x (a' ++ b')) (sym out_is)
    (subst (λ c. AddsOwned l z first c at m0 m2 (a ++ b) (a' ++ b')) all (adds_joined l z first n (count - n) at m0 m1 m2 a a' b b' long (omega (arith, inside, few)) one two))

-- ---- one layer on top of another

-- what the upper layer added to what was found, and then the lower one
module _ (upper lower : chain.Layer) (z first count at : ℕ) (m0 m1 m2 a b c : List ℕ) (one : AddsOwned upper z first count at m0 m1 a b) (two : AddsOwned lower z first count at m1 m2 b c) where
  of_upper : (i : ℕ) (bytes : List ℕ) → upper (first + i) ≡ Some bytes → chain.over upper lower (first + i) ≡ Some bytes
  of_upper i bytes e = ap (λ o. option_or o (lower (first + i))) e

  of_lower : (i : ℕ) → upper (first + i) ≡ None → chain.over upper lower (first + i) ≡ lower (first + i)
  of_lower i e = ap (λ o. option_or o (lower (first + i))) e

  owned_over : (i : ℕ) (bytes : List ℕ) → i < count → bit_of m0 (at + i) ≡ 0 → chain.over upper lower (first + i) ≡ Some bytes → (o : Option (List ℕ)) → upper (first + i) ≡ o → (bit_of m2 (at + i) ≡ 1) × (bytes_at c (z * i) z ≡ bytes)
  owned_over i bytes below e s (Some x) u =
      let h = one.owned i x below e u in
      let k = two.found i below h.0 in
      (k.0, k.1 ∙ h.1 ∙ some_same x bytes (sym (of_upper i x u) ∙ s))
  owned_over i bytes below e s None u = two.owned i bytes below (one.others i below e u).0 (sym (of_lower i u) ∙ s)

  others_over : (i : ℕ) → i < count → bit_of m0 (at + i) ≡ 0 → chain.over upper lower (first + i) ≡ None → (o : Option (List ℕ)) → upper (first + i) ≡ o → (bit_of m2 (at + i) ≡ 0) × (bytes_at c (z * i) z ≡ bytes_at a (z * i) z)
  others_over i below e s (Some x) u = absurd (let f = sym (of_upper i x u) ∙ s in cc)
  others_over i below e s None u =
      let h = one.others i below e u in
      let k = two.others i below h.0 (sym (of_lower i u) ∙ s) in
      (k.0, k.1 ∙ h.1)

  pub adds_over : AddsOwned (chain.over upper lower) z first count at m0 m2 a c
  adds_over = record {
    found = λ i below e. let h = one.found i below e in let k = two.found i below h.0 in (k.0, k.1 ∙ h.1);
    owned = λ i bytes below e s. owned_over i bytes below e s (upper (first + i)) refl;
    others = λ i below e s. others_over i below e s (upper (first + i)) refl;
    rest = λ k d o. two.rest k (let e = one.mask_len in omega (arith, d, e)) o ∙ one.rest k d o;
    mask_len = two.mask_len ∙ one.mask_len;
    len = two.len ∙ one.len;
  }

-- ---- where none of the sectors was found

module _ (l : chain.Layer) (z first count at : ℕ) (m n a b : List ℕ) (none : NoneFound count at m) (h : AddsOwned l z first count at m n a b) (i : ℕ) (below : i < count) where
  told_by : (o : Option (List ℕ)) → l (first + i) ≡ o → o ≡ told_sector z at n b i
  told_by (Some x) e = let k = h.owned i x below (none i below) e in sym (ap (λ v. if v == 1 then Some (bytes_at b (z * i) z) else None) k.0 ∙ ap Some k.1)
  told_by None e = let k = h.others i below (none i below) e in sym (ap (λ v. if v == 1 then Some (bytes_at b (z * i) z) else None) k.0)

  pub adds_tell : l (first + i) ≡ told_sector z at n b i
  adds_tell = told_by (l (first + i)) refl

  bytes_by : (o : Option (List ℕ)) → l (first + i) ≡ o → bytes_at b (z * i) z ≡ unwrap_or o (bytes_at a (z * i) z)
  bytes_by (Some x) e = (h.owned i x below (none i below) e).1
  bytes_by None e = (h.others i below (none i below) e).1

  pub adds_bytes : bytes_at b (z * i) z ≡ unwrap_or (l (first + i)) (bytes_at a (z * i) z)
  adds_bytes = bytes_by (l (first + i)) refl

pub layers_are_added : LayersAreAdded
layers_are_added = record {
  over = λ upper lower z first count at m0 m1 m2 a b c one two. adds_over upper lower z first count at m0 m1 m2 a b c one two;
  tells = λ l z first count at m n a b none h i below. adds_tell l z first count at m n a b none h i below;
  bytes = λ l z first count at m n a b none h i below. adds_bytes l z first count at m n a b none h i below;
}
