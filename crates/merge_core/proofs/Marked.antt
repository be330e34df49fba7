-- Marks as they are kept, once a run of bits was changed.
use Rattle.std.proofs.Common.{◌≡◌, ◌≢◌, ℕ, ◌+◌, ◌-◌, ◌*◌, ◌<◌, ◌≤◌, ◌/◌, ◌%◌, ◌==◌, ◌&&◌, ◌||◌, ◌⊎◌, inl, inr, Bool, true, false, List, length, ap, sym, subst, ◌∙◌, arith}
use Rattle.std.specs.Prelude.{not, nat_le}
use Rattle.std.proofs.lemmas.Bool.{cases_lt, le-leb, lt-leb, eq-eqb, ne_eqb, and_right}
use Rattle.std.proofs.lemmas.List.{get_or_past}
use Rattle.std.proofs.lemmas.Nat.Bits.{bit_at-zero}
use Rattle.vhdx_format.specs.SectorBitmaps.{HasRunSet, bit_of, bit_value}

-- what the fields promise
pub record AreKept (bits : List ℕ) (stripes low gap until : ℕ) : Type 0 where
  pub sized : stripes ≤ 8 * length bits
  pub within : low ≤ stripes
  pub below : (t : ℕ) → t < low → bit_of bits t ≡ 1
  pub bounds : until ≤ stripes
  pub behind : (t : ℕ) → gap ≤ t → t < until → bit_of bits t ≡ 1
  pub stops : low < stripes → bit_of bits low ≢ 1

module _ (old new : List ℕ) (first count : ℕ) (on : Bool) (ran : HasRunSet old new first count on) where
  pub inside : (t : ℕ) → t < 8 * length old → first ≤ t → t < first + count → bit_of new t ≡ bit_value on
  inside t lt from to = let h = ran t lt in grind (arith, h, from, to)

  pub before : (t : ℕ) → t < 8 * length old → t < first → bit_of new t ≡ bit_of old t
  before t lt out = let h = ran t lt in grind (arith, h, out)

  pub behind_run : (t : ℕ) → t < 8 * length old → first + count ≤ t → bit_of new t ≡ bit_of old t
  behind_run t lt out = let h = ran t lt in grind (arith, h, out)

-- the marks from `first` to `last` were taken away
module _ (old new : List ℕ) (same : length new ≡ length old) (stripes low gap until first last : ℕ) (kept : AreKept old stripes low gap until) (order : first ≤ last) (there : last < stripes) (ran : HasRunSet old new first (last - first + 1) false) where
  bits : (t : ℕ) → t < stripes → t < 8 * length old
  bits t lt = omega (arith, lt, kept.sized)

  run_end : first + (last - first + 1) ≡ last + 1
  run_end = omega (arith, order)

  cleared : (t : ℕ) → first ≤ t → t ≤ last → bit_of new t ≡ 0
  cleared t from to = inside old new first (last - first + 1) false ran t (bits t (omega (arith, to, there))) from (omega (arith, run_end, to))

  left : (t : ℕ) → t < stripes → t < first → bit_of new t ≡ bit_of old t
  left t lt out = before old new first (last - first + 1) false ran t (bits t lt) out

  right : (t : ℕ) → t < stripes → last + 1 ≤ t → bit_of new t ≡ bit_of old t
  right t lt out = behind_run old new first (last - first + 1) false ran t (bits t lt) (omega (arith, run_end, out))

  sized_now : stripes ≤ 8 * length new
  sized_now = omega (arith, same, kept.sized)

  not_set : (t : ℕ) → bit_of new t ≡ 0 → bit_of new t ≢ 1
  not_set t none = subst (λ (b : ℕ). b ≢ 1) (sym none) (λ never. cc)

  pub below_low : first < low → AreKept new stripes first (last + 1) low
  below_low lt = record {
    sized = sized_now;
    within = omega (arith, lt, kept.within);
    below = λ t t_lt. left t (omega (arith, t_lt, lt, kept.within)) t_lt ∙ kept.below t (omega (arith, t_lt, lt));
    bounds = kept.within;
    behind = λ t from to. right t (omega (arith, to, kept.within)) from ∙ kept.below t to;
    stops = λ some. not_set first (cleared first (omega arith) order);
  }

  low_stops : low ≤ first → low < stripes → bit_of new low ≢ 1
  low_stops le some = by (cases_lt low first)
    where
      by : (low < first) ⊎ (first ≤ low) → bit_of new low ≢ 1
      by (inl lt) = λ set. kept.stops some (sym (left low some lt) ∙ set)
      by (inr ge) = not_set low (cleared low ge (omega (arith, le, order)))

  pub in_gap : low ≤ first → (m : ℕ) → gap ≤ m → last + 1 ≤ m → AreKept new stripes low m until
  in_gap le m gap_le last_le = record {
    sized = sized_now;
    within = kept.within;
    below = λ t t_lt. left t (omega (arith, t_lt, kept.within)) (omega (arith, t_lt, le)) ∙ kept.below t t_lt;
    bounds = kept.bounds;
    behind = λ t from to. right t (omega (arith, to, kept.bounds)) (omega (arith, from, last_le)) ∙ kept.behind t (omega (arith, gap_le, from)) to;
    stops = low_stops le;
  }

  pub behind_all : low ≤ first → until ≤ first → AreKept new stripes low gap until
  behind_all le out = record {
    sized = sized_now;
    within = kept.within;
    below = λ t t_lt. left t (omega (arith, t_lt, kept.within)) (omega (arith, t_lt, le)) ∙ kept.below t t_lt;
    bounds = kept.bounds;
    behind = λ t from to. left t (omega (arith, to, kept.bounds)) (omega (arith, to, out)) ∙ kept.behind t from to;
    stops = low_stops le;
  }

-- a stripe was marked
module _ (old new : List ℕ) (same : length new ≡ length old) (stripes low gap until stripe : ℕ) (kept : AreKept old stripes low gap until) (there : stripe < stripes) (ran : HasRunSet old new stripe 1 true) where
  within_bits : (t : ℕ) → t < stripes → t < 8 * length old
  within_bits t lt = omega (arith, lt, kept.sized)

  -- what was marked is marked still, and the stripe is
  still : (t : ℕ) → t < stripes → (t ≢ stripe → bit_of old t ≡ 1) → bit_of new t ≡ 1
  still t lt was = by (cases_lt t stripe)
    where
      by : (t < stripe) ⊎ (stripe ≤ t) → bit_of new t ≡ 1
      by (inl less) = before old new stripe 1 true ran t (within_bits t lt) less ∙ was (λ e. omega (arith, e, less))
      by (inr more) = by_end (cases_lt stripe t)
        where
          by_end : (stripe < t) ⊎ (t ≤ stripe) → bit_of new t ≡ 1
          by_end (inl behind) = behind_run old new stripe 1 true ran t (within_bits t lt) (omega (arith, behind)) ∙ was (λ e. omega (arith, e, behind))
          by_end (inr is) = inside old new stripe 1 true ran t (within_bits t lt) more (omega (arith, is))

  pub behind_still : (t : ℕ) → gap ≤ t → t < until → bit_of new t ≡ 1
  behind_still t from to = still t (omega (arith, to, kept.bounds)) (λ other. kept.behind t from to)

  pub marked_low : stripe ≡ low → (next : ℕ) → stripe + 1 ≤ next → next ≤ stripes → ((t : ℕ) → stripe + 1 ≤ t → t < next → bit_of new t ≡ 1) → (next < stripes → bit_of new next ≢ 1) → AreKept new stripes next gap until
  marked_low is next from to set stops = record {
    sized = omega (arith, same, kept.sized);
    within = to;
    below = λ t lt. by t lt (cases_lt stripe t);
    bounds = kept.bounds;
    behind = behind_still;
    stops = stops;
  }
    where
      by : (t : ℕ) → t < next → (stripe < t) ⊎ (t ≤ stripe) → bit_of new t ≡ 1
      by t lt (inl more) = set t (omega (arith, more)) lt
      by t lt (inr le) = still t (omega (arith, le, there)) (λ other. kept.below t (omega (arith, le, is, other)))

  pub marked_other : stripe ≢ low → AreKept new stripes low gap until
  marked_other other = record {
    sized = omega (arith, same, kept.sized);
    within = kept.within;
    below = λ t lt. still t (omega (arith, lt, kept.within)) (λ apart. kept.below t lt);
    bounds = kept.bounds;
    behind = behind_still;
    stops = λ some. by some (cases_lt low stripe);
  }
    where
      by : low < stripes → (low < stripe) ⊎ (stripe ≤ low) → bit_of new low ≢ 1
      by some (inl less) = λ set. kept.stops some (sym (before old new stripe 1 true ran low (within_bits low some) less) ∙ set)
      by some (inr ge) = λ set. kept.stops some (sym (behind_run old new stripe 1 true ran low (within_bits low some) (omega (arith, ge, other))) ∙ set)

-- past the end no bit is set
past_end : (bytes : List ℕ) (t : ℕ) → 8 * length bytes ≤ t → bit_of bytes t ≡ 0
past_end bytes t past = rw (get_or_past bytes (t / 8) 0 (omega (arith, past))) (bit_at-zero (t % 8))

-- the marks from `first` to `last` are gone, and no other
unmarked : (old new : List ℕ) → length new ≡ length old → (first last : ℕ) → first ≤ last → HasRunSet old new first (last - first + 1) false
    → (t : ℕ) → (bit_of new t == 1) ≡ (not (nat_le first t && nat_le t last) && (bit_of old t == 1))
unmarked old new same first last order ran t = by (cases_lt t (8 * length old))
  where
    by_place : t < 8 * length old → (t < first) ⊎ (first ≤ t) → (last < t) ⊎ (t ≤ last) → (bit_of new t == 1) ≡ (not (nat_le first t && nat_le t last) && (bit_of old t == 1))
    by_place lt (inl less) ends = rw (lt-leb first t less) (ap (λ (b : ℕ). b == 1) (before old new first (last - first + 1) false ran t lt less))
    by_place lt (inr ge) (inl more) = rw (le-leb first t ge, lt-leb t last more) (ap (λ (b : ℕ). b == 1) (behind_run old new first (last - first + 1) false ran t lt (omega (arith, order, more))))
    by_place lt (inr ge) (inr le) = rw (le-leb first t ge, le-leb t last le) (ap (λ (b : ℕ). b == 1) (inside old new first (last - first + 1) false ran t lt ge (omega (arith, order, le))))

    by : (t < 8 * length old) ⊎ (8 * length old ≤ t) → (bit_of new t == 1) ≡ (not (nat_le first t && nat_le t last) && (bit_of old t == 1))
    by (inl lt) = by_place lt (cases_lt t first) (cases_lt last t)
    by (inr past) = ap (λ (b : ℕ). b == 1) (past_end new t (omega (arith, same, past)))
        ∙ sym (and_right (not (nat_le first t && nat_le t last)) (bit_of old t == 1) (ap (λ (b : ℕ). b == 1) (past_end old t past)))

-- the stripe's mark is set, and no other changed
marked : (old new : List ℕ) → length new ≡ length old → (stripe : ℕ) → stripe < 8 * length old → HasRunSet old new stripe 1 true
    → (t : ℕ) → (bit_of new t == 1) ≡ ((t == stripe) || (bit_of old t == 1))
marked old new same stripe there ran t = by (cases_lt t (8 * length old))
  where
    by_place : t < 8 * length old → (t < stripe) ⊎ (stripe ≤ t) → (stripe < t) ⊎ (t ≤ stripe) → (bit_of new t == 1) ≡ ((t == stripe) || (bit_of old t == 1))
    by_place lt (inl less) ends = rw (ne_eqb t stripe (λ e. omega (arith, e, less))) (ap (λ (b : ℕ). b == 1) (before old new stripe 1 true ran t lt less))
    by_place lt (inr ge) (inl more) = rw (ne_eqb t stripe (λ e. omega (arith, e, more))) (ap (λ (b : ℕ). b == 1) (behind_run old new stripe 1 true ran t lt (omega (arith, more))))
    by_place lt (inr ge) (inr le) = rw (eq-eqb t stripe (omega (arith, ge, le))) (ap (λ (b : ℕ). b == 1) (inside old new stripe 1 true ran t lt ge (omega (arith, le))))

    by : (t < 8 * length old) ⊎ (8 * length old ≤ t) → (bit_of new t == 1) ≡ ((t == stripe) || (bit_of old t == 1))
    by (inl lt) = by_place lt (cases_lt t stripe) (cases_lt stripe t)
    by (inr past) = rw (ne_eqb t stripe (λ e. omega (arith, e, past, there)))
        (ap (λ (b : ℕ). b == 1) (past_end new t (omega (arith, same, past))) ∙ sym (ap (λ (b : ℕ). b == 1) (past_end old t past)))

-- the same of bytes that were lent as `seen` and are shown as `shown`
pub marks_left : (old seen new shown : List ℕ) → seen ≡ old → shown ≡ new → length new ≡ length seen → (first last : ℕ) → first ≤ last → HasRunSet seen new first (last - first + 1) false
    → (t : ℕ) → (bit_of shown t == 1) ≡ (not (nat_le first t && nat_le t last) && (bit_of old t == 1))
marks_left old seen new shown lent is same first last order ran t =
    ap (λ (bits : List ℕ). bit_of bits t == 1) is
    ∙ unmarked seen new same first last order ran t
    ∙ ap (λ (bits : List ℕ). not (nat_le first t && nat_le t last) && (bit_of bits t == 1)) lent

pub marks_added : (old seen new shown : List ℕ) → seen ≡ old → shown ≡ new → length new ≡ length seen → (stripe stripes : ℕ) → stripe < stripes → stripes ≤ 8 * length old → HasRunSet seen new stripe 1 true
    → (t : ℕ) → (bit_of shown t == 1) ≡ ((t == stripe) || (bit_of old t == 1))
marks_added old seen new shown lent is same stripe stripes there sized ran t =
    ap (λ (bits : List ℕ). bit_of bits t == 1) is
    ∙ marked seen new same stripe (let long : length seen ≡ length old = ap length lent in omega (arith, there, sized, long)) ran t
    ∙ ap (λ (bits : List ℕ). (t == stripe) || (bit_of bits t == 1)) lent
