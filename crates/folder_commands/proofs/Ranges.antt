-- Which ranges a read gives, and what refuses the others.
use Rattle.std.proofs.Common.{◌≡◌, ◌+◌, ◌<◌, ◌≤◌, ℕ, Bool, true, false, Result, Ok, Err, refl, arith}
use Rattle.std.specs.Prelude.{◌==◌, nat_lt, if◌then◌else◌}
use Rattle.guest_model.specs.Ranges.{range_refusal}
use Rattle.guest_model.specs.declared.refusal.ChainRefusal.{ChainRefusal}
use Rattle.guest_model.specs.declared.refusal.ChainRefusal.TheVariants.{EmptyRange, OutOfRange, TooLong}

module _ (first count limit sectors : ℕ) where
  abbrev judged : Bool → Bool → Bool → Result (Unit {0}) ChainRefusal
  judged a b c = if a then Err EmptyRange else if b then Err (TooLong count limit) else if c then Err (OutOfRange first count sectors) else Ok tt

  pub range_given : 0 < count → count ≤ limit → first + count ≤ sectors → range_refusal first count limit sectors ≡ Ok tt
  range_given some most within =
      let a : (count == 0) ≡ false = grind (arith, some) in
      let b : nat_lt limit count ≡ false = grind (arith, most) in
      let c : nat_lt sectors (first + count) ≡ false = grind (arith, within) in
      rw (a, b, c) refl

  pub range_beyond : 0 < count → count ≤ limit → sectors < first + count → range_refusal first count limit sectors ≡ Err (OutOfRange first count sectors)
  range_beyond some most past =
      let a : (count == 0) ≡ false = grind (arith, some) in
      let b : nat_lt limit count ≡ false = grind (arith, most) in
      let c : nat_lt sectors (first + count) ≡ true = grind (arith, past) in
      rw (a, b, c) refl

  -- a range that is given has a sector, no more than the limit, and ends on the disk
  pub range_is : range_refusal first count limit sectors ≡ Ok tt → (0 < count) × (count ≤ limit) × (first + count ≤ sectors)
  range_is is = go (count == 0) (nat_lt limit count) (nat_lt sectors (first + count)) refl refl refl is
    where
      go : (a b c : Bool) → (count == 0) ≡ a → nat_lt limit count ≡ b → nat_lt sectors (first + count) ≡ c → judged a b c ≡ Ok tt → (0 < count) × (count ≤ limit) × (first + count ≤ sectors)
      go true b c x y z h = cc
      go false true c x y z h = cc
      go false false true x y z h = cc
      go false false false x y z h = (grind (arith, x), grind (arith, y), grind (arith, z))
