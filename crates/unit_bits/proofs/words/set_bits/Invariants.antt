use Rattle.std.proofs.Common.{◌≡◌, ℕ, ◌-◌, ◌<◌, ◌≤◌, ◌&&◌, nat_le, nat_lt, if◌then◌else◌}
use Rattle.unit_bits.specs.Words.{bit_of}
use Rattle.unit_bits.proofs.words.set_bits.Given as goal

-- the bits so far are set, and whether one of them was is known
abbrev pub invariant-loop-at : goal.invariant-loop-at
invariant-loop-at l =
    record {
      after : l.from ≤ l.at;
      to : l.at ≤ l.to;
      set : (t : ℕ) → bit_of l.words t ≡ (if nat_le l.from t && nat_lt t l.at then 1 else bit_of l.fn.words t);
      none : l.met ≡ 0 → (t : ℕ) → l.from ≤ t → t < l.at → bit_of l.fn.words t ≡ 0;
      some : ((t : ℕ) → l.from ≤ t → t < l.at → bit_of l.fn.words t ≡ 0) → l.met ≡ 0;
    }

abbrev pub decreases-loop-at : goal.decreases-loop-at
decreases-loop-at l = l.to - l.at
