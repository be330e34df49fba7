-- The sectors of a stripe that a disk has.
use Rattle.std.specs.Prelude.{◌≡◌, ◌<◌, ℕ, ◌+◌, ◌-◌, ◌*◌, ◌/◌, ◌==◌, if◌then◌else◌, Bool, true, [], ◌∷◌, ◌++◌, length, min, nat_le, ◌&&◌}
use Rattle.guest_model.specs.declared.call.Call.{Call}
use Rattle.guest_model.specs.declared.call.Entry.{Entry}
use Rattle.guest_model.specs.Calls.{changes, first_sector, sector_count}
use Rattle.guest_model.specs.History.{History}
use Rattle.chain_model.specs.Merges.{marks_after}
use Rattle.chain_model.specs.Stripes.{per_stripe, stamp, stripe_count, stripe_of, touches}
use Rattle.merge_core.specs.Copied.{without_marks}
use Rattle.merge_core.specs.Stamping.{with_stamps}

-- how many sectors of a stripe a disk of n sectors of z bytes has
abbrev pub range_count : ℕ → ℕ → ℕ → ℕ
range_count stripe z n = min (per_stripe z) (n - stripe * per_stripe z)

-- how many stripes from this one on have all their sectors among so many from its first one on, on a disk of n sectors of z bytes
abbrev pub whole_stripes : ℕ → ℕ → ℕ → ℕ → ℕ
whole_stripes from count z n = if from * per_stripe z + count == n then stripe_count z n - from else count / per_stripe z

-- the first and the last stripe of which a call has a sector
abbrev pub first_touched : ℕ → Call → ℕ
first_touched z call = stripe_of z (first_sector call)

abbrev pub last_touched : ℕ → Call → ℕ
last_touched z call = stripe_of z (first_sector call + sector_count z call - 1)

-- A Write or a Trim of some sectors touches those stripes: it takes their marks away, and gives them its place as their stamp.
pub record CallsTouchRanges : Type 0 where
  pub range : (z : ℕ) (call : Call) (t : ℕ) → 0 < per_stripe z → changes call ≡ true → 0 < sector_count z call → touches z call t ≡ (nat_le (first_touched z call) t && nat_le t (last_touched z call))
  pub marks : (z : ℕ) (call : Call) (marks : ℕ → Bool) (t : ℕ) → 0 < per_stripe z → changes call ≡ true → 0 < sector_count z call
      → marks_after z call marks t ≡ without_marks (first_touched z call) (last_touched z call) marks t
  pub stamps : (z : ℕ) (h : History) (e : Entry) (t : ℕ) → 0 < per_stripe z → changes e.call ≡ true → 0 < sector_count z e.call
      → stamp z (h ++ e ∷ []) t ≡ with_stamps (first_touched z e.call) (last_touched z e.call) (length h + 1) (stamp z h) t
