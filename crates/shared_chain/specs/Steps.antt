-- The steps of a chain's history, as its lock tells it.
use Rattle.std.specs.Prelude.{◌+◌, ◌&&◌, ℕ, Bool, false, nat_le, nat_lt, List, [], ◌∷◌, ◌++◌, ◌/◌, length, map, Option, Some, None, Result, Err}
use Rattle.guest_model.specs.declared.call.Call.{Call}
use Rattle.guest_model.specs.declared.call.Call.TheVariants.{Flush, Read, Trim, Write}
use Rattle.guest_model.specs.declared.call.Caller.{Caller}
use Rattle.guest_model.specs.declared.refusal.ChainRefusal.{ChainRefusal}
use Rattle.guest_model.specs.declared.refusal.ChainRefusal.TheVariants as refusals
use Rattle.guest_model.specs.Calls.{first_sector}
use Rattle.guest_model.specs.History.{History}
use Rattle.shared_chain.specs.declared.basis.Breach.{Breach}
use Rattle.shared_chain.specs.declared.basis.Step.{Step}
use Rattle.shared_chain.specs.declared.basis.Step.TheVariants.{Broke, Done}

-- the calls that were done
abbrev pub done_steps : History → List Step
done_steps h = map (λ e. Done e) h

abbrev pub broke_step : Option Breach → List Step
broke_step None = []
broke_step (Some b) = Broke b ∷ []

-- and behind them the call that broke the session, if one did
abbrev pub steps_of : History → Option Breach → List Step
steps_of h broke = done_steps h ++ broke_step broke

-- how many sectors a call changes, of 512 bytes
abbrev pub changed_count : Call → ℕ
changed_count (Read first count) = 0
changed_count (Write first bytes) = length bytes / 512
changed_count (Trim first count) = count
changed_count Flush = 0

-- a caller's call as one that breaks the session
abbrev pub breach_of : Caller → Call → Breach
breach_of who call = record { guest = who.guest; no = who.no; first = first_sector call; count = changed_count call }

-- a step of a merge that breaks the session, as what broke it: it is no guest's call, and names no sector
abbrev pub merge_breach : Breach
merge_breach = record { guest = 0; no = 0; first = 0; count = 0 }

-- the sectors that the call names which broke a session, if one did: behind the whole history a crash may leave anything in them
abbrev pub open_by : Option Breach → ℕ → Bool
open_by None s = false
open_by (Some b) s = nat_le b.first s && nat_lt s (b.first + b.count)

-- of two calls the first breaks a session
abbrev pub first_breach : Option Breach → Breach → Breach
first_breach None b = b
first_breach (Some earlier) b = earlier

-- what has broken the session behind a call's answer: a call that is told so first
abbrev pub broke_after : Option Breach → Breach → Result ℕ ChainRefusal → Option Breach
broke_after broke b (Err (refusals.Broken file count)) = Some (first_breach broke b)
broke_after broke b other = broke
