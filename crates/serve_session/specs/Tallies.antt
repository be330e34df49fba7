-- What guests' calls come to: what their reads saw, and the first refusal that one of them was told (profile).
use Rattle.std.specs.Prelude.{◌≡◌, ◌*◌, ◌^◌, ◌++◌, ◌∷◌, ◌≤◌, if◌then◌else◌, ℕ, List, [], length, sum_by, Option, None, Some, Result, Ok, Err}
use Rattle.std.specs.List.{flat_map}
use Rattle.guest_model.specs.declared.call.Reply.{Reply}
use Rattle.guest_model.specs.declared.refusal.ChainRefusal.{ChainRefusal}
use Rattle.guest_model.specs.declared.refusal.ChainRefusal.TheVariants as refusals
use Rattle.guest_io.specs.declared.placed.Placed.{Placed}
use Rattle.load_calls.specs.Printed.{seen_in}
use Rattle.serve_session.specs.Asking.{is_want, outcome_of}
use Rattle.serve_session.specs.Served.{Outcome}
use Rattle.serve_session.specs.declared.tally.Tally.{Tally}

-- the sum of the first bytes of the sectors that a call answered, if it is a read that was answered
abbrev pub seen_of : Outcome → ℕ
seen_of (Ok (place, Ok reply)) = seen_in reply
seen_of (Ok (place, Err fault)) = 0
seen_of (Err refusal) = 0

-- the first refusal among what calls were told
abbrev pub first_refused : List Outcome → Option ChainRefusal
first_refused [] = None
first_refused (Ok done ∷ outcomes) = first_refused outcomes
first_refused (Err refusal ∷ outcomes) = Some refusal

-- what all guests were told, guest after guest
abbrev pub all_outcomes : List (List Outcome) → List Outcome
all_outcomes guests = flat_map (λ outcomes. outcomes) guests

-- The tally of what calls were told, of which each sees 2,048 sectors at most.
pub record AddsUp (tally : Tally) (outcomes : List Outcome) : Type 0 where
  pub seen : tally.seen ≡ sum_by seen_of outcomes
  pub refused : tally.refused ≡ first_refused outcomes
  pub few : tally.seen ≤ 2 ^ 19 * length outcomes

-- of no call
abbrev pub no_tally : Tally
no_tally = record { seen = 0; refused = None }

-- ---- of the code

-- what refused a call, if memory didn't run out for it
abbrev pub refused_by : Result Placed ChainRefusal → Option ChainRefusal
refused_by (Ok placed) = None
refused_by (Err refusals.NoRoom) = None
refused_by (Err refusal) = Some refusal

-- what calls were told, with one more that was answered so, if memory didn't run out for it
abbrev pub with_outcome : List Outcome → Reply → Result Placed ChainRefusal → List Outcome
with_outcome outcomes r answer = if is_want answer then outcomes else outcomes ++ outcome_of r answer ∷ []
