-- How a session answers the steps of a merge that a script's lines ask for, for every store.
use Rattle.std.specs.Prelude.{◌≡◌, ◌+◌, ◌<◌, ◌≤◌, ◌^◌, ℕ, false, is_some, Some, None, Result, Ok, Err, OnErr, OnOk}
use Rattle.guest_model.specs.declared.refusal.ChainRefusal.{ChainRefusal}
use Rattle.merge_core.specs.declared.piece.Piece.{Piece}
use Rattle.chain_core.specs.Copying.{FetchCause, FetchTold, IfStopped, IsMissing, IsOfStripe, PieceTold, PutCause, TargetRoomIs, fetch_refused, merge_refused, put_refused, stamp_of}
use Rattle.chain_core.specs.Finished.{FinishCause, FinishTold}
use Rattle.chain_core.specs.Sessions.{IsSound, KeepsMerge, Session, kept_marks}
use Rattle.chain_core.specs.Skipping.{HasPassed, SkipTold}
use Rattle.chain_model.specs.Stripes.{stripe_count}

-- only the count of events may be another
abbrev pub IsUnchanged : Session → Session → Type 0
IsUnchanged old new = new ≡ record old { events = new.events }

-- what each step of a merge leaves of a session
pub record KeepsHistory (old new : Session) : Type 0 where
  pub noted : new.noted ≡ old.noted
  pub told : new.told ≡ old.told
  pub geometry : new.layers.geometry ≡ old.layers.geometry
  pub session : is_some new.layers.leaf ≡ is_some old.layers.leaf

-- A stripe was fetched, so that a piece of it is left to be put; or the fetch was refused, and no piece is left.
pub record AnswersFetch (stripe : ℕ) (answer : Result ℕ ChainRefusal) (old new : Session) (left : Piece) : Type 0 where
  pub sound : IsSound old
  pub early : IfStopped (fetch_refused stripe old) answer (IsUnchanged old new)
  pub cause : fetch_refused stripe old ≡ None → FetchCause old new left answer
  pub taken : OnOk answer (IsOfStripe old.layers.geometry stripe (stamp_of old.layers stripe) left)
  pub emptied : OnErr answer (left.filled ≡ false)
  pub told : fetch_refused stripe old ≡ None → FetchTold left old new answer
  pub keeps : KeepsHistory old new
  pub merge : KeepsMerge old.layers new.layers
  pub events : new.events ≤ old.events + 1
  pub later : old.events ≤ new.events

-- A piece was put, or the put was refused.
pub record AnswersPut (piece : Piece) (answer : Result (Unit {0}) ChainRefusal) (old new : Session) : Type 0 where
  pub sound : IsSound old
  pub early : IfStopped (put_refused piece old) answer (IsUnchanged old new)
  pub cause : put_refused piece old ≡ None → PutCause piece old new answer
  pub room : put_refused piece old ≡ None → TargetRoomIs piece old.layers old.disk answer
  pub told : put_refused piece old ≡ None → PieceTold piece old new answer
  pub keeps : KeepsHistory old new
  pub events : new.events ≤ old.events + 1
  pub later : old.events ≤ new.events

-- A turn of a copy: a stripe was fetched and put, or the first of both that was refused ended it. A look at what can be passed over is refused
-- as a fetch is.
pub data AnswersTurn (stripe : ℕ) : Result (Unit {0}) ChainRefusal → Session → Session → Type 0 where
  not_fetched : (e : ChainRefusal) (old new : Session) (left : Piece) → AnswersFetch stripe (Err e) old new left → AnswersTurn stripe (Err e) old new
  fetched_and : (answer : Result (Unit {0}) ChainRefusal) (stamp : ℕ) (old mid new : Session) (piece : Piece)
      → AnswersFetch stripe (Ok stamp) old mid piece → AnswersPut piece answer mid new → AnswersTurn stripe answer old new

-- Stripes from one on were passed over, as many as this: the source has nothing of them, and they count as copied.
pub record AnswersSkip (stripe n : ℕ) (old new : Session) : Type 0 where
  pub sound : IsSound old
  pub fit : fetch_refused stripe old ≡ None
  pub passed : HasPassed stripe n old.layers new.layers
  pub there : stripe + n ≤ stripe_count old.layers.geometry.sector old.layers.geometry.sectors
  pub few : stripe + n ≤ 2 ^ 26
  pub told : SkipTold stripe old new (Ok n)
  pub keeps : KeepsHistory old new
  pub disk : new.disk ≡ old.disk
  pub whole : new.broken ≡ None
  pub events : new.events ≡ old.events

-- it is the lowest stripe that isn't copied
pub record IsNext (stripe : ℕ) (s : Session) : Type 0 where
  pub missing : IsMissing (kept_marks s.layers) (Some stripe)
  pub low : stripe < 2 ^ 32

-- Turns were done one after the other, each with the lowest stripe that wasn't copied then; or from that on stripes were passed over. Behind
-- it no piece is left.
pub data AnswersTurns (old : Session) (slot : Piece) : Session → Piece → Type 0 where
  no_turn : AnswersTurns old slot old slot
  passed_over : (stripe n : ℕ) (mid new : Session) (held left : Piece)
      → AnswersTurns old slot mid held → IsNext stripe mid → AnswersSkip stripe n mid new → left.filled ≡ false → AnswersTurns old slot new left
  one_more : (stripe : ℕ) (mid new : Session) (held left : Piece)
      → AnswersTurns old slot mid held → IsNext stripe mid → AnswersTurn stripe (Ok tt) mid new → left.filled ≡ false → AnswersTurns old slot new left

-- A copy ends when no stripe is missing, or with the first turn that is refused.
pub data EndsCopy (old : Session) (slot : Piece) : Result (Unit {0}) ChainRefusal → Session → Piece → Type 0 where
  all_moved : (new : Session) (left : Piece) → AnswersTurns old slot new left → IsSound new → IsMissing (kept_marks new.layers) None → EndsCopy old slot (Ok tt) new left
  one_refused : (e : ChainRefusal) (stripe : ℕ) (mid new : Session) (held left : Piece)
      → AnswersTurns old slot mid held → IsNext stripe mid → AnswersTurn stripe (Err e) mid new → left.filled ≡ false → EndsCopy old slot (Err e) new left

-- Where no merge is under way, in a session that takes calls, a copy is refused.
pub record AnswersCopy (answer : Result (Unit {0}) ChainRefusal) (old : Session) (slot : Piece) (new : Session) (left : Piece) : Type 0 where
  pub sound : IsSound old
  pub early : IfStopped (merge_refused old) answer ((new ≡ old) × (left ≡ slot))
  pub turns : merge_refused old ≡ None → EndsCopy old slot answer new left

-- A finish was answered: the merge is finished, or the lowest stripe is told that isn't copied, or a change failed.
pub record AnswersFinish (answer : Result (Unit {0}) ChainRefusal) (old new : Session) : Type 0 where
  pub sound : IsSound old
  pub early : IfStopped (merge_refused old) answer (IsUnchanged old new)
  pub cause : merge_refused old ≡ None → FinishCause old new answer (IsUnchanged old new)
  pub told : merge_refused old ≡ None → FinishTold old new answer
  pub keeps : KeepsHistory old new
  pub events : new.events ≤ old.events + 1
  pub later : old.events ≤ new.events
