-- How a session answers a list of events, for every store.
use Rattle.std.specs.Prelude.{Bool, if◌then◌else◌, ◌≡◌, ⊤, ℕ, ◌<◌, false, is_some, List, [], ◌∷◌, ◌++◌, slice_get, slice_set, Some, Result, Ok, Err}
use Rattle.guest_model.specs.declared.call.Call.{Call}
use Rattle.guest_model.specs.declared.call.Caller.{Caller}
use Rattle.guest_model.specs.declared.refusal.ChainRefusal.{ChainRefusal}
use Rattle.merge_core.specs.declared.piece.Piece.{Piece}
use Rattle.chain_core.specs.Answering.{AnswersTold, HasRoom, Notes}
use Rattle.chain_core.specs.Copying.{MergeFollows}
use Rattle.chain_core.specs.Events.{HasWholeSectors, IsCaused, RepliesBy, placed}
use Rattle.chain_core.specs.Refusing.{IfRefused, counted}
use Rattle.chain_core.specs.Sessions.{IsSound, Session, leaf_number}
use Rattle.chain_core.specs.declared.answer.Answer.{Answer}
use Rattle.chain_core.specs.declared.answer.Answer.TheVariants as answers
use Rattle.script_session.specs.MergeSteps.{AnswersFetch, AnswersFinish, AnswersPut, IsUnchanged}
use Rattle.event_list.specs.declared.event.Event.{Event}
use Rattle.event_list.specs.declared.event.Event.TheVariants.{Guest, Fetch, Put, Finish}
use Rattle.event_list.specs.declared.event.EventAnswer.{EventAnswer}
use Rattle.event_list.specs.declared.event.EventAnswer.TheVariants.{Reply, Stamp, Copied, Finished, Refused}

-- ---- what may be asked

-- the slot that an event names, if it names one, is below this number
abbrev pub IsBelow : ℕ → Event → Type 0
IsBelow most (Guest who call) = ⊤
IsBelow most (Fetch slot stripe) = slot < most
IsBelow most (Put slot) = slot < most
IsBelow most Finish = ⊤

-- a write that an event asks for has whole sectors of this size
abbrev pub HasWhole : ℕ → Event → Type 0
HasWhole z (Guest who call) = HasWholeSectors z call
HasWhole z (Fetch slot stripe) = ⊤
HasWhole z (Put slot) = ⊤
HasWhole z Finish = ⊤

-- ---- one event

-- what an event is answered, by what the chain answers: of a call, of a fetch, of a put, and of a finish
abbrev pub as_reply : Answer → EventAnswer
as_reply (answers.Reply place reply) = Reply place reply
as_reply (answers.Refused refusal) = Refused refusal

abbrev pub as_stamp : Result ℕ ChainRefusal → EventAnswer
as_stamp (Ok stamp) = Stamp stamp
as_stamp (Err refusal) = Refused refusal

abbrev pub as_copied : Result (Unit {0}) ChainRefusal → EventAnswer
as_copied (Ok done) = Copied
as_copied (Err refusal) = Refused refusal

abbrev pub as_finished : Result (Unit {0}) ChainRefusal → EventAnswer
as_finished (Ok done) = Finished
as_finished (Err refusal) = Refused refusal

-- A session answered a guest's call: what is refused before it reaches the files changes nothing; any other call is noted, or has the cause
-- of its refusal; and where content is told its reply is that of the history's disk, and the session serves the history with it.
pub record AnswersCall (who : Caller) (call : Call) (answer : Answer) (old new : Session) : Type 0 where
  pub sound : IsSound old
  pub early : IfRefused call old (placed answer) (IsUnchanged old new)
  pub notes : Notes who call old new (placed answer)
  pub cause : IsCaused call old new answer
  pub room : HasRoom call old (placed answer)
  pub replies : RepliesBy call old answer
  pub told : AnswersTold who call old new (placed answer)
  pub geometry : new.layers.geometry ≡ old.layers.geometry
  pub session : is_some new.layers.leaf ≡ is_some old.layers.leaf
  pub leaf : leaf_number new.layers ≡ leaf_number old.layers
  pub merge : MergeFollows call old.layers new.layers (placed answer)
  pub events : new.events ≡ counted old.events

-- one more event of the chain, if it is one
abbrev pub counted_if : Bool → ℕ → ℕ
counted_if is_event events = if is_event then counted events else events

-- The piece in one slot is another, and those in the other slots stay.
pub record Exchanges (slot : ℕ) (was now : Piece) (pieces left : List Piece) : Type 0 where
  pub there : slice_get pieces slot ≡ Some was
  pub only : left ≡ slice_set pieces slot now

-- A stripe was fetched into a slot, or the fetch was refused, and no piece is left in it.
pub record FetchesInto (slot stripe : ℕ) (answer : Result ℕ ChainRefusal) (old : Session) (pieces : List Piece) (new : Session) (left : List Piece) : Type 0 where
  pub was : Piece
  pub now : Piece
  pub fetched : AnswersFetch stripe answer old new now
  pub only : Exchanges slot was now pieces left
  pub leaf : leaf_number new.layers ≡ leaf_number old.layers
  pub events : new.events ≡ counted old.events

-- What was fetched into a slot was put, or the put was refused; no piece is left in it. A put of a slot with no piece is no event of the chain.
pub record PutsFrom (slot : ℕ) (answer : Result (Unit {0}) ChainRefusal) (old : Session) (pieces : List Piece) (new : Session) (left : List Piece) : Type 0 where
  pub was : Piece
  pub now : Piece
  pub put : AnswersPut was answer old new
  pub empty : now.filled ≡ false
  pub only : Exchanges slot was now pieces left
  pub leaf : leaf_number new.layers ≡ leaf_number old.layers
  pub events : new.events ≡ counted_if was.filled old.events

-- The merge was finished, or that was refused.
pub record Finishes (answer : Result (Unit {0}) ChainRefusal) (old new : Session) : Type 0 where
  pub finished : AnswersFinish answer old new
  pub events : new.events ≡ counted old.events

-- An event was answered, with the pieces in the slots before and after it: a call and a finish leave them.
abbrev pub AnswersEvent : Event → EventAnswer → Session → List Piece → Session → List Piece → Type 0
AnswersEvent (Guest who call) answer old pieces new left = (given : Answer) × (answer ≡ as_reply given) × AnswersCall who call given old new × (left ≡ pieces)
AnswersEvent (Fetch slot stripe) answer old pieces new left = (given : Result ℕ ChainRefusal) × (answer ≡ as_stamp given) × FetchesInto slot stripe given old pieces new left
AnswersEvent (Put slot) answer old pieces new left = (given : Result (Unit {0}) ChainRefusal) × (answer ≡ as_copied given) × PutsFrom slot given old pieces new left
AnswersEvent Finish answer old pieces new left = (given : Result (Unit {0}) ChainRefusal) × (answer ≡ as_finished given) × Finishes given old new × (left ≡ pieces)

-- ---- one after the other

-- Events were answered one after the other, each once.
abbrev pub AnswersEvents : List Event → List EventAnswer → Session → List Piece → Session → List Piece → Type 0
AnswersEvents [] [] old pieces new left = (new ≡ old) × (left ≡ pieces)
AnswersEvents [] (answer ∷ later) old pieces new left = ⊥
AnswersEvents (event ∷ events) [] old pieces new left = ⊥
AnswersEvents (event ∷ events) (answer ∷ later) old pieces new left =
    (mid : Session) × (held : List Piece) × AnswersEvent event answer old pieces mid held × AnswersEvents events later mid held new left

-- So they were, and their answers stand behind those that were there.
pub record RunsFrom (events : List Event) (before after : List EventAnswer) (old : Session) (pieces : List Piece) (new : Session) (left : List Piece) : Type 0 where
  pub answers : List EventAnswer
  pub added : after ≡ before ++ answers
  pub answered : AnswersEvents events answers old pieces new left
