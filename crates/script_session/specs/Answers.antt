-- How a session answers the lines of a script, for every store.
use Rattle.std.specs.Prelude.{◌≡◌, ◌≤◌, ◌*◌, ⊤, ℕ, true, false, List, [], ◌∷◌, length, take, is_some, Option, Some, None, Result, Ok, Err, IfOk, IfSome, OnOk, string_bytes}
use Rattle.std.specs.List.{AllByRecursion}
use Rattle.store_model.specs.Disk.{WhereTold}
use Rattle.guest_model.specs.declared.call.Call.{Call}
use Rattle.guest_model.specs.declared.call.Call.TheVariants as calls
use Rattle.guest_model.specs.declared.call.Caller.{Caller}
use Rattle.guest_model.specs.declared.call.Reply.{Reply}
use Rattle.guest_model.specs.declared.call.Reply.TheVariants as replies
use Rattle.guest_model.specs.declared.refusal.ChainRefusal.{ChainRefusal}
use Rattle.guest_model.specs.declared.refusal.ChainRefusal.TheVariants as refusals
use Rattle.guest_model.specs.Calls as model
use Rattle.script.specs.declared.form.Line.{Line}
use Rattle.chain_core.specs.Answering.{AnswersTold, HasCause, HasReadCause, HasRoom, Notes}
use Rattle.chain_core.specs.Refusing.{counted, refused}
use Rattle.chain_core.specs.Sessions.{IsSound, Session}
use Rattle.chain_core.specs.States.{State, IsServing, disk_now}
use Rattle.chain_core.specs.Copying.{FitsDisk, MergeFollows}
use Rattle.merge_core.specs.declared.piece.Piece.{Piece}
use Rattle.vx_base.specs.declared.parts.Geometry.{Geometry}
use Rattle.script.specs.Transcript.{LineReply, has_stamp, is_copied, is_done, of_call}
use Rattle.script_session.specs.MergeSteps.{AnswersCopy, AnswersFetch, AnswersFinish, AnswersPut}
use Rattle.script_session.specs.Told.{Asked, HasMemory, Told, asked, asks_call, asks_copy, asks_fetch, asks_finish, asks_put, caller, last_fault, next_number, sector_size, transcript}
use Rattle.script_session.specs.declared.answer.Done.{Done}
use Rattle.script_session.specs.declared.answer.Done.TheVariants as done
use Rattle.script_session.specs.declared.lines.LinesRun.{LinesRun}

-- a reply that a call may have: a read's bytes are those of its sectors
abbrev pub IsReplyTo : Call → Reply → Type 0
IsReplyTo (calls.Read first count) (replies.Bytes bytes) = length bytes ≡ sector_size * count
IsReplyTo (calls.Read first count) replies.Done = ⊥
IsReplyTo (calls.Write first bytes) reply = reply ≡ replies.Done
IsReplyTo (calls.Trim first count) reply = reply ≡ replies.Done
IsReplyTo calls.Flush reply = reply ≡ replies.Done

-- the reply is that of the history's disk, where content is told
abbrev pub IsReplyOf : Call → Reply → Session → Type 0
IsReplyOf call reply old = WhereTold old.disk.told (λ trace. (v : State) → IsServing old.layers v trace → model.reply (disk_now v) call ≡ reply)

-- what the answer of a call says of the store's counts
abbrev pub HasCauseOf : Call → Session → Session → Result ℕ ChainRefusal → Type 0
HasCauseOf (calls.Read first count) old new result = HasReadCause (calls.Read first count) old new result
HasCauseOf (calls.Write first bytes) old new result = HasCause (calls.Write first bytes) old new result
HasCauseOf (calls.Trim first count) old new result = HasCause (calls.Trim first count) old new result
HasCauseOf calls.Flush old new result = HasCause calls.Flush old new result

-- A session answered a call with its place in the history or with a refusal, and with this reply where it was done: a call that is
-- refused before it reaches the files changes nothing; any other is noted, or has the cause of its refusal; and where content is told
-- a session that isn't broken serves the history with it.
pub record Answers (who : Caller) (call : Call) (result : Result ℕ ChainRefusal) (reply : Reply) (old new : Session) : Type 0 where
  pub sound : IsSound old
  pub early : IfSome (refused call old) (λ e. (result ≡ Err e) × (new ≡ record old { events = counted old.events }))
  pub notes : Notes who call old new result
  pub cause : HasCauseOf call old new result
  pub room : HasRoom call old result
  pub replies : OnOk result (IsReplyTo call reply × IsReplyOf call reply old)
  pub told : old.broken ≡ None → AnswersTold who call old new result
  pub geometry : new.layers.geometry ≡ old.layers.geometry
  pub session : is_some new.layers.leaf ≡ is_some old.layers.leaf
  pub merge : MergeFollows call old.layers new.layers result
  pub events : new.events ≡ counted old.events

-- an answer with this reply, where it is no refusal
abbrev pub with_reply : Reply → Result ℕ ChainRefusal → Told
with_reply reply (Ok place) = Ok (Some place, of_call reply)
with_reply reply (Err refusal) = Err refusal

-- what a fetch's line is told, a put's, and that of a copy or a finish
abbrev pub with_stamp : Result ℕ ChainRefusal → Told
with_stamp (Ok stamp) = Ok (None, has_stamp stamp)
with_stamp (Err refusal) = Err refusal

abbrev pub as_copied : Result (Unit {0}) ChainRefusal → Told
as_copied (Ok done) = Ok (None, is_copied)
as_copied (Err refusal) = Err refusal

abbrev pub as_done : Result (Unit {0}) ChainRefusal → Told
as_done (Ok done) = Ok (None, is_done)
as_done (Err refusal) = Err refusal

-- So it answered a line that asks for a call.
pub record AnswersCall (number : ℕ) (call : Call) (told : Told) (old new : Session) : Type 0 where
  pub answer : Result ℕ ChainRefusal
  pub reply : Reply
  pub is : told ≡ with_reply reply answer
  pub answers : Answers (caller number) call answer reply old new

-- So it answered a line, with the piece in the slot before, and what is left in it: a call and a finish leave it, a fetch fills or empties
-- it, and each put empties it.
abbrev pub AnswersLine : ℕ → Asked → Told → Session → Piece → Session → Piece → Type 0
AnswersLine number (asks_call call) told old slot new left = AnswersCall number call told old new × (left ≡ slot)
AnswersLine number (asks_fetch stripe) told old slot new left = (answer : Result ℕ ChainRefusal) × (told ≡ with_stamp answer) × AnswersFetch stripe answer old new left
AnswersLine number asks_put told old slot new left = (answer : Result (Unit {0}) ChainRefusal) × (told ≡ as_copied answer) × AnswersPut slot answer old new × (left.filled ≡ false)
AnswersLine number asks_copy told old slot new left = (answer : Result (Unit {0}) ChainRefusal) × (told ≡ as_done answer) × AnswersCopy answer old slot new left
AnswersLine number asks_finish told old slot new left = (answer : Result (Unit {0}) ChainRefusal) × (told ≡ as_done answer) × AnswersFinish answer old new × (left ≡ slot)

-- Lines were answered one after the other; the first call among them is the guest's of that number.
abbrev pub AnswersLines : ℕ → List Line → List Told → Session → Piece → Session → Piece → Type 0
AnswersLines number [] [] old slot new left = (new ≡ old) × (left ≡ slot)
AnswersLines number [] (told ∷ later) old slot new left = ⊥
AnswersLines number (line ∷ lines) [] old slot new left = ⊥
AnswersLines number (line ∷ lines) (told ∷ later) old slot new left =
    (mid : Session) × (held : Piece) × AnswersLine number (asked line.form) told old slot mid held × AnswersLines (next_number number line.form) lines later mid held new left

-- Lines were answered, all of them where a text was given, which is their transcript, and none by want of memory then; it is told which
-- fault of the store was the last that refused one.
pub record HasRun (names : List (List ℕ)) (lines : List Line) (old : Session) (slot : Piece) (new : Session) (left : Piece) (run : LinesRun) : Type 0 where
  pub many : ℕ
  pub told : List Told
  pub answers : AnswersLines 1 (take many lines) told old slot new left
  pub whole : IfOk run.transcript (λ text. (take many lines ≡ lines) × (string_bytes text ≡ transcript names lines told) × AllByRecursion HasMemory told)
  pub fault_is : run.fault ≡ last_fault told

-- ---- of the small functions

-- the call is refused for its range alone once it is called with no sectors
abbrev pub too_long : ℕ → Result ℕ ChainRefusal → Result ℕ ChainRefusal
too_long count (Err refusals.EmptyRange) = Err (refusals.TooLong count 2048)
too_long count other = other

-- what a read found stands at the front of its room
abbrev pub reply_in : List ℕ → Call → Reply
reply_in room (calls.Read first count) = replies.Bytes (take (sector_size * count) room)
reply_in room (calls.Write first bytes) = replies.Done
reply_in room (calls.Trim first count) = replies.Done
reply_in room calls.Flush = replies.Done

abbrev pub reply_of : List ℕ → Asked → Reply
reply_of room (asks_call call) = reply_in room call
reply_of room step = replies.Done

-- the reply of a line that was done, and the place of its call in the history
abbrev pub reply_told : List ℕ → Asked → Done → LineReply
reply_told room step (done.Call place) = of_call (reply_of room step)
reply_told room step (done.Fetched stamp) = has_stamp stamp
reply_told room step done.Copied = is_copied
reply_told room step done.Whole = is_done

abbrev pub place_in : Done → Option ℕ
place_in (done.Call place) = Some place
place_in (done.Fetched stamp) = None
place_in done.Copied = None
place_in done.Whole = None

-- what a line is told whose answer in the code is this
abbrev pub told_by : List ℕ → Asked → Result Done ChainRefusal → Told
told_by room step (Ok d) = Ok (place_in d, reply_told room step d)
told_by room step (Err refusal) = Err refusal

-- the answer in the code of a call, of a fetch, of a put, and of a copy or a finish
abbrev pub called : Result ℕ ChainRefusal → Result Done ChainRefusal
called (Ok place) = Ok (done.Call place)
called (Err refusal) = Err refusal

abbrev pub fetched : Result ℕ ChainRefusal → Result Done ChainRefusal
fetched (Ok stamp) = Ok (done.Fetched stamp)
fetched (Err refusal) = Err refusal

abbrev pub done_as : Done → Result (Unit {0}) ChainRefusal → Result Done ChainRefusal
done_as d (Ok done) = Ok d
done_as d (Err refusal) = Err refusal

-- what a read of the line finds has room
abbrev pub HasRoomFor : Asked → Type 0
HasRoomFor (asks_call (calls.Read first count)) = count ≤ 2048
HasRoomFor other = ⊤

-- a piece that was taken fits into each file of the disk
abbrev pub IsSlot : Geometry → Piece → Type 0
IsSlot geometry piece = piece.filled ≡ true → FitsDisk geometry piece
