-- What a guest's line asks for, and what the call tells it.
use Rattle.std.specs.Prelude.{◌≡◌, ◌*◌, if◌then◌else◌, ℕ, Bool, false, true, nat_lt, List, [], take, MatchBool, Option, Some, None, Result, Ok, Err, IfErr}
use Rattle.store_model.specs.Disk.{Disk}
use Rattle.store_model.specs.declared.fault.StoreFault.{StoreFault}
use Rattle.guest_model.specs.Counts.{one_more}
use Rattle.guest_model.specs.declared.call.Call.{Call}
use Rattle.guest_model.specs.declared.call.Call.TheVariants as calls
use Rattle.guest_model.specs.declared.call.Caller.{Caller}
use Rattle.guest_model.specs.declared.call.Reply.{Reply}
use Rattle.guest_model.specs.declared.call.Reply.TheVariants as replies
use Rattle.guest_model.specs.declared.refusal.ChainRefusal.{ChainRefusal}
use Rattle.guest_model.specs.declared.refusal.ChainRefusal.TheVariants as refusals
use Rattle.chain_core.specs.Refusing.{is_read}
use Rattle.turn_lock.specs.Seats.{Known}
use Rattle.shared_chain.specs.declared.basis.Basis.{Basis}
use Rattle.shared_chain.specs.declared.basis.Step.{Step}
use Rattle.guest_io.specs.Guests.{IsCall, placed_at}
use Rattle.guest_io.specs.declared.placed.Placed.{Placed}
use Rattle.script.specs.declared.form.Form.{Form}
use Rattle.script.specs.declared.form.Form.TheVariants.{Read, Write}
use Rattle.script.specs.Transcript.{LineReply}
use Rattle.serve_session.specs.Served.{Outcome, as_line, call_of}

-- a line asks for more sectors than a read or a write may name
abbrev pub asks_too_many : Form → Bool
asks_too_many (Read first count) = nat_lt 2048 count
asks_too_many (Write first count byte) = nat_lt 2048 count
asks_too_many other = false

abbrev pub count_of : Form → ℕ
count_of (Read first count) = count
count_of (Write first count byte) = count
count_of other = 0

-- its call without sectors
abbrev pub emptied : Form → Call
emptied (Read first count) = calls.Read first 0
emptied (Write first count byte) = calls.Write first []
emptied other = calls.Flush

-- what a read found stands at the front of the room
abbrev pub reply_in : List ℕ → Form → Reply
reply_in room (Read first count) = replies.Bytes (take (512 * count) room)
reply_in room other = replies.Done

-- the same of any line, where more sectors than a read may name find none
abbrev pub shown_in : List ℕ → Form → Reply
shown_in room (Read first count) = replies.Bytes (if nat_lt 2048 count then [] else take (512 * count) room)
shown_in room other = replies.Done

-- what was read for a call with this reply, if no reader failed
abbrev pub read_as : Reply → Result (Unit {0}) StoreFault → Result Reply StoreFault
read_as r (Ok done) = Ok r
read_as r (Err fault) = Err fault

abbrev pub reply_if : Reply → Result (Unit {0}) StoreFault → Option Reply
reply_if r (Ok done) = Some r
reply_if r (Err fault) = None

abbrev pub reply_by : Reply → Result Placed ChainRefusal → Option Reply
reply_by r (Ok placed) = reply_if r placed.read
reply_by r (Err refusal) = None

-- what a guest is told of a call with this reply that was answered so
abbrev pub outcome_of : Reply → Result Placed ChainRefusal → Outcome
outcome_of r (Ok placed) = Ok (placed.place, read_as r placed.read)
outcome_of r (Err refusal) = Err refusal

-- and what its line says of that
abbrev pub said_of : Reply → Result Placed ChainRefusal → Result LineReply ChainRefusal
said_of r (Ok placed) = as_line (read_as r placed.read)
said_of r (Err refusal) = Err refusal

abbrev pub place_in : Result Placed ChainRefusal → Option ℕ
place_in (Ok placed) = Some placed.place
place_in (Err refusal) = None

-- one more read failed by a reader, if this one did
abbrev pub with_read : ℕ → Result (Unit {0}) StoreFault → ℕ
with_read unread (Ok done) = unread
with_read unread (Err fault) = one_more unread

abbrev pub with_answer : ℕ → Result Placed ChainRefusal → ℕ
with_answer unread (Ok placed) = with_read unread placed.read
with_answer unread (Err refusal) = unread

-- the answer of a call for which no reader failed
abbrev pub as_read : Result ℕ ChainRefusal → Result Placed ChainRefusal
as_read (Ok place) = Ok (record { place = place; read = Ok tt })
as_read (Err refusal) = Err refusal

-- what it is where it was made with no sectors, as it asks for too many
abbrev pub too_long : ℕ → Result Placed ChainRefusal → Result Placed ChainRefusal
too_long count (Err refusals.EmptyRange) = Err (refusals.TooLong count 2048)
too_long count other = other

-- memory ran out for the call
abbrev pub is_want : Result Placed ChainRefusal → Bool
is_want (Err refusals.NoRoom) = true
is_want other = false

module _ {S T : Type 0} where
  -- a call was made, with this reply, unless a read of it failed
  abbrev pub IsMade : (S → Disk) → Caller → Call → Reply → Known Step (Basis S T) → Known Step (Basis S T) → Result Placed ChainRefusal → Type 0
  IsMade disk who call reply old new answer = IsCall disk who call (reply_by reply answer) old new (placed_at answer)

  -- the call was made with no sectors, and what refused it then is told of so many
  abbrev pub IsTooLong : (S → Disk) → Caller → Call → ℕ → Known Step (Basis S T) → Known Step (Basis S T) → Result Placed ChainRefusal → Type 0
  IsTooLong disk who call count old new answer = (made : Result Placed ChainRefusal) × (r : Reply) × IsMade disk who call r old new made × (answer ≡ too_long count made)

  -- The call that a line asks for was made, and its reply stands in the room; or, where it asks for too many sectors, it was made with none.
  abbrev pub IsAsked : (S → Disk) → Caller → Form → List ℕ → Known Step (Basis S T) → Known Step (Basis S T) → Result Placed ChainRefusal → Type 0
  IsAsked disk who form room old new answer =
      MatchBool (asks_too_many form) (IsTooLong disk who (emptied form) (count_of form) old new answer) (IsMade disk who (call_of form) (reply_in room form) old new answer)

-- a reader fails for a read alone
abbrev pub OnlyReadsMiss : Call → Result Placed ChainRefusal → Type 0
OnlyReadsMiss call (Ok placed) = IfErr placed.read (λ fault. is_read call ≡ true)
OnlyReadsMiss call (Err refusal) = Unit {0}
