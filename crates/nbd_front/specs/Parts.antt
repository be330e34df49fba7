-- Of the small functions: what is taken of a source, a request's calls, and the parts of a session.
use Rattle.std.specs.Prelude.{◌≡◌, ◌≢◌, ◌<◌, ◌≤◌, ℕ, ◌+◌, ◌-◌, ◌*◌, ◌/◌, ⊤, ◌||◌, Bool, true, false, map, List, ◌++◌, length, take, drop, Option, None, Some, Result, Ok, Err, ◌⊎◌, [], ◌==◌, ◌&&◌, if◌then◌else◌}
use Rattle.std.specs.List.{AllByRecursion}
use Rattle.std.specs.Io.KnownBytes.{Consumes, IsAtEnd, prepend_known}
use Rattle.store_model.specs.Cause.{Rose}
use Rattle.guest_model.specs.declared.refusal.ChainRefusal.{ChainRefusal}
use Rattle.guest_model.specs.declared.call.Reply.TheVariants as replies
use Rattle.disk_calls.specs.Disks.{Answered, Asked, Runs, Telling}
use Rattle.vx_base.specs.declared.parts.Geometry.{Geometry}
use Rattle.nbd_front.specs.declared.request.Request.{Request}
use Rattle.nbd_front.specs.declared.export.Export.{Export}
use Rattle.nbd_front.specs.declared.intake.Intake.{Intake}
use Rattle.nbd_front.specs.declared.refusal.NbdRefusal.{NbdRefusal}
use Rattle.nbd_front.specs.declared.refusal.NbdRefusal.TheVariants as refusals
use Rattle.nbd_front.specs.Wire.{counted, data_len, most_calls, most_messages, number_at, read_kind, reply_head}
use Rattle.nbd_front.specs.Messages.{Phase, greeted, haggling, transmitting, cut_short, over, IsOption, IsRequest, Reads}
use Rattle.nbd_front.specs.Calls.{AreMade, calls_begun, calls_of, first_refusal, write_call}
use Rattle.nbd_front.specs.Replies.{bytes_given, error_in, error_of}
use Rattle.nbd_front.specs.Sessions.{World, Exchange, MakesCalls, all_answers, all_calls, earlier, was_answered_by, IsSent, IsSpent, CountsFaults, EndsAs}
use Rattle.nbd_front.specs.declared.desk.Desk.{Desk}
use Rattle.nbd_front.specs.declared.next.Next.{Next}
use Rattle.nbd_front.specs.declared.next.Next.TheVariants.{Options, Requests, End}

-- nothing was read or replied yet
pub record IsFresh (desk : Desk) : Type 0 where
  pub empty : desk.intake.end ≡ desk.intake.start
  pub at : desk.intake.at ≡ 0
  pub tally : desk.tally ≡ record { messages = 0; fault = false; no_room = false }

-- what was read ahead
abbrev pub ahead : Intake → List ℕ
ahead i = take (i.end - i.start) (drop i.start i.room.items)

-- what is left, with what was read ahead
abbrev pub unread : Intake → Option (List ℕ) → Option (List ℕ)
unread i left = prepend_known (ahead i) left

-- an end of the source before all bytes came, after so many, or its fault
abbrev pub IsSourceEnd : ℕ → Option (List ℕ) → NbdRefusal → Type 0
IsSourceEnd place left (refusals.Cut at) = (at ≡ place) × IsAtEnd left
IsSourceEnd place left (refusals.Magic at) = ⊥
IsSourceEnd place left refusals.OtherName = ⊥
IsSourceEnd place left (refusals.TooLong at) = ⊥
IsSourceEnd place left refusals.OtherFlags = ⊥
IsSourceEnd place left (refusals.Source fault) = ⊤
IsSourceEnd place left (refusals.Sink fault) = ⊥
IsSourceEnd place left refusals.Spent = ⊥

-- fewer than n bytes came
pub record IsShort (n at : ℕ) (old new : Option (List ℕ)) (refusal : NbdRefusal) : Type 0 where
  pub part : List ℕ
  pub few : length part < n
  pub taken : Consumes old new part
  pub why : IsSourceEnd (counted at (length part)) new refusal

-- the faults of the source are as many as before, but for one that is answered
abbrev pub CountsSource : {T : Type 0} → Result T NbdRefusal → ℕ → ℕ → Type 0
CountsSource (Ok done) before now = now ≡ before
CountsSource (Err (refusals.Cut place)) before now = now ≡ before
CountsSource (Err (refusals.Magic place)) before now = now ≡ before
CountsSource (Err refusals.OtherName) before now = now ≡ before
CountsSource (Err (refusals.TooLong place)) before now = now ≡ before
CountsSource (Err refusals.OtherFlags) before now = now ≡ before
CountsSource (Err (refusals.Source fault)) before now = Rose before now × (fault.count ≡ now)
CountsSource (Err (refusals.Sink fault)) before now = ⊥
CountsSource (Err refusals.Spent) before now = ⊥

-- ---- of the calls

-- Calls are asked for, and made up to the first refusal, if there is one; without one they gave these bytes.
pub record Asks {D : Type 0} (tells : Telling D) (wanted : List Asked) (old new : D) (refused : Option ChainRefusal) (given : List ℕ) : Type 0 where
  pub calls : List Answered
  pub made : AreMade wanted calls
  pub runs : Runs tells old calls new
  pub refusal : first_refusal calls ≡ refused
  pub bytes : refused ≡ None → bytes_given calls ≡ given

-- the refusal that was handed on
abbrev pub refusal_in : {T : Type 0} → Result T ChainRefusal → Option ChainRefusal
refusal_in (Ok done) = None
refusal_in (Err refusal) = Some refusal

-- a sector's size
abbrev pub IsSector : ℕ → Type 0
IsSector z = (z ≡ 512) ⊎ (z ≡ 4096)

-- A request was handled with its data: its calls were made, and this is its error; a read that wasn't refused gave these bytes.
pub record IsHandled {D : Type 0} (tells : Telling D) (g : Geometry) (r : Request) (bytes : List ℕ) (old new : D) (error : ℕ) (given : List ℕ) : Type 0 where
  pub calls : List Answered
  pub made : AreMade (calls_of g r bytes) calls
  pub runs : Runs tells old calls new
  pub says : error ≡ error_in g r calls
  pub gave : r.kind ≡ read_kind → error ≡ 0 → given ≡ bytes_given calls

-- the bytes of a page that belong to a read, behind the head of its reply
abbrev pub read_part : Request → List ℕ → List ℕ
read_part r page = take r.len (drop 16 page)

-- how many bytes are sent for a request by its error: the head, and the bytes of a read that wasn't refused
abbrev pub reply_len : Request → ℕ → ℕ
reply_len r error = if (r.kind == read_kind) && (error == 0) then 16 + r.len else 16

-- what is sent for a request by its error, and by the bytes of a read
unfoldable pub reply_text : Request → ℕ → List ℕ → List ℕ
reply_text r error given = reply_head error r.cookie ++ (if (r.kind == read_kind) && (error == 0) then given else [])

-- ---- of a write's data

-- the error of a call by its answer, or 0
abbrev pub error_after : Result ℕ ChainRefusal → ℕ
error_after (Ok place) = 0
error_after (Err refusal) = error_of refusal

-- A piece of a write goes to the disk, unless an error came before: the error behind it.
pub data IsPieceTaken {D : Type 0} (tells : Telling D) (z : ℕ) (is_forced : Bool) (at : ℕ) (piece : List ℕ) (before behind : ℕ) (old new : D) : Type 0 where
  written : (place : ℕ) → before ≡ 0 → behind ≡ 0 → tells old (write_call is_forced (at / z) piece) (Ok (place, replies.Done)) new
      → IsPieceTaken tells z is_forced at piece before behind old new
  refused : (refusal : ChainRefusal) → before ≡ 0 → behind ≡ error_of refusal → tells old (write_call is_forced (at / z) piece) (Err refusal) new
      → IsPieceTaken tells z is_forced at piece before behind old new
  skipped : before ≢ 0 → behind ≡ before → new ≡ old → IsPieceTaken tells z is_forced at piece before behind old new

-- All data of a write were taken, and handled.
pub record TakesWrite {D : Type 0} (tells : Telling D) (g : Geometry) (r : Request) (at at' : ℕ) (left left' : Option (List ℕ)) (old new : D) (error : ℕ) : Type 0 where
  pub text : List ℕ
  pub len : length text ≡ r.len
  pub taken : Consumes left left' text
  pub count : at' ≡ counted at (length text)
  pub handled : (given : List ℕ) → IsHandled tells g r text old new error given

-- Not all data of a write came; its whole pieces were handled.
pub record CutsWrite {D : Type 0} (tells : Telling D) (g : Geometry) (r : Request) (at : ℕ) (left left' : Option (List ℕ)) (old new : D) (refusal : NbdRefusal) : Type 0 where
  pub text : List ℕ
  pub few : length text < data_len r
  pub taken : Consumes left left' text
  pub why : IsSourceEnd (counted at (length text)) left' refusal
  pub calls : List Answered
  pub made : AreMade (calls_begun g r text) calls
  pub runs : Runs tells old calls new

-- The data of a request were taken, if it has any, and it was handled.
pub record TakesData {D : Type 0} (tells : Telling D) (g : Geometry) (r : Request) (at at' : ℕ) (left left' : Option (List ℕ)) (old new : D) (given : List ℕ) (error : ℕ) : Type 0 where
  pub text : List ℕ
  pub len : length text ≡ data_len r
  pub taken : Consumes left left' text
  pub count : at' ≡ counted at (length text)
  pub handled : IsHandled tells g r text old new error given

-- ---- of a session

-- Where a session stands: how many bytes were taken, how many messages were answered, whether a reply told of a fault (5) or of want
-- of memory (12), and the world, in which what was read ahead is still left.
pub record Stand (D : Type 0) : Type 0 where
  pub at : ℕ
  pub messages : ℕ
  pub fault : Bool
  pub no_room : Bool
  pub world : World D

abbrev pub stand : {D : Type 0} → Desk → Option (List ℕ) → ℕ → Option (List ℕ) → ℕ → D → Stand D
stand d left source_faults out sink_faults disk = record {
  at = d.intake.at;
  messages = d.tally.messages;
  fault = d.tally.fault;
  no_room = d.tally.no_room;
  world = record { left = unread d.intake left; source_faults = source_faults; written = out; sink_faults = sink_faults; disk = disk };
}

-- How many messages may still come in a phase, behind so many that were answered: the client's flags and the export's name aren't among these.
abbrev pub left_for : Phase → ℕ → ℕ
left_for greeted messages = most_messages - messages + 2
left_for (haggling flags) messages = most_messages - messages + 1
left_for transmitting messages = most_messages - messages
left_for cut_short messages = 0
left_for over messages = 0

-- A part of a session, from one stand to another.
pub record Session {D : Type 0} (tells : Telling D) (e : Export) (p : Phase) (a b : Stand D) (result : Result (Unit {0}) NbdRefusal) : Type 0 where
  pub exchanges : List Exchange
  pub bytes : List ℕ
  pub last : Phase
  pub tail : List ℕ
  pub reads : Reads e p bytes (map (λ x. x.message) exchanges) last
  pub taken : Consumes a.world.left b.world.left (bytes ++ tail)
  pub makes : AllByRecursion (λ x. MakesCalls e x.message x.calls) exchanges
  pub runs : Runs tells a.world.disk (all_calls exchanges) b.world.disk
  pub sent : IsSent result a.world.written b.world.written (all_answers e exchanges) (length (all_answers e (earlier exchanges)))
  pub fault : b.fault ≡ (a.fault || was_answered_by 5 e exchanges)
  pub no_room : b.no_room ≡ (a.no_room || was_answered_by 12 e exchanges)
  pub counts : CountsFaults result a.world b.world
  pub ends : EndsAs e last (counted a.at (length bytes)) tail b.world.left result
  pub spent : IsSpent result (a.messages + length exchanges)
  pub few : length (all_calls exchanges) ≤ most_calls * left_for p a.messages

-- however a session goes on from the second stand, it does so from the first
abbrev pub Leads : {D : Type 0} → Telling D → Export → Phase → Stand D → Phase → Stand D → Type 0
Leads {D = D} tells e p a q b = (c : Stand D) (result : Result (Unit {0}) NbdRefusal) → Session tells e q b c result → Session tells e p a c result

-- the phase behind a request, and behind options
abbrev pub phase_behind : Bool → Phase
phase_behind true = transmitting
phase_behind false = over

-- bytes were taken that end a session
pub record IsEnded (e : Export) (p : Phase) (at : ℕ) (left left' : Option (List ℕ)) (refusal : NbdRefusal) : Type 0 where
  pub tail : List ℕ
  pub taken : Consumes left left' tail
  pub ends : EndsAs e p at tail left' (Err refusal)

-- the head of a request was taken
pub record TakesRequest (at at' : ℕ) (left left' : Option (List ℕ)) (r : Request) : Type 0 where
  pub magic : List ℕ
  pub head : List ℕ
  pub is : IsRequest r magic head
  pub taken : Consumes left left' (magic ++ head)
  pub count : at' ≡ counted at (length (magic ++ head))

-- an option was taken, and whether its data name the export
pub record TakesOption (at at' : ℕ) (left left' : Option (List ℕ)) (name : List ℕ) (number : ℕ) (is_named : Bool) : Type 0 where
  pub magic : List ℕ
  pub head : List ℕ
  pub text : List ℕ
  pub is : IsOption number magic head text
  pub taken : Consumes left left' (magic ++ head ++ text)
  pub count : at' ≡ counted at (length (magic ++ head ++ text))
  pub named : is_named ≡ true → (text ≡ []) ⊎ (text ≡ name)
  pub named_some : is_named ≡ false → text ≢ []
  pub named_other : is_named ≡ false → text ≢ name

-- the client's flags were taken
pub record TakesFlags (at at' : ℕ) (left left' : Option (List ℕ)) (flags : ℕ) : Type 0 where
  pub bytes : List ℕ
  pub len : length bytes ≡ 4
  pub is : flags ≡ number_at 4 bytes 0
  pub few : flags ≤ 3
  pub taken : Consumes left left' bytes
  pub count : at' ≡ counted at (length bytes)

-- what follows an option
abbrev pub phase_after : ℕ → Next → Phase
phase_after flags Options = haggling flags
phase_after flags Requests = transmitting
phase_after flags End = over
