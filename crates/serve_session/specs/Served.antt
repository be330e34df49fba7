-- What several guests are told over one disk: there is one history of the calls that were made, and each call is told its reply at its place
-- (profile).
use Rattle.std.specs.Prelude.{◌≡◌, ◌⊎◌, ◌+◌, ◌*◌, ◌<◌, ◌≤◌, ◌==◌, ◌&&◌, if◌then◌else◌, ⊤, ℕ, Bool, true, false, List, [], ◌∷◌, ◌++◌, length, map, max, min, replicate, Option, Some, None, Result, Ok, Err, IfErr, IfOk, IfSome}
use Rattle.std.specs.List.{AllByRecursion, flat_map}
use Rattle.store_model.specs.Cause.{Rose}
use Rattle.store_model.specs.declared.fault.StoreFault.{StoreFault}
use Rattle.guest_model.specs.declared.call.Call.{Call}
use Rattle.guest_model.specs.declared.call.Call.TheVariants as asks
use Rattle.guest_model.specs.declared.call.Entry.{Entry}
use Rattle.guest_model.specs.declared.call.Reply.{Reply}
use Rattle.guest_model.specs.declared.refusal.ChainRefusal.{ChainRefusal}
use Rattle.guest_model.specs.declared.refusal.ChainRefusal.TheVariants as refusals
use Rattle.guest_model.specs.Calls.{reply}
use Rattle.guest_model.specs.History.{History, replay}
use Rattle.chain_core.specs.Refusing.{barred, is_read, out_of, range_of}
use Rattle.script.specs.Grammar.{is_call}
use Rattle.script.specs.declared.form.Form.{Form}
use Rattle.script.specs.declared.form.Form.TheVariants.{Read, Trim, Write}
use Rattle.script.specs.declared.form.Line.{Line}
use Rattle.script.specs.declared.told.ToldCall.{ToldCall}
use Rattle.script.specs.Transcript.{LineReply, answered, of_call, serve_text}
use Rattle.script_session.specs.Histories.{Break, Drive, Stops}
use Rattle.script_session.specs.Told.{Told, sector_size}
use Rattle.turn_lock.specs.Histories.{StartsWith}

-- ---- the script

-- the call that a guest's line asks for; each byte of a write is the line's
abbrev pub call_of : Form → Call
call_of (Read first count) = asks.Read first count
call_of (Write first count byte) = asks.Write first (replicate (sector_size * count) byte)
call_of (Trim first count) = asks.Trim first count
call_of other = asks.Flush

-- the forms of one guest's calls, in the script's order
abbrev pub forms_of : ℕ → List Line → List Form
forms_of guest [] = []
forms_of guest (line ∷ lines) = if (line.guest == guest) && is_call line.form then line.form ∷ forms_of guest lines else forms_of guest lines

-- the greatest number of a guest, if it is above this one
abbrev pub greatest_from : ℕ → List Line → ℕ
greatest_from guest [] = guest
greatest_from guest (line ∷ lines) = greatest_from (max guest line.guest) lines

-- how many guests are run: up to the greatest number of one, and at most 64
abbrev pub guest_count : List Line → ℕ
guest_count lines = min (greatest_from 0 lines) 64

-- ---- what is asked

-- What guests ask of one disk, whatever front they come by: how many they are, from guest 1 on, and the calls that each makes, in its order; and
-- whether a guest is told where memory ran out for a call, and may go on. (A guest of a script isn't, and makes no further call then.)
pub record Asking : Type 0 where
  pub count : ℕ
  pub calls : ℕ → List Call
  pub tells_want : Bool

-- by a script
abbrev pub asked_by : List Line → Asking
asked_by lines = record { count = guest_count lines; calls = λ guest. map call_of (forms_of guest lines); tells_want = false }

-- ---- what is told

-- What a guest is told of a call: its place in the history, counted from 1, and there its reply, or, of a read, that the guest's reader of a
-- file failed, and how often that has; or why it was refused.
abbrev pub Outcome : Type 0
Outcome = Result (ℕ × Result Reply StoreFault) ChainRefusal

-- the answer on its line: a read that failed is answered as one that is refused for that
abbrev pub as_line : Result Reply StoreFault → Result LineReply ChainRefusal
as_line (Ok reply) = Ok (of_call reply)
as_line (Err fault) = Err (refusals.ReadFault fault.file fault.count)

-- the same as the transcript has it: its place, and its words with the answer
abbrev pub told_call : List (List ℕ) → Form → Outcome → ToldCall
told_call names form (Ok done) = record { place = Some done.0; text = answered names form (as_line done.1) }
told_call names form (Err refusal) = record { place = None; text = answered names form (Err refusal) }

abbrev pub told_calls : List (List ℕ) → List Form → List Outcome → List ToldCall
told_calls names [] outcomes = []
told_calls names (form ∷ forms) [] = []
told_calls names (form ∷ forms) (o ∷ outcomes) = told_call names form o ∷ told_calls names forms outcomes

-- so it is of each guest, the first being that of a number
abbrev pub told_guests : List (List ℕ) → ℕ → List Line → List (List Outcome) → List (List ToldCall)
told_guests names guest lines [] = []
told_guests names guest lines (outcomes ∷ guests) = told_calls names (forms_of guest lines) outcomes ∷ told_guests names (guest + 1) lines guests

-- And as lines are told it whose faults the store counts; so it is left out where a reader failed.
abbrev pub told_of : Outcome → List Told
told_of (Ok (place, Ok reply)) = Ok (Some place, of_call reply) ∷ []
told_of (Ok (place, Err fault)) = []
told_of (Err refusal) = Err refusal ∷ []

-- all that guests were told so
abbrev pub all_told : List (List Outcome) → List Told
all_told guests = flat_map (λ outcomes. flat_map told_of outcomes) guests

-- the reads of a guest that stand in the history and failed by a reader, each by its fault, in the order of the calls
abbrev pub unread_of : Outcome → List StoreFault
unread_of (Ok (place, Ok reply)) = []
unread_of (Ok (place, Err fault)) = fault ∷ []
unread_of (Err refusal) = []

abbrev pub unread_in : List Outcome → List StoreFault
unread_in outcomes = flat_map unread_of outcomes

-- those of all guests
abbrev pub all_unread : List (List Outcome) → List StoreFault
all_unread guests = flat_map unread_in guests

-- the readers' counts of failed reads, by file, behind one more
abbrev pub with_count : (ℕ → ℕ) → StoreFault → ℕ → ℕ
with_count counts fault file = if fault.file == file then fault.count else counts file

-- and behind all of these
abbrev pub counts_behind : (ℕ → ℕ) → List StoreFault → ℕ → ℕ
counts_behind counts [] = counts
counts_behind counts (fault ∷ faults) = counts_behind (with_count counts fault) faults

-- Each tells the count of its reader, which it raised from what the one before it of the same file told, and the first of a file from this.
abbrev pub IsCountedUp : (ℕ → ℕ) → List StoreFault → Type 0
IsCountedUp counts [] = ⊤
IsCountedUp counts (fault ∷ faults) = Rose (counts fault.file) fault.count × IsCountedUp (with_count counts fault) faults

-- no read has failed yet
abbrev pub none_failed : ℕ → ℕ
none_failed file = 0

-- what each of some guests was told, the first being that of a number, or what one of them was
abbrev pub EachGuest : (ℕ → List Outcome → Type 0) → ℕ → List (List Outcome) → Type 0
EachGuest P guest [] = ⊤
EachGuest P guest (outcomes ∷ guests) = P guest outcomes × EachGuest P (guest + 1) guests

abbrev pub SomeGuest : (ℕ → List Outcome → Type 0) → ℕ → List (List Outcome) → Type 0
SomeGuest P guest [] = ⊥
SomeGuest P guest (outcomes ∷ guests) = P guest outcomes ⊎ SomeGuest P (guest + 1) guests

-- the places of the calls that stand in the history, in the order of the calls
abbrev pub places_in : List Outcome → List ℕ
places_in [] = []
places_in (Ok done ∷ outcomes) = done.0 ∷ places_in outcomes
places_in (Err refusal ∷ outcomes) = places_in outcomes

abbrev pub Has : ℕ → List ℕ → Type 0
Has p [] = ⊥
Has p (q ∷ places) = (p ≡ q) ⊎ Has p places

-- each is above all before it
abbrev pub IsRising : List ℕ → Type 0
IsRising [] = ⊤
IsRising (p ∷ places) = AllByRecursion (λ q. p < q) places × IsRising places

-- What refuses a call by its range, and then because the disk is only read.
abbrev pub misplaced : Drive → Call → Option ChainRefusal
misplaced drive call = out_of (range_of drive.geometry call) (barred call drive.can_change)

-- What refuses a call: it is misplaced; a change of the leaf has failed, which has broken the session for all; of a call that isn't misplaced, a read of a file failed, or the file is full, which stops it as a line of `steps`; or memory
-- ran out for it, where that is told.
pub data IsRefused (drive : Drive) (broken : Option StoreFault) (tells_want : Bool) (call : Call) : ChainRefusal → Type 0 where
  is_misplaced : (e : ChainRefusal) → misplaced drive call ≡ Some e → IsRefused drive broken tells_want call e
  is_broken : (fault : StoreFault) → broken ≡ Some fault → IsRefused drive broken tells_want call (refusals.Broken fault.file fault.count)
  is_unread : (file count : ℕ) → misplaced drive call ≡ None → IsRefused drive broken tells_want call (refusals.ReadFault file count)
  is_full : (next : ℕ) → misplaced drive call ≡ None → Stops call (refusals.FileFull next) → IsRefused drive broken tells_want call (refusals.FileFull next)
  has_no_room : tells_want ≡ true → IsRefused drive broken tells_want call refusals.NoRoom

abbrev pub entry_of : ℕ → ℕ → Call → Entry
entry_of guest number call = record { guest = guest; no = number; call = call }

-- A call was done: it stands in the history at its place, and its reply is that of the disk with the calls before it. Only a read may have
-- none, as a reader failed.
pub record HasDone (drive : Drive) (h : History) (entry : Entry) (done : ℕ × Result Reply StoreFault) : Type 0 where
  pub before : History
  pub begins : StartsWith h (before ++ entry ∷ [])
  pub place_is : done.0 ≡ length before + 1
  pub placed : misplaced drive entry.call ≡ None
  pub reply_is : IfOk done.1 (λ r. r ≡ reply (replay sector_size drive.opening before) entry.call)
  pub unread : IfErr done.1 (λ fault. is_read entry.call ≡ true)

-- What a guest is told of its call of this number, in a session with this history at its end, which this fault has broken if one did.
abbrev pub IsOutcome : Drive → History → Option StoreFault → Bool → ℕ → ℕ → Call → Outcome → Type 0
IsOutcome drive h broken tells_want guest number call (Ok done) = HasDone drive h (entry_of guest number call) done
IsOutcome drive h broken tells_want guest number call (Err e) = IsRefused drive broken tells_want call e

-- so it is of its calls, the first of which has this number; where memory ran out not all of them were made
abbrev pub AreOutcomes : Drive → History → Option StoreFault → Bool → ℕ → ℕ → List Call → List Outcome → Type 0
AreOutcomes drive h broken tells_want guest number calls [] = ⊤
AreOutcomes drive h broken tells_want guest number [] (o ∷ outcomes) = ⊥
AreOutcomes drive h broken tells_want guest number (call ∷ calls) (o ∷ outcomes) =
    IsOutcome drive h broken tells_want guest number call o × AreOutcomes drive h broken tells_want guest (number + 1) calls outcomes

-- The call broke the session: it was told so, by the fault that did.
abbrev pub HasBroken : Call → Break → Outcome → Type 0
HasBroken call b (Err (refusals.Broken file count)) = (b.fault ≡ record { file = file; count = count }) × (b.call ≡ Some call)
HasBroken call b other = ⊥

-- one of these calls did
abbrev pub HasBreaker : Break → List Call → List Outcome → Type 0
HasBreaker b calls [] = ⊥
HasBreaker b [] (o ∷ outcomes) = ⊥
HasBreaker b (call ∷ calls) (o ∷ outcomes) = HasBroken call b o ⊎ HasBreaker b calls outcomes

-- What broke a session is one of the guests' calls; or, in a session with a merge, a step of the merge, by the fault that the session's end is
-- answered.
abbrev pub IsBreakOf : Bool → Asking → List (List Outcome) → Option StoreFault → Break → Type 0
IsBreakOf false asking guests ended b = SomeGuest (λ guest outcomes. HasBreaker b (asking.calls guest) outcomes) 1 guests
IsBreakOf true asking guests ended b = SomeGuest (λ guest outcomes. HasBreaker b (asking.calls guest) outcomes) 1 guests ⊎ ((b.call ≡ None) × (ended ≡ Some b.fault))

-- What guests were told over one disk, the first list being guest 1's: each call its outcome. Of each guest the calls that were done stand in
-- the history in its order, and the history has nothing else; the reads of it that a reader failed are counted up, file by file. The
-- session's end is answered this fault, if it failed or if a fault had broken the session; the call that this one broke it in is one of theirs,
-- if it wasn't a step of a merge.
pub record AreServed (merges : Bool) (drive : Drive) (asking : Asking) (guests : List (List Outcome)) (h : History) (ended : Option StoreFault) (broken : Option Break) : Type 0 where
  pub told : EachGuest (λ guest outcomes. AreOutcomes drive h ended asking.tells_want guest 1 (asking.calls guest) outcomes) 1 guests
  pub order : EachGuest (λ guest outcomes. IsRising (places_in outcomes)) 1 guests
  pub unread : EachGuest (λ guest outcomes. IsCountedUp none_failed (unread_in outcomes)) 1 guests
  pub all : (p : ℕ) → 1 ≤ p → p ≤ length h → SomeGuest (λ guest outcomes. Has p (places_in outcomes)) 1 guests
  pub breaker : IfSome broken (IsBreakOf merges asking guests ended)

-- all calls were made
abbrev pub IsWhole : Asking → List (List Outcome) → Type 0
IsWhole asking guests = EachGuest (λ guest outcomes. length outcomes ≡ length (asking.calls guest)) 1 guests

-- The transcript of a script of which all calls were made.
pub record IsTranscript (names : List (List ℕ)) (lines : List Line) (guests : List (List Outcome)) (h : History) (text : List ℕ) : Type 0 where
  pub whole : IsWhole (asked_by lines) guests
  pub text_is : text ≡ serve_text h (told_guests names 1 lines guests)
