-- A session (profile): what a client sent, the calls that were made, what was answered, and how it ended.
use Rattle.std.specs.Prelude.{◌≡◌, ◌≢◌, ◌<◌, ◌≤◌, ℕ, ◌||◌, ◌+◌, ◌*◌, ⊤, Bool, false, List, [], ◌∷◌, ◌++◌, length, map, take, Option, Result, Ok, Err}
use Rattle.std.specs.List.{flat_map, AllByRecursion}
use Rattle.std.specs.Io.KnownBytes.{Consumes, Appends, IsAtEnd, prepend_known}
use Rattle.store_model.specs.Cause.{Rose}
use Rattle.disk_calls.specs.Disks.{Answered, Answers, Known, Runs, Telling}
use Rattle.nbd_front.specs.declared.export.Export.{Export}
use Rattle.nbd_front.specs.declared.served.Served.{Served}
use Rattle.nbd_front.specs.declared.refusal.NbdRefusal.{NbdRefusal}
use Rattle.nbd_front.specs.declared.refusal.NbdRefusal.TheVariants as refusals
use Rattle.nbd_front.specs.Wire.{number_at, option_magic, request_magic, most_option_bytes, most_bytes, most_ahead, most_calls, most_messages, export_name, write_kind, request_of, counted, greeting}
use Rattle.nbd_front.specs.Messages.{Phase, greeted, haggling, transmitting, cut_short, over, Message, client_flags, other_option, named, aborted, asked, begun, disconnected, IsOption, Reads}
use Rattle.nbd_front.specs.Calls.{AreMade, calls_of, calls_begun}
use Rattle.nbd_front.specs.Replies.{answer_to, is_answered_by}

-- a message, with what was told of its calls
pub record Exchange : Type 0 where
  pub message : Message
  pub calls : List Answered

-- the calls that were made for a message are its calls
abbrev pub MakesCalls : Export → Message → List Answered → Type 0
MakesCalls e (client_flags flags) calls = calls ≡ []
MakesCalls e (other_option number) calls = calls ≡ []
MakesCalls e (named flags) calls = calls ≡ []
MakesCalls e aborted calls = calls ≡ []
MakesCalls e (asked r bytes) calls = AreMade (calls_of e.geometry r bytes) calls
MakesCalls e (begun r bytes) calls = AreMade (calls_begun e.geometry r bytes) calls
MakesCalls e disconnected calls = calls ≡ []

-- some message was answered by that error
abbrev pub was_answered_by : ℕ → Export → List Exchange → Bool
was_answered_by error e [] = false
was_answered_by error e (x ∷ xs) = is_answered_by error e x.message x.calls || was_answered_by error e xs

-- the calls that were made, in order, and what was sent for the messages
abbrev pub all_calls : List Exchange → List Answered
all_calls exchanges = flat_map (λ x. x.calls) exchanges

abbrev pub all_answers : Export → List Exchange → List ℕ
all_answers e exchanges = flat_map (λ x. answer_to e x.message x.calls) exchanges

-- all but the last
abbrev pub earlier : List Exchange → List Exchange
earlier [] = []
earlier (x ∷ []) = []
earlier (x ∷ y ∷ xs) = x ∷ earlier (y ∷ xs)

-- What a session is about: the bytes that are left to be read, and those that were sent, where they are told, with the faults of
-- the source and the sink; and the disk.
pub record World (D : Type 0) : Type 0 where
  pub left : Option (List ℕ)
  pub source_faults : ℕ
  pub written : Option (List ℕ)
  pub sink_faults : ℕ
  pub disk : D

abbrev pub world : {D : Type 0} → Option (List ℕ) → ℕ → Option (List ℕ) → ℕ → D → World D
world left source_faults out sink_faults disk = record { left = left; source_faults = source_faults; written = out; sink_faults = sink_faults; disk = disk }

-- ---- how a session ends

-- Bytes are less than a message, as far as they are one.
pub data IsPart : Phase → List ℕ → Type 0 where
  of_flags : {bytes : List ℕ} → length bytes < 4 → IsPart greeted bytes
  of_option_magic : {flags : ℕ} {bytes : List ℕ} → length bytes < 8 → IsPart (haggling flags) bytes
  of_option : {flags : ℕ} (magic head : List ℕ) → length magic ≡ 8 → number_at 8 magic 0 ≡ option_magic → length head < 8
      → IsPart (haggling flags) (magic ++ head)
  of_option_data : {flags : ℕ} (magic head text : List ℕ) → length magic ≡ 8 → number_at 8 magic 0 ≡ option_magic → length head ≡ 8
      → number_at 4 head 4 ≤ most_option_bytes → length text < number_at 4 head 4 → IsPart (haggling flags) (magic ++ head ++ text)
  of_request_magic : {bytes : List ℕ} → length bytes < 4 → IsPart transmitting bytes
  of_request : (magic head : List ℕ) → length magic ≡ 4 → number_at 4 magic 0 ≡ request_magic → length head < 24
      → IsPart transmitting (magic ++ head)
  of_write : IsPart cut_short []

-- The magic that comes next is wrong.
pub data HasBadMagic : Phase → List ℕ → Type 0 where
  bad_option : {flags : ℕ} {magic : List ℕ} → length magic ≡ 8 → number_at 8 magic 0 ≢ option_magic → HasBadMagic (haggling flags) magic
  bad_request : {magic : List ℕ} → length magic ≡ 4 → number_at 4 magic 0 ≢ request_magic → HasBadMagic transmitting magic

-- The length that comes next, so many bytes on, is above the limit.
pub data IsTooLong : Phase → ℕ → List ℕ → Type 0 where
  long_option : {flags : ℕ} (magic head : List ℕ) → length magic ≡ 8 → number_at 8 magic 0 ≡ option_magic → length head ≡ 8
      → most_option_bytes < number_at 4 head 4 → IsTooLong (haggling flags) 12 (magic ++ head)
  long_write : (magic head : List ℕ) → length magic ≡ 4 → number_at 4 magic 0 ≡ request_magic → length head ≡ 24
      → (request_of head).kind ≡ write_kind → most_bytes < (request_of head).len → IsTooLong transmitting 24 (magic ++ head)

-- The export that comes next is another.
pub data HasOtherName (e : Export) : Phase → List ℕ → Type 0 where
  other_name : {flags : ℕ} {magic head text : List ℕ} → IsOption export_name magic head text → text ≢ [] → text ≢ e.name
      → HasOtherName e (haggling flags) (magic ++ head ++ text)

-- The client's flags have other bits.
pub data HasOtherFlags : Phase → List ℕ → Type 0 where
  other_flags : {bytes : List ℕ} → length bytes ≡ 4 → 3 < number_at 4 bytes 0 → HasOtherFlags greeted bytes

-- How a session ends that comes to a phase at a place, with bytes behind the last message: by the last message, by what these
-- bytes are, by a fault of the source within a message, or of the sink behind one; or as many messages came as are served.
abbrev pub EndsAs : Export → Phase → ℕ → List ℕ → Option (List ℕ) → Result (Unit {0}) NbdRefusal → Type 0
EndsAs e last at tail left (Ok done) = (last ≡ over) × (tail ≡ [])
EndsAs e last at tail left (Err (refusals.Cut place)) = (place ≡ counted at (length tail)) × IsAtEnd left × IsPart last tail
EndsAs e last at tail left (Err (refusals.Magic place)) = (place ≡ at) × HasBadMagic last tail
EndsAs e last at tail left (Err refusals.OtherName) = HasOtherName e last tail
EndsAs e last at tail left (Err (refusals.TooLong place)) = (on : ℕ) × (place ≡ counted at on) × IsTooLong last on tail
EndsAs e last at tail left (Err refusals.OtherFlags) = HasOtherFlags last tail
EndsAs e last at tail left (Err (refusals.Source fault)) = IsPart last tail
EndsAs e last at tail left (Err (refusals.Sink fault)) = tail ≡ []
EndsAs e last at tail left (Err refusals.Spent) = tail ≡ []

-- so many messages are as many as are served, where that was the end
abbrev pub IsSpent : Result (Unit {0}) NbdRefusal → ℕ → Type 0
IsSpent (Ok done) messages = ⊤
IsSpent (Err (refusals.Cut place)) messages = ⊤
IsSpent (Err (refusals.Magic place)) messages = ⊤
IsSpent (Err refusals.OtherName) messages = ⊤
IsSpent (Err (refusals.TooLong place)) messages = ⊤
IsSpent (Err refusals.OtherFlags) messages = ⊤
IsSpent (Err (refusals.Source fault)) messages = ⊤
IsSpent (Err (refusals.Sink fault)) messages = ⊤
IsSpent (Err refusals.Spent) messages = most_messages ≤ messages

-- the text was sent; after a fault of the sink a part from its beginning, of so many bytes at least
abbrev pub IsSent : Result (Unit {0}) NbdRefusal → Option (List ℕ) → Option (List ℕ) → List ℕ → ℕ → Type 0
IsSent (Ok done) old new text least = Appends old new text
IsSent (Err (refusals.Cut place)) old new text least = Appends old new text
IsSent (Err (refusals.Magic place)) old new text least = Appends old new text
IsSent (Err refusals.OtherName) old new text least = Appends old new text
IsSent (Err (refusals.TooLong place)) old new text least = Appends old new text
IsSent (Err refusals.OtherFlags) old new text least = Appends old new text
IsSent (Err (refusals.Source fault)) old new text least = Appends old new text
IsSent (Err (refusals.Sink fault)) old new text least = (n : ℕ) × (least ≤ n) × Appends old new (take n text)
IsSent (Err refusals.Spent) old new text least = Appends old new text

-- the faults are as many as before, but for the one that is answered
abbrev pub CountsFaults : {D : Type 0} → Result (Unit {0}) NbdRefusal → World D → World D → Type 0
CountsFaults (Ok done) a b = (b.source_faults ≡ a.source_faults) × (b.sink_faults ≡ a.sink_faults)
CountsFaults (Err (refusals.Cut place)) a b = (b.source_faults ≡ a.source_faults) × (b.sink_faults ≡ a.sink_faults)
CountsFaults (Err (refusals.Magic place)) a b = (b.source_faults ≡ a.source_faults) × (b.sink_faults ≡ a.sink_faults)
CountsFaults (Err refusals.OtherName) a b = (b.source_faults ≡ a.source_faults) × (b.sink_faults ≡ a.sink_faults)
CountsFaults (Err (refusals.TooLong place)) a b = (b.source_faults ≡ a.source_faults) × (b.sink_faults ≡ a.sink_faults)
CountsFaults (Err refusals.OtherFlags) a b = (b.source_faults ≡ a.source_faults) × (b.sink_faults ≡ a.sink_faults)
CountsFaults (Err (refusals.Source fault)) a b = Rose a.source_faults b.source_faults × (fault.count ≡ b.source_faults) × (b.sink_faults ≡ a.sink_faults)
CountsFaults (Err (refusals.Sink fault)) a b = (b.source_faults ≡ a.source_faults) × Rose a.sink_faults b.sink_faults × (fault.count ≡ b.sink_faults)
CountsFaults (Err refusals.Spent) a b = (b.source_faults ≡ a.source_faults) × (b.sink_faults ≡ a.sink_faults)

-- what was sent in any case: what came before the answer that a fault of the sink cut, which may be the greeting
abbrev pub least_sent : Export → List Exchange → ℕ
least_sent e [] = 0
least_sent e (x ∷ xs) = length greeting + length (all_answers e (earlier (x ∷ xs)))

-- A session, over a disk that tells its calls so: the bytes that were taken of the source are the client's messages and less than one
-- more; the calls made for each message are its own, and the disk was taken by all of them, in order, from how it was to how it is; what
-- was told of them is true of the one history; the greeting and the answers were sent; and it ended as these bytes say. The source may
-- have been read further, by 64 KB at most. Few calls were made: beside the messages that are served there are the client's flags and
-- the export's name.
pub record IsServed {D : Type 0} (tells : Telling D) (known : D → Option Known) (e : Export) (a b : World D) (served : Served) : Type 0 where
  pub exchanges : List Exchange
  pub bytes : List ℕ
  pub last : Phase
  pub tail : List ℕ
  pub ahead : List ℕ
  pub reads : Reads e greeted bytes (map (λ x. x.message) exchanges) last
  pub taken : Consumes a.left (prepend_known ahead b.left) (bytes ++ tail)
  pub near : length ahead ≤ most_ahead
  pub makes : AllByRecursion (λ x. MakesCalls e x.message x.calls) exchanges
  pub runs : Runs tells a.disk (all_calls exchanges) b.disk
  pub history : Runs (Answers e.geometry.sector) (known a.disk) (all_calls exchanges) (known b.disk)
  pub sent : IsSent served.end a.written b.written (greeting ++ all_answers e exchanges) (least_sent e exchanges)
  pub fault : served.fault ≡ was_answered_by 5 e exchanges
  pub no_room : served.no_room ≡ was_answered_by 12 e exchanges
  pub counts : CountsFaults served.end a b
  pub ends : EndsAs e last (counted 0 (length bytes)) tail (prepend_known ahead b.left) served.end
  pub spent : IsSpent served.end (length exchanges)
  pub few : length (all_calls exchanges) ≤ most_calls * (most_messages + 2)
