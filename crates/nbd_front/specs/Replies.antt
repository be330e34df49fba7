-- What a message is answered, by what was told of its calls (the protocol's document: simple replies; which refusal has which error:
-- profile).
use Rattle.std.specs.Prelude.{ℕ, ◌==◌, ◌&&◌, Bool, false, if◌then◌else◌, List, [], ◌++◌, Option, Some, None, Ok, Err}
use Rattle.std.specs.List.{flat_map}
use Rattle.guest_model.specs.declared.refusal.ChainRefusal.{ChainRefusal}
use Rattle.guest_model.specs.declared.refusal.ChainRefusal.TheVariants as refusals
use Rattle.guest_model.specs.declared.call.Reply.{Reply}
use Rattle.guest_model.specs.declared.call.Reply.TheVariants as replies
use Rattle.disk_calls.specs.Disks.{Answered, Told}
use Rattle.vx_base.specs.declared.parts.Geometry.{Geometry}
use Rattle.nbd_front.specs.declared.export.Export.{Export}
use Rattle.nbd_front.specs.declared.request.Request.{Request}
use Rattle.nbd_front.specs.Wire.{export_reply, option_reply, unsupported, acknowledged, abort, reply_head, read_kind}
use Rattle.nbd_front.specs.Calls.{first_refusal, judged, invalid}
use Rattle.nbd_front.specs.Messages.{Message, client_flags, other_option, named, aborted, asked, begun, disconnected}

-- The error of a refused call: not permitted (EPERM), no memory (ENOMEM), no space (ENOSPC), shut down (ESHUTDOWN), and an input or
-- output error (EIO) for a fault. The ranges of calls are valid, and no merge is asked for, so that the others don't come.
abbrev pub error_of : ChainRefusal → ℕ
error_of refusals.EmptyRange = invalid
error_of (refusals.OutOfRange first count sectors) = invalid
error_of (refusals.TooLong count limit) = invalid
error_of refusals.ReadOnly = 1
error_of (refusals.Broken file count) = 5
error_of (refusals.Spent t) = 108
error_of (refusals.FileFull next) = 28
error_of (refusals.ReadFault file count) = 5
error_of refusals.NoMerge = invalid
error_of (refusals.Stale taken now) = invalid
error_of (refusals.NotYet stripe) = invalid
error_of (refusals.Abandoned file count) = 5
error_of (refusals.NoStripe stripe stripes) = invalid
error_of refusals.NoPiece = invalid
error_of refusals.NoRoom = 12

-- the error of calls by their first refusal, or 0
abbrev pub error_among : Option ChainRefusal → ℕ
error_among None = 0
error_among (Some refusal) = error_of refusal

-- the error of a request
unfoldable pub error_in : Geometry → Request → List Answered → ℕ
error_in size r calls = if judged size r == 0 then error_among (first_refusal calls) else judged size r

-- the bytes that calls gave
abbrev pub bytes_in : Reply → List ℕ
bytes_in (replies.Bytes bytes) = bytes
bytes_in replies.Done = []

abbrev pub bytes_told : Told → List ℕ
bytes_told (Ok said) = bytes_in said.1
bytes_told (Err refusal) = []

unfoldable pub bytes_given : List Answered → List ℕ
bytes_given calls = flat_map (λ c. bytes_told c.said) calls

-- the answer to a request: a head, and the bytes of a read that wasn't refused
unfoldable pub answer : Geometry → Request → List Answered → List ℕ
answer size r calls =
    reply_head (error_in size r calls) r.cookie
    ++ (if (r.kind == read_kind) && (error_in size r calls == 0) then bytes_given calls else [])

-- what a message is answered
abbrev pub answer_to : Export → Message → List Answered → List ℕ
answer_to e (client_flags flags) calls = []
answer_to e (other_option number) calls = option_reply number unsupported
answer_to e (named flags) calls = export_reply e flags
answer_to e aborted calls = option_reply abort acknowledged
answer_to e (asked r bytes) calls = answer e.geometry r calls
answer_to e (begun r bytes) calls = []
answer_to e disconnected calls = []

-- a message is answered by that error
abbrev pub is_answered_by : ℕ → Export → Message → List Answered → Bool
is_answered_by error e (client_flags flags) calls = false
is_answered_by error e (other_option number) calls = false
is_answered_by error e (named flags) calls = false
is_answered_by error e aborted calls = false
is_answered_by error e (asked r bytes) calls = error_in e.geometry r calls == error
is_answered_by error e (begun r bytes) calls = false
is_answered_by error e disconnected calls = false
