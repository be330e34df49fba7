-- What the lines of a script are told, and how a transcript of `steps` tells it (profile).
use Rattle.std.specs.Prelude.{⊤, ℕ, ◌+◌, ◌*◌, List, [], ◌∷◌, ◌++◌, replicate, Option, Some, None, Result, Ok, Err, if◌then◌else◌}
use Rattle.store_model.specs.declared.fault.StoreFault.{StoreFault}
use Rattle.guest_model.specs.declared.call.Call.{Call}
use Rattle.guest_model.specs.declared.call.Call.TheVariants as calls
use Rattle.guest_model.specs.declared.call.Caller.{Caller}
use Rattle.guest_model.specs.declared.refusal.ChainRefusal.{ChainRefusal}
use Rattle.guest_model.specs.declared.refusal.ChainRefusal.TheVariants as refusals
use Rattle.script.specs.declared.form.Form.{Form}
use Rattle.script.specs.declared.form.Form.TheVariants.{Read, Write, Trim, Flush, Fetch, Put, Copy, Finish}
use Rattle.script.specs.declared.form.Line.{Line}
use Rattle.script.specs.Grammar.{is_call}
pub use Rattle.vhdx_format.specs.Fields.{sector_size}
use Rattle.script.specs.Transcript.{LineReply, answered, told_line}

-- What a line asks for: a guest's call; or a step of a merge, which is to fetch a stripe, to put what was fetched, to copy all stripes
-- that are missing, or to finish the merge.
pub data Asked : Type 0 where
  asks_call : (call : Call) → Asked
  asks_fetch : (stripe : ℕ) → Asked
  asks_put : Asked
  asks_copy : Asked
  asks_finish : Asked

-- each byte of what a write's line asks for is the line's
abbrev pub asked : Form → Asked
asked (Read first count) = asks_call (calls.Read first count)
asked (Write first count byte) = asks_call (calls.Write first (replicate (sector_size * count) byte))
asked (Trim first count) = asks_call (calls.Trim first count)
asked Flush = asks_call calls.Flush
asked (Fetch stripe) = asks_fetch stripe
asked Put = asks_put
asked Copy = asks_copy
asked Finish = asks_finish

-- all calls are guest 1's, who numbers them from 1; a step of a merge has no number
abbrev pub caller : ℕ → Caller
caller number = record { guest = 1; no = number }

abbrev pub next_number : ℕ → Form → ℕ
next_number number form = if is_call form then number + 1 else number

-- the number of the call behind lines, the first of which would have this one
abbrev pub number_behind : ℕ → List Line → ℕ
number_behind number [] = number
number_behind number (line ∷ lines) = number_behind (next_number number line.form) lines

-- What a line is told: the reply, a call with its place in the history, counted from 1; or why it was refused.
abbrev pub Told : Type 0
Told = Result (Option ℕ × LineReply) ChainRefusal

-- it isn't that memory ran out
abbrev pub HasMemory : Told → Type 0
HasMemory (Ok done) = ⊤
HasMemory (Err refusals.NoRoom) = ⊥
HasMemory (Err other) = ⊤

-- a line of the transcript
abbrev pub line_text : List (List ℕ) → Form → Told → List ℕ
line_text names form (Ok done) = told_line done.0 (answered names form (Ok done.1))
line_text names form (Err refusal) = told_line None (answered names form (Err refusal))

-- the transcript: a line for each of the script's, in its order
abbrev pub transcript : List (List ℕ) → List Line → List Told → List ℕ
transcript names [] told = []
transcript names (line ∷ lines) [] = []
transcript names (line ∷ lines) (told ∷ later) = line_text names line.form told ++ transcript names lines later

-- the fault of the store that refused the line, if one did
abbrev pub fault_of : Told → Option StoreFault
fault_of (Ok done) = None
fault_of (Err (refusals.Broken file count)) = Some (record { file = file; count = count })
fault_of (Err (refusals.ReadFault file count)) = Some (record { file = file; count = count })
fault_of (Err other) = None

-- the later of two, if there is one
abbrev pub later_of : Option StoreFault → Option StoreFault → Option StoreFault
later_of earlier None = earlier
later_of earlier (Some fault) = Some fault

-- the last one that refused a line
abbrev pub last_fault : List Told → Option StoreFault
last_fault [] = None
last_fault (told ∷ later) = later_of (fault_of told) (last_fault later)

-- the fault by which a session's end failed, if it did
abbrev pub failed_by : Result (Unit {0}) StoreFault → Option StoreFault
failed_by (Ok done) = None
failed_by (Err fault) = Some fault
