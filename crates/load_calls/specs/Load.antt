-- The calls of a load, which are drawn from its seed (profile). Places and counts are in sectors of 512 bytes.
use Rattle.std.specs.Prelude.{◌≡◌, ℕ, List, [], ◌∷◌, ◌++◌, ◌+◌, ◌-◌, ◌*◌, ◌/◌, ◌%◌, ◌==◌, ◌&&◌, filter, nat_lt, map, replicate, if◌then◌else◌}
use Rattle.std.specs.List.{range_with_len}
use Rattle.vx_base.specs.Fields.{zeros}
use Rattle.guest_model.specs.declared.call.Call.{Call}
use Rattle.guest_model.specs.declared.call.Call.TheVariants as calls
use Rattle.guest_model.specs.Calls.{Disk}
use Rattle.guest_model.specs.History.{History, replay}
use Rattle.script.specs.Grammar.{is_call}
use Rattle.script.specs.declared.form.Form.{Form}
use Rattle.script.specs.declared.form.Form.TheVariants.{Read, Write, Trim, Flush}
use Rattle.script.specs.declared.form.Line.{Line}
use Rattle.load_calls.specs.Draws.{draw}
use Rattle.load_calls.specs.Histories.{entries_of}

-- ---- one call, by the two numbers that it draws

-- it is of 1 to 16 sectors
abbrev pub sectors_by : ℕ → ℕ
sectors_by a = 1 + a / 8 % 16

-- each byte of a write is this one
abbrev pub byte_by : ℕ → ℕ
byte_by b = b / 32768 % 256

-- a write that is made before the guests, anywhere on the disk
abbrev pub write_by : ℕ → ℕ → Form
write_by a b = Write (b % 131057) (sectors_by a) (byte_by b)

-- a guest's call, within the guest's own 32,768 sectors: of eight four are writes, one is a trim, two are reads, one is a flush
abbrev pub call_by : ℕ → ℕ → ℕ → Form
call_by guest a b =
    let first = (guest - 1) * 32768 + b % 32753 in
    if nat_lt (a % 8) 4 then Write first (sectors_by a) (byte_by b)
    else if a % 8 == 4 then Trim first (sectors_by a)
    else if nat_lt (a % 8) 7 then Read first (sectors_by a)
    else Flush

-- ---- all of them

-- the call at place k of a load, counted from 0, draws the numbers 2 k + 1 and 2 k + 2
abbrev pub drawn_at : (ℕ → ℕ → Form) → ℕ → ℕ → Form
drawn_at form_by seed k = form_by (draw seed (2 * k + 1)) (draw seed (2 * k + 2))

-- so many of them, from place k on
unfoldable pub forms_from : (ℕ → ℕ → Form) → ℕ → ℕ → ℕ → List Form
forms_from form_by seed k n = map (λ j. drawn_at form_by seed j) (range_with_len k n)

-- the first 128 are writes, 32 to each of four files, the first file being that of number 0
abbrev pub writes_to : ℕ → ℕ → List Form
writes_to seed file = forms_from write_by seed (32 * file) 32

-- then come 256 of each of four guests, the first of them being guest 1
abbrev pub calls_of : ℕ → ℕ → List Form
calls_of seed guest = forms_from (call_by guest) seed (128 + 256 * (guest - 1)) 256

-- ---- as lines of scripts

abbrev pub lines_of : ℕ → List Form → List Line
lines_of guest forms = map (λ form. record { guest = guest; form = form }) forms

-- what is done to a file before the next one is made: its writes, and a flush
abbrev pub preparing_lines : ℕ → ℕ → List Line
preparing_lines seed file = lines_of 1 (writes_to seed file ++ Flush ∷ [])

-- the guests' calls, guest after guest
abbrev pub load_lines : ℕ → List Line
load_lines seed = lines_of 1 (calls_of seed 1) ++ lines_of 2 (calls_of seed 2) ++ lines_of 3 (calls_of seed 3) ++ lines_of 4 (calls_of seed 4)

-- ---- as a history

abbrev pub sector_size : ℕ
sector_size = 512

-- the call that a form asks for; each byte of a write is the form's
abbrev pub call_of : Form → Call
call_of (Read first count) = calls.Read first count
call_of (Write first count byte) = calls.Write first (replicate (sector_size * count) byte)
call_of (Trim first count) = calls.Trim first count
call_of other = calls.Flush

-- the entries of a guest's calls, the first of which has this number
abbrev pub entries_from : ℕ → ℕ → List Form → History
entries_from guest number [] = []
entries_from guest number (form ∷ forms) = record { guest = guest; no = number; call = call_of form } ∷ entries_from guest (number + 1) forms

-- the forms of one guest's calls among lines, in their order
abbrev pub forms_of : ℕ → List Line → List Form
forms_of guest lines = map (λ l. l.form) (filter (λ l. (l.guest == guest) && is_call l.form) lines)

-- A history of lines: each guest's calls stand in it in the lines' order, each once, and nothing else does.
abbrev pub IsHistoryOf : List Line → History → Type 0
IsHistoryOf lines h = (guest : ℕ) → entries_of guest h ≡ entries_from guest 1 (forms_of guest lines)

abbrev pub guest_history : ℕ → ℕ → History
guest_history seed guest = entries_from guest 1 (calls_of seed guest)

-- the calls guest after guest, as one thread makes them
abbrev pub one_thread : ℕ → History
one_thread seed = guest_history seed 1 ++ guest_history seed 2 ++ guest_history seed 3 ++ guest_history seed 4

-- ---- the disk that the guests find

-- so many sectors of zeros
unfoldable pub zero_sectors : ℕ → Disk
zero_sectors n = replicate n (zeros sector_size)

-- a new disk
abbrev pub new_disk : Disk
new_disk = zero_sectors 131072

-- the calls of the lines that prepare a file, as a history
abbrev pub preparing_history : ℕ → ℕ → History
preparing_history seed file = entries_from 1 1 (writes_to seed file ++ Flush ∷ [])

-- what the writes to a file leave
abbrev pub with_writes : ℕ → ℕ → Disk → Disk
with_writes seed file disk = replay sector_size disk (preparing_history seed file)

-- the disk behind the writes to all four
abbrev pub prepared_disk : ℕ → Disk
prepared_disk seed = with_writes seed 3 (with_writes seed 2 (with_writes seed 1 (with_writes seed 0 new_disk)))
