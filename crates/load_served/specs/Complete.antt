-- Scripts of which every call was made, and told its reply: their history is one of their lines, and of a load what its reads saw is what
-- the tally says (profile).
use Rattle.std.specs.Prelude.{◌≡◌, ◌≤◌, ℕ, Bool, List, length, sum_by, Option, None}
use Rattle.std.specs.List.{AllByRecursion}
use Rattle.store_model.specs.declared.fault.StoreFault.{StoreFault}
use Rattle.guest_model.specs.History.{History, replay}
use Rattle.script.specs.declared.form.Line.{Line}
use Rattle.script_session.specs.Histories.{Break, Drive}
use Rattle.load_calls.specs.Load.{IsHistoryOf, load_lines, prepared_disk, preparing_history, preparing_lines, sector_size}
use Rattle.load_calls.specs.Printed.{AreCounted, disk_sum, lines_text, load_text, seen_sum}
use Rattle.load_calls.specs.declared.text.Counts.{Counts}
use Rattle.serve_session.specs.Served.{AreServed, IsWhole, Outcome, all_unread, asked_by, guest_count}
use Rattle.serve_session.specs.Tallies.{all_outcomes, first_refused, seen_of}

-- every call was made, none was refused, and no read failed by a reader
pub record AreAnswered (lines : List Line) (guests : List (List Outcome)) : Type 0 where
  pub whole : IsWhole (asked_by lines) guests
  pub taken : first_refused (all_outcomes guests) ≡ None
  pub read : length (all_unread guests) ≡ 0

-- each line is one of so many guests'
abbrev pub AreGuests : ℕ → List Line → Type 0
AreGuests count lines = AllByRecursion (λ l. (1 ≤ l.guest) × (l.guest ≤ count)) lines

-- The history of guests who were answered is one of the script's lines.
abbrev pub AnswersAreHistories : Type 0
AnswersAreHistories =
    (merges : Bool) (drive : Drive) (lines : List Line) (guests : List (List Outcome)) (h : History) (ended : Option StoreFault) (broken : Option Break) → AreServed merges drive (asked_by lines) guests h ended broken
    → AreGuests (length guests) lines → AreAnswered lines guests → IsHistoryOf lines h

-- What a load's guests saw who were answered is what the reads of the history see.
abbrev pub AnswersAreSeen : Type 0
AnswersAreSeen =
    (merges : Bool) (drive : Drive) (seed : ℕ) (guests : List (List Outcome)) (h : History) (ended : Option StoreFault) (broken : Option Break) → AreServed merges drive (asked_by (load_lines seed)) guests h ended broken
    → length guests ≡ 4 → AreAnswered (load_lines seed) guests → sum_by seen_of (all_outcomes guests) ≡ seen_sum drive.opening h

-- And where the session found the disk that a load's writes leave, the three lines are those of its calls guest after guest: by the counts of its
-- lines, the sum of the disk that the session leaves, and what its guests saw.
abbrev pub AnswersPrintAlike : Type 0
AnswersPrintAlike =
    (merges : Bool) (drive : Drive) (seed : ℕ) (guests : List (List Outcome)) (h : History) (ended : Option StoreFault) (broken : Option Break) (counts : Counts) → drive.opening ≡ prepared_disk seed
    → AreServed merges drive (asked_by (load_lines seed)) guests h ended broken → length guests ≡ 4 → AreAnswered (load_lines seed) guests → AreCounted (load_lines seed) counts
    → lines_text counts.calls counts.writes counts.trims counts.reads counts.flushes (disk_sum (replay sector_size drive.opening h)) (sum_by seen_of (all_outcomes guests)) ≡ load_text seed

-- A load has four guests, and one prepares each of its files, whose calls have one history.
pub record HaveGuests (seed : ℕ) : Type 0 where
  pub guests : guest_count (load_lines seed) ≡ 4
  pub own : AreGuests 4 (load_lines seed)
  pub preparing : (file : ℕ) → guest_count (preparing_lines seed file) ≡ 1
  pub preparing_own : (file : ℕ) → AreGuests 1 (preparing_lines seed file)
  pub prepared : (file : ℕ) (h : History) → IsHistoryOf (preparing_lines seed file) h → h ≡ preparing_history seed file

abbrev pub LoadsHaveGuests : Type 0
LoadsHaveGuests = (seed : ℕ) → HaveGuests seed
