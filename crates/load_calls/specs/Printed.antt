-- What `load` prints (profile).
use Rattle.std.specs.Prelude.{◌≡◌, ℕ, List, ◌++◌, ◌+◌, ◌*◌, ◌/◌, Bool, true, false, codes, count_by, decimal, length, map, slice_index, sum, sum_by}
use Rattle.std.specs.List.{enumerate_from, range_with_len}
use Rattle.guest_model.specs.declared.call.Call.{Call}
use Rattle.guest_model.specs.declared.call.Call.TheVariants.{Read, Write, Trim}
use Rattle.guest_model.specs.declared.call.Reply.{Reply}
use Rattle.guest_model.specs.declared.call.Reply.TheVariants as replies
use Rattle.guest_model.specs.Calls.{Disk}
use Rattle.guest_model.specs.History.{History, is_flush, replay}
use Rattle.script.specs.declared.form.Line.{Line}
use Rattle.load_calls.specs.declared.text.Counts.{Counts}
use Rattle.load_calls.specs.Histories.{told_in}
use Rattle.load_calls.specs.Load.{call_of, one_thread, prepared_disk, sector_size}

abbrev pub is_write : Call → Bool
is_write (Write first bytes) = true
is_write other = false

abbrev pub is_trim : Call → Bool
is_trim (Trim first count) = true
is_trim other = false

abbrev pub is_read : Call → Bool
is_read (Read first count) = true
is_read other = false

-- the sum over sectors, the first of them being that of a number: the first byte of each, times one more than its number
abbrev pub sectors_sum : ℕ → Disk → ℕ
sectors_sum first sectors = sum_by (λ s. (s.0 + 1) * slice_index s.1 0) (enumerate_from first sectors)

-- the same of a whole disk
abbrev pub disk_sum : Disk → ℕ
disk_sum disk = sectors_sum 0 disk

-- the sum of the first bytes of n sectors whose bytes stand one behind the other
unfoldable pub first_bytes : List ℕ → ℕ → ℕ
first_bytes bytes n = sum (map (λ k. slice_index bytes (sector_size * k)) (range_with_len 0 n))

-- the sum of the first bytes of the sectors that a read answered
abbrev pub seen_in : Reply → ℕ
seen_in (replies.Bytes bytes) = first_bytes bytes (length bytes / sector_size)
seen_in replies.Done = 0

-- the same of all reads of a history
abbrev pub seen_sum : Disk → History → ℕ
seen_sum disk h = sum_by (λ t. seen_in t.told) (told_in sector_size disk h)

-- the three lines
abbrev pub counts_line : ℕ → ℕ → ℕ → ℕ → ℕ → List ℕ
counts_line calls writes trims reads flushes =
    (codes "calls " ++ decimal calls ++ codes " writes " ++ decimal writes)
    ++ (codes " trims " ++ decimal trims ++ codes " reads " ++ decimal reads ++ codes " flushes " ++ decimal flushes ++ codes "\n")

abbrev pub lines_text : ℕ → ℕ → ℕ → ℕ → ℕ → ℕ → ℕ → List ℕ
lines_text calls writes trims reads flushes disk seen =
    counts_line calls writes trims reads flushes ++ (codes "disk " ++ decimal disk ++ codes "\n") ++ (codes "seen " ++ decimal seen ++ codes "\n")

-- the lines of a history: how many calls it has, and of each kind; the sum of the disk that it leaves, and of what its reads saw
abbrev pub history_text : Disk → History → List ℕ
history_text disk h =
    lines_text (length h) (count_by (λ e. is_write e.call) h) (count_by (λ e. is_trim e.call) h) (count_by (λ e. is_read e.call) h)
    (count_by (λ e. is_flush e.call) h) (disk_sum (replay sector_size disk h)) (seen_sum disk h)

-- what a load of this seed prints: the lines of its calls guest after guest
abbrev pub load_text : ℕ → List ℕ
load_text seed = history_text (prepared_disk seed) (one_thread seed)

-- ---- of the code

-- the sum over n sectors whose bytes stand one behind the other, the first sector being that of a number
unfoldable pub weighed_bytes : ℕ → List ℕ → ℕ → ℕ
weighed_bytes first bytes n = sum (map (λ k. (first + k + 1) * slice_index bytes (sector_size * k)) (range_with_len 0 n))

-- the same of all that the bytes are
abbrev pub page_sum : ℕ → List ℕ → ℕ
page_sum first bytes = weighed_bytes first bytes (length bytes / sector_size)

-- how many of some lines are such calls
abbrev pub lines_that : (Call → Bool) → List Line → ℕ
lines_that is lines = count_by (λ l. is (call_of l.form)) lines

pub record AreCounted (lines : List Line) (counts : Counts) : Type 0 where
  pub calls : counts.calls ≡ length lines
  pub writes : counts.writes ≡ lines_that is_write lines
  pub trims : counts.trims ≡ lines_that is_trim lines
  pub reads : counts.reads ≡ lines_that is_read lines
  pub flushes : counts.flushes ≡ lines_that is_flush lines
