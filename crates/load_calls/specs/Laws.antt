-- The laws of loads, as facts that a contract can name.
use Rattle.std.specs.Prelude.{◌≡◌, ℕ, List, [], ◌∷◌, ◌++◌, ◌+◌, ◌/◌, ◌≤◌, ◌&&◌, Bool, false, count_by, if◌then◌else◌, length, nat_le, sum_by}
use Rattle.std.specs.List.{AllByRecursion}
use Rattle.guest_model.specs.declared.call.Call.{Call}
use Rattle.guest_model.specs.declared.call.Entry.{Entry}
use Rattle.guest_model.specs.Calls.{Disk, bytes_of, first_sector, reply, sector_count}
use Rattle.guest_model.specs.History.{History, IsSized, is_flush, replay, sector_at}
use Rattle.script.specs.declared.form.Form.TheVariants.{Flush}
use Rattle.script.specs.declared.form.Line.{Line}
use Rattle.load_calls.specs.Histories.{AreShared, EachAt, EndAlike, HaveSameCalls, IsToldAt, KeepsToOwn, StandsAt, Told, entries_of, told_in, told_to}
use Rattle.load_calls.specs.Load.{IsHistoryOf, call_of, calls_of, entries_from, forms_of, load_lines, one_thread, prepared_disk, preparing_lines, sector_size, writes_to}
use Rattle.load_calls.specs.Printed.{history_text, lines_that, load_text, page_sum, sectors_sum, seen_in, seen_sum}

-- ---- of guests who keep to sectors of their own

-- what a history leaves in a sector is what the calls of its owner alone leave there
abbrev pub OwnersDecide : Type 0
OwnersDecide =
    (z : ℕ) (owner : ℕ → ℕ) (disk : Disk) (h : History) → AllByRecursion (KeepsToOwn z owner) h →
    (i : ℕ) → sector_at (replay z disk h) i ≡ sector_at (replay z disk (entries_of (owner i) h)) i

-- a call is told what its guest's own calls before it alone would have it told
abbrev pub OwnersAreTold : Type 0
OwnersAreTold =
    (z : ℕ) (owner : ℕ → ℕ) (disk : Disk) (h : History) (e : Entry) → AllByRecursion (KeepsToOwn z owner) (h ++ e ∷ []) →
    reply (replay z disk h) e.call ≡ reply (replay z disk (entries_of e.guest h)) e.call

-- however their calls stand between each other, they end alike
abbrev pub OrdersEndAlike : Type 0
OrdersEndAlike =
    (z : ℕ) (owner : ℕ → ℕ) (disk : Disk) (h k : History) → AllByRecursion (KeepsToOwn z owner) k → HaveSameCalls h k → EndAlike z disk h k

-- Where the calls of each guest's lines stand at the guest's places, and the places are shared out, it is a history of the lines.
abbrev pub PlacesDecide : Type 0
PlacesDecide =
    (lines : List Line) (h : History) (places : ℕ → List ℕ) → AreShared (length h) places →
    ((g : ℕ) → EachAt (StandsAt h) (places g) (entries_from g 1 (forms_of g lines))) → IsHistoryOf lines h

-- And what each guest was told at its places is what the history tells it.
abbrev pub PlacesTell : Type 0
PlacesTell =
    (z : ℕ) (disk : Disk) (h : History) (places : ℕ → List ℕ) (told : ℕ → List Told) → AreShared (length h) places →
    ((g : ℕ) → AllByRecursion (λ t. t.entry.guest ≡ g) (told g)) → ((g : ℕ) → EachAt (IsToldAt z disk h) (places g) (told g)) →
    (g : ℕ) → told_to g (told_in z disk h) ≡ told g

-- ---- of a load

-- guest g has the 32,768 sectors from (g - 1) * 32,768 on
abbrev pub owner_of : ℕ → ℕ
owner_of i = i / 32768 + 1

-- the lines of a load: 256 of each of four guests, and 33 for each file before them
pub record HasLines (seed : ℕ) : Type 0 where
  pub forms : (guest : ℕ) → forms_of guest (load_lines seed) ≡ (if nat_le 1 guest && nat_le guest 4 then calls_of seed guest else [])
  pub each : (guest : ℕ) → length (calls_of seed guest) ≡ 256
  pub guests : AllByRecursion (λ l. (1 ≤ l.guest) × (l.guest ≤ 4)) (load_lines seed)
  pub all : length (load_lines seed) ≡ 1024
  pub preparing : (file : ℕ) → length (preparing_lines seed file) ≡ 33
  pub prepared : (file : ℕ) → forms_of 1 (preparing_lines seed file) ≡ writes_to seed file ++ Flush ∷ []

abbrev pub LoadsHaveLines : Type 0
LoadsHaveLines = (seed : ℕ) → HasLines seed

-- its calls on one thread are a history of its lines
abbrev pub LoadsRunAlone : Type 0
LoadsRunAlone = (seed : ℕ) → IsHistoryOf (load_lines seed) (one_thread seed)

-- the guests of a load keep to their own sectors
abbrev pub LoadsKeepToOwn : Type 0
LoadsKeepToOwn = (seed : ℕ) → AllByRecursion (KeepsToOwn sector_size owner_of) (one_thread seed)

-- each call that isn't a flush is of 1 to 16 sectors, all of them on the disk
abbrev pub IsPlaced : Call → Type 0
IsPlaced call =
    is_flush call ≡ false → (1 ≤ sector_count sector_size call) × (sector_count sector_size call ≤ 16) × (first_sector call + sector_count sector_size call ≤ 131072)

abbrev pub LoadsArePlaced : Type 0
LoadsArePlaced = (seed : ℕ) → AllByRecursion (λ e. IsPlaced e.call) (one_thread seed)

abbrev pub WritesArePlaced : Type 0
WritesArePlaced = (seed file : ℕ) → AllByRecursion (λ form. IsPlaced (call_of form)) (writes_to seed file)

-- every history of its lines ends as on one thread
abbrev pub LoadsEndAlike : Type 0
LoadsEndAlike = (seed : ℕ) (disk : Disk) (h : History) → IsHistoryOf (load_lines seed) h → EndAlike sector_size disk h (one_thread seed)

-- and the same is printed of it
abbrev pub LoadsPrintAlike : Type 0
LoadsPrintAlike = (seed : ℕ) (h : History) → IsHistoryOf (load_lines seed) h → history_text (prepared_disk seed) h ≡ load_text seed

-- what its reads saw is what each guest's saw
abbrev pub GuestsSee : Type 0
GuestsSee =
    (seed : ℕ) (disk : Disk) (h : History) → IsHistoryOf (load_lines seed) h →
    let seen_by : ℕ → ℕ = λ g. sum_by (λ t. seen_in t.told) (told_to g (told_in sector_size disk h)) in
    seen_sum disk h ≡ seen_by 1 + seen_by 2 + seen_by 3 + seen_by 4

-- it has 1,024 calls
abbrev pub LoadsAreCounted : Type 0
LoadsAreCounted = (seed : ℕ) (h : History) → IsHistoryOf (load_lines seed) h → length h ≡ 1024

-- its lines are counted as its calls are
abbrev pub LinesAreCounted : Type 0
LinesAreCounted = (seed : ℕ) (is : Call → Bool) → lines_that is (load_lines seed) ≡ count_by (λ e. is e.call) (one_thread seed)

-- ---- of what is printed

-- sectors may be summed by their bytes
abbrev pub PagesAreSectors : Type 0
PagesAreSectors = (first : ℕ) (sectors : Disk) → IsSized sector_size sectors → page_sum first (bytes_of sectors) ≡ sectors_sum first sectors

-- and in parts
abbrev pub PagesAddUp : Type 0
PagesAddUp = (first : ℕ) (a b : Disk) → sectors_sum first (a ++ b) ≡ sectors_sum first a + sectors_sum (first + length a) b
