-- A load on one thread, over the first byte of each sector alone.
use Rattle.std.specs.Prelude.{◌≡◌, ℕ, List, [], ◌∷◌, ◌+◌, ◌*◌, map, slice_index, sum}
use Rattle.std.specs.List.{range_with_len}
use Rattle.guest_model.specs.Calls.{Disk, apply, reply}
use Rattle.guest_model.specs.History.{IsSized}
use Rattle.script.specs.declared.form.Line.{Line}
use Rattle.load_calls.specs.Load.{call_of, sector_size}
use Rattle.load_calls.specs.Printed.{seen_in}

-- the first byte of each sector of a disk
unfoldable pub firsts_of : Disk → List ℕ
firsts_of disk = map (λ s. slice_index s 0) disk

-- these are the first bytes of a disk of whole sectors
pub record AreFirsts (firsts : List ℕ) (disk : Disk) : Type 0 where
  pub sized : IsSized sector_size disk
  pub are : firsts ≡ firsts_of disk

-- the sum of n bytes, each times its place, counted from 1
unfoldable pub weighed_firsts : List ℕ → ℕ → ℕ
weighed_firsts firsts n = sum (map (λ k. (k + 1) * slice_index firsts k) (range_with_len 0 n))

-- the disk behind lines, whoever's they are
unfoldable pub disk_behind : Disk → List Line → Disk
disk_behind disk [] = disk
disk_behind disk (l ∷ lines) = disk_behind (apply sector_size disk (call_of l.form)) lines

-- the sum of what their reads saw
unfoldable pub seen_behind : Disk → List Line → ℕ
seen_behind disk [] = 0
seen_behind disk (l ∷ lines) = seen_in (reply disk (call_of l.form)) + seen_behind (apply sector_size disk (call_of l.form)) lines

-- behind lines over a disk there are these first bytes, and so much was seen
pub record Leaves (lines : List Line) (firsts : List ℕ) (seen : ℕ) (disk : Disk) : Type 0 where
  pub left : AreFirsts firsts (disk_behind disk lines)
  pub saw : seen ≡ seen_behind disk lines
