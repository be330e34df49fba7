use Rattle.std.proofs.Common.{◌≡◌, ◌++◌, List, ℕ, ◌+◌, ◌*◌, length}
use Rattle.std.specs.Io.KnownBytes.{Appends}
use Rattle.printing.specs.Answers.{sector_lines}
use Rattle.printing.proofs.line.send_sectors.Given as goal

-- what was written so far and the lines of the rest are the lines of all
abbrev pub invariant-loop-left : goal.invariant-loop-left
invariant-loop-left g l =
    (length l.page ≡ 65536)
    × (l.number + l.left ≡ l.first + l.count)
    × (length l.rest ≡ 512 * l.left)
    × (g.K.Sink.faults l.out ≡ g.K.Sink.faults l.initial.out)
    × ((done : List ℕ) × Appends (g.K.Sink.written l.initial.out) (g.K.Sink.written l.out) done × (done ++ sector_lines 512 l.number l.rest l.left ≡ sector_lines 512 l.first l.sectors l.count))

abbrev pub decreases-loop-left : goal.decreases-loop-left
decreases-loop-left g l = l.left
