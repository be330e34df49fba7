use Rattle.std.proofs.Common.{◌≡◌, ◌≤◌, ◌++◌, ◌+◌, ◌-◌, ◌*◌, length, take}
use Rattle.printing.specs.Answers.{sector_lines}
use Rattle.printing.proofs.line.write_lines.Given as goal

-- what is filled and the lines of the rest are the lines of all
abbrev pub invariant-loop-number : goal.invariant-loop-number
invariant-loop-number l =
    (length l.page ≡ 65536)
    × (l.filled ≤ 1046 * (l.number - l.first))
    × (512 * (l.first + l.count - l.number) ≤ length l.rest)
    × (take l.filled l.page ++ sector_lines 512 l.number l.rest (l.first + l.count - l.number) ≡ sector_lines 512 l.first l.sectors l.count)
