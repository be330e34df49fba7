use Rattle.std.proofs.Common.{◌≡◌, drop}
use Rattle.serve_session.specs.Served.{greatest_from}
use Rattle.serve_session.proofs.serving.greatest.Given as goal

-- the greatest so far, and of the lines that are left
abbrev pub invariant-loop-line : goal.invariant-loop-line
invariant-loop-line l = greatest_from l.guest (drop l.line-index l.lines) ≡ greatest_from 0 l.lines
