use Rattle.std.proofs.Common.{◌≡◌, length}
use Rattle.serve_session.proofs.merging.pieces_for.Given as goal

abbrev pub invariant-loop : goal.invariant-loop
invariant-loop l = length l.pieces.items ≡ l.counter
