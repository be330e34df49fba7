use Rattle.std.proofs.Common.{◌≡◌, ◌+◌, All, length}
use Rattle.serve_session.specs.Tools.{AreToolsFor}
use Rattle.serve_session.proofs.tools.tools_for.Given as goal

-- tools for each piece that was taken
abbrev pub invariant-loop-piece : goal.invariant-loop-piece
invariant-loop-piece g l = record {
  count : length l.tools.items + length l.pieces.items ≡ length l.fn.pieces.items;
  each : All (AreToolsFor g.S.Store.disk l.chain) l.tools.items;
}

abbrev pub decreases-loop-piece : goal.decreases-loop-piece
decreases-loop-piece g l = length l.pieces.items
