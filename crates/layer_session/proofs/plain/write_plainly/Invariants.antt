use Rattle.std.proofs.Common.{◌≡◌}
use Rattle.layer_session.proofs.plain.write_plainly.Given as goal

-- what the store tells, and its counts, are as they were
abbrev pub invariant-loop-page : goal.invariant-loop-page
invariant-loop-page g l = g.S.Store.disk l.store ≡ g.S.Store.disk l.fn.store
