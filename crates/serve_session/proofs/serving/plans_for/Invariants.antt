use Rattle.std.proofs.Common.{◌≡◌, length}
use Rattle.serve_session.proofs.serving.plans_for.Given as goal

abbrev pub invariant-loop : goal.invariant-loop
invariant-loop l = length l.plans.items ≡ l.counter
