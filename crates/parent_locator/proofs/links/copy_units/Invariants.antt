use Rattle.std.proofs.Common.{◌≡◌, ◌++◌, drop}
use Rattle.parent_locator.proofs.links.copy_units.Given as goal

-- those so far and those that are left are all
abbrev pub invariant-loop-unit : goal.invariant-loop-unit
invariant-loop-unit l = l.copy ++ drop l.unit-index l.units ≡ l.units
