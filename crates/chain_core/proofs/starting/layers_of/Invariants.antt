use Rattle.std.proofs.Common.{take}
use Rattle.chain_core.specs.Starting.{AreReadOf}
use Rattle.chain_core.proofs.starting.layers_of.Given as goal

-- so far each file has its layer
abbrev pub invariant-loop-place : goal.invariant-loop-place
invariant-loop-place l = AreReadOf l.first (take l.place l.files) l.layers.items
