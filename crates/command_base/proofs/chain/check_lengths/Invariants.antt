use Rattle.std.proofs.Common.{◌≡◌}
use Rattle.store_model.specs.Disk.{WhereTold}
use Rattle.command_base.specs.Commands.{AreShort}
use Rattle.command_base.proofs.chain.check_lengths.Given as goal

-- the store is as it was, and the files so far are short enough
abbrev pub invariant-loop-number : goal.invariant-loop-number
invariant-loop-number g l = record {
  same : g.S.Store.disk l.store ≡ g.S.Store.disk l.initial.store;
  short : WhereTold (g.S.Store.disk l.initial.store).told (AreShort l.number);
}
