use Rattle.std.proofs.Common.{◌≡◌, ◌≤◌, ◌<◌, ◌+◌, ◌-◌, ◌*◌, ◌^◌, take}
use Rattle.store_model.specs.Disk.{WhereTold}
use Rattle.chain_model.specs.Images.{members_of}
use Rattle.chain_model.specs.Members.{disk_of}
use Rattle.command_base.specs.Commands.{placed_from}
use Rattle.load_calls.specs.Printed.{sectors_sum}
use Rattle.load_command.proofs.sum.sum_store.Given as goal

-- the sum is that of the sectors so far, each page of which adds at most 2^52; the store is as it was
abbrev pub invariant-loop-first : goal.invariant-loop-first
invariant-loop-first g l = record {
  within : l.first ≤ l.sectors;
  few : l.first < l.sectors → l.sum * 2048 ≤ 2 ^ 52 * (l.first + 2047);
  same : g.S.Store.disk l.store ≡ g.S.Store.disk l.initial.store;
  sum : WhereTold (g.S.Store.disk l.initial.store).told (λ trace. l.sum ≡ sectors_sum 0 (take l.first (disk_of (members_of (placed_from 0 l.files trace)))));
}

abbrev pub decreases-loop-first : goal.decreases-loop-first
decreases-loop-first g l = l.sectors - l.first
