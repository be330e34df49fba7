use Rattle.std.proofs.Common.{◌≡◌, ◌≤◌, ◌+◌, ◌-◌, ◌++◌, ℕ, length, take, List, Option}
use Rattle.guest_model.specs.declared.refusal.ChainRefusal.{ChainRefusal}
use Rattle.disk_calls.specs.Disks.{IsWhole}
use Rattle.nbd_front.specs.Calls.{read_calls}
use Rattle.nbd_front.specs.Parts.{Asks}
use Rattle.nbd_front.proofs.asking.read_into.Given as goal

-- however the rest is asked for, it was all asked for with what came before
abbrev pub invariant-loop-done : goal.invariant-loop-done
invariant-loop-done g l = record {
  inside : l.done ≤ length l.out;
  even : IsWhole l.sector (length l.out - l.done);
  size : g.D.DiskCalls.size l.disk ≡ g.D.DiskCalls.size l.initial.disk;
  rest : (new : g.row.D.Denot) (refused : Option ChainRefusal) (given : List ℕ)
      → Asks g.D.DiskCalls.tells (read_calls l.sector (l.offset + l.done) (length l.out - l.done)) l.disk new refused given
      → Asks g.D.DiskCalls.tells (read_calls l.sector l.offset (length l.out)) l.initial.disk new refused (take l.done l.out ++ given);
}

abbrev pub decreases-loop-done : goal.decreases-loop-done
decreases-loop-done g l = length l.initial.out - l.done
