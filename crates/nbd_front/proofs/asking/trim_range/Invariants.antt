use Rattle.std.proofs.Common.{◌≡◌, ◌≤◌, ◌+◌, ◌-◌, [], Option}
use Rattle.guest_model.specs.declared.refusal.ChainRefusal.{ChainRefusal}
use Rattle.nbd_front.specs.Calls.{trim_calls}
use Rattle.nbd_front.specs.Parts.{Asks}
use Rattle.nbd_front.proofs.asking.trim_range.Given as goal

-- however the rest is asked for, it was all asked for with what came before
abbrev pub invariant-loop-done : goal.invariant-loop-done
invariant-loop-done g l = record {
  inside : l.done ≤ l.len;
  size : g.D.DiskCalls.size l.disk ≡ g.D.DiskCalls.size l.initial.disk;
  rest : (new : g.row.D.Denot) (refused : Option ChainRefusal)
      → Asks g.D.DiskCalls.tells (trim_calls l.sector (l.offset + l.done) (l.len - l.done)) l.disk new refused []
      → Asks g.D.DiskCalls.tells (trim_calls l.sector l.offset l.len) l.initial.disk new refused [];
}

abbrev pub decreases-loop-done : goal.decreases-loop-done
decreases-loop-done g l = l.len - l.done
