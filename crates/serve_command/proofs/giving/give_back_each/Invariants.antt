use Rattle.std.proofs.Common.{◌≡◌, ◌++◌, List, length, true}
use Rattle.store_model.specs.Disk.{Sealed}
use Rattle.store_model.specs.Folder.{RoseWhere}
use Rattle.serve_session.specs.Back.{any_failed}
use Rattle.serve_command.proofs.giving.give_back_each.Given as goal

-- those that were taken have come back
abbrev pub invariant-loop-set : goal.invariant-loop-set
invariant-loop-set g l = record {
  gone : List (List Sealed);
  whole : l.fn.sets.items ≡ l.sets.items ++ gone;
  folder : (g.H.Host.hosted l.host).folder ≡ (g.H.Host.hosted l.fn.host).folder;
  past : (g.H.Host.hosted l.host).past ≡ (g.H.Host.hosted l.fn.host).past;
  count : RoseWhere (any_failed gone ≡ true) (g.H.Host.hosted l.fn.host).faults (g.H.Host.hosted l.host).faults;
}

abbrev pub decreases-loop-set : goal.decreases-loop-set
decreases-loop-set g l = length l.sets.items
