use Rattle.read_plan.specs.Reading.{has_failed}
use Rattle.std.proofs.Common.{◌≡◌, ◌++◌, List, length, map, true}
use Rattle.store_model.specs.Disk.{Sealed}
use Rattle.store_model.specs.Folder.{RoseWhere}
use Rattle.serve_command.proofs.giving.give_back_files.Given as goal

-- those that were taken have come back
abbrev pub invariant-loop-file : goal.invariant-loop-file
invariant-loop-file g l = record {
  gone : List Sealed;
  whole : map (λ f. g.H.S.R.Reader.sealed f.reader) l.fn.files.items ≡ map (λ f. g.H.S.R.Reader.sealed f.reader) l.files.items ++ gone;
  folder : (g.H.Host.hosted l.host).folder ≡ (g.H.Host.hosted l.fn.host).folder;
  past : (g.H.Host.hosted l.host).past ≡ (g.H.Host.hosted l.fn.host).past;
  count : RoseWhere (has_failed gone ≡ true) (g.H.Host.hosted l.fn.host).faults (g.H.Host.hosted l.host).faults;
}

abbrev pub decreases-loop-file : goal.decreases-loop-file
decreases-loop-file g l = length l.files.items
