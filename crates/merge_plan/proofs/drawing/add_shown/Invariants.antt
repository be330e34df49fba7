use Rattle.std.proofs.Common.{◌≡◌, ◌++◌, drop}
use Rattle.store_model.specs.Disk.{WhereTold}
use Rattle.merge_plan.specs.Attached.{shown_from}
use Rattle.merge_plan.proofs.drawing.add_shown.Given as goal

-- the store is as it was, and with those of the rest all are added
abbrev pub invariant-loop-number : goal.invariant-loop-number
invariant-loop-number g l = record {
  store : g.S.Store.disk l.store ≡ g.S.Store.disk l.initial.store;
  ids : WhereTold (g.S.Store.disk l.initial.store).told (λ trace. l.known.items ++ shown_from trace l.number (drop l.number l.files) ≡ l.initial.known.items ++ shown_from trace 0 l.files);
}
