use Rattle.std.proofs.Common.{◌≡◌, ◌++◌}
use Rattle.store_model.specs.Disk.{WhereTold}
use Rattle.store_model.specs.File.{seen}
use Rattle.store_model.specs.Trace.{file_of}
use Rattle.shown_ids.specs.Shown.{place_ids}
use Rattle.shown_ids.proofs.add_places.Given as goal

-- the store is as it was, and those of the places so far are added
abbrev pub invariant-loop-k : goal.invariant-loop-k
invariant-loop-k g l = record {
  store : g.S.Store.disk l.store ≡ g.S.Store.disk l.initial.store;
  ids : WhereTold (g.S.Store.disk l.initial.store).told (λ trace. l.ids.items ≡ l.initial.ids.items ++ place_ids (seen (file_of trace l.file)) l.at l.k);
}
