use Rattle.std.proofs.Common.{◌≡◌, drop}
use Rattle.store_model.specs.Folder.{without}
use Rattle.mem_store.specs.Slots.{held_slots}
use Rattle.mem_store.proofs.host.take_all_away.Given as goal

abbrev pub invariant-loop-name : goal.invariant-loop-name
invariant-loop-name l = without (drop l.name-index l.names) (held_slots l.slots.items) ≡ without l.names (held_slots l.initial.slots.items)
