use Rattle.std.proofs.Common.{◌≡◌, map, take}
use Rattle.mem_store.specs.MemStore.{all_contents}
use Rattle.mem_store.specs.Slots.{held_slots, lent_contents}
use Rattle.mem_store.proofs.host.attached_files.Given as goal

abbrev pub invariant-loop-name : goal.invariant-loop-name
invariant-loop-name l = all_contents l.files.items ≡ map (lent_contents (held_slots l.slots)) (take l.name-index l.names)
