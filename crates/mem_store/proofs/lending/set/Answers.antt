use Rattle.std.proofs.Common.{◌<◌, ◌≤◌, refl, arith, sym, length}
use Rattle.mem_store.proofs.Folders.{slots_with, with_file-none}
use Rattle.mem_store.proofs.lending.set.Goals as goal

pub returns-then-at-len : goal.returns-then-at-len
returns-then-at-len c name is =
    let within : c.args.at < length c.args.slots.now.items = omega arith in
    slots_with c.args.slots.now.items c.args.at c.index_mut-slot.result.now _ name _ (is.found within) c.index_mut-slot.ensures.value refl

pub returns-else-at-len : goal.returns-else-at-len
returns-else-at-len c name is =
    let past : length c.args.slots.now.items ≤ c.args.at = omega arith in
    sym (with_file-none _ name _ (is.none past))
