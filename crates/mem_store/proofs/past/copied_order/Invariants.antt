use Rattle.std.proofs.Common.{◌≡◌, take}
use Rattle.mem_file.specs.Steps.{changes_of}
use Rattle.mem_store.proofs.past.copied_order.Given as goal

abbrev pub invariant-loop-change : goal.invariant-loop-change
invariant-loop-change l = changes_of l.copies.items ≡ changes_of (take l.change-index l.order)
