use Rattle.std.proofs.Common.{ap}
use Rattle.mem_store.specs.Slots.{held_by, held_slots}
use Rattle.mem_store.proofs.Copies.{all_copied, map_more, none_made}
use Rattle.mem_store.proofs.past.copied_slots.Goals as goal

pub loop-slot-init : goal.loop-slot-init
loop-slot-init c = ap held_slots c.new-copies.ensures.items

pub loop-slot-preserved : goal.loop-slot-preserved
loop-slot-preserved c = map_more held_by held_by c.loop-slot.copies.items c.push.new.self.items c.in_ok-copied_slot.field-0 c.args.slots.now c.loop-slot.slot-index c.slot-item.result c.in_ok-push.ensures.items c.loop-slot.invariant c.in_ok-copied_slot.ensures c.loop-slot-test.true c.slot-item.is

pub returns : goal.returns
returns c = all_copied held_slots _ c.args.slots.now c.loop-slot.slot-index c.loop-slot.invariant c.loop-slot-test.false

pub returns-in_err-push : goal.returns-in_err-push
returns-in_err-push c = none_made c.from_residual-in_err-push.result c.from_residual-in_err-push.ensures.0 _

pub returns-in_err-copied_slot : goal.returns-in_err-copied_slot
returns-in_err-copied_slot c = none_made c.from_residual.result c.from_residual.ensures.0 _
