use Rattle.std.proofs.Common.{◌≤◌, arith}
use Rattle.std.proofs.Math.Nat.{le-max_left, le-max_right}
use Rattle.event_list.proofs.Ran.{all_below, at_least}
use Rattle.event_list.proofs.slots.slot_count.Goals as goal

pub loop-event-preserved : goal.loop-event-preserved
loop-event-preserved c =
    let count = c.max-count.result in
    let own : c.slots_for.result ≤ count = omega (arith, c.max-count.ensures, le-max_left c.slots_for.result c.loop-event.count) in
    let old : c.loop-event.count ≤ count = omega (arith, c.max-count.ensures, le-max_right c.slots_for.result c.loop-event.count) in
    record {
      few = omega (arith, c.max-count.ensures, c.slots_for.ensures.few, c.loop-event.invariant.few);
      below = all_below c.args.events.now c.loop-event.event-index c.loop-event.count c.slots_for.result count c.event-item.result c.event-item.result c.loop-event-test.true c.event-item.is old own c.loop-event.invariant.below c.slots_for.ensures.below;
      least = λ most all.
          let one = at_least c.args.events.now c.loop-event.event-index c.event-item.result c.event-item.result most c.loop-event-test.true c.event-item.is all in
          omega (arith, c.max-count.ensures, c.slots_for.ensures.least most one, c.loop-event.invariant.least most all);
    }
