use Rattle.std.proofs.Common.{◌≤◌, ℕ, All, take}
use Rattle.event_list.specs.Answered.{IsBelow}
use Rattle.event_list.proofs.slots.slot_count.Given as goal

-- the slots of the events so far
abbrev pub invariant-loop-event : goal.invariant-loop-event
invariant-loop-event l = record {
  few : l.count ≤ 64;
  below : All (IsBelow l.count) (take l.event-index l.events);
  least : (most : ℕ) → All (IsBelow most) l.events → l.count ≤ most;
}
