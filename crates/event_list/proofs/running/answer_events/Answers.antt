use Rattle.std.proofs.Common.{◌∙◌, arith}
use Rattle.event_list.proofs.Ran.{event_geometry, runs_next}
use Rattle.event_list.proofs.running.answer_events.Goals as goal

pub loop-event-preserved : goal.loop-event-preserved
loop-event-preserved g c = record {
  sound = c.answer_event-answer.ensures.sound;
  geometry = event_geometry _ _ _ _ _ _ c.answer_event-answer.ensures.answers ∙ c.loop-event.invariant.geometry;
  slots = c.answer_event-answer.ensures.slots;
  reserved = c.push_reserved.ensures.capacity ∙ c.loop-event.invariant.reserved;
  count = omega (arith, c.push_reserved.ensures.len, c.loop-event.invariant.count);
  ran = runs_next c.args.events.now c.loop-event.event-index c.event-item.result c.event-item.result c.answer_event-answer.result _ _ _ _ _ _ _ _ _ c.loop-event-test.true c.event-item.is c.loop-event.invariant.ran c.answer_event-answer.ensures.answers
      c.push_reserved.ensures.items;
}
