use Rattle.event_list.proofs.Ran.{slots_still}
use Rattle.event_list.proofs.running.answer_event.Goals as goal

pub returns-in-Guest-clause-slots : goal.returns-in-Guest-clause-slots
returns-in-Guest-clause-slots g c = slots_still _ _ c.args.pieces.now c.call_chain.ensures.answers.geometry c.requires.slots

pub returns-in-Finish-clause-slots : goal.returns-in-Finish-clause-slots
returns-in-Finish-clause-slots g c = slots_still _ _ c.args.pieces.now c.finish.ensures.answers.finished.keeps.geometry c.requires.slots
