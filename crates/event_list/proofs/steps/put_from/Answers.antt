use Rattle.std.proofs.Common.{get_or, refl}
use Rattle.std.proofs.lemmas.Option.{slice_get-get_or}
use Rattle.script_session.proofs.Moving.{no_slot}
use Rattle.event_list.proofs.Ran.{slots_set}
use Rattle.event_list.proofs.steps.put_from.Goals as goal

pub put-requires-clause-slot : goal.put-requires-clause-slot
put-requires-clause-slot g c = c.requires.slots c.args.slot c.index-pieces-at.result c.requires.there

pub returns-clause-slots : goal.returns-clause-slots
returns-clause-slots g c = slots_set _ _ c.args.pieces.now c.args.slot c.put.new.piece c.put.ensures.answers.keeps.geometry (no_slot _ c.put.new.piece c.put.ensures.empty) c.requires.slots

pub returns-clause-answers : goal.returns-clause-answers
returns-clause-answers g c = record {
  was = get_or c.args.pieces.now c.args.slot c.index-pieces-at.result;
  now = c.put.new.piece;
  put = c.put.ensures.answers;
  empty = c.put.ensures.empty;
  only = record { there = slice_get-get_or c.args.pieces.now c.args.slot c.index-pieces-at.result c.requires.there; only = refl };
  leaf = c.put.ensures.leaf;
  events = c.put.ensures.events;
}
