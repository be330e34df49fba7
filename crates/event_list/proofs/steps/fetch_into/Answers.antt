use Rattle.std.proofs.Common.{refl}
use Rattle.std.proofs.lemmas.Option.{slice_get_read}
use Rattle.event_list.proofs.Ran.{slots_set}
use Rattle.event_list.proofs.steps.fetch_into.Goals as goal

pub returns-clause-slots : goal.returns-clause-slots
returns-clause-slots g c = slots_set _ _ c.args.pieces.now c.args.slot c.fetch.new.piece c.fetch.ensures.answers.keeps.geometry c.fetch.ensures.slot c.requires.slots

pub returns-clause-answers : goal.returns-clause-answers
returns-clause-answers g c = record {
  was = c.index-pieces-at.result;
  now = c.fetch.new.piece;
  fetched = c.fetch.ensures.answers;
  only = record { there = slice_get_read c.args.pieces.now _ c.args.slot c.index-pieces-at.result refl c.requires.there c.index-pieces-at.is; only = refl };
  leaf = c.fetch.ensures.leaf;
  events = c.fetch.ensures.events;
}
