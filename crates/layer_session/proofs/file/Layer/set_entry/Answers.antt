use Rattle.std.proofs.Common.{refl, inr}
use Rattle.layer_session.proofs.Readable.{tables_readable}
use Rattle.layer_session.proofs.Told.{sure_ok}
use Rattle.layer_session.proofs.file.Layer.set_entry.Goals as goal

pub set_entry-requires-clause-there : goal.set_entry-requires-clause-there
set_entry-requires-clause-there g c = c.requires.readable.there

pub set_entry-requires-clause-parts : goal.set_entry-requires-clause-parts
set_entry-requires-clause-parts g c = c.requires.readable.sizes

pub set_entry-requires-clause-index : goal.set_entry-requires-clause-index
set_entry-requires-clause-index g c = c.requires.inside

pub set_entry-requires-clause-tables : goal.set_entry-requires-clause-tables
set_entry-requires-clause-tables g c = (tables_readable c.args.self.now (g.S.Store.disk c.args.store.now) c.requires.readable).tables

pub set_entry-requires-clause-room : goal.set_entry-requires-clause-room
set_entry-requires-clause-room g c = inr c.requires.at_hand

pub returns-clause-only : goal.returns-clause-only
returns-clause-only g c = refl

pub returns-clause-parts : goal.returns-clause-parts
returns-clause-parts g c = c.set_entry.ensures.parts

pub returns-clause-set : goal.returns-clause-set
returns-clause-set g c = sure_ok c.set_entry.result (c.set_entry.ensures.sure c.requires.at_hand) c.set_entry.ensures.set

pub returns-clause-few : goal.returns-clause-few
returns-clause-few g c = c.set_entry.ensures.few

pub returns-clause-tables : goal.returns-clause-tables
returns-clause-tables g c = c.set_entry.ensures.tables

pub returns-clause-places : goal.returns-clause-places
returns-clause-places g c = c.set_entry.ensures.places

pub returns-clause-stays : goal.returns-clause-stays
returns-clause-stays g c = sure_ok c.set_entry.result (c.set_entry.ensures.sure c.requires.at_hand) c.set_entry.ensures.stays
