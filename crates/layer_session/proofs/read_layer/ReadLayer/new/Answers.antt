use Rattle.layer_session.proofs.ReadOnly.{new_layer}
use Rattle.layer_session.proofs.read_layer.ReadLayer.new.Goals as goal

pub returns : goal.returns
returns c = new_layer c.args.parts.now c.args.file c.new.result (record { tables = c.in_ok-tables.tables }) c.requires.numbers c.in_ok-tables.ensures c.new.ensures.file c.new.ensures.shape c.new.ensures.len
