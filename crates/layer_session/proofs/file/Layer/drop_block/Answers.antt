use Rattle.std.proofs.Common.{◌≡◌, ◌/◌, ◌^◌, ◌∙◌, true, arith, ap, subst, sym}
use Rattle.vhdx_format.specs.Layers.{table_entry}
use Rattle.table_pages.specs.Held.{entry_place, held_file, shape_of}
use Rattle.layer_session.specs.declared.file.Layer.{Layer}
use Rattle.layer_session.proofs.Dropping.{drops, drops_place, drops_place_ready, drops_ready}
use Rattle.layer_session.proofs.Dropped.{drops_others, drops_place_rest, drops_rest}
use Rattle.log_format.specs.PendingPages.{has_place}
use Rattle.table_pages.specs.Pages.{page_place}
use Rattle.layer_session.proofs.Known.{state_fits}
use Rattle.layer_session.proofs.Sectors.{first_below}
use Rattle.layer_session.proofs.file.Layer.drop_block.Goals as goal

pub returns-else-held-clause-dropped : goal.returns-else-held-clause-dropped
returns-else-held-clause-dropped g c =
    drops c.args.self.now c.set_entry.new.self.tables (g.S.Store.disk c.args.store.now) c.args.first c.args.count c.entry_index.result c.requires.some c.requires.on_disk c.requires.run c.requires.whole c.entry_index.ensures.index
    c.entry_index.ensures.inside c.set_entry.ensures.parts c.set_entry.ensures.set c.set_entry.ensures.tables c.set_entry.ensures.places c.requires.ready c.set_entry.new.self c.set_entry.ensures.only

pub returns-else-held-clause-ready : goal.returns-else-held-clause-ready
returns-else-held-clause-ready g c =
    drops_ready c.args.self.now c.set_entry.new.self.tables (g.S.Store.disk c.args.store.now) c.args.first c.args.count c.entry_index.result c.requires.some c.requires.on_disk c.requires.run c.requires.whole c.entry_index.ensures.index
    c.entry_index.ensures.inside c.set_entry.ensures.parts c.set_entry.ensures.set c.set_entry.ensures.tables c.set_entry.ensures.places c.requires.ready c.set_entry.new.self c.set_entry.ensures.only

pub returns-then-can_free-clause-dropped : goal.returns-then-can_free-clause-dropped
returns-then-can_free-clause-dropped g c =
    drops_place c.args.self.now c.set_entry.new.self.tables (g.S.Store.disk c.args.store.now) c.args.first c.args.count c.entry_index.result c.requires.some c.requires.on_disk c.requires.run c.requires.whole c.entry_index.ensures.index
    c.entry_index.ensures.inside c.set_entry.ensures.parts c.set_entry.ensures.set c.set_entry.ensures.tables c.set_entry.ensures.places c.requires.ready
    c.args.word c.block_units-units.result (omega arith) (λ trace told. c.requires.found trace told ∙ ap (table_entry (shape_of c.args.self.now.tables.parts) (held_file c.args.self.now.tables trace)) (sym c.entry_index.ensures.index))
    c.block_units-units.ensures.is c.set_entry.new.self c.free_after_commit.new.self c.set_entry.ensures.only c.free_after_commit.ensures

pub returns-then-can_free-clause-ready : goal.returns-then-can_free-clause-ready
returns-then-can_free-clause-ready g c =
    drops_place_ready c.args.self.now c.set_entry.new.self.tables (g.S.Store.disk c.args.store.now) c.args.first c.args.count c.entry_index.result c.requires.some c.requires.on_disk c.requires.run c.requires.whole c.entry_index.ensures.index
    c.entry_index.ensures.inside c.set_entry.ensures.parts c.set_entry.ensures.set c.set_entry.ensures.tables c.set_entry.ensures.places c.requires.ready
    c.args.word c.block_units-units.result (omega arith) (λ trace told. c.requires.found trace told ∙ ap (table_entry (shape_of c.args.self.now.tables.parts) (held_file c.args.self.now.tables trace)) (sym c.entry_index.ensures.index))
    c.block_units-units.ensures.is c.set_entry.new.self c.free_after_commit.new.self c.set_entry.ensures.only c.free_after_commit.ensures

pub returns-else-held-clause-others : goal.returns-else-held-clause-others
returns-else-held-clause-others g c t told =
    drops_others c.args.self.now c.set_entry.new.self (g.S.Store.disk c.args.store.now) c.args.first c.entry_index.result (omega arith) c.entry_index.ensures.index c.entry_index.ensures.inside c.requires.ready c.set_entry.ensures.parts c.set_entry.ensures.set
    c.set_entry.ensures.tables c.set_entry.ensures.places t told

pub returns-else-held-clause-leaves : goal.returns-else-held-clause-leaves
returns-else-held-clause-leaves g c = drops_rest c.args.self.now c.set_entry.new.self c.entry_index.result 2 (g.S.Store.disk c.args.store.now) c.set_entry.ensures.only c.set_entry.ensures.parts c.set_entry.ensures.set

pub returns-then-can_free-clause-others : goal.returns-then-can_free-clause-others
returns-then-can_free-clause-others g c t told =
    let l : Layer = c.args.self.now in
    let kept = drops_others l c.set_entry.new.self (g.S.Store.disk c.args.store.now) c.args.first c.entry_index.result (omega arith) c.entry_index.ensures.index c.entry_index.ensures.inside c.requires.ready c.set_entry.ensures.parts c.set_entry.ensures.set
    c.set_entry.ensures.tables c.set_entry.ensures.places t told in
    record { others = kept.others }

pub returns-then-can_free-clause-leaves : goal.returns-then-can_free-clause-leaves
returns-then-can_free-clause-leaves g c =
    drops_place_rest c.args.self.now c.set_entry.new.self c.entry_index.result 2 (g.S.Store.disk c.args.store.now) c.set_entry.ensures.only c.set_entry.ensures.parts c.set_entry.ensures.set (c.args.word / 2 ^ 20) c.block_units-units.result
    c.free_after_commit.new.self c.free_after_commit.ensures

pub entry_index-requires-clause-parts : goal.entry_index-requires-clause-parts
entry_index-requires-clause-parts g c = c.requires.ready.readable.sizes

pub entry_index-requires-clause-sector : goal.entry_index-requires-clause-sector
entry_index-requires-clause-sector g c = first_below c.args.first c.args.count c.args.self.now.tables.parts.sectors c.requires.some c.requires.on_disk

pub overflow_cast-held : goal.overflow_cast-held
overflow_cast-held g c = state_fits c.args.word

pub returns-else-held-clause-stays : goal.returns-else-held-clause-stays
returns-else-held-clause-stays g c = c.set_entry.ensures.stays

pub returns-then-can_free-clause-stays : goal.returns-then-can_free-clause-stays
returns-then-can_free-clause-stays g c = c.set_entry.ensures.stays

pub set_entry-requires-clause-readable : goal.set_entry-requires-clause-readable
set_entry-requires-clause-readable g c = c.requires.ready.readable

pub set_entry-requires-clause-inside : goal.set_entry-requires-clause-inside
set_entry-requires-clause-inside g c = c.entry_index.ensures.inside

pub set_entry-requires-clause-at_hand : goal.set_entry-requires-clause-at_hand
set_entry-requires-clause-at_hand g c =
    subst (λ i. has_place (page_place (entry_place c.args.self.now.tables.parts i)) c.args.self.now.tables.pending ≡ true) (sym c.entry_index.ensures.index) c.requires.at_hand
