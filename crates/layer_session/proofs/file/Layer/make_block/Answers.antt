use Rattle.std.proofs.Common.{◌≡◌, ◌≤◌, ◌+◌, ◌*◌, ◌/◌, true, inr, sym, ap, subst, arith}
use Rattle.vhdx_format.specs.Fields.{megabyte}
use Rattle.store_model.specs.Disk.{Disk, WhereBothTold}
use Rattle.layer_session.specs.declared.file.Layer.{Layer}
use Rattle.layer_session.specs.Keeping.{IsReady}
use Rattle.layer_session.specs.Taking.{HasMade}
use Rattle.layer_session.proofs.Made.{made_all, made_ready}
use Rattle.layer_session.proofs.Dropped.{drops_rest}
use Rattle.layer_session.proofs.Resting.{rest_taken, rest_then}
use Rattle.layer_session.proofs.Rooms.{room_taken}
use Rattle.vx_base.proofs.Handed.{failed_for, not_if_ok, not_ok}
use Rattle.log_format.specs.PendingPages.{has_place}
use Rattle.table_pages.specs.Held.{entry_place}
use Rattle.table_pages.specs.Pages.{page_place}
use Rattle.table_pages.specs.declared.tables.Tables.{Tables}
use Rattle.layer_session.specs.Calls.{KeepsOver}
use Rattle.layer_session.proofs.file.Layer.make_block.Goals as goal

pub take_block-requires-clause-room : goal.take_block-requires-clause-room
take_block-requires-clause-room g c = (room_taken (c.args.self.now.tables.parts.block / megabyte) 0 0 c.args.self.now.space c.requires.room).0

pub returns-clause-made : goal.returns-clause-made
returns-clause-made g c =
    subst (λ (d : Disk). WhereBothTold (HasMade c.args.self.now c.set_entry.new.self c.args.first c.args.state c.place_in.result) (g.S.Store.disk c.args.store.now).told d.told) (sym c.set_entry.ensures.stays)
    (made_all c.args.self.now c.take_block.new.self c.set_entry.new.self (g.S.Store.disk c.args.store.now) (g.S.Store.disk c.take_block.new.store) c.requires.ready (ap (λ (x : Layer). x.tables) c.in_ok-unit.ensures.only) c.in_ok-unit.unit c.in_ok-unit.ensures.taken
    c.args.first c.args.state c.entry_index.result c.pack-word.result c.requires.first c.entry_index.ensures.index c.entry_index.ensures.inside (omega arith) c.pack-word.ensures.read_back.0 c.pack-word.ensures.read_back.1
    c.set_entry.ensures.only c.set_entry.ensures.parts c.set_entry.ensures.set c.set_entry.ensures.tables c.set_entry.ensures.places c.requires.may c.offset_in_block.result c.place_in.result c.offset_in_block.ensures.is c.offset_in_block.ensures.inside c.place_in.ensures)

pub returns-clause-ready : goal.returns-clause-ready
returns-clause-ready g c =
    subst (IsReady c.set_entry.new.self) (sym c.set_entry.ensures.stays)
    (made_ready c.args.self.now c.take_block.new.self c.set_entry.new.self (g.S.Store.disk c.args.store.now) (g.S.Store.disk c.take_block.new.store) c.requires.ready (ap (λ (x : Layer). x.tables) c.in_ok-unit.ensures.only) c.in_ok-unit.unit c.in_ok-unit.ensures.taken
    c.args.first c.args.state c.entry_index.result c.pack-word.result c.requires.first c.entry_index.ensures.index c.entry_index.ensures.inside (omega arith) c.pack-word.ensures.read_back.0 c.pack-word.ensures.read_back.1
    c.set_entry.ensures.only c.set_entry.ensures.parts c.set_entry.ensures.set c.set_entry.ensures.tables c.set_entry.ensures.places c.requires.may c.offset_in_block.result c.place_in.result c.offset_in_block.ensures.is c.offset_in_block.ensures.inside c.place_in.ensures
    c.in_ok-unit.ensures.ready c.in_ok-unit.ensures.counts)

pub returns-clause-leaves : goal.returns-clause-leaves
returns-clause-leaves g c =
    rest_then c.args.self.now c.take_block.new.self c.set_entry.new.self 1 0 (rest_taken c.args.self.now c.take_block.new.self c.take_block.new.self.log.len c.in_ok-unit.ensures.only)
    (drops_rest c.take_block.new.self c.set_entry.new.self c.entry_index.result c.pack-word.result (g.S.Store.disk c.take_block.new.store) c.set_entry.ensures.only c.set_entry.ensures.parts c.set_entry.ensures.set)

pub entry_index-requires-clause-parts : goal.entry_index-requires-clause-parts
entry_index-requires-clause-parts g c = c.requires.ready.readable.sizes

pub entry_index-requires-clause-sector : goal.entry_index-requires-clause-sector
entry_index-requires-clause-sector g c = c.requires.first

pub offset_in_block-requires-clause-parts : goal.offset_in_block-requires-clause-parts
offset_in_block-requires-clause-parts g c = c.requires.ready.readable.sizes

pub offset_in_block-requires-clause-sector : goal.offset_in_block-requires-clause-sector
offset_in_block-requires-clause-sector g c = c.requires.first

pub pack-word-requires-clause-state : goal.pack-word-requires-clause-state
pack-word-requires-clause-state g c = inr c.requires.state

pub pack-word-requires-clause-unit : goal.pack-word-requires-clause-unit
pack-word-requires-clause-unit g c = c.in_ok-unit.ensures.unit

pub take_block-requires-clause-ready : goal.take_block-requires-clause-ready
take_block-requires-clause-ready g c = c.requires.ready

pub returns-clause-broken : goal.returns-clause-broken
returns-clause-broken g c = tt

pub returns-clause-counts : goal.returns-clause-counts
returns-clause-counts g c = subst (λ (d : Disk). d ≡ record (g.S.Store.disk c.args.store.now) { told = d.told }) (sym c.set_entry.ensures.stays) c.in_ok-unit.ensures.counts

pub returns-clause-moments : goal.returns-clause-moments
returns-clause-moments g c = subst (λ (d : Disk). WhereBothTold (KeepsOver c.args.self.now) (g.S.Store.disk c.args.store.now).told d.told) (sym c.set_entry.ensures.stays) c.in_ok-unit.ensures.moments

pub returns-in_err-unit-clause-made : goal.returns-in_err-unit-clause-made
returns-in_err-unit-clause-made g c = not_if_ok c.from_residual.result _ c.from_residual.ensures.1 _

pub returns-in_err-unit-clause-ready : goal.returns-in_err-unit-clause-ready
returns-in_err-unit-clause-ready g c = not_ok c.from_residual.result _ c.from_residual.ensures.1 _

pub returns-in_err-unit-clause-leaves : goal.returns-in_err-unit-clause-leaves
returns-in_err-unit-clause-leaves g c = not_ok c.from_residual.result _ c.from_residual.ensures.1 _

pub returns-in_err-unit-clause-counts : goal.returns-in_err-unit-clause-counts
returns-in_err-unit-clause-counts g c = not_ok c.from_residual.result _ c.from_residual.ensures.1 _

pub returns-in_err-unit-clause-moments : goal.returns-in_err-unit-clause-moments
returns-in_err-unit-clause-moments g c = c.in_err-unit.ensures.moments

pub returns-in_err-unit-clause-broken : goal.returns-in_err-unit-clause-broken
returns-in_err-unit-clause-broken g c = failed_for c.from_residual.result _ c.from_residual.ensures.1 _ c.in_err-unit.ensures.broken

pub set_entry-requires-clause-readable : goal.set_entry-requires-clause-readable
set_entry-requires-clause-readable g c = c.in_ok-unit.ensures.ready.readable

pub set_entry-requires-clause-inside : goal.set_entry-requires-clause-inside
set_entry-requires-clause-inside g c = subst (λ (t : Tables). 8 * c.entry_index.result + 8 ≤ t.parts.bat_len) (sym (ap (λ (x : Layer). x.tables) c.in_ok-unit.ensures.only)) c.entry_index.ensures.inside

pub set_entry-requires-clause-at_hand : goal.set_entry-requires-clause-at_hand
set_entry-requires-clause-at_hand g c =
    subst (λ (t : Tables). has_place (page_place (entry_place t.parts c.entry_index.result)) t.pending ≡ true) (sym (ap (λ (x : Layer). x.tables) c.in_ok-unit.ensures.only))
    (subst (λ i. has_place (page_place (entry_place c.args.self.now.tables.parts i)) c.args.self.now.tables.pending ≡ true) (sym c.entry_index.ensures.index) c.requires.at_hand)
