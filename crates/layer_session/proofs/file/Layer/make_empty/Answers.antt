use Rattle.std.proofs.Common.{◌<◌, ◌/◌, false, inr, refl}
use Rattle.vhdx_format.specs.Fields.{megabyte}
use Rattle.table_pages.specs.Held.{shape_of}
use Rattle.layer_session.specs.Steps.{HasRoomFor}
use Rattle.layer_session.specs.ByTables.{IsEntryAtHand}
use Rattle.layer_session.proofs.Known.{block_in_chunk, of_parts, part_bits}
use Rattle.vx_base.proofs.Handed.{ok_then}
use Rattle.layer_session.proofs.Marks.{Marks, marks_rest}
use Rattle.layer_session.proofs.Parting.{part_may, part_over, part_ready}
use Rattle.layer_session.proofs.Emptied.{empty_broken, empty_made, if_ok_map}
use Rattle.layer_session.proofs.Told.{if_err_map}
use Rattle.layer_session.proofs.Resting.{rest_then}
use Rattle.layer_session.proofs.file.Layer.make_empty.Goals as goal

pub make_block-requires-clause-ready : goal.make_block-requires-clause-ready
make_block-requires-clause-ready g c =
    let m : Marks c.args.self.now c.mark.new.self c.args.bitmap c.block_start-start.result c.block_sectors-sectors.result false =
    record { only = c.mark.ensures.only; parts = c.mark.ensures.parts; within = c.mark.ensures.within; set = c.mark.ensures.set; places = c.mark.ensures.places } in
    part_ready c.args.self.now c.mark.new.self (g.S.Store.disk c.args.store.now) c.requires.ready c.args.bitmap c.args.first c.block_start-start.result c.block_sectors-sectors.result c.requires.on_disk m c.block_start-start.ensures.is c.block_sectors-sectors.ensures (block_in_chunk (shape_of c.args.self.now.tables.parts) (record { sector = c.requires.ready.readable.sizes.sector; block = c.requires.ready.readable.sizes.block }) _ _ _ c.block_start-start.ensures.is c.block_sectors-sectors.ensures) c.requires.absent

pub make_block-requires-clause-may : goal.make_block-requires-clause-may
make_block-requires-clause-may g c t told =
    let m : Marks c.args.self.now c.mark.new.self c.args.bitmap c.block_start-start.result c.block_sectors-sectors.result false =
    record { only = c.mark.ensures.only; parts = c.mark.ensures.parts; within = c.mark.ensures.within; set = c.mark.ensures.set; places = c.mark.ensures.places } in
    part_may c.args.self.now c.mark.new.self (g.S.Store.disk c.args.store.now) c.requires.ready c.args.bitmap c.args.first c.block_start-start.result c.block_sectors-sectors.result c.requires.on_disk m c.block_start-start.ensures.is c.block_sectors-sectors.ensures (block_in_chunk (shape_of c.args.self.now.tables.parts) (record { sector = c.requires.ready.readable.sizes.sector; block = c.requires.ready.readable.sizes.block }) _ _ _ c.block_start-start.ensures.is c.block_sectors-sectors.ensures) c.requires.absent t told

pub returns-clause-moments : goal.returns-clause-moments
returns-clause-moments g c =
    let m : Marks c.args.self.now c.mark.new.self c.args.bitmap c.block_start-start.result c.block_sectors-sectors.result false =
    record { only = c.mark.ensures.only; parts = c.mark.ensures.parts; within = c.mark.ensures.within; set = c.mark.ensures.set; places = c.mark.ensures.places } in
    part_over c.args.self.now c.mark.new.self (g.S.Store.disk c.args.store.now) c.requires.ready c.args.bitmap c.args.first c.block_start-start.result c.block_sectors-sectors.result c.requires.on_disk m c.block_start-start.ensures.is c.block_sectors-sectors.ensures (block_in_chunk (shape_of c.args.self.now.tables.parts) (record { sector = c.requires.ready.readable.sizes.sector; block = c.requires.ready.readable.sizes.block }) _ _ _ c.block_start-start.ensures.is c.block_sectors-sectors.ensures) c.requires.absent (g.S.Store.disk c.make_block.new.store) c.make_block.ensures.moments

pub returns-clause-made : goal.returns-clause-made
returns-clause-made g c =
    let m : Marks c.args.self.now c.mark.new.self c.args.bitmap c.block_start-start.result c.block_sectors-sectors.result false =
    record { only = c.mark.ensures.only; parts = c.mark.ensures.parts; within = c.mark.ensures.within; set = c.mark.ensures.set; places = c.mark.ensures.places } in
    if_ok_map c.make_block.result _ _ c.make_block.ensures.made (λ place made. empty_made c.args.self.now c.mark.new.self (g.S.Store.disk c.args.store.now) c.requires.ready c.args.bitmap c.args.first c.block_start-start.result c.block_sectors-sectors.result c.requires.on_disk m c.block_start-start.ensures.is c.block_sectors-sectors.ensures (block_in_chunk (shape_of c.args.self.now.tables.parts) (record { sector = c.requires.ready.readable.sizes.sector; block = c.requires.ready.readable.sizes.block }) _ _ _ c.block_start-start.ensures.is c.block_sectors-sectors.ensures) c.requires.absent c.make_block.new.self (g.S.Store.disk c.make_block.new.store) place made)

pub returns-clause-broken : goal.returns-clause-broken
returns-clause-broken g c =
    let m : Marks c.args.self.now c.mark.new.self c.args.bitmap c.block_start-start.result c.block_sectors-sectors.result false =
    record { only = c.mark.ensures.only; parts = c.mark.ensures.parts; within = c.mark.ensures.within; set = c.mark.ensures.set; places = c.mark.ensures.places } in
    if_err_map c.make_block.result _ _ c.make_block.ensures.broken (λ fault b. empty_broken c.args.self.now c.mark.new.self (g.S.Store.disk c.args.store.now) c.requires.ready c.args.bitmap c.args.first c.block_start-start.result c.block_sectors-sectors.result c.requires.on_disk m c.block_start-start.ensures.is c.block_sectors-sectors.ensures (block_in_chunk (shape_of c.args.self.now.tables.parts) (record { sector = c.requires.ready.readable.sizes.sector; block = c.requires.ready.readable.sizes.block }) _ _ _ c.block_start-start.ensures.is c.block_sectors-sectors.ensures) c.requires.absent c.make_block.new.self (g.S.Store.disk c.make_block.new.store) fault b)

pub returns-clause-leaves : goal.returns-clause-leaves
returns-clause-leaves g c =
    let m : Marks c.args.self.now c.mark.new.self c.args.bitmap c.block_start-start.result c.block_sectors-sectors.result false =
    record { only = c.mark.ensures.only; parts = c.mark.ensures.parts; within = c.mark.ensures.within; set = c.mark.ensures.set; places = c.mark.ensures.places } in
    ok_then c.make_block.result (rest_then c.args.self.now c.mark.new.self c.make_block.new.self 0 1 (marks_rest _ _ _ _ _ _ m)) c.make_block.ensures.leaves

pub block_start-start-requires-clause-parts : goal.block_start-start-requires-clause-parts
block_start-start-requires-clause-parts g c = c.requires.ready.readable.sizes

pub block_start-start-requires-clause-sector : goal.block_start-start-requires-clause-sector
block_start-start-requires-clause-sector g c = c.requires.on_disk

pub block_sectors-sectors-requires : goal.block_sectors-sectors-requires
block_sectors-sectors-requires g c = record { parts = c.requires.ready.readable.sizes }

pub mark-requires-clause-chunk : goal.mark-requires-clause-chunk
mark-requires-clause-chunk g c = block_in_chunk (shape_of c.args.self.now.tables.parts) (record { sector = c.requires.ready.readable.sizes.sector; block = c.requires.ready.readable.sizes.block }) _ _ _ c.block_start-start.ensures.is c.block_sectors-sectors.ensures

pub mark-requires-clause-at_hand : goal.mark-requires-clause-at_hand
mark-requires-clause-at_hand g c = part_bits c.args.self.now.tables c.args.bitmap c.args.first _ _ c.block_start-start.ensures.is c.block_sectors-sectors.ensures c.requires.pages.bits

pub make_block-requires-clause-first : goal.make_block-requires-clause-first
make_block-requires-clause-first g c = of_parts (λ p. c.args.first < p.sectors) _ _ c.mark.ensures.parts c.requires.on_disk

pub make_block-requires-clause-state : goal.make_block-requires-clause-state
make_block-requires-clause-state g c = inr refl

pub make_block-requires-clause-at_hand : goal.make_block-requires-clause-at_hand
make_block-requires-clause-at_hand g c = of_parts (λ p. IsEntryAtHand p c.args.first c.mark.new.self.tables.pending) _ _ c.mark.ensures.parts (c.mark.ensures.within.keeps _ c.requires.pages.entry)

pub make_block-requires-clause-room : goal.make_block-requires-clause-room
make_block-requires-clause-room g c =
    let m : Marks c.args.self.now c.mark.new.self c.args.bitmap c.block_start-start.result c.block_sectors-sectors.result false =
    record { only = c.mark.ensures.only; parts = c.mark.ensures.parts; within = c.mark.ensures.within; set = c.mark.ensures.set; places = c.mark.ensures.places } in
    of_parts (λ p. HasRoomFor (p.block / megabyte) 1 0 c.mark.new.self.space) _ _ c.mark.ensures.parts ((marks_rest _ _ _ _ _ _ m).room 1 c.requires.room)

pub returns-clause-ready : goal.returns-clause-ready
returns-clause-ready g c = c.make_block.ensures.ready

pub returns-clause-counts : goal.returns-clause-counts
returns-clause-counts g c = c.make_block.ensures.counts
