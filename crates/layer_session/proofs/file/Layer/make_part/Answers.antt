use Rattle.std.proofs.Common.{◌<◌, ◌/◌, false, inr, refl, true}
use Rattle.vx_base.proofs.Handed.{failed_for, not_if_ok, not_ok}
use Rattle.table_pages.specs.Held.{shape_of}
use Rattle.vhdx_format.specs.Fields.{megabyte}
use Rattle.layer_session.specs.Steps.{HasRoomFor}
use Rattle.layer_session.specs.ByTables.{IsEntryAtHand}
use Rattle.layer_session.proofs.Known.{block_in_chunk, of_parts, part_bits, run_bits}
use Rattle.layer_session.proofs.Spots.{in_chunk}
use Rattle.layer_session.proofs.Marks.{Marks, marks_rest}
use Rattle.layer_session.proofs.Parting.{part_broken, part_ends, part_kept, part_made, part_may, part_over, part_ready}
use Rattle.layer_session.proofs.Resting.{rest_then}
use Rattle.layer_session.proofs.Sectors.{first_below}
use Rattle.layer_session.proofs.file.Layer.make_part.Goals as goal

pub make_block-requires-clause-ready : goal.make_block-requires-clause-ready
make_block-requires-clause-ready g c =
    let m : Marks c.args.self.now c.mark.new.self c.args.bitmap c.block_start-start.result c.block_sectors-sectors.result false =
    record { only = c.mark.ensures.only; parts = c.mark.ensures.parts; within = c.mark.ensures.within; set = c.mark.ensures.set; places = c.mark.ensures.places } in
    part_ready c.args.self.now c.mark.new.self (g.S.Store.disk c.args.store.now) c.requires.ready c.args.bitmap c.args.first c.block_start-start.result c.block_sectors-sectors.result (first_below _ _ _ c.requires.some c.requires.on_disk) m c.block_start-start.ensures.is c.block_sectors-sectors.ensures
    (block_in_chunk (shape_of c.args.self.now.tables.parts) (record { sector = c.requires.ready.readable.sizes.sector; block = c.requires.ready.readable.sizes.block }) _ _ _ c.block_start-start.ensures.is c.block_sectors-sectors.ensures) c.requires.absent

pub make_block-requires-clause-may : goal.make_block-requires-clause-may
make_block-requires-clause-may g c t told =
    let m : Marks c.args.self.now c.mark.new.self c.args.bitmap c.block_start-start.result c.block_sectors-sectors.result false =
    record { only = c.mark.ensures.only; parts = c.mark.ensures.parts; within = c.mark.ensures.within; set = c.mark.ensures.set; places = c.mark.ensures.places } in
    part_may c.args.self.now c.mark.new.self (g.S.Store.disk c.args.store.now) c.requires.ready c.args.bitmap c.args.first c.block_start-start.result c.block_sectors-sectors.result (first_below _ _ _ c.requires.some c.requires.on_disk) m c.block_start-start.ensures.is c.block_sectors-sectors.ensures
    (block_in_chunk (shape_of c.args.self.now.tables.parts) (record { sector = c.requires.ready.readable.sizes.sector; block = c.requires.ready.readable.sizes.block }) _ _ _ c.block_start-start.ensures.is c.block_sectors-sectors.ensures) c.requires.absent t told

pub returns-in_err-place-clause-moments : goal.returns-in_err-place-clause-moments
returns-in_err-place-clause-moments g c =
    let m : Marks c.args.self.now c.mark.new.self c.args.bitmap c.block_start-start.result c.block_sectors-sectors.result false =
    record { only = c.mark.ensures.only; parts = c.mark.ensures.parts; within = c.mark.ensures.within; set = c.mark.ensures.set; places = c.mark.ensures.places } in
    part_over c.args.self.now c.mark.new.self (g.S.Store.disk c.args.store.now) c.requires.ready c.args.bitmap c.args.first c.block_start-start.result c.block_sectors-sectors.result (first_below _ _ _ c.requires.some c.requires.on_disk) m c.block_start-start.ensures.is c.block_sectors-sectors.ensures
    (block_in_chunk (shape_of c.args.self.now.tables.parts) (record { sector = c.requires.ready.readable.sizes.sector; block = c.requires.ready.readable.sizes.block }) _ _ _ c.block_start-start.ensures.is c.block_sectors-sectors.ensures) c.requires.absent
    (g.S.Store.disk c.make_block.new.store) c.make_block.ensures.moments

pub returns-in_err-place-clause-broken : goal.returns-in_err-place-clause-broken
returns-in_err-place-clause-broken g c =
    let m : Marks c.args.self.now c.mark.new.self c.args.bitmap c.block_start-start.result c.block_sectors-sectors.result false =
    record { only = c.mark.ensures.only; parts = c.mark.ensures.parts; within = c.mark.ensures.within; set = c.mark.ensures.set; places = c.mark.ensures.places } in
    failed_for c.from_residual.result _ c.from_residual.ensures.1 _ (part_broken c.args.self.now c.mark.new.self (g.S.Store.disk c.args.store.now) c.requires.ready c.args.bitmap c.args.first c.block_start-start.result c.block_sectors-sectors.result (first_below _ _ _ c.requires.some c.requires.on_disk) m c.block_start-start.ensures.is c.block_sectors-sectors.ensures
    (block_in_chunk (shape_of c.args.self.now.tables.parts) (record { sector = c.requires.ready.readable.sizes.sector; block = c.requires.ready.readable.sizes.block }) _ _ _ c.block_start-start.ensures.is c.block_sectors-sectors.ensures) c.requires.absent
    c.make_block.new.self (g.S.Store.disk c.make_block.new.store) c.in_err-place.field-0.0 c.args.count c.in_err-place.ensures.broken)

pub returns-clause-moments : goal.returns-clause-moments
returns-clause-moments g c =
    let m : Marks c.args.self.now c.mark.new.self c.args.bitmap c.block_start-start.result c.block_sectors-sectors.result false =
    record { only = c.mark.ensures.only; parts = c.mark.ensures.parts; within = c.mark.ensures.within; set = c.mark.ensures.set; places = c.mark.ensures.places } in
    part_over c.args.self.now c.mark.new.self (g.S.Store.disk c.args.store.now) c.requires.ready c.args.bitmap c.args.first c.block_start-start.result c.block_sectors-sectors.result (first_below _ _ _ c.requires.some c.requires.on_disk) m c.block_start-start.ensures.is c.block_sectors-sectors.ensures
    (block_in_chunk (shape_of c.args.self.now.tables.parts) (record { sector = c.requires.ready.readable.sizes.sector; block = c.requires.ready.readable.sizes.block }) _ _ _ c.block_start-start.ensures.is c.block_sectors-sectors.ensures) c.requires.absent
    (g.S.Store.disk c.make_block.new.store) c.make_block.ensures.moments

pub returns-clause-made : goal.returns-clause-made
returns-clause-made g c =
    let m : Marks c.args.self.now c.mark.new.self c.args.bitmap c.block_start-start.result c.block_sectors-sectors.result false =
    record { only = c.mark.ensures.only; parts = c.mark.ensures.parts; within = c.mark.ensures.within; set = c.mark.ensures.set; places = c.mark.ensures.places } in
    let k : Marks c.make_block.new.self c.mark-2.new.self c.args.bitmap c.args.first c.args.count true =
    record { only = c.mark-2.ensures.only; parts = c.mark-2.ensures.parts; within = c.mark-2.ensures.within; set = c.mark-2.ensures.set; places = c.mark-2.ensures.places } in
    part_made c.args.self.now c.mark.new.self (g.S.Store.disk c.args.store.now) c.requires.ready c.args.bitmap c.args.first c.block_start-start.result c.block_sectors-sectors.result (first_below _ _ _ c.requires.some c.requires.on_disk) m c.block_start-start.ensures.is c.block_sectors-sectors.ensures
    (block_in_chunk (shape_of c.args.self.now.tables.parts) (record { sector = c.requires.ready.readable.sizes.sector; block = c.requires.ready.readable.sizes.block }) _ _ _ c.block_start-start.ensures.is c.block_sectors-sectors.ensures) c.requires.absent
    c.make_block.new.self c.mark-2.new.self (g.S.Store.disk c.make_block.new.store) c.in_ok-place.place c.args.count c.in_ok-place.ensures.made c.requires.some c.requires.run c.requires.on_disk c.in_ok-place.ensures.leaves.parts k (in_chunk (shape_of c.args.self.now.tables.parts) (record { sector = c.requires.ready.readable.sizes.sector; block = c.requires.ready.readable.sizes.block }) _ _ c.requires.some c.requires.run)

pub returns-clause-others : goal.returns-clause-others
returns-clause-others g c =
    let m : Marks c.args.self.now c.mark.new.self c.args.bitmap c.block_start-start.result c.block_sectors-sectors.result false =
    record { only = c.mark.ensures.only; parts = c.mark.ensures.parts; within = c.mark.ensures.within; set = c.mark.ensures.set; places = c.mark.ensures.places } in
    let k : Marks c.make_block.new.self c.mark-2.new.self c.args.bitmap c.args.first c.args.count true =
    record { only = c.mark-2.ensures.only; parts = c.mark-2.ensures.parts; within = c.mark-2.ensures.within; set = c.mark-2.ensures.set; places = c.mark-2.ensures.places } in
    part_kept c.args.self.now c.mark.new.self (g.S.Store.disk c.args.store.now) c.requires.ready c.args.bitmap c.args.first c.block_start-start.result c.block_sectors-sectors.result (first_below _ _ _ c.requires.some c.requires.on_disk) m c.block_start-start.ensures.is c.block_sectors-sectors.ensures
    (block_in_chunk (shape_of c.args.self.now.tables.parts) (record { sector = c.requires.ready.readable.sizes.sector; block = c.requires.ready.readable.sizes.block }) _ _ _ c.block_start-start.ensures.is c.block_sectors-sectors.ensures) c.requires.absent
    c.make_block.new.self c.mark-2.new.self (g.S.Store.disk c.make_block.new.store) c.in_ok-place.place c.args.count c.in_ok-place.ensures.made c.requires.some c.requires.run c.requires.on_disk c.in_ok-place.ensures.leaves.parts k (in_chunk (shape_of c.args.self.now.tables.parts) (record { sector = c.requires.ready.readable.sizes.sector; block = c.requires.ready.readable.sizes.block }) _ _ c.requires.some c.requires.run)

pub returns-clause-ready : goal.returns-clause-ready
returns-clause-ready g c =
    let m : Marks c.args.self.now c.mark.new.self c.args.bitmap c.block_start-start.result c.block_sectors-sectors.result false =
    record { only = c.mark.ensures.only; parts = c.mark.ensures.parts; within = c.mark.ensures.within; set = c.mark.ensures.set; places = c.mark.ensures.places } in
    let k : Marks c.make_block.new.self c.mark-2.new.self c.args.bitmap c.args.first c.args.count true =
    record { only = c.mark-2.ensures.only; parts = c.mark-2.ensures.parts; within = c.mark-2.ensures.within; set = c.mark-2.ensures.set; places = c.mark-2.ensures.places } in
    part_ends c.args.self.now c.mark.new.self (g.S.Store.disk c.args.store.now) c.requires.ready c.args.bitmap c.args.first c.block_start-start.result c.block_sectors-sectors.result (first_below _ _ _ c.requires.some c.requires.on_disk) m c.block_start-start.ensures.is c.block_sectors-sectors.ensures
    (block_in_chunk (shape_of c.args.self.now.tables.parts) (record { sector = c.requires.ready.readable.sizes.sector; block = c.requires.ready.readable.sizes.block }) _ _ _ c.block_start-start.ensures.is c.block_sectors-sectors.ensures) c.requires.absent
    c.make_block.new.self c.mark-2.new.self (g.S.Store.disk c.make_block.new.store) c.in_ok-place.place c.args.count c.in_ok-place.ensures.made c.requires.some c.requires.run c.requires.on_disk c.in_ok-place.ensures.leaves.parts k (in_chunk (shape_of c.args.self.now.tables.parts) (record { sector = c.requires.ready.readable.sizes.sector; block = c.requires.ready.readable.sizes.block }) _ _ c.requires.some c.requires.run) c.in_ok-place.ensures.ready c.in_ok-place.ensures.counts

pub returns-clause-leaves : goal.returns-clause-leaves
returns-clause-leaves g c =
    let m : Marks c.args.self.now c.mark.new.self c.args.bitmap c.block_start-start.result c.block_sectors-sectors.result false =
    record { only = c.mark.ensures.only; parts = c.mark.ensures.parts; within = c.mark.ensures.within; set = c.mark.ensures.set; places = c.mark.ensures.places } in
    let k : Marks c.make_block.new.self c.mark-2.new.self c.args.bitmap c.args.first c.args.count true =
    record { only = c.mark-2.ensures.only; parts = c.mark-2.ensures.parts; within = c.mark-2.ensures.within; set = c.mark-2.ensures.set; places = c.mark-2.ensures.places } in
    rest_then c.args.self.now c.mark.new.self c.mark-2.new.self 0 1 (marks_rest _ _ _ _ _ _ m) (rest_then c.mark.new.self c.make_block.new.self c.mark-2.new.self 1 0 c.in_ok-place.ensures.leaves (marks_rest _ _ _ _ _ _ k))

pub block_start-start-requires-clause-parts : goal.block_start-start-requires-clause-parts
block_start-start-requires-clause-parts g c = c.requires.ready.readable.sizes

pub block_start-start-requires-clause-sector : goal.block_start-start-requires-clause-sector
block_start-start-requires-clause-sector g c = first_below _ _ _ c.requires.some c.requires.on_disk

pub block_sectors-sectors-requires : goal.block_sectors-sectors-requires
block_sectors-sectors-requires g c = record { parts = c.requires.ready.readable.sizes }

pub mark-requires-clause-chunk : goal.mark-requires-clause-chunk
mark-requires-clause-chunk g c = block_in_chunk (shape_of c.args.self.now.tables.parts) (record { sector = c.requires.ready.readable.sizes.sector; block = c.requires.ready.readable.sizes.block }) _ _ _ c.block_start-start.ensures.is c.block_sectors-sectors.ensures

pub mark-requires-clause-at_hand : goal.mark-requires-clause-at_hand
mark-requires-clause-at_hand g c = part_bits c.args.self.now.tables c.args.bitmap c.args.first _ _ c.block_start-start.ensures.is c.block_sectors-sectors.ensures c.requires.pages.bits

pub make_block-requires-clause-first : goal.make_block-requires-clause-first
make_block-requires-clause-first g c = of_parts (λ p. c.args.first < p.sectors) _ _ c.mark.ensures.parts (first_below _ _ _ c.requires.some c.requires.on_disk)

pub make_block-requires-clause-state : goal.make_block-requires-clause-state
make_block-requires-clause-state g c = inr refl

pub make_block-requires-clause-at_hand : goal.make_block-requires-clause-at_hand
make_block-requires-clause-at_hand g c = of_parts (λ p. IsEntryAtHand p c.args.first c.mark.new.self.tables.pending) _ _ c.mark.ensures.parts (c.mark.ensures.within.keeps _ c.requires.pages.entry)

pub make_block-requires-clause-room : goal.make_block-requires-clause-room
make_block-requires-clause-room g c =
    let m : Marks c.args.self.now c.mark.new.self c.args.bitmap c.block_start-start.result c.block_sectors-sectors.result false =
    record { only = c.mark.ensures.only; parts = c.mark.ensures.parts; within = c.mark.ensures.within; set = c.mark.ensures.set; places = c.mark.ensures.places } in
    of_parts (λ p. HasRoomFor (p.block / megabyte) 1 0 c.mark.new.self.space) _ _ c.mark.ensures.parts ((marks_rest _ _ _ _ _ _ m).room 1 c.requires.room)

pub returns-in_err-place-clause-made : goal.returns-in_err-place-clause-made
returns-in_err-place-clause-made g c = not_if_ok c.from_residual.result _ c.from_residual.ensures.1 _

pub returns-in_err-place-clause-others : goal.returns-in_err-place-clause-others
returns-in_err-place-clause-others g c = not_ok c.from_residual.result _ c.from_residual.ensures.1 _

pub returns-in_err-place-clause-ready : goal.returns-in_err-place-clause-ready
returns-in_err-place-clause-ready g c = not_ok c.from_residual.result _ c.from_residual.ensures.1 _

pub returns-in_err-place-clause-leaves : goal.returns-in_err-place-clause-leaves
returns-in_err-place-clause-leaves g c = not_ok c.from_residual.result _ c.from_residual.ensures.1 _

pub returns-in_err-place-clause-counts : goal.returns-in_err-place-clause-counts
returns-in_err-place-clause-counts g c = not_ok c.from_residual.result _ c.from_residual.ensures.1 _

pub mark-requires-2-clause-chunk : goal.mark-requires-2-clause-chunk
mark-requires-2-clause-chunk g c = in_chunk (shape_of c.args.self.now.tables.parts) (record { sector = c.requires.ready.readable.sizes.sector; block = c.requires.ready.readable.sizes.block }) _ _ c.requires.some c.requires.run

pub mark-requires-2-clause-at_hand : goal.mark-requires-2-clause-at_hand
mark-requires-2-clause-at_hand g c k from to =
    c.in_ok-place.ensures.leaves.pages _ (c.mark.ensures.within.keeps _
    (run_bits (shape_of c.args.self.now.tables.parts) (record { sector = c.requires.ready.readable.sizes.sector; block = c.requires.ready.readable.sizes.block }) c.args.bitmap c.args.first c.args.count _ _ c.args.self.now.tables.pending c.block_start-start.ensures.is c.block_sectors-sectors.ensures c.requires.run
    (part_bits c.args.self.now.tables c.args.bitmap c.args.first _ _ c.block_start-start.ensures.is c.block_sectors-sectors.ensures c.requires.pages.bits) k from to))

pub returns-clause-counts : goal.returns-clause-counts
returns-clause-counts g c = c.in_ok-place.ensures.counts
