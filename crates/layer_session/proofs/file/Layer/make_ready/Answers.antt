use Rattle.std.proofs.Common.{◌/◌, inl, inr, refl, sym, subst, true}
use Rattle.vx_base.proofs.Handed.{failed_for, not_if_ok, not_ok}
use Rattle.vhdx_format.specs.Fields.{megabyte}
use Rattle.table_pages.specs.Held.{shape_of}
use Rattle.layer_session.specs.Keeping.{IsReady}
use Rattle.layer_session.specs.Steps.{HasRoomFor}
use Rattle.layer_session.specs.declared.planning.Step.TheVariants.{Drop, Leave, Write, Mark, Make, MakePart}
use Rattle.layer_session.proofs.Equal.{none_some}
use Rattle.layer_session.proofs.Exits.{takes_one}
use Rattle.layer_session.proofs.Marks.{marks_rest}
use Rattle.layer_session.proofs.Sectors.{first_below}
use Rattle.layer_session.proofs.Known.{counts_still, others_self, rest_as, rest_self, takes_none}
use Rattle.layer_session.proofs.Spots.{in_chunk}
use Rattle.store_model.specs.Disk.{Disk, WhereBothTold}
use Rattle.std.specs.Prelude.{None}
use Rattle.layer_session.specs.Calls.{KeepsOver}
use Rattle.layer_session.specs.Taking.{HasMade, IsReadied, KeepsOthers}
use Rattle.layer_session.proofs.Marks.{Marks}
use Rattle.layer_session.proofs.Readying.{drop_put, drop_whole, left_put, make_broken, make_made, make_may, mark_kept, mark_made, mark_ready, part_absent, quiet, write_made}
use Rattle.layer_session.proofs.Told.{both_map, both_self}
use Rattle.layer_session.proofs.file.Layer.make_ready.Goals as goal

pub drop_block-requires-clause-whole : goal.drop_block-requires-clause-whole
drop_block-requires-clause-whole g c =
    drop_whole c.args.self.now (g.S.Store.disk c.args.store.now) c.requires.ready c.args.plan c.args.first c.args.count c.requires.some c.requires.block.on_disk c.requires.block.run c.requires.todo c.in-Drop.is

pub make_block-requires-clause-may : goal.make_block-requires-clause-may
make_block-requires-clause-may g c =
    make_may c.args.self.now (g.S.Store.disk c.args.store.now) c.requires.ready c.args.plan c.args.first c.args.count c.requires.some c.requires.block.on_disk c.requires.block.run c.requires.todo c.in-Make.is

pub make_part-requires-clause-absent : goal.make_part-requires-clause-absent
make_part-requires-clause-absent g c =
    part_absent c.args.self.now (g.S.Store.disk c.args.store.now) c.requires.ready c.args.plan c.args.first c.args.count c.requires.some c.requires.block.on_disk c.requires.block.run c.requires.todo c.in-MakePart.is

pub returns-in_err-make_block-in-Make-clause-broken : goal.returns-in_err-make_block-in-Make-clause-broken
returns-in_err-make_block-in-Make-clause-broken g c =
    failed_for c.from_residual.result _ c.from_residual.ensures.1 _ (make_broken c.args.self.now (g.S.Store.disk c.args.store.now) c.requires.ready c.args.plan c.args.first c.args.count c.requires.some c.requires.block.on_disk c.requires.block.run c.requires.todo
    c.make_block.new.self (g.S.Store.disk c.make_block.new.store) c.in_err-make_block-in-Make.field-0.0 c.in_err-make_block-in-Make.ensures.broken)

pub returns-in-Leave-clause-moments : goal.returns-in-Leave-clause-moments
returns-in-Leave-clause-moments g c =
    quiet c.args.self.now (g.S.Store.disk c.args.store.now) c.requires.ready c.args.plan c.args.first c.args.count c.requires.some c.requires.block.on_disk c.requires.block.run c.requires.todo

pub returns-in-Write-clause-moments : goal.returns-in-Write-clause-moments
returns-in-Write-clause-moments g c =
    quiet c.args.self.now (g.S.Store.disk c.args.store.now) c.requires.ready c.args.plan c.args.first c.args.count c.requires.some c.requires.block.on_disk c.requires.block.run c.requires.todo

pub returns-in-Mark-clause-moments : goal.returns-in-Mark-clause-moments
returns-in-Mark-clause-moments g c =
    quiet c.args.self.now (g.S.Store.disk c.args.store.now) c.requires.ready c.args.plan c.args.first c.args.count c.requires.some c.requires.block.on_disk c.requires.block.run c.requires.todo

pub returns-in-Leave-clause-made : goal.returns-in-Leave-clause-made
returns-in-Leave-clause-made g c =
    left_put c.args.self.now (g.S.Store.disk c.args.store.now) c.requires.ready c.args.plan c.args.first c.args.count c.requires.some c.requires.block.on_disk c.requires.block.run c.requires.todo c.in-Leave.is

pub returns-in-Drop-clause-moments : goal.returns-in-Drop-clause-moments
returns-in-Drop-clause-moments g c =
    subst (λ (d : Disk). WhereBothTold (KeepsOver c.args.self.now) (g.S.Store.disk c.args.store.now).told d.told) (sym c.drop_block.ensures.stays) (quiet c.args.self.now (g.S.Store.disk c.args.store.now) c.requires.ready c.args.plan c.args.first c.args.count c.requires.some c.requires.block.on_disk c.requires.block.run c.requires.todo)

pub returns-in-Drop-clause-made : goal.returns-in-Drop-clause-made
returns-in-Drop-clause-made g c =
    subst (λ (d : Disk). WhereBothTold (IsReadied c.args.self.now c.drop_block.new.self c.args.first c.args.count None) (g.S.Store.disk c.args.store.now).told d.told) (sym c.drop_block.ensures.stays)
    (drop_put c.args.self.now (g.S.Store.disk c.args.store.now) c.requires.ready c.args.plan c.args.first c.args.count c.requires.some c.requires.block.on_disk c.requires.block.run c.requires.todo c.drop_block.new.self c.drop_block.ensures.dropped)

pub returns-in-Write-clause-made : goal.returns-in-Write-clause-made
returns-in-Write-clause-made g c =
    write_made c.args.self.now (g.S.Store.disk c.args.store.now) c.requires.ready c.args.plan c.args.first c.args.count c.requires.some c.requires.block.on_disk c.requires.block.run c.requires.todo c.offset_in_block.result c.place_in-place.result c.offset_in_block.ensures.is c.offset_in_block.ensures.inside c.place_in-place.ensures c.in-Write.is

pub returns-in-Mark-clause-made : goal.returns-in-Mark-clause-made
returns-in-Mark-clause-made g c =
    let m : Marks c.args.self.now c.mark.new.self c.args.plan.bitmap c.args.first c.args.count true =
    record { only = c.mark.ensures.only; parts = c.mark.ensures.parts; within = c.mark.ensures.within; set = c.mark.ensures.set; places = c.mark.ensures.places } in
    mark_made c.args.self.now (g.S.Store.disk c.args.store.now) c.requires.ready c.args.plan c.args.first c.args.count c.requires.some c.requires.block.on_disk c.requires.block.run c.requires.todo c.offset_in_block.result c.place_in-place.result c.offset_in_block.ensures.is c.offset_in_block.ensures.inside c.place_in-place.ensures c.in-Mark.is c.mark.new.self m (in_chunk (shape_of c.args.self.now.tables.parts) (record { sector = c.requires.ready.readable.sizes.sector; block = c.requires.ready.readable.sizes.block }) _ _ c.requires.some c.requires.block.run)

pub returns-in-Mark-clause-others : goal.returns-in-Mark-clause-others
returns-in-Mark-clause-others g c =
    let m : Marks c.args.self.now c.mark.new.self c.args.plan.bitmap c.args.first c.args.count true =
    record { only = c.mark.ensures.only; parts = c.mark.ensures.parts; within = c.mark.ensures.within; set = c.mark.ensures.set; places = c.mark.ensures.places } in
    mark_kept c.args.self.now (g.S.Store.disk c.args.store.now) c.requires.ready c.args.plan c.args.first c.args.count c.requires.some c.requires.block.on_disk c.requires.block.run c.requires.todo c.offset_in_block.result c.place_in-place.result c.offset_in_block.ensures.is c.offset_in_block.ensures.inside c.place_in-place.ensures c.in-Mark.is c.mark.new.self m (in_chunk (shape_of c.args.self.now.tables.parts) (record { sector = c.requires.ready.readable.sizes.sector; block = c.requires.ready.readable.sizes.block }) _ _ c.requires.some c.requires.block.run)

pub returns-in-Mark-clause-ready : goal.returns-in-Mark-clause-ready
returns-in-Mark-clause-ready g c =
    let m : Marks c.args.self.now c.mark.new.self c.args.plan.bitmap c.args.first c.args.count true =
    record { only = c.mark.ensures.only; parts = c.mark.ensures.parts; within = c.mark.ensures.within; set = c.mark.ensures.set; places = c.mark.ensures.places } in
    mark_ready c.args.self.now (g.S.Store.disk c.args.store.now) c.requires.ready c.args.plan c.args.first c.args.count c.requires.some c.requires.block.on_disk c.requires.block.run c.requires.todo c.offset_in_block.result c.place_in-place.result c.offset_in_block.ensures.is c.offset_in_block.ensures.inside c.place_in-place.ensures c.in-Mark.is c.mark.new.self m (in_chunk (shape_of c.args.self.now.tables.parts) (record { sector = c.requires.ready.readable.sizes.sector; block = c.requires.ready.readable.sizes.block }) _ _ c.requires.some c.requires.block.run)

pub returns-in_ok-make_block-in-Make-clause-made : goal.returns-in_ok-make_block-in-Make-clause-made
returns-in_ok-make_block-in-Make-clause-made g c =
    make_made c.args.self.now (g.S.Store.disk c.args.store.now) c.requires.ready c.args.plan c.args.first c.args.count c.requires.some c.requires.block.on_disk c.requires.block.run c.requires.todo c.make_block.new.self (g.S.Store.disk c.make_block.new.store) c.in_ok-make_block-in-Make.field-0 c.in_ok-make_block-in-Make.ensures.leaves.parts c.in_ok-make_block-in-Make.ensures.made

pub returns-in-Drop-clause-others : goal.returns-in-Drop-clause-others
returns-in-Drop-clause-others g c =
    subst (λ (d : Disk). WhereBothTold (KeepsOthers c.args.self.now c.drop_block.new.self c.args.first) (g.S.Store.disk c.args.store.now).told d.told) (sym c.drop_block.ensures.stays)
    (both_self (KeepsOthers c.args.self.now c.drop_block.new.self c.args.first) (g.S.Store.disk c.args.store.now).told c.drop_block.ensures.others)

pub offset_in_block-requires-clause-parts : goal.offset_in_block-requires-clause-parts
offset_in_block-requires-clause-parts g c = c.requires.ready.readable.sizes

pub offset_in_block-requires-clause-sector : goal.offset_in_block-requires-clause-sector
offset_in_block-requires-clause-sector g c = first_below _ _ _ c.requires.some c.requires.block.on_disk

pub drop_block-requires-clause-ready : goal.drop_block-requires-clause-ready
drop_block-requires-clause-ready g c = c.requires.ready

pub drop_block-requires-clause-some : goal.drop_block-requires-clause-some
drop_block-requires-clause-some g c = c.requires.some

pub drop_block-requires-clause-on_disk : goal.drop_block-requires-clause-on_disk
drop_block-requires-clause-on_disk g c = c.requires.block.on_disk

pub drop_block-requires-clause-run : goal.drop_block-requires-clause-run
drop_block-requires-clause-run g c = c.requires.block.run

pub make_part-requires-clause-ready : goal.make_part-requires-clause-ready
make_part-requires-clause-ready g c = c.requires.ready

pub make_part-requires-clause-some : goal.make_part-requires-clause-some
make_part-requires-clause-some g c = c.requires.some

pub make_part-requires-clause-on_disk : goal.make_part-requires-clause-on_disk
make_part-requires-clause-on_disk g c = c.requires.block.on_disk

pub make_part-requires-clause-run : goal.make_part-requires-clause-run
make_part-requires-clause-run g c = c.requires.block.run

pub drop_block-requires-clause-at_hand : goal.drop_block-requires-clause-at_hand
drop_block-requires-clause-at_hand g c = c.requires.pages.entry (inl c.in-Drop.is)

pub drop_block-requires-clause-found : goal.drop_block-requires-clause-found
drop_block-requires-clause-found g c t told = (c.requires.todo t told).1.word

pub mark-requires-clause-chunk : goal.mark-requires-clause-chunk
mark-requires-clause-chunk g c = in_chunk (shape_of c.args.self.now.tables.parts) (record { sector = c.requires.ready.readable.sizes.sector; block = c.requires.ready.readable.sizes.block }) _ _ c.requires.some c.requires.block.run

pub mark-requires-clause-at_hand : goal.mark-requires-clause-at_hand
mark-requires-clause-at_hand g c = c.requires.pages.bits c.in-Mark.is

pub make_block-requires-clause-ready : goal.make_block-requires-clause-ready
make_block-requires-clause-ready g c = c.requires.ready

pub make_block-requires-clause-first : goal.make_block-requires-clause-first
make_block-requires-clause-first g c = first_below _ _ _ c.requires.some c.requires.block.on_disk

pub make_block-requires-clause-state : goal.make_block-requires-clause-state
make_block-requires-clause-state g c = inl refl

pub make_block-requires-clause-at_hand : goal.make_block-requires-clause-at_hand
make_block-requires-clause-at_hand g c = c.requires.pages.entry (inr (inl c.in-Make.is))

pub make_block-requires-clause-room : goal.make_block-requires-clause-room
make_block-requires-clause-room g c = subst (λ n. HasRoomFor (c.args.self.now.tables.parts.block / megabyte) n 0 c.args.self.now.space) (takes_one c.args.plan Make c.in-Make.is refl) c.requires.room

pub returns-in_err-make_block-in-Make-clause-moments : goal.returns-in_err-make_block-in-Make-clause-moments
returns-in_err-make_block-in-Make-clause-moments g c = c.make_block.ensures.moments

pub returns-in_err-make_block-in-Make-clause-made : goal.returns-in_err-make_block-in-Make-clause-made
returns-in_err-make_block-in-Make-clause-made g c = not_if_ok c.from_residual.result _ c.from_residual.ensures.1 _

pub returns-in_err-make_block-in-Make-clause-trimmed : goal.returns-in_err-make_block-in-Make-clause-trimmed
returns-in_err-make_block-in-Make-clause-trimmed g c = not_if_ok c.from_residual.result _ c.from_residual.ensures.1 _

pub returns-in_err-make_block-in-Make-clause-others : goal.returns-in_err-make_block-in-Make-clause-others
returns-in_err-make_block-in-Make-clause-others g c = not_ok c.from_residual.result _ c.from_residual.ensures.1 _

pub returns-in_err-make_block-in-Make-clause-ready : goal.returns-in_err-make_block-in-Make-clause-ready
returns-in_err-make_block-in-Make-clause-ready g c = not_ok c.from_residual.result _ c.from_residual.ensures.1 _

pub returns-in_err-make_block-in-Make-clause-leaves : goal.returns-in_err-make_block-in-Make-clause-leaves
returns-in_err-make_block-in-Make-clause-leaves g c = not_ok c.from_residual.result _ c.from_residual.ensures.1 _

pub returns-in_err-make_block-in-Make-clause-counts : goal.returns-in_err-make_block-in-Make-clause-counts
returns-in_err-make_block-in-Make-clause-counts g c = not_ok c.from_residual.result _ c.from_residual.ensures.1 _

pub returns-in_ok-make_block-in-Make-clause-moments : goal.returns-in_ok-make_block-in-Make-clause-moments
returns-in_ok-make_block-in-Make-clause-moments g c = c.make_block.ensures.moments

pub returns-in_ok-make_block-in-Make-clause-trimmed : goal.returns-in_ok-make_block-in-Make-clause-trimmed
returns-in_ok-make_block-in-Make-clause-trimmed g c e = absurd (none_some (sym e))

pub returns-in_ok-make_block-in-Make-clause-ready : goal.returns-in_ok-make_block-in-Make-clause-ready
returns-in_ok-make_block-in-Make-clause-ready g c = c.in_ok-make_block-in-Make.ensures.ready

pub returns-in_ok-make_block-in-Make-clause-leaves : goal.returns-in_ok-make_block-in-Make-clause-leaves
returns-in_ok-make_block-in-Make-clause-leaves g c = rest_as c.args.self.now c.make_block.new.self _ _ (sym (takes_one c.args.plan Make c.in-Make.is refl)) c.in_ok-make_block-in-Make.ensures.leaves

pub returns-in_ok-make_block-in-Make-clause-counts : goal.returns-in_ok-make_block-in-Make-clause-counts
returns-in_ok-make_block-in-Make-clause-counts g c = c.in_ok-make_block-in-Make.ensures.counts

pub make_part-requires-clause-room : goal.make_part-requires-clause-room
make_part-requires-clause-room g c = subst (λ n. HasRoomFor (c.args.self.now.tables.parts.block / megabyte) n 0 c.args.self.now.space) (takes_one c.args.plan MakePart c.in-MakePart.is refl) c.requires.room

pub returns-in_err-make_part-in-MakePart-clause-moments : goal.returns-in_err-make_part-in-MakePart-clause-moments
returns-in_err-make_part-in-MakePart-clause-moments g c = c.make_part.ensures.moments

pub returns-in_err-make_part-in-MakePart-clause-made : goal.returns-in_err-make_part-in-MakePart-clause-made
returns-in_err-make_part-in-MakePart-clause-made g c = not_if_ok c.from_residual-in_err-make_part-in-MakePart.result _ c.from_residual-in_err-make_part-in-MakePart.ensures.1 _

pub returns-in_err-make_part-in-MakePart-clause-trimmed : goal.returns-in_err-make_part-in-MakePart-clause-trimmed
returns-in_err-make_part-in-MakePart-clause-trimmed g c = not_if_ok c.from_residual-in_err-make_part-in-MakePart.result _ c.from_residual-in_err-make_part-in-MakePart.ensures.1 _

pub returns-in_err-make_part-in-MakePart-clause-others : goal.returns-in_err-make_part-in-MakePart-clause-others
returns-in_err-make_part-in-MakePart-clause-others g c = not_ok c.from_residual-in_err-make_part-in-MakePart.result _ c.from_residual-in_err-make_part-in-MakePart.ensures.1 _

pub returns-in_err-make_part-in-MakePart-clause-ready : goal.returns-in_err-make_part-in-MakePart-clause-ready
returns-in_err-make_part-in-MakePart-clause-ready g c = not_ok c.from_residual-in_err-make_part-in-MakePart.result _ c.from_residual-in_err-make_part-in-MakePart.ensures.1 _

pub returns-in_err-make_part-in-MakePart-clause-leaves : goal.returns-in_err-make_part-in-MakePart-clause-leaves
returns-in_err-make_part-in-MakePart-clause-leaves g c = not_ok c.from_residual-in_err-make_part-in-MakePart.result _ c.from_residual-in_err-make_part-in-MakePart.ensures.1 _

pub returns-in_err-make_part-in-MakePart-clause-counts : goal.returns-in_err-make_part-in-MakePart-clause-counts
returns-in_err-make_part-in-MakePart-clause-counts g c = not_ok c.from_residual-in_err-make_part-in-MakePart.result _ c.from_residual-in_err-make_part-in-MakePart.ensures.1 _

pub returns-in_ok-make_part-in-MakePart-clause-moments : goal.returns-in_ok-make_part-in-MakePart-clause-moments
returns-in_ok-make_part-in-MakePart-clause-moments g c = c.make_part.ensures.moments

pub returns-in_ok-make_part-in-MakePart-clause-trimmed : goal.returns-in_ok-make_part-in-MakePart-clause-trimmed
returns-in_ok-make_part-in-MakePart-clause-trimmed g c e = absurd (none_some (sym e))

pub returns-in_ok-make_part-in-MakePart-clause-ready : goal.returns-in_ok-make_part-in-MakePart-clause-ready
returns-in_ok-make_part-in-MakePart-clause-ready g c = c.in_ok-make_part-in-MakePart.ensures.ready

pub returns-in_ok-make_part-in-MakePart-clause-leaves : goal.returns-in_ok-make_part-in-MakePart-clause-leaves
returns-in_ok-make_part-in-MakePart-clause-leaves g c = rest_as c.args.self.now c.make_part.new.self _ _ (sym (takes_one c.args.plan MakePart c.in-MakePart.is refl)) c.in_ok-make_part-in-MakePart.ensures.leaves

pub returns-in_ok-make_part-in-MakePart-clause-counts : goal.returns-in_ok-make_part-in-MakePart-clause-counts
returns-in_ok-make_part-in-MakePart-clause-counts g c = c.in_ok-make_part-in-MakePart.ensures.counts

pub make_part-requires-clause-pages : goal.make_part-requires-clause-pages
make_part-requires-clause-pages g c = record { entry = c.requires.pages.entry (inr (inr c.in-MakePart.is)); bits = c.requires.pages.all_bits c.in-MakePart.is }

pub returns-in_err-make_part-in-MakePart-clause-broken : goal.returns-in_err-make_part-in-MakePart-clause-broken
returns-in_err-make_part-in-MakePart-clause-broken g c = failed_for c.from_residual-in_err-make_part-in-MakePart.result _ c.from_residual-in_err-make_part-in-MakePart.ensures.1 _ c.in_err-make_part-in-MakePart.ensures.broken

pub returns-in_ok-make_block-in-Make-clause-others : goal.returns-in_ok-make_block-in-Make-clause-others
returns-in_ok-make_block-in-Make-clause-others g c =
    both_map (HasMade c.args.self.now c.make_block.new.self c.args.first 6 c.in_ok-make_block-in-Make.field-0) (KeepsOthers c.args.self.now c.make_block.new.self c.args.first) _ _ c.in_ok-make_block-in-Make.ensures.made (λ t u a b made. made.others)

pub returns-in_ok-make_part-in-MakePart-clause-made : goal.returns-in_ok-make_part-in-MakePart-clause-made
returns-in_ok-make_part-in-MakePart-clause-made g c = c.in_ok-make_part-in-MakePart.ensures.made

pub returns-in_ok-make_part-in-MakePart-clause-others : goal.returns-in_ok-make_part-in-MakePart-clause-others
returns-in_ok-make_part-in-MakePart-clause-others g c = c.in_ok-make_part-in-MakePart.ensures.others

pub returns-in-Leave-clause-trimmed : goal.returns-in-Leave-clause-trimmed
returns-in-Leave-clause-trimmed g c e = inr c.in-Leave.is

pub returns-in-Leave-clause-others : goal.returns-in-Leave-clause-others
returns-in-Leave-clause-others g c = others_self c.args.self.now c.args.first (g.S.Store.disk c.args.store.now).told

pub returns-in-Leave-clause-ready : goal.returns-in-Leave-clause-ready
returns-in-Leave-clause-ready g c = c.requires.ready

pub returns-in-Leave-clause-leaves : goal.returns-in-Leave-clause-leaves
returns-in-Leave-clause-leaves g c = rest_as c.args.self.now c.args.self.now _ _ (takes_none c.args.plan Leave c.in-Leave.is refl) (rest_self c.args.self.now)

pub returns-in-Leave-clause-counts : goal.returns-in-Leave-clause-counts
returns-in-Leave-clause-counts g c = refl

pub returns-in-Drop-clause-trimmed : goal.returns-in-Drop-clause-trimmed
returns-in-Drop-clause-trimmed g c e = inl c.in-Drop.is

pub returns-in-Write-clause-trimmed : goal.returns-in-Write-clause-trimmed
returns-in-Write-clause-trimmed g c e = absurd (none_some (sym e))

pub returns-in-Write-clause-others : goal.returns-in-Write-clause-others
returns-in-Write-clause-others g c = others_self c.args.self.now c.args.first (g.S.Store.disk c.args.store.now).told

pub returns-in-Write-clause-ready : goal.returns-in-Write-clause-ready
returns-in-Write-clause-ready g c = c.requires.ready

pub returns-in-Write-clause-leaves : goal.returns-in-Write-clause-leaves
returns-in-Write-clause-leaves g c = rest_as c.args.self.now c.args.self.now _ _ (takes_none c.args.plan Write c.in-Write.is refl) (rest_self c.args.self.now)

pub returns-in-Write-clause-counts : goal.returns-in-Write-clause-counts
returns-in-Write-clause-counts g c = refl

pub returns-in-Mark-clause-trimmed : goal.returns-in-Mark-clause-trimmed
returns-in-Mark-clause-trimmed g c e = absurd (none_some (sym e))

pub returns-in-Drop-clause-ready : goal.returns-in-Drop-clause-ready
returns-in-Drop-clause-ready g c = subst (IsReady c.drop_block.new.self) (sym c.drop_block.ensures.stays) c.drop_block.ensures.ready

pub returns-in-Drop-clause-leaves : goal.returns-in-Drop-clause-leaves
returns-in-Drop-clause-leaves g c = rest_as c.args.self.now c.drop_block.new.self _ _ (takes_none c.args.plan Drop c.in-Drop.is refl) c.drop_block.ensures.leaves

pub returns-in-Drop-clause-counts : goal.returns-in-Drop-clause-counts
returns-in-Drop-clause-counts g c = counts_still (g.S.Store.disk c.args.store.now) _ c.drop_block.ensures.stays

pub returns-in-Mark-clause-leaves : goal.returns-in-Mark-clause-leaves
returns-in-Mark-clause-leaves g c =
    let m : Marks c.args.self.now c.mark.new.self c.args.plan.bitmap c.args.first c.args.count true =
    record { only = c.mark.ensures.only; parts = c.mark.ensures.parts; within = c.mark.ensures.within; set = c.mark.ensures.set; places = c.mark.ensures.places } in
    rest_as c.args.self.now c.mark.new.self _ _ (takes_none c.args.plan Mark c.in-Mark.is refl) (marks_rest _ _ _ _ _ _ m)

pub returns-in-Mark-clause-counts : goal.returns-in-Mark-clause-counts
returns-in-Mark-clause-counts g c = refl
