use Rattle.std.proofs.Common.{◌/◌, false, inl, inr, refl, subst, sym}
use Rattle.layer_session.proofs.Sectors.{first_below}
use Rattle.layer_session.proofs.Leading.{keeps_now}
use Rattle.layer_session.proofs.Readying.{part_absent}
use Rattle.layer_session.proofs.Spotting.{empty_kept, empty_spot, here_spot, made_kept, made_spot, make_may_be, mark_spot, self_kept, takes_nothing}
use Rattle.layer_session.specs.Taking.{IsBroken}
use Rattle.vx_base.proofs.Handed.{failed_for, not_if_ok, not_ok}
use Rattle.layer_session.proofs.Exits.{takes_one}
use Rattle.vhdx_format.specs.Fields.{megabyte}
use Rattle.layer_session.specs.Steps.{HasRoomFor}
use Rattle.layer_session.specs.declared.planning.Step.TheVariants.{Make, MakePart, Mark}
use Rattle.layer_session.specs.Masked.{HasMarkPages}
use Rattle.layer_session.specs.ByLayers.{StandAtSpot}
use Rattle.layer_session.proofs.Equal.{false_true}
use Rattle.table_pages.specs.Held.{shape_of}
use Rattle.layer_session.proofs.Known.{rest_as, rest_self, run_bits, takes_none}
use Rattle.layer_session.proofs.file.Layer.ready_spot.Goals as goal

pub make_block-requires-clause-may : goal.make_block-requires-clause-may
make_block-requires-clause-may g c t told =
    make_may_be c.args.self.now (g.S.Store.disk c.args.store.now) c.requires.ready c.args.plan c.args.first c.args.count c.requires.some c.requires.block.on_disk c.requires.block.run c.requires.todo c.in-Make.is t told

pub returns-in-Mark-clause-moments : goal.returns-in-Mark-clause-moments
returns-in-Mark-clause-moments g c =
    keeps_now c.args.self.now (g.S.Store.disk c.args.store.now).told

pub returns-in-Mark-clause-spot : goal.returns-in-Mark-clause-spot
returns-in-Mark-clause-spot g c =
    subst (StandAtSpot c.args.self.now c.args.self.now (g.S.Store.disk c.args.store.now) c.args.first c.args.count) (sym c.spot_of.ensures)
    (mark_spot c.args.self.now (g.S.Store.disk c.args.store.now) c.requires.ready c.args.plan c.args.first c.args.count c.requires.some c.requires.block.on_disk c.requires.block.run c.requires.todo c.offset_in_block.result c.place_in-place.result c.offset_in_block.ensures.is c.offset_in_block.ensures.inside c.place_in-place.ensures c.in-Mark.is)

pub returns-in-Write-clause-moments : goal.returns-in-Write-clause-moments
returns-in-Write-clause-moments g c =
    keeps_now c.args.self.now (g.S.Store.disk c.args.store.now).told

pub returns-in-Write-clause-spot : goal.returns-in-Write-clause-spot
returns-in-Write-clause-spot g c =
    subst (StandAtSpot c.args.self.now c.args.self.now (g.S.Store.disk c.args.store.now) c.args.first c.args.count) (sym c.spot_of-in-Write.ensures)
    (here_spot c.args.self.now (g.S.Store.disk c.args.store.now) c.requires.ready c.args.plan c.args.first c.args.count c.requires.some c.requires.block.on_disk c.requires.block.run c.requires.todo c.offset_in_block.result c.place_in-place.result c.offset_in_block.ensures.is c.offset_in_block.ensures.inside c.place_in-place.ensures c.in-Write.is)

pub make_empty-requires-clause-absent : goal.make_empty-requires-clause-absent
make_empty-requires-clause-absent g c =
    part_absent c.args.self.now (g.S.Store.disk c.args.store.now) c.requires.ready c.args.plan c.args.first c.args.count c.requires.some c.requires.block.on_disk c.requires.block.run (λ t told. (false, c.requires.todo t told)) c.in-MakePart.is

pub returns-in_err-place-in-Make-clause-kept : goal.returns-in_err-place-in-Make-clause-kept
returns-in_err-place-in-Make-clause-kept g c = not_ok c.from_residual.result c.in_err-place-in-Make.field-0.0 c.from_residual.ensures.1 _

pub returns-in_err-place-in-Make-clause-ready : goal.returns-in_err-place-in-Make-clause-ready
returns-in_err-place-in-Make-clause-ready g c = not_ok c.from_residual.result c.in_err-place-in-Make.field-0.0 c.from_residual.ensures.1 _

pub returns-in_err-place-in-Make-clause-leaves : goal.returns-in_err-place-in-Make-clause-leaves
returns-in_err-place-in-Make-clause-leaves g c = not_ok c.from_residual.result c.in_err-place-in-Make.field-0.0 c.from_residual.ensures.1 _

pub returns-in_err-place-in-Make-clause-counts : goal.returns-in_err-place-in-Make-clause-counts
returns-in_err-place-in-Make-clause-counts g c = not_ok c.from_residual.result c.in_err-place-in-Make.field-0.0 c.from_residual.ensures.1 _

pub returns-in_err-place-in-Make-clause-spot : goal.returns-in_err-place-in-Make-clause-spot
returns-in_err-place-in-Make-clause-spot g c = not_if_ok c.from_residual.result c.in_err-place-in-Make.field-0.0 c.from_residual.ensures.1 _

pub returns-in_err-place-in-Make-clause-pages : goal.returns-in_err-place-in-Make-clause-pages
returns-in_err-place-in-Make-clause-pages g c = not_if_ok c.from_residual.result c.in_err-place-in-Make.field-0.0 c.from_residual.ensures.1 _

pub returns-in_err-place-in-Make-clause-moments : goal.returns-in_err-place-in-Make-clause-moments
returns-in_err-place-in-Make-clause-moments g c = c.make_block.ensures.moments

pub returns-in_err-place-in-Make-clause-broken : goal.returns-in_err-place-in-Make-clause-broken
returns-in_err-place-in-Make-clause-broken g c = failed_for c.from_residual.result c.in_err-place-in-Make.field-0.0 c.from_residual.ensures.1 (IsBroken c.args.self.now c.make_block.new.self 0 0 (g.S.Store.disk c.args.store.now) (g.S.Store.disk c.make_block.new.store)) c.in_err-place-in-Make.ensures.broken

pub returns-in_err-place-in-MakePart-clause-kept : goal.returns-in_err-place-in-MakePart-clause-kept
returns-in_err-place-in-MakePart-clause-kept g c = not_ok c.from_residual-in_err-place-in-MakePart.result c.in_err-place-in-MakePart.field-0.0 c.from_residual-in_err-place-in-MakePart.ensures.1 _

pub returns-in_err-place-in-MakePart-clause-ready : goal.returns-in_err-place-in-MakePart-clause-ready
returns-in_err-place-in-MakePart-clause-ready g c = not_ok c.from_residual-in_err-place-in-MakePart.result c.in_err-place-in-MakePart.field-0.0 c.from_residual-in_err-place-in-MakePart.ensures.1 _

pub returns-in_err-place-in-MakePart-clause-leaves : goal.returns-in_err-place-in-MakePart-clause-leaves
returns-in_err-place-in-MakePart-clause-leaves g c = not_ok c.from_residual-in_err-place-in-MakePart.result c.in_err-place-in-MakePart.field-0.0 c.from_residual-in_err-place-in-MakePart.ensures.1 _

pub returns-in_err-place-in-MakePart-clause-counts : goal.returns-in_err-place-in-MakePart-clause-counts
returns-in_err-place-in-MakePart-clause-counts g c = not_ok c.from_residual-in_err-place-in-MakePart.result c.in_err-place-in-MakePart.field-0.0 c.from_residual-in_err-place-in-MakePart.ensures.1 _

pub returns-in_err-place-in-MakePart-clause-spot : goal.returns-in_err-place-in-MakePart-clause-spot
returns-in_err-place-in-MakePart-clause-spot g c = not_if_ok c.from_residual-in_err-place-in-MakePart.result c.in_err-place-in-MakePart.field-0.0 c.from_residual-in_err-place-in-MakePart.ensures.1 _

pub returns-in_err-place-in-MakePart-clause-pages : goal.returns-in_err-place-in-MakePart-clause-pages
returns-in_err-place-in-MakePart-clause-pages g c = not_if_ok c.from_residual-in_err-place-in-MakePart.result c.in_err-place-in-MakePart.field-0.0 c.from_residual-in_err-place-in-MakePart.ensures.1 _

pub returns-in_err-place-in-MakePart-clause-moments : goal.returns-in_err-place-in-MakePart-clause-moments
returns-in_err-place-in-MakePart-clause-moments g c = c.make_empty.ensures.moments

pub returns-in_err-place-in-MakePart-clause-broken : goal.returns-in_err-place-in-MakePart-clause-broken
returns-in_err-place-in-MakePart-clause-broken g c = failed_for c.from_residual-in_err-place-in-MakePart.result c.in_err-place-in-MakePart.field-0.0 c.from_residual-in_err-place-in-MakePart.ensures.1 (IsBroken c.args.self.now c.make_empty.new.self 0 0 (g.S.Store.disk c.args.store.now) (g.S.Store.disk c.make_empty.new.store)) c.in_err-place-in-MakePart.ensures.broken

pub offset_in_block-requires-clause-parts : goal.offset_in_block-requires-clause-parts
offset_in_block-requires-clause-parts g c = c.requires.ready.readable.sizes

pub offset_in_block-requires-clause-sector : goal.offset_in_block-requires-clause-sector
offset_in_block-requires-clause-sector g c = first_below c.args.first c.args.count _ c.requires.some c.requires.block.on_disk

pub make_block-requires-clause-first : goal.make_block-requires-clause-first
make_block-requires-clause-first g c = first_below c.args.first c.args.count _ c.requires.some c.requires.block.on_disk

pub make_empty-requires-clause-on_disk : goal.make_empty-requires-clause-on_disk
make_empty-requires-clause-on_disk g c = first_below c.args.first c.args.count _ c.requires.some c.requires.block.on_disk

pub make_block-requires-clause-ready : goal.make_block-requires-clause-ready
make_block-requires-clause-ready g c = c.requires.ready

pub make_empty-requires-clause-ready : goal.make_empty-requires-clause-ready
make_empty-requires-clause-ready g c = c.requires.ready

pub returns-in-Mark-clause-ready : goal.returns-in-Mark-clause-ready
returns-in-Mark-clause-ready g c = c.requires.ready

pub returns-in-Mark-clause-leaves : goal.returns-in-Mark-clause-leaves
returns-in-Mark-clause-leaves g c = rest_as c.args.self.now c.args.self.now _ _ (takes_none c.args.plan Mark c.in-Mark.is refl) (rest_self c.args.self.now)

pub returns-in-Mark-clause-counts : goal.returns-in-Mark-clause-counts
returns-in-Mark-clause-counts g c = refl

pub returns-in-Write-clause-ready : goal.returns-in-Write-clause-ready
returns-in-Write-clause-ready g c = c.requires.ready

pub returns-in-Write-clause-leaves : goal.returns-in-Write-clause-leaves
returns-in-Write-clause-leaves g c = rest_as c.args.self.now c.args.self.now _ _ (takes_nothing c.args.plan c.in-Write.is) (rest_self c.args.self.now)

pub returns-in-Write-clause-counts : goal.returns-in-Write-clause-counts
returns-in-Write-clause-counts g c = refl

pub make_block-requires-clause-state : goal.make_block-requires-clause-state
make_block-requires-clause-state g c = inl refl

pub make_block-requires-clause-at_hand : goal.make_block-requires-clause-at_hand
make_block-requires-clause-at_hand g c = c.requires.pages.entry (inr (inl c.in-Make.is))

pub make_empty-requires-clause-pages : goal.make_empty-requires-clause-pages
make_empty-requires-clause-pages g c = record { entry = c.requires.pages.entry (inr (inr c.in-MakePart.is)); bits = c.requires.pages.all_bits c.in-MakePart.is }

pub make_block-requires-clause-room : goal.make_block-requires-clause-room
make_block-requires-clause-room g c = subst (λ n. HasRoomFor (c.args.self.now.tables.parts.block / megabyte) n 0 c.args.self.now.space) (takes_one c.args.plan Make c.in-Make.is refl) c.requires.room

pub returns-in_ok-place-in-Make-clause-moments : goal.returns-in_ok-place-in-Make-clause-moments
returns-in_ok-place-in-Make-clause-moments g c = c.make_block.ensures.moments

pub returns-in_ok-place-in-Make-clause-kept : goal.returns-in_ok-place-in-Make-clause-kept
returns-in_ok-place-in-Make-clause-kept g c = made_kept c.args.self.now c.make_block.new.self c.args.first 6 c.in_ok-place-in-Make.place (g.S.Store.disk c.args.store.now).told (g.S.Store.disk c.make_block.new.store).told c.in_ok-place-in-Make.ensures.made

pub returns-in_ok-place-in-Make-clause-spot : goal.returns-in_ok-place-in-Make-clause-spot
returns-in_ok-place-in-Make-clause-spot g c =
    subst (StandAtSpot c.args.self.now c.make_block.new.self (g.S.Store.disk c.make_block.new.store) c.args.first c.args.count) (sym c.spot_of-in-Make.ensures)
    (made_spot c.args.self.now (g.S.Store.disk c.args.store.now) c.requires.ready c.args.plan c.args.first c.args.count c.requires.some c.requires.block.on_disk c.requires.block.run c.requires.todo c.make_block.new.self (g.S.Store.disk c.make_block.new.store) c.in_ok-place-in-Make.place c.in_ok-place-in-Make.ensures.leaves.parts c.in_ok-place-in-Make.ensures.made)

pub returns-in_ok-place-in-Make-clause-pages : goal.returns-in_ok-place-in-Make-clause-pages
returns-in_ok-place-in-Make-clause-pages g c =
    subst (HasMarkPages c.make_block.new.self.tables c.args.first c.args.count) (sym c.spot_of-in-Make.ensures)
    (record { bits = λ m. absurd (false_true m) })

pub returns-in_ok-place-in-Make-clause-ready : goal.returns-in_ok-place-in-Make-clause-ready
returns-in_ok-place-in-Make-clause-ready g c = c.in_ok-place-in-Make.ensures.ready

pub returns-in_ok-place-in-Make-clause-leaves : goal.returns-in_ok-place-in-Make-clause-leaves
returns-in_ok-place-in-Make-clause-leaves g c = rest_as c.args.self.now c.make_block.new.self _ _ (sym (takes_one c.args.plan Make c.in-Make.is refl)) c.in_ok-place-in-Make.ensures.leaves

pub returns-in_ok-place-in-Make-clause-counts : goal.returns-in_ok-place-in-Make-clause-counts
returns-in_ok-place-in-Make-clause-counts g c = c.in_ok-place-in-Make.ensures.counts

pub make_empty-requires-clause-room : goal.make_empty-requires-clause-room
make_empty-requires-clause-room g c = subst (λ n. HasRoomFor (c.args.self.now.tables.parts.block / megabyte) n 0 c.args.self.now.space) (takes_one c.args.plan MakePart c.in-MakePart.is refl) c.requires.room

pub returns-in_ok-place-in-MakePart-clause-moments : goal.returns-in_ok-place-in-MakePart-clause-moments
returns-in_ok-place-in-MakePart-clause-moments g c = c.make_empty.ensures.moments

pub returns-in_ok-place-in-MakePart-clause-kept : goal.returns-in_ok-place-in-MakePart-clause-kept
returns-in_ok-place-in-MakePart-clause-kept g c = empty_kept c.args.self.now c.make_empty.new.self c.args.first c.in_ok-place-in-MakePart.place c.args.plan.bitmap (g.S.Store.disk c.args.store.now).told (g.S.Store.disk c.make_empty.new.store).told c.in_ok-place-in-MakePart.ensures.made

pub returns-in_ok-place-in-MakePart-clause-spot : goal.returns-in_ok-place-in-MakePart-clause-spot
returns-in_ok-place-in-MakePart-clause-spot g c =
    subst (StandAtSpot c.args.self.now c.make_empty.new.self (g.S.Store.disk c.make_empty.new.store) c.args.first c.args.count) (sym c.spot_of-in-MakePart.ensures)
    (empty_spot c.args.self.now (g.S.Store.disk c.args.store.now) c.requires.ready c.args.plan c.args.first c.args.count c.requires.some c.requires.block.on_disk c.requires.block.run c.requires.todo c.make_empty.new.self (g.S.Store.disk c.make_empty.new.store) c.in_ok-place-in-MakePart.place c.in_ok-place-in-MakePart.ensures.made)

pub returns-in_ok-place-in-MakePart-clause-ready : goal.returns-in_ok-place-in-MakePart-clause-ready
returns-in_ok-place-in-MakePart-clause-ready g c = c.in_ok-place-in-MakePart.ensures.ready

pub returns-in_ok-place-in-MakePart-clause-leaves : goal.returns-in_ok-place-in-MakePart-clause-leaves
returns-in_ok-place-in-MakePart-clause-leaves g c = rest_as c.args.self.now c.make_empty.new.self _ _ (sym (takes_one c.args.plan MakePart c.in-MakePart.is refl)) c.in_ok-place-in-MakePart.ensures.leaves

pub returns-in_ok-place-in-MakePart-clause-counts : goal.returns-in_ok-place-in-MakePart-clause-counts
returns-in_ok-place-in-MakePart-clause-counts g c = c.in_ok-place-in-MakePart.ensures.counts

pub returns-in-Mark-clause-kept : goal.returns-in-Mark-clause-kept
returns-in-Mark-clause-kept g c = self_kept c.args.self.now (g.S.Store.disk c.args.store.now).told

pub returns-in-Write-clause-kept : goal.returns-in-Write-clause-kept
returns-in-Write-clause-kept g c = self_kept c.args.self.now (g.S.Store.disk c.args.store.now).told

pub returns-in-Mark-clause-pages : goal.returns-in-Mark-clause-pages
returns-in-Mark-clause-pages g c =
    subst (HasMarkPages c.args.self.now.tables c.args.first c.args.count) (sym c.spot_of.ensures)
    (record { bits = λ m. c.requires.pages.bits c.in-Mark.is })

pub returns-in-Write-clause-pages : goal.returns-in-Write-clause-pages
returns-in-Write-clause-pages g c =
    subst (HasMarkPages c.args.self.now.tables c.args.first c.args.count) (sym c.spot_of-in-Write.ensures)
    (record { bits = λ m. absurd (false_true m) })

pub returns-in_ok-place-in-MakePart-clause-pages : goal.returns-in_ok-place-in-MakePart-clause-pages
returns-in_ok-place-in-MakePart-clause-pages g c =
    subst (HasMarkPages c.make_empty.new.self.tables c.args.first c.args.count) (sym c.spot_of-in-MakePart.ensures)
    (record {
      bits = λ e k from to. c.in_ok-place-in-MakePart.ensures.leaves.pages _
          (run_bits (shape_of c.args.self.now.tables.parts) (record { sector = c.requires.ready.readable.sizes.sector; block = c.requires.ready.readable.sizes.block }) c.args.plan.bitmap c.args.first c.args.count _ _ c.args.self.now.tables.pending refl refl c.requires.block.run
          (c.requires.pages.all_bits c.in-MakePart.is) k from to);
    })
