use Rattle.std.proofs.Common.{◌≡◌, ◌/◌, ◌∙◌, true, false, refl, sym, subst, ap}
use Rattle.vhdx_format.specs.Fields.{megabyte}
use Rattle.store_model.specs.Disk.{Disk}
use Rattle.table_pages.specs.Held.{shape_of}
use Rattle.layer_session.specs.Planning.{IsLooked}
use Rattle.layer_session.specs.Steps.{held_by}
use Rattle.layer_session.proofs.Alike.{not_true}
use Rattle.block_alloc.specs.Spaces.{Space, fits_in}
use Rattle.table_pages.specs.declared.tables.TableParts.{TableParts}
use Rattle.layer_session.proofs.Leading.{room_is, tells_parts}
use Rattle.std.specs.Prelude.{Result}
use Rattle.layer_session.specs.Bringing.{Leads}
use Rattle.layer_session.specs.Calls.{OnBroken}
use Rattle.layer_session.specs.declared.file.LayerFault.{LayerFault}
use Rattle.layer_session.specs.declared.planning.Wanted.{Wanted}
use Rattle.layer_session.proofs.Equal.{false_true}
use Rattle.layer_session.proofs.Exits.{ok_not_full}
use Rattle.vx_base.proofs.Handed.{err_is, not_if_ok}
use Rattle.layer_session.proofs.file.Layer.plan.Goals as goal

pub returns-in-Ok-clause-looked : goal.returns-in-Ok-clause-looked
returns-in-Ok-clause-looked g c t told =
    let here = ap (λ (d : Disk). d.told) (sym c.in_ok-wanted.ensures.stays) ∙ told in
    subst (λ z. IsLooked (shape_of c.args.self.now.tables.parts) z c.args.trims c.look.new.self.plans.items 0 c.args.first c.args.count c.in_ok-wanted.wanted) (sym (c.look.ensures.held t here)) (c.in_ok-wanted.ensures.looked t here)

pub returns-in-Ok-clause-room : goal.returns-in-Ok-clause-room
returns-in-Ok-clause-room g c t told =
    let l = c.args.self.now in
    room_is (shape_of l.tables.parts) (held_by l t) c.args.trims c.look.new.self.plans.items c.args.first c.args.count c.block_units-units.result c.in_ok-wanted.wanted l.space c.look.new.self.space true (c.in_ok-wanted.ensures.looked t told)
    (c.block_units-units.ensures.is ∙ ap (λ (p : TableParts). p.block / megabyte) (tells_parts l c.look.new.self (g.S.Store.disk c.args.store.now) (g.S.Store.disk c.look.new.store) c.look.result c.look.ensures.leads)) c.look.ensures.space (c.in-Ok.ensures.fits.0 refl)

pub returns-in-Err-clause-full : goal.returns-in-Err-clause-full
returns-in-Err-clause-full g c next e = (
  let same : c.in-Err.full.next ≡ next = cc in sym same ∙ (c.in-Err.ensures.full ∙ ap (λ (s : Space). s.next) c.look.ensures.space),
  λ t told.
      let l = c.args.self.now in
      room_is (shape_of l.tables.parts) (held_by l t) c.args.trims c.look.new.self.plans.items c.args.first c.args.count c.block_units-units.result c.in_ok-wanted.wanted l.space c.look.new.self.space false (c.in_ok-wanted.ensures.looked t told)
      (c.block_units-units.ensures.is ∙ ap (λ (p : TableParts). p.block / megabyte) (tells_parts l c.look.new.self (g.S.Store.disk c.args.store.now) (g.S.Store.disk c.look.new.store) c.look.result c.look.ensures.leads)) c.look.ensures.space
      (not_true _ (λ x. absurd (false_true (c.in-Err.ensures.fits.1 x)))),
)

pub returns-in-Ok-clause-fits : goal.returns-in-Ok-clause-fits
returns-in-Ok-clause-fits g c =
    let l = c.args.self.now in
    subst (λ units. fits_in c.in_ok-wanted.wanted.blocks units c.in_ok-wanted.wanted.bitmaps c.look.new.self.space ≡ true)
    (c.block_units-units.ensures.is ∙ ap (λ (p : TableParts). p.block / megabyte) (tells_parts l c.look.new.self (g.S.Store.disk c.args.store.now) (g.S.Store.disk c.look.new.store) c.look.result c.look.ensures.leads)) (c.in-Ok.ensures.fits.0 refl)

pub look-requires-clause-ready : goal.look-requires-clause-ready
look-requires-clause-ready g c = c.requires.ready

pub look-requires-clause-on_disk : goal.look-requires-clause-on_disk
look-requires-clause-on_disk g c = c.requires.on_disk

pub look-requires-clause-few : goal.look-requires-clause-few
look-requires-clause-few g c = c.requires.few

pub block_units-units-requires : goal.block_units-units-requires
block_units-units-requires g c = record { parts = c.in_ok-wanted.ensures.leads.ready.readable.sizes }

pub returns-in_err-wanted-clause-leads : goal.returns-in_err-wanted-clause-leads
returns-in_err-wanted-clause-leads g c = subst (Leads c.args.self.now c.look.new.self (g.S.Store.disk c.args.store.now) (g.S.Store.disk c.look.new.store)) (sym (err_is c.from_residual.result c.in_err-wanted.field-0.0 c.from_residual.ensures.1)) c.in_err-wanted.ensures.leads

pub returns-in_err-wanted-clause-quiet : goal.returns-in_err-wanted-clause-quiet
returns-in_err-wanted-clause-quiet g c = subst (λ (r : Result Wanted LayerFault). OnBroken r ⊥) (sym (err_is c.from_residual.result c.in_err-wanted.field-0.0 c.from_residual.ensures.1)) c.in_err-wanted.ensures.quiet

pub returns-in_err-wanted-clause-looked : goal.returns-in_err-wanted-clause-looked
returns-in_err-wanted-clause-looked g c = not_if_ok c.from_residual.result c.in_err-wanted.field-0.0 c.from_residual.ensures.1 _

pub returns-in_err-wanted-clause-counted : goal.returns-in_err-wanted-clause-counted
returns-in_err-wanted-clause-counted g c = not_if_ok c.from_residual.result c.in_err-wanted.field-0.0 c.from_residual.ensures.1 _

pub returns-in_err-wanted-clause-fits : goal.returns-in_err-wanted-clause-fits
returns-in_err-wanted-clause-fits g c = not_if_ok c.from_residual.result c.in_err-wanted.field-0.0 c.from_residual.ensures.1 _

pub returns-in_err-wanted-clause-room : goal.returns-in_err-wanted-clause-room
returns-in_err-wanted-clause-room g c = not_if_ok c.from_residual.result c.in_err-wanted.field-0.0 c.from_residual.ensures.1 _

pub returns-in_err-wanted-clause-log : goal.returns-in_err-wanted-clause-log
returns-in_err-wanted-clause-log g c = c.look.ensures.log

pub returns-in_err-wanted-clause-full : goal.returns-in_err-wanted-clause-full
returns-in_err-wanted-clause-full g c next e = absurd (c.in_err-wanted.ensures.never next (sym (err_is c.from_residual.result c.in_err-wanted.field-0.0 c.from_residual.ensures.1) ∙ e))

pub returns-in-Ok-clause-leads : goal.returns-in-Ok-clause-leads
returns-in-Ok-clause-leads g c = c.in_ok-wanted.ensures.leads

pub returns-in-Ok-clause-counted : goal.returns-in-Ok-clause-counted
returns-in-Ok-clause-counted g c = c.in_ok-wanted.ensures.counted

pub returns-in-Ok-clause-log : goal.returns-in-Ok-clause-log
returns-in-Ok-clause-log g c = c.look.ensures.log

pub returns-in-Ok-clause-full : goal.returns-in-Ok-clause-full
returns-in-Ok-clause-full g c next e = absurd (ok_not_full c.in_ok-wanted.wanted next e)

pub returns-in-Err-clause-leads : goal.returns-in-Err-clause-leads
returns-in-Err-clause-leads g c = c.in_ok-wanted.ensures.leads

pub returns-in-Err-clause-log : goal.returns-in-Err-clause-log
returns-in-Err-clause-log g c = c.look.ensures.log
