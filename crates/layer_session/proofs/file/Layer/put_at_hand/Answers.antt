use Rattle.std.proofs.Common.{◌≡◌, ℕ, ◌+◌, ◌*◌, ◌/◌, ◌^◌, ◌<◌, ◌≤◌, ◌-◌, ◌&&◌, ◌==◌, ◌∙◌, Bool, true, false, length, arith, ap, refl, sym, subst}
use Rattle.std.proofs.lemmas.Bool.{and_parts, eq-eqb}
use Rattle.std.specs.Prelude.{Err, Some, not}
use Rattle.store_model.specs.Disk.{Disk}
use Rattle.layer_session.proofs.Sectors.{first_below}
use Rattle.table_pages.specs.declared.tables.TableParts.{TableParts}
use Rattle.layer_session.specs.declared.preparing.Missing.{Missing}
use Rattle.layer_session.specs.ByTables.{HaveBits, IsBitmapEntryAtHand, most_made}
use Rattle.layer_session.specs.Planning.{EachRun}
use Rattle.layer_session.specs.SectorRanges.{FitInCall}
use Rattle.layer_session.specs.Steps.{held_by}
use Rattle.layer_session.proofs.BothChunks.{names_of}
use Rattle.layer_session.proofs.Known.{end_fits, made_far, made_near, most_some, of_parts}
use Rattle.layer_session.specs.declared.file.LayerFault.{LayerFault}
use Rattle.layer_session.specs.Bringing.{HasEntry, Leads}
use Rattle.layer_session.proofs.AtHand.{entries_four, far_two, hand_four, lacks_four, lacks_three, near_two, prepared_five, room_four, room_three, there_four, wants_five}
use Rattle.layer_session.proofs.Leading.{leads_on, leads_then, prepared_by}
use Rattle.table_pages.specs.Held.{shape_of}
use Rattle.log_write.specs.Sessions.{LogState}
use Rattle.layer_session.specs.Blocks.{blocks_of}
use Rattle.vx_base.proofs.Handed.{err_is, not_ok}
use Rattle.layer_session.proofs.Exits.{last_on, pages_room, never_full, never_handed}
use Rattle.layer_session.specs.Bringing.{most_bit_pages}
use Rattle.layer_session.proofs.file.Layer.put_at_hand.Goals as goal

-- the last chunk's sector bitmap block is looked for only if that is another chunk
far_goes : (parent : Bool) (last first : ℕ) (more : Bool) → (parent && (not (last == first) && more)) ≡ true → last ≡ first → ⊥
far_goes false last first more e same = let no : false ≡ true = e in cc
far_goes true last first more e same =
    let one : (last == first) ≡ true = eq-eqb last first same in
    let none : (not (last == first) && more) ≡ false = rw one refl in
    let wrong : true ≡ false = sym e ∙ none in cc

pub bring_pages-requires-clause-near_there : goal.bring_pages-requires-clause-near_there
bring_pages-requires-clause-near_there g c =
    near_two c.args.self.now (g.S.Store.disk c.args.store.now) c.requires.ready c.args.first c.args.count c.requires.some c.requires.fit.size c.requires.fit.on_disk c.args.wanted.now c.requires.counted c.requires.planned c.requires.fits c.find_missing-missing.result c.find_missing-missing.ensures
    c.make_room.new.self (g.S.Store.disk c.make_room.new.store) c.in_ok-make_room.ensures.leads c.make_room.ensures.plans c.in_ok-make_room.ensures.says c.in_ok-make_room.ensures.fits

pub bring_pages-requires-clause-far_there : goal.bring_pages-requires-clause-far_there
bring_pages-requires-clause-far_there g c =
    far_two c.args.self.now (g.S.Store.disk c.args.store.now) c.requires.ready c.args.first c.args.count c.requires.some c.requires.fit.size c.requires.fit.on_disk c.args.wanted.now c.requires.counted c.requires.planned c.requires.fits c.find_missing-missing.result c.find_missing-missing.ensures
    c.make_room.new.self (g.S.Store.disk c.make_room.new.store) c.in_ok-make_room.ensures.leads c.make_room.ensures.plans c.in_ok-make_room.ensures.says c.in_ok-make_room.ensures.fits

pub returns-in_err-bring_pages-clause-leads : goal.returns-in_err-bring_pages-clause-leads
returns-in_err-bring_pages-clause-leads g c =
    let fault : LayerFault = c.in_err-bring_pages.field-0.0 in
    let same : c.from_residual-in_err-bring_pages.result ≡ Err fault = err_is c.from_residual-in_err-bring_pages.result c.in_err-bring_pages.field-0.0 c.from_residual-in_err-bring_pages.ensures.1 in
    subst (Leads c.args.self.now c.bring_pages.new.self (g.S.Store.disk c.args.store.now) (g.S.Store.disk c.bring_pages.new.store)) (sym same) (leads_on {T = Unit {0}} c.args.self.now c.make_room.new.self c.bring_pages.new.self (g.S.Store.disk c.args.store.now) (g.S.Store.disk c.make_room.new.store) (g.S.Store.disk c.bring_pages.new.store) (Err fault) c.in_ok-make_room.ensures.leads c.in_err-bring_pages.ensures.leads)

pub make_chunk-requires-clause-lacks : goal.make_chunk-requires-clause-lacks
make_chunk-requires-clause-lacks g c e = record {
  parent = of_parts (λ p. p.parent ≡ true) _ _ (c.in_ok-bring_pages.ensures.leads.parts ∙ c.in_ok-make_room.ensures.leads.parts) ((and_parts _ _ (ap (λ (m : Missing). m.near) (sym c.find_missing-missing.ensures) ∙ e)).0);
  missing =
      lacks_three c.args.self.now (g.S.Store.disk c.args.store.now) c.requires.ready c.args.first c.args.count c.requires.some c.requires.fit.size c.requires.fit.on_disk c.args.wanted.now c.requires.counted c.requires.planned c.requires.fits c.find_missing-missing.result c.find_missing-missing.ensures
      c.make_room.new.self (g.S.Store.disk c.make_room.new.store) c.in_ok-make_room.ensures.leads c.make_room.ensures.plans c.in_ok-make_room.ensures.says c.in_ok-make_room.ensures.fits
      c.bring_pages.new.self (g.S.Store.disk c.bring_pages.new.store) c.in_ok-bring_pages.ensures.leads c.in_ok-bring_pages.ensures.stays c.bring_pages.ensures.space c.in_ok-bring_pages.ensures.held c.in_ok-bring_pages.ensures.brings c.in_ok-bring_pages.ensures.far_there e;
  room =
      room_three c.args.self.now (g.S.Store.disk c.args.store.now) c.requires.ready c.args.first c.args.count c.requires.some c.requires.fit.size c.requires.fit.on_disk c.args.wanted.now c.requires.counted c.requires.planned c.requires.fits c.find_missing-missing.result c.find_missing-missing.ensures
      c.make_room.new.self (g.S.Store.disk c.make_room.new.store) c.in_ok-make_room.ensures.leads c.make_room.ensures.plans c.in_ok-make_room.ensures.says c.in_ok-make_room.ensures.fits
      c.bring_pages.new.self (g.S.Store.disk c.bring_pages.new.store) c.in_ok-bring_pages.ensures.leads c.in_ok-bring_pages.ensures.stays c.bring_pages.ensures.space c.in_ok-bring_pages.ensures.held c.in_ok-bring_pages.ensures.brings c.in_ok-bring_pages.ensures.far_there e;
  entry =
      of_parts (λ p. IsBitmapEntryAtHand p c.args.first c.bring_pages.new.self.tables.pending) _ _ c.in_ok-bring_pages.ensures.leads.parts (c.in_ok-bring_pages.ensures.brings.near_entry e);
  few =
      of_parts (λ p. length c.bring_pages.new.self.tables.pending + 1 + most_bit_pages (shape_of p) c.args.count ≤ 120) _ _ c.in_ok-bring_pages.ensures.leads.parts
      (made_near c.find_missing-missing.result (length c.make_room.new.self.tables.pending) _ c.pages_for.result (most_bit_pages (shape_of c.make_room.new.self.tables.parts) c.args.count) e c.bring_pages.ensures.few (most_some (shape_of c.make_room.new.self.tables.parts) c.args.count) (c.pages_for.ensures.is ∙ ap (λ (p : TableParts). 2 + 2 * (2 + most_bit_pages (shape_of p) c.args.count)) (sym c.in_ok-make_room.ensures.leads.parts)) c.in_ok-make_room.ensures.room);
}

pub returns-in_err-make_chunk-clause-leads : goal.returns-in_err-make_chunk-clause-leads
returns-in_err-make_chunk-clause-leads g c =
    let fault : LayerFault = c.in_err-make_chunk.field-0.0 in
    let same : c.from_residual-in_err-make_chunk.result ≡ Err fault = err_is c.from_residual-in_err-make_chunk.result c.in_err-make_chunk.field-0.0 c.from_residual-in_err-make_chunk.ensures.1 in
    subst (Leads c.args.self.now c.make_chunk.new.self (g.S.Store.disk c.args.store.now) (g.S.Store.disk c.make_chunk.new.store)) (sym same)
    (leads_on {T = Unit {0}} c.args.self.now c.bring_pages.new.self c.make_chunk.new.self (g.S.Store.disk c.args.store.now) (g.S.Store.disk c.bring_pages.new.store) (g.S.Store.disk c.make_chunk.new.store) (Err fault) (leads_then c.args.self.now c.make_room.new.self c.bring_pages.new.self (g.S.Store.disk c.args.store.now) (g.S.Store.disk c.make_room.new.store) (g.S.Store.disk c.bring_pages.new.store) c.in_ok-make_room.ensures.leads c.in_ok-bring_pages.ensures.leads) c.in_err-make_chunk.ensures.leads)

pub make_chunk-requires-2-clause-entries : goal.make_chunk-requires-2-clause-entries
make_chunk-requires-2-clause-entries g c =
    entries_four c.args.self.now (g.S.Store.disk c.args.store.now) c.requires.ready c.args.first c.args.count c.requires.some c.requires.fit.size c.requires.fit.on_disk c.args.wanted.now c.requires.counted c.requires.planned c.requires.fits c.find_missing-missing.result c.find_missing-missing.ensures
    c.make_room.new.self (g.S.Store.disk c.make_room.new.store) c.in_ok-make_room.ensures.leads c.make_room.ensures.plans c.in_ok-make_room.ensures.says c.in_ok-make_room.ensures.fits
    c.bring_pages.new.self (g.S.Store.disk c.bring_pages.new.store) c.in_ok-bring_pages.ensures.leads c.in_ok-bring_pages.ensures.stays c.bring_pages.ensures.space c.in_ok-bring_pages.ensures.held c.in_ok-bring_pages.ensures.brings c.in_ok-bring_pages.ensures.far_there
    c.make_chunk.new.self (g.S.Store.disk c.make_chunk.new.store) c.in_ok-make_chunk.ensures.leads c.in_ok-make_chunk.ensures.space c.make_chunk.ensures.keeps c.in_ok-make_chunk.ensures.named c.in_ok-make_chunk.ensures.bitmap.at_hand c.in_ok-make_chunk.ensures.bitmap.there c.in_ok-make_chunk.ensures.says

pub make_chunk-requires-2-clause-lacks : goal.make_chunk-requires-2-clause-lacks
make_chunk-requires-2-clause-lacks g c e = record {
  parent = of_parts (λ p. p.parent ≡ true) _ _ (c.in_ok-make_chunk.ensures.leads.parts ∙ (c.in_ok-bring_pages.ensures.leads.parts ∙ c.in_ok-make_room.ensures.leads.parts)) ((and_parts _ _ (ap (λ (m : Missing). m.far) (sym c.find_missing-missing.ensures) ∙ e)).0);
  missing =
      lacks_four c.args.self.now (g.S.Store.disk c.args.store.now) c.requires.ready c.args.first c.args.count c.requires.some c.requires.fit.size c.requires.fit.on_disk c.args.wanted.now c.requires.counted c.requires.planned c.requires.fits c.find_missing-missing.result c.find_missing-missing.ensures
      c.make_room.new.self (g.S.Store.disk c.make_room.new.store) c.in_ok-make_room.ensures.leads c.make_room.ensures.plans c.in_ok-make_room.ensures.says c.in_ok-make_room.ensures.fits
      c.bring_pages.new.self (g.S.Store.disk c.bring_pages.new.store) c.in_ok-bring_pages.ensures.leads c.in_ok-bring_pages.ensures.stays c.bring_pages.ensures.space c.in_ok-bring_pages.ensures.held c.in_ok-bring_pages.ensures.brings c.in_ok-bring_pages.ensures.far_there
      c.make_chunk.new.self (g.S.Store.disk c.make_chunk.new.store) c.in_ok-make_chunk.ensures.leads c.in_ok-make_chunk.ensures.space c.make_chunk.ensures.keeps c.in_ok-make_chunk.ensures.named c.in_ok-make_chunk.ensures.bitmap.at_hand c.in_ok-make_chunk.ensures.bitmap.there c.in_ok-make_chunk.ensures.says e;
  room =
      room_four c.args.self.now (g.S.Store.disk c.args.store.now) c.requires.ready c.args.first c.args.count c.requires.some c.requires.fit.size c.requires.fit.on_disk c.args.wanted.now c.requires.counted c.requires.planned c.requires.fits c.find_missing-missing.result c.find_missing-missing.ensures
      c.make_room.new.self (g.S.Store.disk c.make_room.new.store) c.in_ok-make_room.ensures.leads c.make_room.ensures.plans c.in_ok-make_room.ensures.says c.in_ok-make_room.ensures.fits
      c.bring_pages.new.self (g.S.Store.disk c.bring_pages.new.store) c.in_ok-bring_pages.ensures.leads c.in_ok-bring_pages.ensures.stays c.bring_pages.ensures.space c.in_ok-bring_pages.ensures.held c.in_ok-bring_pages.ensures.brings c.in_ok-bring_pages.ensures.far_there
      c.make_chunk.new.self (g.S.Store.disk c.make_chunk.new.store) c.in_ok-make_chunk.ensures.leads c.in_ok-make_chunk.ensures.space c.make_chunk.ensures.keeps c.in_ok-make_chunk.ensures.named c.in_ok-make_chunk.ensures.bitmap.at_hand c.in_ok-make_chunk.ensures.bitmap.there c.in_ok-make_chunk.ensures.says e;
  entry =
      subst (λ (x : TableParts). IsBitmapEntryAtHand x (c.args.first + c.args.count - 1) c.make_chunk.new.self.tables.pending) (sym (c.in_ok-make_chunk.ensures.leads.parts ∙ c.in_ok-bring_pages.ensures.leads.parts))
      (c.make_chunk.ensures.keeps _ (c.in_ok-bring_pages.ensures.brings.far_entry (far_goes _ _ _ _ (ap (λ (m : Missing). m.far) (sym c.find_missing-missing.ensures) ∙ e)) e));
  few =
      of_parts (λ p. length c.make_chunk.new.self.tables.pending + 1 + most_bit_pages (shape_of p) c.args.count ≤ 120) _ _ (c.in_ok-make_chunk.ensures.leads.parts ∙ c.in_ok-bring_pages.ensures.leads.parts)
      (made_far c.find_missing-missing.result (length c.make_room.new.self.tables.pending) (length c.bring_pages.new.self.tables.pending) _ c.pages_for.result (most_bit_pages (shape_of c.make_room.new.self.tables.parts) c.args.count) e c.bring_pages.ensures.few
      (subst (λ (p : TableParts). length c.make_chunk.new.self.tables.pending ≤ length c.bring_pages.new.self.tables.pending + most_made c.find_missing-missing.result.near (shape_of p) c.args.count) c.in_ok-bring_pages.ensures.leads.parts c.make_chunk.ensures.pages)
      (c.pages_for.ensures.is ∙ ap (λ (p : TableParts). 2 + 2 * (2 + most_bit_pages (shape_of p) c.args.count)) (sym c.in_ok-make_room.ensures.leads.parts)) c.in_ok-make_room.ensures.room);
}

pub make_chunk-requires-2-clause-bitmap : goal.make_chunk-requires-2-clause-bitmap
make_chunk-requires-2-clause-bitmap g c e = record {
  at_hand =
      hand_four c.args.self.now (g.S.Store.disk c.args.store.now) c.requires.ready c.args.first c.args.count c.requires.some c.requires.fit.size c.requires.fit.on_disk c.args.wanted.now c.requires.counted c.requires.planned c.requires.fits c.find_missing-missing.result c.find_missing-missing.ensures
      c.make_room.new.self (g.S.Store.disk c.make_room.new.store) c.in_ok-make_room.ensures.leads c.make_room.ensures.plans c.in_ok-make_room.ensures.says c.in_ok-make_room.ensures.fits
      c.bring_pages.new.self (g.S.Store.disk c.bring_pages.new.store) c.in_ok-bring_pages.ensures.leads c.in_ok-bring_pages.ensures.stays c.bring_pages.ensures.space c.in_ok-bring_pages.ensures.held c.in_ok-bring_pages.ensures.brings c.in_ok-bring_pages.ensures.far_there
      c.make_chunk.new.self (g.S.Store.disk c.make_chunk.new.store) c.in_ok-make_chunk.ensures.leads c.in_ok-make_chunk.ensures.space c.make_chunk.ensures.keeps c.in_ok-make_chunk.ensures.named c.in_ok-make_chunk.ensures.bitmap.at_hand c.in_ok-make_chunk.ensures.bitmap.there c.in_ok-make_chunk.ensures.says e;
  there =
      there_four c.args.self.now (g.S.Store.disk c.args.store.now) c.requires.ready c.args.first c.args.count c.requires.some c.requires.fit.size c.requires.fit.on_disk c.args.wanted.now c.requires.counted c.requires.planned c.requires.fits c.find_missing-missing.result c.find_missing-missing.ensures
      c.make_room.new.self (g.S.Store.disk c.make_room.new.store) c.in_ok-make_room.ensures.leads c.make_room.ensures.plans c.in_ok-make_room.ensures.says c.in_ok-make_room.ensures.fits
      c.bring_pages.new.self (g.S.Store.disk c.bring_pages.new.store) c.in_ok-bring_pages.ensures.leads c.in_ok-bring_pages.ensures.stays c.bring_pages.ensures.space c.in_ok-bring_pages.ensures.held c.in_ok-bring_pages.ensures.brings c.in_ok-bring_pages.ensures.far_there
      c.make_chunk.new.self (g.S.Store.disk c.make_chunk.new.store) c.in_ok-make_chunk.ensures.leads c.in_ok-make_chunk.ensures.space c.make_chunk.ensures.keeps c.in_ok-make_chunk.ensures.named c.in_ok-make_chunk.ensures.bitmap.at_hand c.in_ok-make_chunk.ensures.bitmap.there c.in_ok-make_chunk.ensures.says e;
}

pub returns-clause-leads : goal.returns-clause-leads
returns-clause-leads g c =
    leads_on c.args.self.now c.make_chunk.new.self c.make_chunk-2.new.self (g.S.Store.disk c.args.store.now) (g.S.Store.disk c.make_chunk.new.store) (g.S.Store.disk c.make_chunk-2.new.store) c.make_chunk-2.result
    (leads_then c.args.self.now c.bring_pages.new.self c.make_chunk.new.self (g.S.Store.disk c.args.store.now) (g.S.Store.disk c.bring_pages.new.store) (g.S.Store.disk c.make_chunk.new.store) (leads_then c.args.self.now c.make_room.new.self c.bring_pages.new.self (g.S.Store.disk c.args.store.now) (g.S.Store.disk c.make_room.new.store) (g.S.Store.disk c.bring_pages.new.store) c.in_ok-make_room.ensures.leads c.in_ok-bring_pages.ensures.leads) c.in_ok-make_chunk.ensures.leads) c.make_chunk-2.ensures.leads

pub returns-clause-prepared : goal.returns-clause-prepared
returns-clause-prepared g c =
    prepared_by c.make_chunk-2.result c.make_chunk-2.ensures.leads c.make_chunk-2.ensures.space c.make_chunk-2.ensures.named c.make_chunk-2.ensures.bitmap c.make_chunk-2.ensures.says
    (λ leads space named bitmap says. prepared_five c.args.self.now (g.S.Store.disk c.args.store.now) c.requires.ready c.args.first c.args.count c.requires.some c.requires.fit.size c.requires.fit.on_disk c.args.wanted.now c.requires.counted c.requires.planned c.requires.fits c.find_missing-missing.result c.find_missing-missing.ensures
    c.make_room.new.self (g.S.Store.disk c.make_room.new.store) c.in_ok-make_room.ensures.leads c.make_room.ensures.plans c.in_ok-make_room.ensures.says c.in_ok-make_room.ensures.fits
    c.bring_pages.new.self (g.S.Store.disk c.bring_pages.new.store) c.in_ok-bring_pages.ensures.leads c.in_ok-bring_pages.ensures.stays c.bring_pages.ensures.space c.in_ok-bring_pages.ensures.held c.in_ok-bring_pages.ensures.brings c.in_ok-bring_pages.ensures.far_there
    c.make_chunk.new.self (g.S.Store.disk c.make_chunk.new.store) c.in_ok-make_chunk.ensures.leads c.in_ok-make_chunk.ensures.space c.make_chunk.ensures.keeps c.in_ok-make_chunk.ensures.named c.in_ok-make_chunk.ensures.bitmap.at_hand c.in_ok-make_chunk.ensures.bitmap.there c.in_ok-make_chunk.ensures.says
    c.make_chunk-2.new.self (g.S.Store.disk c.make_chunk-2.new.store) leads space c.make_chunk-2.ensures.keeps named bitmap.at_hand bitmap.there says)

pub returns-clause-wants : goal.returns-clause-wants
returns-clause-wants g c trims =
    prepared_by c.make_chunk-2.result c.make_chunk-2.ensures.leads c.make_chunk-2.ensures.space c.make_chunk-2.ensures.named c.make_chunk-2.ensures.bitmap c.make_chunk-2.ensures.says
    (λ leads space named bitmap says. wants_five c.args.self.now (g.S.Store.disk c.args.store.now) c.requires.ready c.args.first c.args.count c.requires.some c.requires.fit.size c.requires.fit.on_disk c.args.wanted.now c.requires.counted c.requires.planned c.requires.fits c.find_missing-missing.result c.find_missing-missing.ensures
    c.make_room.new.self (g.S.Store.disk c.make_room.new.store) c.in_ok-make_room.ensures.leads c.make_room.ensures.plans c.in_ok-make_room.ensures.says c.in_ok-make_room.ensures.fits
    c.bring_pages.new.self (g.S.Store.disk c.bring_pages.new.store) c.in_ok-bring_pages.ensures.leads c.in_ok-bring_pages.ensures.stays c.bring_pages.ensures.space c.in_ok-bring_pages.ensures.held c.in_ok-bring_pages.ensures.brings c.in_ok-bring_pages.ensures.far_there
    c.make_chunk.new.self (g.S.Store.disk c.make_chunk.new.store) c.in_ok-make_chunk.ensures.leads c.in_ok-make_chunk.ensures.space c.make_chunk.ensures.keeps c.in_ok-make_chunk.ensures.named c.in_ok-make_chunk.ensures.bitmap.at_hand c.in_ok-make_chunk.ensures.bitmap.there c.in_ok-make_chunk.ensures.says
    c.make_chunk-2.new.self (g.S.Store.disk c.make_chunk-2.new.store) leads space c.make_chunk-2.ensures.keeps named bitmap.at_hand bitmap.there says trims)

pub pages_for-requires-clause-sizes : goal.pages_for-requires-clause-sizes
pages_for-requires-clause-sizes g c = c.requires.ready.readable.sizes

pub pages_for-requires-clause-few : goal.pages_for-requires-clause-few
pages_for-requires-clause-few g c = c.requires.fit.size

pub make_room-requires-clause-ready : goal.make_room-requires-clause-ready
make_room-requires-clause-ready g c = c.requires.ready

pub make_room-requires-clause-numbers : goal.make_room-requires-clause-numbers
make_room-requires-clause-numbers g c = c.requires.numbers

pub make_room-requires-clause-few : goal.make_room-requires-clause-few
make_room-requires-clause-few g c = c.pages_for.ensures.few

pub returns-in_err-make_room-clause-leads : goal.returns-in_err-make_room-clause-leads
returns-in_err-make_room-clause-leads g c = subst (Leads c.args.self.now c.make_room.new.self (g.S.Store.disk c.args.store.now) (g.S.Store.disk c.make_room.new.store)) (sym (err_is c.from_residual.result c.in_err-make_room.field-0.0 c.from_residual.ensures.1)) c.in_err-make_room.ensures.leads

pub returns-in_err-make_room-clause-prepared : goal.returns-in_err-make_room-clause-prepared
returns-in_err-make_room-clause-prepared g c = not_ok c.from_residual.result c.in_err-make_room.field-0.0 c.from_residual.ensures.1 _

pub returns-in_err-make_room-clause-wants : goal.returns-in_err-make_room-clause-wants
returns-in_err-make_room-clause-wants g c trims = not_ok c.from_residual.result c.in_err-make_room.field-0.0 c.from_residual.ensures.1 _

pub returns-in_err-make_room-clause-never : goal.returns-in_err-make_room-clause-never
returns-in_err-make_room-clause-never g c next e = never_handed c.from_residual.result c.in_err-make_room.field-0.0 c.from_residual.ensures.1 c.in_err-make_room.ensures.refused next e

pub returns-in_err-bring_pages-clause-prepared : goal.returns-in_err-bring_pages-clause-prepared
returns-in_err-bring_pages-clause-prepared g c = not_ok c.from_residual-in_err-bring_pages.result c.in_err-bring_pages.field-0.0 c.from_residual-in_err-bring_pages.ensures.1 _

pub returns-in_err-bring_pages-clause-wants : goal.returns-in_err-bring_pages-clause-wants
returns-in_err-bring_pages-clause-wants g c trims = not_ok c.from_residual-in_err-bring_pages.result c.in_err-bring_pages.field-0.0 c.from_residual-in_err-bring_pages.ensures.1 _

pub returns-in_err-bring_pages-clause-never : goal.returns-in_err-bring_pages-clause-never
returns-in_err-bring_pages-clause-never g c next e = c.in_err-bring_pages.ensures.never next (sym (err_is c.from_residual-in_err-bring_pages.result c.in_err-bring_pages.field-0.0 c.from_residual-in_err-bring_pages.ensures.1) ∙ e)

pub returns-in_err-make_chunk-clause-prepared : goal.returns-in_err-make_chunk-clause-prepared
returns-in_err-make_chunk-clause-prepared g c = not_ok c.from_residual-in_err-make_chunk.result c.in_err-make_chunk.field-0.0 c.from_residual-in_err-make_chunk.ensures.1 _

pub returns-in_err-make_chunk-clause-wants : goal.returns-in_err-make_chunk-clause-wants
returns-in_err-make_chunk-clause-wants g c trims = not_ok c.from_residual-in_err-make_chunk.result c.in_err-make_chunk.field-0.0 c.from_residual-in_err-make_chunk.ensures.1 _

pub returns-in_err-make_chunk-clause-never : goal.returns-in_err-make_chunk-clause-never
returns-in_err-make_chunk-clause-never g c next e = never_handed c.from_residual-in_err-make_chunk.result c.in_err-make_chunk.field-0.0 c.from_residual-in_err-make_chunk.ensures.1 c.in_err-make_chunk.ensures.refused next e

pub returns-clause-never : goal.returns-clause-never
returns-clause-never g c next e = never_full c.make_chunk-2.result c.make_chunk-2.ensures.refused next e

pub returns-in_err-make_room-clause-number : goal.returns-in_err-make_room-clause-number
returns-in_err-make_room-clause-number g c = c.make_room.ensures.number

pub returns-in_err-make_room-clause-header : goal.returns-in_err-make_room-clause-header
returns-in_err-make_room-clause-header g c = c.make_room.ensures.header

pub returns-in_err-bring_pages-clause-number : goal.returns-in_err-bring_pages-clause-number
returns-in_err-bring_pages-clause-number g c = subst (λ n. n ≤ c.args.self.now.log.number + 1) (sym (ap (λ (s : LogState). s.number) c.bring_pages.ensures.log)) c.make_room.ensures.number

pub returns-in_err-bring_pages-clause-header : goal.returns-in_err-bring_pages-clause-header
returns-in_err-bring_pages-clause-header g c = (ap (λ (s : LogState). s.header) c.bring_pages.ensures.log) ∙ c.make_room.ensures.header

pub returns-in_err-make_chunk-clause-number : goal.returns-in_err-make_chunk-clause-number
returns-in_err-make_chunk-clause-number g c = subst (λ n. n ≤ c.args.self.now.log.number + 1) (sym (ap (λ (s : LogState). s.number) c.make_chunk.ensures.log ∙ ap (λ (s : LogState). s.number) c.bring_pages.ensures.log)) c.make_room.ensures.number

pub returns-in_err-make_chunk-clause-header : goal.returns-in_err-make_chunk-clause-header
returns-in_err-make_chunk-clause-header g c = (ap (λ (s : LogState). s.header) c.make_chunk.ensures.log ∙ ap (λ (s : LogState). s.header) c.bring_pages.ensures.log) ∙ c.make_room.ensures.header

pub returns-clause-number : goal.returns-clause-number
returns-clause-number g c = subst (λ n. n ≤ c.args.self.now.log.number + 1) (sym (ap (λ (s : LogState). s.number) c.make_chunk-2.ensures.log ∙ (ap (λ (s : LogState). s.number) c.make_chunk.ensures.log ∙ ap (λ (s : LogState). s.number) c.bring_pages.ensures.log))) c.make_room.ensures.number

pub returns-clause-header : goal.returns-clause-header
returns-clause-header g c = (ap (λ (s : LogState). s.header) c.make_chunk-2.ensures.log ∙ (ap (λ (s : LogState). s.header) c.make_chunk.ensures.log ∙ ap (λ (s : LogState). s.header) c.bring_pages.ensures.log)) ∙ c.make_room.ensures.header

pub bring_pages-requires-clause-ready : goal.bring_pages-requires-clause-ready
bring_pages-requires-clause-ready g c = c.in_ok-make_room.ensures.leads.ready

pub bring_pages-requires-clause-some : goal.bring_pages-requires-clause-some
bring_pages-requires-clause-some g c = c.requires.some

pub bring_pages-requires-clause-fit : goal.bring_pages-requires-clause-fit
bring_pages-requires-clause-fit g c = of_parts (λ p. FitInCall p 257 c.args.first c.args.count) _ _ c.in_ok-make_room.ensures.leads.parts c.requires.fit

pub make_chunk-requires-clause-on_disk : goal.make_chunk-requires-clause-on_disk
make_chunk-requires-clause-on_disk g c = subst (λ (p : TableParts). c.args.first + c.args.count ≤ p.sectors) (sym (c.in_ok-bring_pages.ensures.leads.parts ∙ c.in_ok-make_room.ensures.leads.parts)) c.requires.fit.on_disk

pub make_chunk-requires-clause-few : goal.make_chunk-requires-clause-few
make_chunk-requires-clause-few g c = subst (λ (p : TableParts). blocks_of (shape_of p) c.args.first c.args.count ≤ 257) (sym (c.in_ok-bring_pages.ensures.leads.parts ∙ c.in_ok-make_room.ensures.leads.parts)) c.requires.fit.few

pub make_chunk-requires-2-clause-on_disk : goal.make_chunk-requires-2-clause-on_disk
make_chunk-requires-2-clause-on_disk g c = subst (λ (p : TableParts). c.args.first + c.args.count ≤ p.sectors) (sym (c.in_ok-make_chunk.ensures.leads.parts ∙ (c.in_ok-bring_pages.ensures.leads.parts ∙ c.in_ok-make_room.ensures.leads.parts))) c.requires.fit.on_disk

pub make_chunk-requires-2-clause-few : goal.make_chunk-requires-2-clause-few
make_chunk-requires-2-clause-few g c = subst (λ (p : TableParts). blocks_of (shape_of p) c.args.first c.args.count ≤ 257) (sym (c.in_ok-make_chunk.ensures.leads.parts ∙ (c.in_ok-bring_pages.ensures.leads.parts ∙ c.in_ok-make_room.ensures.leads.parts))) c.requires.fit.few

pub make_chunk-requires-clause-ready : goal.make_chunk-requires-clause-ready
make_chunk-requires-clause-ready g c = c.in_ok-bring_pages.ensures.leads.ready

pub make_chunk-requires-2-clause-ready : goal.make_chunk-requires-2-clause-ready
make_chunk-requires-2-clause-ready g c = c.in_ok-make_chunk.ensures.leads.ready

pub make_chunk-requires-clause-sector : goal.make_chunk-requires-clause-sector
make_chunk-requires-clause-sector g c = subst (λ (p : TableParts). c.args.first < p.sectors) (sym (c.in_ok-bring_pages.ensures.leads.parts ∙ c.in_ok-make_room.ensures.leads.parts)) (first_below c.args.first c.args.count _ c.requires.some c.requires.fit.on_disk)

pub bring_pages-requires-clause-room : goal.bring_pages-requires-clause-room
bring_pages-requires-clause-room g c = pages_room (length c.make_room.new.self.tables.pending) c.pages_for.result (most_bit_pages (shape_of c.make_room.new.self.tables.parts) c.args.count) (c.pages_for.ensures.is ∙ ap (λ (p : TableParts). 2 + 2 * (2 + most_bit_pages (shape_of p) c.args.count)) (sym c.in_ok-make_room.ensures.leads.parts)) c.in_ok-make_room.ensures.room

pub make_chunk-requires-2-clause-sector : goal.make_chunk-requires-2-clause-sector
make_chunk-requires-2-clause-sector g c = subst (λ (p : TableParts). c.args.first + c.args.count - 1 < p.sectors) (sym (c.in_ok-make_chunk.ensures.leads.parts ∙ (c.in_ok-bring_pages.ensures.leads.parts ∙ c.in_ok-make_room.ensures.leads.parts))) (last_on c.args.first c.args.count _ c.requires.some c.requires.fit.on_disk)

pub overflow_sub-last : goal.overflow_sub-last
overflow_sub-last g c = let h = c.requires.some in omega (arith, h)

pub overflow_add-last : goal.overflow_add-last
overflow_add-last g c = end_fits c.args.self.now.tables.parts c.requires.ready.readable.sizes c.args.first c.args.count c.requires.fit.on_disk

pub bring_pages-requires-clause-near : goal.bring_pages-requires-clause-near
bring_pages-requires-clause-near g c e = of_parts (λ p. p.parent ≡ true) _ _ c.in_ok-make_room.ensures.leads.parts ((and_parts _ _ (ap (λ (m : Missing). m.near) (sym c.find_missing-missing.ensures) ∙ e)).0)

pub bring_pages-requires-clause-far : goal.bring_pages-requires-clause-far
bring_pages-requires-clause-far g c e = of_parts (λ p. p.parent ≡ true) _ _ c.in_ok-make_room.ensures.leads.parts ((and_parts _ _ (ap (λ (m : Missing). m.far) (sym c.find_missing-missing.ensures) ∙ e)).0)

pub make_chunk-requires-clause-entries : goal.make_chunk-requires-clause-entries
make_chunk-requires-clause-entries g c = of_parts (λ p. EachRun (shape_of p) c.bring_pages.new.self.plans.items (HasEntry c.bring_pages.new.self.tables) 0 c.args.first c.args.count) _ _ c.in_ok-bring_pages.ensures.leads.parts c.in_ok-bring_pages.ensures.brings.entries

pub make_chunk-requires-clause-bitmap : goal.make_chunk-requires-clause-bitmap
make_chunk-requires-clause-bitmap g c e = record {
  at_hand =
      of_parts (λ p. HaveBits (c.args.first / 2 ^ 23) (shape_of p) c.bring_pages.new.self.tables c.bring_pages.new.self.plans.items c.args.first c.args.count) _ _ c.in_ok-bring_pages.ensures.leads.parts (c.in_ok-bring_pages.ensures.brings.near e);
  there = λ t told.
      let here : (g.S.Store.disk c.make_room.new.store).told ≡ Some t = ap (λ (d : Disk). d.told) (sym c.in_ok-bring_pages.ensures.stays) ∙ told in
      names_of c.make_room.new.self.tables.parts c.bring_pages.new.self.tables.parts c.bring_pages.new.self.plans.items (c.args.first / 2 ^ 23) (held_by c.make_room.new.self t) (held_by c.bring_pages.new.self t) c.args.first c.args.count
      c.in_ok-bring_pages.ensures.leads.parts (c.in_ok-bring_pages.ensures.held t here) (c.in_ok-bring_pages.ensures.near_there e t here);
}
