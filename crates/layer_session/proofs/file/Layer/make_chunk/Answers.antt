use Rattle.std.proofs.Common.{◌≡◌, ◌+◌, ◌-◌, ◌/◌, ◌%◌, ◌^◌, List, length, true, false, ap, ◌∙◌, inl, inr, sym, subst, refl}
use Rattle.std.specs.Prelude.{None}
use Rattle.std.specs.Vec.{with_items}
use Rattle.std.proofs.lemmas.List.{with_items_is}
use Rattle.store_model.specs.Disk.{Disk}
use Rattle.table_pages.specs.Held.{bit_pages, shape_of}
use Rattle.layer_session.specs.declared.file.Layer.{Layer}
use Rattle.layer_session.specs.declared.planning.Plan.{Plan}
use Rattle.layer_session.specs.Bringing.{AreBitsOf, AreNamed, HasBits, HasEntry, HasMade, InChunk, Leads, most_bit_pages, LeadsTo, NamesBitmap, SpansBits}
use Rattle.layer_session.specs.Calls.{IsSame}
use Rattle.layer_session.specs.Planning.{EachRun}
use Rattle.layer_session.specs.Steps.{held_by}
use Rattle.layer_session.proofs.Brought.{hand_then, made_told, named_same, names_new, no_bits, no_names, none_marks}
use Rattle.layer_session.proofs.Leading.{leads_same, leads_then, planned_long, plans_same}
use Rattle.layer_session.proofs.Readable.{same_self}
use Rattle.vx_base.proofs.Handed.{err_is, not_ok}
use Rattle.layer_session.proofs.Exits.{few_in, le_more, refused_for, says_self}
use Rattle.layer_session.specs.ByLayers.{TellsSameBut}
use Rattle.layer_session.specs.ByTables.{most_made}
use Rattle.layer_session.proofs.AtHand.{items_same}
use Rattle.layer_session.proofs.Known.{few_made, pages_few, room_less}
use Rattle.layer_session.proofs.Told.{both_map}
use Rattle.layer_session.proofs.file.Layer.make_chunk.Goals as goal

pub returns-then-not-missing-clause-leads : goal.returns-then-not-missing-clause-leads
returns-then-not-missing-clause-leads g c = leads_same c.args.self.now c.args.self.now (g.S.Store.disk c.args.store.now) c.requires.ready (same_self c.args.self.now (g.S.Store.disk c.args.store.now) c.requires.ready.readable) refl

pub returns-then-not-missing-clause-named : goal.returns-then-not-missing-clause-named
returns-then-not-missing-clause-named g c = named_same (shape_of c.args.self.now.tables.parts) (c.args.sector / 2 ^ 23) c.args.self.now.plans.items (HasEntry c.args.self.now.tables) 0 c.args.first c.args.count c.requires.entries

pub returns-in_default-clause-leads : goal.returns-in_default-clause-leads
returns-in_default-clause-leads g c = leads_same c.args.self.now c.args.self.now (g.S.Store.disk c.args.store.now) c.requires.ready (same_self c.args.self.now (g.S.Store.disk c.args.store.now) c.requires.ready.readable) refl

pub returns-in_default-clause-named : goal.returns-in_default-clause-named
returns-in_default-clause-named g c = named_same (shape_of c.args.self.now.tables.parts) (c.args.sector / 2 ^ 23) c.args.self.now.plans.items (HasEntry c.args.self.now.tables) 0 c.args.first c.args.count c.requires.entries

pub returns-in_default-clause-bitmap : goal.returns-in_default-clause-bitmap
returns-in_default-clause-bitmap g c = record {
  at_hand =
      none_marks (shape_of c.args.self.now.tables.parts) c.args.self.now.plans.items (c.args.sector / 2 ^ 23) c.args.first c.args.count (HasBits c.args.self.now.tables) (no_bits c.args.self.now.tables)
      (subst (λ (plans : List Plan). AreBitsOf (shape_of c.args.self.now.tables.parts) plans (c.args.sector / 2 ^ 23) 0 c.args.first c.args.count None) c.as_slice.ensures.value c.in_default.ensures);
  there = λ t told.
      none_marks (shape_of c.args.self.now.tables.parts) c.args.self.now.plans.items (c.args.sector / 2 ^ 23) c.args.first c.args.count (NamesBitmap (shape_of c.args.self.now.tables.parts) (held_by c.args.self.now t))
      (no_names (shape_of c.args.self.now.tables.parts) (held_by c.args.self.now t))
      (subst (λ (plans : List Plan). AreBitsOf (shape_of c.args.self.now.tables.parts) plans (c.args.sector / 2 ^ 23) 0 c.args.first c.args.count None) c.as_slice.ensures.value c.in_default.ensures);
}

pub returns-clause-leads : goal.returns-clause-leads
returns-clause-leads g c =
    let l : Layer = c.args.self.now in
    let m : Layer = c.make_bitmap.new.self in
    let disk : Disk = g.S.Store.disk c.make_bitmap.new.store in
    let long : length c.name_bitmap.new.plans ≡ m.plans.len = c.name_bitmap.ensures.len ∙ c.as_mut_slice-plans.ensures.len in
    let n : Layer = record m { plans = with_items m.plans c.name_bitmap.new.plans } in
    let leads : LeadsTo l m (g.S.Store.disk c.args.store.now) disk = c.in_ok-word.ensures.leads in
    let same : IsSame m n disk = plans_same m n disk refl leads.ready.readable (planned_long m c.name_bitmap.new.plans long leads.ready.plans) in
    leads_then l m n (g.S.Store.disk c.args.store.now) disk disk leads (leads_same m n disk leads.ready same refl)

pub returns-clause-bitmap : goal.returns-clause-bitmap
returns-clause-bitmap g c = record {
  at_hand =
      let l : Layer = c.args.self.now in
      let m : Layer = c.make_bitmap.new.self in
      let long : length c.name_bitmap.new.plans ≡ m.plans.len = c.name_bitmap.ensures.len ∙ c.as_mut_slice-plans.ensures.len in
      let leads : LeadsTo l m (g.S.Store.disk c.args.store.now) (g.S.Store.disk c.make_bitmap.new.store) = c.in_ok-word.ensures.leads in
      let items : c.as_mut_slice-plans.result.now ≡ l.plans.items = c.as_mut_slice-plans.ensures.value ∙ items_same l m c.make_bitmap.ensures.plans in
      let spans : SpansBits (shape_of l.tables.parts) l.plans.items (c.args.sector / 2 ^ 23) 0 c.args.first c.args.count c.in-Some.bits =
      subst (λ (plans : List Plan). SpansBits (shape_of l.tables.parts) plans (c.args.sector / 2 ^ 23) 0 c.args.first c.args.count c.in-Some.bits) c.as_slice.ensures.value c.in-Some.ensures in
      let named : AreNamed (shape_of l.tables.parts) (c.args.sector / 2 ^ 23) l.plans.items c.name_bitmap.new.plans 0 c.args.first c.args.count =
      subst (λ (plans : List Plan). AreNamed (shape_of l.tables.parts) (c.args.sector / 2 ^ 23) plans c.name_bitmap.new.plans 0 c.args.first c.args.count) items c.name_bitmap.ensures.named in
      subst (λ (plans : List Plan). EachRun (shape_of l.tables.parts) plans (InChunk (c.args.sector / 2 ^ 23) (HasBits m.tables)) 0 c.args.first c.args.count) (sym (with_items_is m.plans c.name_bitmap.new.plans long))
      (hand_then l.tables.parts m.tables leads.parts c.requires.ready.readable.sizes l.plans.items c.name_bitmap.new.plans (c.args.sector / 2 ^ 23) c.args.first c.args.count c.in_ok-word.word c.in-Some.bits spans named c.name_bitmap.ensures.word
      c.in_ok-word.ensures.at_hand);
  there = λ t told.
      let l : Layer = c.args.self.now in
      let m : Layer = c.make_bitmap.new.self in
      let long : length c.name_bitmap.new.plans ≡ m.plans.len = c.name_bitmap.ensures.len ∙ c.as_mut_slice-plans.ensures.len in
      subst (λ (plans : List Plan). EachRun (shape_of l.tables.parts) plans (InChunk (c.args.sector / 2 ^ 23) (NamesBitmap (shape_of l.tables.parts) (held_by m t))) 0 c.args.first c.args.count) (sym (with_items_is m.plans c.name_bitmap.new.plans long))
      (names_new (shape_of l.tables.parts) (held_by m t) c.name_bitmap.new.plans c.args.sector c.args.first c.args.count c.in_ok-word.word (c.requires.lacks (let on : c.args.missing ≡ true = c.if-not-missing.false in on)).parent c.in_ok-word.ensures.six
      (made_told l m c.args.sector c.in_ok-word.word (g.S.Store.disk c.args.store.now).told (g.S.Store.disk c.make_bitmap.new.store).told t c.in_ok-word.ensures.made told) c.name_bitmap.ensures.word);
}

pub returns-clause-named : goal.returns-clause-named
returns-clause-named g c =
    let l : Layer = c.args.self.now in
    let m : Layer = c.make_bitmap.new.self in
    let long : length c.name_bitmap.new.plans ≡ m.plans.len = c.name_bitmap.ensures.len ∙ c.as_mut_slice-plans.ensures.len in
    let items : c.as_mut_slice-plans.result.now ≡ l.plans.items = c.as_mut_slice-plans.ensures.value ∙ items_same l m c.make_bitmap.ensures.plans in
    subst (λ (plans : List Plan). AreNamed (shape_of l.tables.parts) (c.args.sector / 2 ^ 23) l.plans.items plans 0 c.args.first c.args.count) (sym (with_items_is m.plans c.name_bitmap.new.plans long))
    (subst (λ (plans : List Plan). AreNamed (shape_of l.tables.parts) (c.args.sector / 2 ^ 23) plans c.name_bitmap.new.plans 0 c.args.first c.args.count) items c.name_bitmap.ensures.named)

pub returns-then-not-missing-clause-log : goal.returns-then-not-missing-clause-log
returns-then-not-missing-clause-log g c = refl

pub returns-then-not-missing-clause-space : goal.returns-then-not-missing-clause-space
returns-then-not-missing-clause-space g c = inl refl

pub returns-then-not-missing-clause-keeps : goal.returns-then-not-missing-clause-keeps
returns-then-not-missing-clause-keeps g c at h = h

pub returns-in_default-clause-log : goal.returns-in_default-clause-log
returns-in_default-clause-log g c = refl

pub returns-in_default-clause-space : goal.returns-in_default-clause-space
returns-in_default-clause-space g c = inl refl

pub returns-in_default-clause-keeps : goal.returns-in_default-clause-keeps
returns-in_default-clause-keeps g c at h = h

pub returns-then-not-missing-clause-bitmap : goal.returns-then-not-missing-clause-bitmap
returns-then-not-missing-clause-bitmap g c = c.requires.bitmap (let off : c.args.missing ≡ false = c.if-not-missing.true in off)

pub bits_of-requires-clause-sizes : goal.bits_of-requires-clause-sizes
bits_of-requires-clause-sizes g c = c.requires.ready.readable.sizes

pub bits_of-requires-clause-on_disk : goal.bits_of-requires-clause-on_disk
bits_of-requires-clause-on_disk g c = c.requires.on_disk

pub make_bitmap-requires-clause-ready : goal.make_bitmap-requires-clause-ready
make_bitmap-requires-clause-ready g c = c.requires.ready

pub make_bitmap-requires-clause-sector : goal.make_bitmap-requires-clause-sector
make_bitmap-requires-clause-sector g c = c.requires.sector

pub returns-in_err-word-clause-leads : goal.returns-in_err-word-clause-leads
returns-in_err-word-clause-leads g c = subst (Leads c.args.self.now c.make_bitmap.new.self (g.S.Store.disk c.args.store.now) (g.S.Store.disk c.make_bitmap.new.store)) (sym (err_is c.from_residual.result c.in_err-word.field-0.0 c.from_residual.ensures.1)) c.in_err-word.ensures.leads

pub returns-in_err-word-clause-refused : goal.returns-in_err-word-clause-refused
returns-in_err-word-clause-refused g c = refused_for c.from_residual.result c.in_err-word.field-0.0 c.from_residual.ensures.1 _ _ (λ x. x) c.in_err-word.ensures.refused

pub returns-in_err-word-clause-space : goal.returns-in_err-word-clause-space
returns-in_err-word-clause-space g c = not_ok c.from_residual.result c.in_err-word.field-0.0 c.from_residual.ensures.1 _

pub returns-in_err-word-clause-named : goal.returns-in_err-word-clause-named
returns-in_err-word-clause-named g c = not_ok c.from_residual.result c.in_err-word.field-0.0 c.from_residual.ensures.1 _

pub returns-in_err-word-clause-bitmap : goal.returns-in_err-word-clause-bitmap
returns-in_err-word-clause-bitmap g c = not_ok c.from_residual.result c.in_err-word.field-0.0 c.from_residual.ensures.1 _

pub returns-in_err-word-clause-says : goal.returns-in_err-word-clause-says
returns-in_err-word-clause-says g c = not_ok c.from_residual.result c.in_err-word.field-0.0 c.from_residual.ensures.1 _

pub returns-in_err-word-clause-log : goal.returns-in_err-word-clause-log
returns-in_err-word-clause-log g c = c.make_bitmap.ensures.log

pub returns-in_err-word-clause-keeps : goal.returns-in_err-word-clause-keeps
returns-in_err-word-clause-keeps g c = c.make_bitmap.ensures.keeps

pub returns-clause-log : goal.returns-clause-log
returns-clause-log g c = c.make_bitmap.ensures.log

pub returns-clause-keeps : goal.returns-clause-keeps
returns-clause-keeps g c = c.make_bitmap.ensures.keeps

pub returns-clause-space : goal.returns-clause-space
returns-clause-space g c = inr ((let on : c.args.missing ≡ true = c.if-not-missing.false in on), c.in_ok-word.ensures.space)

pub returns-then-not-missing-clause-pages : goal.returns-then-not-missing-clause-pages
returns-then-not-missing-clause-pages g c = le_more (length c.args.self.now.tables.pending) (most_made c.args.missing (shape_of c.args.self.now.tables.parts) c.args.count)

pub returns-in_default-clause-pages : goal.returns-in_default-clause-pages
returns-in_default-clause-pages g c = le_more (length c.args.self.now.tables.pending) (most_made c.args.missing (shape_of c.args.self.now.tables.parts) c.args.count)

pub name_bitmap-requires-clause-sizes : goal.name_bitmap-requires-clause-sizes
name_bitmap-requires-clause-sizes g c = c.requires.ready.readable.sizes

pub name_bitmap-requires-clause-on_disk : goal.name_bitmap-requires-clause-on_disk
name_bitmap-requires-clause-on_disk g c = c.requires.on_disk

pub bits_of-requires-clause-few : goal.bits_of-requires-clause-few
bits_of-requires-clause-few g c = few_in _ (length c.as_slice.result.now) c.requires.few (ap length c.as_slice.ensures.value ∙ c.requires.ready.plans)

pub make_bitmap-requires-clause-bits : goal.make_bitmap-requires-clause-bits
make_bitmap-requires-clause-bits g c = let span = c.in-Some.ensures.span in record { from = span.from; some = span.some; to = span.to }

pub returns-then-not-missing-clause-says : goal.returns-then-not-missing-clause-says
returns-then-not-missing-clause-says g c = says_self c.args.self.now (c.args.sector / 2 ^ 23) (g.S.Store.disk c.args.store.now).told

pub returns-in_default-clause-says : goal.returns-in_default-clause-says
returns-in_default-clause-says g c = says_self c.args.self.now (c.args.sector / 2 ^ 23) (g.S.Store.disk c.args.store.now).told

pub make_bitmap-requires-clause-lacks : goal.make_bitmap-requires-clause-lacks
make_bitmap-requires-clause-lacks g c =
    let lacks = c.requires.lacks (let on : c.args.missing ≡ true = c.if-not-missing.false in on) in
    let few = room_less (length c.args.self.now.tables.pending + 1) (bit_pages (c.in-Some.bits.first % 2 ^ 23) (c.in-Some.bits.end - c.in-Some.bits.first)) (most_bit_pages (shape_of c.args.self.now.tables.parts) c.args.count)
    (pages_few (shape_of c.args.self.now.tables.parts) (record { sector = c.requires.ready.readable.sizes.sector; block = c.requires.ready.readable.sizes.block }) (c.args.sector / 2 ^ 23) c.args.first c.args.count c.in-Some.bits.first c.in-Some.bits.end _
    c.in-Some.ensures.span.near c.in-Some.ensures.span.far refl) lacks.few in
    record { parent = lacks.parent; missing = lacks.missing; room = lacks.room; entry = lacks.entry; few = few }

pub returns-in_err-word-clause-pages : goal.returns-in_err-word-clause-pages
returns-in_err-word-clause-pages g c =
    few_made c.args.missing (length c.make_bitmap.new.self.tables.pending) (length c.args.self.now.tables.pending) (bit_pages (c.in-Some.bits.first % 2 ^ 23) (c.in-Some.bits.end - c.in-Some.bits.first)) (most_bit_pages (shape_of c.args.self.now.tables.parts) c.args.count)
    c.if-not-missing.false c.make_bitmap.ensures.few
    (pages_few (shape_of c.args.self.now.tables.parts) (record { sector = c.requires.ready.readable.sizes.sector; block = c.requires.ready.readable.sizes.block }) (c.args.sector / 2 ^ 23) c.args.first c.args.count c.in-Some.bits.first c.in-Some.bits.end _
    c.in-Some.ensures.span.near c.in-Some.ensures.span.far refl)

pub returns-clause-pages : goal.returns-clause-pages
returns-clause-pages g c =
    few_made c.args.missing (length c.make_bitmap.new.self.tables.pending) (length c.args.self.now.tables.pending) (bit_pages (c.in-Some.bits.first % 2 ^ 23) (c.in-Some.bits.end - c.in-Some.bits.first)) (most_bit_pages (shape_of c.args.self.now.tables.parts) c.args.count)
    c.if-not-missing.false c.make_bitmap.ensures.few
    (pages_few (shape_of c.args.self.now.tables.parts) (record { sector = c.requires.ready.readable.sizes.sector; block = c.requires.ready.readable.sizes.block }) (c.args.sector / 2 ^ 23) c.args.first c.args.count c.in-Some.bits.first c.in-Some.bits.end _
    c.in-Some.ensures.span.near c.in-Some.ensures.span.far refl)

pub name_bitmap-requires-clause-few : goal.name_bitmap-requires-clause-few
name_bitmap-requires-clause-few g c = few_in _ _ c.requires.few (ap length (c.as_mut_slice-plans.ensures.value ∙ items_same c.args.self.now c.make_bitmap.new.self c.make_bitmap.ensures.plans) ∙ c.requires.ready.plans)

pub returns-clause-says : goal.returns-clause-says
returns-clause-says g c =
    both_map (HasMade c.args.self.now c.make_bitmap.new.self c.args.sector c.in_ok-word.word) (TellsSameBut (c.args.sector / 2 ^ 23) c.args.self.now c.make_bitmap.new.self) _ _ c.in_ok-word.ensures.made (λ t u a b made. made.says)
