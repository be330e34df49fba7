use Rattle.std.proofs.Common.{◌≡◌, ◌+◌, ◌*◌, ◌%◌, ◌<◌, ◌≤◌, arith, true, false, refl, sym, subst, ap, ◌∙◌}
use Rattle.std.specs.Prelude.{Err}
use Rattle.layer_session.proofs.Leading.{keeps_now}
use Rattle.layer_session.proofs.Joining.{fails_from}
use Rattle.store_model.proofs.Told.{counts_join}
use Rattle.vhdx_format.specs.Layers.{HasSizes}
use Rattle.store_model.specs.Disk.{WhereBothTold, WhereTold}
use Rattle.table_pages.specs.Held.{shape_of}
use Rattle.table_pages.specs.declared.tables.TableParts.{TableParts}
use Rattle.log_write.specs.Sessions.{LogState}
use Rattle.layer_session.specs.Blocks.{run_in_block}
use Rattle.layer_session.specs.SectorRanges.{LieInBlock}
use Rattle.layer_session.proofs.Known.{of_parts}
use Rattle.layer_session.specs.Masked.{HasPutNamed, IsBrokenNamed, IsSpot, is_masked, with_masked}
use Rattle.layer_session.specs.Steps.{Begins, Wants, held_by}
use Rattle.layer_session.proofs.Frames.{run_pages, run_room, run_todo}
use Rattle.layer_session.proofs.Masking.{all_broken, all_moments, all_put, early_broken, keeps_named, masked_off, none_masked, nothing_named, ready_broken, ready_moments, some_masked}
use Rattle.layer_session.proofs.Spots.{all_in_block}
use Rattle.layer_session.proofs.Told.{both_end, if_err_map, ok_map}
use Rattle.layer_session.proofs.Equal.{true_false}
use Rattle.layer_session.specs.Calls.{Fails}
use Rattle.vx_base.proofs.Handed.{err_is, failed_for, not_ok}
use Rattle.layer_session.proofs.Exits.{block_few, either_way, full_off, had_room, no_refusal, not_full, ok_not_full, refused_for, refused_off, room_for, room_off}
use Rattle.layer_session.proofs.file.Layer.put_masked.Goals as goal

pub returns-then-not-names_some-clause-moments : goal.returns-then-not-names_some-clause-moments
returns-then-not-names_some-clause-moments g c =
    keeps_named c.args.self.now (is_masked c.args.first c.args.count 0 c.args.mask.now) (g.S.Store.disk c.args.store.now).told (g.S.Store.disk c.args.store.now).told (keeps_now c.args.self.now (g.S.Store.disk c.args.store.now).told)

pub returns-then-not-names_some-clause-put : goal.returns-then-not-names_some-clause-put
returns-then-not-names_some-clause-put g c =
    let off : c.names_some.result ≡ false = c.if-not-names_some.true in
    nothing_named c.args.self.now (is_masked c.args.first c.args.count 0 c.args.mask.now) (with_masked c.args.self.now.tables.parts.sector c.args.first c.args.count 0 c.args.mask.now c.args.bytes.now) (none_masked c.args.first c.args.count c.args.mask.now (c.names_some.ensures.none off))
    (masked_off c.args.self.now.tables.parts.sector c.args.first c.args.count c.args.mask.now c.args.bytes.now (c.names_some.ensures.none off)) (g.S.Store.disk c.args.store.now).told

pub returns-then-not-names_some-clause-room : goal.returns-then-not-names_some-clause-room
returns-then-not-names_some-clause-room g c s here t told =
    let off : c.names_some.result ≡ false = c.if-not-names_some.true in
    let none = none_masked c.args.first c.args.count c.args.mask.now (c.names_some.ensures.none off) s in
    absurd (true_false (sym here ∙ none))

pub returns-in_err-prepare-clause-moments : goal.returns-in_err-prepare-clause-moments
returns-in_err-prepare-clause-moments g c =
    keeps_named c.args.self.now (is_masked c.args.first c.args.count 0 c.args.mask.now) (g.S.Store.disk c.args.store.now).told (g.S.Store.disk c.prepare.new.store).told c.prepare.ensures.moments

pub returns-in_err-prepare-clause-broken : goal.returns-in_err-prepare-clause-broken
returns-in_err-prepare-clause-broken g c =
    early_broken c.from_residual.result c.in_err-prepare.field-0.0 c.args.self.now c.prepare.new.self (is_masked c.args.first c.args.count 0 c.args.mask.now) (g.S.Store.disk c.args.store.now) (g.S.Store.disk c.prepare.new.store) (err_is c.from_residual.result _ c.from_residual.ensures.1) c.in_err-prepare.ensures.broken

pub returns-in_err-prepare-clause-full : goal.returns-in_err-prepare-clause-full
returns-in_err-prepare-clause-full g c next e =
    let told : c.from_residual.result ≡ Err c.in_err-prepare.field-0.0 = err_is c.from_residual.result _ c.from_residual.ensures.1 in c.in_err-prepare.ensures.full next (sym told ∙ e)

pub returns-in_err-prepare-clause-nothing : goal.returns-in_err-prepare-clause-nothing
returns-in_err-prepare-clause-nothing g c none =
    let on : c.names_some.result ≡ true = c.if-not-names_some.false in
    let one = c.names_some.ensures.some on in
    let named = some_masked c.args.first c.args.count c.args.mask.now one.0 one.1.0 one.1.1 in
    absurd (true_false (sym named ∙ none (c.args.first + one.0)))

pub ready_spot-requires-clause-pages : goal.ready_spot-requires-clause-pages
ready_spot-requires-clause-pages g c =
    let on : c.names_some.result ≡ true = c.if-not-names_some.false in
    let one = c.names_some.ensures.some on in
    let mid = c.prepare.new.self in
    let ready = c.in_ok-prepare.ensures.ready in
    let some : 0 < c.args.count = let b = one.1.0 in omega (arith, b) in
    let disk : c.args.first + c.args.count ≤ mid.tables.parts.sectors = subst (λ (p : TableParts). c.args.first + c.args.count ≤ p.sectors) (sym c.prepare.ensures.parts) c.requires.block.on_disk in
    let run : c.args.first * mid.tables.parts.sector % mid.tables.parts.block + c.args.count * mid.tables.parts.sector ≤ mid.tables.parts.block = subst (λ (p : TableParts). c.args.first * p.sector % p.block + c.args.count * p.sector ≤ p.block) (sym c.prepare.ensures.parts) c.requires.block.run in
    let sized : HasSizes (shape_of mid.tables.parts) = record { sector = ready.readable.sizes.sector; block = ready.readable.sizes.block } in
    let len : c.args.count ≡ run_in_block (shape_of mid.tables.parts) c.args.first c.args.count = all_in_block (shape_of mid.tables.parts) sized c.args.first c.args.count run in
    let h = run_pages mid (g.S.Store.disk c.prepare.new.store) ready 0 c.args.first c.args.count some c.in_ok-prepare.ensures.prepared disk c.args.count len c.index-plan.result.now c.index-plan.ensures in record { entry = h.entry; bits = h.bits; all_bits = h.all_bits }

pub ready_spot-requires-clause-room : goal.ready_spot-requires-clause-room
ready_spot-requires-clause-room g c =
    let on : c.names_some.result ≡ true = c.if-not-names_some.false in
    let one = c.names_some.ensures.some on in
    let mid = c.prepare.new.self in
    let ready = c.in_ok-prepare.ensures.ready in
    let some : 0 < c.args.count = let b = one.1.0 in omega (arith, b) in
    let disk : c.args.first + c.args.count ≤ mid.tables.parts.sectors = subst (λ (p : TableParts). c.args.first + c.args.count ≤ p.sectors) (sym c.prepare.ensures.parts) c.requires.block.on_disk in
    let run : c.args.first * mid.tables.parts.sector % mid.tables.parts.block + c.args.count * mid.tables.parts.sector ≤ mid.tables.parts.block = subst (λ (p : TableParts). c.args.first * p.sector % p.block + c.args.count * p.sector ≤ p.block) (sym c.prepare.ensures.parts) c.requires.block.run in
    let sized : HasSizes (shape_of mid.tables.parts) = record { sector = ready.readable.sizes.sector; block = ready.readable.sizes.block } in
    let len : c.args.count ≡ run_in_block (shape_of mid.tables.parts) c.args.first c.args.count = all_in_block (shape_of mid.tables.parts) sized c.args.first c.args.count run in
    run_room mid (g.S.Store.disk c.prepare.new.store) ready 0 c.args.first c.args.count some c.in_ok-prepare.ensures.prepared disk c.args.count len c.index-plan.result.now c.index-plan.ensures

pub ready_spot-requires-clause-todo : goal.ready_spot-requires-clause-todo
ready_spot-requires-clause-todo g c t told =
    let on : c.names_some.result ≡ true = c.if-not-names_some.false in
    let one = c.names_some.ensures.some on in
    let mid = c.prepare.new.self in
    let ready = c.in_ok-prepare.ensures.ready in
    let some : 0 < c.args.count = let b = one.1.0 in omega (arith, b) in
    let disk : c.args.first + c.args.count ≤ mid.tables.parts.sectors = subst (λ (p : TableParts). c.args.first + c.args.count ≤ p.sectors) (sym c.prepare.ensures.parts) c.requires.block.on_disk in
    let run : c.args.first * mid.tables.parts.sector % mid.tables.parts.block + c.args.count * mid.tables.parts.sector ≤ mid.tables.parts.block = subst (λ (p : TableParts). c.args.first * p.sector % p.block + c.args.count * p.sector ≤ p.block) (sym c.prepare.ensures.parts) c.requires.block.run in
    let sized : HasSizes (shape_of mid.tables.parts) = record { sector = ready.readable.sizes.sector; block = ready.readable.sizes.block } in
    let len : c.args.count ≡ run_in_block (shape_of mid.tables.parts) c.args.first c.args.count = all_in_block (shape_of mid.tables.parts) sized c.args.first c.args.count run in
    let wants : WhereTold (g.S.Store.disk c.prepare.new.store).told (Wants mid 0 c.args.first c.args.count false) = both_end (Begins c.args.self.now mid c.args.first c.args.count false) (Wants mid 0 c.args.first c.args.count false) (g.S.Store.disk c.args.store.now).told (g.S.Store.disk c.prepare.new.store).told c.in_ok-prepare.ensures.done (λ t u k. k.wants) in
    run_todo mid (g.S.Store.disk c.prepare.new.store) ready 0 c.args.first c.args.count some c.in_ok-prepare.ensures.prepared disk c.args.count len c.index-plan.result.now c.index-plan.ensures false wants t told

pub returns-in_err-spot-clause-moments : goal.returns-in_err-spot-clause-moments
returns-in_err-spot-clause-moments g c =
    ready_moments c.args.self.now c.prepare.new.self c.args.first c.args.count false (is_masked c.args.first c.args.count 0 c.args.mask.now) (g.S.Store.disk c.args.store.now) (g.S.Store.disk c.prepare.new.store) c.in_ok-prepare.ensures.done c.prepare.ensures.moments (g.S.Store.disk c.ready_spot.new.store) (keeps_named c.prepare.new.self (is_masked c.args.first c.args.count 0 c.args.mask.now) (g.S.Store.disk c.prepare.new.store).told (g.S.Store.disk c.ready_spot.new.store).told c.ready_spot.ensures.moments)

pub returns-in_err-spot-clause-broken : goal.returns-in_err-spot-clause-broken
returns-in_err-spot-clause-broken g c =
    ready_broken c.args.self.now c.prepare.new.self c.args.first c.args.count false (is_masked c.args.first c.args.count 0 c.args.mask.now) (g.S.Store.disk c.args.store.now) (g.S.Store.disk c.prepare.new.store) c.in_ok-prepare.ensures.done c.prepare.ensures.moments c.from_residual-in_err-spot.result c.in_err-spot.field-0.0 c.ready_spot.new.self (g.S.Store.disk c.ready_spot.new.store) (err_is c.from_residual-in_err-spot.result _ c.from_residual-in_err-spot.ensures.1) c.in_err-spot.ensures.broken

pub returns-in_err-spot-clause-nothing : goal.returns-in_err-spot-clause-nothing
returns-in_err-spot-clause-nothing g c none =
    let on : c.names_some.result ≡ true = c.if-not-names_some.false in
    let one = c.names_some.ensures.some on in
    let named = some_masked c.args.first c.args.count c.args.mask.now one.0 one.1.0 one.1.1 in
    absurd (true_false (sym named ∙ none (c.args.first + one.0)))

pub put_spots-requires-clause-spot : goal.put_spots-requires-clause-spot
put_spots-requires-clause-spot g c some t told =
    subst (λ (p : TableParts). IsSpot (shape_of p) (held_by c.ready_spot.new.self t) c.args.first c.args.count c.in_ok-spot.spot) (sym c.in_ok-spot.ensures.leaves.parts) (c.in_ok-spot.ensures.spot t told)

pub returns-clause-moments : goal.returns-clause-moments
returns-clause-moments g c =
    all_moments c.args.self.now c.prepare.new.self c.args.first c.args.count false (is_masked c.args.first c.args.count 0 c.args.mask.now) (g.S.Store.disk c.args.store.now) (g.S.Store.disk c.prepare.new.store) c.in_ok-prepare.ensures.done c.prepare.ensures.moments c.ready_spot.new.self (g.S.Store.disk c.ready_spot.new.store) c.in_ok-spot.ensures.kept c.ready_spot.ensures.moments (g.S.Store.disk c.put_spots.new.store) c.put_spots.ensures.moments

pub returns-clause-put : goal.returns-clause-put
returns-clause-put g c =
    let same : c.ready_spot.new.self.tables.parts ≡ c.args.self.now.tables.parts = c.in_ok-spot.ensures.leaves.parts ∙ c.prepare.ensures.parts in
    ok_map c.put_spots.result _ _ c.put_spots.ensures.done
    (λ d. all_put c.args.self.now c.prepare.new.self c.args.first c.args.count false (is_masked c.args.first c.args.count 0 c.args.mask.now) (g.S.Store.disk c.args.store.now) (g.S.Store.disk c.prepare.new.store) c.in_ok-prepare.ensures.done c.prepare.ensures.moments c.ready_spot.new.self (g.S.Store.disk c.ready_spot.new.store) c.in_ok-spot.ensures.kept c.ready_spot.ensures.moments c.put_spots.new.self (g.S.Store.disk c.put_spots.new.store) (with_masked c.args.self.now.tables.parts.sector c.args.first c.args.count 0 c.args.mask.now c.args.bytes.now)
    (subst (λ z. WhereBothTold (HasPutNamed c.ready_spot.new.self c.put_spots.new.self (is_masked c.args.first c.args.count 0 c.args.mask.now) (with_masked z c.args.first c.args.count 0 c.args.mask.now c.args.bytes.now)) (g.S.Store.disk c.ready_spot.new.store).told (g.S.Store.disk c.put_spots.new.store).told) (ap (λ (p : TableParts). p.sector) same) d.put))

pub returns-clause-broken : goal.returns-clause-broken
returns-clause-broken g c =
    all_broken c.args.self.now c.prepare.new.self c.args.first c.args.count false (is_masked c.args.first c.args.count 0 c.args.mask.now) (g.S.Store.disk c.args.store.now) (g.S.Store.disk c.prepare.new.store) c.in_ok-prepare.ensures.done c.prepare.ensures.moments c.ready_spot.new.self (g.S.Store.disk c.ready_spot.new.store) c.in_ok-spot.ensures.kept c.ready_spot.ensures.moments c.put_spots.result c.put_spots.new.self (g.S.Store.disk c.put_spots.new.store) c.put_spots.ensures.broken

pub returns-clause-nothing : goal.returns-clause-nothing
returns-clause-nothing g c none =
    let on : c.names_some.result ≡ true = c.if-not-names_some.false in
    let one = c.names_some.ensures.some on in
    let named = some_masked c.args.first c.args.count c.args.mask.now one.0 one.1.0 one.1.1 in
    absurd (true_false (sym named ∙ none (c.args.first + one.0)))

pub returns-then-not-names_some-clause-ready : goal.returns-then-not-names_some-clause-ready
returns-then-not-names_some-clause-ready g c = c.requires.ready

pub returns-then-not-names_some-clause-parts : goal.returns-then-not-names_some-clause-parts
returns-then-not-names_some-clause-parts g c = refl

pub returns-then-not-names_some-clause-number : goal.returns-then-not-names_some-clause-number
returns-then-not-names_some-clause-number g c = omega arith

pub returns-then-not-names_some-clause-header : goal.returns-then-not-names_some-clause-header
returns-then-not-names_some-clause-header g c = refl

pub returns-then-not-names_some-clause-counts : goal.returns-then-not-names_some-clause-counts
returns-then-not-names_some-clause-counts g c = refl

pub returns-then-not-names_some-clause-nothing : goal.returns-then-not-names_some-clause-nothing
returns-then-not-names_some-clause-nothing g c none = (refl, (refl, refl))

pub returns-then-not-names_some-clause-full : goal.returns-then-not-names_some-clause-full
returns-then-not-names_some-clause-full g c next e = absurd (ok_not_full _ next e)

pub prepare-requires-clause-ready : goal.prepare-requires-clause-ready
prepare-requires-clause-ready g c = c.requires.ready

pub prepare-requires-clause-on_disk : goal.prepare-requires-clause-on_disk
prepare-requires-clause-on_disk g c = c.requires.block.on_disk

pub prepare-requires-clause-numbers : goal.prepare-requires-clause-numbers
prepare-requires-clause-numbers g c = c.requires.numbers

pub returns-in_err-prepare-clause-put : goal.returns-in_err-prepare-clause-put
returns-in_err-prepare-clause-put g c = not_ok c.from_residual.result c.in_err-prepare.field-0.0 c.from_residual.ensures.1 _

pub returns-in_err-prepare-clause-ready : goal.returns-in_err-prepare-clause-ready
returns-in_err-prepare-clause-ready g c = not_ok c.from_residual.result c.in_err-prepare.field-0.0 c.from_residual.ensures.1 _

pub returns-in_err-prepare-clause-counts : goal.returns-in_err-prepare-clause-counts
returns-in_err-prepare-clause-counts g c = not_ok c.from_residual.result c.in_err-prepare.field-0.0 c.from_residual.ensures.1 _

pub returns-in_err-prepare-clause-refused : goal.returns-in_err-prepare-clause-refused
returns-in_err-prepare-clause-refused g c = refused_for c.from_residual.result c.in_err-prepare.field-0.0 c.from_residual.ensures.1 _ _ (λ s. s.0) c.in_err-prepare.ensures.refused

pub returns-in_err-prepare-clause-kept : goal.returns-in_err-prepare-clause-kept
returns-in_err-prepare-clause-kept g c = refused_for c.from_residual.result c.in_err-prepare.field-0.0 c.from_residual.ensures.1 _ _ (λ s. s.1) c.in_err-prepare.ensures.refused

pub returns-in_err-prepare-clause-quiet : goal.returns-in_err-prepare-clause-quiet
returns-in_err-prepare-clause-quiet g c = refused_for c.from_residual.result c.in_err-prepare.field-0.0 c.from_residual.ensures.1 _ _ (λ s. c.prepare.ensures.moments) c.in_err-prepare.ensures.refused

pub returns-in_err-prepare-clause-parts : goal.returns-in_err-prepare-clause-parts
returns-in_err-prepare-clause-parts g c = c.prepare.ensures.parts

pub returns-in_err-prepare-clause-number : goal.returns-in_err-prepare-clause-number
returns-in_err-prepare-clause-number g c = c.prepare.ensures.number

pub returns-in_err-prepare-clause-header : goal.returns-in_err-prepare-clause-header
returns-in_err-prepare-clause-header g c = c.prepare.ensures.header

pub returns-in_err-prepare-clause-err : goal.returns-in_err-prepare-clause-err
returns-in_err-prepare-clause-err g c = failed_for c.from_residual.result c.in_err-prepare.field-0.0 c.from_residual.ensures.1 (Fails c.args.self.now.tables.parts.file (g.S.Store.disk c.args.store.now) (g.S.Store.disk c.prepare.new.store)) c.in_err-prepare.ensures.err

pub returns-in_err-prepare-clause-room : goal.returns-in_err-prepare-clause-room
returns-in_err-prepare-clause-room g c s here = room_for c.from_residual.result c.in_err-prepare.field-0.0 c.from_residual.ensures.1 _ _ (λ p. p) c.in_err-prepare.ensures.room

pub ready_spot-requires-clause-ready : goal.ready_spot-requires-clause-ready
ready_spot-requires-clause-ready g c = c.in_ok-prepare.ensures.ready

pub ready_spot-requires-clause-block : goal.ready_spot-requires-clause-block
ready_spot-requires-clause-block g c = of_parts (λ p. LieInBlock p c.args.first c.args.count) _ _ c.prepare.ensures.parts c.requires.block

pub returns-in_err-spot-clause-put : goal.returns-in_err-spot-clause-put
returns-in_err-spot-clause-put g c = not_ok c.from_residual-in_err-spot.result c.in_err-spot.field-0.0 c.from_residual-in_err-spot.ensures.1 _

pub returns-in_err-spot-clause-ready : goal.returns-in_err-spot-clause-ready
returns-in_err-spot-clause-ready g c = not_ok c.from_residual-in_err-spot.result c.in_err-spot.field-0.0 c.from_residual-in_err-spot.ensures.1 _

pub returns-in_err-spot-clause-counts : goal.returns-in_err-spot-clause-counts
returns-in_err-spot-clause-counts g c = not_ok c.from_residual-in_err-spot.result c.in_err-spot.field-0.0 c.from_residual-in_err-spot.ensures.1 _

pub returns-in_err-spot-clause-refused : goal.returns-in_err-spot-clause-refused
returns-in_err-spot-clause-refused g c = no_refusal c.from_residual-in_err-spot.result c.in_err-spot.field-0.0 c.from_residual-in_err-spot.ensures.1 c.in_err-spot.ensures.broken.cause c.in_err-spot.ensures.broken.written _

pub returns-in_err-spot-clause-kept : goal.returns-in_err-spot-clause-kept
returns-in_err-spot-clause-kept g c = no_refusal c.from_residual-in_err-spot.result c.in_err-spot.field-0.0 c.from_residual-in_err-spot.ensures.1 c.in_err-spot.ensures.broken.cause c.in_err-spot.ensures.broken.written _

pub returns-in_err-spot-clause-quiet : goal.returns-in_err-spot-clause-quiet
returns-in_err-spot-clause-quiet g c = no_refusal c.from_residual-in_err-spot.result c.in_err-spot.field-0.0 c.from_residual-in_err-spot.ensures.1 c.in_err-spot.ensures.broken.cause c.in_err-spot.ensures.broken.written _

pub returns-in_err-spot-clause-parts : goal.returns-in_err-spot-clause-parts
returns-in_err-spot-clause-parts g c = c.in_err-spot.ensures.broken.parts ∙ c.prepare.ensures.parts

pub returns-in_err-spot-clause-number : goal.returns-in_err-spot-clause-number
returns-in_err-spot-clause-number g c = subst (λ n. n ≤ c.args.self.now.log.number + 1) (sym c.in_err-spot.ensures.broken.number) c.prepare.ensures.number

pub returns-in_err-spot-clause-header : goal.returns-in_err-spot-clause-header
returns-in_err-spot-clause-header g c = c.in_err-spot.ensures.broken.header ∙ c.prepare.ensures.header

pub returns-in_err-spot-clause-err : goal.returns-in_err-spot-clause-err
returns-in_err-spot-clause-err g c = failed_for c.from_residual-in_err-spot.result c.in_err-spot.field-0.0 c.from_residual-in_err-spot.ensures.1 (Fails c.args.self.now.tables.parts.file (g.S.Store.disk c.args.store.now) (g.S.Store.disk c.ready_spot.new.store)) (fails_from c.args.self.now.tables.parts.file (g.S.Store.disk c.args.store.now) (g.S.Store.disk c.prepare.new.store) (g.S.Store.disk c.ready_spot.new.store) c.in_err-spot.field-0.0 c.in_err-spot.ensures.broken.cause c.in_err-spot.ensures.broken.written c.in_ok-prepare.ensures.counts (subst (λ n. Fails n (g.S.Store.disk c.prepare.new.store) (g.S.Store.disk c.ready_spot.new.store) c.in_err-spot.field-0.0) (ap (λ (p : TableParts). p.file) c.prepare.ensures.parts) c.in_err-spot.ensures.broken.fails))

pub returns-in_err-spot-clause-full : goal.returns-in_err-spot-clause-full
returns-in_err-spot-clause-full g c next e = absurd (not_full c.from_residual-in_err-spot.result c.in_err-spot.field-0.0 c.from_residual-in_err-spot.ensures.1 c.in_err-spot.ensures.broken.cause c.in_err-spot.ensures.broken.written next e)

pub returns-in_err-spot-clause-room : goal.returns-in_err-spot-clause-room
returns-in_err-spot-clause-room g c s here = had_room c.from_residual-in_err-spot.result c.in_err-spot.field-0.0 c.from_residual-in_err-spot.ensures.1 c.in_err-spot.ensures.broken.cause c.in_err-spot.ensures.broken.written _ c.in_ok-prepare.ensures.room

pub returns-clause-ready : goal.returns-clause-ready
returns-clause-ready g c = ok_map c.put_spots.result _ _ c.put_spots.ensures.done (λ d. d.ready)

pub returns-clause-refused : goal.returns-clause-refused
returns-clause-refused g c = refused_off c.put_spots.result (IsBrokenNamed c.ready_spot.new.self c.put_spots.new.self (is_masked c.args.first c.args.count 0 c.args.mask.now) (g.S.Store.disk c.ready_spot.new.store) (g.S.Store.disk c.put_spots.new.store)) c.put_spots.ensures.broken (λ e b. (b.cause, b.written)) _

pub returns-clause-kept : goal.returns-clause-kept
returns-clause-kept g c = refused_off c.put_spots.result (IsBrokenNamed c.ready_spot.new.self c.put_spots.new.self (is_masked c.args.first c.args.count 0 c.args.mask.now) (g.S.Store.disk c.ready_spot.new.store) (g.S.Store.disk c.put_spots.new.store)) c.put_spots.ensures.broken (λ e b. (b.cause, b.written)) _

pub returns-clause-quiet : goal.returns-clause-quiet
returns-clause-quiet g c = refused_off c.put_spots.result (IsBrokenNamed c.ready_spot.new.self c.put_spots.new.self (is_masked c.args.first c.args.count 0 c.args.mask.now) (g.S.Store.disk c.ready_spot.new.store) (g.S.Store.disk c.put_spots.new.store)) c.put_spots.ensures.broken (λ e b. (b.cause, b.written)) _

pub returns-clause-parts : goal.returns-clause-parts
returns-clause-parts g c = either_way c.put_spots.result _ _ (IsBrokenNamed c.ready_spot.new.self c.put_spots.new.self (is_masked c.args.first c.args.count 0 c.args.mask.now) (g.S.Store.disk c.ready_spot.new.store) (g.S.Store.disk c.put_spots.new.store)) c.put_spots.ensures.done c.put_spots.ensures.broken (λ d. d.parts) (λ e b. b.parts) ∙ (c.in_ok-spot.ensures.leaves.parts ∙ c.prepare.ensures.parts)

pub returns-clause-header : goal.returns-clause-header
returns-clause-header g c = either_way c.put_spots.result _ _ (IsBrokenNamed c.ready_spot.new.self c.put_spots.new.self (is_masked c.args.first c.args.count 0 c.args.mask.now) (g.S.Store.disk c.ready_spot.new.store) (g.S.Store.disk c.put_spots.new.store)) c.put_spots.ensures.done c.put_spots.ensures.broken (λ d. d.header) (λ e b. b.header) ∙ (ap (λ (s : LogState). s.header) c.in_ok-spot.ensures.leaves.log ∙ c.prepare.ensures.header)

pub returns-clause-number : goal.returns-clause-number
returns-clause-number g c = subst (λ n. n ≤ c.args.self.now.log.number + 1) (sym (either_way c.put_spots.result _ _ (IsBrokenNamed c.ready_spot.new.self c.put_spots.new.self (is_masked c.args.first c.args.count 0 c.args.mask.now) (g.S.Store.disk c.ready_spot.new.store) (g.S.Store.disk c.put_spots.new.store)) c.put_spots.ensures.done c.put_spots.ensures.broken (λ d. d.number) (λ e b. b.number) ∙ ap (λ (s : LogState). s.number) c.in_ok-spot.ensures.leaves.log)) c.prepare.ensures.number

pub returns-clause-counts : goal.returns-clause-counts
returns-clause-counts g c = ok_map c.put_spots.result _ _ c.put_spots.ensures.done (λ d. counts_join (g.S.Store.disk c.args.store.now) (g.S.Store.disk c.ready_spot.new.store) (g.S.Store.disk c.put_spots.new.store) (counts_join (g.S.Store.disk c.args.store.now) (g.S.Store.disk c.prepare.new.store) (g.S.Store.disk c.ready_spot.new.store) c.in_ok-prepare.ensures.counts c.in_ok-spot.ensures.counts) d.counts)

pub returns-clause-err : goal.returns-clause-err
returns-clause-err g c = if_err_map c.put_spots.result (IsBrokenNamed c.ready_spot.new.self c.put_spots.new.self (is_masked c.args.first c.args.count 0 c.args.mask.now) (g.S.Store.disk c.ready_spot.new.store) (g.S.Store.disk c.put_spots.new.store)) (Fails c.args.self.now.tables.parts.file (g.S.Store.disk c.args.store.now) (g.S.Store.disk c.put_spots.new.store)) c.put_spots.ensures.broken (λ e b. fails_from c.args.self.now.tables.parts.file (g.S.Store.disk c.args.store.now) (g.S.Store.disk c.ready_spot.new.store) (g.S.Store.disk c.put_spots.new.store) e b.cause b.written (counts_join (g.S.Store.disk c.args.store.now) (g.S.Store.disk c.prepare.new.store) (g.S.Store.disk c.ready_spot.new.store) c.in_ok-prepare.ensures.counts c.in_ok-spot.ensures.counts) (subst (λ n. Fails n (g.S.Store.disk c.ready_spot.new.store) (g.S.Store.disk c.put_spots.new.store) e) (ap (λ (p : TableParts). p.file) (c.in_ok-spot.ensures.leaves.parts ∙ c.prepare.ensures.parts)) b.fails))

pub returns-clause-full : goal.returns-clause-full
returns-clause-full g c next e = absurd (full_off c.put_spots.result (IsBrokenNamed c.ready_spot.new.self c.put_spots.new.self (is_masked c.args.first c.args.count 0 c.args.mask.now) (g.S.Store.disk c.ready_spot.new.store) (g.S.Store.disk c.put_spots.new.store)) c.put_spots.ensures.broken (λ e b. (b.cause, b.written)) next e)

pub returns-clause-room : goal.returns-clause-room
returns-clause-room g c s here = room_off c.put_spots.result (IsBrokenNamed c.ready_spot.new.self c.put_spots.new.self (is_masked c.args.first c.args.count 0 c.args.mask.now) (g.S.Store.disk c.ready_spot.new.store) (g.S.Store.disk c.put_spots.new.store)) c.put_spots.ensures.broken (λ e b. (b.cause, b.written)) _ c.in_ok-prepare.ensures.room

pub names_some-requires-clause-within : goal.names_some-requires-clause-within
names_some-requires-clause-within g c = c.requires.mask

pub ready_spot-requires-clause-some : goal.ready_spot-requires-clause-some
ready_spot-requires-clause-some g c = let on : c.names_some.result ≡ true = c.if-not-names_some.false in let b = (c.names_some.ensures.some on).1.0 in omega (arith, b)

pub put_spots-requires-clause-ready : goal.put_spots-requires-clause-ready
put_spots-requires-clause-ready g c = c.in_ok-spot.ensures.ready

pub put_spots-requires-clause-mask : goal.put_spots-requires-clause-mask
put_spots-requires-clause-mask g c = let h = c.requires.mask in omega (arith, h)

pub put_spots-requires-clause-pages : goal.put_spots-requires-clause-pages
put_spots-requires-clause-pages g c = c.in_ok-spot.ensures.pages

pub put_spots-requires-clause-whole : goal.put_spots-requires-clause-whole
put_spots-requires-clause-whole g c = c.requires.whole ∙ ap (λ (p : TableParts). p.sector * c.args.count) (sym (c.in_ok-spot.ensures.leaves.parts ∙ c.prepare.ensures.parts))

pub put_spots-requires-clause-block : goal.put_spots-requires-clause-block
put_spots-requires-clause-block g c = of_parts (λ p. LieInBlock p c.args.first c.args.count) _ _ (c.in_ok-spot.ensures.leaves.parts ∙ c.prepare.ensures.parts) c.requires.block

pub prepare-requires-clause-few : goal.prepare-requires-clause-few
prepare-requires-clause-few g c = block_few (c.args.first * c.args.self.now.tables.parts.sector % c.args.self.now.tables.parts.block) (c.args.self.now.tables.parts.sector * c.args.count) c.args.self.now.tables.parts.block (let h = c.requires.block.run in omega (arith, h)) c.requires.ready.readable.sizes.block
