use Rattle.std.proofs.Common.{◌≡◌, ◌+◌, ◌-◌, ◌*◌, ◌%◌, ◌≤◌, arith, refl, sym, subst, ap, ◌∙◌, length, take, drop, lt_of_lt_of_le}
use Rattle.layer_session.proofs.Leading.{keeps_now}
use Rattle.vhdx_format.specs.Layers.{HasSizes}
use Rattle.store_model.specs.Disk.{WhereTold}
use Rattle.table_pages.specs.Held.{shape_of}
use Rattle.table_pages.specs.declared.tables.TableParts.{TableParts}
use Rattle.layer_session.specs.declared.masked.Spot.{Spot}
use Rattle.layer_session.specs.Masked.{HasMarkPages, is_masked, with_masked}
use Rattle.layer_session.proofs.Masking.{keeps_named, masked_kept, masked_nobody, nothing_named, range_broken, range_named, spots_broken, spots_done, spots_moments}
use Rattle.layer_session.proofs.Spots.{first_fits, in_chunk, next_kept, pages_less, pages_of, pages_stay, rest_fits, spot_low_part, spot_less}
use Rattle.layer_session.proofs.Handing.{few_bytes, front_in}
use Rattle.layer_session.proofs.Known.{end_fits}
use Rattle.layer_session.proofs.Portions.{few_fit, part_fits, place_behind, rest_on, rest_some, some_count}
use Rattle.layer_session.proofs.Sectors.{part_on}
use Rattle.layer_session.proofs.Told.{if_err, if_err_map, ok_map}
use Rattle.layer_session.proofs.Zeroing.{back_whole, front_whole}
use Rattle.layer_session.specs.Steps.{held_by}
use Rattle.vx_base.proofs.Handed.{err_is, not_ok}
use Rattle.layer_session.proofs.file.Layer.+put_spots.Goals as goal

pub returns-then-count-eq0-clause-moments : goal.returns-then-count-eq0-clause-moments
returns-then-count-eq0-clause-moments g t c =
    keeps_named c.args.self.now (is_masked c.args.first c.args.count c.args.at c.args.mask.now) (g.S.Store.disk c.args.store.now).told (g.S.Store.disk c.args.store.now).told (keeps_now c.args.self.now (g.S.Store.disk c.args.store.now).told)

pub returns-then-count-eq0-clause-done : goal.returns-then-count-eq0-clause-done
returns-then-count-eq0-clause-done g t c =
    record {
      put = nothing_named c.args.self.now (is_masked c.args.first c.args.count c.args.at c.args.mask.now) (with_masked c.args.self.now.tables.parts.sector c.args.first c.args.count c.args.at c.args.mask.now c.args.bytes.now) (masked_nobody c.args.first c.args.count c.args.at c.args.mask.now c.if-count-eq0.true)
          (λ layer s. masked_kept c.args.self.now.tables.parts.sector c.args.first c.args.count c.args.at c.args.mask.now c.args.bytes.now layer s c.if-count-eq0.true) (g.S.Store.disk c.args.store.now).told;
      ready = c.requires.ready;
      counts = refl;
      parts = refl;
      number = refl;
      header = refl;
    }

pub put_all_or_none-requires-clause-ready : goal.put_all_or_none-requires-clause-ready
put_all_or_none-requires-clause-ready g t c = c.requires.ready

pub put_all_or_none-requires-clause-some : goal.put_all_or_none-requires-clause-some
put_all_or_none-requires-clause-some g t c = c.first_run-run.ensures.some

pub put_all_or_none-requires-clause-block : goal.put_all_or_none-requires-clause-block
put_all_or_none-requires-clause-block g t c =
    record {
      on_disk = part_on c.args.first c.first_run-run.result.count c.args.count c.args.self.now.tables.parts.sectors c.first_run-run.ensures.most c.requires.block.on_disk;
      run = first_fits c.args.self.now.tables.parts.sector c.args.self.now.tables.parts.block c.args.first c.first_run-run.result.count c.args.count c.first_run-run.ensures.most c.requires.block.run;
    }

pub put_all_or_none-requires-clause-whole : goal.put_all_or_none-requires-clause-whole
put_all_or_none-requires-clause-whole g t c =
    front_whole c.args.self.now.tables.parts.sector c.first_run-run.result.count c.args.count c.first_run-run.ensures.most c.args.bytes.now c.split_at.result.0.now c.requires.whole
    (c.split_at.ensures.front ∙ ap (λ k. take k c.args.bytes.now) (ap (λ x. x * c.first_run-run.result.count) c.from.ensures))

pub put_all_or_none-requires-clause-pages : goal.put_all_or_none-requires-clause-pages
put_all_or_none-requires-clause-pages g t c =
    pages_less c.args.self.now.tables c.args.first c.args.count c.first_run-run.result.count c.args.spot c.first_run-run.ensures.most
    (in_chunk (shape_of c.args.self.now.tables.parts) (record { sector = c.requires.ready.readable.sizes.sector; block = c.requires.ready.readable.sizes.block }) c.args.first c.args.count (lt_of_lt_of_le c.first_run-run.ensures.some c.first_run-run.ensures.most) c.requires.block.run)
    c.requires.pages

pub put_all_or_none-requires-clause-spot : goal.put_all_or_none-requires-clause-spot
put_all_or_none-requires-clause-spot g t c trace told =
    spot_less (shape_of c.args.self.now.tables.parts) (held_by c.args.self.now trace) c.args.first c.args.count c.first_run-run.result.count c.args.spot c.first_run-run.ensures.some c.first_run-run.ensures.most
    (c.requires.spot (lt_of_lt_of_le c.first_run-run.ensures.some c.first_run-run.ensures.most) trace told)

pub returns-in_err-put_all_or_none-clause-moments : goal.returns-in_err-put_all_or_none-clause-moments
returns-in_err-put_all_or_none-clause-moments g t c =
    range_named c.args.self.now c.args.first c.first_run-run.result.count c.args.count c.args.at c.args.mask.now c.first_run-run.result.set c.first_run-run.ensures.most c.first_run-run.ensures.same (g.S.Store.disk c.args.store.now).told (g.S.Store.disk c.put_all_or_none.new.store).told c.put_all_or_none.ensures.moments

pub returns-in_err-put_all_or_none-clause-broken : goal.returns-in_err-put_all_or_none-clause-broken
returns-in_err-put_all_or_none-clause-broken g t c =
    if_err c.from_residual.result c.in_err-put_all_or_none.field-0.0 _ (err_is c.from_residual.result _ c.from_residual.ensures.1)
    (range_broken c.args.self.now c.put_all_or_none.new.self c.args.first c.first_run-run.result.count c.args.count c.args.at c.args.mask.now c.first_run-run.result.set c.first_run-run.ensures.most c.first_run-run.ensures.same (g.S.Store.disk c.args.store.now) (g.S.Store.disk c.put_all_or_none.new.store) c.in_err-put_all_or_none.field-0.0 c.in_err-put_all_or_none.ensures.broken)

pub put_spots-requires : goal.put_spots-requires
put_spots-requires g t c κs within =
    let n = c.first_run-run.result.count in
    let sized : HasSizes (shape_of c.args.self.now.tables.parts) = record { sector = c.requires.ready.readable.sizes.sector; block = c.requires.ready.readable.sizes.block } in
    let back_is : c.split_at.result.1.now ≡ drop (c.args.self.now.tables.parts.sector * n) c.args.bytes.now = c.split_at.ensures.back ∙ ap (λ k. drop k c.args.bytes.now) (ap (λ x. x * n) c.from.ensures) in
    let fits : n ≤ c.args.count = c.first_run-run.ensures.most in
    let next : Spot = record { place = c.saturating_add-place.result; bitmap = c.args.spot.bitmap; marks = c.args.spot.marks } in
    let room = in_chunk (shape_of c.args.self.now.tables.parts) sized c.args.first c.args.count (some_count c.args.count c.if-count-eq0.false) c.requires.block.run in
    let place : WhereTold (g.S.Store.disk c.args.store.now).told (λ t. c.saturating_add-place.result ≡ c.args.spot.place + c.args.self.now.tables.parts.sector * n) = λ t told.
    let low = spot_low_part c.args.self.now (g.S.Store.disk c.args.store.now) c.requires.ready c.args.spot c.args.first c.args.count (some_count c.args.count c.if-count-eq0.false) c.requires.block.on_disk c.requires.block.run (c.requires.spot (some_count c.args.count c.if-count-eq0.false)) n fits t told in
    let long : c.from.result * n ≡ c.args.self.now.tables.parts.sector * n = ap (λ x. x * n) c.from.ensures in
    place_behind c.saturating_add-place.result c.args.spot.place (c.from.result * n) (c.args.self.now.tables.parts.sector * n) c.saturating_add-place.ensures long low in
    let one = c.in_ok-put_all_or_none.ensures.done in
    let whole = subst (λ (p : TableParts). length c.split_at.result.1.now ≡ p.sector * (c.args.count - n)) (sym one.parts) (back_whole c.args.self.now.tables.parts.sector n c.args.count fits c.args.bytes.now c.split_at.result.1.now c.requires.whole back_is) in
    let disk = subst (λ (p : TableParts). c.args.first + n + (c.args.count - n) ≤ p.sectors) (sym one.parts) (rest_on c.args.first n c.args.count c.args.self.now.tables.parts.sectors fits c.requires.block.on_disk) in
    let run = subst (λ (p : TableParts). (c.args.first + n) * p.sector % p.block + (c.args.count - n) * p.sector ≤ p.block) (sym one.parts) (rest_fits (shape_of c.args.self.now.tables.parts) sized c.args.first n c.args.count fits c.requires.block.run) in
    let pages : HasMarkPages c.put_all_or_none.new.self.tables (c.args.first + n) (c.args.count - n) next = pages_stay c.args.self.now.tables c.put_all_or_none.new.self.tables (c.args.first + n) (c.args.count - n) next c.put_all_or_none.ensures.places
    (pages_of c.args.self.now.tables c.args.first c.args.count (c.args.first + n) (c.args.count - n) c.args.spot next refl refl room (omega arith) (omega (arith, fits)) c.requires.pages) in (
      omega (arith, c.first_run-run.ensures.some),
      (
        within.0,
        (
          within.1,
          (
            one.ready,
            (
              whole,
              (
                record { on_disk = disk; run = run },
                (
                  omega (arith, fits, c.requires.mask),
                  (
                    omega (arith, fits, c.requires.ends),
                    (
                      λ more. next_kept c.args.self.now (g.S.Store.disk c.args.store.now) c.requires.ready c.args.spot c.args.first c.args.count (some_count c.args.count c.if-count-eq0.false) c.requires.block.on_disk c.requires.block.run (c.requires.spot (some_count c.args.count c.if-count-eq0.false)) c.put_all_or_none.new.self (g.S.Store.disk c.put_all_or_none.new.store) n next one.parts (rest_some n c.args.count more) place refl refl c.in_ok-put_all_or_none.ensures.spots,
                      pages,
                    ),
                  ),
                ),
              ),
            ),
          ),
        ),
      ),
    )

pub returns-clause-moments : goal.returns-clause-moments
returns-clause-moments g t c =
    let n = c.first_run-run.result.count in
    let fits : n ≤ c.args.count = c.first_run-run.ensures.most in
    let back_is : c.split_at.result.1.now ≡ drop (c.args.self.now.tables.parts.sector * n) c.args.bytes.now = c.split_at.ensures.back ∙ ap (λ k. drop k c.args.bytes.now) (ap (λ x. x * n) c.from.ensures) in
    let front_is : c.split_at.result.0.now ≡ take (c.args.self.now.tables.parts.sector * n) c.args.bytes.now = c.split_at.ensures.front ∙ ap (λ k. take k c.args.bytes.now) (ap (λ x. x * n) c.from.ensures) in
    spots_moments c.args.self.now c.put_all_or_none.new.self c.args.first n c.args.count c.args.at fits c.args.mask.now c.args.bytes.now c.split_at.result.0.now c.split_at.result.1.now c.first_run-run.result.set c.first_run-run.ensures.same c.requires.whole front_is back_is (g.S.Store.disk c.args.store.now) (g.S.Store.disk c.put_all_or_none.new.store) c.in_ok-put_all_or_none.ensures.done (g.S.Store.disk c.put_spots.new.store) c.put_all_or_none.ensures.moments c.put_spots.ensures.moments

pub returns-clause-done : goal.returns-clause-done
returns-clause-done g t c =
    let n = c.first_run-run.result.count in
    let fits : n ≤ c.args.count = c.first_run-run.ensures.most in
    let back_is : c.split_at.result.1.now ≡ drop (c.args.self.now.tables.parts.sector * n) c.args.bytes.now = c.split_at.ensures.back ∙ ap (λ k. drop k c.args.bytes.now) (ap (λ x. x * n) c.from.ensures) in
    let front_is : c.split_at.result.0.now ≡ take (c.args.self.now.tables.parts.sector * n) c.args.bytes.now = c.split_at.ensures.front ∙ ap (λ k. take k c.args.bytes.now) (ap (λ x. x * n) c.from.ensures) in
    ok_map c.put_spots.result _ _ c.put_spots.ensures.done (λ d. spots_done c.args.self.now c.put_all_or_none.new.self c.args.first n c.args.count c.args.at fits c.args.mask.now c.args.bytes.now c.split_at.result.0.now c.split_at.result.1.now c.first_run-run.result.set c.first_run-run.ensures.same c.requires.whole front_is back_is (g.S.Store.disk c.args.store.now) (g.S.Store.disk c.put_all_or_none.new.store) c.in_ok-put_all_or_none.ensures.done c.put_spots.new.self (g.S.Store.disk c.put_spots.new.store) d)

pub returns-clause-broken : goal.returns-clause-broken
returns-clause-broken g t c =
    let n = c.first_run-run.result.count in
    let fits : n ≤ c.args.count = c.first_run-run.ensures.most in
    let back_is : c.split_at.result.1.now ≡ drop (c.args.self.now.tables.parts.sector * n) c.args.bytes.now = c.split_at.ensures.back ∙ ap (λ k. drop k c.args.bytes.now) (ap (λ x. x * n) c.from.ensures) in
    let front_is : c.split_at.result.0.now ≡ take (c.args.self.now.tables.parts.sector * n) c.args.bytes.now = c.split_at.ensures.front ∙ ap (λ k. take k c.args.bytes.now) (ap (λ x. x * n) c.from.ensures) in
    if_err_map c.put_spots.result _ _ c.put_spots.ensures.broken (spots_broken c.args.self.now c.put_all_or_none.new.self c.args.first n c.args.count c.args.at fits c.args.mask.now c.args.bytes.now c.split_at.result.0.now c.split_at.result.1.now c.first_run-run.result.set c.first_run-run.ensures.same c.requires.whole front_is back_is (g.S.Store.disk c.args.store.now) (g.S.Store.disk c.put_all_or_none.new.store) c.in_ok-put_all_or_none.ensures.done c.put_spots.new.self (g.S.Store.disk c.put_spots.new.store))

pub first_run-run-requires-clause-some : goal.first_run-run-requires-clause-some
first_run-run-requires-clause-some g t c = some_count c.args.count c.if-count-eq0.false

pub first_run-run-requires-clause-within : goal.first_run-run-requires-clause-within
first_run-run-requires-clause-within g t c = c.requires.mask

pub first_run-run-requires-clause-fits : goal.first_run-run-requires-clause-fits
first_run-run-requires-clause-fits g t c = c.requires.ends

pub overflow_mul-long : goal.overflow_mul-long
overflow_mul-long g t c = few_fit _ (few_bytes c.from.result c.args.self.now.tables.parts.sector c.args.first c.first_run-run.result.count c.args.count c.args.self.now.tables.parts.sectors c.from.ensures c.first_run-run.ensures.most c.requires.block.on_disk c.requires.ready.readable.sizes.most)

pub split_at-requires : goal.split_at-requires
split_at-requires g t c = front_in c.from.result c.args.self.now.tables.parts.sector c.first_run-run.result.count c.args.count (length c.args.bytes.now) c.from.ensures c.first_run-run.ensures.most c.requires.whole

pub overflow_add-behind : goal.overflow_add-behind
overflow_add-behind g t c = part_fits c.args.at c.first_run-run.result.count c.args.count c.first_run-run.ensures.most c.requires.ends

pub overflow_add-first : goal.overflow_add-first
overflow_add-first g t c = end_fits c.args.self.now.tables.parts c.requires.ready.readable.sizes c.args.first c.first_run-run.result.count (part_on c.args.first c.first_run-run.result.count c.args.count c.args.self.now.tables.parts.sectors c.first_run-run.ensures.most c.requires.block.on_disk)

pub overflow_sub-count : goal.overflow_sub-count
overflow_sub-count g t c = c.first_run-run.ensures.most

pub returns-in_err-put_all_or_none-clause-done : goal.returns-in_err-put_all_or_none-clause-done
returns-in_err-put_all_or_none-clause-done g t c = not_ok c.from_residual.result _ c.from_residual.ensures.1 _
