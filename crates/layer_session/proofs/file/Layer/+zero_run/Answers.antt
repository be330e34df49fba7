use Rattle.std.proofs.Common.{◌≡◌, ◌+◌, ◌-◌, ◌*◌, ◌/◌, ◌≤◌, arith, sym, subst, ap, ◌∙◌, take, refl}
use Rattle.layer_session.proofs.Leading.{keeps_now}
use Rattle.store_model.specs.Disk.{WhereBothTold, WhereTold}
use Rattle.layer_session.specs.Calls.{PutsInto, sectors_in, with_zeros}
use Rattle.layer_session.specs.Steps.{StandFrom}
use Rattle.layer_session.specs.Taking.{IsBroken, IsDone}
use Rattle.layer_session.proofs.Joining.{keeps_puts, put_none, puts_more}
use Rattle.layer_session.proofs.Portions.{few_fit, front_outside, least_first, least_second, place_behind, rest_on, rest_some, some_count}
use Rattle.layer_session.proofs.Handing.{few_bytes}
use Rattle.layer_session.proofs.Known.{end_fits}
use Rattle.layer_session.proofs.Sectors.{part_on}
use Rattle.vhdx_format.specs.Fields.{megabyte}
use Rattle.layer_session.proofs.Zeroing.{broken_more, done_zeros, entries_join, first_stands, join_broken, join_done, join_moments, piece_at, piece_clear, piece_count, piece_long, piece_some, piece_whole, place_small, rest_stands, zeros_join, zeros_nobody, zeros_off}
use Rattle.layer_session.proofs.Told.{if_err, if_err_map, ok_map}
use Rattle.vx_base.proofs.Handed.{err_is, not_ok}
use Rattle.layer_session.proofs.file.Layer.+zero_run.Goals as goal

pub returns-then-count-eq0-clause-moments : goal.returns-then-count-eq0-clause-moments
returns-then-count-eq0-clause-moments g t c =
    keeps_puts c.args.self.now c.args.first c.args.count (g.S.Store.disk c.args.store.now).told (g.S.Store.disk c.args.store.now).told (keeps_now c.args.self.now (g.S.Store.disk c.args.store.now).told)

pub slice_bounds-write-end : goal.slice_bounds-write-end
slice_bounds-write-end g t c =
    sym (piece_long c.args.self.now c.from-sector.result c.min-len.result c.from-sector.ensures c.requires.ready.readable.sizes.sector (least_second c.min-len.result c.args.count (megabyte / c.from-sector.result) c.min-len.ensures) c.deref.result.now (c.deref.ensures.value ∙ c.requires.ready.clear))

pub write-requires-clause-whole : goal.write-requires-clause-whole
write-requires-clause-whole g t c =
    let n : sectors_in c.args.self.now (take (c.from-sector.result * c.min-len.result) c.deref.result.now) ≡ c.min-len.result = piece_count c.args.self.now c.from-sector.result c.min-len.result c.from-sector.ensures c.requires.ready.readable.sizes.sector (least_second c.min-len.result c.args.count (megabyte / c.from-sector.result) c.min-len.ensures) c.deref.result.now (c.deref.ensures.value ∙ c.requires.ready.clear) in
    piece_whole c.args.self.now c.from-sector.result c.min-len.result c.from-sector.ensures c.requires.ready.readable.sizes.sector (least_second c.min-len.result c.args.count (megabyte / c.from-sector.result) c.min-len.ensures) c.deref.result.now (c.deref.ensures.value ∙ c.requires.ready.clear) ∙ ap (λ k. c.args.self.now.tables.parts.sector * k) (sym n)

pub write-requires-clause-stand : goal.write-requires-clause-stand
write-requires-clause-stand g t c =
    let n : sectors_in c.args.self.now (take (c.from-sector.result * c.min-len.result) c.deref.result.now) ≡ c.min-len.result = piece_count c.args.self.now c.from-sector.result c.min-len.result c.from-sector.ensures c.requires.ready.readable.sizes.sector (least_second c.min-len.result c.args.count (megabyte / c.from-sector.result) c.min-len.ensures) c.deref.result.now (c.deref.ensures.value ∙ c.requires.ready.clear) in
    subst (λ k. WhereTold (g.S.Store.disk c.args.store.now).told (λ t. StandFrom c.args.self.now c.args.first k c.args.place t)) (sym n)
    (first_stands c.args.self.now (g.S.Store.disk c.args.store.now) (g.S.Store.disk c.args.store.now) c.requires.ready c.args.first c.args.count c.args.place c.requires.on_disk (c.requires.stand (some_count c.args.count c.if-count-eq0.false)) c.min-len.result (piece_some c.args.self.now c.from-sector.result c.min-len.result c.from-sector.ensures c.requires.ready.readable.sizes.sector (least_second c.min-len.result c.args.count (megabyte / c.from-sector.result) c.min-len.ensures) c.deref.result.now (c.deref.ensures.value ∙ c.requires.ready.clear) c.args.count (some_count c.args.count c.if-count-eq0.false) c.min-len.ensures) (least_first c.min-len.result c.args.count (megabyte / c.from-sector.result) c.min-len.ensures))

pub returns-in_err-write-clause-moments : goal.returns-in_err-write-clause-moments
returns-in_err-write-clause-moments g t c =
    let n : sectors_in c.args.self.now (take (c.from-sector.result * c.min-len.result) c.deref.result.now) ≡ c.min-len.result = piece_count c.args.self.now c.from-sector.result c.min-len.result c.from-sector.ensures c.requires.ready.readable.sizes.sector (least_second c.min-len.result c.args.count (megabyte / c.from-sector.result) c.min-len.ensures) c.deref.result.now (c.deref.ensures.value ∙ c.requires.ready.clear) in
    puts_more c.args.self.now c.args.first c.args.count c.args.first c.min-len.result (front_outside c.args.first c.args.count c.min-len.result (least_first c.min-len.result c.args.count (megabyte / c.from-sector.result) c.min-len.ensures)) (g.S.Store.disk c.args.store.now).told (g.S.Store.disk c.write.new.store).told (subst (λ k. WhereBothTold (PutsInto c.args.self.now c.args.first k) (g.S.Store.disk c.args.store.now).told (g.S.Store.disk c.write.new.store).told) n c.write.ensures.moments)

pub returns-in_err-write-clause-broken : goal.returns-in_err-write-clause-broken
returns-in_err-write-clause-broken g t c =
    let n : sectors_in c.args.self.now (take (c.from-sector.result * c.min-len.result) c.deref.result.now) ≡ c.min-len.result = piece_count c.args.self.now c.from-sector.result c.min-len.result c.from-sector.ensures c.requires.ready.readable.sizes.sector (least_second c.min-len.result c.args.count (megabyte / c.from-sector.result) c.min-len.ensures) c.deref.result.now (c.deref.ensures.value ∙ c.requires.ready.clear) in
    if_err c.from_residual.result c.in_err-write.field-0.0 _ (err_is c.from_residual.result _ c.from_residual.ensures.1)
    (broken_more c.args.self.now c.args.self.now c.args.first c.args.count c.args.first c.min-len.result (front_outside c.args.first c.args.count c.min-len.result (least_first c.min-len.result c.args.count (megabyte / c.from-sector.result) c.min-len.ensures)) (g.S.Store.disk c.args.store.now) (g.S.Store.disk c.write.new.store) c.in_err-write.field-0.0 (subst (λ k. IsBroken c.args.self.now c.args.self.now c.args.first k (g.S.Store.disk c.args.store.now) (g.S.Store.disk c.write.new.store) c.in_err-write.field-0.0) n c.in_err-write.ensures.broken))

pub zero_run-requires : goal.zero_run-requires
zero_run-requires g t c κs within =
    let n : sectors_in c.args.self.now (take (c.from-sector.result * c.min-len.result) c.deref.result.now) ≡ c.min-len.result = piece_count c.args.self.now c.from-sector.result c.min-len.result c.from-sector.ensures c.requires.ready.readable.sizes.sector (least_second c.min-len.result c.args.count (megabyte / c.from-sector.result) c.min-len.ensures) c.deref.result.now (c.deref.ensures.value ∙ c.requires.ready.clear) in
    let one : IsDone c.args.self.now c.args.self.now c.args.first c.min-len.result (with_zeros c.args.self.now.tables.parts.sector c.args.first c.min-len.result) (g.S.Store.disk c.args.store.now) (g.S.Store.disk c.write.new.store) = done_zeros c.args.self.now (g.S.Store.disk c.args.store.now) (g.S.Store.disk c.write.new.store) c.args.first c.min-len.result (sectors_in c.args.self.now (take (c.from-sector.result * c.min-len.result) c.deref.result.now)) (take (c.from-sector.result * c.min-len.result) c.deref.result.now) n (piece_whole c.args.self.now c.from-sector.result c.min-len.result c.from-sector.ensures c.requires.ready.readable.sizes.sector (least_second c.min-len.result c.args.count (megabyte / c.from-sector.result) c.min-len.ensures) c.deref.result.now (c.deref.ensures.value ∙ c.requires.ready.clear)) (piece_clear c.args.self.now c.from-sector.result c.min-len.result c.from-sector.ensures c.requires.ready.readable.sizes.sector (least_second c.min-len.result c.args.count (megabyte / c.from-sector.result) c.min-len.ensures) c.deref.result.now (c.deref.ensures.value ∙ c.requires.ready.clear)) c.in_ok-write.ensures.done in
    let next : WhereTold (g.S.Store.disk c.args.store.now).told (λ t. c.saturating_add.result ≡ c.args.place + c.args.self.now.tables.parts.sector * c.min-len.result) =
    λ t told.
    let small = place_small c.args.self.now (g.S.Store.disk c.args.store.now) (g.S.Store.disk c.args.store.now) c.requires.ready c.args.first c.min-len.result c.args.place (part_on c.args.first c.min-len.result c.args.count c.args.self.now.tables.parts.sectors (least_first c.min-len.result c.args.count (megabyte / c.from-sector.result) c.min-len.ensures) c.requires.on_disk)
    (first_stands c.args.self.now (g.S.Store.disk c.args.store.now) (g.S.Store.disk c.args.store.now) c.requires.ready c.args.first c.args.count c.args.place c.requires.on_disk (c.requires.stand (some_count c.args.count c.if-count-eq0.false)) c.min-len.result (piece_some c.args.self.now c.from-sector.result c.min-len.result c.from-sector.ensures c.requires.ready.readable.sizes.sector (least_second c.min-len.result c.args.count (megabyte / c.from-sector.result) c.min-len.ensures) c.deref.result.now (c.deref.ensures.value ∙ c.requires.ready.clear) c.args.count (some_count c.args.count c.if-count-eq0.false) c.min-len.ensures) (least_first c.min-len.result c.args.count (megabyte / c.from-sector.result) c.min-len.ensures)) (take (c.from-sector.result * c.min-len.result) c.deref.result.now) (piece_whole c.args.self.now c.from-sector.result c.min-len.result c.from-sector.ensures c.requires.ready.readable.sizes.sector (least_second c.min-len.result c.args.count (megabyte / c.from-sector.result) c.min-len.ensures) c.deref.result.now (c.deref.ensures.value ∙ c.requires.ready.clear)) t told in
    place_behind c.saturating_add.result c.args.place (c.from-sector.result * c.min-len.result) (c.args.self.now.tables.parts.sector * c.min-len.result) c.saturating_add.ensures (piece_at c.args.self.now c.from-sector.result c.min-len.result c.from-sector.ensures c.requires.ready.readable.sizes.sector (least_second c.min-len.result c.args.count (megabyte / c.from-sector.result) c.min-len.ensures) c.deref.result.now (c.deref.ensures.value ∙ c.requires.ready.clear)) small in (
      omega (arith, (piece_some c.args.self.now c.from-sector.result c.min-len.result c.from-sector.ensures c.requires.ready.readable.sizes.sector (least_second c.min-len.result c.args.count (megabyte / c.from-sector.result) c.min-len.ensures) c.deref.result.now (c.deref.ensures.value ∙ c.requires.ready.clear) c.args.count (some_count c.args.count c.if-count-eq0.false) c.min-len.ensures)),
      (
        within.0,
        (
          within.1,
          (
            one.ready,
            (
              rest_on c.args.first c.min-len.result c.args.count c.args.self.now.tables.parts.sectors (least_first c.min-len.result c.args.count (megabyte / c.from-sector.result) c.min-len.ensures) c.requires.on_disk,
              λ more. rest_stands c.args.self.now (g.S.Store.disk c.args.store.now) (g.S.Store.disk c.write.new.store) c.requires.ready c.args.first c.args.count c.args.place c.requires.on_disk (c.requires.stand (some_count c.args.count c.if-count-eq0.false)) c.min-len.result c.saturating_add.result (rest_some c.min-len.result c.args.count more) next c.in_ok-write.ensures.same,
            ),
          ),
        ),
      ),
    )

pub returns-clause-moments : goal.returns-clause-moments
returns-clause-moments g t c =
    let n : sectors_in c.args.self.now (take (c.from-sector.result * c.min-len.result) c.deref.result.now) ≡ c.min-len.result = piece_count c.args.self.now c.from-sector.result c.min-len.result c.from-sector.ensures c.requires.ready.readable.sizes.sector (least_second c.min-len.result c.args.count (megabyte / c.from-sector.result) c.min-len.ensures) c.deref.result.now (c.deref.ensures.value ∙ c.requires.ready.clear) in
    let one : IsDone c.args.self.now c.args.self.now c.args.first c.min-len.result (with_zeros c.args.self.now.tables.parts.sector c.args.first c.min-len.result) (g.S.Store.disk c.args.store.now) (g.S.Store.disk c.write.new.store) = done_zeros c.args.self.now (g.S.Store.disk c.args.store.now) (g.S.Store.disk c.write.new.store) c.args.first c.min-len.result (sectors_in c.args.self.now (take (c.from-sector.result * c.min-len.result) c.deref.result.now)) (take (c.from-sector.result * c.min-len.result) c.deref.result.now) n (piece_whole c.args.self.now c.from-sector.result c.min-len.result c.from-sector.ensures c.requires.ready.readable.sizes.sector (least_second c.min-len.result c.args.count (megabyte / c.from-sector.result) c.min-len.ensures) c.deref.result.now (c.deref.ensures.value ∙ c.requires.ready.clear)) (piece_clear c.args.self.now c.from-sector.result c.min-len.result c.from-sector.ensures c.requires.ready.readable.sizes.sector (least_second c.min-len.result c.args.count (megabyte / c.from-sector.result) c.min-len.ensures) c.deref.result.now (c.deref.ensures.value ∙ c.requires.ready.clear)) c.in_ok-write.ensures.done in
    join_moments c.args.self.now c.args.self.now c.args.first c.min-len.result c.args.count (least_first c.min-len.result c.args.count (megabyte / c.from-sector.result) c.min-len.ensures) (with_zeros c.args.self.now.tables.parts.sector c.args.first c.min-len.result) (zeros_off c.args.self.now.tables.parts.sector c.args.first c.min-len.result) (g.S.Store.disk c.args.store.now) (g.S.Store.disk c.write.new.store) one (g.S.Store.disk c.zero_run.new.store) (subst (λ k. WhereBothTold (PutsInto c.args.self.now c.args.first k) (g.S.Store.disk c.args.store.now).told (g.S.Store.disk c.write.new.store).told) n c.write.ensures.moments) c.zero_run.ensures.moments

pub returns-clause-done : goal.returns-clause-done
returns-clause-done g t c =
    let n : sectors_in c.args.self.now (take (c.from-sector.result * c.min-len.result) c.deref.result.now) ≡ c.min-len.result = piece_count c.args.self.now c.from-sector.result c.min-len.result c.from-sector.ensures c.requires.ready.readable.sizes.sector (least_second c.min-len.result c.args.count (megabyte / c.from-sector.result) c.min-len.ensures) c.deref.result.now (c.deref.ensures.value ∙ c.requires.ready.clear) in
    let one : IsDone c.args.self.now c.args.self.now c.args.first c.min-len.result (with_zeros c.args.self.now.tables.parts.sector c.args.first c.min-len.result) (g.S.Store.disk c.args.store.now) (g.S.Store.disk c.write.new.store) = done_zeros c.args.self.now (g.S.Store.disk c.args.store.now) (g.S.Store.disk c.write.new.store) c.args.first c.min-len.result (sectors_in c.args.self.now (take (c.from-sector.result * c.min-len.result) c.deref.result.now)) (take (c.from-sector.result * c.min-len.result) c.deref.result.now) n (piece_whole c.args.self.now c.from-sector.result c.min-len.result c.from-sector.ensures c.requires.ready.readable.sizes.sector (least_second c.min-len.result c.args.count (megabyte / c.from-sector.result) c.min-len.ensures) c.deref.result.now (c.deref.ensures.value ∙ c.requires.ready.clear)) (piece_clear c.args.self.now c.from-sector.result c.min-len.result c.from-sector.ensures c.requires.ready.readable.sizes.sector (least_second c.min-len.result c.args.count (megabyte / c.from-sector.result) c.min-len.ensures) c.deref.result.now (c.deref.ensures.value ∙ c.requires.ready.clear)) c.in_ok-write.ensures.done in
    ok_map c.zero_run.result _ _ c.zero_run.ensures.done (join_done c.args.self.now c.args.self.now c.args.first c.min-len.result c.args.count (least_first c.min-len.result c.args.count (megabyte / c.from-sector.result) c.min-len.ensures) (with_zeros c.args.self.now.tables.parts.sector c.args.first c.min-len.result) (zeros_off c.args.self.now.tables.parts.sector c.args.first c.min-len.result) (g.S.Store.disk c.args.store.now) (g.S.Store.disk c.write.new.store) one c.args.self.now (g.S.Store.disk c.zero_run.new.store) (with_zeros c.args.self.now.tables.parts.sector (c.args.first + c.min-len.result) (c.args.count - c.min-len.result)) (with_zeros c.args.self.now.tables.parts.sector c.args.first c.args.count)
    (zeros_join c.args.self.now.tables.parts.sector c.args.first c.min-len.result c.args.count (least_first c.min-len.result c.args.count (megabyte / c.from-sector.result) c.min-len.ensures)))

pub returns-clause-same : goal.returns-clause-same
returns-clause-same g t c =
    ok_map c.zero_run.result _ _ c.zero_run.ensures.same (entries_join c.args.self.now (g.S.Store.disk c.args.store.now).told (g.S.Store.disk c.write.new.store).told (g.S.Store.disk c.zero_run.new.store).told c.in_ok-write.ensures.same)

pub returns-clause-broken : goal.returns-clause-broken
returns-clause-broken g t c =
    let n : sectors_in c.args.self.now (take (c.from-sector.result * c.min-len.result) c.deref.result.now) ≡ c.min-len.result = piece_count c.args.self.now c.from-sector.result c.min-len.result c.from-sector.ensures c.requires.ready.readable.sizes.sector (least_second c.min-len.result c.args.count (megabyte / c.from-sector.result) c.min-len.ensures) c.deref.result.now (c.deref.ensures.value ∙ c.requires.ready.clear) in
    let one : IsDone c.args.self.now c.args.self.now c.args.first c.min-len.result (with_zeros c.args.self.now.tables.parts.sector c.args.first c.min-len.result) (g.S.Store.disk c.args.store.now) (g.S.Store.disk c.write.new.store) = done_zeros c.args.self.now (g.S.Store.disk c.args.store.now) (g.S.Store.disk c.write.new.store) c.args.first c.min-len.result (sectors_in c.args.self.now (take (c.from-sector.result * c.min-len.result) c.deref.result.now)) (take (c.from-sector.result * c.min-len.result) c.deref.result.now) n (piece_whole c.args.self.now c.from-sector.result c.min-len.result c.from-sector.ensures c.requires.ready.readable.sizes.sector (least_second c.min-len.result c.args.count (megabyte / c.from-sector.result) c.min-len.ensures) c.deref.result.now (c.deref.ensures.value ∙ c.requires.ready.clear)) (piece_clear c.args.self.now c.from-sector.result c.min-len.result c.from-sector.ensures c.requires.ready.readable.sizes.sector (least_second c.min-len.result c.args.count (megabyte / c.from-sector.result) c.min-len.ensures) c.deref.result.now (c.deref.ensures.value ∙ c.requires.ready.clear)) c.in_ok-write.ensures.done in
    if_err_map c.zero_run.result _ _ c.zero_run.ensures.broken (join_broken c.args.self.now c.args.self.now c.args.first c.min-len.result c.args.count (least_first c.min-len.result c.args.count (megabyte / c.from-sector.result) c.min-len.ensures) (with_zeros c.args.self.now.tables.parts.sector c.args.first c.min-len.result) (zeros_off c.args.self.now.tables.parts.sector c.args.first c.min-len.result) (g.S.Store.disk c.args.store.now) (g.S.Store.disk c.write.new.store) one c.args.self.now (g.S.Store.disk c.zero_run.new.store))

pub returns-then-count-eq0-clause-done : goal.returns-then-count-eq0-clause-done
returns-then-count-eq0-clause-done g t c =
    record {
      put = put_none c.args.self.now c.args.first c.args.count (with_zeros c.args.self.now.tables.parts.sector c.args.first c.args.count) c.if-count-eq0.true
          (zeros_nobody c.args.self.now.tables.parts.sector c.args.first c.args.count c.if-count-eq0.true) (g.S.Store.disk c.args.store.now).told;
      ready = c.requires.ready;
      counts = refl;
      parts = refl;
      number = refl;
      header = refl;
    }

pub write-requires-clause-on_disk : goal.write-requires-clause-on_disk
write-requires-clause-on_disk g t c =
    let n : sectors_in c.args.self.now (take (c.from-sector.result * c.min-len.result) c.deref.result.now) ≡ c.min-len.result =
    piece_count c.args.self.now c.from-sector.result c.min-len.result c.from-sector.ensures c.requires.ready.readable.sizes.sector (least_second c.min-len.result c.args.count (megabyte / c.from-sector.result) c.min-len.ensures) c.deref.result.now (c.deref.ensures.value ∙ c.requires.ready.clear) in
    subst (λ k. c.args.first + k ≤ c.args.self.now.tables.parts.sectors) (sym n) (part_on c.args.first c.min-len.result c.args.count c.args.self.now.tables.parts.sectors (least_first c.min-len.result c.args.count (megabyte / c.from-sector.result) c.min-len.ensures) c.requires.on_disk)

pub write-requires-clause-ready : goal.write-requires-clause-ready
write-requires-clause-ready g t c = c.requires.ready

pub returns-in_err-write-clause-done : goal.returns-in_err-write-clause-done
returns-in_err-write-clause-done g t c = not_ok c.from_residual.result _ c.from_residual.ensures.1 _

pub returns-in_err-write-clause-same : goal.returns-in_err-write-clause-same
returns-in_err-write-clause-same g t c = not_ok c.from_residual.result _ c.from_residual.ensures.1 _

pub overflow_mul-bytes : goal.overflow_mul-bytes
overflow_mul-bytes g t c = few_fit _ (few_bytes c.from-sector.result c.args.self.now.tables.parts.sector c.args.first c.min-len.result c.args.count c.args.self.now.tables.parts.sectors c.from-sector.ensures (least_first c.min-len.result c.args.count (megabyte / c.from-sector.result) c.min-len.ensures) c.requires.on_disk c.requires.ready.readable.sizes.most)

pub overflow_add-first : goal.overflow_add-first
overflow_add-first g t c = end_fits c.args.self.now.tables.parts c.requires.ready.readable.sizes c.args.first c.min-len.result (part_on c.args.first c.min-len.result c.args.count c.args.self.now.tables.parts.sectors (least_first c.min-len.result c.args.count (megabyte / c.from-sector.result) c.min-len.ensures) c.requires.on_disk)

pub overflow_sub-count : goal.overflow_sub-count
overflow_sub-count g t c = least_first c.min-len.result c.args.count (megabyte / c.from-sector.result) c.min-len.ensures
