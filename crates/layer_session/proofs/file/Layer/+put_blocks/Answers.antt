use Rattle.std.proofs.Common.{◌≡◌, ◌≤◌, ◌+◌, ◌-◌, ◌*◌, arith, refl, sym, subst, ap, ◌∙◌, length, take, drop, false}
use Rattle.layer_session.proofs.Leading.{keeps_now}
use Rattle.layer_session.specs.declared.planning.Step.TheVariants.{Leave}
use Rattle.table_pages.specs.declared.tables.TableParts.{TableParts}
use Rattle.layer_session.specs.Calls.{with_bytes}
use Rattle.layer_session.specs.Prepared.{IsPrepared}
use Rattle.layer_session.specs.Taking.{IsDone}
use Rattle.layer_session.proofs.Frames.{next_prepared, next_small, next_wants, plan_there, run_pages, run_room, run_todo}
use Rattle.layer_session.proofs.Joining.{keeps_puts, put_none, puts_more}
use Rattle.layer_session.proofs.Portions.{few_fit, front_outside, rest_on, some_count}
use Rattle.layer_session.proofs.Sectors.{first_below, part_on}
use Rattle.layer_session.proofs.Known.{end_fits}
use Rattle.layer_session.proofs.Handing.{few_bytes, front_in}
use Rattle.layer_session.proofs.Told.{if_err, if_err_map, ok_map}
use Rattle.layer_session.proofs.Zeroing.{back_whole, broken_more, bytes_join, bytes_nobody, bytes_off, front_whole, join_broken, join_done, join_moments}
use Rattle.vx_base.proofs.Handed.{err_is, not_ok}
use Rattle.layer_session.proofs.file.Layer.+put_blocks.Goals as goal

pub returns-then-count-eq0-clause-moments : goal.returns-then-count-eq0-clause-moments
returns-then-count-eq0-clause-moments g t c =
    keeps_puts c.args.self.now c.args.first c.args.count (g.S.Store.disk c.args.store.now).told (g.S.Store.disk c.args.store.now).told (keeps_now c.args.self.now (g.S.Store.disk c.args.store.now).told)

pub returns-then-count-eq0-clause-done : goal.returns-then-count-eq0-clause-done
returns-then-count-eq0-clause-done g t c =
    record { put = put_none c.args.self.now c.args.first c.args.count (with_bytes c.args.self.now.tables.parts.sector c.args.first c.args.count c.args.bytes.now) c.if-count-eq0.true (bytes_nobody c.args.self.now.tables.parts.sector c.args.first c.args.count c.if-count-eq0.true c.args.bytes.now) (g.S.Store.disk c.args.store.now).told; ready = c.requires.ready; counts = refl; parts = refl; number = refl; header = refl }

pub index-plan-requires : goal.index-plan-requires
index-plan-requires g t c =
    let there = plan_there c.args.self.now (g.S.Store.disk c.args.store.now) c.requires.ready c.args.k c.args.first c.args.count (some_count c.args.count c.if-count-eq0.false) c.requires.prepared c.requires.on_disk c.run_in_block-len.result c.run_in_block-len.ensures.is (record { step = Leave; word = 0; bitmap = 0 }) in
    omega (arith, there, c.args.self.now.plans.ok.0)

pub put_run-requires-clause-block : goal.put_run-requires-clause-block
put_run-requires-clause-block g t c =
    record {
      on_disk = part_on c.args.first c.run_in_block-len.result c.args.count c.args.self.now.tables.parts.sectors c.run_in_block-len.ensures.most c.requires.on_disk;
      run = c.run_in_block-len.ensures.inside;
    }

pub put_run-requires-clause-pages : goal.put_run-requires-clause-pages
put_run-requires-clause-pages g t c =
    let h = run_pages c.args.self.now (g.S.Store.disk c.args.store.now) c.requires.ready c.args.k c.args.first c.args.count (some_count c.args.count c.if-count-eq0.false) c.requires.prepared c.requires.on_disk c.run_in_block-len.result c.run_in_block-len.ensures.is c.index-plan.result.now c.index-plan.ensures in record { entry = h.entry; bits = h.bits; all_bits = h.all_bits }

pub put_run-requires-clause-room : goal.put_run-requires-clause-room
put_run-requires-clause-room g t c =
    run_room c.args.self.now (g.S.Store.disk c.args.store.now) c.requires.ready c.args.k c.args.first c.args.count (some_count c.args.count c.if-count-eq0.false) c.requires.prepared c.requires.on_disk c.run_in_block-len.result c.run_in_block-len.ensures.is c.index-plan.result.now c.index-plan.ensures

pub put_run-requires-clause-todo : goal.put_run-requires-clause-todo
put_run-requires-clause-todo g t c t' told =
    run_todo c.args.self.now (g.S.Store.disk c.args.store.now) c.requires.ready c.args.k c.args.first c.args.count (some_count c.args.count c.if-count-eq0.false) c.requires.prepared c.requires.on_disk c.run_in_block-len.result c.run_in_block-len.ensures.is c.index-plan.result.now c.index-plan.ensures false c.requires.wants t' told

pub returns-in_err-put_run-clause-moments : goal.returns-in_err-put_run-clause-moments
returns-in_err-put_run-clause-moments g t c =
    puts_more c.args.self.now c.args.first c.args.count c.args.first c.run_in_block-len.result (front_outside c.args.first c.args.count c.run_in_block-len.result c.run_in_block-len.ensures.most) (g.S.Store.disk c.args.store.now).told (g.S.Store.disk c.put_run.new.store).told c.put_run.ensures.moments

pub returns-in_err-put_run-clause-broken : goal.returns-in_err-put_run-clause-broken
returns-in_err-put_run-clause-broken g t c =
    if_err c.from_residual.result c.in_err-put_run.field-0.0 _ (err_is c.from_residual.result _ c.from_residual.ensures.1)
    (broken_more c.args.self.now c.put_run.new.self c.args.first c.args.count c.args.first c.run_in_block-len.result (front_outside c.args.first c.args.count c.run_in_block-len.result c.run_in_block-len.ensures.most) (g.S.Store.disk c.args.store.now) (g.S.Store.disk c.put_run.new.store) c.in_err-put_run.field-0.0 c.in_err-put_run.ensures.broken)

pub overflow_add-k : goal.overflow_add-k
overflow_add-k g t c =
    omega (arith, next_small c.args.self.now (g.S.Store.disk c.args.store.now) c.requires.ready c.args.k c.args.first c.args.count (some_count c.args.count c.if-count-eq0.false) c.requires.prepared c.requires.on_disk c.run_in_block-len.result c.run_in_block-len.ensures.is c.index-plan.result.now)

pub put_blocks-requires : goal.put_blocks-requires
put_blocks-requires g t c κs within =
    let whole : length c.split_at.result.1.now ≡ c.put_run.new.self.tables.parts.sector * (c.args.count - c.run_in_block-len.result) = subst (λ (p : TableParts). length c.split_at.result.1.now ≡ p.sector * (c.args.count - c.run_in_block-len.result)) (sym c.in_ok-put_run.ensures.leaves.parts)
    (back_whole c.args.self.now.tables.parts.sector c.run_in_block-len.result c.args.count c.run_in_block-len.ensures.most c.args.bytes.now c.split_at.result.1.now c.requires.whole (c.split_at.ensures.back ∙ ap (λ n. drop n c.args.bytes.now) (ap (λ n. n * c.run_in_block-len.result) c.from.ensures))) in
    let disk : c.args.first + c.run_in_block-len.result + (c.args.count - c.run_in_block-len.result) ≤ c.put_run.new.self.tables.parts.sectors = subst (λ (p : TableParts). c.args.first + c.run_in_block-len.result + (c.args.count - c.run_in_block-len.result) ≤ p.sectors) (sym c.in_ok-put_run.ensures.leaves.parts) (rest_on c.args.first c.run_in_block-len.result c.args.count c.args.self.now.tables.parts.sectors c.run_in_block-len.ensures.most c.requires.on_disk) in
    let prepared : IsPrepared c.put_run.new.self (c.args.k + 1) (c.args.first + c.run_in_block-len.result) (c.args.count - c.run_in_block-len.result) = next_prepared c.args.self.now (g.S.Store.disk c.args.store.now) c.requires.ready c.args.k c.args.first c.args.count (some_count c.args.count c.if-count-eq0.false) c.requires.prepared c.requires.on_disk c.run_in_block-len.result c.run_in_block-len.ensures.is c.index-plan.result.now c.index-plan.ensures c.put_run.new.self c.in_ok-put_run.ensures.leaves in
    let wants = (next_wants c.args.self.now (g.S.Store.disk c.args.store.now) c.requires.ready c.args.k c.args.first c.args.count (some_count c.args.count c.if-count-eq0.false) c.requires.prepared c.requires.on_disk c.run_in_block-len.result c.run_in_block-len.ensures.is c.index-plan.result.now c.index-plan.ensures c.put_run.new.self c.in_ok-put_run.ensures.leaves (g.S.Store.disk c.put_run.new.store) false c.requires.wants c.in_ok-put_run.ensures.others) in
    (omega arith, (within.0, (within.1, (c.in_ok-put_run.ensures.done.ready, (whole, (disk, (prepared, wants)))))))

pub returns-clause-moments : goal.returns-clause-moments
returns-clause-moments g t c =
    join_moments c.args.self.now c.put_run.new.self c.args.first c.run_in_block-len.result c.args.count c.run_in_block-len.ensures.most (with_bytes c.args.self.now.tables.parts.sector c.args.first c.run_in_block-len.result c.split_at.result.0.now) (bytes_off c.args.self.now.tables.parts.sector c.args.first c.run_in_block-len.result c.split_at.result.0.now) (g.S.Store.disk c.args.store.now) (g.S.Store.disk c.put_run.new.store) c.in_ok-put_run.ensures.done (g.S.Store.disk c.put_blocks.new.store) c.put_run.ensures.moments c.put_blocks.ensures.moments

pub returns-clause-done : goal.returns-clause-done
returns-clause-done g t c =
    ok_map c.put_blocks.result _ _ c.put_blocks.ensures.done (λ d. join_done c.args.self.now c.put_run.new.self c.args.first c.run_in_block-len.result c.args.count c.run_in_block-len.ensures.most (with_bytes c.args.self.now.tables.parts.sector c.args.first c.run_in_block-len.result c.split_at.result.0.now) (bytes_off c.args.self.now.tables.parts.sector c.args.first c.run_in_block-len.result c.split_at.result.0.now) (g.S.Store.disk c.args.store.now) (g.S.Store.disk c.put_run.new.store) c.in_ok-put_run.ensures.done c.put_blocks.new.self (g.S.Store.disk c.put_blocks.new.store) (with_bytes c.args.self.now.tables.parts.sector (c.args.first + c.run_in_block-len.result) (c.args.count - c.run_in_block-len.result) c.split_at.result.1.now) (with_bytes c.args.self.now.tables.parts.sector c.args.first c.args.count c.args.bytes.now)
    (bytes_join c.args.self.now.tables.parts.sector c.args.first c.run_in_block-len.result c.args.count c.run_in_block-len.ensures.most c.args.bytes.now c.split_at.result.0.now c.split_at.result.1.now c.requires.whole (c.split_at.ensures.front ∙ ap (λ n. take n c.args.bytes.now) (ap (λ n. n * c.run_in_block-len.result) c.from.ensures)) (c.split_at.ensures.back ∙ ap (λ n. drop n c.args.bytes.now) (ap (λ n. n * c.run_in_block-len.result) c.from.ensures)))
    (subst (λ z. IsDone c.put_run.new.self c.put_blocks.new.self (c.args.first + c.run_in_block-len.result) (c.args.count - c.run_in_block-len.result) (with_bytes z (c.args.first + c.run_in_block-len.result) (c.args.count - c.run_in_block-len.result) c.split_at.result.1.now) (g.S.Store.disk c.put_run.new.store) (g.S.Store.disk c.put_blocks.new.store)) (ap (λ (p : TableParts). p.sector) c.in_ok-put_run.ensures.leaves.parts) d))

pub returns-clause-broken : goal.returns-clause-broken
returns-clause-broken g t c =
    if_err_map c.put_blocks.result _ _ c.put_blocks.ensures.broken (join_broken c.args.self.now c.put_run.new.self c.args.first c.run_in_block-len.result c.args.count c.run_in_block-len.ensures.most (with_bytes c.args.self.now.tables.parts.sector c.args.first c.run_in_block-len.result c.split_at.result.0.now) (bytes_off c.args.self.now.tables.parts.sector c.args.first c.run_in_block-len.result c.split_at.result.0.now) (g.S.Store.disk c.args.store.now) (g.S.Store.disk c.put_run.new.store) c.in_ok-put_run.ensures.done c.put_blocks.new.self (g.S.Store.disk c.put_blocks.new.store))

pub run_in_block-len-requires-clause-parts : goal.run_in_block-len-requires-clause-parts
run_in_block-len-requires-clause-parts g t c = c.requires.ready.readable.sizes

pub run_in_block-len-requires-clause-first : goal.run_in_block-len-requires-clause-first
run_in_block-len-requires-clause-first g t c = first_below c.args.first c.args.count _ (some_count c.args.count c.if-count-eq0.false) c.requires.on_disk

pub run_in_block-len-requires-clause-count : goal.run_in_block-len-requires-clause-count
run_in_block-len-requires-clause-count g t c = some_count c.args.count c.if-count-eq0.false

pub put_run-requires-clause-ready : goal.put_run-requires-clause-ready
put_run-requires-clause-ready g t c = c.requires.ready

pub put_run-requires-clause-some : goal.put_run-requires-clause-some
put_run-requires-clause-some g t c = c.run_in_block-len.ensures.some

pub returns-in_err-put_run-clause-done : goal.returns-in_err-put_run-clause-done
returns-in_err-put_run-clause-done g t c = not_ok c.from_residual.result _ c.from_residual.ensures.1 _

pub overflow_sub-count : goal.overflow_sub-count
overflow_sub-count g t c = c.run_in_block-len.ensures.most

pub overflow_add-first : goal.overflow_add-first
overflow_add-first g t c = end_fits c.args.self.now.tables.parts c.requires.ready.readable.sizes c.args.first c.run_in_block-len.result (part_on c.args.first c.run_in_block-len.result c.args.count c.args.self.now.tables.parts.sectors c.run_in_block-len.ensures.most c.requires.on_disk)

pub overflow_mul-from : goal.overflow_mul-from
overflow_mul-from g t c = few_fit _ (few_bytes c.from.result c.args.self.now.tables.parts.sector c.args.first c.run_in_block-len.result c.args.count c.args.self.now.tables.parts.sectors c.from.ensures c.run_in_block-len.ensures.most c.requires.on_disk c.requires.ready.readable.sizes.most)

pub split_at-requires : goal.split_at-requires
split_at-requires g t c = front_in c.from.result c.args.self.now.tables.parts.sector c.run_in_block-len.result c.args.count (length c.args.bytes.now) c.from.ensures c.run_in_block-len.ensures.most c.requires.whole

pub put_run-requires-clause-whole : goal.put_run-requires-clause-whole
put_run-requires-clause-whole g t c =
    front_whole c.args.self.now.tables.parts.sector c.run_in_block-len.result c.args.count c.run_in_block-len.ensures.most c.args.bytes.now c.split_at.result.0.now c.requires.whole (c.split_at.ensures.front ∙ ap (λ n. take n c.args.bytes.now) (ap (λ n. n * c.run_in_block-len.result) c.from.ensures))
