use Rattle.std.proofs.Common.{◌≤◌, ◌+◌, ◌-◌, arith, refl, sym, subst, ap, not}
use Rattle.layer_session.proofs.Leading.{keeps_now}
use Rattle.layer_session.specs.declared.planning.Step.TheVariants.{Leave}
use Rattle.store_model.specs.Disk.{WhereTold}
use Rattle.table_pages.specs.declared.tables.TableParts.{TableParts}
use Rattle.layer_session.specs.declared.file.Layer.{Layer}
use Rattle.layer_session.specs.Calls.{with_zeros}
use Rattle.layer_session.specs.Prepared.{IsPrepared}
use Rattle.layer_session.specs.Steps.{Wants}
use Rattle.layer_session.specs.Taking.{IsDone}
use Rattle.layer_session.proofs.Frames.{next_prepared, next_small, next_wants, plan_there, run_pages, run_room, run_todo}
use Rattle.layer_session.proofs.Joining.{keeps_puts, put_none, puts_more}
use Rattle.layer_session.proofs.Portions.{front_outside, rest_on, some_count}
use Rattle.layer_session.proofs.Sectors.{first_below, part_on}
use Rattle.layer_session.proofs.Known.{end_fits}
use Rattle.layer_session.proofs.Told.{if_err, if_err_map, ok_map}
use Rattle.layer_session.proofs.Zeroing.{broken_more, zeros_join, zeros_nobody, zeros_off, join_broken, join_done, join_moments}
use Rattle.vx_base.proofs.Handed.{err_is, not_ok}
use Rattle.layer_session.proofs.file.Layer.+zero_blocks.Goals as goal

pub returns-then-count-eq0-clause-moments : goal.returns-then-count-eq0-clause-moments
returns-then-count-eq0-clause-moments g t c =
    keeps_puts c.args.self.now c.args.first c.args.count (g.S.Store.disk c.args.store.now).told (g.S.Store.disk c.args.store.now).told (keeps_now c.args.self.now (g.S.Store.disk c.args.store.now).told)

pub returns-then-count-eq0-clause-done : goal.returns-then-count-eq0-clause-done
returns-then-count-eq0-clause-done g t c =
    record { put = put_none c.args.self.now c.args.first c.args.count (with_zeros c.args.self.now.tables.parts.sector c.args.first c.args.count) c.if-count-eq0.true (zeros_nobody c.args.self.now.tables.parts.sector c.args.first c.args.count c.if-count-eq0.true) (g.S.Store.disk c.args.store.now).told; ready = c.requires.ready; counts = refl; parts = refl; number = refl; header = refl }

pub index-plan-requires : goal.index-plan-requires
index-plan-requires g t c =
    let there = plan_there c.args.self.now (g.S.Store.disk c.args.store.now) c.requires.ready c.args.k c.args.first c.args.count (some_count c.args.count c.if-count-eq0.false) c.requires.prepared c.requires.on_disk c.run_in_block-len.result c.run_in_block-len.ensures.is (record { step = Leave; word = 0; bitmap = 0 }) in
    omega (arith, there, c.args.self.now.plans.ok.0)

pub zero_block-requires-clause-block : goal.zero_block-requires-clause-block
zero_block-requires-clause-block g t c =
    record {
      on_disk = part_on c.args.first c.run_in_block-len.result c.args.count c.args.self.now.tables.parts.sectors c.run_in_block-len.ensures.most c.requires.on_disk;
      run = c.run_in_block-len.ensures.inside;
    }

pub zero_block-requires-clause-pages : goal.zero_block-requires-clause-pages
zero_block-requires-clause-pages g t c =
    let h = run_pages c.args.self.now (g.S.Store.disk c.args.store.now) c.requires.ready c.args.k c.args.first c.args.count (some_count c.args.count c.if-count-eq0.false) c.requires.prepared c.requires.on_disk c.run_in_block-len.result c.run_in_block-len.ensures.is c.index-plan.result.now c.index-plan.ensures in record { entry = h.entry; bits = h.bits; all_bits = h.all_bits }

pub zero_block-requires-clause-room : goal.zero_block-requires-clause-room
zero_block-requires-clause-room g t c =
    run_room c.args.self.now (g.S.Store.disk c.args.store.now) c.requires.ready c.args.k c.args.first c.args.count (some_count c.args.count c.if-count-eq0.false) c.requires.prepared c.requires.on_disk c.run_in_block-len.result c.run_in_block-len.ensures.is c.index-plan.result.now c.index-plan.ensures

pub zero_block-requires-clause-todo : goal.zero_block-requires-clause-todo
zero_block-requires-clause-todo g t c t' told =
    (not c.args.self.now.leave, run_todo c.args.self.now (g.S.Store.disk c.args.store.now) c.requires.ready c.args.k c.args.first c.args.count (some_count c.args.count c.if-count-eq0.false) c.requires.prepared c.requires.on_disk c.run_in_block-len.result c.run_in_block-len.ensures.is c.index-plan.result.now c.index-plan.ensures (not c.args.self.now.leave) c.requires.wants t' told)

pub returns-in_err-zero_block-clause-moments : goal.returns-in_err-zero_block-clause-moments
returns-in_err-zero_block-clause-moments g t c =
    puts_more c.args.self.now c.args.first c.args.count c.args.first c.run_in_block-len.result (front_outside c.args.first c.args.count c.run_in_block-len.result c.run_in_block-len.ensures.most) (g.S.Store.disk c.args.store.now).told (g.S.Store.disk c.zero_block.new.store).told c.zero_block.ensures.moments

pub returns-in_err-zero_block-clause-broken : goal.returns-in_err-zero_block-clause-broken
returns-in_err-zero_block-clause-broken g t c =
    if_err c.from_residual.result c.in_err-zero_block.field-0.0 _ (err_is c.from_residual.result _ c.from_residual.ensures.1)
    (broken_more c.args.self.now c.zero_block.new.self c.args.first c.args.count c.args.first c.run_in_block-len.result (front_outside c.args.first c.args.count c.run_in_block-len.result c.run_in_block-len.ensures.most) (g.S.Store.disk c.args.store.now) (g.S.Store.disk c.zero_block.new.store) c.in_err-zero_block.field-0.0 c.in_err-zero_block.ensures.broken)

pub overflow_add-k : goal.overflow_add-k
overflow_add-k g t c =
    omega (arith, next_small c.args.self.now (g.S.Store.disk c.args.store.now) c.requires.ready c.args.k c.args.first c.args.count (some_count c.args.count c.if-count-eq0.false) c.requires.prepared c.requires.on_disk c.run_in_block-len.result c.run_in_block-len.ensures.is c.index-plan.result.now)

pub zero_blocks-requires : goal.zero_blocks-requires
zero_blocks-requires g t c κs within =
    let disk : c.args.first + c.run_in_block-len.result + (c.args.count - c.run_in_block-len.result) ≤ c.zero_block.new.self.tables.parts.sectors = subst (λ (p : TableParts). c.args.first + c.run_in_block-len.result + (c.args.count - c.run_in_block-len.result) ≤ p.sectors) (sym c.in_ok-zero_block.ensures.leaves.parts) (rest_on c.args.first c.run_in_block-len.result c.args.count c.args.self.now.tables.parts.sectors c.run_in_block-len.ensures.most c.requires.on_disk) in
    let prepared : IsPrepared c.zero_block.new.self (c.args.k + 1) (c.args.first + c.run_in_block-len.result) (c.args.count - c.run_in_block-len.result) = next_prepared c.args.self.now (g.S.Store.disk c.args.store.now) c.requires.ready c.args.k c.args.first c.args.count (some_count c.args.count c.if-count-eq0.false) c.requires.prepared c.requires.on_disk c.run_in_block-len.result c.run_in_block-len.ensures.is c.index-plan.result.now c.index-plan.ensures c.zero_block.new.self c.in_ok-zero_block.ensures.leaves in
    let wants = subst (λ b. WhereTold (g.S.Store.disk c.zero_block.new.store).told (Wants c.zero_block.new.self (c.args.k + 1) (c.args.first + c.run_in_block-len.result) (c.args.count - c.run_in_block-len.result) (not b))) (sym (ap (λ (x : Layer). x.leave) c.in_ok-zero_block.ensures.leaves.only)) (next_wants c.args.self.now (g.S.Store.disk c.args.store.now) c.requires.ready c.args.k c.args.first c.args.count (some_count c.args.count c.if-count-eq0.false) c.requires.prepared c.requires.on_disk c.run_in_block-len.result c.run_in_block-len.ensures.is c.index-plan.result.now c.index-plan.ensures c.zero_block.new.self c.in_ok-zero_block.ensures.leaves (g.S.Store.disk c.zero_block.new.store) (not c.args.self.now.leave) c.requires.wants c.in_ok-zero_block.ensures.others) in
    (omega arith, (within.0, (within.1, (c.in_ok-zero_block.ensures.done.ready, (disk, (prepared, wants))))))

pub returns-clause-moments : goal.returns-clause-moments
returns-clause-moments g t c =
    join_moments c.args.self.now c.zero_block.new.self c.args.first c.run_in_block-len.result c.args.count c.run_in_block-len.ensures.most (with_zeros c.args.self.now.tables.parts.sector c.args.first c.run_in_block-len.result) (zeros_off c.args.self.now.tables.parts.sector c.args.first c.run_in_block-len.result) (g.S.Store.disk c.args.store.now) (g.S.Store.disk c.zero_block.new.store) c.in_ok-zero_block.ensures.done (g.S.Store.disk c.zero_blocks.new.store) c.zero_block.ensures.moments c.zero_blocks.ensures.moments

pub returns-clause-done : goal.returns-clause-done
returns-clause-done g t c =
    ok_map c.zero_blocks.result _ _ c.zero_blocks.ensures.done (λ d. join_done c.args.self.now c.zero_block.new.self c.args.first c.run_in_block-len.result c.args.count c.run_in_block-len.ensures.most (with_zeros c.args.self.now.tables.parts.sector c.args.first c.run_in_block-len.result) (zeros_off c.args.self.now.tables.parts.sector c.args.first c.run_in_block-len.result) (g.S.Store.disk c.args.store.now) (g.S.Store.disk c.zero_block.new.store) c.in_ok-zero_block.ensures.done c.zero_blocks.new.self (g.S.Store.disk c.zero_blocks.new.store) (with_zeros c.args.self.now.tables.parts.sector (c.args.first + c.run_in_block-len.result) (c.args.count - c.run_in_block-len.result)) (with_zeros c.args.self.now.tables.parts.sector c.args.first c.args.count)
    (zeros_join c.args.self.now.tables.parts.sector c.args.first c.run_in_block-len.result c.args.count c.run_in_block-len.ensures.most)
    (subst (λ z. IsDone c.zero_block.new.self c.zero_blocks.new.self (c.args.first + c.run_in_block-len.result) (c.args.count - c.run_in_block-len.result) (with_zeros z (c.args.first + c.run_in_block-len.result) (c.args.count - c.run_in_block-len.result)) (g.S.Store.disk c.zero_block.new.store) (g.S.Store.disk c.zero_blocks.new.store)) (ap (λ (p : TableParts). p.sector) c.in_ok-zero_block.ensures.leaves.parts) d))

pub returns-clause-broken : goal.returns-clause-broken
returns-clause-broken g t c =
    if_err_map c.zero_blocks.result _ _ c.zero_blocks.ensures.broken (join_broken c.args.self.now c.zero_block.new.self c.args.first c.run_in_block-len.result c.args.count c.run_in_block-len.ensures.most (with_zeros c.args.self.now.tables.parts.sector c.args.first c.run_in_block-len.result) (zeros_off c.args.self.now.tables.parts.sector c.args.first c.run_in_block-len.result) (g.S.Store.disk c.args.store.now) (g.S.Store.disk c.zero_block.new.store) c.in_ok-zero_block.ensures.done c.zero_blocks.new.self (g.S.Store.disk c.zero_blocks.new.store))

pub run_in_block-len-requires-clause-parts : goal.run_in_block-len-requires-clause-parts
run_in_block-len-requires-clause-parts g t c = c.requires.ready.readable.sizes

pub run_in_block-len-requires-clause-first : goal.run_in_block-len-requires-clause-first
run_in_block-len-requires-clause-first g t c = first_below c.args.first c.args.count _ (some_count c.args.count c.if-count-eq0.false) c.requires.on_disk

pub run_in_block-len-requires-clause-count : goal.run_in_block-len-requires-clause-count
run_in_block-len-requires-clause-count g t c = some_count c.args.count c.if-count-eq0.false

pub zero_block-requires-clause-ready : goal.zero_block-requires-clause-ready
zero_block-requires-clause-ready g t c = c.requires.ready

pub zero_block-requires-clause-some : goal.zero_block-requires-clause-some
zero_block-requires-clause-some g t c = c.run_in_block-len.ensures.some

pub returns-in_err-zero_block-clause-done : goal.returns-in_err-zero_block-clause-done
returns-in_err-zero_block-clause-done g t c = not_ok c.from_residual.result _ c.from_residual.ensures.1 _

pub overflow_sub-count : goal.overflow_sub-count
overflow_sub-count g t c = c.run_in_block-len.ensures.most

pub overflow_add-first : goal.overflow_add-first
overflow_add-first g t c = end_fits c.args.self.now.tables.parts c.requires.ready.readable.sizes c.args.first c.run_in_block-len.result (part_on c.args.first c.run_in_block-len.result c.args.count c.args.self.now.tables.parts.sectors c.run_in_block-len.ensures.most c.requires.on_disk)
