use Rattle.std.proofs.Common.{get_or, arith}
use Rattle.table_pages.specs.Held.{shape_of}
use Rattle.layer_session.specs.Bringing.{SetsEntry}
use Rattle.layer_session.specs.Planning.{none}
use Rattle.layer_session.proofs.BitRuns.{none_yet, few_here, few_rest, plan_here, run_more}
use Rattle.vhdx_format.specs.Layers.{HasSizes}
use Rattle.layer_session.proofs.Known.{end_fits}
use Rattle.layer_session.proofs.Portions.{rest_on, some_count}
use Rattle.layer_session.proofs.Sectors.{first_below, part_on}
use Rattle.layer_session.proofs.preparing.+set_entries.Goals as goal

pub returns-then-count-eq0-clause-none : goal.returns-then-count-eq0-clause-none
returns-then-count-eq0-clause-none t c e = none c.args.k c.args.first c.args.count c.if-count-eq0.true

pub returns-then-count-eq0-clause-there : goal.returns-then-count-eq0-clause-there
returns-then-count-eq0-clause-there t c = none c.args.k c.args.first c.args.count c.if-count-eq0.true

pub returns-then-sets_entry-clause-there : goal.returns-then-sets_entry-clause-there
returns-then-sets_entry-clause-there t c =
    run_more (shape_of c.args.parts.now) c.args.plans.now (λ s n plan. Unit {0}) c.args.k c.args.first c.args.count c.run_in_block-len.result (get_or c.args.plans.now c.args.k none_yet) (some_count c.args.count c.if-count-eq0.false) c.run_in_block-len.ensures.is
    (plan_here (shape_of c.args.parts.now) (record { sector = c.requires.sizes.sector; block = c.requires.sizes.block }) c.args.plans.now c.args.k c.args.first c.args.count none_yet (some_count c.args.count c.if-count-eq0.false) c.requires.few)
    tt c.set_entries-rest.ensures.there

pub returns-else-sets_entry-clause-there : goal.returns-else-sets_entry-clause-there
returns-else-sets_entry-clause-there t c =
    run_more (shape_of c.args.parts.now) c.args.plans.now (λ s n plan. Unit {0}) c.args.k c.args.first c.args.count c.run_in_block-len.result (get_or c.args.plans.now c.args.k none_yet) (some_count c.args.count c.if-count-eq0.false) c.run_in_block-len.ensures.is
    (plan_here (shape_of c.args.parts.now) (record { sector = c.requires.sizes.sector; block = c.requires.sizes.block }) c.args.plans.now c.args.k c.args.first c.args.count none_yet (some_count c.args.count c.if-count-eq0.false) c.requires.few)
    tt c.set_entries-rest.ensures.there

pub returns-else-sets_entry-clause-none : goal.returns-else-sets_entry-clause-none
returns-else-sets_entry-clause-none t c e =
    run_more (shape_of c.args.parts.now) c.args.plans.now (λ s n plan. SetsEntry plan → ⊥) c.args.k c.args.first c.args.count c.run_in_block-len.result (get_or c.args.plans.now c.args.k none_yet) (some_count c.args.count c.if-count-eq0.false) c.run_in_block-len.ensures.is
    (plan_here (shape_of c.args.parts.now) (record { sector = c.requires.sizes.sector; block = c.requires.sizes.block }) c.args.plans.now c.args.k c.args.first c.args.count none_yet (some_count c.args.count c.if-count-eq0.false) c.requires.few)
    (c.sets_entry.ensures c.if-sets_entry.false) (c.set_entries-rest.ensures.none e)

pub set_entries-rest-requires : goal.set_entries-rest-requires
set_entries-rest-requires t c =
    let h : HasSizes (shape_of c.args.parts.now) = record { sector = c.requires.sizes.sector; block = c.requires.sizes.block } in
    (omega arith, (c.requires.sizes, (rest_on c.args.first c.run_in_block-len.result c.args.count c.args.parts.now.sectors c.run_in_block-len.ensures.most c.requires.on_disk, few_rest (shape_of c.args.parts.now) h c.args.k c.args.first c.args.count c.run_in_block-len.result _ (some_count c.args.count c.if-count-eq0.false) c.run_in_block-len.ensures.is c.requires.few)))

pub run_in_block-len-requires-clause-parts : goal.run_in_block-len-requires-clause-parts
run_in_block-len-requires-clause-parts t c = c.requires.sizes

pub run_in_block-len-requires-clause-first : goal.run_in_block-len-requires-clause-first
run_in_block-len-requires-clause-first t c = first_below c.args.first c.args.count _ (some_count c.args.count c.if-count-eq0.false) c.requires.on_disk

pub run_in_block-len-requires-clause-count : goal.run_in_block-len-requires-clause-count
run_in_block-len-requires-clause-count t c = some_count c.args.count c.if-count-eq0.false

pub overflow_add-first : goal.overflow_add-first
overflow_add-first t c = end_fits c.args.parts.now c.requires.sizes c.args.first c.run_in_block-len.result (part_on c.args.first c.run_in_block-len.result c.args.count c.args.parts.now.sectors c.run_in_block-len.ensures.most c.requires.on_disk)

pub overflow_sub-count : goal.overflow_sub-count
overflow_sub-count t c = c.run_in_block-len.ensures.most

pub bounds-plans-k : goal.bounds-plans-k
bounds-plans-k t c = few_here (shape_of c.args.parts.now) (record { sector = c.requires.sizes.sector; block = c.requires.sizes.block }) c.args.k c.args.first c.args.count _ (some_count c.args.count c.if-count-eq0.false) c.requires.few
