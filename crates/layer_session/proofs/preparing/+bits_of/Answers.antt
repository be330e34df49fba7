use Rattle.std.proofs.Common.{get_or, arith, subst, sym}
use Rattle.table_pages.specs.Held.{shape_of}
use Rattle.layer_session.specs.Bringing.{AreBitsOf}
use Rattle.layer_session.specs.Planning.{none}
use Rattle.layer_session.proofs.BitRuns.{bits_joined, none_yet, few_here, few_rest, plan_here}
use Rattle.vhdx_format.specs.Layers.{HasSizes}
use Rattle.layer_session.proofs.Known.{end_fits}
use Rattle.layer_session.proofs.Portions.{rest_on, some_count}
use Rattle.layer_session.proofs.Sectors.{first_below, part_on}
use Rattle.layer_session.proofs.preparing.+bits_of.Goals as goal

pub returns-then-count-eq0 : goal.returns-then-count-eq0
returns-then-count-eq0 t c = none c.args.k c.args.first c.args.count c.if-count-eq0.true

pub returns : goal.returns
returns t c =
    subst (AreBitsOf (shape_of c.args.parts.now) c.args.plans.now c.args.chunk c.args.k c.args.first c.args.count) (sym c.joined.ensures)
    (bits_joined (shape_of c.args.parts.now) (record { sector = c.requires.sizes.sector; block = c.requires.sizes.block }) c.args.plans.now c.args.chunk c.args.k c.args.first c.args.count c.run_in_block-len.result
    (get_or c.args.plans.now c.args.k none_yet)
    (some_count c.args.count c.if-count-eq0.false) c.run_in_block-len.ensures.most c.run_in_block-len.ensures.is
    (plan_here (shape_of c.args.parts.now) (record { sector = c.requires.sizes.sector; block = c.requires.sizes.block }) c.args.plans.now c.args.k c.args.first c.args.count none_yet (some_count c.args.count c.if-count-eq0.false) c.requires.few) c.run_bits-run.result c.bits_of-rest.result c.run_bits-run.ensures.none c.run_bits-run.ensures.some c.bits_of-rest.ensures)

pub bits_of-rest-requires : goal.bits_of-rest-requires
bits_of-rest-requires t c =
    let h : HasSizes (shape_of c.args.parts.now) = record { sector = c.requires.sizes.sector; block = c.requires.sizes.block } in
    (omega arith, (c.requires.sizes, (rest_on c.args.first c.run_in_block-len.result c.args.count c.args.parts.now.sectors c.run_in_block-len.ensures.most c.requires.on_disk, few_rest (shape_of c.args.parts.now) h c.args.k c.args.first c.args.count c.run_in_block-len.result _ (some_count c.args.count c.if-count-eq0.false) c.run_in_block-len.ensures.is c.requires.few)))

pub run_in_block-len-requires-clause-parts : goal.run_in_block-len-requires-clause-parts
run_in_block-len-requires-clause-parts t c = c.requires.sizes

pub run_in_block-len-requires-clause-first : goal.run_in_block-len-requires-clause-first
run_in_block-len-requires-clause-first t c = first_below c.args.first c.args.count _ (some_count c.args.count c.if-count-eq0.false) c.requires.on_disk

pub run_in_block-len-requires-clause-count : goal.run_in_block-len-requires-clause-count
run_in_block-len-requires-clause-count t c = some_count c.args.count c.if-count-eq0.false

pub overflow_add-first : goal.overflow_add-first
overflow_add-first t c = end_fits c.args.parts.now c.requires.sizes c.args.first c.run_in_block-len.result (part_on c.args.first c.run_in_block-len.result c.args.count c.args.parts.now.sectors c.run_in_block-len.ensures.most c.requires.on_disk)

pub overflow_sub-count : goal.overflow_sub-count
overflow_sub-count t c = c.run_in_block-len.ensures.most

pub bounds-plans-k : goal.bounds-plans-k
bounds-plans-k t c = few_here (shape_of c.args.parts.now) (record { sector = c.requires.sizes.sector; block = c.requires.sizes.block }) c.args.k c.args.first c.args.count _ (some_count c.args.count c.if-count-eq0.false) c.requires.few

pub run_bits-run-requires-clause-sizes : goal.run_bits-run-requires-clause-sizes
run_bits-run-requires-clause-sizes t c = c.requires.sizes

pub run_bits-run-requires-clause-some : goal.run_bits-run-requires-clause-some
run_bits-run-requires-clause-some t c = c.run_in_block-len.ensures.some

pub run_bits-run-requires-clause-on_disk : goal.run_bits-run-requires-clause-on_disk
run_bits-run-requires-clause-on_disk t c = part_on c.args.first c.run_in_block-len.result c.args.count c.args.parts.now.sectors c.run_in_block-len.ensures.most c.requires.on_disk

pub run_bits-run-requires-clause-run : goal.run_bits-run-requires-clause-run
run_bits-run-requires-clause-run t c = c.run_in_block-len.ensures.inside
