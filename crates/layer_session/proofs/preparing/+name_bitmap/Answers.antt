use Rattle.std.proofs.Common.{◌≡◌, ◌≢◌, ◌⊎◌, ◌/◌, ◌^◌, ◌∙◌, get_or, arith, inl, inr, eq-eqb}
use Rattle.std.proofs.lemmas.Bool.{cases_eq, ne_eqb}
use Rattle.vhdx_format.specs.Layers.{HasSizes}
use Rattle.table_pages.specs.Held.{shape_of}
use Rattle.layer_session.specs.Planning.{none}
use Rattle.layer_session.specs.Bringing.{none as named_none}
use Rattle.layer_session.proofs.Counting.{set_beside}
use Rattle.std.proofs.Math.ListN.{length-set}
use Rattle.layer_session.proofs.BitRuns.{few_here, few_rest, few_set, named_then, none_yet, plan_here, word_then}
use Rattle.layer_session.proofs.Portions.{below_next, rest_on, some_count}
use Rattle.layer_session.proofs.Known.{end_fits}
use Rattle.layer_session.proofs.Sectors.{first_below, part_on}
use Rattle.layer_session.proofs.preparing.+name_bitmap.Goals as goal

pub returns-then-count-eq0-clause-named : goal.returns-then-count-eq0-clause-named
returns-then-count-eq0-clause-named t c = named_none c.args.k c.args.first c.args.count c.if-count-eq0.true

pub returns-then-count-eq0-clause-word : goal.returns-then-count-eq0-clause-word
returns-then-count-eq0-clause-word t c = none c.args.k c.args.first c.args.count c.if-count-eq0.true

pub returns-clause-named : goal.returns-clause-named
returns-clause-named t c =
    let h : HasSizes (shape_of c.args.parts.now) = record { sector = c.requires.sizes.sector; block = c.requires.sizes.block } in
    named_then (shape_of c.args.parts.now) c.args.chunk c.args.plans.now c.name_bitmap.new.plans c.args.k c.args.first c.args.count c.run_in_block-len.result c.args.word (get_or c.args.plans.now c.args.k none_yet) c.named.result
    (some_count c.args.count c.if-count-eq0.false) c.run_in_block-len.ensures.is
    (plan_here (shape_of c.args.parts.now) h c.args.plans.now c.args.k c.args.first c.args.count none_yet (some_count c.args.count c.if-count-eq0.false) c.requires.few) (few_here (shape_of c.args.parts.now) h c.args.k c.args.first c.args.count _ (some_count c.args.count c.if-count-eq0.false) c.requires.few)
    (c.name_bitmap.ensures.before c.args.k (below_next c.args.k)) c.named.ensures.is (by_chunk (cases_eq (c.args.first / 2 ^ 23) c.args.chunk)) c.name_bitmap.ensures.named
  where
    by_chunk : (c.args.first / 2 ^ 23 ≡ c.args.chunk) ⊎ (c.args.first / 2 ^ 23 ≢ c.args.chunk) → (c.args.first / 2 ^ 23 ≡ c.args.chunk) ⊎ (c.named.result.bitmap ≡ (get_or c.args.plans.now c.args.k none_yet).bitmap)
    by_chunk (inl e) = inl e
    by_chunk (inr ne) = inr (c.named.ensures.other (ne_eqb _ _ ne))

pub returns-clause-word : goal.returns-clause-word
returns-clause-word t c =
    let h : HasSizes (shape_of c.args.parts.now) = record { sector = c.requires.sizes.sector; block = c.requires.sizes.block } in
    word_then (shape_of c.args.parts.now) c.args.chunk c.args.plans.now c.name_bitmap.new.plans c.args.k c.args.first c.args.count c.run_in_block-len.result c.args.word (get_or c.args.plans.now c.args.k none_yet) c.named.result
    (some_count c.args.count c.if-count-eq0.false) c.run_in_block-len.ensures.is
    (plan_here (shape_of c.args.parts.now) h c.args.plans.now c.args.k c.args.first c.args.count none_yet (some_count c.args.count c.if-count-eq0.false) c.requires.few) (few_here (shape_of c.args.parts.now) h c.args.k c.args.first c.args.count _ (some_count c.args.count c.if-count-eq0.false) c.requires.few)
    (c.name_bitmap.ensures.before c.args.k (below_next c.args.k)) c.named.ensures.is (λ e. c.named.ensures.named (eq-eqb _ _ e)) c.name_bitmap.ensures.word

pub returns-clause-before : goal.returns-clause-before
returns-clause-before t c i l = c.name_bitmap.ensures.before i (omega (arith, l)) ∙ set_beside c.args.plans.now c.args.k i c.named.result l

pub name_bitmap-requires : goal.name_bitmap-requires
name_bitmap-requires t c =
    let h : HasSizes (shape_of c.args.parts.now) = record { sector = c.requires.sizes.sector; block = c.requires.sizes.block } in
    let few = few_rest (shape_of c.args.parts.now) h c.args.k c.args.first c.args.count c.run_in_block-len.result _ (some_count c.args.count c.if-count-eq0.false) c.run_in_block-len.ensures.is c.requires.few in
    (omega arith, (c.requires.sizes, (rest_on c.args.first c.run_in_block-len.result c.args.count c.args.parts.now.sectors c.run_in_block-len.ensures.most c.requires.on_disk, few_set c.args.plans.now c.args.k c.named.result _ few)))

pub returns-clause-len : goal.returns-clause-len
returns-clause-len t c = c.name_bitmap.ensures.len ∙ length-set c.args.plans.now c.args.k c.named.result

pub run_in_block-len-requires-clause-parts : goal.run_in_block-len-requires-clause-parts
run_in_block-len-requires-clause-parts t c = c.requires.sizes

pub run_in_block-len-requires-clause-first : goal.run_in_block-len-requires-clause-first
run_in_block-len-requires-clause-first t c = first_below c.args.first c.args.count _ (some_count c.args.count c.if-count-eq0.false) c.requires.on_disk

pub run_in_block-len-requires-clause-count : goal.run_in_block-len-requires-clause-count
run_in_block-len-requires-clause-count t c = some_count c.args.count c.if-count-eq0.false

pub overflow_add-first : goal.overflow_add-first
overflow_add-first t c = end_fits c.args.parts.now c.requires.sizes c.args.first c.run_in_block-len.result (part_on c.args.first c.run_in_block-len.result c.args.count c.args.parts.now.sectors c.run_in_block-len.ensures.most c.requires.on_disk)

pub overflow_sub-count : goal.overflow_sub-count
overflow_sub-count t c = c.run_in_block-len.ensures.most

pub bounds-plans-k : goal.bounds-plans-k
bounds-plans-k t c = few_here (shape_of c.args.parts.now) (record { sector = c.requires.sizes.sector; block = c.requires.sizes.block }) c.args.k c.args.first c.args.count _ (some_count c.args.count c.if-count-eq0.false) c.requires.few
