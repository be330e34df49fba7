use Rattle.std.proofs.Common.{◌+◌, ◌<◌, ◌≤◌, ◌-◌, arith, refl, sym, subst, ap, ◌∙◌, length}
use Rattle.table_pages.specs.Held.{shape_of}
use Rattle.layer_session.specs.Blocks as blocks
use Rattle.layer_session.specs.Planning.{nothing}
use Rattle.layer_session.specs.TablesRead.{AreReadable, HasRead}
use Rattle.store_model.specs.Disk.{Disk}
use Rattle.std.proofs.lemmas.List.{length-set}
use Rattle.std.specs.Prelude.{None, false}
use Rattle.layer_session.proofs.Counting.{set_beside, set_here}
use Rattle.layer_session.proofs.Looked.{counted_then, few_then, looked_none, looked_then, rest_few}
use Rattle.layer_session.proofs.Planned.{read_again, read_none, read_then}
use Rattle.layer_session.proofs.BitRuns.{few_rest}
use Rattle.layer_session.specs.ByTables.{WantsAtMost}
use Rattle.table_pages.specs.declared.tables.TableParts.{TableParts}
use Rattle.vhdx_format.specs.Layers.{HasSizes}
use Rattle.vx_base.proofs.Handed.{failed_for, not_if_ok, not_ok}
use Rattle.layer_session.proofs.Handing.{fails_on, few_rows}
use Rattle.layer_session.proofs.Known.{end_fits}
use Rattle.layer_session.proofs.RunsRead.{not_none, rest_rows, rest_smaller}
use Rattle.layer_session.proofs.Sectors.{first_below}
use Rattle.layer_session.proofs.planning.+look.Goals as goal

pub returns-then-count-eq0-clause-looked : goal.returns-then-count-eq0-clause-looked
returns-then-count-eq0-clause-looked g t c trace told = looked_none _ _ c.args.trims c.args.plans.now c.args.k c.args.first c.args.count c.if-count-eq0.true

pub with_plan-requires : goal.with_plan-requires
with_plan-requires g t c =
    let parts : TableParts = c.args.tables.now.parts in
    let h : HasSizes (shape_of parts) = record { sector = c.requires.readable.sizes.sector; block = c.requires.readable.sizes.block } in
    let len = c.run_in_block-len.result in
    let wants = subst (λ (p : TableParts). WantsAtMost (blocks.blocks_of (shape_of p) (c.args.first + len) (c.args.count - len)) c.in_ok-rest.rest) c.plan_of.ensures.reads.as_held.parts_are c.in_ok-rest.ensures.few in
    let few = few_rest (shape_of parts) h c.args.k c.args.first c.args.count len (length c.args.plans.now) (not_none c.args.count c.if-count-eq0.false) c.run_in_block-len.ensures.is c.requires.few in
    record { few = omega (arith, wants.0, wants.1, few, c.requires.room) }

pub look-requires : goal.look-requires
look-requires g t c κs within =
    let stays = c.in_ok-plan.ensures.stays in
    let parts = c.plan_of.ensures.reads.as_held.parts_are in (
      rest_smaller c.run_in_block-len.result c.args.count t c.decreases c.run_in_block-len.ensures.some c.run_in_block-len.ensures.most,
      (
        within.0,
        (
          within.1,
          (
            subst (AreReadable c.plan_of.new.tables) (sym stays) (read_again c.args.tables.now c.plan_of.new.tables (g.S.Store.disk c.args.store.now) c.requires.readable c.plan_of.ensures.reads),
            (
              subst (λ p. c.args.first + c.run_in_block-len.result + (c.args.count - c.run_in_block-len.result) ≤ p.sectors) (sym parts) (rest_rows c.args.first c.run_in_block-len.result c.args.count _ c.run_in_block-len.ensures.most c.requires.on_disk),
              (
                omega (
                  arith,
                  rest_few c.args.tables.now c.plan_of.new.tables (g.S.Store.disk c.args.store.now) c.requires.readable.sizes c.plan_of.ensures.reads c.args.first c.args.count c.run_in_block-len.result (not_none c.args.count c.if-count-eq0.false) c.run_in_block-len.ensures.is
                      (record { blocks = 0; bitmaps = 0; tables = false; chunk = None }) _ c.in_ok-plan.plan refl,
                  length-set c.args.plans.now c.args.k c.in_ok-plan.plan,
                  c.requires.few,
                ),
                omega (arith, length-set c.args.plans.now c.args.k c.in_ok-plan.plan, c.requires.room),
              ),
            ),
          ),
        ),
      ),
    )

pub returns-in_err-rest-clause-reads : goal.returns-in_err-rest-clause-reads
returns-in_err-rest-clause-reads g t c =
    read_then c.args.tables.now c.plan_of.new.tables c.look.new.tables (g.S.Store.disk c.args.store.now) c.plan_of.ensures.reads
    (subst (HasRead c.plan_of.new.tables c.look.new.tables) c.in_ok-plan.ensures.stays c.look.ensures.reads)

pub returns-clause-reads : goal.returns-clause-reads
returns-clause-reads g t c =
    read_then c.args.tables.now c.plan_of.new.tables c.look.new.tables (g.S.Store.disk c.args.store.now) c.plan_of.ensures.reads
    (subst (HasRead c.plan_of.new.tables c.look.new.tables) c.in_ok-plan.ensures.stays c.look.ensures.reads)

pub returns-in_err-rest-clause-before : goal.returns-in_err-rest-clause-before
returns-in_err-rest-clause-before g t c i l = c.look.ensures.before i (omega (arith, l)) ∙ set_beside c.args.plans.now c.args.k i c.in_ok-plan.plan l

pub returns-clause-before : goal.returns-clause-before
returns-clause-before g t c i l = c.look.ensures.before i (omega (arith, l)) ∙ set_beside c.args.plans.now c.args.k i c.in_ok-plan.plan l

pub returns-clause-few : goal.returns-clause-few
returns-clause-few g t c =
    few_then c.args.tables.now c.plan_of.new.tables (g.S.Store.disk c.args.store.now) c.requires.readable.sizes c.plan_of.ensures.reads c.args.first c.args.count c.run_in_block-len.result (not_none c.args.count c.if-count-eq0.false) c.run_in_block-len.ensures.is
    c.in_ok-rest.rest c.with_plan.result c.in_ok-plan.plan c.with_plan.ensures c.in_ok-rest.ensures.few.0 c.in_ok-rest.ensures.few.1

pub returns-clause-looked : goal.returns-clause-looked
returns-clause-looked g t c trace told =
    looked_then c.args.tables.now c.plan_of.new.tables (g.S.Store.disk c.args.store.now) c.requires.readable.sizes c.plan_of.ensures.reads c.args.first c.args.count c.run_in_block-len.result (not_none c.args.count c.if-count-eq0.false) c.run_in_block-len.ensures.is
    c.in_ok-rest.rest c.with_plan.result c.in_ok-plan.plan c.with_plan.ensures trace c.args.trims c.look.new.plans c.args.k c.requires.on_disk (c.in_ok-plan.ensures.planned trace told)
    (c.look.ensures.before c.args.k (omega arith) ∙ set_here c.args.plans.now c.args.k c.in_ok-plan.plan (omega (arith, c.requires.few, few_blocks)))
    (c.in_ok-rest.ensures.looked trace (ap (λ (d : Disk). d.told) c.in_ok-plan.ensures.stays ∙ told))
  where
    few_blocks : 0 < blocks.blocks_of (shape_of c.args.tables.now.parts) c.args.first c.args.count
    few_blocks =
        omega (
          arith,
          rest_few c.args.tables.now c.plan_of.new.tables (g.S.Store.disk c.args.store.now) c.requires.readable.sizes c.plan_of.ensures.reads c.args.first c.args.count c.run_in_block-len.result (not_none c.args.count c.if-count-eq0.false) c.run_in_block-len.ensures.is
              c.in_ok-rest.rest c.with_plan.result c.in_ok-plan.plan c.with_plan.ensures,
        )

pub returns-then-count-eq0-clause-counted : goal.returns-then-count-eq0-clause-counted
returns-then-count-eq0-clause-counted g t c = nothing c.args.k c.args.first c.args.count _ c.if-count-eq0.true refl

pub returns-clause-counted : goal.returns-clause-counted
returns-clause-counted g t c =
    counted_then c.args.tables.now c.plan_of.new.tables (g.S.Store.disk c.args.store.now) c.requires.readable.sizes c.plan_of.ensures.reads c.args.first c.args.count c.run_in_block-len.result (not_none c.args.count c.if-count-eq0.false) c.run_in_block-len.ensures.is
    c.in_ok-rest.rest c.with_plan.result c.in_ok-plan.plan c.with_plan.ensures c.look.new.plans c.args.k
    (c.look.ensures.before c.args.k (omega arith) ∙ set_here c.args.plans.now c.args.k c.in_ok-plan.plan (omega (arith, c.requires.few, few_blocks)))
    c.in_ok-rest.ensures.counted
  where
    few_blocks : 0 < blocks.blocks_of (shape_of c.args.tables.now.parts) c.args.first c.args.count
    few_blocks =
        omega (
          arith,
          rest_few c.args.tables.now c.plan_of.new.tables (g.S.Store.disk c.args.store.now) c.requires.readable.sizes c.plan_of.ensures.reads c.args.first c.args.count c.run_in_block-len.result (not_none c.args.count c.if-count-eq0.false) c.run_in_block-len.ensures.is
              c.in_ok-rest.rest c.with_plan.result c.in_ok-plan.plan c.with_plan.ensures,
        )

pub returns-then-count-eq0-clause-reads : goal.returns-then-count-eq0-clause-reads
returns-then-count-eq0-clause-reads g t c = read_none _ _ c.requires.readable

pub returns-then-count-eq0-clause-before : goal.returns-then-count-eq0-clause-before
returns-then-count-eq0-clause-before g t c = λ i below. refl

pub returns-then-count-eq0-clause-stays : goal.returns-then-count-eq0-clause-stays
returns-then-count-eq0-clause-stays g t c = refl

pub run_in_block-len-requires-clause-parts : goal.run_in_block-len-requires-clause-parts
run_in_block-len-requires-clause-parts g t c = c.requires.readable.sizes

pub plan_of-requires-clause-readable : goal.plan_of-requires-clause-readable
plan_of-requires-clause-readable g t c = c.requires.readable

pub returns-in_err-plan-clause-looked : goal.returns-in_err-plan-clause-looked
returns-in_err-plan-clause-looked g t c = not_if_ok c.from_residual.result c.in_err-plan.field-0.0 c.from_residual.ensures.1 _

pub returns-in_err-plan-clause-counted : goal.returns-in_err-plan-clause-counted
returns-in_err-plan-clause-counted g t c = not_if_ok c.from_residual.result c.in_err-plan.field-0.0 c.from_residual.ensures.1 _

pub returns-in_err-plan-clause-few : goal.returns-in_err-plan-clause-few
returns-in_err-plan-clause-few g t c = not_if_ok c.from_residual.result c.in_err-plan.field-0.0 c.from_residual.ensures.1 _

pub returns-in_err-plan-clause-stays : goal.returns-in_err-plan-clause-stays
returns-in_err-plan-clause-stays g t c = not_ok c.from_residual.result c.in_err-plan.field-0.0 c.from_residual.ensures.1 _

pub returns-in_err-rest-clause-looked : goal.returns-in_err-rest-clause-looked
returns-in_err-rest-clause-looked g t c = not_if_ok c.from_residual-in_err-rest.result c.in_err-rest.field-0.0 c.from_residual-in_err-rest.ensures.1 _

pub returns-in_err-rest-clause-counted : goal.returns-in_err-rest-clause-counted
returns-in_err-rest-clause-counted g t c = not_if_ok c.from_residual-in_err-rest.result c.in_err-rest.field-0.0 c.from_residual-in_err-rest.ensures.1 _

pub returns-in_err-rest-clause-few : goal.returns-in_err-rest-clause-few
returns-in_err-rest-clause-few g t c = not_if_ok c.from_residual-in_err-rest.result c.in_err-rest.field-0.0 c.from_residual-in_err-rest.ensures.1 _

pub returns-in_err-rest-clause-stays : goal.returns-in_err-rest-clause-stays
returns-in_err-rest-clause-stays g t c = not_ok c.from_residual-in_err-rest.result c.in_err-rest.field-0.0 c.from_residual-in_err-rest.ensures.1 _

pub returns-in_err-plan-clause-before : goal.returns-in_err-plan-clause-before
returns-in_err-plan-clause-before g t c = λ i below. refl

pub returns-in_err-plan-clause-reads : goal.returns-in_err-plan-clause-reads
returns-in_err-plan-clause-reads g t c = c.plan_of.ensures.reads

pub returns-in_err-plan-clause-err : goal.returns-in_err-plan-clause-err
returns-in_err-plan-clause-err g t c = failed_for c.from_residual.result c.in_err-plan.field-0.0 c.from_residual.ensures.1 _ c.in_err-plan.ensures.err

pub returns-in_err-rest-clause-err : goal.returns-in_err-rest-clause-err
returns-in_err-rest-clause-err g t c = failed_for c.from_residual-in_err-rest.result c.in_err-rest.field-0.0 c.from_residual-in_err-rest.ensures.1 _ (fails_on c.args.tables.now.parts.file c.plan_of.new.tables.parts.file (g.S.Store.disk c.args.store.now) (g.S.Store.disk c.plan_of.new.store) (g.S.Store.disk c.look.new.store) c.in_err-rest.field-0.0 c.in_ok-plan.ensures.stays (ap (λ (p : TableParts). p.file) c.plan_of.ensures.reads.as_held.parts_are) c.in_err-rest.ensures.err)

pub overflow_sub-count : goal.overflow_sub-count
overflow_sub-count g t c = c.run_in_block-len.ensures.most

pub returns-clause-stays : goal.returns-clause-stays
returns-clause-stays g t c = c.in_ok-rest.ensures.stays ∙ c.in_ok-plan.ensures.stays

pub plan_of-requires-clause-some : goal.plan_of-requires-clause-some
plan_of-requires-clause-some g t c = c.run_in_block-len.ensures.some

pub plan_of-requires-clause-block : goal.plan_of-requires-clause-block
plan_of-requires-clause-block g t c = record {
  on_disk = few_rows c.args.first c.run_in_block-len.result c.args.count _ c.run_in_block-len.ensures.most c.requires.on_disk;
  run = c.run_in_block-len.ensures.inside;
}

pub run_in_block-len-requires-clause-count : goal.run_in_block-len-requires-clause-count
run_in_block-len-requires-clause-count g t c = not_none c.args.count c.if-count-eq0.false

pub run_in_block-len-requires-clause-first : goal.run_in_block-len-requires-clause-first
run_in_block-len-requires-clause-first g t c = first_below c.args.first c.args.count c.args.tables.now.parts.sectors (not_none c.args.count c.if-count-eq0.false) c.requires.on_disk

pub overflow_add-first : goal.overflow_add-first
overflow_add-first g t c = end_fits c.args.tables.now.parts c.requires.readable.sizes c.args.first c.run_in_block-len.result (few_rows c.args.first c.run_in_block-len.result c.args.count _ c.run_in_block-len.ensures.most c.requires.on_disk)

pub returns-clause-err : goal.returns-clause-err
returns-clause-err g t c = tt

pub returns-then-count-eq0-clause-err : goal.returns-then-count-eq0-clause-err
returns-then-count-eq0-clause-err g t c = tt
