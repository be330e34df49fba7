use Rattle.std.proofs.Common.{List, ◌++◌, ap, sym, ◌∙◌}
use Rattle.std.specs.Prelude.{is_some}
use Rattle.vhdx_format.specs.declared.locator.Pair.{Pair}
use Rattle.vhdx_format.specs.Relinking.{linked_twice}
use Rattle.parent_locator.proofs.Linking.{linked_rest, some_mapped, all_linked, step_linked, none_linked}
use Rattle.parent_locator.proofs.links.with_both_linkages.Goals as goal

pub loop-pair-init : goal.loop-pair-init
loop-pair-init c =
    ap (λ (ps : List Pair). ps ++ linked_rest c.args.found.now c.args.new.now c.is_none-is_missing.result c.as_slice-pairs.result.now) c.new-out.ensures
    ∙ all_linked c.args.found.now c.args.new.now c.is_none-is_missing.result c.as_slice-pairs.result.now
    (sym (ap is_some c.value_at.ensures) ∙ some_mapped (λ value. value.now) c.value_at.result ∙ c.is_none-is_missing.ensures)

pub loop-pair-preserved : goal.loop-pair-preserved
loop-pair-preserved c =
    step_linked c.args.found.now c.args.new.now c.loop-pair.is_missing c.in_ok-is_missing.is_missing c.loop-pair.out c.push_linked.new.out c.as_slice-pairs.result.now
    (linked_twice c.args.found.now c.args.new.now c.as_slice-pairs.result.now) c.loop-pair.pair-index c.pair-item.result c.loop-pair-test.true c.pair-item.is
    c.in_ok-is_missing.ensures.pushed c.in_ok-is_missing.ensures.missing c.loop-pair.invariant

pub returns : goal.returns
returns c =
    none_linked c.args.found.now c.args.new.now c.loop-pair.is_missing c.loop-pair.out c.as_slice-pairs.result.now
    (linked_twice c.args.found.now c.args.new.now c.as_slice-pairs.result.now) c.loop-pair.pair-index c.loop-pair-test.false c.loop-pair.invariant
    ∙ ap (linked_twice c.args.found.now c.args.new.now) c.as_slice-pairs.ensures
