use Rattle.std.proofs.Common.{◌≡◌, List, not, [], ◌∷◌, ◌++◌, ap, sym, ◌∙◌}
use Rattle.std.specs.Prelude.{is_some, codes}
use Rattle.vhdx_format.specs.declared.locator.Pair.{Pair}
use Rattle.vhdx_format.specs.Locators.{value_at}
use Rattle.vhdx_format.specs.Relinking as relinking
use Rattle.parent_locator.specs.LinkEdits.{path_pair}
use Rattle.parent_locator.proofs.Linking.{kept_rest, some_mapped, step_kept, none_kept, kept_there, kept_added}
use Rattle.parent_locator.proofs.links.relinked.Goals as goal
use Rattle.parent_locator.proofs.links.relinked.Goals.{then-is_none+in_ok-push_path, else-is_none}

pub loop-pair-preserved : goal.loop-pair-preserved
loop-pair-preserved c =
    step_kept c.args.id.now c.args.name.now c.loop-pair.out c.push_relinked.new.out c.as_slice-pairs.result.now (kept_rest c.args.id.now c.args.name.now c.as_slice-pairs.result.now)
    c.loop-pair.pair-index c.pair-item.result c.loop-pair-test.true c.pair-item.is c.in_ok-push_relinked.ensures c.loop-pair.invariant

pub returns : goal.returns
returns c =
    let done : c.loop-pair.out ≡ kept_rest c.args.id.now c.args.name.now c.as_slice-pairs.result.now =
    none_kept c.args.id.now c.args.name.now c.loop-pair.out c.as_slice-pairs.result.now (kept_rest c.args.id.now c.args.name.now c.as_slice-pairs.result.now)
    c.loop-pair.pair-index c.loop-pair-test.false c.loop-pair.invariant in
    let found : is_some (value_at (codes "relative_path") c.as_slice-pairs.result.now) ≡ not c.is_none.result =
    sym (ap is_some c.value_at.ensures) ∙ some_mapped (λ value. value.now) c.value_at.result ∙ c.is_none.ensures in
    elim c.if-is_none.branch [
      | then-is_none+in_ok-push_path w ↦
          w.out-is ∙ w.in_ok-push_path.ensures.pushed ∙ ap (λ (ps : List Pair). ps ++ path_pair c.args.name.now ∷ []) done
          ∙ kept_added c.args.id.now c.args.name.now c.as_slice-pairs.result.now (found ∙ ap not w.if-is_none.true)
          ∙ ap (relinking.relinked c.args.id.now c.args.name.now) c.as_slice-pairs.ensures
      | else-is_none w ↦
          w.out-is ∙ done ∙ kept_there c.args.id.now c.args.name.now c.as_slice-pairs.result.now (found ∙ ap not w.if-is_none.false)
          ∙ ap (relinking.relinked c.args.id.now c.args.name.now) c.as_slice-pairs.ensures
    ]
