use Rattle.std.proofs.Common.{List, [], ◌∷◌, ◌++◌, ap, ◌∙◌}
use Rattle.std.specs.Prelude.{codes}
use Rattle.vhdx_format.specs.declared.locator.Pair.{Pair}
use Rattle.parent_locator.specs.LinkEdits.{id_pair, path_pair}
use Rattle.parent_locator.proofs.Paths.{child_short}
use Rattle.parent_locator.proofs.child.child_locator.Goals as goal

pub returns-clause-pairs : goal.returns-clause-pairs
returns-clause-pairs c =
    c.in_ok-push_path.ensures.pushed
    ∙ ap (λ (z : List Pair). z ++ path_pair c.args.parent.now ∷ []) (c.in_ok-push_id.ensures ∙ ap (λ (z : List Pair). z ++ id_pair (codes "parent_linkage") c.args.parent_id.now ∷ []) c.new-locator.ensures)

pub returns-clause-short : goal.returns-clause-short
returns-clause-short c = child_short c.args.parent_id.now c.args.parent.now c.push_path.new.out (returns-clause-pairs c) c.in_ok-push_path.ensures.short
