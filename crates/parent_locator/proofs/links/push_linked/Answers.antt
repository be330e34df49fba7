use Rattle.std.proofs.Common.{◌≡◌, List, [], ◌∷◌, ◌++◌, ap, sym, ◌∙◌, append_assoc}
use Rattle.vhdx_format.specs.declared.locator.Pair.{Pair}
use Rattle.parent_locator.specs.LinkEdits.{added_behind, linked_pair, second_pair}
use Rattle.parent_locator.proofs.Linking.{second_added}
use Rattle.parent_locator.proofs.links.push_linked.Goals as goal

pub returns-then-has_key-clause-pushed : goal.returns-then-has_key-clause-pushed
returns-then-has_key-clause-pushed c =
    let added : added_behind c.args.new.now c.args.is_missing c.args.pair.now ≡ second_pair c.args.new.now ∷ [] =
    second_added c.args.new.now c.args.is_missing c.args.pair.now c.if-is_missing.true (sym c.has_key.ensures ∙ c.if-has_key.true) in
    c.in_ok-push_id.ensures
    ∙ ap (λ (z : List Pair). z ++ second_pair c.args.new.now ∷ []) c.in_ok-push_changed.ensures
    ∙ append_assoc c.args.out.now (linked_pair c.args.found.now c.args.new.now c.args.pair.now ∷ []) (second_pair c.args.new.now ∷ [])
    ∙ ap (λ (z : List Pair). c.args.out.now ++ linked_pair c.args.found.now c.args.new.now c.args.pair.now ∷ z) (sym added)
