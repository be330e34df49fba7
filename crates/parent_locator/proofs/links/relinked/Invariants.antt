use Rattle.std.proofs.Common.{◌≡◌, ◌++◌, drop}
use Rattle.parent_locator.proofs.Linking.{kept_rest}
use Rattle.parent_locator.proofs.links.relinked.Given as goal

-- what is kept of the pairs so far and of those that are left is all that is kept
abbrev pub invariant-loop-pair : goal.invariant-loop-pair
invariant-loop-pair l = l.out ++ kept_rest l.id l.name (drop l.pair-index l.pairs) ≡ kept_rest l.id l.name l.pairs
