use Rattle.std.proofs.Common.{◌≡◌, ◌++◌, drop}
use Rattle.vhdx_format.specs.Relinking.{linked_twice}
use Rattle.parent_locator.proofs.Linking.{linked_rest}
use Rattle.parent_locator.proofs.links.with_both_linkages.Given as goal

-- the pairs so far and what stands for those that are left are all
abbrev pub invariant-loop-pair : goal.invariant-loop-pair
invariant-loop-pair l = l.out ++ linked_rest l.found l.new l.is_missing (drop l.pair-index l.pairs) ≡ linked_twice l.found l.new l.pairs
