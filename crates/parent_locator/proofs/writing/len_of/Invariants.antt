use Rattle.std.proofs.Common.{◌≡◌, ◌+◌, ◌-◌, ◌^◌, ◌≤◌, min, drop, sum_by}
use Rattle.vhdx_format.specs.Locators.{locator_len, pair_len}
use Rattle.parent_locator.proofs.writing.len_of.Given as goal

-- the length so far and that of the pairs that are left are the whole, where a number holds it
abbrev pub invariant-loop-pair : goal.invariant-loop-pair
invariant-loop-pair l =
    record {
      told : min (l.len + sum_by pair_len (drop l.pair-index l.pairs)) (2 ^ 64 - 1) ≡ min (locator_len l.pairs) (2 ^ 64 - 1);
      fits : l.len ≤ 2 ^ 64 - 1;
    }
