use Rattle.std.proofs.Common.{◌≡◌, ◌*◌, ◌≤◌, take}
use Rattle.std.specs.List.{sum}
use Rattle.load_calls.proofs.one_thread.sum_of.Given as goal

abbrev pub invariant-loop-byte : goal.invariant-loop-byte
invariant-loop-byte l = record { sum : l.sum ≡ sum (take l.byte-index l.bytes); most : l.sum ≤ 255 * l.byte-index }
