use Rattle.std.proofs.Common.{◌≡◌, ◌*◌, ◌^◌, ◌≤◌, length, take}
use Rattle.guest_model.specs.Calls.{Disk}
use Rattle.load_calls.specs.OneThread.{AreFirsts, Leaves}
use Rattle.load_calls.proofs.one_thread.run.Given as goal

abbrev pub invariant-loop-line : goal.invariant-loop-line
invariant-loop-line l = record {
  len : length l.firsts ≡ length l.initial.firsts;
  left : (disk : Disk) → AreFirsts l.initial.firsts disk → Leaves (take l.line-index l.lines) l.firsts l.seen disk;
  most : l.seen ≤ 2 ^ 25 * l.line-index;
}
