use Rattle.std.proofs.Common.{◌≡◌, All, false, length}
use Rattle.event_list.proofs.slots.empty_slots.Given as goal

abbrev pub invariant-loop : goal.invariant-loop
invariant-loop l = record {
  count : length l.pieces.items ≡ l.counter;
  empty : All (λ piece. piece.filled ≡ false) l.pieces.items;
}
