use Rattle.std.proofs.Common.{◌≡◌, All, length}
use Rattle.serve_session.proofs.serving.rooms.Given as goal

abbrev pub invariant-loop : goal.invariant-loop
invariant-loop l = record {
  count : length l.rooms.items ≡ l.counter;
  each : All (λ room. length room.items ≡ 1048576) l.rooms.items;
}
