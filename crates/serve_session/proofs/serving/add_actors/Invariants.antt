use Rattle.std.proofs.Common.{◌≡◌, ◌+◌, All, length, vec_capacity}
use Rattle.serve_session.specs.Lists.{AreFresh, with_splits}
use Rattle.serve_session.specs.Sealing.{IsSetFor}
use Rattle.serve_session.proofs.serving.add_actors.Given as goal

-- an actor for each room that was taken
abbrev pub invariant-loop-room : goal.invariant-loop-room
invariant-loop-room g l = record {
  seat : l.first ≡ with_splits l.fn.first (length l.actors.items);
  fresh : AreFresh (IsSetFor g.S.Store.disk l.chain.value.first) l.fn.first (length l.fn.rooms.items) l.actors.items;
  sets : All (IsSetFor g.S.Store.disk l.chain.value.first) l.sets;
  many_sets : length l.sets + length l.actors.items ≡ length l.fn.sets;
  plans : length l.plans.items ≡ length l.rooms.items;
  count : length l.actors.items + length l.rooms.items ≡ length l.fn.rooms.items;
  each : All (λ room. length room.items ≡ 1048576) l.rooms.items;
  reserved : vec_capacity l.actors ≡ vec_capacity l.fn.actors;
}

abbrev pub decreases-loop-room : goal.decreases-loop-room
decreases-loop-room g l = length l.rooms.items
