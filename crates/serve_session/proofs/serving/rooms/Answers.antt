use Rattle.std.proofs.Common.{◌≡◌, ◌∷◌, ◌++◌, [], ap, length, length-append, arith}
use Rattle.std.proofs.lemmas.List.Elements.{All-push, All-same}
use Rattle.serve_session.proofs.serving.rooms.Goals as goal

pub loop-preserved : goal.loop-preserved
loop-preserved c = record {
  count = omega (arith, ap length c.in_ok-push.ensures.items, length-append c.loop.rooms.items (c.in_ok-room.field-0 ∷ []), c.loop.invariant.count);
  each = All-same (λ room. length room.items ≡ 1048576) c.push.new.self.items (c.loop.rooms.items ++ c.in_ok-room.field-0 ∷ []) c.in_ok-push.ensures.items
      (All-push (λ room. length room.items ≡ 1048576) c.loop.rooms.items c.in_ok-room.field-0 c.loop.invariant.each c.in_ok-room.ensures);
}
