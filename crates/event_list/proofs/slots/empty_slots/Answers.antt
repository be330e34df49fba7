use Rattle.std.proofs.Common.{◌≡◌, ◌∷◌, ◌++◌, [], ap, false, length, length-append, arith}
use Rattle.std.proofs.lemmas.List.Elements.{All-push, All-same}
use Rattle.event_list.proofs.slots.empty_slots.Goals as goal

pub loop-preserved : goal.loop-preserved
loop-preserved c = record {
  count = omega (arith, ap length c.in_ok-push.ensures.items, length-append c.loop.pieces.items (c.in_ok-new.field-0 ∷ []), c.loop.invariant.count);
  empty = All-same (λ piece. piece.filled ≡ false) c.push.new.self.items (c.loop.pieces.items ++ c.in_ok-new.field-0 ∷ []) c.in_ok-push.ensures.items
      (All-push (λ piece. piece.filled ≡ false) c.loop.pieces.items c.in_ok-new.field-0 c.loop.invariant.empty c.in_ok-new.ensures);
}
