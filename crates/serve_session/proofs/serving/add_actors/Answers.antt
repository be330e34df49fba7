use Rattle.std.proofs.Common.{Some, ◌≡◌, ◌+◌, ◌-◌, ◌∷◌, [], ap, length, length-append, sym, subst, ◌∙◌, arith}
use Rattle.std.specs.Prelude.{IfSome}
use Rattle.std.proofs.lemmas.List.Elements.{All-pop}
use Rattle.turn_lock.specs.Seats.{split_off}
use Rattle.serve_session.specs.Lists.{AreFresh}
use Rattle.serve_session.specs.Sealing.{IsSetFor}
use Rattle.serve_session.proofs.Joining.{fresh_snoc, split_more}
use Rattle.serve_session.proofs.serving.add_actors.Goals as goal

pub loop-room-preserved : goal.loop-room-preserved
loop-room-preserved g c =
    let i = c.loop-room.invariant in
    let P = IsSetFor g.S.Store.disk c.args.chain.now.value.first in
    let popped : length c.loop-room.rooms.items ≡ length c.pop.new.self.items + 1 = ap length c.in-Some.ensures.items ∙ length-append c.pop.new.self.items (c.in-Some.room ∷ []) in
    let pushed : length c.push_reserved.new.self.items ≡ length c.loop-room.actors.items + 1 = ap length c.push_reserved.ensures.items ∙ length-append c.loop-room.actors.items (c.new.result ∷ []) in
    let left = All-pop (λ room. length room.items ≡ 1048576) c.loop-room.rooms.items c.pop.new.self.items c.pop.result c.pop.ensures.items i.each in
    let taken = All-pop P c.loop-room.sets c.take.new.self (Some c.in-Some-take.readers) c.in-Some-take.ensures i.sets in
    let fewer_sets : length c.loop-room.sets ≡ length c.take.new.self + 1 = ap length c.in-Some-take.ensures ∙ length-append c.take.new.self (c.in-Some-take.readers ∷ []) in
    let fewer_plans : length c.loop-room.plans.items ≡ length c.pop-in-Some.new.self.items + 1 = ap length c.in-Some-pop.ensures.items ∙ length-append c.pop-in-Some.new.self.items (c.in-Some-pop.plan ∷ []) in
    let number : c.new.result.number ≡ length c.args.rooms.now.items - length c.loop-room.actors.items = c.new.ensures.1 ∙ omega (arith, c.len.ensures, c.pop.new.self.ok.0, i.count, popped) in
    record {
      seat = split_more c.args.first.now c.loop-room.first c.split-seat.new.seat (length c.loop-room.actors.items) (length c.push_reserved.new.self.items) i.seat c.split-seat.ensures.old pushed;
      fresh = subst (AreFresh P c.args.first.now (length c.args.rooms.now.items)) (sym c.push_reserved.ensures.items)
          (fresh_snoc P c.args.first.now (length c.args.rooms.now.items) c.loop-room.actors.items c.new.result i.fresh (record {
            seat = ap (λ x. x.seat) c.new.ensures.0 ∙ c.new-guest.ensures.0 ∙ c.split-seat.ensures.new ∙ ap split_off i.seat;
            number_is = number;
            guest = ap (λ x. x.number) c.new.ensures.0 ∙ c.new-guest.ensures.2 ∙ sym c.new.ensures.1 ∙ number;
            next = ap (λ x. x.next) c.new.ensures.0 ∙ c.new-guest.ensures.3;
            set = subst P (sym (ap (λ x. x.readers) c.new.ensures.0 ∙ c.new-guest.ensures.1)) taken.1;
            room = ap (λ r. length r.items) c.new.ensures.2 ∙ subst (λ o. IfSome o (λ room. length room.items ≡ 1048576)) c.in-Some.is left.1;
            told = c.new.ensures.3;
            unread = c.new.ensures.4;
            memory = c.new.ensures.5;
            tally = c.new.ensures.6;
          }));
      sets = taken.0;
      many_sets = omega (arith, fewer_sets, pushed, i.many_sets);
      plans = omega (arith, fewer_plans, popped, i.plans);
      count = omega (arith, popped, pushed, i.count);
      each = left.0;
      reserved = c.push_reserved.ensures.capacity ∙ i.reserved;
    }
