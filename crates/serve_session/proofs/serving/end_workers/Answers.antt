use Rattle.std.proofs.Common.{◌≡◌, ◌+◌, ◌∷◌, [], ap, length, length-append, subst, ◌∙◌, arith}
use Rattle.std.specs.Prelude.{IfSome}
use Rattle.std.proofs.lemmas.List.Elements.{All-pop}
use Rattle.turn_lock.specs.Histories.{StartsWith}
use Rattle.turn_lock.specs.Seats.{together_of}
use Rattle.shared_chain.specs.Bases.{Contains, together}
use Rattle.read_plan.specs.Reading.{has_failed}
use Rattle.serve_session.specs.Back.{any_failed}
use Rattle.serve_session.specs.Lists.{HasDone}
use Rattle.serve_session.proofs.Back.{any_sat, sat_some}
use Rattle.serve_session.proofs.Joining.{join_more, one_joins}
use Rattle.serve_session.proofs.serving.end_workers.Goals as goal

pub join-requires-clause-own : goal.join-requires-clause-own
join-requires-clause-own g c =
    let left = All-pop (HasDone c.args.lock.now) c.loop-worker.workers.items c.pop.new.self.items c.pop.result c.pop.ensures.items c.loop-worker.invariant.done in
    let done = subst (λ o. IfSome o (HasDone c.args.lock.now)) c.in-Some.is left.1 in
    (c.loop-worker.invariant.free.0, ap (λ s. s.lock) c.end-seat.ensures.seats.0 ∙ done.free.0)

pub join-requires-clause-free : goal.join-requires-clause-free
join-requires-clause-free g c =
    let left = All-pop (HasDone c.args.lock.now) c.loop-worker.workers.items c.pop.new.self.items c.pop.result c.pop.ensures.items c.loop-worker.invariant.done in
    let done = subst (λ o. IfSome o (HasDone c.args.lock.now)) c.in-Some.is left.1 in
    (c.loop-worker.invariant.free.1, ap (λ s. s.turn) c.end-seat.ensures.seats.0 ∙ done.free.1)

pub loop-worker-preserved : goal.loop-worker-preserved
loop-worker-preserved g c =
    let i = c.loop-worker.invariant in
    let w = c.in-Some.worker in
    let left = All-pop (HasDone c.args.lock.now) c.loop-worker.workers.items c.pop.new.self.items c.pop.result c.pop.ensures.items i.done in
    let done = subst (λ o. IfSome o (HasDone c.args.lock.now)) c.in-Some.is left.1 in
    let popped : length c.loop-worker.workers.items ≡ length c.pop.new.self.items + 1 = ap length c.in-Some.ensures.items ∙ length-append c.pop.new.self.items (w ∷ []) in
    let met = subst (λ s. (c.join.new.first ≡ together_of together c.loop-worker.first s) × (StartsWith c.join.new.first.seen c.loop-worker.first.seen × StartsWith c.join.new.first.seen s.seen) × (Contains c.join.new.first.basis c.loop-worker.first.basis × Contains c.join.new.first.basis s.basis))
    c.end-seat.ensures.seats.0 (c.join.ensures.both, c.join.ensures.seen, c.join.ensures.basis) in
    let drawn : c.join.new.first.drawn ≡ c.loop-worker.first.drawn + w.seat.drawn = ap (λ s. s.drawn) met.0 in
    record {
      taken = i.taken + 1;
      count = omega (arith, popped, i.count);
      joined = one_joins c.args.lock.now c.args.first.now c.loop-worker.first c.join.new.first i.joined w done met.0 met.1 met.2;
      done = left.0;
      family = join_more c.args.first.now.family c.loop-worker.first.family c.join.new.first.family i.taken (i.taken + 1) i.family (ap (λ s. s.family) c.join.ensures.both) (omega arith);
      free = (ap (λ s. s.lock) c.join.ensures.both ∙ i.free.0, ap (λ s. s.turn) c.join.ensures.both ∙ i.free.1);
      leads = ap (λ s. s.family.is_first) c.join.ensures.both ∙ i.leads;
      same = λ none. absurd (omega (arith, none, i.count, popped));
      sets = omega (arith, i.sets, (let pushed : length c.push_reserved.new.self.items ≡ length c.loop-worker.back.items + 1 = ap length c.push_reserved.ensures.items ∙ length-append c.loop-worker.back.items (c.end-seat.result.2 ∷ []) in pushed));
      back = ap any_failed c.push_reserved.ensures.items
          ∙ any_sat (any_failed c.args.back.now.items) c.loop-worker.back.items c.end-seat.result.2 c.loop-worker.unfetched w.unfetched c.saturating_add-unfetched.result i.back (ap has_failed c.end-seat.ensures.readers ∙ done.failed) (sat_some c.loop-worker.unfetched c.end-seat.result.3 w.unfetched c.saturating_add-unfetched.result c.end-seat.ensures.unfetched c.saturating_add-unfetched.ensures);
      none = λ none. absurd (omega (arith, none));
      reserved = c.push_reserved.ensures.capacity ∙ i.reserved;
      first_ticket = ap (λ s. s.first_ticket) c.join.ensures.both ∙ i.first_ticket;
      drawn = omega (arith, drawn, done.drawn, i.drawn);
    }
