use Rattle.std.proofs.Common.{◌≡◌, ◌+◌, ◌++◌, ◌∷◌, [], ap, false, length, length-append, map, sym, subst, ◌∙◌, arith}
use Rattle.std.specs.Prelude.{◌||◌, nat_lt}
use Rattle.turn_lock.specs.Seats.{together_of}
use Rattle.shared_chain.specs.Bases.{together}
use Rattle.serve_session.specs.Actors.{HasHeard, HasRun}
use Rattle.serve_session.specs.Served.{asked_by}
use Rattle.serve_session.specs.Written.{AreKept}
use Rattle.serve_session.specs.Back.{any_failed}
use Rattle.read_plan.specs.Reading.{has_failed}
use Rattle.serve_session.specs.Lists.{AreActors}
use Rattle.serve_session.proofs.Back.{any_more}
use Rattle.serve_session.proofs.Guests.{all_unread_count, calls_few}
use Rattle.serve_session.specs.Tallies.{AddsUp, all_outcomes}
use Rattle.serve_session.proofs.Joining.{few_told_of, few_unread, join_more, last_actor, one_kept, run_hears}
use Rattle.serve_session.proofs.Tallies.{all_outcomes_snoc, both_add}
use Rattle.serve_session.proofs.serving.end_actors.Goals as goal
use Rattle.serve_session.proofs.serving.end_actors.Goals.{then-is_short, else-is_short}

pub join_guest-requires-clause-own : goal.join_guest-requires-clause-own
join_guest-requires-clause-own g c = c.loop-actor.invariant.joined.free

pub join_guest-requires-clause-free : goal.join_guest-requires-clause-free
join_guest-requires-clause-free g c =
    let P = HasRun g.S.Store.disk c.args.chain.now.value.first c.args.lock.now (map g.N.AsStr.text c.args.names.now) c.args.lines.now in
    let n = length c.args.actors.now.items in
    let last = last_actor g.S.Store.disk c.args.chain.now.value.first c.args.lock.now (map g.N.AsStr.text c.args.names.now) c.args.lines.now P n c.pop.new.self.items c.in-Some.actor (subst (AreActors P n) c.in-Some.ensures.items c.loop-actor.invariant.left) in
    (ap (λ s. s.lock) c.end-seat.ensures.0 ∙ last.2.free.0, ap (λ s. s.turn) c.end-seat.ensures.0 ∙ last.2.free.1)

pub overflow_add-unread : goal.overflow_add-unread
overflow_add-unread g c =
    let disk = g.S.Store.disk in
    let first = c.args.chain.now.value.first in
    let names = map g.N.AsStr.text c.args.names.now in
    let P = HasRun disk first c.args.lock.now names c.args.lines.now in
    let i = c.loop-actor.invariant in
    let last = last_actor disk first c.args.lock.now names c.args.lines.now P (length c.args.actors.now.items) c.pop.new.self.items c.in-Some.actor (subst (AreActors P (length c.args.actors.now.items)) c.in-Some.ensures.items i.left) in
    omega (arith, i.unread, i.few_unread, i.count, c.requires.guests, c.requires.few, c.end-seat.ensures.2, last.2.unread, few_unread disk first c.args.lock.now names c.args.lines.now c.in-Some.actor last.2)

pub loop-actor-preserved : goal.loop-actor-preserved
loop-actor-preserved g c =
    let disk = g.S.Store.disk in
    let names = map g.N.AsStr.text c.args.names.now in
    let P = HasRun disk c.args.chain.now.value.first c.args.lock.now names c.args.lines.now in
    let n = length c.args.actors.now.items in
    let i = c.loop-actor.invariant in
    let a = c.in-Some.actor in
    let last = last_actor disk c.args.chain.now.value.first c.args.lock.now names c.args.lines.now P n c.pop.new.self.items a (subst (AreActors P n) c.in-Some.ensures.items i.left) in
    let popped : length c.loop-actor.actors.items ≡ length c.pop.new.self.items + 1 = ap length c.in-Some.ensures.items ∙ length-append c.pop.new.self.items (a ∷ []) in
    let outcomes = last.2.outcomes in
    let more : length (i.guests ++ outcomes ∷ []) ≡ length i.guests + 1 = length-append i.guests (outcomes ∷ []) in
    let both = subst (λ s. c.join_guest.new.first ≡ together_of together c.loop-actor.first s) c.end-seat.ensures.0 c.join_guest.ensures.both in
    let pushed : length c.push_reserved.new.self.items ≡ length c.loop-actor.back.items + 1 = ap length c.push_reserved.ensures.items ∙ length-append c.loop-actor.back.items (c.end-seat.result.1 ∷ []) in
    let told = c.push_reserved-in-Some.ensures.items ∙ ap (λ t. c.loop-actor.told.items ++ t ∷ []) (c.from_vec.ensures ∙ ap (λ v. v.items) c.end-seat.ensures.1) in
    let short : c.if-is_short.is_short ≡ (c.loop-actor.is_short || a.is_short) = elim c.if-is_short.branch [
      | then-is_short w ↦ w.is_short-is ∙ w.if-is_short.true ∙ sym (ap (λ b. b || a.is_short) w.if-is_short.true)
      | else-is_short w ↦ w.is_short-is ∙ c.end-seat.ensures.3 ∙ sym (ap (λ b. b || a.is_short) w.if-is_short.false)
    ] in
    let unread_now = all_unread_count i.guests outcomes in
    let unread_most = few_unread disk c.args.chain.now.value.first c.args.lock.now names c.args.lines.now a last.2 in
    let outcomes_now = all_outcomes_snoc i.guests outcomes in
    let outcomes_few = few_told_of disk c.args.chain.now.value.first c.args.lock.now names c.args.lines.now a last.2 in
    let length_now : length (all_outcomes (i.guests ++ outcomes ∷ [])) ≡ length (all_outcomes i.guests) + length outcomes = ap length outcomes_now ∙ length-append (all_outcomes i.guests) outcomes in
    let drawn : c.join_guest.new.first.drawn ≡ c.loop-actor.first.drawn + a.guest.seat.drawn = ap (λ s. s.drawn) both in
    let number : a.number ≡ 1 + length i.guests = last.1 ∙ omega (arith, i.count, popped) in
    let hears = run_hears disk c.args.chain.now.value.first c.args.lock.now names c.args.lines.now (1 + length i.guests) a last.2 number in
    let words = one_kept disk c.args.chain.now.value.first c.args.lock.now names c.args.lines.now c.loop-actor.told.items c.loop-actor.is_short i.guests i.words a last.2 number in
    record {
      guests = i.guests ++ outcomes ∷ [];
      joined = c.join_guest.ensures.joined (asked_by c.args.lines.now) i.guests outcomes i.joined
          (subst (λ s. HasHeard disk c.args.chain.now.value.first false (1 + length i.guests) ((asked_by c.args.lines.now).calls (1 + length i.guests)) s outcomes) (sym c.end-seat.ensures.0) hears);
      words = subst (λ t. AreKept names c.args.lines.now t c.if-is_short.is_short (i.guests ++ outcomes ∷ [])) (sym told)
          (subst (λ b. AreKept names c.args.lines.now (c.loop-actor.told.items ++ a.told.items ∷ []) b (i.guests ++ outcomes ∷ [])) (sym short) words);
      left = last.0;
      count = omega (arith, more, i.count, popped);
      unread = omega (arith, i.unread, c.end-seat.ensures.2, last.2.unread, unread_now);
      tally = subst (AddsUp c.and-tally.result) (sym outcomes_now)
          (both_add (all_outcomes i.guests) outcomes c.loop-actor.tally c.end-seat.result.2.tally c.and-tally.result i.tally (subst (λ t. AddsUp t outcomes) (sym c.end-seat.ensures.5) last.2.tally)
          (omega (arith, i.few_outcomes, i.count, c.requires.guests, outcomes_few, c.requires.few)) c.and-tally.ensures.seen c.and-tally.ensures.refused);
      few_outcomes = omega (arith, i.few_outcomes, length_now, outcomes_few, c.requires.few, more);
      few_unread = omega (arith, i.few_unread, unread_now, unread_most, c.requires.few, more);
      family = join_more c.args.first.now.family c.loop-actor.first.family c.join_guest.new.first.family (length i.guests) (length (i.guests ++ outcomes ∷ [])) i.family (ap (λ s. s.family) c.join_guest.ensures.both) more;
      first_ticket = ap (λ s. s.first_ticket) c.join_guest.ensures.both ∙ i.first_ticket;
      drawn = omega (arith, drawn, last.2.hears.drawn, calls_few a.number c.args.lines.now, c.requires.few, more, i.drawn);
      reserved = c.push_reserved-in-Some.ensures.capacity ∙ i.reserved;
      back = ap any_failed c.push_reserved.ensures.items
          ∙ any_more c.loop-actor.back.items c.end-seat.result.1 c.loop-actor.unread c.end-seat.result.2.unread i.back (ap has_failed c.end-seat.ensures.4 ∙ last.2.readers.failed ∙ ap (nat_lt 0) (sym (c.end-seat.ensures.2 ∙ last.2.unread)));
      sets = omega (arith, pushed, more, i.sets);
      reserved_back = c.push_reserved.ensures.capacity ∙ i.reserved_back;
    }

pub returns-clause-few : goal.returns-clause-few
returns-clause-few g c =
    let i = c.loop-actor.invariant in
    omega (arith, i.unread, i.few_unread, i.count, c.requires.guests)
