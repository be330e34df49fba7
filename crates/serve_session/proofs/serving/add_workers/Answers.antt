use Rattle.std.proofs.Common.{◌≡◌, ◌+◌, ◌∷◌, ◌++◌, Some, [], ap, length, length-append, subst, sym, ◌∙◌, arith}
use Rattle.std.specs.Prelude.{IfSome, nat_lt}
use Rattle.std.proofs.lemmas.List.Elements.{All-pop, All-push, All-same}
use Rattle.read_plan.specs.Reading.{has_failed}
use Rattle.turn_lock.specs.Seats.{split_off}
use Rattle.copy_workers.specs.Sources.{HasSource}
use Rattle.serve_session.specs.Lists.{IsFreshWorker}
use Rattle.serve_session.specs.Sealing.{IsSetFor}
use Rattle.serve_session.specs.Tools.{AreToolsFor}
use Rattle.serve_session.proofs.Joining.{split_more}
use Rattle.serve_session.proofs.serving.add_workers.Goals as goal

pub loop-one-preserved : goal.loop-one-preserved
loop-one-preserved g c =
    let i = c.loop-one.invariant in
    let disk = g.S.Store.disk in
    let first = c.args.chain.now.value.first in
    let P = IsSetFor disk first in
    let F = IsFreshWorker disk c.args.first.now c.args.claims.now in
    let popped : length c.loop-one.tools.items ≡ length c.pop.new.self.items + 1 = ap length c.in-Some.ensures.items ∙ length-append c.pop.new.self.items (c.in-Some.one ∷ []) in
    let pushed : length c.push_reserved.new.self.items ≡ length c.loop-one.workers.items + 1 = ap length c.push_reserved.ensures.items ∙ length-append c.loop-one.workers.items (c.new.result ∷ []) in
    let left = All-pop (AreToolsFor disk first) c.loop-one.tools.items c.pop.new.self.items c.pop.result c.pop.ensures.items i.tools in
    let own = subst (λ o. IfSome o (AreToolsFor disk first)) c.in-Some.is left.1 in
    let taken = All-pop P c.loop-one.sets c.take.new.self (Some c.in-Some-take.readers) c.in-Some-take.ensures i.sets in
    let fewer_sets : length c.loop-one.sets ≡ length c.take.new.self + 1 = ap length c.in-Some-take.ensures ∙ length-append c.take.new.self (c.in-Some-take.readers ∷ []) in
    let seat_is = c.split-seat.ensures.new ∙ ap split_off i.seat in
    record {
      seat = split_more c.args.first.now c.loop-one.first c.split-seat.new.seat (length c.loop-one.workers.items) (length c.push_reserved.new.self.items) i.seat c.split-seat.ensures.old pushed;
      fresh = All-same F c.push_reserved.new.self.items (c.loop-one.workers.items ++ c.new.result ∷ []) c.push_reserved.ensures.items
          (All-push F c.loop-one.workers.items c.new.result i.fresh (record {
            seat = c.new.ensures.seats.0 ∙ seat_is;
            counter = ap (λ x. x.counter) c.new.ensures.seats.1 ∙ ap (λ x. x.counter) c.split-own.ensures.new ∙ i.counter;
            source = subst (λ s. HasSource disk s.basis c.new.result.reads) (sym c.new.ensures.seats.0)
                (c.new.ensures.source first (ap (λ s. s.basis.first) seat_is ∙ c.requires.knows) taken.1.own own);
            failed = ap has_failed c.new.ensures.readers ∙ taken.1.failed ∙ ap (nat_lt 0) (sym c.new.ensures.unfetched);
          }));
      count = omega (arith, popped, pushed, i.count);
      counter = ap (λ x. x.counter) c.split-own.ensures.old ∙ i.counter;
      leads = ap (λ x. x.family.is_first) c.split-own.ensures.old ∙ i.leads;
      splits = ap (λ x. x.family.splits) c.split-own.ensures.old ∙ ap (λ n. n + 1) i.splits ∙ sym pushed;
      sets = taken.0;
      many_sets = omega (arith, fewer_sets, pushed, i.many_sets);
      tools = left.0;
      reserved = c.push_reserved.ensures.capacity ∙ i.reserved;
    }
