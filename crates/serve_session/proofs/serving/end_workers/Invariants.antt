use Rattle.std.proofs.Common.{◌≡◌, ◌+◌, ◌*◌, ◌^◌, ◌≤◌, All, ℕ, length, true, vec_capacity}
use Rattle.std.specs.Prelude.{◌||◌, nat_lt}
use Rattle.serve_session.specs.Back.{any_failed}
use Rattle.shared_chain.specs.Seats.{IsFree}
use Rattle.serve_session.specs.Lists.{HasDone, WorkersJoin}
use Rattle.serve_session.proofs.serving.end_workers.Given as goal

-- the seats of the workers that were taken are joined
abbrev pub invariant-loop-worker : goal.invariant-loop-worker
invariant-loop-worker g l = record {
  taken : ℕ;
  count : taken + length l.workers.items ≡ length l.fn.workers.items;
  joined : WorkersJoin l.fn.first l.first;
  done : All (HasDone l.lock) l.workers.items;
  family : l.first.family ≡ record (l.fn.first.family) { joins = l.fn.first.family.joins + taken };
  free : IsFree l.lock l.first;
  leads : l.first.family.is_first ≡ true;
  same : length l.fn.workers.items ≡ 0 → l.first ≡ l.fn.first;
  first_ticket : l.first.first_ticket ≡ l.fn.first.first_ticket;
  sets : length l.back.items ≡ length l.fn.back.items + taken;
  back : any_failed l.back.items ≡ (any_failed l.fn.back.items || nat_lt 0 l.unfetched);
  none : taken ≡ 0 → l.unfetched ≡ 0;
  reserved : vec_capacity l.back ≡ vec_capacity l.fn.back;
  drawn : l.first.drawn ≤ l.fn.first.drawn + 2 ^ 34 * taken;
}

abbrev pub decreases-loop-worker : goal.decreases-loop-worker
decreases-loop-worker g l = length l.workers.items
