use Rattle.std.proofs.Common.{◌≡◌, ◌+◌, All, length, true, vec_capacity}
use Rattle.serve_session.specs.Lists.{IsFreshWorker, with_splits}
use Rattle.serve_session.specs.Sealing.{IsSetFor}
use Rattle.serve_session.specs.Tools.{AreToolsFor}
use Rattle.serve_session.proofs.serving.add_workers.Given as goal

-- a worker for each one's tools that were taken
abbrev pub invariant-loop-one : goal.invariant-loop-one
invariant-loop-one g l = record {
  seat : l.first ≡ with_splits l.fn.first (length l.workers.items);
  fresh : All (IsFreshWorker g.S.Store.disk l.fn.first l.claims) l.workers.items;
  count : length l.workers.items + length l.tools.items ≡ length l.fn.tools.items;
  counter : l.claim.counter ≡ l.claims;
  leads : l.claim.family.is_first ≡ true;
  splits : l.claim.family.splits ≡ length l.workers.items;
  sets : All (IsSetFor g.S.Store.disk l.chain.value.first) l.sets;
  many_sets : length l.sets + length l.workers.items ≡ length l.fn.sets;
  tools : All (AreToolsFor g.S.Store.disk l.chain.value.first) l.tools.items;
  reserved : vec_capacity l.workers ≡ vec_capacity l.fn.workers;
}

abbrev pub decreases-loop-one : goal.decreases-loop-one
decreases-loop-one g l = length l.tools.items
