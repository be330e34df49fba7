use Rattle.std.proofs.Common.{◌≡◌}
use Rattle.shared_chain.specs.Seats.{IsFree}
use Rattle.copy_workers.specs.Settling.{ArePassed}
use Rattle.copy_workers.specs.Sources.{HasSource, HaveFailed}
use Rattle.copy_workers.proofs.Claimed.{Swept}
use Rattle.copy_workers.proofs.worker.Worker.sweep.Given as goal

-- a turn was taken for each number that was claimed, of the same counter
abbrev pub invariant-loop : goal.invariant-loop
invariant-loop g l = record {
  next : (goal.iterator-loop g).can_next l.iterator';
  finite : (goal.iterator-loop g).is_finite l.iterator';
  free : IsFree l.lock l.self.seat;
  source : HasSource g.S.Store.disk l.self.seat.basis l.self.reads;
  failed : HaveFailed l.self.reads l.self.unfetched;
  passed : ArePassed l.self.seat.basis l.passed;
  swept : Swept l.claims.limit l.fn.self l.self;
  counter : l.self.claim.counter ≡ l.claims;
  family : l.self.claim.family ≡ l.fn.self.claim.family;
}
