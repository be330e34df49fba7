use Rattle.std.proofs.Common.{◌≡◌, [], length, map, take}
use Rattle.ledger.specs.declared.ledger.Ledger.{Ledger}
use Rattle.chain_core.specs.declared.chain.Chain.{Chain}
use Rattle.guest_io.specs.Guests.{HaveReaders}
use Rattle.shared_chain.specs.Seats.{IsFree}
use Rattle.serve_session.specs.Actors.{IsActor}
use Rattle.serve_session.specs.Served.{forms_of}
use Rattle.serve_session.proofs.actor.Actor.run.Given as goal

-- the calls of the lines so far were made, if none was before
abbrev pub invariant-loop-line : goal.invariant-loop-line
invariant-loop-line g l = record {
  free : IsFree l.lock l.self.guest.seat;
  readers : HaveReaders g.S.Store.disk l.self.guest.seat.basis l.self.guest.readers;
  room : length l.self.room.items ≡ 1048576;
  number : l.self.number ≡ l.fn.self.number;
  ran : (first : Chain g.row.S.Denot Ledger g.row.S-R.Denot) → IsActor g.S.Store.disk first l.lock (map g.N.AsStr.text l.names) [] l.fn.self
      → IsActor g.S.Store.disk first l.lock (map g.N.AsStr.text l.names) (forms_of l.fn.self.number (take l.line-index l.lines)) l.self;
}
