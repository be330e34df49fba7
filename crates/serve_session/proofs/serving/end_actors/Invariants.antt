use Rattle.std.proofs.Common.{◌≡◌, ◌+◌, ◌*◌, ◌^◌, ◌≤◌, false, List, length, map, nat_lt, vec_capacity}
use Rattle.serve_session.specs.Actors.{AreJoined, HasRun}
use Rattle.serve_session.specs.Back.{any_failed}
use Rattle.serve_session.specs.Lists.{AreActors}
use Rattle.serve_session.specs.Served.{Outcome, all_unread, asked_by}
use Rattle.serve_session.specs.Tallies.{AddsUp, all_outcomes}
use Rattle.serve_session.specs.Written.{AreKept}
use Rattle.serve_session.proofs.serving.end_actors.Given as goal

-- the seats of the actors that were taken are joined
abbrev pub invariant-loop-actor : goal.invariant-loop-actor
invariant-loop-actor g l = record {
  guests : List (List Outcome);
  joined : AreJoined g.S.Store.disk l.chain.value.first false l.lock (asked_by l.lines) l.first guests;
  words : AreKept (map g.N.AsStr.text l.names) l.lines l.told.items l.is_short guests;
  left : AreActors (HasRun g.S.Store.disk l.chain.value.first l.lock (map g.N.AsStr.text l.names) l.lines) (length l.fn.actors.items) l.actors.items;
  count : length guests + length l.actors.items ≡ length l.fn.actors.items;
  unread : l.unread ≡ length (all_unread guests);
  back : any_failed l.back.items ≡ nat_lt 0 l.unread;
  tally : AddsUp l.tally (all_outcomes guests);
  few_outcomes : length (all_outcomes guests) ≤ 2 ^ 20 * length guests;
  few_unread : length (all_unread guests) ≤ 2 ^ 20 * length guests;
  family : l.first.family ≡ record (l.fn.first.family) { joins = l.fn.first.family.joins + length guests };
  first_ticket : l.first.first_ticket ≡ l.fn.first.first_ticket;
  drawn : l.first.drawn ≤ l.fn.first.drawn + 2 ^ 20 * length guests;
  reserved : vec_capacity l.told ≡ vec_capacity l.fn.told;
  sets : length l.back.items ≡ length guests;
  reserved_back : vec_capacity l.back ≡ vec_capacity l.fn.back;
}

abbrev pub decreases-loop-actor : goal.decreases-loop-actor
decreases-loop-actor g l = length l.actors.items
