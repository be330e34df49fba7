use Rattle.std.proofs.Common.{ap, arith, false, length, refl, subst, sym}
use Rattle.serve_session.specs.Actors.{AreJoined}
use Rattle.layer_session.proofs.Equal.{false_true}
use Rattle.serve_session.proofs.Final.{few_turns}
use Rattle.serve_session.proofs.Joining.{wider_joined, workers_joined}
use Rattle.serve_session.proofs.serving.close_shared.Goals as goal

pub close-requires-clause-all : goal.close-requires-clause-all
close-requires-clause-all g c =
    let joins = ap (λ f. f.joins) c.end_workers-unfetched.ensures.family in
    let splits = ap (λ f. f.splits) c.end_workers-unfetched.ensures.family in
    omega (arith, joins, splits, c.requires.all)

pub returns-clause-alone : goal.returns-clause-alone
returns-clause-alone g c asking guests j count none =
    let e = c.end_workers-unfetched.ensures in
    let bounds = few_turns g.S.Store.disk c.args.first c.end_workers-unfetched.new.first (length c.args.workers.items) c.close.result.chain.events c.requires.ticket c.requires.drawn e.first_ticket e.drawn c.requires.few c.close.ensures.refused c.close.ensures.worked in
    record {
      lock = c.args.lock;
      seat = c.end_workers-unfetched.new.first;
      joined = subst (λ s. AreJoined g.S.Store.disk c.args.was.now.value.first false c.args.lock asking s guests) (sym (e.same none)) j;
      count = count;
      unfetched = 0;
      none_fetched = λ alone. refl;
      unread_is = omega arith;
      history = c.close.ensures.history;
      basis = c.close.ensures.basis;
      places = c.close.ensures.places;
      refusals = bounds.0;
      few = bounds.1;
    }

pub returns-clause-beside : goal.returns-clause-beside
returns-clause-beside g c asking guests j count =
    let disk = g.S.Store.disk in
    let first = c.args.was.now.value.first in
    let e = c.end_workers-unfetched.ensures in
    let bounds = few_turns g.S.Store.disk c.args.first c.end_workers-unfetched.new.first (length c.args.workers.items) c.close.result.chain.events c.requires.ticket c.requires.drawn e.first_ticket e.drawn c.requires.few c.close.ensures.refused c.close.ensures.worked in
    record {
      lock = c.args.lock;
      seat = c.end_workers-unfetched.new.first;
      joined = workers_joined disk first c.args.lock asking c.args.first c.end_workers-unfetched.new.first guests (wider_joined disk first c.args.lock asking c.args.first guests j) e.joined;
      count = count;
      unfetched = c.end_workers-unfetched.result;
      none_fetched = λ never. absurd (false_true (sym never));
      unread_is = refl;
      history = c.close.ensures.history;
      basis = c.close.ensures.basis;
      places = c.close.ensures.places;
      refusals = bounds.0;
      few = bounds.1;
    }
