use Rattle.std.proofs.Common.{◌*◌, ◌+◌, ◌≡◌, [], Some, ap, arith, drop, false, length, refl, subst, sym, true, ◌∙◌}
use Rattle.std.specs.Prelude.{All}
use Rattle.serve_session.specs.Actors.{AreJoined, IsFrom}
use Rattle.serve_session.specs.Lists.{CanWork, HasDone, IsFreshWorker}
use Rattle.serve_session.specs.Tools.{AreToolsFor}
use Rattle.serve_session.proofs.Final.{made_first, made_splits}
use Rattle.serve_session.proofs.Guests.{written_all}
use Rattle.serve_session.proofs.Joining.{all_done, fresh_can}
use Rattle.nbd_session.proofs.Ends.{client_shared, few_drawn, few_lost, made_knows, none_joined}
use Rattle.nbd_session.proofs.serving.share.Goals as goal

pub first_guest-guest-requires-clause-knows : goal.first_guest-guest-requires-clause-knows
first_guest-guest-requires-clause-knows g c =
    let disk = g.S.Store.disk in
    subst (λ v. IsFrom disk v.first c.in-Ok-new.made.1.basis) (sym c.of-was.ensures) (made_knows disk c.args.chain c.requires.begun c.in-Ok-new.made.0 c.in-Ok-new.made.1 c.in-Ok-new.ensures.ok)

pub add_workers-requires-clause-knows : goal.add_workers-requires-clause-knows
add_workers-requires-clause-knows g c =
    ap (λ s. s.basis.first) c.first_guest-guest.ensures.seat ∙ made_first g.S.Store.disk c.args.chain c.requires.begun.fresh c.requires.begun.whole c.in-Ok-new.made.0 c.in-Ok-new.made.1 c.in-Ok-new.ensures.ok ∙ ap (λ v. Some v.first) (sym c.of-was.ensures)

pub add_workers-requires-clause-many : goal.add_workers-requires-clause-many
add_workers-requires-clause-many g c = omega (arith, c.first_guest-guest.ensures.left, c.requires.sets.0)

pub add_workers-requires-clause-tools : goal.add_workers-requires-clause-tools
add_workers-requires-clause-tools g c = subst (λ v. All (AreToolsFor g.S.Store.disk v.first) c.args.tools.items) (sym c.of-was.ensures) c.requires.tools

pub connect-client-requires-clause-workers : goal.connect-client-requires-clause-workers
connect-client-requires-clause-workers g c κs within =
    let disk = g.S.Store.disk in
    let lock = c.in-Ok-new.made.0 in
    subst (All (CanWork disk lock c.in-Ok.claims)) (sym c.as_mut_slice-hands.ensures.value)
    (fresh_can disk lock c.first_guest-guest.new.first c.in-Ok.claims c.add_workers.new.workers.items (ap (λ s. s.lock) c.first_guest-guest.ensures.seat ∙ ap (λ s. s.lock) c.in-Ok-new.ensures.ok) c.add_workers.ensures.fresh)

pub end_all-requires-clause-joined : goal.end_all-requires-clause-joined
end_all-requires-clause-joined g c asking =
    let disk = g.S.Store.disk in
    subst (λ v. AreJoined disk v.first false c.in-Ok-new.made.0 asking c.add_workers.new.first []) (sym c.of-was.ensures)
    (none_joined disk c.args.chain c.requires.begun c.in-Ok-new.made.0 c.in-Ok-new.made.1 c.first_guest-guest.new.first c.add_workers.new.first c.in-Ok-new.ensures.ok (length c.args.tools.items) c.first_guest-guest.ensures.seat c.add_workers.ensures.seat asking)

pub end_all-requires-clause-split : goal.end_all-requires-clause-split
end_all-requires-clause-split g c =
    let hands : c.add_workers.new.workers.len ≡ length c.connect-client.new.workers = c.add_workers.new.workers.ok.0 ∙ ap length (sym c.as_mut_slice-hands.ensures.value) ∙ sym c.connect-client.ensures.workers.count in
    let workers = ap length (written_all c.add_workers.new.workers.len c.connect-client.new.workers (drop (length c.connect-client.new.workers) c.add_workers.new.workers.items) hands) in
    made_splits g.S.Store.disk c.args.chain c.requires.begun.fresh c.requires.begun.whole c.in-Ok-new.made.0 c.in-Ok-new.made.1 c.in-Ok-new.ensures.ok
    1 (length c.args.tools.items) c.first_guest-guest.new.first c.add_workers.new.first c.first_guest-guest.ensures.seat c.add_workers.ensures.seat 1 _ refl
    (workers ∙ c.connect-client.ensures.workers.count ∙ ap length c.as_mut_slice-hands.ensures.value ∙ c.add_workers.ensures.count)

pub end_all-requires-clause-ticket : goal.end_all-requires-clause-ticket
end_all-requires-clause-ticket g c = ap (λ s. s.first_ticket) c.add_workers.ensures.seat ∙ ap (λ s. s.first_ticket) c.first_guest-guest.ensures.seat ∙ ap (λ s. s.first_ticket) c.in-Ok-new.ensures.ok

pub end_all-requires-clause-none : goal.end_all-requires-clause-none
end_all-requires-clause-none g c = ap (λ s. s.drawn) c.add_workers.ensures.seat ∙ ap (λ s. s.drawn) c.first_guest-guest.ensures.seat ∙ ap (λ s. s.drawn) c.in-Ok-new.ensures.ok

pub end_all-requires-clause-drawn : goal.end_all-requires-clause-drawn
end_all-requires-clause-drawn g c = few_drawn g.S.Store.disk _ _ _ _ _ _ _ _ _ c.connect-client.ensures.client

pub end_all-requires-clause-lost : goal.end_all-requires-clause-lost
end_all-requires-clause-lost g c = few_lost g.S.Store.disk _ _ _ _ _ _ _ _ _ c.connect-client.ensures.client

pub end_all-requires-clause-done : goal.end_all-requires-clause-done
end_all-requires-clause-done g c =
    let disk = g.S.Store.disk in
    let lock = c.in-Ok-new.made.0 in
    let whole : c.add_workers.new.workers.len ≡ length c.connect-client.new.workers = c.add_workers.new.workers.ok.0 ∙ ap length (sym c.as_mut_slice-hands.ensures.value) ∙ sym c.connect-client.ensures.workers.count in
    let all = written_all c.add_workers.new.workers.len c.connect-client.new.workers (drop (length c.connect-client.new.workers) c.add_workers.new.workers.items) whole in
    subst (All (HasDone lock)) (sym all)
    (all_done disk lock c.first_guest-guest.new.first c.in-Ok.claims (4 * c.in-Ok.claims.limit + 1) c.as_mut_slice-hands.result.now c.connect-client.new.workers (omega (arith, c.in-Ok.ensures.counter.0, c.ranges.stripes.fits)) (ap (λ s. s.lock) c.first_guest-guest.ensures.seat ∙ ap (λ s. s.lock) c.in-Ok-new.ensures.ok)
    (subst (All (IsFreshWorker disk c.first_guest-guest.new.first c.in-Ok.claims)) (sym c.as_mut_slice-hands.ensures.value) c.add_workers.ensures.fresh) c.connect-client.ensures.workers)

pub returns-clause-alone : goal.returns-clause-alone
returns-clause-alone g c none =
    let disk = g.S.Store.disk in
    let hands : c.add_workers.new.workers.len ≡ length c.connect-client.new.workers = c.add_workers.new.workers.ok.0 ∙ ap length (sym c.as_mut_slice-hands.ensures.value) ∙ sym c.connect-client.ensures.workers.count in
    let workers = ap length (written_all c.add_workers.new.workers.len c.connect-client.new.workers (drop (length c.connect-client.new.workers) c.add_workers.new.workers.items) hands) in
    let m_is = workers ∙ c.connect-client.ensures.workers.count ∙ ap length c.as_mut_slice-hands.ensures.value ∙ c.add_workers.ensures.count ∙ none in
    let client = c.connect-client.result in
    let s = c.connect-client.ensures.client in
    let left = c.end_all.result in
    client_shared disk false c.of-was.result.value c.args.chain left.chain c.of-was.ensures c.of-was.result.value.first c.in-Ok-new.made.0 c.args.export.now _ _ left.served client.served left.unread client.seat client.readers client.lost c.end_all.ensures.served s
    (c.end_all.ensures.alone s.calls s.outcomes s.called s.lost_is m_is)

pub returns-clause-beside : goal.returns-clause-beside
returns-clause-beside g c =
    let disk = g.S.Store.disk in
    let client = c.connect-client.result in
    let s = c.connect-client.ensures.client in
    let left = c.end_all.result in
    client_shared disk true c.of-was.result.value c.args.chain left.chain c.of-was.ensures c.of-was.result.value.first c.in-Ok-new.made.0 c.args.export.now _ _ left.served client.served left.unread client.seat client.readers client.lost c.end_all.ensures.served s
    (c.end_all.ensures.beside s.calls s.outcomes s.called s.lost_is)
