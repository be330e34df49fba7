use Rattle.std.proofs.Common.{◌*◌, ◌≡◌, ◌++◌, ◌+◌, Some, ap, arith, drop, false, length, map, sym, subst, take, true, ◌∙◌}
use Rattle.std.specs.Prelude.{All}
use Rattle.serve_session.specs.Actors.{HasRun}
use Rattle.serve_session.specs.Lists.{AreActors, AreFresh, CanWork, HasDone, IsFreshWorker, IsReady}
use Rattle.serve_session.specs.Sealing.{IsSetFor}
use Rattle.serve_session.specs.Serving.{IsShared}
use Rattle.serve_session.specs.Tools.{AreToolsFor}
use Rattle.serve_session.proofs.Final.{made_first, made_ready, made_run, made_splits}
use Rattle.serve_session.proofs.Guests.{written_all}
use Rattle.serve_session.proofs.Joining.{all_done, fresh_can}
use Rattle.serve_session.proofs.serving.share.Goals as goal

pub run_beside-requires-clause-guests : goal.run_beside-requires-clause-guests
run_beside-requires-clause-guests g c κs within =
    let disk = g.S.Store.disk in
    let made = c.in-Ok-new.made.1 in
    let n = length c.args.rooms.items in
    let fresh = subst (λ v. AreFresh (IsSetFor disk v.first) made n c.add_actors.new.actors.items) c.of-was.ensures c.add_actors.ensures.fresh in
    subst (λ xs. All (IsReady disk c.in-Ok-new.made.0) xs) (sym c.as_mut_slice-guests.ensures.value)
    (made_ready disk c.args.chain c.requires.begun.fresh c.requires.begun.whole c.in-Ok-new.made.0 made c.in-Ok-new.ensures.ok n c.add_actors.new.actors.items fresh)

pub run_beside-requires-clause-workers : goal.run_beside-requires-clause-workers
run_beside-requires-clause-workers g c κs within =
    let disk = g.S.Store.disk in
    let lock = c.in-Ok-new.made.0 in
    subst (All (CanWork disk lock c.in-Ok.claims)) (sym c.as_mut_slice-hands.ensures.value)
    (fresh_can disk lock c.add_actors.new.first c.in-Ok.claims c.add_workers.new.workers.items (ap (λ s. s.lock) c.add_actors.ensures.seat ∙ ap (λ s. s.lock) c.in-Ok-new.ensures.ok) c.add_workers.ensures.fresh)

pub add_workers-requires-clause-knows : goal.add_workers-requires-clause-knows
add_workers-requires-clause-knows g c =
    ap (λ s. s.basis.first) c.add_actors.ensures.seat ∙ made_first g.S.Store.disk c.args.chain c.requires.begun.fresh c.requires.begun.whole c.in-Ok-new.made.0 c.in-Ok-new.made.1 c.in-Ok-new.ensures.ok ∙ ap (λ v. Some v.first) (sym c.of-was.ensures)

pub add_workers-requires-clause-many : goal.add_workers-requires-clause-many
add_workers-requires-clause-many g c = omega (arith, c.add_actors.ensures.left, c.requires.sets.0)

pub add_workers-requires-clause-tools : goal.add_workers-requires-clause-tools
add_workers-requires-clause-tools g c = subst (λ v. All (AreToolsFor g.S.Store.disk v.first) c.args.tools.items) (sym c.of-was.ensures) c.requires.tools

pub end_all-requires-clause-ran : goal.end_all-requires-clause-ran
end_all-requires-clause-ran g c =
    let disk = g.S.Store.disk in
    let names = map g.N.AsStr.text c.args.names.now in
    let lines = c.args.lines.now in
    let lock = c.in-Ok-new.made.0 in
    let n = length c.args.rooms.items in
    let whole : c.add_actors.new.actors.len ≡ length c.run_beside.new.actors = c.add_actors.new.actors.ok.0 ∙ ap length (sym c.as_mut_slice-guests.ensures.value) ∙ sym c.run_beside.ensures.guests.count in
    let all = written_all c.add_actors.new.actors.len c.run_beside.new.actors (drop (length c.run_beside.new.actors) c.add_actors.new.actors.items) whole in
    let count : length c.run_beside.new.actors ≡ n = c.run_beside.ensures.guests.count ∙ ap length c.as_mut_slice-guests.ensures.value ∙ c.add_actors.ensures.count in
    let made = made_run disk c.args.chain c.requires.begun.fresh c.requires.begun.whole lock c.in-Ok-new.made.1 c.in-Ok-new.ensures.ok c.requires.begun.sound.sector names lines n c.as_mut_slice-guests.result.now c.run_beside.new.actors
    (subst (AreFresh (IsSetFor disk c.args.chain.first) c.in-Ok-new.made.1 n) (sym c.as_mut_slice-guests.ensures.value) (subst (λ v. AreFresh (IsSetFor disk v.first) c.in-Ok-new.made.1 n c.add_actors.new.actors.items) c.of-was.ensures c.add_actors.ensures.fresh)) c.run_beside.ensures.guests in
    let xs = take c.add_actors.new.actors.len (c.run_beside.new.actors ++ drop (length c.run_beside.new.actors) c.add_actors.new.actors.items) in
    subst (λ f. AreActors (HasRun disk f lock names lines) (length xs) xs) (sym (ap (λ v. v.first) c.of-was.ensures))
    (subst (λ xs. AreActors (HasRun disk c.args.chain.first lock names lines) (length xs) xs) (sym all) (subst (λ k. AreActors (HasRun disk c.args.chain.first lock names lines) k c.run_beside.new.actors) (sym count) made))

pub end_all-requires-clause-done : goal.end_all-requires-clause-done
end_all-requires-clause-done g c =
    let disk = g.S.Store.disk in
    let lock = c.in-Ok-new.made.0 in
    let whole : c.add_workers.new.workers.len ≡ length c.run_beside.new.workers = c.add_workers.new.workers.ok.0 ∙ ap length (sym c.as_mut_slice-hands.ensures.value) ∙ sym c.run_beside.ensures.workers.count in
    let all = written_all c.add_workers.new.workers.len c.run_beside.new.workers (drop (length c.run_beside.new.workers) c.add_workers.new.workers.items) whole in
    subst (All (HasDone lock)) (sym all)
    (all_done disk lock c.add_actors.new.first c.in-Ok.claims (4 * c.in-Ok.claims.limit + 1) c.as_mut_slice-hands.result.now c.run_beside.new.workers (omega (arith, c.in-Ok.ensures.counter.0, c.ranges.stripes.fits)) (ap (λ s. s.lock) c.add_actors.ensures.seat ∙ ap (λ s. s.lock) c.in-Ok-new.ensures.ok)
    (subst (All (IsFreshWorker disk c.add_actors.new.first c.in-Ok.claims)) (sym c.as_mut_slice-hands.ensures.value) c.add_workers.ensures.fresh) c.run_beside.ensures.workers)

pub end_all-requires-clause-count : goal.end_all-requires-clause-count
end_all-requires-clause-count g c =
    let guests : c.add_actors.new.actors.len ≡ length c.run_beside.new.actors = c.add_actors.new.actors.ok.0 ∙ ap length (sym c.as_mut_slice-guests.ensures.value) ∙ sym c.run_beside.ensures.guests.count in
    ap length (written_all c.add_actors.new.actors.len c.run_beside.new.actors (drop (length c.run_beside.new.actors) c.add_actors.new.actors.items) guests)
    ∙ c.run_beside.ensures.guests.count ∙ ap length c.as_mut_slice-guests.ensures.value ∙ c.add_actors.ensures.count ∙ c.requires.count

pub end_all-requires-clause-split : goal.end_all-requires-clause-split
end_all-requires-clause-split g c =
    let guests : c.add_actors.new.actors.len ≡ length c.run_beside.new.actors = c.add_actors.new.actors.ok.0 ∙ ap length (sym c.as_mut_slice-guests.ensures.value) ∙ sym c.run_beside.ensures.guests.count in
    let hands : c.add_workers.new.workers.len ≡ length c.run_beside.new.workers = c.add_workers.new.workers.ok.0 ∙ ap length (sym c.as_mut_slice-hands.ensures.value) ∙ sym c.run_beside.ensures.workers.count in
    let actors = ap length (written_all c.add_actors.new.actors.len c.run_beside.new.actors (drop (length c.run_beside.new.actors) c.add_actors.new.actors.items) guests) in
    let workers = ap length (written_all c.add_workers.new.workers.len c.run_beside.new.workers (drop (length c.run_beside.new.workers) c.add_workers.new.workers.items) hands) in
    made_splits g.S.Store.disk c.args.chain c.requires.begun.fresh c.requires.begun.whole c.in-Ok-new.made.0 c.in-Ok-new.made.1 c.in-Ok-new.ensures.ok
    (length c.args.rooms.items) (length c.args.tools.items) c.add_actors.new.first c.add_workers.new.first c.add_actors.ensures.seat c.add_workers.ensures.seat _ _
    (actors ∙ c.run_beside.ensures.guests.count ∙ ap length c.as_mut_slice-guests.ensures.value ∙ c.add_actors.ensures.count)
    (workers ∙ c.run_beside.ensures.workers.count ∙ ap length c.as_mut_slice-hands.ensures.value ∙ c.add_workers.ensures.count)

pub end_all-requires-clause-ticket : goal.end_all-requires-clause-ticket
end_all-requires-clause-ticket g c = ap (λ s. s.first_ticket) c.add_workers.ensures.seat ∙ ap (λ s. s.first_ticket) c.add_actors.ensures.seat ∙ ap (λ s. s.first_ticket) c.in-Ok-new.ensures.ok

pub end_all-requires-clause-none : goal.end_all-requires-clause-none
end_all-requires-clause-none g c = ap (λ s. s.drawn) c.add_workers.ensures.seat ∙ ap (λ s. s.drawn) c.add_actors.ensures.seat ∙ ap (λ s. s.drawn) c.in-Ok-new.ensures.ok

pub returns-clause-alone : goal.returns-clause-alone
returns-clause-alone g c none =
    let hands : c.add_workers.new.workers.len ≡ length c.run_beside.new.workers = c.add_workers.new.workers.ok.0 ∙ ap length (sym c.as_mut_slice-hands.ensures.value) ∙ sym c.run_beside.ensures.workers.count in
    let workers = ap length (written_all c.add_workers.new.workers.len c.run_beside.new.workers (drop (length c.run_beside.new.workers) c.add_workers.new.workers.items) hands) in
    let m_is = workers ∙ c.run_beside.ensures.workers.count ∙ ap length c.as_mut_slice-hands.ensures.value ∙ c.add_workers.ensures.count ∙ none in
    let left = c.end_all.result in
    subst (λ v. IsShared g.S.Store.disk false v (map g.N.AsStr.text c.args.names.now) c.args.lines.now left.chain left.told.items left.is_short left.unread left.tally) c.of-was.ensures (c.end_all.ensures.alone m_is)

pub returns-clause-beside : goal.returns-clause-beside
returns-clause-beside g c =
    let left = c.end_all.result in
    subst (λ v. IsShared g.S.Store.disk true v (map g.N.AsStr.text c.args.names.now) c.args.lines.now left.chain left.told.items left.is_short left.unread left.tally) c.of-was.ensures c.end_all.ensures.beside
