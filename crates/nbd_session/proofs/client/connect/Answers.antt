use denote.Param.Send.{sendable}
use Rattle.std.proofs.Common.{ap}
use Rattle.std.proofs.Crossing.{crosses}
use Rattle.claims.proofs.counter.Claims.TheSendSync.{the_sync as claims_sync}
use Rattle.turn_lock.proofs.lock.TurnLock.TheSendSync.{the_sync as lock_sync}
use Rattle.serve_session.proofs.Sending.{shared_send, worker_send}
use Rattle.nbd_session.proofs.Hearing.{was_served}
use Rattle.nbd_session.proofs.Ends.{have_readers, none_failed}
use Rattle.nbd_session.proofs.client.connect.Goals as goal

pub new-disk-requires-clause-readers : goal.new-disk-requires-clause-readers
new-disk-requires-clause-readers g c = have_readers g.S.Store.disk c.args.was.now.value.first c.args.lock.now c.args.guest c.requires.guest

pub new-disk-requires-clause-none : goal.new-disk-requires-clause-none
new-disk-requires-clause-none g c = none_failed g.S.Store.disk c.args.was.now.value.first c.args.guest.readers c.requires.guest.readers

pub serve_beside-served-requires-send-A : goal.serve_beside-served-requires-send-A
serve_beside-served-requires-send-A g c κs within =
    let s = c.type_bounds.send-S in
    search (sendable, worker_send) depth 20

pub serve_beside-served-requires-sync-F : goal.serve_beside-served-requires-sync-F
serve_beside-served-requires-sync-F g c κs within =
    let s = c.type_bounds.send-S in
    let t = c.type_bounds.sync-R in
    let u = c.type_bounds.sync-G in
    search (sendable, crosses, lock_sync, shared_send, claims_sync) depth 30 fits 20000

pub returns-clause-client : goal.returns-clause-client
returns-clause-client g c =
    was_served g.S.Store.disk c.args.was.now.value.first c.guests_call.ensures.begins c.guests_call.ensures.goes_on c.args.lock.now c.args.guest c.requires.guest c.args.export.now _ _ c.new-disk.result c.serve_beside-served.new.disk
    (ap (λ v. v.held) c.new-disk.ensures) c.serve_beside-served.result c.serve_beside-served.ensures.served c.end-seat.result.0 c.end-seat.result.1 c.end-seat.result.2 c.end-seat.ensures.seat c.end-seat.ensures.readers c.end-seat.ensures.lost
