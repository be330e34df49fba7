use denote.Param.Send.{sendable}
use Rattle.std.proofs.Crossing.{crosses}
use Rattle.claims.proofs.counter.Claims.TheSendSync.{the_sync as claims_sync}
use Rattle.turn_lock.proofs.lock.TurnLock.TheSendSync.{the_sync as lock_sync}
use Rattle.script.proofs.form.Line.TheSendSync.{the_sync as line_sync}
use Rattle.serve_session.proofs.Sending.{actor_send, shared_send, worker_send}
use Rattle.serve_session.proofs.serving.run_beside.Goals as goal

pub beside-requires-send-A : goal.beside-requires-send-A
beside-requires-send-A g c κs within =
    let s = c.type_bounds.send-S in
    search (sendable, actor_send) depth 20

pub beside-requires-send-B : goal.beside-requires-send-B
beside-requires-send-B g c κs within =
    let s = c.type_bounds.send-S in
    search (sendable, worker_send) depth 20

pub beside-requires-sync-F : goal.beside-requires-sync-F
beside-requires-sync-F g c κs within =
    let s = c.type_bounds.send-S in
    let t = c.type_bounds.sync-R in
    let u = c.type_bounds.sync-G in
    let v = c.type_bounds.sync-N in
    search (sendable, crosses, lock_sync, shared_send, line_sync) depth 30 fits 20000

pub beside-requires-sync-G : goal.beside-requires-sync-G
beside-requires-sync-G g c κs within =
    let s = c.type_bounds.send-S in
    let t = c.type_bounds.sync-R in
    let u = c.type_bounds.sync-G in
    search (sendable, crosses, lock_sync, shared_send, claims_sync) depth 30 fits 20000
