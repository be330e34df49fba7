-- That a guest of a script and a worker of a merge may go to other threads, and that threads may share the lock.
use denote.RattleType.{RattleType}
use denote.Struct.Declared.{shape}
use denote.Param.Send.{IsSend, recorded_send, sendable, struct_send}
use Rattle.std.proofs.Crossing.{crosses}
use Rattle.store_model.specs.declared.store.Reader as reader
use Rattle.store_model.specs.declared.store.Store as store
use Rattle.ledger.specs.contracts.ledger.Ledger as ledger_type
use Rattle.ledger.proofs.Sending.{ledger_send}
use Rattle.chain_core.proofs.chain.Chain.TheSendSync as chain
use Rattle.turn_lock.proofs.seat.Seat.TheSendSync.{the_send as seat_send}
use Rattle.shared_chain.specs.contracts.shared.SharedChain as shared
use Rattle.shared_chain.proofs.basis.Breach.TheSendSync.{the_send as breach_send}
use Rattle.read_plan.proofs.plan.Plan.TheSendSync.{the_send as plan_send}
use Rattle.read_plan.proofs.readers.ReaderSet.TheSendSync.{the_send as set_send}
use Rattle.claims.proofs.counter.ClaimSeat.TheSendSync.{the_send as claim_send}
use Rattle.copy_workers.specs.contracts.worker.Worker as worker
use Rattle.copy_workers.proofs.source.SourceReaders.TheSendSync.{the_send as source_send}
use Rattle.guest_io.specs.contracts.guest.Guest as guest
use Rattle.script.proofs.told.ToldCall.TheSendSync as told
use Rattle.serve_session.specs.contracts.actor.Actor as actor
use Rattle.serve_session.proofs.tally.Tally.TheSendSync as tally

pub shared_send : (S R : RattleType) (d : store.Ghosts S.Denot R.Denot) (r : reader.Ghosts R.Denot) → IsSend S → IsSend (shared.the_row S R d r)
shared_send S R d r s =
    let c = chain.the_send S ledger_type.the_row R s ledger_send in
    let f = chain.the_field_send S ledger_type.the_row R s ledger_send in
    search (sendable, crosses, breach_send) depth 30 fits 20000

guest_send : (S R : RattleType) (d : store.Ghosts S.Denot R.Denot) (r : reader.Ghosts R.Denot) → IsSend S → IsSend R → IsSend (guest.the_field S R d r).row
guest_send S R d r s k =
    let v = shared_send S R d r s in
    search (sendable, crosses, seat_send, set_send, plan_send) depth 30 fits 20000

pub actor_send : (S R : RattleType) (d : store.Ghosts S.Denot R.Denot) (r : reader.Ghosts R.Denot) → IsSend S → IsSend R → IsSend (actor.the_row S R d r)
actor_send S R d r s k =
    let g = guest_send S R d r s k in
    let t = told.the_send in
    let f = told.the_field_send in
    let y = tally.the_send in
    let z = tally.the_field_send in
    recorded_send (actor.the_field S R d r).row _ _ (actor.the_type S R d r).to_one
    (struct_send (shape (actor.the_type S R d r)) (g, (search (sendable, crosses) depth 30, (search (sendable, crosses) depth 30, (search (sendable, crosses) depth 30, (search (sendable, crosses) depth 30, (search (sendable, crosses) depth 30, (search (sendable, crosses) depth 30, tt))))))))

pub worker_send : (S R : RattleType) (d : store.Ghosts S.Denot R.Denot) (r : reader.Ghosts R.Denot) → IsSend S → IsSend R → IsSend (worker.the_row S R d r)
worker_send S R d r s k =
    let v = shared_send S R d r s in
    search (sendable, crosses, seat_send, claim_send, source_send) depth 30 fits 20000
