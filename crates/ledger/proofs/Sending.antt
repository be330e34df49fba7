-- A ledger may go to other threads.
use denote.Param.Send.{IsSend, sendable}
use Rattle.std.proofs.Crossing.{crosses}
use Rattle.guest_model.proofs.recorder.KeepAll.TheSendSync as keep
use Rattle.ledger.specs.contracts.ledger.Ledger as ledger

pub ledger_send : IsSend ledger.the_row
ledger_send =
    let k = keep.the_send in
    search (sendable, crosses) depth 30 fits 20000
