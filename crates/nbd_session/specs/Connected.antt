-- What serving a client over a chain comes to, from the session's first call to its end (profile).
use Rattle.std.specs.Prelude.{◌≡◌, ⊤, Bool, true, List, [], ◌∷◌, is_none, Option, None, Some}
use Rattle.store_model.specs.Disk.{Disk}
use Rattle.guest_model.specs.declared.call.Call.{Call}
use Rattle.guest_model.specs.History.{History}
use Rattle.ledger.specs.declared.ledger.Ledger.{Ledger}
use Rattle.chain_core.specs.declared.chain.Chain.{Chain}
use Rattle.nbd_front.specs.declared.export.Export.{Export}
use Rattle.nbd_front.specs.declared.served.Served.{Served}
use Rattle.nbd_front.specs.Sessions.{IsServed, World, world}
use Rattle.serve_session.specs.Endings.{Ending}
use Rattle.serve_session.specs.Served.{Asking, Outcome}
use Rattle.serve_session.specs.Serving.{HasServed}
use Rattle.nbd_session.specs.Made.{heard, tells_heard}
use Rattle.nbd_session.specs.declared.run.NbdRun.{NbdRun}

-- what a client asks of the disk: it is one guest, and is told where memory ran out for a call
abbrev pub asked_by_client : List Call → Asking
asked_by_client calls = record { count = 1; calls = λ guest. calls; tells_want = true }

-- what its session gives at its end
abbrev pub ending_of_client : NbdRun → Ending
ending_of_client run = record { fault = run.fault; closed = run.closed; unread = run.unread; short = is_none run.served }

-- what a connection is about, over this disk: the bytes that are left to be read, and those that were sent, with the faults
abbrev pub over : {D : Type 0} → World ⊤ → D → World D
over w disk = world w.left w.source_faults w.written w.sink_faults disk

-- A connection was served so, and its calls come to these, each told so; or memory ran out before, nothing was read or sent, and no call was made.
abbrev pub IsConnected : Export → World ⊤ → World ⊤ → Option Served → List Call → List Outcome → Type 0
IsConnected export before after (Some served) calls outcomes = IsServed tells_heard (λ d. None) export (over before (heard [] [])) (over after (heard calls outcomes)) served
IsConnected export before after None calls outcomes = (after ≡ before) × (calls ≡ []) × (outcomes ≡ [])

-- A client was served as guest 1 of a session over a chain, beside a merge if there is one, and then the session ended: what its bytes say is what
-- it was told, and this is one history's.
pub record HasServedClient {S T : Type 0} (disk : S → Disk) (merges : Bool) (first : Chain S Ledger T) (export : Export) (before after : World ⊤) (run : NbdRun) (left : Disk) : Type 0 where
  pub calls : List Call
  pub outcomes : List Outcome
  pub history : History
  pub served : HasServed disk merges first (asked_by_client calls) (outcomes ∷ []) history (ending_of_client run) run.merged left
  pub connected : IsConnected export before after run.served calls outcomes
