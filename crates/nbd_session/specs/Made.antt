-- What a client's disk is told of what it asks comes to calls of a guest, each told its outcome (profile).
use Rattle.std.specs.Prelude.{◌≡◌, ℕ, List, [], ◌∷◌, ◌++◌, Ok, Err}
use Rattle.store_model.specs.declared.fault.StoreFault.{StoreFault}
use Rattle.guest_model.specs.declared.call.Call.{Call}
use Rattle.guest_model.specs.declared.call.Call.TheVariants.{Flush, Write}
use Rattle.guest_model.specs.declared.call.Reply.{Reply}
use Rattle.guest_model.specs.declared.call.Reply.TheVariants.{Done}
use Rattle.guest_model.specs.declared.refusal.ChainRefusal.{ChainRefusal}
use Rattle.guest_model.specs.declared.refusal.ChainRefusal.TheVariants.{ReadFault}
use Rattle.disk_calls.specs.Disks.{Asked, Telling, Told, plain, through}
use Rattle.serve_session.specs.Served.{Outcome}

-- What was told of what was asked comes to these calls, each told so: a call was done, or refused, or it is a read that stands in the history and
-- that a reader failed for, which is told as if it were refused; a write that outlasts a crash is a Write, and a Flush behind it, unless the Write
-- was refused.
pub data ComesTo : Asked → Told → List Call → List Outcome → Type 0 where
  is_done : {call : Call} {place : ℕ} {said : Reply} → ComesTo (plain call) (Ok (place, said)) (call ∷ []) (Ok (place, Ok said) ∷ [])
  is_refused : {call : Call} {refusal : ChainRefusal} → ComesTo (plain call) (Err refusal) (call ∷ []) (Err refusal ∷ [])
  is_lost : {call : Call} {place : ℕ} {fault : StoreFault} → ComesTo (plain call) (Err (ReadFault fault.file fault.count)) (call ∷ []) (Ok (place, Err fault) ∷ [])
  is_flushed : {first place flushed : ℕ} {bytes : List ℕ} → ComesTo (through first bytes) (Ok (place, Done)) (Write first bytes ∷ Flush ∷ []) (Ok (place, Ok Done) ∷ Ok (flushed, Ok Done) ∷ [])
  is_unwritten : {first : ℕ} {bytes : List ℕ} {refusal : ChainRefusal} → ComesTo (through first bytes) (Err refusal) (Write first bytes ∷ []) (Err refusal ∷ [])
  is_unflushed : {first place : ℕ} {bytes : List ℕ} {refusal : ChainRefusal} → ComesTo (through first bytes) (Err refusal) (Write first bytes ∷ Flush ∷ []) (Ok (place, Ok Done) ∷ Err refusal ∷ [])

-- A disk that is nothing but what its guest was told so far: its calls, and the outcome of each.
pub record Heard : Type 0 where
  pub calls : List Call
  pub outcomes : List Outcome

abbrev pub heard : List Call → List Outcome → Heard
heard calls outcomes = record { calls = calls; outcomes = outcomes }

-- Behind what was asked and told it was told of the calls that this comes to, too.
pub record HearsMore (old : Heard) (asked : Asked) (said : Told) (new : Heard) : Type 0 where
  pub calls : List Call
  pub outcomes : List Outcome
  pub comes : ComesTo asked said calls outcomes
  pub is : new ≡ heard (old.calls ++ calls) (old.outcomes ++ outcomes)

abbrev pub tells_heard : Telling Heard
tells_heard old asked said new = HearsMore old asked said new
