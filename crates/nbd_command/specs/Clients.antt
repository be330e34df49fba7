-- What the functions of `nbd` say of themselves; what a run promises doesn't rest on these.
use Rattle.std.specs.Prelude.{◌≡◌, ◌||◌, ⊤, ℕ, Bool, true, false, nat_lt, is_err, is_some, if◌then◌else◌, List, [], ◌∷◌, Option, None, Some, Result, Ok, Err, IfErr, IfOk}
use Rattle.store_model.specs.Folder.{Hosted}
use Rattle.store_model.specs.declared.fault.StoreFault.{StoreFault}
use Rattle.file_open.specs.Causes.{Meaning, refuses, host_failed, store_failed, no_memory}
use Rattle.guest_model.specs.History.{History}
use Rattle.guest_model.specs.declared.call.Call.{Call}
use Rattle.guest_model.specs.declared.refusal.ChainRefusal.{ChainRefusal}
use Rattle.chain_core.specs.declared.starting.Mode.TheVariants.{Guests}
use Rattle.link_rules.specs.declared.linked.Linked.{Linked}
use Rattle.link_rules.specs.declared.refusal.LinkRefusal.{LinkRefusal}
use Rattle.command_base.specs.declared.refusal.ChainRefusal.TheVariants as chain
use Rattle.steps_command.specs.Sessions.{IsFollowedTo, IsNotFollowed, NotRunOver}
use Rattle.steps_command.specs.declared.refusal.StepsRefusal.{StepsRefusal}
use Rattle.steps_command.specs.declared.refusal.StepsRefusal.TheVariants as steps
use Rattle.serve_command.specs.Guests.{ServedWith}
use Rattle.serve_session.specs.Beginning.{undone}
use Rattle.serve_session.specs.Served.{Outcome}
use Rattle.nbd_front.specs.Sessions.{World as Streams}
use Rattle.nbd_front.specs.declared.export.Export.{Export}
use Rattle.nbd_front.specs.declared.refusal.NbdRefusal.{NbdRefusal}
use Rattle.nbd_front.specs.declared.refusal.NbdRefusal.TheVariants as refusals
use Rattle.nbd_front.specs.declared.served.Served.{Served}
use Rattle.nbd_session.specs.Connected.{IsConnected, asked_by_client, ending_of_client}
use Rattle.nbd_session.specs.declared.run.NbdRun.{NbdRun}
use Rattle.nbd_command.specs.Nbd.{IsOffered}
use Rattle.printing.specs.declared.status.Status.{Status}
use Rattle.printing.specs.declared.status.Status.TheVariants.{Done, Fault, NoMemory, Refused}

-- ---- the status

-- of what refuses a run, stops it or takes its memory
abbrev pub status_meant : {R : Type 0} → Meaning R → Status
status_meant (refuses refusal) = Refused
status_meant (host_failed fault) = Fault
status_meant (store_failed fault) = Fault
status_meant no_memory = NoMemory

abbrev pub has_fault : Option StoreFault → Result (Unit {0}) StoreFault → ℕ → Bool
has_fault fault closed unread = is_some fault || is_err closed || nat_lt 0 unread

abbrev pub is_broken_off : Result (Unit {0}) NbdRefusal → Bool
is_broken_off (Err (refusals.Source fault)) = true
is_broken_off (Err (refusals.Sink fault)) = true
is_broken_off other = false

abbrev pub end_of : Result (Unit {0}) NbdRefusal → Result (Unit {0}) ChainRefusal → Status
end_of (Ok done) (Ok finished) = Done
end_of end merged = Refused

abbrev pub of_served : Option Served → Result (Unit {0}) ChainRefusal → Status
of_served None merged = NoMemory
of_served (Some served) merged = if is_broken_off served.end then Fault else (if served.no_room then NoMemory else end_of served.end merged)

abbrev pub status_of : NbdRun → Status
status_of run = if has_fault run.fault run.closed run.unread then Fault else of_served run.served run.merged

-- ---- a client

-- what is told where the session ended before a client was served
pub record IsUnmet (merges : Bool) (met : Option StoreFault) (ended : Result (Unit {0}) StoreFault) (run : NbdRun) : Type 0 where
  pub served : run.served ≡ None
  pub fault : run.fault ≡ met
  pub closed : run.closed ≡ ended
  pub unread : run.unread ≡ 0
  pub merged : run.merged ≡ undone merges

-- A client was served over the chain under this name, or memory ran out before: its bytes say what the session's one guest was told.
pub record ClientIsServed (name : List ℕ) (merge : Option (List ℕ)) (linked : Linked) (run : NbdRun) (a b : Streams ⊤) (old new : Hosted) (before now : Option (List (List ℕ))) : Type 0 where
  pub export : Export
  pub calls : List Call
  pub outcomes : List Outcome
  pub history : History
  pub offered : IsOffered name linked export
  pub connected : IsConnected export a b run.served calls outcomes
  pub over : ServedWith merge linked (asked_by_client calls) (outcomes ∷ []) history (ending_of_client run) run.merged old new before now

-- A client was served over the chain to which a leaf's name leads, or it was told nothing.
pub data LeafIsOffered (leaf : List ℕ) (merge : Option (List ℕ)) (a b : Streams ⊤) (old new : Hosted) (before now : Option (List (List ℕ))) (result : Result NbdRun StepsRefusal) : Type 0 where
  no_room : result ≡ Err (steps.Chain chain.NoRoom) → b ≡ a → new ≡ old → now ≡ before → LeafIsOffered leaf merge a b old new before now result
  unlinked : (refusal : LinkRefusal) → result ≡ Err (steps.Chain (chain.Unlinked refusal)) → b ≡ a → IsNotFollowed leaf refusal old new → now ≡ before → LeafIsOffered leaf merge a b old new before now result
  over : (mid : Hosted) (linked : Linked) → IsFollowedTo leaf linked old mid → IfOk result (λ run. ClientIsServed leaf merge linked run a b mid new before now)
      → IfErr result (λ refusal. (b ≡ a) × NotRunOver Guests merge linked mid new before now refusal) → LeafIsOffered leaf merge a b old new before now result
