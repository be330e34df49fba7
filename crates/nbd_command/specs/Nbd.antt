-- What `nbd` does: one client's calls on the disk to which a leaf's name is opened, and what it is told of them (profile).
use Rattle.std.specs.Prelude.{◌≡◌, ◌≢◌, ◌⊎◌, ◌<◌, ⊤, ℕ, true, false, List, [], ◌∷◌, Option, None, Some, Result, Ok, Err, IfSome}
use Rattle.store_model.specs.Cause.{Rose}
use Rattle.store_model.specs.Disk.{WhereTold}
use Rattle.guest_model.specs.Calls.{Disk}
use Rattle.guest_model.specs.declared.call.Call.{Call}
use Rattle.chain_model.specs.Files.{OpensTo}
use Rattle.chain_core.specs.Starting.{IsOfDisk}
use Rattle.link_rules.specs.Chains.{Links}
use Rattle.link_rules.specs.Folders.{contents}
use Rattle.link_rules.specs.Touches.{IsOnWay, TouchesSafely}
use Rattle.link_rules.specs.declared.linked.Linked.{Linked}
use Rattle.command_base.specs.Folders.{OnlyFollows, files_of}
use Rattle.command_base.specs.Printed.{RefusesLeaf}
use Rattle.command_base.specs.Refusals.{Refusal}
use Rattle.command_base.specs.Worlds.{World}
use Rattle.steps_command.specs.Starts.{DrawsFor, RefusesSession}
use Rattle.serve_command.specs.Serves.{HasServedChain, IsUnfinished, Service, met, unread_by}
use Rattle.serve_session.specs.Served.{Outcome}
use Rattle.nbd_front.specs.Sessions.{World as Streams, world as streams}
use Rattle.nbd_front.specs.declared.export.Export.{Export}
use Rattle.nbd_front.specs.declared.refusal.NbdRefusal.{NbdRefusal}
use Rattle.nbd_front.specs.declared.refusal.NbdRefusal.TheVariants as refusals
use Rattle.nbd_front.specs.declared.served.Served.{Served}
use Rattle.nbd_session.specs.Connected.{IsConnected, asked_by_client}
use Rattle.printing.specs.declared.status.Status.{Status}
use Rattle.printing.specs.declared.status.Status.TheVariants.{Done, Fault, NoMemory, Refused}

-- what a run has to do with its client: the bytes that the source has left, those that the sink took, and the faults of both
abbrev pub connection : Option (List ℕ) → ℕ → Option (List ℕ) → ℕ → Streams ⊤
connection left source_faults written sink_faults = streams left source_faults written sink_faults tt

abbrev pub streams_of : World → Streams ⊤
streams_of w = connection w.left w.source_faults w.written w.sink_faults

-- nothing is read and nothing is sent
abbrev pub IsSilent : World → World → Type 0
IsSilent before now = streams_of now ≡ streams_of before

-- what a client is offered: the disk of the leaf's size, under the leaf's name, to be read and written
pub record IsOffered (leaf : List ℕ) (linked : Linked) (export : Export) : Type 0 where
  pub name : export.name ≡ leaf
  pub size : IsOfDisk linked.files export.geometry
  pub writable : export.is_read_only ≡ false

-- ---- the status

-- of a run that doesn't open the chain: a rule refuses the leaf's name, the host's count rose, or memory ran out
abbrev pub IsUnopened : List ℕ → World → World → Status → Type 0
IsUnopened leaf before now Refused = (refusal : Refusal) × RefusesLeaf before.host.folder leaf refusal
IsUnopened leaf before now Fault = Rose before.host.faults now.host.faults
IsUnopened leaf before now NoMemory = ⊤
IsUnopened leaf before now other = ⊥

-- of one that begins no session
abbrev pub IsUnbegun : Linked → Option (List ℕ) → World → World → Status → Type 0
IsUnbegun linked merge before now Refused = (refusal : Refusal) × RefusesSession false linked before.host.folder before.drawn now.drawn merge refusal
IsUnbegun linked merge before now Fault = Rose before.host.faults now.host.faults
IsUnbegun linked merge before now NoMemory = ⊤
IsUnbegun linked merge before now other = ⊥

-- a fault of the host's was met: by a call, by a step of the merge, by the session's end, or by a reader
abbrev pub HasMetFault : Service → Type 0
HasMetFault service = (met service ≢ None) ⊎ (0 < unread_by service)

-- the source or the sink failed
abbrev pub IsBrokenOff : Result (Unit {0}) NbdRefusal → Type 0
IsBrokenOff (Err (refusals.Source fault)) = ⊤
IsBrokenOff (Err (refusals.Sink fault)) = ⊤
IsBrokenOff other = ⊥

-- the client didn't end the connection as it should: it was cut off, or broke a rule, or sent more messages than are served
abbrev pub IsBroken : Result (Unit {0}) NbdRefusal → Type 0
IsBroken (Err (refusals.Source fault)) = ⊥
IsBroken (Err (refusals.Sink fault)) = ⊥
IsBroken (Err other) = ⊤
IsBroken (Ok done) = ⊥

-- Of a session with a client, by how this was served, if memory was there for it. Done: the client ended the connection, and the merge is
-- finished if there is one. Refused: the client didn't end it as it should, or a file is full and the merge isn't finished for that. A fault comes
-- before want of memory, of which the client was told in a reply, and that before these.
abbrev pub IsClientEnd : Service → Option Served → Status → Type 0
IsClientEnd service (Some served) Done = (served.end ≡ Ok tt) × (served.no_room ≡ false) × (service.stopped ≡ None)
IsClientEnd service (Some served) Refused = (served.no_room ≡ false) × (IsBroken served.end ⊎ ((served.end ≡ Ok tt) × IsUnfinished service.stopped))
IsClientEnd service (Some served) Fault = HasMetFault service ⊎ IsBrokenOff served.end
IsClientEnd service (Some served) NoMemory = served.no_room ≡ true
IsClientEnd service None Fault = HasMetFault service
IsClientEnd service None NoMemory = ⊤
IsClientEnd service served other = ⊥

-- ---- what is done

-- The chain isn't opened: the leaf's name is followed at most, no identifier is drawn, and the client is told nothing.
pub record OpensNone (leaf : List ℕ) (before now : World) (status : Status) : Type 0 where
  pub why : IsUnopened leaf before now status
  pub silent : IsSilent before now
  pub followed : OnlyFollows leaf before.host.folder now.host.folder
  pub moments : TouchesSafely (λ folder. IsOnWay (contents folder) leaf) before.host now.host
  pub undrawn : now.drawn ≡ before.drawn

-- No session begins, and the client is told nothing; or it is served: what its messages ask of the disk are the calls of the session's one guest, and
-- what it is told of them is what that guest is told. Where a reply told the client of a fault the status is that of one.
pub data IsClientOf (leaf : List ℕ) (linked : Linked) (merge : Option (List ℕ)) (calls : List Call) (service : Service) (before now : World) (status : Status) : Type 0 where
  unbegun : service.has_begun ≡ false → calls ≡ [] → IsSilent before now → IsUnbegun linked merge before now status → IsClientOf leaf linked merge calls service before now status
  begun : (export : Export) (served : Option Served) (outcomes : List Outcome) → service.has_begun ≡ true → service.guests ≡ outcomes ∷ [] → IsOffered leaf linked export
      → IsConnected export (streams_of before) (streams_of now) served calls outcomes → DrawsFor false merge linked before.host.folder before.drawn now.drawn
      → WhereTold before.host.folder (λ folder. IfSome served (λ s. s.fault ≡ true → status ≡ Fault)) → IsClientEnd service served status
      → IsClientOf leaf linked merge calls service before now status

-- The chain is opened, and one client is served over it, or no session begins. A fault of the host's is met where its count rose, and only there.
pub record ClientServed (leaf : List ℕ) (merge : Option (List ℕ)) (before now : World) (status : Status) : Type 0 where
  pub linked : Linked
  pub disk : Disk
  pub links : WhereTold before.host.folder (λ folder. Links (contents folder) leaf (Ok linked))
  pub opens : WhereTold before.host.folder (λ folder. OpensTo (files_of folder) leaf disk)
  pub calls : List Call
  pub service : Service
  pub session : HasServedChain leaf linked disk merge (asked_by_client calls) service status before now
  pub client : IsClientOf leaf linked merge calls service before now status
  pub rose : HasMetFault service → Rose before.host.faults now.host.faults
  pub quiet : status ≢ Fault → (met service ≡ None) × (unread_by service ≡ 0)

-- The leaf's name leads to no chain, or following it fails; or the chain is opened.
pub data RunsNbd (leaf : List ℕ) (merge : Option (List ℕ)) (before now : World) (status : Status) : Type 0 where
  unopened : OpensNone leaf before now status → RunsNbd leaf merge before now status
  opened : ClientServed leaf merge before now status → RunsNbd leaf merge before now status
