-- What holds of a chain that threads share whenever none of them has it.
use Rattle.std.specs.Prelude.{◌≡◌, ℕ, length, is_some, [], Option, Some, None, IfSome}
use Rattle.store_model.specs.Disk.{Disk, WhereBothTold}
use Rattle.store_model.specs.Trace.{Trace}
use Rattle.store_model.specs.declared.fault.StoreFault.{StoreFault}
use Rattle.ledger.specs.declared.ledger.Ledger.{Ledger}
use Rattle.guest_model.specs.History.{History, either}
use Rattle.chain_model.specs.Moments.{EachOpens, EachOpensToPrefix}
use Rattle.chain_core.specs.declared.chain.Chain.{Chain}
use Rattle.chain_core.specs.Sessions.{IsSound, Session, seen}
use Rattle.chain_core.specs.States.{IsServing, LeavesOthers, State, dirty_now, disk_now, sector_of}
use Rattle.script_session.specs.Histories.{IsLater, IsSoLong}
use Rattle.shared_chain.specs.declared.basis.Breach.{Breach}
use Rattle.shared_chain.specs.Faults.{AreCounted}
use Rattle.shared_chain.specs.Stamped.{KeepsStamps}
use Rattle.shared_chain.specs.Steps.{open_by}

-- the session of a chain whose history is kept whole
abbrev pub session_of : {S T : Type 0} → (S → Disk) → Chain S Ledger T → Session
session_of disk chain = seen disk (λ h. length h) (λ h. Some h) chain

-- A state that a session may have come to, by these calls, from one in which it had none, whatever steps of a merge were done between them: of the
-- same beginning.
pub record ComesTo (from : State) (h : History) (to : State) : Type 0 where
  pub later : IsLater from h to
  pub sector : sector_of to ≡ sector_of from

-- each image opens to the disk of the whole history, outside the sectors that are dirty then and those of the call that broke the session
abbrev pub OpensLast : State → Option Breach → Trace → Type 0
OpensLast v broke now = EachOpens v.leaf (either (dirty_now v) (open_by broke)) (disk_now v) now

-- A fault has broken the session, in a call that is the next one for good, or in a step of the merge: no file was changed but those that it may change, and each
-- moment since it began opens to a prefix of its history, the last one to all of it.
pub record HasStopped (v : State) (broke : Option Breach) (now : Trace) : Type 0 where
  pub still : LeavesOthers v now
  pub past : EachOpensToPrefix (sector_of v) v.opening v.history (open_by broke) v.leaf v.began now
  pub last : OpensLast v broke now

-- A session that came from this state, by this history: it serves the state that it has come to, or a fault has broken it. If calls
-- were refused for want of room, a file that may be changed is as long as the greatest unit that they were refused at.
pub record Follows (from : State) (h : History) (full : Option ℕ) (broke : Option Breach) (s : Session) (now : Trace) : Type 0 where
  pub to : State
  pub comes : ComesTo from h to
  pub serves : s.broken ≡ None → IsServing s.layers to now
  pub stopped : IfSome s.broken (λ fault. HasStopped to broke now)
  pub long : IfSome full (IsSoLong from.writes now)

-- A session as it is, which has this history, and as it was when it had begun: it is sound, the disk is of the same size, and changed by
-- guests or only read, as then; what broke it is the call, or the step of a merge, that was told so first; the store's counts are what was told. Where the store
-- tells its content, it follows on each state that it served then with no call yet.
pub record IsHome (first now : Session) (h : History) (full : Option ℕ) (broke : Option Breach) (fault : Option StoreFault) : Type 0 where
  pub sound : IsSound now
  pub geometry : now.layers.geometry ≡ first.layers.geometry
  pub session : is_some now.layers.leaf ≡ is_some first.layers.leaf
  -- the leaf is merged only where it was then, and its stripes have the stamps of the history
  pub stamps : KeepsStamps first.layers h now.layers
  pub breaks : is_some broke ≡ is_some now.broken
  pub counted : AreCounted first.disk now.disk now.broken fault
  pub follows : WhereBothTold (λ trace after. (from : State) → IsServing first.layers from trace → from.history ≡ [] → Follows from h full broke now after) first.disk.told now.disk.told
