-- What the end of a shared chain's session leaves.
use Rattle.std.specs.Prelude.{◌≡◌, ℕ, Bool, false, true, is_some, [], Option, Result, IfSome, OnOk}
use Rattle.std.specs.List.{AllByRecursion}
use Rattle.store_model.specs.Disk.{Disk, WhereBothTold}
use Rattle.store_model.specs.File.{is_synced, seen}
use Rattle.store_model.specs.Trace.{Trace, file_of}
use Rattle.store_model.specs.declared.fault.StoreFault.{StoreFault}
use Rattle.guest_model.specs.History.{History}
use Rattle.chain_model.specs.Images.{members_of}
use Rattle.chain_model.specs.Members.{names_of}
use Rattle.chain_model.specs.Moments.{EachOpens, EachOpensToPrefix}
use Rattle.layer_session.specs.Unnamed.{NamesNoLog}
use Rattle.chain_core.specs.Answering.{EachLinks}
use Rattle.chain_core.specs.Sessions.{Session}
use Rattle.chain_core.specs.States.{IsServing, LeavesOthers, State, disk_now, files_of, sector_of}
use Rattle.script_session.specs.Histories.{IsSoLong, is_under_way}
use Rattle.shared_chain.specs.declared.basis.Breach.{Breach}
use Rattle.shared_chain.specs.Homes.{ComesTo, OpensLast}
use Rattle.shared_chain.specs.Steps.{open_by}

-- Each image opens to the disk of the history, on all sectors, by the files of the chain and no others; if there was a session nothing of
-- these files is unsynced, and none that it could change names a log. A merge is under way, or none is.
pub record IsWhole (session merges : Bool) (v : State) (now : Trace) : Type 0 where
  pub opens : EachOpens v.leaf (λ s. false) (disk_now v) now
  pub links : EachLinks v.leaf.name (names_of (members_of (files_of v))) now
  pub synced : session ≡ true → AllByRecursion (λ f. is_synced (file_of now f.number) ≡ true) (files_of v)
  pub no_log : session ≡ true → AllByRecursion (λ f. v.writes f.number ≡ true → NamesNoLog (seen (file_of now f.number))) (files_of v)
  pub under_way : is_under_way v.rest ≡ merges

-- What is left of a session that came from this state, by this history, whatever steps of a merge were done: no file was changed but those that it may change; each moment since
-- it began opens to a prefix of the history, outside the sectors that the call names which broke it, if one did, and the last one to all of
-- it; if calls were refused for want of room, a file that it may change is as long as the greatest unit that they were refused at; and where
-- its end was answered no fault, none did, and it is whole.
pub record HasLeft (session merges : Bool) (from : State) (h : History) (full : Option ℕ) (broke : Option Breach) (closed : Result (Unit {0}) StoreFault) (now : Trace) : Type 0 where
  pub to : State
  pub comes : ComesTo from h to
  pub still : LeavesOthers to now
  pub past : EachOpensToPrefix (sector_of to) to.opening to.history (open_by broke) to.leaf to.began now
  pub last : OpensLast to broke now
  pub long : IfSome full (IsSoLong from.writes now)
  pub whole : OnOk closed (IsWhole session merges to now)

-- So it is for each state that the session served when it had begun; at the end a merge is under way, or none is.
abbrev pub LeavesHistory : Session → History → Option ℕ → Option Breach → Bool → Result (Unit {0}) StoreFault → Disk → Type 0
LeavesHistory first h full broke merges closed after =
    WhereBothTold (λ trace now. (from : State) → IsServing first.layers from trace → from.history ≡ [] → HasLeft (is_some first.layers.leaf) merges from h full broke closed now) first.disk.told after.told
