-- What a session gives at its end, whatever front its guests come by (profile).
use Rattle.std.specs.Prelude.{◌≡◌, ⊤, ℕ, Bool, true, is_err, Option, Some, Result, Err}
use Rattle.store_model.specs.declared.fault.StoreFault.{StoreFault}
use Rattle.guest_model.specs.declared.refusal.ChainRefusal.{ChainRefusal}
use Rattle.guest_model.specs.declared.refusal.ChainRefusal.TheVariants as refusals
use Rattle.script_session.specs.declared.session.ScriptRun.{ScriptRun}

-- The last fault that refused a call or a step of a merge; the fault by which the end failed, if it did, or that had broken the session; how many
-- reads failed by a reader; and whether memory ran out.
pub record Ending : Type 0 where
  pub fault : Option StoreFault
  pub closed : Result (Unit {0}) StoreFault
  pub unread : ℕ
  pub short : Bool

-- that of a script's run, of which so many reads failed by a reader: where memory ran out it has no transcript
abbrev pub ending_of : ScriptRun → ℕ → Ending
ending_of run unread = record { fault = run.fault; closed = run.closed; unread = unread; short = is_err run.transcript }

-- Why a merge isn't finished at the end: a file is full; a read failed, as the last fault that was met; a fault has broken the session; or memory
-- ran out.
abbrev pub StopsMerge : Ending → ChainRefusal → Type 0
StopsMerge end (refusals.FileFull next) = ⊤
StopsMerge end (refusals.ReadFault file count) = end.fault ≡ Some (record { file = file; count = count })
StopsMerge end (refusals.Broken file count) = end.closed ≡ Err (record { file = file; count = count })
StopsMerge end refusals.NoRoom = end.short ≡ true
StopsMerge end other = ⊥
