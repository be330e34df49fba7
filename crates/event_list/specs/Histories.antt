-- What the events of a list are told over a disk: event by event, by the history of the calls that were done (profile).
use Rattle.std.specs.Prelude.{◌≡◌, ⊤, ℕ, ◌+◌, ◌<◌, ◌≤◌, ◌^◌, ◌==◌, if◌then◌else◌, All, Bool, true, false, is_some, List, [], ◌∷◌, ◌++◌, length, Option, Some, None, Err, IfSome}
use Rattle.std.specs.List.{AllByRecursion}
use Rattle.store_model.specs.declared.fault.StoreFault.{StoreFault}
use Rattle.store_model.specs.Disk.{WhereTold}
use Rattle.store_model.specs.Trace.{Trace}
use Rattle.guest_model.specs.declared.call.Call.{Call}
use Rattle.guest_model.specs.declared.call.Caller.{Caller}
use Rattle.guest_model.specs.declared.refusal.ChainRefusal.{ChainRefusal}
use Rattle.guest_model.specs.declared.refusal.ChainRefusal.TheVariants.{Broken, NoMerge, NotYet, ReadFault}
use Rattle.guest_model.specs.Calls.{reply}
use Rattle.guest_model.specs.History.{History}
use Rattle.chain_model.specs.Merges.{AllMarked, with_mark}
use Rattle.chain_model.specs.Moments.{EachOpensToPrefix}
use Rattle.merge_core.specs.Copied.{IsLowest, marks_of}
use Rattle.merge_core.specs.declared.piece.Piece.{Piece}
use Rattle.chain_core.specs.Copying.{past_stripes}
use Rattle.chain_core.specs.Refusing.{broken_by, is_read, or_else}
use Rattle.chain_core.specs.Sessions.{HasNoMerge, Session}
use Rattle.chain_core.specs.States.{IsServing, LeavesOthers, State, entry, sector_of}
use Rattle.chain_core.specs.declared.layers.Layers.{Layers}
use Rattle.chain_core.specs.declared.layers.Retiring.{Retiring}
use Rattle.chain_core.specs.declared.layers.Underway.{Underway}
use Rattle.script_session.specs.Histories.{Break, Drive, Grows, IsEndTold, IsLater, IsMarkedSo, IsOver, IsSoLong, OpensLast, Stops, StopsPut, Waiting, all_names, cause_of, disk_after, fault_in, marks_behind, names_left, not_waiting, open_in, stamp_behind, stripes_of}
use Rattle.event_list.specs.Answered.{AnswersEvents}
use Rattle.event_list.specs.declared.event.Event.{Event}
use Rattle.event_list.specs.declared.event.Event.TheVariants.{Guest, Fetch, Put, Finish}
use Rattle.event_list.specs.declared.event.EventAnswer.{EventAnswer}
use Rattle.event_list.specs.declared.event.EventAnswer.TheVariants.{Reply, Stamp, Copied, Finished, Refused}

-- ---- how a merge stands

-- How a merge stands for a list of events: none is under way; or one is, of the leaf or of a file below it, of which these stripes are copied,
-- and in each slot a piece waits to be put, or none does.
pub data Stage : Type 0 where
  no_merge : Stage
  under_way : (of_leaf : Bool) (copied : ℕ → Bool) (waits : ℕ → Option Waiting) → Stage

-- this waits in one slot, and in the others what did
abbrev pub with_slot : ℕ → Option Waiting → (ℕ → Option Waiting) → ℕ → Option Waiting
with_slot slot w waits n = if n == slot then w else waits n

-- nothing waits in one slot
abbrev pub emptied : ℕ → Stage → Stage
emptied slot no_merge = no_merge
emptied slot (under_way of_leaf copied waits) = under_way of_leaf copied (with_slot slot None waits)

-- a call that is done takes away the marks of the leaf's stripes that it touches
abbrev pub behind_call : Call → Stage → Stage
behind_call call no_merge = no_merge
behind_call call (under_way of_leaf copied waits) = under_way of_leaf (marks_behind of_leaf call copied) waits

-- a fetch or a put that is refused leaves nothing that waits in its slot
abbrev pub left_by : Event → Stage → Stage
left_by (Guest who call) stage = stage
left_by (Fetch slot stripe) stage = emptied slot stage
left_by (Put slot) stage = emptied slot stage
left_by Finish stage = stage

-- ---- why an event is refused

-- no merge is under way, or the disk has fewer stripes
abbrev pub no_fetch : ℕ → ℕ → Stage → Option ChainRefusal
no_fetch stripes stripe no_merge = Some NoMerge
no_fetch stripes stripe (under_way of_leaf copied waits) = past_stripes stripe stripes

-- no merge is under way; nothing waits in the slot, or nothing that is still what its stripe has
abbrev pub no_put : History → ℕ → Stage → Option ChainRefusal
no_put h slot no_merge = Some NoMerge
no_put h slot (under_way of_leaf copied waits) = not_waiting of_leaf h (waits slot)

-- no merge is under way
abbrev pub no_finish : Stage → Option ChainRefusal
no_finish no_merge = Some NoMerge
no_finish (under_way of_leaf copied waits) = None

-- The first cause by which an event is refused whatever the files are: a fault broke the session; of a call, its range is none of the disk, or
-- it would change a disk that is only read; of the others, how the merge stands.
abbrev pub event_cause : Drive → History → Option StoreFault → Stage → Event → Option ChainRefusal
event_cause drive h broken stage (Guest who call) = cause_of drive broken call
event_cause drive h broken stage (Fetch slot stripe) = or_else (broken_by broken) (no_fetch (stripes_of drive) stripe stage)
event_cause drive h broken stage (Put slot) = or_else (broken_by broken) (no_put h slot stage)
event_cause drive h broken stage Finish = or_else (broken_by broken) (no_finish stage)

-- ---- what an event is told

-- What an event is told behind a history, as the merge stands and where a fault broke the session if one did, and how both stand behind it.
-- It has its cause and is refused by it. Or a call is done, as the history's next, and answered by the disk of the history; or it is stopped; or a
-- change of the leaf fails, and breaks the session. Or a stripe is fetched, under the stamp that it has, and waits in its slot; or a fault stops
-- it, and nothing waits there. Or what waits in a slot and is what its stripe has is put, and the stripe is copied; or that is stopped, or
-- breaks the session. Or, all stripes being copied, the merge is finished, or that breaks the session; else the lowest stripe is told that
-- isn't copied.
pub data IsEventTold (drive : Drive) (h : History) : Stage → Option Break → Event → EventAnswer → Stage → Option Break → Type 0 where
  is_refused : (stage : Stage) (broken : Option Break) (event : Event) (e : ChainRefusal) → event_cause drive h (fault_in broken) stage event ≡ Some e → IsEventTold drive h stage broken event (Refused e) (left_by event stage) broken
  is_done : (stage : Stage) (who : Caller) (call : Call) → cause_of drive None call ≡ None
      → IsEventTold drive h stage None (Guest who call) (Reply (length h + 1) (reply (disk_after drive h) call)) (behind_call call stage) None
  is_stopped : (stage : Stage) (who : Caller) (call : Call) (e : ChainRefusal) → cause_of drive None call ≡ None → Stops call e → IsEventTold drive h stage None (Guest who call) (Refused e) stage None
  call_breaks : (stage : Stage) (who : Caller) (call : Call) (fault : StoreFault) → cause_of drive None call ≡ None → is_read call ≡ false
      → IsEventTold drive h stage None (Guest who call) (Refused (Broken fault.file fault.count)) stage (Some (record { fault = fault; call = Some call }))
  is_fetched : (l : Bool) (copied : ℕ → Bool) (waits : ℕ → Option Waiting) (slot stripe : ℕ) → stripe < stripes_of drive
      → IsEventTold drive h (under_way l copied waits) None (Fetch slot stripe) (Stamp (stamp_behind l h stripe)) (under_way l copied (with_slot slot (Some (record { stripe = stripe; stamp = stamp_behind l h stripe })) waits)) None
  fetch_stopped : (l : Bool) (copied : ℕ → Bool) (waits : ℕ → Option Waiting) (slot stripe file count : ℕ) → stripe < stripes_of drive
      → IsEventTold drive h (under_way l copied waits) None (Fetch slot stripe) (Refused (ReadFault file count)) (under_way l copied (with_slot slot None waits)) None
  is_put : (l : Bool) (copied : ℕ → Bool) (waits : ℕ → Option Waiting) (slot : ℕ) (w : Waiting) → waits slot ≡ Some w → w.stamp ≡ stamp_behind l h w.stripe
      → IsEventTold drive h (under_way l copied waits) None (Put slot) Copied (under_way l (with_mark w.stripe copied) (with_slot slot None waits)) None
  put_stopped : (l : Bool) (copied : ℕ → Bool) (waits : ℕ → Option Waiting) (slot : ℕ) (w : Waiting) (e : ChainRefusal) → waits slot ≡ Some w → w.stamp ≡ stamp_behind l h w.stripe → StopsPut e
      → IsEventTold drive h (under_way l copied waits) None (Put slot) (Refused e) (under_way l copied (with_slot slot None waits)) None
  put_breaks : (l : Bool) (copied : ℕ → Bool) (waits : ℕ → Option Waiting) (slot : ℕ) (w : Waiting) (fault : StoreFault) → waits slot ≡ Some w → w.stamp ≡ stamp_behind l h w.stripe
      → IsEventTold drive h (under_way l copied waits) None (Put slot) (Refused (Broken fault.file fault.count)) (under_way l copied (with_slot slot None waits)) (Some (record { fault = fault; call = None }))
  is_finished : (l : Bool) (copied : ℕ → Bool) (waits : ℕ → Option Waiting) → AllMarked (stripes_of drive) copied → IsEventTold drive h (under_way l copied waits) None Finish Finished no_merge None
  not_yet : (l : Bool) (copied : ℕ → Bool) (waits : ℕ → Option Waiting) (stripe : ℕ) → IsLowest (stripes_of drive) copied stripe
      → IsEventTold drive h (under_way l copied waits) None Finish (Refused (NotYet stripe)) (under_way l copied waits) None
  finish_breaks : (l : Bool) (copied : ℕ → Bool) (waits : ℕ → Option Waiting) (fault : StoreFault) → AllMarked (stripes_of drive) copied
      → IsEventTold drive h (under_way l copied waits) None Finish (Refused (Broken fault.file fault.count)) (under_way l copied waits) (Some (record { fault = fault; call = None }))

-- the history behind an event: a call that is done is the next entry; a refused one, and each step of the merge, leaves it
abbrev pub with_event : Event → EventAnswer → History → History
with_event (Guest who call) (Reply place given) h = h ++ entry who call ∷ []
with_event event answer h = h

-- Events are told so one after the other: from a history, how the merge stands, and what has broken the session if it is broken, to those
-- behind the last event.
pub data AreTold (drive : Drive) : History → Stage → Option Break → List Event → List EventAnswer → History → Stage → Option Break → Type 0 where
  none_left : (h : History) (stage : Stage) (broken : Option Break) → AreTold drive h stage broken [] [] h stage broken
  event_told : (h last : History) (stage on end : Stage) (broken mid after : Option Break) (event : Event) (events : List Event) (answer : EventAnswer) (later : List EventAnswer)
      → IsEventTold drive h stage broken event answer on mid → AreTold drive (with_event event answer h) on mid events later last end after → AreTold drive h stage broken (event ∷ events) (answer ∷ later) last end after

-- ---- and what stands behind them

-- the merge that layers have is the one that stands so
abbrev pub IsAt : Layers → Stage → Type 0
IsAt layers no_merge = HasNoMerge layers
IsAt layers (under_way of_leaf copied waits) = IsMarkedSo layers copied of_leaf

-- A session stands so over the state: it serves the history, and the merge stands so; or a fault has broken it, in a call that is the next
-- one behind the whole history for good or in a step of the merge, and each moment since it began opens to a prefix of the history, the
-- last one to all of it.
pub data Stands (v : State) (s : Session) (now : Trace) (stage : Stage) : Option Break → Type 0 where
  serves : s.broken ≡ None → IsServing s.layers v now → IsAt s.layers stage → Stands v s now stage None
  is_broken : (b : Break) → s.broken ≡ Some b.fault → LeavesOthers v now
      → EachOpensToPrefix (sector_of v) v.opening v.history (open_in (sector_of v) b.call) v.leaf v.began now → OpensLast v b.call now → Stands v s now stage (Some b)

-- what an event is told of a file's end, where it is refused as that is full
abbrev pub IsFullTold : (ℕ → Type 0) → EventAnswer → Type 0
IsFullTold P (Refused refusal) = IsEndTold P (Err refusal)
IsFullTold P other = ⊤

-- what the events run over: the state's disk as it was when the session began, in the session's geometry, to be changed if its leaf is in a
-- session
abbrev pub drive_of : State → Session → Drive
drive_of v s = record { geometry = s.layers.geometry; can_change = is_some s.layers.leaf; opening = v.opening }

-- how the merge stands in layers before the first event: nothing waits to be put
abbrev pub stage_in : Option Underway → Option Retiring → Stage
stage_in None None = no_merge
stage_in None (Some r) = under_way true (marks_of r.marks) (λ slot. None)
stage_in (Some u) r = under_way false (marks_of u.marks) (λ slot. None)

abbrev pub stage_of : Layers → Stage
stage_of layers = stage_in layers.merge layers.retiring

-- What the events were told, and where the session stands behind them: it is a later one of the same files, and once the merge is finished its
-- chain is without the source.
pub record TellsEvents (events : List Event) (answers : List EventAnswer) (v : State) (trace : Trace) (old new : Session) : Type 0 where
  pub later : State
  pub now : Trace
  pub end : Stage
  pub broken : Option Break
  pub seen : new.disk.told ≡ Some now
  pub told_so : AreTold (drive_of v old) v.history (stage_of old.layers) None events answers later.history end broken
  pub same : IsLater v later.history later
  pub over : IsOver (drive_of v old) later new
  pub stands : Stands later new now end broken
  pub without : broken ≡ None → end ≡ no_merge → all_names later ≡ names_left v
  -- a file that is told to be full is at its end, and none got shorter
  pub full : AllByRecursion (IsFullTold (IsSoLong v.writes now)) answers
  pub grows : Grows trace now

-- the recorder has as many entries as the history, and those if it tells them
pub record IsRecorded (v : State) (s : Session) : Type 0 where
  pub noted : s.noted ≡ length v.history
  pub kept : IfSome s.told (λ h. h ≡ v.history)

-- Events were run over a session: each was answered, in order, behind the answers that were there, nothing being fetched before the first. And
-- where the session isn't broken and tells its content they were told the history of each state that it serves, unless so many are counted.
pub record HasRun (events : List Event) (before after : List EventAnswer) (old new : Session) : Type 0 where
  pub answers : List EventAnswer
  pub added : after ≡ before ++ answers
  pub pieces : List Piece
  pub left : List Piece
  pub empty : All (λ piece. piece.filled ≡ false) pieces
  pub answered : AnswersEvents events answers old pieces new left
  pub told : old.broken ≡ None → old.events + length events ≤ 2 ^ 63
      → WhereTold old.disk.told (λ trace. (v : State) → IsServing old.layers v trace → IsRecorded v old → TellsEvents events answers v trace old new)
