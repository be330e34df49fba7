-- One event is told the history and how a merge stands.
use Rattle.std.proofs.Common.{◌≡◌, ◌≤◌, ◌+◌, ℕ, Bool, List, Option, Some, None, Err, sym, ap, subst, ◌∙◌}
use Rattle.store_model.specs.declared.fault.StoreFault.{StoreFault}
use Rattle.store_model.specs.Trace.{Trace}
use Rattle.guest_model.specs.declared.refusal.ChainRefusal.{ChainRefusal}
use Rattle.guest_model.specs.History.{History}
use Rattle.chain_model.specs.Moments.{EachOpensToPrefix}
use Rattle.merge_core.specs.declared.piece.Piece.{Piece}
use Rattle.chain_core.specs.Answering.{HasEnded}
use Rattle.chain_core.specs.Sessions.{Session}
use Rattle.chain_core.specs.States.{IsServing, LeavesOthers, State, sector_of}
use Rattle.script_session.specs.Histories.{Break, Drive, Grows, IsEndTold, IsLater, IsOver, IsSoLong, OpensLast, Waiting, copying, fault_in, no_merge as script_no_merge, open_in}
use Rattle.script_session.specs.MergeSteps.{IsUnchanged}
use Rattle.script_session.specs.Told.{asks_fetch, asks_finish, asks_put}
use Rattle.script_session.proofs.Copying.{IsCopying}
use Rattle.script_session.proofs.Lengths.{cause_free, grows_none, step_free}
use Rattle.script_session.proofs.Telling.{opens_last, over_events}
use Rattle.event_list.specs.Histories.{IsAt, IsEventTold, IsFullTold, Stage, Stands, event_cause, is_broken, is_refused, left_by, no_merge, serves, under_way, with_event}
use Rattle.event_list.specs.declared.event.Event.{Event}
use Rattle.event_list.specs.declared.event.Event.TheVariants.{Guest, Fetch, Put, Finish}
use Rattle.event_list.specs.declared.event.EventAnswer.{EventAnswer}
use Rattle.event_list.specs.declared.event.EventAnswer.TheVariants.{Refused}
use Rattle.event_list.proofs.Exchanged.{HoldsAll, HoldsEach}

-- ---- where a session stands, with what its slots hold

pub data StandsWith (v : State) (s : Session) (pieces : List Piece) (now : Trace) (stage : Stage) : Option Break → Type 0 where
  serves_with : s.broken ≡ None → IsServing s.layers v now → IsAt s.layers stage → HoldsEach v s.layers.geometry pieces stage → StandsWith v s pieces now stage None
  broken_with : (b : Break) → s.broken ≡ Some b.fault → LeavesOthers v now
      → EachOpensToPrefix (sector_of v) v.opening v.history (open_in (sector_of v) b.call) v.leaf v.began now → OpensLast v b.call now → StandsWith v s pieces now stage (Some b)

-- and without them
pub stands_out : (v : State) (s : Session) (pieces : List Piece) (now : Trace) (stage : Stage) (broken : Option Break) → StandsWith v s pieces now stage broken → Stands v s now stage broken
stands_out v s pieces now stage None (serves_with whole h at holds) = serves whole h at
stands_out v s pieces now stage (Some b) (broken_with _ e others past last) = is_broken b e others past last

-- the fault of a session is the one by which it was broken
pub broken_by_it : (v : State) (s : Session) (pieces : List Piece) (now : Trace) (stage : Stage) (broken : Option Break) → StandsWith v s pieces now stage broken → s.broken ≡ fault_in broken
broken_by_it v s pieces now stage None (serves_with whole h at holds) = whole
broken_by_it v s pieces now stage (Some b) (broken_with _ e others past last) = e

-- What one event was told, and where the session stands behind it.
pub record EventTold (drive : Drive) (event : Event) (answer : EventAnswer) (v : State) (stage : Stage) (broken : Option Break) (events : ℕ) (trace : Trace) (new : Session) (left : List Piece) : Type 0 where
  pub state : State
  pub now : Trace
  pub on : Stage
  pub after : Option Break
  pub told_so : IsEventTold drive v.history stage broken event answer on after
  pub history : with_event event answer v.history ≡ state.history
  pub same : (h : History) (later : State) → IsLater state h later → IsLater v h later
  pub over : IsOver drive state new
  pub seen : new.disk.told ≡ Some now
  pub stands : StandsWith state new left now on after
  pub few : new.events ≤ events + 1
  pub full : IsFullTold (IsSoLong v.writes now) answer
  pub grows : Grows trace now

-- ---- a cause tells no end of a file

pub event_free : (P : ℕ → Type 0) (drive : Drive) (h : History) (broken : Option StoreFault) (stage : Stage) (event : Event) (x : ChainRefusal) → event_cause drive h broken stage event ≡ Some x → IsEndTold P (Err x)
event_free P drive h broken stage (Guest who call) x is = cause_free P drive broken call x is
event_free P drive h broken no_merge (Fetch slot stripe) x is = step_free P drive h broken script_no_merge (asks_fetch stripe) x is
event_free P drive h broken (under_way l copied waits) (Fetch slot stripe) x is = step_free P drive h broken (copying l copied None) (asks_fetch stripe) x is
event_free P drive h broken no_merge (Put slot) x is = step_free P drive h broken script_no_merge asks_put x is
event_free P drive h broken (under_way l copied waits) (Put slot) x is = step_free P drive h broken (copying l copied (waits slot)) asks_put x is
event_free P drive h broken no_merge Finish x is = step_free P drive h broken script_no_merge asks_finish x is
event_free P drive h broken (under_way l copied waits) Finish x is = step_free P drive h broken (copying l copied None) asks_finish x is

-- ---- how an event ends

module _ (drive : Drive) (v : State) (old new : Session) (pieces left : List Piece) (over : IsOver drive v old) (trace : Trace) (seen : old.disk.told ≡ Some trace) where
  abbrev Line : Event → EventAnswer → Stage → Option Break → Type 0
  Line event answer stage broken = EventTold drive event answer v stage broken old.events trace new left

  stands_same : (stage on : Stage) (broken : Option Break) → IsUnchanged old new → StandsWith v old pieces trace stage broken → (IsAt old.layers stage → IsAt old.layers on)
      → (HoldsEach v old.layers.geometry pieces stage → HoldsEach v old.layers.geometry left on) → StandsWith v new left trace on broken
  stands_same stage on None is (serves_with whole h at holds) place keep = subst (λ s. StandsWith v s left trace on None) (sym is) (serves_with whole h (place at) (keep holds))
  stands_same stage on (Some b) is (broken_with _ e others past last) place keep = subst (λ s. StandsWith v s left trace on (Some b)) (sym is) (broken_with b e others past last)

  -- it has its cause
  pub barred : (event : Event) (stage : Stage) (broken : Option Break) (x : ChainRefusal) → event_cause drive v.history (fault_in broken) stage event ≡ Some x → with_event event (Refused x) v.history ≡ v.history
      → IsUnchanged old new → new.events ≤ old.events + 1 → StandsWith v old pieces trace stage broken → (IsAt old.layers stage → IsAt old.layers (left_by event stage))
      → (HoldsEach v old.layers.geometry pieces stage → HoldsEach v old.layers.geometry left (left_by event stage)) → Line event (Refused x) stage broken
  barred event stage broken x cause still is events stands place keep = record {
    state = v;
    now = trace;
    on = left_by event stage;
    after = broken;
    told_so = is_refused stage broken event x cause;
    history = still;
    same = λ h later is. is;
    over = subst (IsOver drive v) (sym is) (over_events drive v old new.events over);
    seen = ap (λ (s : Session). s.disk.told) is ∙ seen;
    stands = stands_same stage (left_by event stage) broken is stands place keep;
    few = events;
    full = event_free (IsSoLong v.writes trace) drive v.history (fault_in broken) stage event x cause;
    grows = grows_none trace;
  }

  -- the session goes on, with these stripes copied
  pub goes_on : (event : Event) (answer : EventAnswer) (stage : Stage) (state : State) (now : Trace) (l : Bool) (copied : ℕ → Bool) (waits : ℕ → Option Waiting) → IsEventTold drive v.history stage None event answer (under_way l copied waits) None
      → with_event event answer v.history ≡ state.history → ((h : History) (later : State) → IsLater state h later → IsLater v h later) → IsCopying drive state new now l copied → HoldsAll state new.layers.geometry left waits
      → new.events ≤ old.events + 1 → IsFullTold (IsSoLong v.writes now) answer → Grows trace now → Line event answer stage None
  goes_on event answer stage state now l copied waits told_so history same c holds events full grows = record {
    state = state;
    now = now;
    on = under_way l copied waits;
    after = None;
    told_so = told_so;
    history = history;
    same = same;
    over = c.over;
    seen = c.seen;
    stands = serves_with c.whole c.serving c.marks holds;
    few = events;
    full = full;
    grows = grows;
  }

  -- a step of the merge broke it
  pub breaks : (event : Event) (answer : EventAnswer) (stage on : Stage) (now : Trace) (fault : StoreFault) → IsEventTold drive v.history stage None event answer on (Some (record { fault = fault; call = None }))
      → with_event event answer v.history ≡ v.history → IsOver drive v new → new.disk.told ≡ Some now → new.broken ≡ Some fault → HasEnded v trace now
      → new.events ≤ old.events + 1 → IsFullTold (IsSoLong v.writes now) answer → Grows trace now → Line event answer stage None
  breaks event answer stage on now fault told_so history over_now told broken ended events full grows = record {
    state = v;
    now = now;
    on = on;
    after = Some (record { fault = fault; call = None });
    told_so = told_so;
    history = history;
    same = λ h later is. is;
    over = over_now;
    seen = told;
    stands = broken_with (record { fault = fault; call = None }) broken ended.still ended.past (opens_last v trace now ended.moments);
    few = events;
    full = full;
    grows = grows;
  }
