-- Answered steps of a merge are told how it stands.
use Rattle.std.proofs.Common.{inl, inr, ◌≡◌, ◌<◌, ◌≤◌, ◌+◌, ◌^◌, ◌||◌, ℕ, Bool, true, false, List, [], ◌∷◌, ◌++◌, ◌==◌, length, map, Option, Some, None, Result, Ok, Err, refl, sym, ap, ap₂, subst, ◌∙◌, arith}
use Rattle.std.specs.Prelude.{IfSome, OnErr, if◌then◌else◌, is_some}
use Rattle.std.proofs.lemmas.Bool.{eqb-true, lt-ltb}
use Rattle.store_model.specs.declared.fault.StoreFault.{StoreFault}
use Rattle.store_model.specs.Trace.{Trace}
use Rattle.guest_model.specs.declared.refusal.ChainRefusal.{ChainRefusal}
use Rattle.guest_model.specs.declared.refusal.ChainRefusal.TheVariants.{Abandoned, Broken, EmptyRange, FileFull, NoMerge, NoPiece, NoRoom, NoStripe, NotYet, OutOfRange, ReadFault, ReadOnly, Spent, Stale, TooLong}
use Rattle.guest_model.specs.History.{History}
use Rattle.chain_model.specs.Merges.{AllMarked, with_mark}
use Rattle.chain_model.specs.Stripes.{stripe_count}
use Rattle.merge_core.specs.Copied.{IsLowest}
use Rattle.merge_core.specs.Pieces.{piece_of}
use Rattle.merge_core.specs.declared.piece.Piece.{Piece}
use Rattle.chain_core.specs.Answering.{HasEnded, fault_of}
use Rattle.chain_core.specs.Copying.{IfStopped, IsMissing, fetch_refused, merge_refused, no_merge as no_merge_in, no_stripe, past_stripes, put_refused, stale, stamp_of, unfilled}
use Rattle.chain_core.specs.Finished.{FinishAnswers, FinishCause, HasFinished, IsFinished, IsSucceeded, LeavesBy, Look, Succeeds, left_of, look_of}
use Rattle.chain_core.specs.Merging.{with_put}
use Rattle.chain_core.specs.Refusing.{broken_by, or_else, unfit}
use Rattle.chain_core.specs.Sessions.{IsSound, Session, has_merge, kept_marks}
use Rattle.chain_core.specs.declared.layers.Layers.{Layers}
use Rattle.chain_core.specs.declared.layers.Retiring.{Retiring}
use Rattle.chain_model.specs.Images.{Placed}
use Rattle.chain_model.specs.Layers.{Layer as SectorLayer}
use Rattle.vx_base.specs.declared.parts.Geometry.{Geometry}
use Rattle.chain_core.specs.declared.layers.Underway.{Underway}
use Rattle.chain_core.specs.States.{IsRetiring, IsServing, Rest, State, merging, plain, retiring, sector_of}
use Rattle.script.specs.Transcript.{has_stamp, is_copied as has_copied, is_done as is_whole}
use Rattle.script_session.specs.Answers.{as_copied, as_done, with_stamp}
use Rattle.script_session.specs.Histories.{Break, Course, Drive, Grows, HoldsWaiting, IsEndTold, IsLater, IsLineTold, IsMissed, IsOnCourse, IsOver, IsSoLong, IsStepTold, IsWaiting, Stands, Waiting, all_copied, copied_to, copy_breaks, copy_stopped, copying, fault_in, fetch_stopped, finish_breaks, is_barred, is_broken, is_fetched, is_finished, is_put, left_by, merges_leaf, no_merge, none_missing, not_yet, put_breaks, put_stopped, serves, stamp_behind, staying, step_cause, stripes_of, with_line}
use Rattle.script_session.specs.MergeSteps.{AnswersCopy, AnswersFetch, AnswersFinish, AnswersPut, AnswersTurn, EndsCopy, IsUnchanged, all_moved, one_refused}
use Rattle.script_session.specs.Told.{Asked, Told, asks_copy, asks_fetch, asks_finish, asks_put}
use Rattle.script_session.proofs.Copying.{FetchEnds, IsCopying, PutEnds, Unfetched, all_is, fetch_err, fetch_ok, has_failed, is_fit, is_past, lowest_is, marked_is, merge_cause, never_stale, next_is, over_kept, put_cause, put_err, put_fails, put_ok, put_stops, unchanged}
use Rattle.script_session.proofs.LeftFiles.{later_put, later_same, looks_names, looks_numbers, name_of, names_seen, number_of, numbers_seen}
use Rattle.script_session.proofs.Lengths.{end_later, grows_none, grows_on, long_later, moments_grow, past_free, step_free, writes_before}
use Rattle.script_session.proofs.Marked.{marked_as}
use Rattle.script_session.proofs.Moving.{unfilled_refused}
use Rattle.script_session.proofs.Telling.{LineTold, both_told, opens_last, over_events}
use Rattle.script_session.proofs.Turns.{Moved, Stopped, Turned, moved_none, moved_some, past_front, same_front, sound_of, turn_events, turn_stopped, turns_led}

-- ---- causes

pub broken_refused : (s : Session) (later : Option ChainRefusal) (fault : StoreFault) → s.events < 2 ^ 63 → s.broken ≡ Some fault → or_else (unfit s.events s.broken) later ≡ Some (Broken fault.file fault.count)
broken_refused s later fault few e =
    ap₂ (λ (b : Bool) (o : Option StoreFault). or_else (if b then broken_by o else Some (Spent s.events)) later) (lt-ltb s.events (2 ^ 63) few) e

-- with no merge under way
module _ (s : Session) (few : s.events < 2 ^ 63) (whole : s.broken ≡ None) (none : s.layers.merge ≡ None) (alone : s.layers.retiring ≡ None) where
  is_none : has_merge s.layers ≡ false
  is_none = ap₂ (λ (o : Option Underway) (r : Option Retiring). is_some o || is_some r) none alone

  barred_is : no_merge_in s.layers ≡ Some NoMerge
  barred_is = ap (λ b. if b then None else Some NoMerge) is_none

  pub fetch_none : (stripe : ℕ) → fetch_refused stripe s ≡ Some NoMerge
  fetch_none stripe = ap₂ or_else (is_fit s few whole) (ap (λ b. if b then past_stripes stripe (stripe_count s.layers.geometry.sector s.layers.geometry.sectors) else Some NoMerge) is_none)

  pub put_none : (piece : Piece) → put_refused piece s ≡ Some NoMerge
  put_none piece = ap₂ or_else (is_fit s few whole) (ap (λ m. or_else m (or_else (unfilled piece) (or_else (no_stripe piece.stripe s.layers) (stale piece.stamp (stamp_of s.layers piece.stripe))))) barred_is)

  pub copy_none : merge_refused s ≡ Some NoMerge
  copy_none = ap₂ or_else (is_fit s few whole) barred_is

-- ---- what a finish leaves

pub record FinishLeft (layers : Layers) (v : State) (now : Trace) : Type 0 where
  pub state : State
  pub serving : IsServing layers state now
  pub history : state.history ≡ v.history
  pub opening : state.opening ≡ v.opening
  pub same : (h : History) (later : State) → IsLater state h later → IsLater v h later

abbrev first_look : Look → List Look → Look
first_look other [] = other
first_look other (look ∷ looks) = look

-- of a merge below the leaf
below_left : (layers : Layers) (v : State) (now : Trace) (rest : Rest) → v.rest ≡ rest → merges_leaf rest ≡ false → staying v.top rest ≡ v.top ∷ left_of rest → IsFinished v layers now → FinishLeft layers v now
below_left layers v now rest is below stays done =
    let behind : State = record v { top = done.top; rest = plain done.others } in
    let looks : map look_of (done.top ∷ done.others) ≡ map look_of (staying v.top v.rest) = done.files ∙ ap (λ r. map look_of (v.top ∷ left_of r)) is ∙ ap (map look_of) (sym stays) ∙ ap (λ r. map look_of (staying v.top r)) (sym is) in
    record {
      state = behind;
      serving = done.serving;
      history = refl;
      opening = refl;
      same = λ h later later_is.
          later_same v behind h later refl refl refl (numbers_seen (done.top ∷ done.others) (staying v.top v.rest) looks) (names_seen (done.top ∷ done.others) (staying v.top v.rest) looks) (inl (record {
            number = ap (λ (l : Look). l.number) (ap (first_look (look_of v.top)) done.files);
            name = ap (λ (l : Look). l.name) (ap (first_look (look_of v.top)) done.files);
            retired = refl;
            writes = refl;
            since = refl;
            merges = sym (ap merges_leaf is ∙ below);
          })) (λ e. let never : false ≡ true = e in cc) (λ e. let never : false ≡ true = e in cc) later_is;
    }

-- and of the leaf
leaf_left : (layers : Layers) (v : State) (now : Trace) (id : List ℕ) (target : Placed) (below : List Placed) (first before : SectorLayer) → v.rest ≡ retiring target below first before → IsSucceeded id v target below layers now → FinishLeft layers v now
leaf_left layers v now id target below first before is done = record {
  state = behind;
  serving = done.serving;
  history = refl;
  opening = refl;
  same = λ h later later_is.
      later_same v behind h later refl refl refl (anew_numbers ∙ ap (λ r. map number_of (staying v.top r)) (sym is)) (anew_names ∙ ap (λ r. map name_of (staying v.top r)) (sym is)) (inr (record {
        leaf = done.leaf;
        merges = ap merges_leaf is;
        ended = refl;
        number = done.is_retired.number;
        name = done.is_retired.name;
        retired = refl;
        writes = refl;
        since = done.still;
        rests = done.rests;
        no_log = done.no_log;
      })) (λ e. let never : false ≡ true = e in cc) (λ e. let never : false ≡ true = e in cc) later_is;
}
  where
    behind : State
    behind = record v { top = done.top; rest = plain done.others; retired = v.retired ++ done.leaf ∷ []; writes = λ n. if n == v.top.number then false else v.writes n; since = now }

    anew_numbers : map number_of (done.top ∷ done.others) ≡ map number_of (target ∷ below)
    anew_numbers = sym (looks_numbers (done.top ∷ done.others)) ∙ ap (map (λ (l : Look). l.number)) done.files ∙ ap (λ rest. target.number ∷ rest) (looks_numbers below)

    anew_names : map name_of (done.top ∷ done.others) ≡ map name_of (target ∷ below)
    anew_names = sym (looks_names (done.top ∷ done.others)) ∙ ap (map (λ (l : Look). l.name)) done.files ∙ ap (λ rest. target.member.name ∷ rest) (looks_names below)

module _ (old new : Layers) (v : State) (now : Trace) where
  abbrev Leaving : Option Retiring → Rest → Type 0
  Leaving r rest = IsRetiring (sector_of v) v.writes v.history old r v.top rest

  by_leaf : (id : List ℕ) (rest : Rest) → v.rest ≡ rest → Succeeds id v rest new now → FinishLeft new v now
  by_leaf id (plain others) is done = absurd done
  by_leaf id (merging above source target below m) is done = absurd done
  by_leaf id (retiring target below first before) is done = leaf_left new v now id target below first before is done

  by_below : (rest : Rest) → v.rest ≡ rest → Leaving None rest → IsFinished v new now → FinishLeft new v now
  by_below (plain others) is leaving done = below_left new v now (plain others) is refl refl done
  by_below (merging above source target below m) is leaving done = below_left new v now (merging above source target below m) is refl refl done
  by_below (retiring target below first before) is leaving done = absurd leaving

  pub finish_left : (r : Option Retiring) → Leaving r v.rest → LeavesBy r v new now → FinishLeft new v now
  finish_left None leaving done = by_below v.rest refl leaving done
  finish_left (Some r) leaving done = by_leaf r.third v.rest refl done

-- ---- one step

module _ (drive : Drive) (number : ℕ) (v : State) (old new : Session) (slot left : Piece) (over : IsOver drive v old) (trace : Trace) (seen : old.disk.told ≡ Some trace) (few : old.events + 2 ^ 34 ≤ 2 ^ 63) where
  abbrev Line : Asked → Told → Course → Option Break → Type 0
  Line step t course broken = LineTold drive number step t v course broken old.events trace new left

  inside : old.events < 2 ^ 63
  inside = omega (arith, few)

  stands_same : (course on : Course) (broken : Option Break) → IsUnchanged old new → Stands v old slot trace course broken → (IsOnCourse v old.layers slot course → IsOnCourse v old.layers left on) → Stands v new left trace on broken
  stands_same course on None is (serves whole h c) keep = subst (λ s. Stands v s left trace on None) (sym is) (serves whole h (keep c))
  stands_same course on (Some b) is (is_broken _ e others past last) keep = subst (λ s. Stands v s left trace on (Some b)) (sym is) (is_broken b e others past last)

  -- it has its cause
  barred : (step : Asked) (course : Course) (broken : Option Break) (x : ChainRefusal) → step_cause drive v.history (fault_in broken) course step ≡ Some x
      → (IsStepTold drive v.history course broken step (Err x) (left_by step course) broken → IsLineTold drive v.history course broken step (Err x) (left_by step course) broken) → with_line number step (Err x) v.history ≡ v.history
      → IsUnchanged old new → new.events ≤ old.events + 1 → Stands v old slot trace course broken → (IsOnCourse v old.layers slot course → IsOnCourse v old.layers left (left_by step course)) → Line step (Err x) course broken
  barred step course broken x cause as_told still is events stands keep = record {
    state = v;
    now = trace;
    on = left_by step course;
    after = broken;
    told_so = as_told (is_barred course broken step x cause);
    history = still;
    same = λ h later is. is;
    over = subst (IsOver drive v) (sym is) (over_events drive v old new.events over);
    seen = ap (λ (s : Session). s.disk.told) is ∙ seen;
    stands = stands_same course (left_by step course) broken is stands keep;
    few = omega (arith, events);
    full = step_free (IsSoLong v.writes trace) drive v.history (fault_in broken) course step x cause;
    grows = grows_none trace;
  }

  -- the session goes on, with these stripes copied
  goes_on : (step : Asked) (t : Told) (course : Course) (state : State) (now : Trace) (l : Bool) (copied : ℕ → Bool) (waits : Option Waiting) → IsLineTold drive v.history course None step t (copying l copied waits) None → with_line number step t v.history ≡ state.history
      → ((h : History) (later : State) → IsLater state h later → IsLater v h later) → IsCopying drive state new now l copied → HoldsWaiting state new.layers.geometry left waits → new.events ≤ old.events + 2 ^ 34 → IsEndTold (IsSoLong v.writes now) t → Grows trace now
      → Line step t course None
  goes_on step t course state now l copied waits told_so history same c holds events full grows = record {
    state = state;
    now = now;
    on = copying l copied waits;
    after = None;
    told_so = told_so;
    history = history;
    same = same;
    over = c.over;
    seen = c.seen;
    stands = serves c.whole c.serving (c.marks, holds);
    few = events;
    full = full;
    grows = grows;
  }

  -- a step of the merge broke it
  breaks : (step : Asked) (t : Told) (course on : Course) (state : State) (from now : Trace) (fault : StoreFault) → IsLineTold drive v.history course None step t on (Some (record { fault = fault; call = None }))
      → with_line number step t v.history ≡ state.history → ((h : History) (later : State) → IsLater state h later → IsLater v h later) → IsOver drive state new → new.disk.told ≡ Some now → new.broken ≡ Some fault → HasEnded state from now
      → new.events ≤ old.events + 2 ^ 34 → IsEndTold (IsSoLong v.writes now) t → Grows trace now → Line step t course None
  breaks step t course on state from now fault told_so history same over_now told broken ended events full grows = record {
    state = state;
    now = now;
    on = on;
    after = Some (record { fault = fault; call = None });
    told_so = told_so;
    history = history;
    same = same;
    over = over_now;
    seen = told;
    stands = is_broken (record { fault = fault; call = None }) broken ended.still ended.past (opens_last state from now ended.moments);
    few = events;
    full = full;
    grows = grows;
  }

  under_way : (l : Bool) (copied : ℕ → Bool) (waits : Option Waiting) → old.broken ≡ None → IsServing old.layers v trace → IsOnCourse v old.layers slot (copying l copied waits) → IsCopying drive v old trace l copied
  under_way l copied waits whole serving on = record { whole = whole; serving = serving; marks = on.0; over = over; seen = seen }

  -- ---- a fetch

  fetch_keeps : (stripe : ℕ) (course : Course) → left.filled ≡ false → IsOnCourse v old.layers slot course → IsOnCourse v old.layers left (left_by (asks_fetch stripe) course)
  fetch_keeps stripe no_merge empty on = on
  fetch_keeps stripe (copying l copied waits) empty on = (on.0, empty)

  fetch_barred : (stripe : ℕ) (course : Course) (broken : Option Break) (answer : Result ℕ ChainRefusal) (x : ChainRefusal) → fetch_refused stripe old ≡ Some x → step_cause drive v.history (fault_in broken) course (asks_fetch stripe) ≡ Some x
      → Stands v old slot trace course broken → AnswersFetch stripe answer old new left → Line (asks_fetch stripe) (with_stamp answer) course broken
  fetch_barred stripe course broken answer x refused cause stands h =
      let early = subst (λ o. IfStopped {T = ℕ} o answer (IsUnchanged old new)) refused h.early in
      let empty : left.filled ≡ false = subst (λ (a : Result ℕ ChainRefusal). OnErr a (left.filled ≡ false)) early.0 h.emptied in
      subst (λ a. Line (asks_fetch stripe) (with_stamp a) course broken) (sym early.0)
      (barred (asks_fetch stripe) course broken x cause (λ t. t) refl early.1 h.events stands (fetch_keeps stripe course empty))

  fetch_ended : (stripe : ℕ) (l : Bool) (copied : ℕ → Bool) (waits : Option Waiting) (x : ChainRefusal) → left.filled ≡ false → new.events ≤ old.events + 1 → Unfetched drive v trace new l copied stripe x → Line (asks_fetch stripe) (Err x) (copying l copied waits) None
  fetch_ended stripe l copied waits x empty events u = go x u.ends
    where
      on : (x : ChainRefusal) → IsStepTold drive v.history (copying l copied waits) None (asks_fetch stripe) (Err x) (copying l copied None) None → IsEndTold (IsSoLong v.writes u.now) (Err x) → Line (asks_fetch stripe) (Err x) (copying l copied waits) None
      on x told_so full = goes_on (asks_fetch stripe) (Err x) (copying l copied waits) v u.now l copied None told_so refl (λ h later is. is) u.copying empty (omega (arith, events)) full u.grows

      go : (x : ChainRefusal) → FetchEnds drive stripe x → Line (asks_fetch stripe) (Err x) (copying l copied waits) None
      go x (is_past _ past) = on x (is_barred (copying l copied waits) None (asks_fetch stripe) x past) (past_free (IsSoLong v.writes u.now) stripe (stripes_of drive) x past)
      go _ (has_failed file count there) = on (ReadFault file count) (fetch_stopped l copied waits stripe file count there) tt

  pub fetch_line : (stripe : ℕ) (course : Course) (broken : Option Break) (answer : Result ℕ ChainRefusal) → Stands v old slot trace course broken → AnswersFetch stripe answer old new left → Line (asks_fetch stripe) (with_stamp answer) course broken
  fetch_line stripe course (Some b) answer (is_broken _ e others past last) h =
      fetch_barred stripe course (Some b) answer (Broken b.fault.file b.fault.count) (broken_refused old (no_stripe stripe old.layers) b.fault inside e) refl (is_broken b e others past last) h
  fetch_line stripe no_merge None answer (serves whole serving on) h =
      fetch_barred stripe no_merge None answer NoMerge (fetch_none old inside whole on.0 on.1 stripe) refl (serves whole serving on) h
  fetch_line stripe (copying l copied waits) None (Ok stamp) (serves whole serving on) h =
      let f = fetch_ok drive v old trace l copied (under_way l copied waits whole serving on) inside stripe stamp new left h in
      goes_on (asks_fetch stripe) (Ok (None, has_stamp stamp)) (copying l copied waits) v f.now l copied (Some (record { stripe = stripe; stamp = stamp_behind l v.history stripe }))
      (subst (λ n. IsStepTold drive v.history (copying l copied waits) None (asks_fetch stripe) (Ok (None, has_stamp n)) (copying l copied (Some (record { stripe = stripe; stamp = stamp_behind l v.history stripe }))) None) (sym f.stamp_is) (is_fetched l copied waits stripe f.inside))
      refl (λ h later is. is) f.copying f.waiting (omega (arith, h.events)) tt f.grows
  fetch_line stripe (copying l copied waits) None (Err x) (serves whole serving on) h =
      fetch_ended stripe l copied waits x h.emptied h.events (fetch_err drive v old trace l copied (under_way l copied waits whole serving on) inside stripe x new left h)

  -- ---- a put

  put_keeps : (course : Course) → left.filled ≡ false → IsOnCourse v old.layers slot course → IsOnCourse v old.layers left (left_by asks_put course)
  put_keeps no_merge empty on = on
  put_keeps (copying l copied waits) empty on = (on.0, empty)

  put_barred : (course : Course) (broken : Option Break) (answer : Result (Unit {0}) ChainRefusal) (x : ChainRefusal) → put_refused slot old ≡ Some x → step_cause drive v.history (fault_in broken) course asks_put ≡ Some x
      → Stands v old slot trace course broken → left.filled ≡ false → AnswersPut slot answer old new → Line asks_put (as_copied answer) course broken
  put_barred course broken answer x refused cause stands empty h =
      let early = subst (λ o. IfStopped {T = Unit {0}} o answer (IsUnchanged old new)) refused h.early in
      subst (λ a. Line asks_put (as_copied a) course broken) (sym early.0)
      (barred asks_put course broken x cause (λ t. t) refl early.1 h.events stands (put_keeps course empty))

  put_ended : (l : Bool) (w : Waiting) (copied : ℕ → Bool) (now : Trace) (x : ChainRefusal) → w.stamp ≡ stamp_behind l v.history w.stripe → left.filled ≡ false → AnswersPut slot (Err x) old new → new.disk.told ≡ Some now → PutEnds drive v new l copied trace now x
      → Line asks_put (Err x) (copying l copied (Some w)) None
  put_ended l w copied now x fresh empty h told (put_stops _ stops full grows c) =
      goes_on asks_put (Err x) (copying l copied (Some w)) v now l copied None (put_stopped l copied w x fresh stops) refl (λ h later is. is) c empty (omega (arith, h.events)) full grows
  put_ended l w copied now _ fresh empty h told (put_fails file count broken ended) =
      breaks asks_put (Err (Broken file count)) (copying l copied (Some w)) (copying l copied None) v trace now (fault_of file count) (put_breaks l copied w (fault_of file count) fresh) refl (λ h later is. is)
      (over_kept drive v old new over h.keeps) told broken ended (omega (arith, h.events)) tt (moments_grow _ trace now ended.moments)

  -- what waits is what its stripe has
  put_fresh : (l : Bool) (w : Waiting) (copied : ℕ → Bool) → IsCopying drive v old trace l copied → IsWaiting v old.layers.geometry w slot → (answer : Result (Unit {0}) ChainRefusal) → w.stamp ≡ stamp_behind l v.history w.stripe → left.filled ≡ false
      → AnswersPut slot answer old new → Line asks_put (as_copied answer) (copying l copied (Some w)) None
  put_fresh l w copied c held (Ok done) fresh empty h =
      let p = put_ok drive v old trace l copied c w slot held new h in
      goes_on asks_put (Ok (None, has_copied)) (copying l copied (Some w)) (with_put (piece_of slot) v) p.now l (with_mark w.stripe copied) None (is_put l copied w fresh) refl (later_put v (piece_of slot)) p.copying empty (omega (arith, h.events)) tt p.grows
  put_fresh l w copied c held (Err x) fresh empty h =
      let none : put_refused slot old ≡ None = put_cause drive v old trace l copied c w slot inside held ∙ ap (stale w.stamp) (sym fresh) ∙ never_stale w.stamp in
      let p = put_err drive v old trace l copied c w slot held x new none h in
      put_ended l w copied p.0 x fresh empty h p.1 p.2

  pub put_line : (course : Course) (broken : Option Break) (answer : Result (Unit {0}) ChainRefusal) → Stands v old slot trace course broken → AnswersPut slot answer old new → left.filled ≡ false → Line asks_put (as_copied answer) course broken
  put_line course (Some b) answer (is_broken _ e others past last) h empty =
      put_barred course (Some b) answer (Broken b.fault.file b.fault.count) (broken_refused old _ b.fault inside e) refl (is_broken b e others past last) empty h
  put_line no_merge None answer (serves whole serving on) h empty =
      put_barred no_merge None answer NoMerge (put_none old inside whole on.0 on.1 slot) refl (serves whole serving on) empty h
  put_line (copying l copied None) None answer (serves whole serving on) h empty =
      let none = merge_cause drive v old trace l copied (under_way l copied None whole serving on) inside in
      put_barred (copying l copied None) None answer NoPiece (unfilled_refused old slot none on.1) refl (serves whole serving on) empty h
  put_line (copying l copied (Some w)) None answer (serves whole serving on) h empty = by_test (w.stamp == stamp_behind l v.history w.stripe) refl
    where
      c : IsCopying drive v old trace l copied
      c = under_way l copied (Some w) whole serving on

      by_test : (b : Bool) → (w.stamp == stamp_behind l v.history w.stripe) ≡ b → Line asks_put (as_copied answer) (copying l copied (Some w)) None
      by_test true same = put_fresh l w copied c on.1 answer (eqb-true w.stamp (stamp_behind l v.history w.stripe) same) empty h
      by_test false other =
          let is : stale w.stamp (stamp_behind l v.history w.stripe) ≡ Some (Stale w.stamp (stamp_behind l v.history w.stripe)) = ap (λ b. if b then None else Some (Stale w.stamp (stamp_behind l v.history w.stripe))) other in
          put_barred (copying l copied (Some w)) None answer (Stale w.stamp (stamp_behind l v.history w.stripe)) (put_cause drive v old trace l copied c w slot inside on.1 ∙ is) is (serves whole serving on) empty h

  -- ---- a copy

  copy_keeps : (course : Course) → left ≡ slot → IsOnCourse v old.layers slot course → IsOnCourse v old.layers left (left_by asks_copy course)
  copy_keeps no_merge same on = on
  copy_keeps (copying l copied waits) same on = (on.0, subst (λ p. HoldsWaiting v old.layers.geometry p waits) (sym same) on.1)

  copy_barred : (course : Course) (broken : Option Break) (answer : Result (Unit {0}) ChainRefusal) (x : ChainRefusal) → merge_refused old ≡ Some x → step_cause drive v.history (fault_in broken) course asks_copy ≡ Some x
      → Stands v old slot trace course broken → AnswersCopy answer old slot new left → Line asks_copy (as_done answer) course broken
  copy_barred course broken answer x refused cause stands h =
      let early = subst (λ o. IfStopped {T = Unit {0}} o answer ((new ≡ old) × (left ≡ slot))) refused h.early in
      let same : new ≡ old = early.1.0 in
      let only : IsUnchanged old new = subst (λ (s : Session). s ≡ record old { events = s.events }) (sym same) refl in
      let events : new.events ≡ old.events = ap (λ (s : Session). s.events) same in
      subst (λ a. Line asks_copy (as_done a) course broken) (sym early.0)
      (barred asks_copy course broken x cause (λ t. t) refl only (omega (arith, events)) stands (copy_keeps course early.1.1))

  module _ (l : Bool) (copied : ℕ → Bool) (waits : Option Waiting) (c : IsCopying drive v old trace l copied) (holds : HoldsWaiting v old.layers.geometry slot waits) where
    abbrev before : Course
    before = copying l copied waits

    copying_on : (state : State) (now : Trace) (front most : ℕ) → front ≤ most → ((t : ℕ) → t < most → copied_to front copied t ≡ true) → IsCopying drive state new now l (copied_to front copied) → IsCopying drive state new now l (copied_to most copied)
    copying_on state now front most le all k = record {
      whole = k.whole;
      serving = k.serving;
      marks = marked_as l new.layers (copied_to front copied) (copied_to most copied) k.marks (same_front front most copied le all);
      over = k.over;
      seen = k.seen;
    }

    -- nothing was missing, or all stripes are copied
    moved_line : IsSound new → IsMissing (kept_marks new.layers) None → (led : Turned drive v old trace l copied new) → Moved (stripes_of drive) copied old new slot left → Line asks_copy (Ok (None, is_whole)) before None
    moved_line sound missing led (moved_none same held) =
        let all : AllMarked (stripes_of drive) copied = all_is drive v old trace l copied c (subst IsSound (sym same) sound) (subst (λ (s : Session). IsMissing (kept_marks s.layers) None) (sym same) missing) in
        let events : new.events ≡ old.events = ap (λ (s : Session). s.events) (sym same) in
        goes_on asks_copy (Ok (None, is_whole)) before v trace l copied waits (none_missing l copied waits all) refl (λ h later is. is) (subst (λ s. IsCopying drive v s trace l copied) same c)
        (subst (λ (s : Session). HoldsWaiting v s.layers.geometry left waits) same (subst (λ p. HoldsWaiting v old.layers.geometry p waits) held holds)) (omega (arith, events)) tt (grows_none trace)
    moved_line sound missing led (moved_some stripe missed empty) =
        let all : AllMarked (stripes_of drive) (copied_to led.front copied) = all_is drive led.state new led.now l (copied_to led.front copied) led.copying sound missing in
        goes_on asks_copy (Ok (None, is_whole)) before led.state led.now l (copied_to (stripes_of drive) copied) None (all_copied l copied waits stripe missed) led.history led.same
        (copying_on led.state led.now led.front (stripes_of drive) led.within all led.copying) empty (omega (arith, led.events, led.low)) tt led.grows

    -- a turn was refused
    stopped_line : (x : ChainRefusal) (stripe : ℕ) (mid : Session) (led : Turned drive v old trace l copied mid) → IsLowest (stripes_of drive) (copied_to led.front copied) stripe → AnswersTurn stripe (Err x) mid new → left.filled ≡ false
        → Line asks_copy (Err x) before None
    stopped_line x stripe mid led low turn empty = go x stop.ends
      where
        marks : ℕ → Bool
        marks = copied_to led.front copied

        past : (led.front ≤ stripe) × (copied stripe ≡ false)
        past = past_front led.front copied stripe low.unmarked

        missed : IsMissed (stripes_of drive) copied stripe
        missed = record { there = low.there; missing = past.1 }

        stop : Stopped drive led.state new l marks led.now x
        stop = turn_stopped drive led.state mid led.now l marks led.copying (omega (arith, led.events, led.low, few)) stripe low x new turn

        more : Grows trace stop.now
        more = grows_on trace led.now stop.now led.grows stop.grows

        events : new.events ≤ old.events + 2 ^ 34
        events = omega (arith, led.events, led.low, turn_events stripe (Err x) mid new turn)

        go : (x : ChainRefusal) → PutEnds drive led.state new l marks stop.from stop.now x → Line asks_copy (Err x) before None
        go x (put_stops _ stops full grows k) =
            goes_on asks_copy (Err x) before led.state stop.now l (copied_to stripe copied) None (copy_stopped l copied waits stripe x missed stops) led.history led.same
            (copying_on led.state stop.now led.front stripe past.0 low.below k) empty events
            (end_later (IsSoLong led.state.writes stop.now) (IsSoLong v.writes stop.now) (λ n. long_later led.state.writes v.writes stop.now stop.now n (writes_before v led.state led.same) (grows_none stop.now)) (Err x) full) more
        go _ (put_fails file count broken ended) =
            breaks asks_copy (Err (Broken file count)) before (copying l (copied_to stripe copied) None) led.state stop.from stop.now (fault_of file count) (copy_breaks l copied waits stripe (fault_of file count) missed) led.history led.same
            stop.over stop.seen broken ended events tt more

    copied_line : (answer : Result (Unit {0}) ChainRefusal) → EndsCopy old slot answer new left → Line asks_copy (as_done answer) before None
    copied_line _ (all_moved _ _ turns sound missing) =
        let led = turns_led drive v old slot trace l copied c few new left turns in
        moved_line sound missing led.0 led.1
    copied_line _ (one_refused x stripe mid _ held _ turns next turn empty) =
        let led = (turns_led drive v old slot trace l copied c few mid held turns).0 in
        let low : IsLowest (stripes_of drive) (copied_to led.front copied) stripe = next_is drive led.state mid led.now l (copied_to led.front copied) led.copying stripe (sound_of stripe (Err x) mid new turn) next.missing in
        stopped_line x stripe mid led low turn empty

  pub copy_line : (course : Course) (broken : Option Break) (answer : Result (Unit {0}) ChainRefusal) → Stands v old slot trace course broken → AnswersCopy answer old slot new left → Line asks_copy (as_done answer) course broken
  copy_line course (Some b) answer (is_broken _ e others past last) h =
      copy_barred course (Some b) answer (Broken b.fault.file b.fault.count) (broken_refused old _ b.fault inside e) refl (is_broken b e others past last) h
  copy_line no_merge None answer (serves whole serving on) h =
      copy_barred no_merge None answer NoMerge (copy_none old inside whole on.0 on.1) refl (serves whole serving on) h
  copy_line (copying l copied waits) None answer (serves whole serving on) h =
      let c = under_way l copied waits whole serving on in
      copied_line l copied waits c on.1 answer (h.turns (merge_cause drive v old trace l copied c inside))

  -- ---- a finish

  finish_keeps : (course : Course) → left ≡ slot → IsOnCourse v old.layers slot course → IsOnCourse v old.layers left (left_by asks_finish course)
  finish_keeps no_merge same on = on
  finish_keeps (copying l copied waits) same on = (on.0, subst (λ p. HoldsWaiting v old.layers.geometry p waits) (sym same) on.1)

  finish_barred : (course : Course) (broken : Option Break) (answer : Result (Unit {0}) ChainRefusal) (x : ChainRefusal) → merge_refused old ≡ Some x → step_cause drive v.history (fault_in broken) course asks_finish ≡ Some x
      → Stands v old slot trace course broken → AnswersFinish answer old new → left ≡ slot → Line asks_finish (as_done answer) course broken
  finish_barred course broken answer x refused cause stands h same =
      let early = subst (λ o. IfStopped {T = Unit {0}} o answer (IsUnchanged old new)) refused h.early in
      subst (λ a. Line asks_finish (as_done a) course broken) (sym early.0)
      (barred asks_finish course broken x cause (λ t. t) refl early.1 h.events stands (finish_keeps course same))

  module _ (l : Bool) (copied : ℕ → Bool) (waits : Option Waiting) (under : IsCopying drive v old trace l copied) (holds : HoldsWaiting v old.layers.geometry slot waits) (same : left ≡ slot) where
    finished_line : AnswersFinish (Ok tt) old new → merge_refused old ≡ None → Line asks_finish (Ok (None, is_whole)) (copying l copied waits) None
    finished_line h none =
        let cause : HasFinished old new = h.cause none in
        let after = both_told _ old.disk.told new.disk.told trace seen (h.told none) in
        let left_so = finish_left old.layers new.layers v after.0 old.layers.retiring under.serving.leaving (after.2 v under.serving).1 in
        let now_over = over_kept drive v old new over h.keeps in
        record {
          state = left_so.state;
          now = after.0;
          on = no_merge;
          after = None;
          told_so = is_finished l copied waits (marked_is drive v old trace l copied under h.sound cause.copied);
          history = sym left_so.history;
          same = left_so.same;
          over = record {
            geometry = now_over.geometry;
            change = now_over.change;
            opening = left_so.opening ∙ now_over.opening;
            sector = ap (λ (g : Geometry). g.sector) (sym left_so.serving.geometry) ∙ ap (λ (g : Geometry). g.sector) h.keeps.geometry ∙ ap (λ (g : Geometry). g.sector) under.serving.geometry ∙ now_over.sector;
            noted = now_over.noted ∙ ap length (sym left_so.history);
            kept = subst (λ hs. IfSome new.told (λ t. t ≡ hs)) (sym left_so.history) now_over.kept;
          };
          seen = after.1;
          stands = serves cause.whole left_so.serving cause.merge;
          few = omega (arith, h.events);
          full = tt;
          grows = moments_grow _ trace after.0 (after.2 v under.serving).0;
        }

    finish_ended : (x : ChainRefusal) (now : Trace) → FinishCause old new (Err x) (IsUnchanged old new) → AnswersFinish (Err x) old new → new.disk.told ≡ Some now → FinishAnswers old.layers.retiring v new.layers trace now (Err x)
        → Line asks_finish (Err x) (copying l copied waits) None
    finish_ended EmptyRange now c h told a = absurd c
    finish_ended (OutOfRange first count sectors) now c h told a = absurd c
    finish_ended (TooLong count limit) now c h told a = absurd c
    finish_ended ReadOnly now c h told a = absurd c
    finish_ended (Broken file count) now c h told a =
        breaks asks_finish (Err (Broken file count)) (copying l copied waits) (copying l copied waits) v trace now (fault_of file count) (finish_breaks l copied waits (fault_of file count) (marked_is drive v old trace l copied under h.sound c.copied)) refl
        (λ hs later is. is) (over_kept drive v old new over h.keeps) told c.broken a (omega (arith, h.events)) tt (moments_grow _ trace now a.moments)
    finish_ended (Spent t) now c h told a = absurd c
    finish_ended (FileFull next) now c h told a = absurd c
    finish_ended (ReadFault file count) now c h told a = absurd c
    finish_ended NoMerge now c h told a = absurd c
    finish_ended (Stale taken at) now c h told a = absurd c
    finish_ended (NotYet stripe) now c h told a =
        let only : IsUnchanged old new = c.1 in
        goes_on asks_finish (Err (NotYet stripe)) (copying l copied waits) v trace l copied waits (not_yet l copied waits stripe (lowest_is drive v old trace l copied under stripe h.sound c.0)) refl (λ hs later is. is)
        (unchanged drive v old trace l copied under new only)
        (subst (λ (s : Session). HoldsWaiting v s.layers.geometry left waits) (sym only) (subst (λ p. HoldsWaiting v old.layers.geometry p waits) (sym same) holds)) (omega (arith, h.events)) tt (grows_none trace)
    finish_ended (Abandoned file count) now c h told a = absurd c
    finish_ended (NoStripe stripe stripes) now c h told a = absurd c
    finish_ended NoPiece now c h told a = absurd c
    finish_ended NoRoom now c h told a = absurd c

    finish_copying : (answer : Result (Unit {0}) ChainRefusal) → AnswersFinish answer old new → merge_refused old ≡ None → Line asks_finish (as_done answer) (copying l copied waits) None
    finish_copying (Ok done) h none = finished_line h none
    finish_copying (Err x) h none =
        let after = both_told _ old.disk.told new.disk.told trace seen (h.told none) in
        finish_ended x after.0 (h.cause none) h after.1 (after.2 v under.serving)

  pub finish_line : (course : Course) (broken : Option Break) (answer : Result (Unit {0}) ChainRefusal) → Stands v old slot trace course broken → AnswersFinish answer old new → left ≡ slot → Line asks_finish (as_done answer) course broken
  finish_line course (Some b) answer (is_broken _ e others past last) h same =
      finish_barred course (Some b) answer (Broken b.fault.file b.fault.count) (broken_refused old _ b.fault inside e) refl (is_broken b e others past last) h same
  finish_line no_merge None answer (serves whole serving on) h same =
      finish_barred no_merge None answer NoMerge (copy_none old inside whole on.0 on.1) refl (serves whole serving on) h same
  finish_line (copying l copied waits) None answer (serves whole serving on) h same =
      let c = under_way l copied waits whole serving on in
      finish_copying l copied waits c on.1 same answer h (merge_cause drive v old trace l copied c inside)
