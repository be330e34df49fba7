-- Answered calls are told the history.
use Rattle.std.proofs.Common.{inl, ◌≡◌, ◌<◌, ◌≤◌, ◌+◌, ◌^◌, ◌||◌, ℕ, Bool, true, false, List, [], ◌∷◌, ◌++◌, length, map, Option, Some, None, Result, Ok, Err, refl, sym, ap, ap₂, subst, ◌∙◌, arith}
use Rattle.std.specs.Prelude.{IfSome, if◌then◌else◌, option_map}
use Rattle.std.proofs.lemmas.Bool.{lt-ltb}
use Rattle.std.proofs.lemmas.List.{length-append, take-append-le}
use Rattle.std.proofs.lemmas.Result.{IfErr-at_err}
use Rattle.vx_base.specs.declared.parts.Geometry.{Geometry}
use Rattle.store_model.specs.Disk.{WhereBothTold}
use Rattle.store_model.specs.Trace.{EachMoment, Trace, moment}
use Rattle.store_model.proofs.Spans.{at_moment-now}
use Rattle.guest_model.specs.declared.call.Call.{Call}
use Rattle.guest_model.specs.declared.call.Call.TheVariants as calls
use Rattle.guest_model.specs.declared.call.Entry.{Entry}
use Rattle.guest_model.specs.declared.call.Reply.{Reply}
use Rattle.guest_model.specs.declared.refusal.ChainRefusal.{ChainRefusal}
use Rattle.guest_model.specs.declared.refusal.ChainRefusal.TheVariants.{Abandoned, Broken, EmptyRange, FileFull, NoMerge, NoPiece, NoRoom, NoStripe, NotYet, OutOfRange, ReadFault, ReadOnly, Spent, Stale, TooLong}
use Rattle.guest_model.specs.Calls.{Disk, reply}
use Rattle.guest_model.specs.History.{History, replay}
use Rattle.chain_core.specs.Answering.{EachOpensNow, HasBroken, HasRoom, IsCausedBy, IsCausedByRead, IsDone, IsRefused, fault_of}
use Rattle.chain_core.specs.Answering as chain
use Rattle.chain_core.specs.Refusing.{barred, broken_by, counted, is_read, misplaced, or_else, out_of, range_of, refused}
use Rattle.chain_core.specs.Sessions.{KeepsMerge, Session}
use Rattle.chain_core.specs.States.{IsNextPlace, NextIn, Rest, State, IsServing, dirty_now, disk_now, entry, made, merging, plain, retiring, sector_of, with_entry}
use Rattle.chain_core.specs.Merging.{IsTrueOf, IsTruePiece}
use Rattle.chain_model.specs.Merges as merges
use Rattle.merge_core.specs.Pieces.{piece_of}
use Rattle.merge_core.specs.declared.piece.Piece.{Piece}
use Rattle.script.specs.Transcript.{of_call}
use Rattle.script_session.specs.Answers.{Answers, AnswersCall, HasCauseOf, with_reply}
use Rattle.script_session.specs.Histories.{Break, Course, Drive, Grows, HoldsWaiting, IsEndTold, IsLater, IsLineTold, IsOnCourse, IsOver, IsSoLong, IsTold, OpensLast, Stands, Stops, asks_room, behind_done, breaks, cause_of, copying, disk_after, fault_in, is_broken, is_done, is_refused, is_stopped, names_left, no_merge, numbers_left, serves, staying, with_line}
use Rattle.script_session.specs.Told.{Asked, Told, asks_call, caller, sector_size}
use Rattle.script_session.proofs.LeftFiles.{later_same}
use Rattle.script_session.proofs.Lengths.{cause_free, end_later, grows_none, long_later, moments_grow}
use Rattle.script_session.proofs.Marked.{marked_called, marked_kept, none_called_on, none_kept}
use Rattle.guest_model.specs.declared.call.Caller.{Caller}
use Rattle.chain_core.specs.Copying.{IsOfStripe, MergeFollows}
use Rattle.chain_core.specs.declared.layers.Layers.{Layers}
use Rattle.chain_model.specs.Layers.{with_history}
use Rattle.chain_model.specs.Moments.{EachOpens}
use Rattle.chain_model.specs.Stripes.{stripe_count}
use Rattle.script_session.proofs.Moving.{counted_low}
use Rattle.script_session.proofs.Room.{IsFull, call_is_far}

-- ---- small steps

pub both_told : (R : Trace → Trace → Type 0) (before after : Option Trace) (trace : Trace) → before ≡ Some trace → WhereBothTold R before after → (now : Trace) × (after ≡ Some now) × R trace now
both_told R before after trace e h = go after (subst (λ o. WhereBothTold R o after) e h)
  where
    go : (after : Option Trace) → WhereBothTold R (Some trace) after → (now : Trace) × (after ≡ Some now) × R trace now
    go None r = absurd r
    go (Some now) r = (now, refl, r)

-- what is so at each moment is so at the last
pub last_moment : (P : Trace → Type 0) (old now : Trace) → EachMoment P old now → P now
last_moment P old now h = subst P (at_moment-now now) (h.each (moment now) h.later (omega arith))

pub opens_last : (v : State) (from now : Trace) → EachOpensNow v from now → OpensLast v None now
opens_last v from now moments image is =
    let o = last_moment (EachOpens v.leaf (dirty_now v) (disk_now v)) from now moments image is in
    record { retired = o.retired; chain = o.chain; linked = o.linked; by = o.by; whole = o.whole; agrees = record { sectors = o.agrees.sectors; same = λ i apart. o.agrees.same i (first_false (dirty_now v i) apart) } }
  where
    first_false : (a : Bool) → (a || false) ≡ false → a ≡ false
    first_false true e = e
    first_false false e = e

-- the place of the next call
pub next_place : (v : State) (noted : ℕ) → noted ≡ length v.history → IsNextPlace (noted + 1) v
next_place v noted same = by_rest v.rest
  where
    by_rest : (rest : Rest) → NextIn rest (noted + 1 ≡ length v.history + 1)
    by_rest (plain others) = tt
    by_rest (merging above source target below m) = tt
    by_rest (retiring target below first before) = ap (λ n. n + 1) same

pub cause_same : (drive : Drive) (v : State) (s : Session) (call : Call) → IsOver drive v s → s.events < 2 ^ 63 → refused call s ≡ cause_of drive s.broken call
cause_same drive v s call over few =
    ap (λ b. or_else (if b then broken_by s.broken else Some (Spent s.events)) (misplaced call s.layers)) (lt-ltb s.events (2 ^ 63) few)
    ∙ ap₂ (λ (g : Geometry) (c : Bool). or_else (broken_by s.broken) (out_of (range_of g call) (barred call c))) over.geometry over.change

pub no_cause_none : (drive : Drive) (broken : Option Break) (call : Call) → cause_of drive (fault_in broken) call ≡ None → broken ≡ None
no_cause_none drive None call h = refl
no_cause_none drive (Some b) call h = cc

-- the fault of a session is the one by which it was broken
pub broken_is : (v : State) (s : Session) (slot : Piece) (trace : Trace) (course : Course) (broken : Option Break) → Stands v s slot trace course broken → s.broken ≡ fault_in broken
broken_is v s slot trace course None (serves whole h on) = whole
broken_is v s slot trace course (Some b) (is_broken _ e others past last) = e

pub serving_of : (v : State) (s : Session) (slot : Piece) (trace : Trace) (course : Course) (broken : Option Break) → Stands v s slot trace course broken → broken ≡ None
    → IsServing s.layers v trace × IsOnCourse v s.layers slot course
serving_of v s slot trace course None (serves whole h on) e = (h, on)
serving_of v s slot trace course (Some b) (is_broken _ is others past last) e = let bad : ◌≡◌ {A = Option Break} (Some b) None = e in absurd (cc)

-- a piece stays true of its source, as it was at its stamp, whatever call is made
pub still_true : (v : State) (e : Entry) (p : merges.Piece) → IsTruePiece v p → IsTruePiece (with_entry e v) p
still_true v e p = by_rest v.rest
  where
    by_rest : (rest : Rest) → IsTrueOf (sector_of v) v.history rest p → IsTrueOf (sector_of v) (v.history ++ e ∷ []) rest p
    by_rest (plain others) is = tt
    by_rest (merging above source target below m) is = is
    by_rest (retiring target below first before) is = record {
      reached = omega (arith, is.reached, length-append v.history (e ∷ []));
      within = is.within;
      taken = λ s own. is.taken s own ∙ ap (λ h. with_history (sector_of v) first h s) (sym (take-append-le p.stamp v.history (e ∷ []) is.reached));
    }

-- A call that is done leaves the merge as it stands but for marks and stamps; a piece that waits stays true of its source, as it was at its
-- stamp.
on_entry : (v : State) (layers new : Layers) (slot : Piece) (course : Course) (who : Caller) (call : Call) (place : ℕ) → layers.geometry.sector ≡ sector_size → sector_of v ≡ sector_size → new.geometry ≡ layers.geometry
    → MergeFollows call layers new (Ok place) → IsOnCourse v layers slot course → IsOnCourse (with_entry (entry who call) v) new slot (behind_done call course)
on_entry v layers new slot no_merge who call place sector own same follows on = none_called_on call place layers new follows on
on_entry v layers new slot (copying l copied None) who call place sector own same follows on = (marked_called l call place layers new copied sector follows on.0, on.1)
on_entry v layers new slot (copying l copied (Some w)) who call place sector own same follows on = (
  marked_called l call place layers new copied sector follows on.0,
  record {
    there = subst (λ (g : Geometry). w.stripe < stripe_count g.sector g.sectors) (sym same) on.1.there;
    taken = subst (λ g. IsOfStripe g w.stripe w.stamp slot) (sym same) on.1.taken;
    is_true = still_true v (entry who call) (piece_of slot) on.1.is_true;
  },
)

-- it is refused
on_stays : (v : State) (layers new : Layers) (slot : Piece) (course : Course) → new.geometry ≡ layers.geometry → KeepsMerge layers new → IsOnCourse v layers slot course → IsOnCourse v new slot course
on_stays v layers new slot no_merge same keeps on = none_kept layers new keeps on
on_stays v layers new slot (copying l copied waits) same keeps on = (marked_kept l layers new copied keeps on.0, subst (λ g. HoldsWaiting v g slot waits) (sym same) on.1)

pub same_err : (x e : ChainRefusal) → ◌≡◌ {A = Result ℕ ChainRefusal} (Err x) (Err e) → x ≡ e
same_err x e h = IfErr-at_err (λ y. x ≡ y) h refl

-- ---- what the answer of a call that reached the files comes to

pub data Outcome (call : Call) (e : Entry) (v : State) (s : Session) (trace now : Trace) : ChainRefusal → Type 0 where
  stays : (x : ChainRefusal) → Stops call x → IsEndTold (IsSoLong v.writes trace) (Err x) → s.broken ≡ None → IsRefused v s.layers trace now → Outcome call e v s trace now x
  ends : (file count : ℕ) → is_read call ≡ false → s.broken ≡ Some (fault_of file count) → HasBroken e v trace now → Outcome call e v s trace now (Broken file count)

-- a change that is stopped for want of room is near the file's last place, and that is the end of one that may be changed
abbrev pub IsFar : (ℕ → Bool) → Trace → ChainRefusal → Type 0
IsFar may trace x = (next : ℕ) → x ≡ FileFull next → IsFull may trace next

abbrev pub IsCallFar : Call → (ℕ → Bool) → Trace → ChainRefusal → Type 0
IsCallFar call may trace x = (next : ℕ) → x ≡ FileFull next → (asks_room call ≡ true) × IsFull may trace next

module _ (e : Entry) (v : State) (old new : Session) (trace now : Trace) where
  read_outcome : (first count : ℕ) (x : ChainRefusal) → IsCausedByRead old new (Err x) → chain.Answers e v new.layers trace now (Err x) → Outcome (calls.Read first count) e v new trace now x
  read_outcome first count EmptyRange c a = absurd c
  read_outcome first count (OutOfRange from size sectors) c a = absurd c
  read_outcome first count (TooLong size limit) c a = absurd c
  read_outcome first count ReadOnly c a = absurd c
  read_outcome first count (Broken file times) c a = absurd c
  read_outcome first count (Spent t) c a = absurd c
  read_outcome first count (FileFull next) c a = absurd c
  read_outcome first count (ReadFault file times) c a = stays (ReadFault file times) tt tt c.1 a
  read_outcome first count NoMerge c a = absurd c
  read_outcome first count (Stale taken at) c a = absurd c
  read_outcome first count (NotYet stripe) c a = absurd c
  read_outcome first count (Abandoned file times) c a = absurd c
  read_outcome first count (NoStripe stripe stripes) c a = absurd c
  read_outcome first count NoPiece c a = absurd c
  read_outcome first count NoRoom c a = stays NoRoom tt tt c.1 a

  change_outcome : (call : Call) → is_read call ≡ false → (x : ChainRefusal) → IsCallFar call v.writes trace x → IsCausedBy old new (Err x) → chain.Answers e v new.layers trace now (Err x) → Outcome call e v new trace now x
  change_outcome call changes EmptyRange far c a = absurd c
  change_outcome call changes (OutOfRange first count sectors) far c a = absurd c
  change_outcome call changes (TooLong count limit) far c a = absurd c
  change_outcome call changes ReadOnly far c a = absurd c
  change_outcome call changes (Broken file count) far c a = ends file count changes c.1 a
  change_outcome call changes (Spent t) far c a = absurd c
  change_outcome call changes (FileFull next) far c a = let f = far next refl in stays (FileFull next) (f.0, f.1.0) f.1.1 c.1 a
  change_outcome call changes (ReadFault file count) far c a = stays (ReadFault file count) tt tt c.1 a
  change_outcome call changes NoMerge far c a = absurd c
  change_outcome call changes (Stale taken at) far c a = absurd c
  change_outcome call changes (NotYet stripe) far c a = absurd c
  change_outcome call changes (Abandoned file count) far c a = absurd c
  change_outcome call changes (NoStripe stripe stripes) far c a = absurd c
  change_outcome call changes NoPiece far c a = absurd c
  change_outcome call changes NoRoom far c a = stays NoRoom tt tt c.1 a

  pub outcome : (call : Call) (x : ChainRefusal) → (is_read call ≡ false → IsCallFar call v.writes trace x) → HasCauseOf call old new (Err x) → refused call old ≡ None → chain.Answers e v new.layers trace now (Err x) → Outcome call e v new trace now x
  outcome (calls.Read first count) x far c fit a = read_outcome first count x (c fit) a
  outcome (calls.Write first bytes) x far c fit a = change_outcome (calls.Write first bytes) refl x (far refl) (c fit) a
  outcome (calls.Trim first count) x far c fit a = change_outcome (calls.Trim first count) refl x (far refl) (c fit) a
  outcome calls.Flush x far c fit a = change_outcome calls.Flush refl x (far refl) (c fit) a

pub done_whole : (call : Call) (place : ℕ) (old new : Session) → HasCauseOf call old new (Ok place) → refused call old ≡ None → new.broken ≡ None
done_whole (calls.Read first count) place old new c fit = (c fit).1
done_whole (calls.Write first bytes) place old new c fit = (c fit).1
done_whole (calls.Trim first count) place old new c fit = (c fit).1
done_whole calls.Flush place old new c fit = (c fit).1

-- the files are the same
pub numbers_entry : (e : Entry) (v : State) → numbers_left (with_entry e v) ≡ numbers_left v
numbers_entry e v = by_rest v.rest
  where
    by_rest : (rest : Rest) → map (λ f. f.number) (staying (made (sector_of v) e.call v.top) rest) ≡ map (λ f. f.number) (staying v.top rest)
    by_rest (plain others) = refl
    by_rest (merging above source target below m) = refl
    by_rest (retiring target below first before) = refl

pub names_entry : (e : Entry) (v : State) → names_left (with_entry e v) ≡ names_left v
names_entry e v = by_rest v.rest
  where
    by_rest : (rest : Rest) → map (λ f. f.member.name) (staying (made (sector_of v) e.call v.top) rest) ≡ map (λ f. f.member.name) (staying v.top rest)
    by_rest (plain others) = refl
    by_rest (merging above source target below m) = refl
    by_rest (retiring target below first before) = refl

-- ---- one line

-- what one line was told, and where the session stands behind it
pub record LineTold (drive : Drive) (number : ℕ) (step : Asked) (t : Told) (v : State) (course : Course) (broken : Option Break) (events : ℕ) (trace : Trace) (new : Session) (left : Piece) : Type 0 where
  pub state : State
  pub now : Trace
  pub on : Course
  pub after : Option Break
  pub told_so : IsLineTold drive v.history course broken step t on after
  pub history : with_line number step t v.history ≡ state.history
  pub same : (h : History) (later : State) → IsLater state h later → IsLater v h later
  pub over : IsOver drive state new
  pub seen : new.disk.told ≡ Some now
  pub stands : Stands state new left now on after
  pub few : new.events ≤ events + 2 ^ 34
  pub full : IsEndTold (IsSoLong v.writes now) t
  pub grows : Grows trace now

pub kept_same : (before after : Option (List Entry)) (h : History) → IfSome before (λ t. t ≡ h) → after ≡ before → IfSome after (λ t. t ≡ h)
kept_same before after h is e = subst (λ o. IfSome o (λ t. t ≡ h)) (sym e) is

pub kept_more : (before after : Option (List Entry)) (h : History) (e : Entry) → IfSome before (λ t. t ≡ h) → after ≡ option_map (λ t. t ++ e ∷ []) before → IfSome after (λ t. t ≡ h ++ e ∷ [])
kept_more before after h e is f = subst (λ o. IfSome o (λ t. t ≡ h ++ e ∷ [])) (sym f) (go before is)
  where
    go : (o : Option (List Entry)) → IfSome o (λ t. t ≡ h) → IfSome (option_map (λ t. t ++ e ∷ []) o) (λ t. t ≡ h ++ e ∷ [])
    go None is = tt
    go (Some t) is = ap (λ t. t ++ e ∷ []) is

-- only the count of events is another
pub over_events : (drive : Drive) (v : State) (s : Session) (n : ℕ) → IsOver drive v s → IsOver drive v (record s { events = n })
over_events drive v s n over = record {
  geometry = over.geometry;
  change = over.change;
  opening = over.opening;
  sector = over.sector;
  noted = over.noted;
  kept = over.kept;
}

stands_events : (v : State) (s : Session) (slot : Piece) (now : Trace) (n : ℕ) (course : Course) (broken : Option Break) → Stands v s slot now course broken → Stands v (record s { events = n }) slot now course broken
stands_events v s slot now n course None (serves whole h on) = serves whole h on
stands_events v s slot now n course (Some b) (is_broken _ is others past last) = is_broken b is others past last

module _ (drive : Drive) (number : ℕ) (call : Call) (v : State) (course : Course) (old new : Session) (slot : Piece) (over : IsOver drive v old) where
  abbrev Line : Trace → Told → Option Break → Session → Type 0
  Line trace t broken s = LineTold drive number (asks_call call) t v course broken old.events trace s slot

  -- what was told then is so at the end
  end_now : (x : ChainRefusal) (trace now : Trace) → Grows trace now → IsEndTold (IsSoLong v.writes trace) (Err x) → IsEndTold (IsSoLong v.writes now) (Err x)
  end_now x trace now grows h = end_later (IsSoLong v.writes trace) (IsSoLong v.writes now) (λ next. long_later v.writes v.writes trace now next (λ n e. e) grows) (Err x) h

  abbrev by_line : Entry
  by_line = entry (caller number) call

  -- it is refused before it reaches the files
  early_line : (x : ChainRefusal) (trace : Trace) (broken : Option Break) → old.disk.told ≡ Some trace → Stands v old slot trace course broken → cause_of drive (fault_in broken) call ≡ Some x → new ≡ record old { events = counted old.events }
      → Line trace (Err x) broken new
  early_line x trace broken seen stands cause only = subst (λ s. Line trace (Err x) broken s) (sym only) (record {
    state = v;
    now = trace;
    on = course;
    after = broken;
    told_so = (refl, is_refused x cause);
    history = refl;
    same = λ h later is. is;
    over = over_events drive v old (counted old.events) over;
    seen = seen;
    stands = stands_events v old slot trace (counted old.events) course broken stands;
    few = omega (arith, counted_low old.events);
    full = cause_free (IsSoLong v.writes trace) drive (fault_in broken) call x cause;
    grows = grows_none trace;
  })

  -- it stops, or breaks the session
  stopped_line : (x : ChainRefusal) (r : Reply) (trace now : Trace) → new.disk.told ≡ Some now → cause_of drive None call ≡ None → Answers (caller number) call (Err x) r old new → refused call old ≡ None
      → IsOnCourse v old.layers slot course → Outcome call by_line v new trace now x → Line trace (Err x) None new
  stopped_line x r trace now told cause h fit on (stays _ stops full b is) = let more = moments_grow _ trace now is.moments in record {
    state = v;
    now = now;
    on = course;
    after = None;
    told_so = (refl, is_stopped x cause stops);
    history = refl;
    same = λ h later is. is;
    over = record {
      geometry = h.geometry ∙ over.geometry;
      change = h.session ∙ over.change;
      opening = over.opening;
      sector = over.sector;
      noted = (h.notes fit).1 ∙ over.noted;
      kept = kept_same old.told new.told v.history over.kept (h.notes fit).0;
    };
    seen = told;
    stands = serves b is.serving (on_stays v old.layers new.layers slot course h.geometry h.merge on);
    few = omega (arith, h.events, counted_low old.events);
    full = end_now x trace now more full;
    grows = more;
  }
  stopped_line _ r trace now told cause h fit on (ends file count reads b is) = record {
    state = v;
    now = now;
    on = course;
    after = Some (record { fault = fault_of file count; call = Some call });
    told_so = (refl, breaks (fault_of file count) cause reads);
    history = refl;
    same = λ h later is. is;
    over = record {
      geometry = h.geometry ∙ over.geometry;
      change = h.session ∙ over.change;
      opening = over.opening;
      sector = over.sector;
      noted = (h.notes fit).1 ∙ over.noted;
      kept = kept_same old.told new.told v.history over.kept (h.notes fit).0;
    };
    seen = told;
    stands = is_broken (record { fault = fault_of file count; call = Some call }) b is.still is.past (last_moment _ trace now is.moments);
    few = omega (arith, h.events, counted_low old.events);
    full = tt;
    grows = moments_grow _ trace now is.moments;
  }

  -- it is done
  done_line : (d : ℕ × Reply) (trace now : Trace) → old.disk.told ≡ Some trace → new.disk.told ≡ Some now → cause_of drive None call ≡ None → IsServing old.layers v trace → IsOnCourse v old.layers slot course
      → Answers (caller number) call (Ok d.0) d.1 old new → refused call old ≡ None → IsDone by_line v new.layers trace now → Line trace (Ok (Some d.0, of_call d.1)) None new
  done_line d trace now seen told cause serving on h fit done =
      let notes = h.notes fit in
      let b : new.broken ≡ None = done_whole call d.0 old new h.cause fit in
      let place : length v.history + 1 ≡ d.0 = ap (λ n. n + 1) (sym over.noted) ∙ sym notes.1 ∙ sym notes.2 in
      let disk : disk_after drive v.history ≡ disk_now v = ap₂ (λ (z : ℕ) (o : Disk). replay z o v.history) (sym over.sector) (sym over.opening) in
      let replied : reply (disk_after drive v.history) call ≡ d.1 = ap (λ k. reply k call) disk ∙ h.replies.1 trace seen v serving in
      record {
        state = with_entry by_line v;
        now = now;
        on = behind_done call course;
        after = None;
        told_so = (refl, subst (λ t. IsTold drive v.history None call t None) (ap₂ (λ (p : ℕ) (r : Reply). Ok (Some p, of_call r)) place replied) (is_done cause));
        history = refl;
        same = λ h later is. later_same v (with_entry by_line v) h later refl refl refl (numbers_entry by_line v) (names_entry by_line v) (inl (record { number = refl; name = refl; retired = refl; writes = refl; since = refl; merges = refl })) (λ e. (e, refl)) (λ e. refl) is;
        over = record {
          geometry = h.geometry ∙ over.geometry;
          change = h.session ∙ over.change;
          opening = over.opening;
          sector = over.sector;
          noted = notes.1 ∙ ap (λ n. n + 1) over.noted ∙ sym (length-append v.history (by_line ∷ []));
          kept = kept_more old.told new.told v.history by_line over.kept notes.0;
        };
        seen = told;
        stands = serves b done.serving (on_entry v old.layers new.layers slot course (caller number) call d.0 (h.sound.sector) over.sector h.geometry h.merge on);
        few = omega (arith, h.events, counted_low (old.events));
        full = tt;
        grows = moments_grow _ trace now done.moments;
      }

  module _ (trace : Trace) (broken : Option Break) (seen : old.disk.told ≡ Some trace) (stands : Stands v old slot trace course broken) (few : old.events < 2 ^ 63) where
    cause_is : (o : Option ChainRefusal) → refused call old ≡ o → cause_of drive (fault_in broken) call ≡ o
    cause_is o is = ap (λ b. cause_of drive b call) (sym (broken_is v old slot trace course broken stands)) ∙ sym (cause_same drive v old call over few) ∙ is

    refused_line : (x : ChainRefusal) (r : Reply) → Answers (caller number) call (Err x) r old new → Line trace (Err x) broken new
    refused_line x r h = go (refused call old) refl
      where
        go : (o : Option ChainRefusal) → refused call old ≡ o → Line trace (Err x) broken new
        go (Some e) is =
            let early = subst (λ o. IfSome o (λ e. (◌≡◌ {A = Result ℕ ChainRefusal} (Err x) (Err e)) × (new ≡ record old { events = counted old.events }))) is h.early in
            early_line x trace broken seen stands (cause_is (Some e) is ∙ ap Some (sym (same_err x e early.0))) early.1
        go None is =
            let none : broken ≡ None = no_cause_none drive broken call (cause_is None is) in
            let after = both_told _ old.disk.told new.disk.told trace seen (h.told (broken_is v old slot trace course broken stands ∙ ap fault_in none)) in
            let serving = serving_of v old slot trace course broken stands none in
            let far : is_read call ≡ false → IsCallFar call v.writes trace x = λ changes next e. call_is_far call next v old trace serving.0 over.sector seen changes is (subst (λ y. HasRoom call old (Err y)) e h.room) in
            subst (λ o. Line trace (Err x) o new) (sym none)
            (stopped_line x r trace after.0 after.1 (subst (λ o. cause_of drive (fault_in o) call ≡ None) none (cause_is None is)) h is serving.1
            (outcome by_line v old new trace after.0 call x far h.cause is (after.2 v serving.0 (next_place v old.noted over.noted))))

    told_done : (d : ℕ × Reply) → Answers (caller number) call (Ok d.0) d.1 old new → Line trace (Ok (Some d.0, of_call d.1)) broken new
    told_done d h = go (refused call old) refl
      where
        go : (o : Option ChainRefusal) → refused call old ≡ o → Line trace (Ok (Some d.0, of_call d.1)) broken new
        go (Some e) is =
            let early = subst (λ o. IfSome o (λ e. (◌≡◌ {A = Result ℕ ChainRefusal} (Ok d.0) (Err e)) × (new ≡ record old { events = counted old.events }))) is h.early in
            let bad : ◌≡◌ {A = Result ℕ ChainRefusal} (Ok d.0) (Err e) = early.0 in
            absurd (cc)
        go None is =
            let none : broken ≡ None = no_cause_none drive broken call (cause_is None is) in
            let after = both_told _ old.disk.told new.disk.told trace seen (h.told (broken_is v old slot trace course broken stands ∙ ap fault_in none)) in
            let serving = serving_of v old slot trace course broken stands none in
            subst (λ o. Line trace (Ok (Some d.0, of_call d.1)) o new) (sym none)
            (done_line d trace after.0 seen after.1 (subst (λ o. cause_of drive (fault_in o) call ≡ None) none (cause_is None is)) serving.0 serving.1 h is (after.2 v serving.0 (next_place v old.noted over.noted)))

    pub call_line : (t : Told) → AnswersCall number call t old new → Line trace t broken new
    call_line t h = subst (λ t. Line trace t broken new) (sym h.is) (go h.answer h.answers)
      where
        go : (answer : Result ℕ ChainRefusal) → Answers (caller number) call answer h.reply old new → Line trace (with_reply h.reply answer) broken new
        go (Ok place) a = told_done (place, h.reply) a
        go (Err x) a = refused_line x h.reply a

pub one_more : (n : ℕ) → n < 2 ^ 63 → counted n ≡ n + 1
one_more n few = ap (λ b. if b then n + 1 else n) (lt-ltb n (2 ^ 63) few)
