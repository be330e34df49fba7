-- A step of a merge leaves a later state of what its session serves.
use Rattle.std.proofs.Common.{◌≡◌, ◌==◌, ℕ, Bool, true, false, Option, Some, None, Result, Ok, Err, refl, sym, ap, subst, ◌∙◌}
use Rattle.std.specs.Prelude.{⊤, IfErr, IfSome, OnOk, if◌then◌else◌, nat_lt, ◌^◌}
use Rattle.vx_base.specs.declared.parts.Geometry.{Geometry}
use Rattle.store_model.specs.declared.fault.StoreFault.{StoreFault}
use Rattle.store_model.specs.Trace.{Trace}
use Rattle.guest_model.specs.declared.refusal.ChainRefusal.{ChainRefusal}
use Rattle.guest_model.specs.declared.refusal.ChainRefusal.TheVariants.{Abandoned, Broken, EmptyRange, FileFull, NoMerge, NoPiece, NoRoom, NoStripe, NotYet, OutOfRange, ReadFault, ReadOnly, Spent, Stale, TooLong}
use Rattle.chain_model.specs.Moments.{EachOpens}
use Rattle.chain_model.specs.Stripes.{stripe_count}
use Rattle.merge_core.specs.Pieces.{piece_of}
use Rattle.merge_core.specs.declared.piece.Piece.{Piece}
use Rattle.chain_core.specs.Answering.{HasEnded, IsRefused, fault_of}
use Rattle.chain_core.specs.Copying.{FetchCause, IfStopped, PieceAnswers, PutCause, TargetRoomIs, fetch_refused, merge_refused, no_merge, no_stripe, past_stripes, put_refused, stale, stamp_of, unfilled}
use Rattle.chain_core.specs.Finished.{FinishAnswers, FinishCause}
use Rattle.chain_core.specs.Merging.{IsTruePiece, with_put}
use Rattle.chain_core.specs.Refusing.{broken_by, or_else, unfit}
use Rattle.chain_core.specs.Sessions.{Session, has_merge}
use Rattle.chain_core.specs.declared.layers.Layers.{Layers}
use Rattle.chain_core.specs.States.{IsServing, State, dirty_now, disk_now}
use Rattle.script_session.specs.Histories.{Grows, IsEndTold, IsLater}
use Rattle.script_session.specs.MergeSteps.{AnswersFetch, AnswersFinish, AnswersPut, AnswersSkip, AnswersTurn, IsUnchanged, fetched_and, not_fetched}
use Rattle.script_session.specs.StepsLeft.{FetchesLeave, FinishesLeave, IsFullAt, IsLeft, PutsLeave, SkipsLeave, TurnsLeave, unstamped}
use Rattle.script_session.specs.Told.{Told}
use Rattle.std.proofs.lemmas.Option.{same_Some}
use Rattle.store_model.specs.Disk.{Disk, WhereBothTold}
use Rattle.chain_core.specs.Skipping.{with_passed}
use Rattle.script_session.proofs.Content.{fetch_untold, finish_untold, put_untold, turn_untold}
use Rattle.script_session.proofs.LeftFiles.{later_itself, later_pass, later_put}
use Rattle.script_session.proofs.Lengths.{end_later, free_by, grows_none, grows_on, long_later, moments_grow}
use Rattle.script_session.proofs.Moving.{ok_reached, parts_none}
use Rattle.script_session.proofs.Room.{target_is_far}
use Rattle.script_session.proofs.Steps.{finish_left}
use Rattle.script_session.proofs.Telling.{both_told, last_moment}

-- ---- a cause that is judged before the files are reached tells no file's end

module _ (P : ℕ → Type 0) where
  abbrev Free : ChainRefusal → Type 0
  Free x = IsEndTold P (Err x)

  abbrev AllFree : Option ChainRefusal → Type 0
  AllFree o = (x : ChainRefusal) → o ≡ Some x → Free x

  some_free : (c : ChainRefusal) → Free c → AllFree (Some c)
  some_free c free x is = free_by P c x is free

  none_free : AllFree None
  none_free x is = let bad : ◌≡◌ {A = Option ChainRefusal} None (Some x) = is in absurd (cc)

  if_free : (b : Bool) (c : ChainRefusal) → Free c → AllFree (if b then None else Some c)
  if_free true c free = none_free
  if_free false c free = some_free c free

  or_free : (a b : Option ChainRefusal) → AllFree a → AllFree b → AllFree (or_else a b)
  or_free None b first second = second
  or_free (Some c) b first second = first

  unfit_free : (events : ℕ) (broken : Option StoreFault) → AllFree (unfit events broken)
  unfit_free events broken = go (nat_lt events (2 ^ 63)) broken
    where
      go : (b : Bool) (o : Option StoreFault) → AllFree (if b then broken_by o else Some (Spent events))
      go false o = some_free (Spent events) tt
      go true None = none_free
      go true (Some fault) = some_free (Broken fault.file fault.count) tt

  stripe_free : (stripe : ℕ) (layers : Layers) → AllFree (no_stripe stripe layers)
  stripe_free stripe layers = go (has_merge layers)
    where
      go : (b : Bool) → AllFree (if b then past_stripes stripe (stripe_count layers.geometry.sector layers.geometry.sectors) else Some NoMerge)
      go true = if_free (nat_lt stripe (stripe_count layers.geometry.sector layers.geometry.sectors)) (NoStripe stripe (stripe_count layers.geometry.sector layers.geometry.sectors)) tt
      go false = some_free NoMerge tt

  merge_free : (layers : Layers) → AllFree (no_merge layers)
  merge_free layers = if_free (has_merge layers) NoMerge tt

  fetch_free : (stripe : ℕ) (s : Session) → AllFree (fetch_refused stripe s)
  fetch_free stripe s = or_free (unfit s.events s.broken) _ (unfit_free s.events s.broken) (stripe_free stripe s.layers)

  put_free : (piece : Piece) (s : Session) → AllFree (put_refused piece s)
  put_free piece s =
      or_free (unfit s.events s.broken) _ (unfit_free s.events s.broken)
      (or_free (no_merge s.layers) _ (merge_free s.layers)
      (or_free (unfilled piece) _ (if_free piece.filled NoPiece tt)
      (or_free (no_stripe piece.stripe s.layers) (stale piece.stamp (stamp_of s.layers piece.stripe)) (stripe_free piece.stripe s.layers) (if_free (piece.stamp == stamp_of s.layers piece.stripe) (Stale piece.stamp (stamp_of s.layers piece.stripe)) tt))))

  finish_free : (s : Session) → AllFree (merge_refused s)
  finish_free s = or_free (unfit s.events s.broken) _ (unfit_free s.events s.broken) (merge_free s.layers)

-- ---- what is left

-- what a session tells behind a step
record Leaves (v : State) (answer : Result (Unit {0}) ChainRefusal) (new : Session) (trace : Trace) : Type 0 where
  now : Trace
  seen : new.disk.told ≡ Some now
  is_left : IsLeft v answer new trace now

none_then : (P : StoreFault → Type 0) (o : Option StoreFault) → o ≡ None → IfSome o P
none_then P o e = subst (λ b. IfSome b P) (sym e) tt

some_then : {P : Type 0} (o : Option StoreFault) → P → IfSome o (λ fault. P)
some_then None p = tt
some_then (Some fault) p = p

never_whole : {P : Type 0} (o : Option StoreFault) (fault : StoreFault) → o ≡ Some fault → o ≡ None → P
never_whole o fault is none = let bad : ◌≡◌ {A = Option StoreFault} (Some fault) None = sym is ∙ none in absurd (cc)

-- it is as it was
stays_left : (v : State) (answer : Result (Unit {0}) ChainRefusal) (new : Session) (trace now : Trace) → Grows trace now → new.broken ≡ None → IsServing new.layers v now → IfErr answer (λ x. IsEndTold (IsFullAt v.writes now) (Err x)) → IsLeft v answer new trace now
stays_left v answer new trace now grows whole serving full = record {
  later = v;
  same = later_itself v;
  sector = refl;
  grows = grows;
  serves = λ none. serving;
  still = none_then _ new.broken whole;
  past = none_then _ new.broken whole;
  last = none_then _ new.broken whole;
  full = full;
}

-- only the count of events is another
unchanged_left : (v : State) (answer : Result (Unit {0}) ChainRefusal) (old new : Session) (trace : Trace) → old.disk.told ≡ Some trace → old.broken ≡ None → IsServing old.layers v trace → IsUnchanged old new
    → IfErr answer (λ x. IsEndTold (IsFullAt v.writes trace) (Err x)) → Leaves v answer new trace
unchanged_left v answer old new trace seen whole serving is full =
    subst (λ s. Leaves v answer s trace) (sym is) (record { now = trace; seen = seen; is_left = stays_left v answer (record old { events = new.events }) trace trace (grows_none trace) whole serving full })

-- a change failed, and broke the session
ended_left : (v : State) (x : ChainRefusal) (new : Session) (trace now : Trace) (fault : StoreFault) → new.broken ≡ Some fault → HasEnded v trace now → IsEndTold (IsFullAt v.writes now) (Err x) → IsLeft v (Err x) new trace now
ended_left v x new trace now fault broken ended full = record {
  later = v;
  same = later_itself v;
  sector = refl;
  grows = moments_grow _ trace now ended.moments;
  serves = never_whole new.broken fault broken;
  still = some_then new.broken ended.still;
  past = some_then new.broken ended.past;
  last = some_then new.broken (last_moment (EachOpens v.leaf (dirty_now v) (disk_now v)) trace now ended.moments);
  full = full;
}

-- ---- a fetch

record FetchLeft (v : State) (answer : Result ℕ ChainRefusal) (new : Session) (piece : Piece) (trace : Trace) : Type 0 where
  now : Trace
  seen : new.disk.told ≡ Some now
  grows : Grows trace now
  whole : new.broken ≡ None
  serving : IsServing new.layers v now
  is_true : OnOk answer (IsTruePiece v (piece_of piece))
  free : IfErr answer (λ x. IsEndTold (IsFullAt v.writes now) (Err x))

module _ (v : State) (old : Session) (trace : Trace) (seen : old.disk.told ≡ Some trace) (whole : old.broken ≡ None) (serving : IsServing old.layers v trace) where
  read_failed : (new : Session) (piece : Piece) (w : Trace) (x : ChainRefusal) → FetchCause old new piece (Err x) → (new.broken ≡ None) × IsEndTold (IsFullAt v.writes w) (Err x)
  read_failed new piece w EmptyRange c = absurd c
  read_failed new piece w (OutOfRange first count sectors) c = absurd c
  read_failed new piece w (TooLong count limit) c = absurd c
  read_failed new piece w ReadOnly c = absurd c
  read_failed new piece w (Broken file count) c = absurd c
  read_failed new piece w (Spent t) c = absurd c
  read_failed new piece w (FileFull next) c = absurd c
  read_failed new piece w (ReadFault file count) c = (c.3, tt)
  read_failed new piece w NoMerge c = absurd c
  read_failed new piece w (Stale taken at) c = absurd c
  read_failed new piece w (NotYet stripe) c = absurd c
  read_failed new piece w (Abandoned file count) c = absurd c
  read_failed new piece w (NoStripe stripe stripes) c = absurd c
  read_failed new piece w NoPiece c = absurd c
  read_failed new piece w NoRoom c = absurd c

  fetch_ok : (stripe stamp : ℕ) (new : Session) (piece : Piece) → AnswersFetch stripe (Ok stamp) old new piece → FetchLeft v (Ok stamp) new piece trace
  fetch_ok stripe stamp new piece h =
      let none = ok_reached _ (fetch_refused stripe old) stamp h.early in
      let cause = h.cause none in
      let after = both_told _ old.disk.told new.disk.told trace seen (h.told none) in
      let answers = after.2 v serving in
      record { now = after.0; seen = after.1; grows = moments_grow _ trace after.0 answers.0.moments; whole = cause.2; serving = answers.0.serving; is_true = answers.1; free = tt }

  fetch_err : (stripe : ℕ) (x : ChainRefusal) (new : Session) (piece : Piece) → AnswersFetch stripe (Err x) old new piece → FetchLeft v (Err x) new piece trace
  fetch_err stripe x new piece h = go (fetch_refused stripe old) refl
    where
      go : (o : Option ChainRefusal) → fetch_refused stripe old ≡ o → FetchLeft v (Err x) new piece trace
      go (Some e) is =
          let early = subst (λ o. IfStopped {T = ℕ} o (Err x) (IsUnchanged old new)) is h.early in
          let same : ◌≡◌ {A = Result ℕ ChainRefusal} (Err x) (Err e) = early.0 in
          let free : IsEndTold (IsFullAt v.writes trace) (Err e) = fetch_free (IsFullAt v.writes trace) stripe old e is in
          let x_is : x ≡ e = cc in
          subst (λ s. FetchLeft v (Err x) s piece trace) (sym early.1)
          (record { now = trace; seen = seen; grows = grows_none trace; whole = whole; serving = serving; is_true = tt; free = subst (λ y. IsEndTold (IsFullAt v.writes trace) (Err y)) (sym x_is) free })
      go None is =
          let after = both_told _ old.disk.told new.disk.told trace seen (h.told is) in
          let r : IsRefused v new.layers trace after.0 = after.2 v serving in
          let failed = read_failed new piece after.0 x (h.cause is) in
          record { now = after.0; seen = after.1; grows = moments_grow _ trace after.0 r.moments; whole = failed.0; serving = r.serving; is_true = tt; free = failed.1 }

  -- ---- a put

  module _ (piece : Piece) (new : Session) (is_true : IsTruePiece v (piece_of piece)) where
    put_ok : AnswersPut piece (Ok tt) old new → Leaves v (Ok tt) new trace
    put_ok h =
        let none = ok_reached _ (put_refused piece old) tt h.early in
        let cause = h.cause none in
        let after = both_told _ old.disk.told new.disk.told trace seen (h.told none) in
        let copied = after.2 v serving is_true in
        record {
          now = after.0;
          seen = after.1;
          is_left = record {
            later = with_put (piece_of piece) v;
            same = later_put v (piece_of piece) v.history (with_put (piece_of piece) v) (later_itself (with_put (piece_of piece) v));
            sector = refl;
            grows = moments_grow _ trace after.0 copied.moments;
            serves = λ n. copied.serving;
            still = none_then _ new.broken cause.2;
            past = none_then _ new.broken cause.2;
            last = none_then _ new.broken cause.2;
            full = tt;
          };
        }

    -- it was refused once it reached the files
    put_outcome : (now : Trace) (x : ChainRefusal) → ((next : ℕ) → x ≡ FileFull next → IsFullAt v.writes trace next) → PutCause piece old new (Err x) → PieceAnswers piece v new.layers trace now (Err x) → IsLeft v (Err x) new trace now
    put_outcome now EmptyRange far c a = absurd c
    put_outcome now (OutOfRange first count sectors) far c a = absurd c
    put_outcome now (TooLong count limit) far c a = absurd c
    put_outcome now ReadOnly far c a = absurd c
    put_outcome now (Broken file count) far c a = ended_left v (Broken file count) new trace now (fault_of file count) c.3 a tt
    put_outcome now (Spent t) far c a = absurd c
    put_outcome now (FileFull next) far c a =
        let f = far next refl in
        let more = moments_grow _ trace now a.moments in
        stays_left v (Err (FileFull next)) new trace now more c.2 a.serving (f.0, long_later v.writes v.writes trace now next (λ n e. e) more f.1)
    put_outcome now (ReadFault file count) far c a = stays_left v (Err (ReadFault file count)) new trace now (moments_grow _ trace now a.moments) c.3 a.serving tt
    put_outcome now NoMerge far c a = absurd c
    put_outcome now (Stale taken at) far c a = absurd c
    put_outcome now (NotYet stripe) far c a = absurd c
    put_outcome now (Abandoned file count) far c a = absurd c
    put_outcome now (NoStripe stripe stripes) far c a = absurd c
    put_outcome now NoPiece far c a = absurd c
    put_outcome now NoRoom far c a = absurd c

    put_err : (x : ChainRefusal) → AnswersPut piece (Err x) old new → Leaves v (Err x) new trace
    put_err x h = go (put_refused piece old) refl
      where
        there : put_refused piece old ≡ None → has_merge old.layers ≡ true
        there fit = by_test (has_merge old.layers) refl
          where
            fits : no_merge old.layers ≡ None
            fits = (parts_none (no_merge old.layers) _ (parts_none (unfit old.events old.broken) _ fit).1).0

            by_test : (b : Bool) → has_merge old.layers ≡ b → has_merge old.layers ≡ true
            by_test true e = e
            by_test false e = let bad : ◌≡◌ {A = Option ChainRefusal} (Some NoMerge) None = sym (ap (λ b. if b then None else Some NoMerge) e) ∙ fits in absurd (cc)

        go : (o : Option ChainRefusal) → put_refused piece old ≡ o → Leaves v (Err x) new trace
        go (Some e) is =
            let early = subst (λ o. IfStopped {T = Unit {0}} o (Err x) (IsUnchanged old new)) is h.early in
            let same : ◌≡◌ {A = Result (Unit {0}) ChainRefusal} (Err x) (Err e) = early.0 in
            let x_is : x ≡ e = cc in
            unchanged_left v (Err x) old new trace seen whole serving early.1 (subst (λ y. IsEndTold (IsFullAt v.writes trace) (Err y)) (sym x_is) (put_free (IsFullAt v.writes trace) piece old e is))
        go None is =
            let after = both_told _ old.disk.told new.disk.told trace seen (h.told is) in
            let far : (next : ℕ) → x ≡ FileFull next → IsFullAt v.writes trace next =
            λ next e. target_is_far piece next v old trace (h.sound.ready whole) (there is) serving seen (subst (λ y. TargetRoomIs piece old.layers old.disk (Err y)) e (h.room is)) in
            record { now = after.0; seen = after.1; is_left = put_outcome after.0 x far (h.cause is) (after.2 v serving is_true) }

    put_left : (answer : Result (Unit {0}) ChainRefusal) → AnswersPut piece answer old new → Leaves v answer new trace
    put_left (Ok done) h = put_ok h
    put_left (Err x) h = put_err x h

-- ---- a fetch, alone

fetch_leaves : (stripe : ℕ) (answer : Result ℕ ChainRefusal) (old new : Session) (piece : Piece) (v : State) (trace : Trace) → old.disk.told ≡ Some trace → old.broken ≡ None → IsServing old.layers v trace → AnswersFetch stripe answer old new piece → Leaves v (unstamped answer) new trace
fetch_leaves stripe (Ok stamp) old new piece v trace seen whole serving h =
    let f = fetch_ok v old trace seen whole serving stripe stamp new piece h in
    record { now = f.now; seen = f.seen; is_left = stays_left v (Ok tt) new trace f.now f.grows f.whole f.serving tt }
fetch_leaves stripe (Err x) old new piece v trace seen whole serving h =
    let f = fetch_err v old trace seen whole serving stripe x new piece h in
    record { now = f.now; seen = f.seen; is_left = stays_left v (Err x) new trace f.now f.grows f.whole f.serving f.free }

-- ---- a turn of a copy

-- what stands behind the second of two steps stands behind both
left_behind : (v : State) (answer : Result (Unit {0}) ChainRefusal) (new : Session) (trace mid : Trace) → Grows trace mid → Leaves v answer new mid → Leaves v answer new trace
left_behind v answer new trace mid grows l = record {
  now = l.now;
  seen = l.seen;
  is_left = record {
    later = l.is_left.later;
    same = l.is_left.same;
    sector = l.is_left.sector;
    grows = grows_on trace mid l.now grows l.is_left.grows;
    serves = l.is_left.serves;
    still = l.is_left.still;
    past = l.is_left.past;
    last = l.is_left.last;
    full = l.is_left.full;
  };
}

turn_leaves : (stripe : ℕ) (answer : Result (Unit {0}) ChainRefusal) (old new : Session) (v : State) (trace : Trace) → old.disk.told ≡ Some trace → old.broken ≡ None → IsServing old.layers v trace → AnswersTurn stripe answer old new → Leaves v answer new trace
turn_leaves stripe _ _ _ v trace seen whole serving (not_fetched e old new left h) =
    let f = fetch_err v old trace seen whole serving stripe e new left h in
    record { now = f.now; seen = f.seen; is_left = stays_left v (Err e) new trace f.now f.grows f.whole f.serving f.free }
turn_leaves stripe _ _ _ v trace seen whole serving (fetched_and answer stamp old mid new piece h p) =
    let f = fetch_ok v old trace seen whole serving stripe stamp mid piece h in
    left_behind v answer new trace f.now f.grows (put_left v mid f.now f.seen f.whole f.serving piece new f.is_true answer p)

-- ---- a pass

skip_leaves : (stripe n : ℕ) (old new : Session) (v : State) (trace : Trace) → old.disk.told ≡ Some trace → IsServing old.layers v trace → AnswersSkip stripe n old new → Leaves v (Ok tt) new trace
skip_leaves stripe n old new v trace seen serving h =
    let after = both_told _ old.disk.told new.disk.told trace seen h.told in
    let passed = after.2 v serving in
    record {
      now = after.0;
      seen = after.1;
      is_left = record {
        later = with_passed stripe n v;
        same = later_pass v stripe n v.history (with_passed stripe n v) (later_itself (with_passed stripe n v));
        sector = refl;
        grows = moments_grow _ trace after.0 passed.moments;
        serves = λ whole. passed.serving;
        still = none_then _ new.broken h.whole;
        past = none_then _ new.broken h.whole;
        last = none_then _ new.broken h.whole;
        full = tt;
      };
    }

-- ---- a finish

module _ (v : State) (old new : Session) (trace : Trace) (seen : old.disk.told ≡ Some trace) (whole : old.broken ≡ None) (serving : IsServing old.layers v trace) where
  finish_ok : AnswersFinish (Ok tt) old new → Leaves v (Ok tt) new trace
  finish_ok h =
      let none = ok_reached _ (merge_refused old) tt h.early in
      let done = h.cause none in
      let after = both_told _ old.disk.told new.disk.told trace seen (h.told none) in
      let answers = after.2 v serving in
      let left_so = finish_left old.layers new.layers v after.0 old.layers.retiring serving.leaving answers.1 in
      record {
        now = after.0;
        seen = after.1;
        is_left = record {
          later = left_so.state;
          same = left_so.same v.history left_so.state (subst (λ k. IsLater left_so.state k left_so.state) left_so.history (later_itself left_so.state));
          sector = ap (λ (g : Geometry). g.sector) (sym left_so.serving.geometry ∙ h.keeps.geometry ∙ serving.geometry);
          grows = moments_grow _ trace after.0 answers.0;
          serves = λ n. left_so.serving;
          still = none_then _ new.broken done.whole;
          past = none_then _ new.broken done.whole;
          last = none_then _ new.broken done.whole;
          full = tt;
        };
      }

  finish_outcome : (now : Trace) → new.disk.told ≡ Some now → (x : ChainRefusal) → FinishCause old new (Err x) (IsUnchanged old new) → FinishAnswers old.layers.retiring v new.layers trace now (Err x) → Leaves v (Err x) new trace
  finish_outcome now told EmptyRange c a = absurd c
  finish_outcome now told (OutOfRange first count sectors) c a = absurd c
  finish_outcome now told (TooLong count limit) c a = absurd c
  finish_outcome now told ReadOnly c a = absurd c
  finish_outcome now told (Broken file count) c a = record { now = now; seen = told; is_left = ended_left v (Broken file count) new trace now (fault_of file count) c.broken a tt }
  finish_outcome now told (Spent t) c a = absurd c
  finish_outcome now told (FileFull next) c a = absurd c
  finish_outcome now told (ReadFault file count) c a = absurd c
  finish_outcome now told NoMerge c a = absurd c
  finish_outcome now told (Stale taken at) c a = absurd c
  finish_outcome now told (NotYet stripe) c a = unchanged_left v (Err (NotYet stripe)) old new trace seen whole serving c.1 tt
  finish_outcome now told (Abandoned file count) c a = absurd c
  finish_outcome now told (NoStripe stripe stripes) c a = absurd c
  finish_outcome now told NoPiece c a = absurd c
  finish_outcome now told NoRoom c a = absurd c

  finish_err : (x : ChainRefusal) → AnswersFinish (Err x) old new → Leaves v (Err x) new trace
  finish_err x h = go (merge_refused old) refl
    where
      go : (o : Option ChainRefusal) → merge_refused old ≡ o → Leaves v (Err x) new trace
      go (Some e) is =
          let early = subst (λ o. IfStopped {T = Unit {0}} o (Err x) (IsUnchanged old new)) is h.early in
          let same : ◌≡◌ {A = Result (Unit {0}) ChainRefusal} (Err x) (Err e) = early.0 in
          let x_is : x ≡ e = cc in
          unchanged_left v (Err x) old new trace seen whole serving early.1 (subst (λ y. IsEndTold (IsFullAt v.writes trace) (Err y)) (sym x_is) (finish_free (IsFullAt v.writes trace) old e is))
      go None is =
          let after = both_told _ old.disk.told new.disk.told trace seen (h.told is) in
          finish_outcome after.0 after.1 x (h.cause is) (after.2 v serving)

finish_leaves : (answer : Result (Unit {0}) ChainRefusal) (old new : Session) (v : State) (trace : Trace) → old.disk.told ≡ Some trace → old.broken ≡ None → IsServing old.layers v trace → AnswersFinish answer old new → Leaves v answer new trace
finish_leaves (Ok done) old new v trace seen whole serving h = finish_ok v old new trace seen whole serving h
finish_leaves (Err x) old new v trace seen whole serving h = finish_err v old new trace seen whole serving x h

-- ---- content that is told goes on being told

fetch_tells : (stripe : ℕ) (answer : Result ℕ ChainRefusal) (old new : Session) (piece : Piece) (trace : Trace) → old.disk.told ≡ Some trace → AnswersFetch stripe answer old new piece → (now : Trace) × (new.disk.told ≡ Some now)
fetch_tells stripe answer old new piece trace seen h = go (fetch_refused stripe old) refl
  where
    go : (o : Option ChainRefusal) → fetch_refused stripe old ≡ o → (now : Trace) × (new.disk.told ≡ Some now)
    go None is = let after = both_told _ old.disk.told new.disk.told trace seen (h.told is) in (after.0, after.1)
    go (Some e) is = (trace, ap (λ (s : Session). s.disk.told) (subst (λ o. IfStopped {T = ℕ} o answer (IsUnchanged old new)) is h.early).1 ∙ seen)

put_tells : (piece : Piece) (answer : Result (Unit {0}) ChainRefusal) (old new : Session) (trace : Trace) → old.disk.told ≡ Some trace → AnswersPut piece answer old new → (now : Trace) × (new.disk.told ≡ Some now)
put_tells piece answer old new trace seen h = go (put_refused piece old) refl
  where
    go : (o : Option ChainRefusal) → put_refused piece old ≡ o → (now : Trace) × (new.disk.told ≡ Some now)
    go None is = let after = both_told _ old.disk.told new.disk.told trace seen (h.told is) in (after.0, after.1)
    go (Some e) is = (trace, ap (λ (s : Session). s.disk.told) (subst (λ o. IfStopped {T = Unit {0}} o answer (IsUnchanged old new)) is h.early).1 ∙ seen)

turn_tells : (stripe : ℕ) (answer : Result (Unit {0}) ChainRefusal) (old new : Session) (trace : Trace) → old.disk.told ≡ Some trace → AnswersTurn stripe answer old new → (now : Trace) × (new.disk.told ≡ Some now)
turn_tells stripe _ _ _ trace seen (not_fetched e old new left h) = fetch_tells stripe (Err e) old new left trace seen h
turn_tells stripe _ _ _ trace seen (fetched_and answer stamp old mid new piece h p) =
    let f = fetch_tells stripe (Ok stamp) old mid piece trace seen h in put_tells piece answer mid new f.0 f.1 p

finish_tells : (answer : Result (Unit {0}) ChainRefusal) (old new : Session) (trace : Trace) → old.disk.told ≡ Some trace → AnswersFinish answer old new → (now : Trace) × (new.disk.told ≡ Some now)
finish_tells answer old new trace seen h = go (merge_refused old) refl
  where
    go : (o : Option ChainRefusal) → merge_refused old ≡ o → (now : Trace) × (new.disk.told ≡ Some now)
    go None is = let after = both_told _ old.disk.told new.disk.told trace seen (h.told is) in (after.0, after.1)
    go (Some e) is = (trace, ap (λ (s : Session). s.disk.told) (subst (λ o. IfStopped {T = Unit {0}} o answer (IsUnchanged old new)) is h.early).1 ∙ seen)

-- ---- the laws

module _ (Apt : State → Type 0) where
  abbrev Both : Result (Unit {0}) ChainRefusal → Session → Session → Option Trace → Option Trace → Type 0
  Both answer old new a b = WhereBothTold (λ trace now. (v : State) → IsServing old.layers v trace → Apt v → IsLeft v answer new trace now) a b

  where_both : (answer : Result (Unit {0}) ChainRefusal) (old new : Session) → (old.disk.told ≡ None → new.disk.told ≡ None) → ((trace : Trace) → old.disk.told ≡ Some trace → (now : Trace) × (new.disk.told ≡ Some now))
      → ((v : State) (trace : Trace) → old.disk.told ≡ Some trace → IsServing old.layers v trace → Apt v → Leaves v answer new trace) → Both answer old new old.disk.told new.disk.told
  where_both answer old new untold tells leaves = go old.disk.told refl
    where
      go : (o : Option Trace) → old.disk.told ≡ o → Both answer old new o new.disk.told
      go None is = subst (λ b. Both answer old new None b) (sym (untold is)) tt
      go (Some trace) is =
          let n = tells trace is in
          subst (λ b. Both answer old new (Some trace) b) (sym n.1)
          (λ v serving apt. let l = leaves v trace is serving apt in subst (λ now. IsLeft v answer new trace now) (same_Some l.now n.0 (sym l.seen ∙ n.1)) l.is_left)

-- of each state
each_state : (answer : Result (Unit {0}) ChainRefusal) (old new : Session) (a b : Option Trace) → Both (λ v. ⊤) answer old new a b → WhereBothTold (λ trace now. (v : State) → IsServing old.layers v trace → IsLeft v answer new trace now) a b
each_state answer old new None None h = tt
each_state answer old new None (Some b) h = absurd h
each_state answer old new (Some a) None h = absurd h
each_state answer old new (Some a) (Some b) h = λ v serving. h v serving tt

pub fetches_leave : FetchesLeave
fetches_leave stripe answer old new piece whole h =
    each_state (unstamped answer) old new old.disk.told new.disk.told
    (where_both (λ v. ⊤) (unstamped answer) old new (λ none. fetch_untold stripe answer old new piece none h) (λ trace seen. fetch_tells stripe answer old new piece trace seen h)
    (λ v trace seen serving any. fetch_leaves stripe answer old new piece v trace seen whole serving h))

pub puts_leave : PutsLeave
puts_leave piece answer old new whole h =
    where_both (λ v. IsTruePiece v (piece_of piece)) answer old new (λ none. put_untold piece answer old new none h) (λ trace seen. put_tells piece answer old new trace seen h)
    (λ v trace seen serving is_true. put_left v old trace seen whole serving piece new is_true answer h)

pub turns_leave : TurnsLeave
turns_leave stripe answer old new whole h =
    each_state answer old new old.disk.told new.disk.told
    (where_both (λ v. ⊤) answer old new (λ none. turn_untold stripe answer old new none h) (λ trace seen. turn_tells stripe answer old new trace seen h) (λ v trace seen serving any. turn_leaves stripe answer old new v trace seen whole serving h))

pub skips_leave : SkipsLeave
skips_leave stripe n old new h =
    each_state (Ok tt) old new old.disk.told new.disk.told
    (where_both (λ v. ⊤) (Ok tt) old new (λ none. ap (λ (d : Disk). d.told) h.disk ∙ none) (λ trace seen. (trace, ap (λ (d : Disk). d.told) h.disk ∙ seen)) (λ v trace seen serving any. skip_leaves stripe n old new v trace seen serving h))

pub finishes_leave : FinishesLeave
finishes_leave answer old new whole h =
    each_state answer old new old.disk.told new.disk.told
    (where_both (λ v. ⊤) answer old new (λ none. finish_untold answer old new none h) (λ trace seen. finish_tells answer old new trace seen h) (λ v trace seen serving any. finish_leaves answer old new v trace seen whole serving h))
