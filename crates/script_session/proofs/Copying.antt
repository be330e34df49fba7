-- A merge under way in a session, and what fetches and puts make of it.
use Rattle.std.proofs.Common.{◌≡◌, ◌<◌, ◌^◌, ℕ, Bool, true, false, Option, Some, None, Result, Ok, Err, refl, sym, ap, ap₂, subst, ◌∙◌, ltb-true}
use Rattle.std.specs.Prelude.{IfSome, if◌then◌else◌, nat_lt}
use Rattle.std.proofs.lemmas.Bool.{eq-eqb, lt-ltb}
use Rattle.vx_base.specs.declared.parts.Geometry.{Geometry}
use Rattle.store_model.specs.declared.fault.StoreFault.{StoreFault}
use Rattle.store_model.specs.Trace.{Trace}
use Rattle.guest_model.specs.declared.refusal.ChainRefusal.{ChainRefusal}
use Rattle.guest_model.specs.declared.refusal.ChainRefusal.TheVariants.{Abandoned, Broken, EmptyRange, FileFull, NoMerge, NoPiece, NoRoom, NoStripe, NotYet, OutOfRange, ReadFault, ReadOnly, Spent, Stale, TooLong}
use Rattle.chain_model.specs.Merges as merges
use Rattle.chain_model.specs.Merges.{AllMarked, with_mark, with_marks}
use Rattle.chain_model.specs.Stripes.{stripe_count}
use Rattle.merge_core.specs.Copied.{IsLowest, marks_of}
use Rattle.merge_core.specs.Pieces.{piece_of}
use Rattle.merge_core.specs.declared.piece.Piece.{Piece}
use Rattle.chain_core.specs.Answering.{HasEnded, IsRefused, fault_of}
use Rattle.chain_core.specs.Copying.{FetchCause, HasMarked, IfStopped, IsMissing, IsOfStripe, PieceAnswers, PutCause, TargetRoomIs, fetch_refused, merge_refused, no_merge, no_stripe, past_stripes, put_refused, stale, stamp_of, unfilled}
use Rattle.chain_core.specs.Finished.{IsAllMarked}
use Rattle.chain_core.specs.Merging.{IsCopied, with_put}
use Rattle.chain_core.specs.Skipping.{with_passed}
use Rattle.store_model.specs.Disk.{Disk}
use Rattle.chain_core.specs.Refusing.{broken_by, or_else, unfit}
use Rattle.chain_core.specs.Sessions.{IsSound, KeepsMerge, Session, kept_marks}
use Rattle.chain_core.specs.States.{IsServing, State, sector_of}
use Rattle.script_session.specs.Histories.{Drive, Grows, IsEndTold, IsMarkedSo, IsOver, IsSoLong, IsWaiting, StopsPut, Waiting, stamp_behind, stripes_of}
use Rattle.script_session.proofs.Marked.{Marked, marked_kept, marked_of, marked_passed, marked_put, stamped}
use Rattle.script_session.specs.MergeSteps.{AnswersFetch, AnswersPut, AnswersSkip, IsUnchanged, KeepsHistory}
use Rattle.script_session.proofs.Moving.{ok_reached}
use Rattle.script_session.proofs.Lengths.{grows_none, long_later, moments_grow}
use Rattle.script_session.proofs.Room.{each_stripe, target_is_far}
use Rattle.script_session.proofs.Telling.{IsFar, both_told, kept_same, over_events}

-- ---- a session with a merge under way, of which these stripes are copied

pub record IsCopying (drive : Drive) (v : State) (s : Session) (now : Trace) (l : Bool) (copied : ℕ → Bool) : Type 0 where
  pub whole : s.broken ≡ None
  pub serving : IsServing s.layers v now
  pub marks : IsMarkedSo s.layers copied l
  pub over : IsOver drive v s
  pub seen : s.disk.told ≡ Some now

pub inside_of : (stripe stripes : ℕ) → past_stripes stripe stripes ≡ None → stripe < stripes
inside_of stripe stripes h = go (nat_lt stripe stripes) refl h
  where
    go : (b : Bool) → nat_lt stripe stripes ≡ b → ◌≡◌ {A = Option ChainRefusal} (if b then None else Some (NoStripe stripe stripes)) None → stripe < stripes
    go true e h = ltb-true stripe stripes e
    go false e h = let bad : ◌≡◌ {A = Option ChainRefusal} (Some (NoStripe stripe stripes)) None = h in absurd (cc)

pub not_past : (stripe stripes : ℕ) → stripe < stripes → past_stripes stripe stripes ≡ None
not_past stripe stripes h = ap (λ b. if b then None else Some (NoStripe stripe stripes)) (lt-ltb stripe stripes h)

pub over_kept : (drive : Drive) (v : State) (old new : Session) → IsOver drive v old → KeepsHistory old new → IsOver drive v new
over_kept drive v old new over keeps = record {
  geometry = keeps.geometry ∙ over.geometry;
  change = keeps.session ∙ over.change;
  opening = over.opening;
  sector = over.sector;
  noted = keeps.noted ∙ over.noted;
  kept = kept_same old.told new.told v.history over.kept keeps.told;
}

over_put : (drive : Drive) (p : merges.Piece) (v : State) (s : Session) → IsOver drive v s → IsOver drive (with_put p v) s
over_put drive p v s over = record { geometry = over.geometry; change = over.change; opening = over.opening; sector = over.sector; noted = over.noted; kept = over.kept }

pub is_fit : (s : Session) → s.events < 2 ^ 63 → s.broken ≡ None → unfit s.events s.broken ≡ None
is_fit s few whole = ap₂ (λ (b : Bool) (o : Option StoreFault). if b then broken_by o else Some (Spent s.events)) (lt-ltb s.events (2 ^ 63) few) whole

module _ (drive : Drive) (v : State) (s : Session) (now : Trace) (l : Bool) (copied : ℕ → Bool) (c : IsCopying drive v s now l copied) where
  has : Marked s.layers copied
  has = marked_of l s.layers copied c.marks

  none_barred : no_merge s.layers ≡ None
  none_barred = ap (λ b. if b then None else Some NoMerge) has.there

  pub stripes_are : stripe_count s.layers.geometry.sector s.layers.geometry.sectors ≡ stripes_of drive
  stripes_are = ap (λ (g : Geometry). stripe_count g.sector g.sectors) c.over.geometry

  past_is : (stripe : ℕ) → no_stripe stripe s.layers ≡ past_stripes stripe (stripes_of drive)
  past_is stripe = ap₂ (λ (b : Bool) (n : ℕ). if b then past_stripes stripe n else Some NoMerge) has.there stripes_are

  pub fetch_cause : (stripe : ℕ) → s.events < 2 ^ 63 → fetch_refused stripe s ≡ past_stripes stripe (stripes_of drive)
  fetch_cause stripe few = ap₂ or_else (is_fit s few c.whole) (past_is stripe)

  pub merge_cause : s.events < 2 ^ 63 → merge_refused s ≡ None
  merge_cause few = ap₂ or_else (is_fit s few c.whole) none_barred

  -- the stamp of each stripe
  pub stamp_is : (stripe : ℕ) → stripe < stripes_of drive → stamp_of s.layers stripe ≡ stamp_behind l v.history stripe
  stamp_is stripe there =
      let size : stripe_count (sector_of v) v.top.member.ties.geometry.sectors ≡ stripes_of drive = ap (λ (g : Geometry). stripe_count g.sector g.sectors) (sym c.serving.geometry) ∙ stripes_are in
      stamped l (sector_of v) v.writes v.history s.layers v.top v.rest copied c.marks c.serving.leaving c.over.sector stripe (subst (λ n. stripe < n) (sym size) there)

  pub put_cause : (w : Waiting) (piece : Piece) → s.events < 2 ^ 63 → IsWaiting v s.layers.geometry w piece → put_refused piece s ≡ stale w.stamp (stamp_behind l v.history w.stripe)
  put_cause w piece few held =
      let full : unfilled piece ≡ None = ap (λ b. if b then None else Some NoPiece) held.taken.filled in
      let inside : w.stripe < stripes_of drive = subst (λ n. w.stripe < n) stripes_are held.there in
      let within : no_stripe piece.stripe s.layers ≡ None = ap (λ t. no_stripe t s.layers) held.taken.stripe_is ∙ past_is w.stripe ∙ not_past w.stripe (stripes_of drive) inside in
      let stamp_now : stamp_of s.layers piece.stripe ≡ stamp_behind l v.history w.stripe = ap (stamp_of s.layers) held.taken.stripe_is ∙ stamp_is w.stripe inside in
      ap₂ or_else (is_fit s few c.whole) (ap₂ or_else none_barred (ap₂ or_else full (ap₂ or_else within (ap₂ stale held.taken.stamp_is stamp_now))))

  marks_each : IsSound s → has.marks.stripes ≡ stripe_count s.layers.geometry.sector s.layers.geometry.sectors
  marks_each sound = each_stripe s.layers s.disk has.marks (sound.ready c.whole) has.is

  pub lowest_is : (stripe : ℕ) → IsSound s → IfSome (kept_marks s.layers) (λ m. IsLowest m.stripes (marks_of m) stripe) → IsLowest (stripes_of drive) copied stripe
  lowest_is stripe sound lowest =
      let low : IsLowest has.marks.stripes (marks_of has.marks) stripe = subst (λ o. IfSome o (λ m. IsLowest m.stripes (marks_of m) stripe)) has.is lowest in
      record {
        there = subst (λ n. stripe < n) (marks_each sound ∙ stripes_are) low.there;
        unmarked = sym (has.are stripe) ∙ low.unmarked;
        below = λ u h. sym (has.are u) ∙ low.below u h;
      }

  pub marked_is : IsSound s → IfSome (kept_marks s.layers) IsAllMarked → AllMarked (stripes_of drive) copied
  marked_is sound marked t h =
      let all : AllMarked has.marks.stripes (marks_of has.marks) = subst (λ o. IfSome o IsAllMarked) has.is marked in
      sym (has.are t) ∙ all t (subst (λ n. t < n) (sym (marks_each sound ∙ stripes_are)) h)

  pub next_is : (stripe : ℕ) → IsSound s → IsMissing (kept_marks s.layers) (Some stripe) → IsLowest (stripes_of drive) copied stripe
  next_is stripe sound missing = lowest_is stripe sound (subst (λ o. IfSome o (λ m. IsLowest m.stripes (marks_of m) stripe)) (sym has.is) (subst (λ o. IsMissing o (Some stripe)) has.is missing))

  pub all_is : IsSound s → IsMissing (kept_marks s.layers) None → AllMarked (stripes_of drive) copied
  all_is sound missing = marked_is sound (subst (λ o. IfSome o IsAllMarked) (sym has.is) (subst (λ o. IsMissing o None) has.is missing))

  pub unchanged : (new : Session) → IsUnchanged s new → IsCopying drive v new now l copied
  unchanged new is = subst (λ k. IsCopying drive v k now l copied) (sym is) (record { whole = c.whole; serving = c.serving; marks = c.marks; over = over_events drive v s new.events c.over; seen = c.seen })

-- ---- a fetch

pub record Fetched (drive : Drive) (v : State) (trace : Trace) (new : Session) (l : Bool) (copied : ℕ → Bool) (stripe : ℕ) (piece : Piece) (stamp : ℕ) : Type 0 where
  pub now : Trace
  pub copying : IsCopying drive v new now l copied
  pub waiting : IsWaiting v new.layers.geometry (record { stripe = stripe; stamp = stamp_behind l v.history stripe }) piece
  pub stamp_is : stamp ≡ stamp_behind l v.history stripe
  pub grows : Grows trace now
  pub inside : stripe < stripes_of drive

-- it is refused for its stripe, or a read failed
pub data FetchEnds (drive : Drive) (stripe : ℕ) : ChainRefusal → Type 0 where
  is_past : (x : ChainRefusal) → past_stripes stripe (stripes_of drive) ≡ Some x → FetchEnds drive stripe x
  has_failed : (file count : ℕ) → stripe < stripes_of drive → FetchEnds drive stripe (ReadFault file count)

pub record Unfetched (drive : Drive) (v : State) (trace : Trace) (new : Session) (l : Bool) (copied : ℕ → Bool) (stripe : ℕ) (x : ChainRefusal) : Type 0 where
  pub now : Trace
  pub grows : Grows trace now
  pub copying : IsCopying drive v new now l copied
  pub ends : FetchEnds drive stripe x

same_as : {T : Type 0} (x e : ChainRefusal) → ◌≡◌ {A = Result T ChainRefusal} (Err x) (Err e) → x ≡ e
same_as x e h = cc

module _ (drive : Drive) (old new : Session) (left : Piece) (stripe : ℕ) (inside : stripe < stripes_of drive) where
  read_failed : (x : ChainRefusal) → FetchCause old new left (Err x) → FetchEnds drive stripe x × (new.broken ≡ None)
  read_failed EmptyRange c = absurd c
  read_failed (OutOfRange first count sectors) c = absurd c
  read_failed (TooLong count limit) c = absurd c
  read_failed ReadOnly c = absurd c
  read_failed (Broken file count) c = absurd c
  read_failed (Spent t) c = absurd c
  read_failed (FileFull next) c = absurd c
  read_failed (ReadFault file count) c = (has_failed file count inside, c.3)
  read_failed NoMerge c = absurd c
  read_failed (Stale taken at) c = absurd c
  read_failed (NotYet stripe) c = absurd c
  read_failed (Abandoned file count) c = absurd c
  read_failed (NoStripe stripe stripes) c = absurd c
  read_failed NoPiece c = absurd c
  read_failed NoRoom c = absurd c

module _ (drive : Drive) (v : State) (old : Session) (trace : Trace) (l : Bool) (copied : ℕ → Bool) (c : IsCopying drive v old trace l copied) (few : old.events < 2 ^ 63) where
  pub fetch_ok : (stripe stamp : ℕ) (new : Session) (piece : Piece) → AnswersFetch stripe (Ok stamp) old new piece → Fetched drive v trace new l copied stripe piece stamp
  fetch_ok stripe stamp new piece h =
      let none = ok_reached _ (fetch_refused stripe old) stamp h.early in
      let cause = h.cause none in
      let after = both_told _ old.disk.told new.disk.told trace c.seen (h.told none) in
      let answers = after.2 v c.serving in
      let inside : stripe < stripes_of drive = inside_of stripe (stripes_of drive) (sym (fetch_cause drive v old trace l copied c stripe few) ∙ none) in
      let same = sym h.keeps.geometry in
      record {
        now = after.0;
        copying = record { whole = cause.2; serving = answers.0.serving; marks = marked_kept l old.layers new.layers copied h.merge c.marks; over = over_kept drive v old new c.over h.keeps; seen = after.1 };
        waiting = record {
          there = subst (λ (g : Geometry). stripe < stripe_count g.sector g.sectors) same (subst (λ n. stripe < n) (sym (stripes_are drive v old trace l copied c)) inside);
          taken = subst (λ g. IsOfStripe g stripe (stamp_behind l v.history stripe) piece) same (subst (λ n. IsOfStripe old.layers.geometry stripe n piece) (stamp_is drive v old trace l copied c stripe inside) h.taken);
          is_true = answers.1;
        };
        stamp_is = cause.0 ∙ h.taken.stamp_is ∙ stamp_is drive v old trace l copied c stripe inside;
        inside = inside;
        grows = moments_grow _ trace after.0 answers.0.moments;
      }

  pub fetch_err : (stripe : ℕ) (x : ChainRefusal) (new : Session) (left : Piece) → AnswersFetch stripe (Err x) old new left → Unfetched drive v trace new l copied stripe x
  fetch_err stripe x new left h = go (fetch_refused stripe old) refl
    where
      go : (o : Option ChainRefusal) → fetch_refused stripe old ≡ o → Unfetched drive v trace new l copied stripe x
      go (Some e) is =
          let early = subst (λ o. IfStopped {T = ℕ} o (Err x) (IsUnchanged old new)) is h.early in
          record {
            now = trace;
            grows = grows_none trace;
            copying = unchanged drive v old trace l copied c new early.1;
            ends = is_past x (sym (fetch_cause drive v old trace l copied c stripe few) ∙ is ∙ ap Some (sym (same_as {T = ℕ} x e early.0)));
          }
      go None is =
          let after = both_told _ old.disk.told new.disk.told trace c.seen (h.told is) in
          let inside : stripe < stripes_of drive = inside_of stripe (stripes_of drive) (sym (fetch_cause drive v old trace l copied c stripe few) ∙ is) in
          let ends = read_failed drive old new left stripe inside x (h.cause is) in
          record {
            now = after.0;
            grows = moments_grow _ trace after.0 (after.2 v c.serving).moments;
            copying = record { whole = ends.1; serving = (after.2 v c.serving).serving; marks = marked_kept l old.layers new.layers copied h.merge c.marks; over = over_kept drive v old new c.over h.keeps; seen = after.1 };
            ends = ends.0;
          }

-- ---- a put

pub never_stale : (n : ℕ) → stale n n ≡ None
never_stale n = ap (λ b. if b then None else Some (Stale n n)) (eq-eqb n n refl)

pub record Put (drive : Drive) (v : State) (trace : Trace) (new : Session) (l : Bool) (copied : ℕ → Bool) (stripe : ℕ) (piece : Piece) : Type 0 where
  pub now : Trace
  pub grows : Grows trace now
  pub copying : IsCopying drive (with_put (piece_of piece) v) new now l (with_mark stripe copied)

-- it stops, or it breaks the session
pub data PutEnds (drive : Drive) (v : State) (new : Session) (l : Bool) (copied : ℕ → Bool) (trace now : Trace) : ChainRefusal → Type 0 where
  put_stops : (x : ChainRefusal) → StopsPut x → IsEndTold (IsSoLong v.writes now) (Err x) → Grows trace now → IsCopying drive v new now l copied → PutEnds drive v new l copied trace now x
  put_fails : (file count : ℕ) → new.broken ≡ Some (fault_of file count) → HasEnded v trace now → PutEnds drive v new l copied trace now (Broken file count)

pub ends_grow : (drive : Drive) (v : State) (new : Session) (l : Bool) (copied : ℕ → Bool) (trace now : Trace) (x : ChainRefusal) → PutEnds drive v new l copied trace now x → Grows trace now
ends_grow drive v new l copied trace now x (put_stops _ stops full grows c) = grows
ends_grow drive v new l copied trace now _ (put_fails file count broken ended) = moments_grow _ trace now ended.moments

module _ (drive : Drive) (v : State) (old new : Session) (trace now : Trace) (l : Bool) (copied : ℕ → Bool) (piece : Piece) (marks : KeepsMerge old.layers new.layers → IsMarkedSo new.layers copied l) (over : IsOver drive v new) (seen : new.disk.told ≡ Some now) where
  goes_on : new.broken ≡ None → KeepsMerge old.layers new.layers → IsRefused v new.layers trace now → IsCopying drive v new now l copied
  goes_on whole keeps r = record { whole = whole; serving = r.serving; marks = marks keeps; over = over; seen = seen }

  put_outcome : (x : ChainRefusal) → IsFar v.writes trace x → PutCause piece old new (Err x) → PieceAnswers piece v new.layers trace now (Err x) → PutEnds drive v new l copied trace now x
  put_outcome EmptyRange far c a = absurd c
  put_outcome (OutOfRange first count sectors) far c a = absurd c
  put_outcome (TooLong count limit) far c a = absurd c
  put_outcome ReadOnly far c a = absurd c
  put_outcome (Broken file count) far c a = put_fails file count c.3 a
  put_outcome (Spent t) far c a = absurd c
  put_outcome (FileFull next) far c a = let f = far next refl in let more = moments_grow _ trace now a.moments in put_stops (FileFull next) f.0 (long_later v.writes v.writes trace now next (λ n e. e) more f.1) more (goes_on c.2 c.0 a)
  put_outcome (ReadFault file count) far c a = put_stops (ReadFault file count) tt tt (moments_grow _ trace now a.moments) (goes_on c.3 c.0 a)
  put_outcome NoMerge far c a = absurd c
  put_outcome (Stale taken at) far c a = absurd c
  put_outcome (NotYet stripe) far c a = absurd c
  put_outcome (Abandoned file count) far c a = absurd c
  put_outcome (NoStripe stripe stripes) far c a = absurd c
  put_outcome NoPiece far c a = absurd c
  put_outcome NoRoom far c a = absurd c

module _ (drive : Drive) (v : State) (old : Session) (trace : Trace) (l : Bool) (copied : ℕ → Bool) (c : IsCopying drive v old trace l copied) (w : Waiting) (piece : Piece) (held : IsWaiting v old.layers.geometry w piece) where
  pub put_ok : (new : Session) → AnswersPut piece (Ok tt) old new → Put drive v trace new l copied w.stripe piece
  put_ok new h =
      let none = ok_reached _ (put_refused piece old) tt h.early in
      let after = both_told _ old.disk.told new.disk.told trace c.seen (h.told none) in
      let done : IsCopied (piece_of piece) v new.layers trace after.0 = after.2 v c.serving held.is_true in
      record {
        now = after.0;
        grows = moments_grow _ trace after.0 done.moments;
        copying = record {
          whole = (h.cause none).2;
          serving = done.serving;
          marks = marked_put l w.stripe old.layers new.layers copied (subst (λ n. HasMarked n old.layers new.layers (Ok tt)) held.taken.stripe_is (h.cause none).0) c.marks;
          over = over_put drive (piece_of piece) v new (over_kept drive v old new c.over h.keeps);
          seen = after.1;
        };
      }

  pub put_err : (x : ChainRefusal) (new : Session) → put_refused piece old ≡ None → AnswersPut piece (Err x) old new → (now : Trace) × (new.disk.told ≡ Some now) × PutEnds drive v new l copied trace now x
  put_err x new none h =
      let after = both_told _ old.disk.told new.disk.told trace c.seen (h.told none) in
      let far : IsFar v.writes trace x = λ next e. target_is_far piece next v old trace (h.sound.ready c.whole) (has drive v old trace l copied c).there c.serving c.seen (subst (λ y. TargetRoomIs piece old.layers old.disk (Err y)) e (h.room none)) in
      (after.0, after.1, put_outcome drive v old new trace after.0 l copied piece (λ keeps. marked_kept l old.layers new.layers copied keeps c.marks) (over_kept drive v old new c.over h.keeps) after.1 x far (h.cause none) (after.2 v c.serving held.is_true))

-- ---- a pass

over_pass : (drive : Drive) (from n : ℕ) (v : State) (s : Session) → IsOver drive v s → IsOver drive (with_passed from n v) s
over_pass drive from n v s over = record { geometry = over.geometry; change = over.change; opening = over.opening; sector = over.sector; noted = over.noted; kept = over.kept }

pub passed_so : (drive : Drive) (v : State) (old : Session) (trace : Trace) (l : Bool) (copied : ℕ → Bool) → IsCopying drive v old trace l copied → (stripe n : ℕ) (new : Session) → AnswersSkip stripe n old new
    → IsCopying drive (with_passed stripe n v) new trace l (with_marks stripe n copied)
passed_so drive v old trace l copied c stripe n new h =
    let after = both_told _ old.disk.told new.disk.told trace c.seen h.told in
    let same : after.0 ≡ trace = same_some (sym after.1 ∙ ap (λ (d : Disk). d.told) h.disk ∙ c.seen) in
    record {
      whole = h.whole;
      serving = subst (IsServing new.layers (with_passed stripe n v)) same (after.2 v c.serving).serving;
      marks = marked_passed l stripe n old.layers new.layers copied h.passed c.marks;
      over = over_pass drive stripe n v new (over_kept drive v old new c.over h.keeps);
      seen = ap (λ (d : Disk). d.told) h.disk ∙ c.seen;
    }
  where
    same_some : {a b : Trace} → ◌≡◌ {A = Option Trace} (Some a) (Some b) → a ≡ b
    same_some h = cc
