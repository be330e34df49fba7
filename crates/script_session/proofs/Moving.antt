-- What the calls of a merge say of a chain's session.
use Rattle.std.proofs.Common.{◌≡◌, ◌<◌, ◌≤◌, ◌+◌, ◌^◌, ◌==◌, ◌||◌, ◌&&◌, ltb-true, ltb-false, List, ℕ, zero, suc, Bool, true, false, cond, Option, Some, None, Result, Ok, Err, refl, sym, ap, subst, ◌∙◌, arith}
use Rattle.std.specs.Prelude.{IfErr, IfOk, OnErr, if◌then◌else◌, is_some, nat_le, nat_lt}
use Rattle.std.proofs.lemmas.Bool.{eq-eqb}
use Rattle.std.proofs.lemmas.Option.{same_Some}
use Rattle.store_model.specs.Disk.{Disk}
use Rattle.guest_model.specs.declared.call.Entry.{Entry}
use Rattle.guest_model.specs.declared.refusal.ChainRefusal.{ChainRefusal}
use Rattle.guest_model.specs.declared.refusal.ChainRefusal.TheVariants.{Abandoned, Broken, EmptyRange, FileFull, NoMerge, NoPiece, NoRoom, NoStripe, NotYet, OutOfRange, ReadFault, ReadOnly, Spent, Stale, TooLong}
use Rattle.chain_model.specs.Merges.{with_mark, with_marks}
use Rattle.merge_core.specs.Copied.{marks_of}
use Rattle.merge_core.specs.declared.piece.Piece.{Piece}
use Rattle.chain_core.specs.declared.chain.Chain.{Chain}
use Rattle.chain_core.specs.declared.layers.Layers.{Layers}
use Rattle.chain_core.specs.declared.layers.Retiring.{Retiring}
use Rattle.chain_core.specs.declared.layers.Underway.{Underway}
use Rattle.merge_core.specs.declared.marks.Marks.{Marks}
use Rattle.chain_core.specs.Copying.{FetchCause, FetchTold, HasMarked, IfStopped, IsMissing, IsOfStripe, MarksIn, MarksToo, PieceTold, PutCause, TargetRoomIs, fetch_refused, merge_refused, no_merge, put_refused, stamp_of}
use Rattle.chain_core.specs.Finished.{FinishCause, FinishTold}
use Rattle.chain_core.specs.Refusing.{counted, or_else, unfit}
use Rattle.chain_core.specs.Sessions.{IsCounted, IsSound, KeepsMerge, Session, kept_marks, marks_in, seen}
use Rattle.chain_core.specs.Skipping.{MarksRun, MarksRunToo, SkipCause, SkipTold}
use Rattle.vx_base.specs.declared.parts.Geometry.{Geometry}
use Rattle.script_session.specs.Answers.{IsSlot}
use Rattle.script_session.specs.MergeSteps.{AnswersFetch, AnswersFinish, AnswersPut, AnswersSkip, AnswersTurn, IsUnchanged, KeepsHistory, fetched_and, not_fetched}

-- ---- causes

pub counted_low : (n : ℕ) → counted n ≤ n + 1
counted_low n = go (nat_lt n (2 ^ 63))
  where
    go : (b : Bool) → (if b then n + 1 else n) ≤ n + 1
    go true = omega arith
    go false = omega arith

pub counted_high : (n : ℕ) → n ≤ counted n
counted_high n = go (nat_lt n (2 ^ 63))
  where
    go : (b : Bool) → n ≤ (if b then n + 1 else n)
    go true = omega arith
    go false = omega arith

pub first_of : (u m x : Option ChainRefusal) (e : ChainRefusal) → or_else u m ≡ Some e → or_else u (or_else m x) ≡ Some e
first_of None None x e h = cc
first_of None (Some y) x e h = h
first_of (Some y) m x e h = h

pub parts_none : (u m : Option ChainRefusal) → or_else u m ≡ None → (u ≡ None) × (m ≡ None)
parts_none None m h = (refl, h)
parts_none (Some y) m h = let bad : ◌≡◌ {A = Option ChainRefusal} (Some y) None = h in absurd (cc)

pub not_none : {P : Type 0} (o : Option ChainRefusal) (e : ChainRefusal) → o ≡ Some e → o ≡ None → P
not_none o e is none = let bad : ◌≡◌ {A = Option ChainRefusal} (Some e) None = sym is ∙ none in absurd (cc)

-- what was done wasn't refused before it reached the files
pub ok_reached : {T : Type 0} (P : Type 0) (o : Option ChainRefusal) (x : T) → IfStopped o (Ok x) P → o ≡ None
ok_reached P None x h = refl
ok_reached {T} P (Some e) x h = let bad : ◌≡◌ {A = Result T ChainRefusal} (Ok x) (Err e) = h.0 in absurd (cc)

-- where nothing was fetched
pub unfilled_refused : (s : Session) (piece : Piece) → merge_refused s ≡ None → piece.filled ≡ false → put_refused piece s ≡ Some NoPiece
unfilled_refused s piece none empty =
    let both = parts_none (unfit s.events s.broken) (no_merge s.layers) none in
    rw (both.0, both.1, empty) refl

-- ---- answers

module _ (old new : Session) (piece left : Piece) where
  cause_left : (x : ChainRefusal) → FetchCause old new piece (Err x) → left.filled ≡ false → FetchCause old new left (Err x)
  cause_left EmptyRange c empty = absurd c
  cause_left (OutOfRange first count sectors) c empty = absurd c
  cause_left (TooLong count limit) c empty = absurd c
  cause_left ReadOnly c empty = absurd c
  cause_left (Broken file count) c empty = absurd c
  cause_left (Spent t) c empty = absurd c
  cause_left (FileFull next) c empty = absurd c
  cause_left (ReadFault file count) c empty = (empty, c.1, c.2, c.3)
  cause_left NoMerge c empty = absurd c
  cause_left (Stale taken at) c empty = absurd c
  cause_left (NotYet stripe) c empty = absurd c
  cause_left (Abandoned file count) c empty = absurd c
  cause_left (NoStripe stripe stripes) c empty = absurd c
  cause_left NoPiece c empty = absurd c
  cause_left NoRoom c empty = absurd c

-- a step that no call of the chain was made for
pub put_refused_so : (piece : Piece) (s : Session) (e : ChainRefusal) → IsSound s → put_refused piece s ≡ Some e → AnswersPut piece (Err e) s s
put_refused_so piece s e sound is = record {
  sound = sound;
  early = by_cause (put_refused piece s) is;
  cause = λ none. not_none _ e is none;
  room = λ none. not_none _ e is none;
  told = λ none. not_none _ e is none;
  keeps = record { noted = refl; told = refl; geometry = refl; session = refl };
  events = omega arith;
  later = omega arith;
}
  where
    by_cause : (o : Option ChainRefusal) → o ≡ Some e → IfStopped {T = Unit {0}} o (Err e) (IsUnchanged s s)
    by_cause None h = tt
    by_cause (Some x) h = (ap Err (sym (same_Some x e h)), refl)

pub put_barred : (piece : Piece) (s : Session) (e : ChainRefusal) → IsSound s → merge_refused s ≡ Some e → AnswersPut piece (Err e) s s
put_barred piece s e sound is = put_refused_so piece s e sound (first_of (unfit s.events s.broken) (no_merge s.layers) _ e is)

module _ {S R T : Type 0} (disk : S → Disk) (noted : R → ℕ) (told : R → Option (List Entry)) (old new : Chain S R T) where
  abbrev before : Session
  before = seen disk noted told old

  abbrev after : Session
  after = seen disk noted told new

  keeps_by : new.layers.geometry ≡ old.layers.geometry → is_some new.layers.leaf ≡ is_some old.layers.leaf → new.recorder ≡ old.recorder → KeepsHistory before after
  keeps_by geometry session history = record { noted = ap noted history; told = ap told history; geometry = geometry; session = session }

  events_by : new.events ≡ counted old.events → after.events ≤ before.events + 1
  events_by e = omega (arith, e, counted_low old.events)

  later_by : new.events ≡ counted old.events → before.events ≤ after.events
  later_by e = omega (arith, e, counted_high old.events)

  fetch_early : (P : Type 0) (o : Option ChainRefusal) (answer : Result ℕ ChainRefusal) → IfStopped o answer (IsCounted old new × P) → IfStopped o answer (IsUnchanged before after)
  fetch_early P None answer h = tt
  fetch_early P (Some e) answer h = (h.0, ap (seen disk noted told) h.1.0)

  put_early : (o : Option ChainRefusal) (answer : Result (Unit {0}) ChainRefusal) → IfStopped o answer (IsCounted old new) → IfStopped o answer (IsUnchanged before after)
  put_early None answer h = tt
  put_early (Some e) answer h = (h.0, ap (seen disk noted told) h.1)

  pub fetch_done : (P : Type 0) (stripe stamp : ℕ) (left : Piece) → IsSound before → IfStopped {T = ℕ} (fetch_refused stripe before) (Ok stamp) (IsCounted old new × P) → (fetch_refused stripe before ≡ None → FetchCause before after left (Ok stamp))
      → IsOfStripe before.layers.geometry stripe (stamp_of before.layers stripe) left → FetchTold left before after (Ok stamp) → new.events ≡ counted old.events → new.layers.geometry ≡ old.layers.geometry → is_some new.layers.leaf ≡ is_some old.layers.leaf
      → KeepsMerge old.layers new.layers → new.recorder ≡ old.recorder → AnswersFetch stripe (Ok stamp) before after left
  fetch_done P stripe stamp left sound early cause taken answers events geometry session merge history = record {
    sound = sound;
    early = fetch_early P (fetch_refused stripe before) (Ok stamp) early;
    cause = cause;
    taken = taken;
    emptied = tt;
    told = λ fit. answers;
    keeps = keeps_by geometry session history;
    merge = merge;
    events = events_by events;
    later = later_by events;
  }

  pub fetch_failed : (P : Type 0) (stripe : ℕ) (x : ChainRefusal) (piece left : Piece) → left ≡ record piece { filled = false } → IsSound before → IfStopped {T = ℕ} (fetch_refused stripe before) (Err x) (IsCounted old new × P)
      → (fetch_refused stripe before ≡ None → FetchCause before after piece (Err x))
      → FetchTold piece before after (Err x) → new.events ≡ counted old.events → new.layers.geometry ≡ old.layers.geometry → is_some new.layers.leaf ≡ is_some old.layers.leaf
      → KeepsMerge old.layers new.layers → new.recorder ≡ old.recorder → AnswersFetch stripe (Err x) before after left
  fetch_failed P stripe x piece left is sound early cause answers events geometry session merge history =
      let empty : left.filled ≡ false = ap (λ (p : Piece). p.filled) is in
      record {
        sound = sound;
        early = fetch_early P (fetch_refused stripe before) (Err x) early;
        cause = λ fit. cause_left before after piece left x (cause fit) empty;
        taken = tt;
        emptied = empty;
        told = λ fit. answers;
        keeps = keeps_by geometry session history;
        merge = merge;
        events = events_by events;
        later = later_by events;
      }

  pub put_answers : (piece : Piece) (answer : Result (Unit {0}) ChainRefusal) → IsSound before → IfStopped (put_refused piece before) answer (IsCounted old new) → (put_refused piece before ≡ None → PutCause piece before after answer)
      → (put_refused piece before ≡ None → TargetRoomIs piece before.layers before.disk answer) → PieceTold piece before after answer → new.events ≡ counted old.events → new.layers.geometry ≡ old.layers.geometry
      → is_some new.layers.leaf ≡ is_some old.layers.leaf → new.recorder ≡ old.recorder → AnswersPut piece answer before after
  put_answers piece answer sound early cause room answers events geometry session history = record {
    sound = sound;
    early = put_early (put_refused piece before) answer early;
    cause = cause;
    room = room;
    told = λ fit. answers;
    keeps = keeps_by geometry session history;
    events = events_by events;
    later = later_by events;
  }

-- what isn't done says, of one fact, what it says of another that follows from it
finish_more : (P Q : Type 0) (s end : Session) (answer : Result (Unit {0}) ChainRefusal) → FinishCause s end answer P → (P → Q) → FinishCause s end answer Q
finish_more P Q s end (Ok done) c f = c
finish_more P Q s end (Err EmptyRange) c f = absurd c
finish_more P Q s end (Err (OutOfRange first count sectors)) c f = absurd c
finish_more P Q s end (Err (TooLong count limit)) c f = absurd c
finish_more P Q s end (Err ReadOnly) c f = absurd c
finish_more P Q s end (Err (Broken file count)) c f = c
finish_more P Q s end (Err (Spent t)) c f = absurd c
finish_more P Q s end (Err (FileFull next)) c f = absurd c
finish_more P Q s end (Err (ReadFault file count)) c f = absurd c
finish_more P Q s end (Err NoMerge) c f = absurd c
finish_more P Q s end (Err (Stale taken at)) c f = absurd c
finish_more P Q s end (Err (NotYet stripe)) c f = (c.0, f c.1)
finish_more P Q s end (Err (Abandoned file count)) c f = absurd c
finish_more P Q s end (Err (NoStripe stripe stripes)) c f = absurd c
finish_more P Q s end (Err NoPiece) c f = absurd c
finish_more P Q s end (Err NoRoom) c f = absurd c

module _ {S R T : Type 0} (disk : S → Disk) (noted : R → ℕ) (told : R → Option (List Entry)) (old new : Chain S R T) where
  pub finish_answers : (answer : Result (Unit {0}) ChainRefusal) → IsSound (seen disk noted told old) → IfStopped (merge_refused (seen disk noted told old)) answer (IsCounted old new)
      → (merge_refused (seen disk noted told old) ≡ None → FinishCause (seen disk noted told old) (seen disk noted told new) answer (IsCounted old new)) → FinishTold (seen disk noted told old) (seen disk noted told new) answer
      → new.events ≡ counted old.events → new.layers.geometry ≡ old.layers.geometry → is_some new.layers.leaf ≡ is_some old.layers.leaf → new.recorder ≡ old.recorder → AnswersFinish answer (seen disk noted told old) (seen disk noted told new)
  finish_answers answer sound early cause answers events geometry session history = record {
    sound = sound;
    early = put_early disk noted told old new (merge_refused (seen disk noted told old)) answer early;
    cause = λ fit. finish_more _ _ (seen disk noted told old) (seen disk noted told new) answer (cause fit) (ap (seen disk noted told));
    told = λ fit. answers;
    keeps = keeps_by disk noted told old new geometry session history;
    events = events_by disk noted told old new events;
    later = later_by disk noted told old new events;
  }

pub slot_stays : (g h : Geometry) (piece : Piece) → h ≡ g → IsSlot g piece → IsSlot h piece
slot_stays g h piece same slot = subst (λ k. IsSlot k piece) (sym same) slot

-- nothing was taken that has to fit
pub no_slot : (g : Geometry) (piece : Piece) → piece.filled ≡ false → IsSlot g piece
no_slot g piece empty filled = let bad : false ≡ true = sym empty ∙ filled in absurd (cc)

-- ---- marks

-- how many of the first stripes have no mark
abbrev pub unmarked : ℕ → (ℕ → Bool) → ℕ
unmarked zero marks = 0
unmarked (suc n) marks = unmarked n marks + cond (marks n) 0 1

-- and of a merge under way
abbrev pub left_in : Option Marks → ℕ
left_in None = 0
left_in (Some m) = unmarked m.stripes (marks_of m)

one_less : (a b : Bool) → (a ≡ true → b ≡ true) → cond b 0 1 ≤ cond a 0 1
one_less true true h = omega arith
one_less false true h = omega arith
one_less false false h = omega arith
one_less true false h = let bad : false ≡ true = h refl in absurd (cc)

no_more : (n : ℕ) (a b : ℕ → Bool) → ((t : ℕ) → a t ≡ true → b t ≡ true) → unmarked n b ≤ unmarked n a
no_more zero a b h = omega arith
no_more (suc n) a b h = omega (arith, no_more n a b h, one_less (a n) (b n) (h n))

at_place : (n t : ℕ) (a b : ℕ → Bool) → ((t : ℕ) → a t ≡ true → b t ≡ true) → t < suc n → a t ≡ false → b t ≡ true → (t < n → unmarked n b < unmarked n a) → (c : Bool) → nat_lt t n ≡ c → unmarked (suc n) b < unmarked (suc n) a
at_place n t a b h inside was is below true e = omega (arith, below (ltb-true t n e), one_less (a n) (b n) (h n))
at_place n t a b h inside was is below false e =
    let same : t ≡ n = omega (arith, ltb-false t n e, inside) in
    let first : ◌≡◌ {A = ℕ} (cond (a n) 0 1) 1 = ap (λ x. cond x 0 1) (ap a (sym same) ∙ was) in
    let last : ◌≡◌ {A = ℕ} (cond (b n) 0 1) 0 = ap (λ x. cond x 0 1) (ap b (sym same) ∙ is) in
    omega (arith, no_more n a b h, first, last)

fewer : (n t : ℕ) (a b : ℕ → Bool) → ((t : ℕ) → a t ≡ true → b t ≡ true) → t < n → a t ≡ false → b t ≡ true → unmarked n b < unmarked n a
fewer zero t a b h inside was is = omega (arith, inside)
fewer (suc n) t a b h inside was is = at_place n t a b h inside was is (λ less. fewer n t a b h less was is) (nat_lt t n) refl

stays_marked : (stripe t : ℕ) (marks : ℕ → Bool) → marks t ≡ true → with_mark stripe marks t ≡ true
stays_marked stripe t marks h = go (t == stripe)
  where
    go : (b : Bool) → (b || marks t) ≡ true
    go true = refl
    go false = h

is_marked : (stripe : ℕ) (marks : ℕ → Bool) → with_mark stripe marks stripe ≡ true
is_marked stripe marks = ap (λ b. b || marks stripe) (eq-eqb stripe stripe refl)

-- a stripe that had no mark has one
fewer_by : (stripe : ℕ) (m n : Marks) → IsMissing (Some m) (Some stripe) → n.stripes ≡ m.stripes → ((t : ℕ) → marks_of n t ≡ with_mark stripe (marks_of m) t) → left_in (Some n) < left_in (Some m)
fewer_by stripe m n missing stripes marks_are =
    let more : (t : ℕ) → marks_of m t ≡ true → marks_of n t ≡ true = λ t h. marks_are t ∙ stays_marked stripe t (marks_of m) h in
    subst (λ k. unmarked k (marks_of n) < unmarked m.stripes (marks_of m)) (sym stripes)
    (fewer m.stripes stripe (marks_of m) (marks_of n) more missing.there missing.unmarked (marks_are stripe ∙ is_marked stripe (marks_of m)))

fewer_in : (stripe : ℕ) (u w : Option Underway) (r t : Option Retiring) → IsMissing (marks_in u r) (Some stripe) → MarksIn stripe u w → MarksToo stripe r t → left_in (marks_in w t) < left_in (marks_in u r)
fewer_in stripe (Some u) (Some w) r t missing marks more = fewer_by stripe u.marks w.marks missing marks.stripes marks.marks_are
fewer_in stripe (Some u) None r t missing marks more = absurd marks
fewer_in stripe None (Some w) r t missing marks more = absurd marks
fewer_in stripe None None (Some r) (Some t) missing marks more = fewer_by stripe r.marks t.marks missing more.stripes more.marks_are
fewer_in stripe None None (Some r) None missing marks more = absurd more
fewer_in stripe None None None t missing marks more = let bad : ◌≡◌ {A = Option ℕ} (Some stripe) None = missing in absurd (cc)

fewer_left : (stripe : ℕ) (old new : Layers) → IsMissing (kept_marks old) (Some stripe) → HasMarked stripe old new (Ok tt) → left_in (kept_marks new) < left_in (kept_marks old)
fewer_left stripe old new missing marked = fewer_in stripe old.merge new.merge old.retiring new.retiring missing marked.0 marked.1

-- what a turn that was done marked
turn_marks : (stripe : ℕ) (old new : Session) → AnswersTurn stripe (Ok tt) old new → HasMarked stripe old.layers new.layers (Ok tt)
turn_marks stripe old new (fetched_and _ stamp _ mid _ piece fetched put) =
    let cause = put.cause (ok_reached _ (put_refused piece mid) tt put.early) in (
      subst (λ n. MarksIn n old.layers.merge new.layers.merge) fetched.taken.stripe_is (subst (λ o. MarksIn piece.stripe o new.layers.merge) fetched.merge.0 cause.0.0),
      subst (λ n. MarksToo n old.layers.retiring new.layers.retiring) fetched.taken.stripe_is (subst (λ o. MarksToo piece.stripe o new.layers.retiring) fetched.merge.1 cause.0.1),
    )

pub fewer_turn : (stripe : ℕ) (old new : Session) → AnswersTurn stripe (Ok tt) old new → IsMissing (kept_marks old.layers) (Some stripe) → left_in (kept_marks new.layers) < left_in (kept_marks old.layers)
fewer_turn stripe old new turn missing = fewer_left stripe old.layers new.layers missing (turn_marks stripe old new turn)

-- ---- a pass

marks_stay : (from n t : ℕ) (marks : ℕ → Bool) → marks t ≡ true → with_marks from n marks t ≡ true
marks_stay from n t marks h = go (nat_le from t && nat_lt t (from + n))
  where
    go : (b : Bool) → (b || marks t) ≡ true
    go true = refl
    go false = h

no_fewer_by : (from n : ℕ) (m k : Marks) → k.stripes ≡ m.stripes → ((t : ℕ) → marks_of k t ≡ with_marks from n (marks_of m) t) → left_in (Some k) ≤ left_in (Some m)
no_fewer_by from n m k stripes are = subst (λ j. unmarked j (marks_of k) ≤ unmarked m.stripes (marks_of m)) (sym stripes) (no_more m.stripes (marks_of m) (marks_of k) (λ t h. are t ∙ marks_stay from n t (marks_of m) h))

no_fewer_in : (from n : ℕ) (u w : Option Underway) (r t : Option Retiring) → MarksRun from n u w → MarksRunToo from n r t → left_in (marks_in w t) ≤ left_in (marks_in u r)
no_fewer_in from n (Some u) (Some w) r t marks more = no_fewer_by from n u.marks w.marks marks.stripes marks.marks_are
no_fewer_in from n (Some u) None r t marks more = absurd marks
no_fewer_in from n None (Some w) r t marks more = absurd marks
no_fewer_in from n None None (Some r) (Some t) marks more = no_fewer_by from n r.marks t.marks more.stripes more.marks_are
no_fewer_in from n None None (Some r) None marks more = absurd more
no_fewer_in from n None None None (Some t) marks more = absurd more
no_fewer_in from n None None None None marks more = omega arith

-- no stripe loses its mark, and then one more has one
pub fewer_passed : (from n stripe : ℕ) (old mid new : Session) → AnswersSkip from n old mid → AnswersTurn stripe (Ok tt) mid new → IsMissing (kept_marks mid.layers) (Some stripe) → left_in (kept_marks new.layers) < left_in (kept_marks old.layers)
fewer_passed from n stripe old mid new skip turn missing =
    omega (arith, fewer_turn stripe mid new turn missing, no_fewer_in from n old.layers.merge mid.layers.merge old.layers.retiring mid.layers.retiring skip.passed.0 skip.passed.1)

module _ {S R T : Type 0} (disk : S → Disk) (noted : R → ℕ) (told : R → Option (List Entry)) (old new : Chain S R T) where
  abbrev first : Session
  first = seen disk noted told old

  abbrev next : Session
  next = seen disk noted told new

  pub skip_answers : (stripe : ℕ) (answer : Result ℕ ChainRefusal) → IsSound first → IfStopped (fetch_refused stripe first) answer (new ≡ old) → (fetch_refused stripe first ≡ None → SkipCause stripe first next answer) → IfOk answer (λ n. stripe + n ≤ 2 ^ 26)
      → SkipTold stripe first next answer → new.events ≡ old.events → new.layers.geometry ≡ old.layers.geometry → is_some new.layers.leaf ≡ is_some old.layers.leaf → new.recorder ≡ old.recorder → IfOk answer (λ n. AnswersSkip stripe n first next)
  skip_answers stripe (Err x) sound early cause few tells events geometry session history = tt
  skip_answers stripe (Ok n) sound early cause few tells events geometry session history =
      let fit = ok_reached _ (fetch_refused stripe first) n early in
      let c = cause fit in
      record {
        sound = sound;
        fit = fit;
        passed = c.0;
        there = c.2;
        few = few;
        told = tells;
        keeps = keeps_by disk noted told old new geometry session history;
        disk = c.3;
        whole = c.4;
        events = events;
      }

  -- refused, it leaves what a fetch leaves that is refused
  pub skip_refused : (stripe : ℕ) (answer : Result ℕ ChainRefusal) (left : Piece) → left.filled ≡ false → IsSound first → IfStopped (fetch_refused stripe first) answer (new ≡ old) → (fetch_refused stripe first ≡ None → SkipCause stripe first next answer)
      → OnErr answer (KeepsMerge old.layers new.layers) → SkipTold stripe first next answer → new.events ≡ old.events → new.layers.geometry ≡ old.layers.geometry → is_some new.layers.leaf ≡ is_some old.layers.leaf → new.recorder ≡ old.recorder
      → IfErr answer (λ e. AnswersTurn stripe (Err e) first next)
  skip_refused stripe (Ok n) left empty sound early cause marks tells events geometry session history = tt
  skip_refused stripe (Err x) left empty sound early cause marks tells events geometry session history =
      not_fetched x first next left
      (record {
        sound = sound;
        early = same_then (fetch_refused stripe first) early;
        cause = λ fit. as_fetch x (cause fit);
        taken = tt;
        emptied = empty;
        told = λ fit. tells;
        keeps = keeps_by disk noted told old new geometry session history;
        merge = marks;
        events = omega (arith, events);
        later = omega (arith, events);
      })
    where
      same_then : (o : Option ChainRefusal) → IfStopped {T = ℕ} o (Err x) (new ≡ old) → IfStopped {T = ℕ} o (Err x) (IsUnchanged first next)
      same_then None h = tt
      same_then (Some e) h = (h.0, subst (λ k. IsUnchanged first (seen disk noted told k)) (sym h.1) refl)

      as_fetch : (x : ChainRefusal) → SkipCause stripe first next (Err x) → FetchCause first next left (Err x)
      as_fetch EmptyRange c = absurd c
      as_fetch (OutOfRange first count sectors) c = absurd c
      as_fetch (TooLong count limit) c = absurd c
      as_fetch ReadOnly c = absurd c
      as_fetch (Broken file count) c = absurd c
      as_fetch (Spent t) c = absurd c
      as_fetch (FileFull next) c = absurd c
      as_fetch (ReadFault file count) c = (empty, c.1, c.2, c.3)
      as_fetch NoMerge c = absurd c
      as_fetch (Stale taken at) c = absurd c
      as_fetch (NotYet stripe) c = absurd c
      as_fetch (Abandoned file count) c = absurd c
      as_fetch (NoStripe stripe stripes) c = absurd c
      as_fetch NoPiece c = absurd c
      as_fetch NoRoom c = absurd c
