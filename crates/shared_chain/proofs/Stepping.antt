-- A step of a merge keeps what holds of a chain whenever nobody has it.
use Rattle.std.proofs.Common.{◌≡◌, ◌==◌, ◌<◌, ◌≤◌, ◌^◌, ℕ, Bool, true, false, [], Option, Some, None, Result, Ok, Err, inl, inr, refl, sym, ap, subst, ◌∙◌, arith, ltb-false}
use Rattle.std.specs.Prelude.{⊤, ◌||◌, IfSome, IfErr, IfOk, OnErr, if◌then◌else◌, is_some, nat_lt}
use Rattle.std.proofs.lemmas.Bool.{or_parts}
use Rattle.store_model.specs.Disk.{Disk, WhereBothTold}
use Rattle.store_model.specs.Trace.{Trace}
use Rattle.store_model.specs.declared.fault.StoreFault.{StoreFault}
use Rattle.store_model.proofs.Told.{both_join}
use Rattle.guest_model.specs.declared.refusal.ChainRefusal.{ChainRefusal}
use Rattle.guest_model.specs.declared.refusal.ChainRefusal.TheVariants.{Abandoned, Broken, EmptyRange, FileFull, NoMerge, NoPiece, NoRoom, NoStripe, NotYet, OutOfRange, ReadFault, ReadOnly, Spent, Stale, TooLong}
use Rattle.guest_model.specs.History.{History}
use Rattle.chain_model.specs.Moments.{EachOpens, EachOpensToPrefix}
use Rattle.chain_model.specs.Stripes.{stripe_count}
use Rattle.merge_core.specs.Pieces.{piece_of}
use Rattle.merge_core.specs.declared.piece.Piece.{Piece}
use Rattle.layer_session.specs.Calls.{Fails}
use Rattle.layer_session.specs.declared.file.LayerFault.TheVariants as layer
use Rattle.chain_core.specs.Answering.{IsRefused, fault_of}
use Rattle.chain_core.specs.Copying.{FetchCause, IfStopped, PutCause, fetch_refused, merge_refused, no_merge, no_stripe, past_stripes, put_refused, stale, stamp_of, unfilled}
use Rattle.chain_core.specs.Finished.{FinishCause}
use Rattle.chain_core.specs.Merging.{IsTruePiece}
use Rattle.chain_core.specs.Refusing.{broken_by, or_else, unfit}
use Rattle.chain_core.specs.Sessions.{IsSound, KeepsMerge, Session, has_merge}
use Rattle.chain_core.specs.Skipping.{SkipCause, SkipTold}
use Rattle.chain_core.specs.States.{IsServing, LeavesOthers, State, dirty_now, disk_now, sector_of}
use Rattle.chain_core.specs.declared.layers.Layers.{Layers}
use Rattle.layer_session.proofs.Equal.{none_some, ok_err, some_none, some_same}
use Rattle.layer_session.specs.ReadOnly.{SomeReadFailed}
use Rattle.script_session.specs.Histories.{IsEndTold, IsLater, IsSoLong}
use Rattle.script_session.specs.MergeSteps.{AnswersFetch, AnswersFinish, AnswersPut, AnswersTurn, IsUnchanged, KeepsHistory, fetched_and, not_fetched}
use Rattle.script_session.specs.MergeSteps.{AnswersSkip}
use Rattle.script_session.proofs.Leaving.{skips_leave}
use Rattle.shared_chain.proofs.Counting.{same_told}
use Rattle.script_session.specs.StepsLeft.{IsFullAt, IsLeft, unstamped}
use Rattle.script_session.proofs.Leaving.{fetches_leave, finishes_leave, puts_leave, turns_leave}
use Rattle.script_session.proofs.LeftFiles.{later_itself}
use Rattle.script_session.proofs.Lengths.{grows_none, long_later, moments_grow}
use Rattle.script_session.proofs.Moving.{ok_reached}
use Rattle.shared_chain.specs.declared.basis.Breach.{Breach}
use Rattle.shared_chain.specs.Faults.{AreCounted, fault_after}
use Rattle.shared_chain.specs.Homes.{ComesTo, Follows, HasStopped, IsHome}
use Rattle.shared_chain.specs.Merging.{as_answer}
use Rattle.shared_chain.specs.Notes.{full_after}
use Rattle.shared_chain.specs.Steps.{broke_after, merge_breach, open_by}
use Rattle.shared_chain.proofs.Breaking.{none_broke, one_broke, past_wider, wider}
use Rattle.shared_chain.proofs.Counting.{HasCounted, counted_on}
use Rattle.shared_chain.proofs.Filling.{long_after, long_still}
use Rattle.shared_chain.proofs.Homing.{home_counted, told_last}
use Rattle.shared_chain.proofs.Later.{later_through, written_before}
use Rattle.shared_chain.proofs.Noting.{IsChange, Stays}
use Rattle.shared_chain.proofs.Stamped.{MergeGoes, goes_kept, goes_marked, goes_passed, goes_same, goes_then, merge_over, stamps_step}

-- ---- what refuses a step before the files are reached

abbrev pub IsQuiet : Option StoreFault → ChainRefusal → Type 0
IsQuiet broken (Broken file count) = broken ≡ Some (fault_of file count)
IsQuiet broken (Spent t) = 2 ^ 63 ≤ t
IsQuiet broken NoMerge = ⊤
IsQuiet broken (NoStripe stripe stripes) = ⊤
IsQuiet broken (Stale taken now) = ⊤
IsQuiet broken NoPiece = ⊤
IsQuiet broken (NotYet stripe) = ⊤
IsQuiet broken other = ⊥

module _ (broken : Option StoreFault) where
  abbrev AllQuiet : Option ChainRefusal → Type 0
  AllQuiet o = (x : ChainRefusal) → o ≡ Some x → IsQuiet broken x

  some_quiet : (c : ChainRefusal) → IsQuiet broken c → AllQuiet (Some c)
  some_quiet c quiet x is = subst (IsQuiet broken) (some_same {x = c} {y = x} is) quiet

  none_quiet : AllQuiet None
  none_quiet x is = absurd (none_some is)

  if_quiet : (b : Bool) (c : ChainRefusal) → IsQuiet broken c → AllQuiet (if b then None else Some c)
  if_quiet true c quiet = none_quiet
  if_quiet false c quiet = some_quiet c quiet

  or_quiet : (a b : Option ChainRefusal) → AllQuiet a → AllQuiet b → AllQuiet (or_else a b)
  or_quiet None b first second = second
  or_quiet (Some c) b first second = first

  stripe_quiet : (stripe : ℕ) (layers : Layers) → AllQuiet (no_stripe stripe layers)
  stripe_quiet stripe layers = go (has_merge layers)
    where
      go : (b : Bool) → AllQuiet (if b then past_stripes stripe (stripe_count layers.geometry.sector layers.geometry.sectors) else Some NoMerge)
      go true = if_quiet (nat_lt stripe (stripe_count layers.geometry.sector layers.geometry.sectors)) (NoStripe stripe (stripe_count layers.geometry.sector layers.geometry.sectors)) tt
      go false = some_quiet NoMerge tt

unfit_quiet : (events : ℕ) (broken : Option StoreFault) → AllQuiet broken (unfit events broken)
unfit_quiet events broken = go (nat_lt events (2 ^ 63)) refl broken refl
  where
    go : (b : Bool) → nat_lt events (2 ^ 63) ≡ b → (o : Option StoreFault) → broken ≡ o → AllQuiet broken (if b then broken_by o else Some (Spent events))
    go false e o is = some_quiet broken (Spent events) (let high = ltb-false events (2 ^ 63) e in omega (arith, high))
    go true e None is = none_quiet broken
    go true e (Some fault) is = some_quiet broken (Broken fault.file fault.count) is

fetch_quiet : (stripe : ℕ) (s : Session) → AllQuiet s.broken (fetch_refused stripe s)
fetch_quiet stripe s = or_quiet s.broken (unfit s.events s.broken) _ (unfit_quiet s.events s.broken) (stripe_quiet s.broken stripe s.layers)

put_quiet : (piece : Piece) (s : Session) → AllQuiet s.broken (put_refused piece s)
put_quiet piece s =
    or_quiet s.broken (unfit s.events s.broken) _ (unfit_quiet s.events s.broken)
    (or_quiet s.broken (no_merge s.layers) _ (if_quiet s.broken (has_merge s.layers) NoMerge tt)
    (or_quiet s.broken (unfilled piece) _ (if_quiet s.broken piece.filled NoPiece tt)
    (or_quiet s.broken (no_stripe piece.stripe s.layers) (stale piece.stamp (stamp_of s.layers piece.stripe)) (stripe_quiet s.broken piece.stripe s.layers) (if_quiet s.broken (piece.stamp == stamp_of s.layers piece.stripe) (Stale piece.stamp (stamp_of s.layers piece.stripe)) tt))))

pub finish_quiet : (s : Session) → AllQuiet s.broken (merge_refused s)
finish_quiet s = or_quiet s.broken (unfit s.events s.broken) _ (unfit_quiet s.events s.broken) (if_quiet s.broken (has_merge s.layers) NoMerge tt)

-- a session that is broken refuses a step by that fault, or because the count of events is used up
broken_first : (events : ℕ) (fault : StoreFault) (later : Option ChainRefusal) → (x : ChainRefusal) × (or_else (unfit events (Some fault)) later ≡ Some x)
broken_first events fault later = go (nat_lt events (2 ^ 63))
  where
    go : (b : Bool) → (x : ChainRefusal) × (or_else (if b then broken_by (Some fault) else Some (Spent events)) later ≡ Some x)
    go true = (Broken fault.file fault.count, refl)
    go false = (Spent events, refl)

-- ---- what a step does to the store's counts

-- it is refused and the counts stay; or it reached the files
pub data Kind (old new : Session) : Result (Unit {0}) ChainRefusal → Type 0 where
  quiet : (x : ChainRefusal) → new.disk ≡ old.disk → new.broken ≡ old.broken → IsQuiet old.broken x → Kind old new (Err x)
  reached : (answer : Result (Unit {0}) ChainRefusal) → old.broken ≡ None → HasCounted old.disk new (as_answer answer) → Kind old new answer

unchanged_kind : (old new : Session) (x : ChainRefusal) → IsUnchanged old new → IsQuiet old.broken x → Kind old new (Err x)
unchanged_kind old new x is q = quiet x (ap (λ (s : Session). s.disk) is) (ap (λ (s : Session). s.broken) is) q

pub same_err : {T : Type 0} (x e : ChainRefusal) → ◌≡◌ {A = Result T ChainRefusal} (Err x) (Err e) → x ≡ e
same_err x e h = cc

module _ (old new : Session) (whole : old.broken ≡ None) where
  read_kind : (piece : Piece) (x : ChainRefusal) → FetchCause old new piece (Err x) → Kind old new (Err x)
  read_kind piece EmptyRange c = absurd c
  read_kind piece (OutOfRange first count sectors) c = absurd c
  read_kind piece (TooLong count limit) c = absurd c
  read_kind piece ReadOnly c = absurd c
  read_kind piece (Broken file count) c = absurd c
  read_kind piece (Spent t) c = absurd c
  read_kind piece (FileFull next) c = absurd c
  read_kind piece (ReadFault file count) c = reached (Err (ReadFault file count)) whole (c.2.0, (old.disk.told, c.2.1), c.3)
  read_kind piece NoMerge c = absurd c
  read_kind piece (Stale taken at) c = absurd c
  read_kind piece (NotYet stripe) c = absurd c
  read_kind piece (Abandoned file count) c = absurd c
  read_kind piece (NoStripe stripe stripes) c = absurd c
  read_kind piece NoPiece c = absurd c
  read_kind piece NoRoom c = absurd c

  fetch_kind : (stripe : ℕ) (x : ChainRefusal) (piece : Piece) → AnswersFetch stripe (Err x) old new piece → Kind old new (Err x)
  fetch_kind stripe x piece h = go (fetch_refused stripe old) refl
    where
      go : (o : Option ChainRefusal) → fetch_refused stripe old ≡ o → Kind old new (Err x)
      go (Some e) is =
          let early = subst (λ o. IfStopped {T = ℕ} o (Err x) (IsUnchanged old new)) is h.early in
          unchanged_kind old new x early.1 (subst (IsQuiet old.broken) (sym (same_err {T = ℕ} x e early.0)) (fetch_quiet stripe old e is))
      go None is = read_kind piece x (h.cause is)

  put_cause : (piece : Piece) (answer : Result (Unit {0}) ChainRefusal) → PutCause piece old new answer → HasCounted old.disk new (as_answer answer)
  put_cause piece (Ok done) c = (c.1, c.2)
  put_cause piece (Err EmptyRange) c = absurd c
  put_cause piece (Err (OutOfRange first count sectors)) c = absurd c
  put_cause piece (Err (TooLong count limit)) c = absurd c
  put_cause piece (Err ReadOnly) c = absurd c
  put_cause piece (Err (Broken file count)) c = (
    subst (λ n. n < old.disk.files) (sym c.2.of_file) c.1,
    subst (λ n. Fails n old.disk new.disk (layer.Write (fault_of file count))) (sym c.2.of_file) c.2,
    c.3,
  )
  put_cause piece (Err (Spent t)) c = absurd c
  put_cause piece (Err (FileFull next)) c = (c.1, c.2)
  put_cause piece (Err (ReadFault file count)) c = (
    subst (λ n. n < old.disk.files) (sym c.2.of_file) c.1,
    (new.disk.told, subst (λ n. Fails n old.disk new.disk (layer.Read (fault_of file count))) (sym c.2.of_file) c.2),
    c.3,
  )
  put_cause piece (Err NoMerge) c = absurd c
  put_cause piece (Err (Stale taken at)) c = absurd c
  put_cause piece (Err (NotYet stripe)) c = absurd c
  put_cause piece (Err (Abandoned file count)) c = absurd c
  put_cause piece (Err (NoStripe stripe stripes)) c = absurd c
  put_cause piece (Err NoPiece) c = absurd c
  put_cause piece (Err NoRoom) c = absurd c

  put_kind : (piece : Piece) (answer : Result (Unit {0}) ChainRefusal) → AnswersPut piece answer old new → Kind old new answer
  put_kind piece answer h = go (put_refused piece old) refl
    where
      go : (o : Option ChainRefusal) → put_refused piece old ≡ o → Kind old new answer
      go (Some e) is =
          let early = subst (λ o. IfStopped {T = Unit {0}} o answer (IsUnchanged old new)) is h.early in
          subst (Kind old new) (sym early.0) (unchanged_kind old new e early.1 (put_quiet piece old e is))
      go None is = reached answer whole (put_cause piece answer (h.cause is))

  finish_reached : (answer : Result (Unit {0}) ChainRefusal) → FinishCause old new answer (IsUnchanged old new) → Kind old new answer
  finish_reached (Ok done) c = reached (Ok tt) whole (c.counts, c.whole)
  finish_reached (Err EmptyRange) c = absurd c
  finish_reached (Err (OutOfRange first count sectors)) c = absurd c
  finish_reached (Err (TooLong count limit)) c = absurd c
  finish_reached (Err ReadOnly) c = absurd c
  finish_reached (Err (Broken file count)) c = reached (Err (Broken file count)) whole (c.fails.within, c.fails.fails, c.broken)
  finish_reached (Err (Spent t)) c = absurd c
  finish_reached (Err (FileFull next)) c = absurd c
  finish_reached (Err (ReadFault file count)) c = absurd c
  finish_reached (Err NoMerge) c = absurd c
  finish_reached (Err (Stale taken at)) c = absurd c
  finish_reached (Err (NotYet stripe)) c = unchanged_kind old new (NotYet stripe) c.1 tt
  finish_reached (Err (Abandoned file count)) c = absurd c
  finish_reached (Err (NoStripe stripe stripes)) c = absurd c
  finish_reached (Err NoPiece) c = absurd c
  finish_reached (Err NoRoom) c = absurd c

  finish_kind : (answer : Result (Unit {0}) ChainRefusal) → AnswersFinish answer old new → Kind old new answer
  finish_kind answer h = go (merge_refused old) refl
    where
      go : (o : Option ChainRefusal) → merge_refused old ≡ o → Kind old new answer
      go (Some e) is =
          let early = subst (λ o. IfStopped {T = Unit {0}} o answer (IsUnchanged old new)) is h.early in
          subst (Kind old new) (sym early.0) (unchanged_kind old new e early.1 (finish_quiet old e is))
      go None is = finish_reached answer (h.cause is)

-- a step behind a fetch, which leaves the store
behind_fetch : (old mid new : Session) (answer : Result (Unit {0}) ChainRefusal) → mid.disk ≡ old.disk → old.broken ≡ None → mid.broken ≡ None → Kind mid new answer → Kind old new answer
behind_fetch old mid new _ disk whole still (quiet x same broken q) = quiet x (same ∙ disk) (broken ∙ still ∙ sym whole) (subst (λ o. IsQuiet o x) (still ∙ sym whole) q)
behind_fetch old mid new answer disk whole still (reached _ none c) = reached answer whole (subst (λ d. HasCounted d new (as_answer answer)) disk c)

-- ---- the merge, and the stamps of its stripes

-- a session that broke, or one that refused, kept it
goes_unchanged : (old new : Session) → IsUnchanged old new → MergeGoes old.layers new.layers
goes_unchanged old new is = goes_same old.layers new.layers (ap (λ (s : Session). s.layers) is)

put_caused : (piece : Piece) (old new : Session) (answer : Result (Unit {0}) ChainRefusal) → PutCause piece old new answer → MergeGoes old.layers new.layers
put_caused piece old new (Ok done) c = goes_marked piece.stripe old.layers new.layers c.0.0 c.0.1
put_caused piece old new (Err EmptyRange) c = absurd c
put_caused piece old new (Err (OutOfRange first count sectors)) c = absurd c
put_caused piece old new (Err (TooLong count limit)) c = absurd c
put_caused piece old new (Err ReadOnly) c = absurd c
put_caused piece old new (Err (Broken file count)) c = goes_kept old.layers new.layers c.0
put_caused piece old new (Err (Spent t)) c = absurd c
put_caused piece old new (Err (FileFull next)) c = goes_kept old.layers new.layers c.0
put_caused piece old new (Err (ReadFault file count)) c = goes_kept old.layers new.layers c.0
put_caused piece old new (Err NoMerge) c = absurd c
put_caused piece old new (Err (Stale taken at)) c = absurd c
put_caused piece old new (Err (NotYet stripe)) c = absurd c
put_caused piece old new (Err (Abandoned file count)) c = absurd c
put_caused piece old new (Err (NoStripe stripe stripes)) c = absurd c
put_caused piece old new (Err NoPiece) c = absurd c
put_caused piece old new (Err NoRoom) c = absurd c

put_goes : (piece : Piece) (answer : Result (Unit {0}) ChainRefusal) (old new : Session) → AnswersPut piece answer old new → MergeGoes old.layers new.layers
put_goes piece answer old new h = go (put_refused piece old) refl
  where
    go : (o : Option ChainRefusal) → put_refused piece old ≡ o → MergeGoes old.layers new.layers
    go (Some e) is = goes_unchanged old new (subst (λ o. IfStopped {T = Unit {0}} o answer (IsUnchanged old new)) is h.early).1
    go None is = put_caused piece old new answer (h.cause is)

turn_goes : (stripe : ℕ) (answer : Result (Unit {0}) ChainRefusal) (old new : Session) → AnswersTurn stripe answer old new → MergeGoes old.layers new.layers
turn_goes stripe _ _ _ (not_fetched e old new left h) = goes_kept old.layers new.layers h.merge
turn_goes stripe _ _ _ (fetched_and answer stamp old mid new piece h p) = goes_then old.layers mid.layers new.layers h.merge (put_goes piece answer mid new p)

finish_caused : (old new : Session) (answer : Result (Unit {0}) ChainRefusal) → FinishCause old new answer (IsUnchanged old new) → MergeGoes old.layers new.layers
finish_caused old new (Ok done) c = merge_over c.merge
finish_caused old new (Err EmptyRange) c = absurd c
finish_caused old new (Err (OutOfRange first count sectors)) c = absurd c
finish_caused old new (Err (TooLong count limit)) c = absurd c
finish_caused old new (Err ReadOnly) c = absurd c
finish_caused old new (Err (Broken file count)) c = goes_kept old.layers new.layers c.merge
finish_caused old new (Err (Spent t)) c = absurd c
finish_caused old new (Err (FileFull next)) c = absurd c
finish_caused old new (Err (ReadFault file count)) c = absurd c
finish_caused old new (Err NoMerge) c = absurd c
finish_caused old new (Err (Stale taken at)) c = absurd c
finish_caused old new (Err (NotYet stripe)) c = goes_unchanged old new c.1
finish_caused old new (Err (Abandoned file count)) c = absurd c
finish_caused old new (Err (NoStripe stripe stripes)) c = absurd c
finish_caused old new (Err NoPiece) c = absurd c
finish_caused old new (Err NoRoom) c = absurd c

finish_goes : (answer : Result (Unit {0}) ChainRefusal) (old new : Session) → AnswersFinish answer old new → MergeGoes old.layers new.layers
finish_goes answer old new h = go (merge_refused old) refl
  where
    go : (o : Option ChainRefusal) → merge_refused old ≡ o → MergeGoes old.layers new.layers
    go (Some e) is = goes_unchanged old new (subst (λ o. IfStopped {T = Unit {0}} o answer (IsUnchanged old new)) is h.early).1
    go None is = finish_caused old new answer (h.cause is)

-- ---- a step

-- A step leaves a later state of each state that the session serves for which it is apt.
pub record StepOf (Apt : State → Type 0) (old new : Session) (answer : Result (Unit {0}) ChainRefusal) : Type 0 where
  pub keeps : KeepsHistory old new
  pub later : old.events ≤ new.events
  pub merge : MergeGoes old.layers new.layers
  pub broken : (fault : StoreFault) → old.broken ≡ Some fault → IsUnchanged old new × ((x : ChainRefusal) × (answer ≡ Err x) × IsQuiet old.broken x)
  pub kind : old.broken ≡ None → Kind old new answer
  pub left : old.broken ≡ None → WhereBothTold (λ trace now. (v : State) → IsServing old.layers v trace → Apt v → IsLeft v answer new trace now) old.disk.told new.disk.told

pub keeps_both : (old mid new : Session) → KeepsHistory old mid → KeepsHistory mid new → KeepsHistory old new
keeps_both old mid new a b = record { noted = b.noted ∙ a.noted; told = b.told ∙ a.told; geometry = b.geometry ∙ a.geometry; session = b.session ∙ a.session }

turn_keeps : (stripe : ℕ) (answer : Result (Unit {0}) ChainRefusal) (old new : Session) → AnswersTurn stripe answer old new → KeepsHistory old new
turn_keeps stripe _ _ _ (not_fetched e old new left h) = h.keeps
turn_keeps stripe _ _ _ (fetched_and answer stamp old mid new piece h p) = keeps_both old mid new h.keeps p.keeps

turn_later : (stripe : ℕ) (answer : Result (Unit {0}) ChainRefusal) (old new : Session) → AnswersTurn stripe answer old new → old.events ≤ new.events
turn_later stripe _ _ _ (not_fetched e old new left h) = h.later
turn_later stripe _ _ _ (fetched_and answer stamp old mid new piece h p) = omega (arith, h.later, p.later)

turn_broken : (stripe : ℕ) (answer : Result (Unit {0}) ChainRefusal) (old new : Session) → AnswersTurn stripe answer old new → (fault : StoreFault) → old.broken ≡ Some fault → IsUnchanged old new × ((x : ChainRefusal) × (answer ≡ Err x) × IsQuiet old.broken x)
turn_broken stripe _ _ _ (not_fetched e old new left h) fault is =
    let first = broken_first old.events fault (no_stripe stripe old.layers) in
    let cause : fetch_refused stripe old ≡ Some first.0 = ap (λ o. or_else (unfit old.events o) (no_stripe stripe old.layers)) is ∙ first.1 in
    let early = subst (λ o. IfStopped {T = ℕ} o (Err e) (IsUnchanged old new)) cause h.early in
    (early.1, (e, refl, subst (IsQuiet old.broken) (sym (same_err {T = ℕ} e first.0 early.0)) (fetch_quiet stripe old first.0 cause)))
turn_broken stripe _ _ _ (fetched_and answer stamp old mid new piece h p) fault is =
    let first = broken_first old.events fault (no_stripe stripe old.layers) in
    let none : fetch_refused stripe old ≡ None = ok_reached _ (fetch_refused stripe old) stamp h.early in
    absurd (some_none (sym (ap (λ o. or_else (unfit old.events o) (no_stripe stripe old.layers)) is ∙ first.1) ∙ none))

turn_kind : (stripe : ℕ) (answer : Result (Unit {0}) ChainRefusal) (old new : Session) → AnswersTurn stripe answer old new → old.broken ≡ None → Kind old new answer
turn_kind stripe _ _ _ (not_fetched e old new left h) whole = fetch_kind old new whole stripe e left h
turn_kind stripe _ _ _ (fetched_and answer stamp old mid new piece h p) whole =
    let c = h.cause (ok_reached _ (fetch_refused stripe old) stamp h.early) in
    behind_fetch old mid new answer c.1 whole c.2 (put_kind mid new c.2 piece answer p)

-- what is so of each state is so of those that are apt
of_each : (answer : Result (Unit {0}) ChainRefusal) (old new : Session) (a b : Option Trace) → WhereBothTold (λ trace now. (v : State) → IsServing old.layers v trace → IsLeft v answer new trace now) a b
    → WhereBothTold (λ trace now. (v : State) → IsServing old.layers v trace → ⊤ → IsLeft v answer new trace now) a b
of_each answer old new None None h = tt
of_each answer old new None (Some b) h = absurd h
of_each answer old new (Some a) None h = absurd h
of_each answer old new (Some a) (Some b) h = λ v serving any. h v serving

pub turn_step : (stripe : ℕ) (answer : Result (Unit {0}) ChainRefusal) (old new : Session) → AnswersTurn stripe answer old new → StepOf (λ v. ⊤) old new answer
turn_step stripe answer old new h = record {
  keeps = turn_keeps stripe answer old new h;
  later = turn_later stripe answer old new h;
  broken = turn_broken stripe answer old new h;
  kind = turn_kind stripe answer old new h;
  merge = turn_goes stripe answer old new h;
  left = λ whole. of_each answer old new old.disk.told new.disk.told (turns_leave stripe answer old new whole h);
}

-- what a fetch found in a session that is broken
fetch_broken : (stripe : ℕ) (answer : Result ℕ ChainRefusal) (old new : Session) (left : Piece) → AnswersFetch stripe answer old new left → (fault : StoreFault) → old.broken ≡ Some fault
    → IsUnchanged old new × ((x : ChainRefusal) × (unstamped answer ≡ Err x) × IsQuiet old.broken x)
fetch_broken stripe answer old new left h fault is =
    let first = broken_first old.events fault (no_stripe stripe old.layers) in
    let cause : fetch_refused stripe old ≡ Some first.0 = ap (λ o. or_else (unfit old.events o) (no_stripe stripe old.layers)) is ∙ first.1 in
    let early = subst (λ o. IfStopped {T = ℕ} o answer (IsUnchanged old new)) cause h.early in
    (early.1, (first.0, ap unstamped early.0, fetch_quiet stripe old first.0 cause))

fetch_reached : (stripe : ℕ) (answer : Result ℕ ChainRefusal) (old new : Session) (left : Piece) → old.broken ≡ None → AnswersFetch stripe answer old new left → Kind old new (unstamped answer)
fetch_reached stripe (Ok stamp) old new left whole h =
    let c = h.cause (ok_reached _ (fetch_refused stripe old) stamp h.early) in
    reached (Ok tt) whole (c.1 ∙ ap (λ t. record (old.disk) { told = t }) (ap (λ (d : Disk). d.told) (sym c.1)), c.2)
fetch_reached stripe (Err x) old new left whole h = fetch_kind old new whole stripe x left h

-- a fetch that is put in a later turn
pub fetch_step : (stripe : ℕ) (answer : Result ℕ ChainRefusal) (old new : Session) (left : Piece) → AnswersFetch stripe answer old new left → StepOf (λ v. ⊤) old new (unstamped answer)
fetch_step stripe answer old new left h = record {
  keeps = h.keeps;
  later = h.later;
  merge = goes_kept old.layers new.layers h.merge;
  broken = fetch_broken stripe answer old new left h;
  kind = λ whole. fetch_reached stripe answer old new left whole h;
  left = λ whole. of_each (unstamped answer) old new old.disk.told new.disk.told (fetches_leave stripe answer old new left whole h);
}

-- stripes that are passed over
pub skip_step : (stripe n : ℕ) (old new : Session) → AnswersSkip stripe n old new → StepOf (λ v. ⊤) old new (Ok tt)
skip_step stripe n old new h = record {
  keeps = h.keeps;
  later = let same : new.events ≡ old.events = h.events in omega (arith, same);
  broken = λ fault is.
      let first = broken_first old.events fault (no_stripe stripe old.layers) in
      absurd (some_none (sym (ap (λ o. or_else (unfit old.events o) (no_stripe stripe old.layers)) is ∙ first.1) ∙ h.fit));
  kind = λ whole. reached (Ok tt) whole (same_told old.disk new.disk h.disk, h.whole);
  merge = goes_passed stripe n old.layers new.layers h.passed;
  left = λ whole. of_each (Ok tt) old new old.disk.told new.disk.told (skips_leave stripe n old new h);
}

-- a put of a piece, of each state of which that is true
pub put_step : (piece : Piece) (answer : Result (Unit {0}) ChainRefusal) (old new : Session) → AnswersPut piece answer old new → StepOf (λ v. IsTruePiece v (piece_of piece)) old new answer
put_step piece answer old new h = record {
  keeps = h.keeps;
  later = h.later;
  merge = put_goes piece answer old new h;
  broken = λ fault is.
      let later = or_else (no_merge old.layers) (or_else (unfilled piece) (or_else (no_stripe piece.stripe old.layers) (stale piece.stamp (stamp_of old.layers piece.stripe)))) in
      let first = broken_first old.events fault later in
      let cause : put_refused piece old ≡ Some first.0 = ap (λ o. or_else (unfit old.events o) later) is ∙ first.1 in
      let early = subst (λ o. IfStopped {T = Unit {0}} o answer (IsUnchanged old new)) cause h.early in
      (early.1, (first.0, early.0, put_quiet piece old first.0 cause));
  kind = λ whole. put_kind old new whole piece answer h;
  left = λ whole. puts_leave piece answer old new whole h;
}

pub finish_step : (answer : Result (Unit {0}) ChainRefusal) (old new : Session) → AnswersFinish answer old new → StepOf (λ v. ⊤) old new answer
finish_step answer old new h = record {
  keeps = h.keeps;
  later = h.later;
  broken = λ fault is.
      let first = broken_first old.events fault (no_merge old.layers) in
      let cause : merge_refused old ≡ Some first.0 = ap (λ o. or_else (unfit old.events o) (no_merge old.layers)) is ∙ first.1 in
      let early = subst (λ o. IfStopped {T = Unit {0}} o answer (IsUnchanged old new)) cause h.early in
      (early.1, (first.0, early.0, finish_quiet old first.0 cause));
  kind = λ whole. finish_kind old new whole answer h;
  merge = finish_goes answer old new h;
  left = λ whole. of_each answer old new old.disk.told new.disk.told (finishes_leave answer old new whole h);
}

-- ---- a look at what can be passed over

-- It is refused as a fetch of the stripe is, and nothing is changed; or a read of the source failed.
pub data LookEnds (stripe : ℕ) (old new : Session) : ChainRefusal → Type 0 where
  look_stopped : (x : ChainRefusal) → new ≡ old → fetch_refused stripe old ≡ Some x → LookEnds stripe old new x
  look_failed : (file count : ℕ) → fetch_refused stripe old ≡ None → SomeReadFailed old.disk new.disk (fault_of file count) → new.broken ≡ None → LookEnds stripe old new (ReadFault file count)

look_caused : (stripe : ℕ) (old new : Session) (x : ChainRefusal) → fetch_refused stripe old ≡ None → SkipCause stripe old new (Err x) → LookEnds stripe old new x
look_caused stripe old new EmptyRange fit c = absurd c
look_caused stripe old new (OutOfRange first count sectors) fit c = absurd c
look_caused stripe old new (TooLong count limit) fit c = absurd c
look_caused stripe old new ReadOnly fit c = absurd c
look_caused stripe old new (Broken file count) fit c = absurd c
look_caused stripe old new (Spent t) fit c = absurd c
look_caused stripe old new (FileFull next) fit c = absurd c
look_caused stripe old new (ReadFault file count) fit c = look_failed file count fit c.2 c.3
look_caused stripe old new NoMerge fit c = absurd c
look_caused stripe old new (Stale taken at) fit c = absurd c
look_caused stripe old new (NotYet s) fit c = absurd c
look_caused stripe old new (Abandoned file count) fit c = absurd c
look_caused stripe old new (NoStripe s stripes) fit c = absurd c
look_caused stripe old new NoPiece fit c = absurd c
look_caused stripe old new NoRoom fit c = absurd c

pub look_ends : (stripe : ℕ) (x : ChainRefusal) (old new : Session) → IfStopped {T = ℕ} (fetch_refused stripe old) (Err x) (new ≡ old) → (fetch_refused stripe old ≡ None → SkipCause stripe old new (Err x)) → LookEnds stripe old new x
look_ends stripe x old new early cause = go (fetch_refused stripe old) refl
  where
    go : (o : Option ChainRefusal) → fetch_refused stripe old ≡ o → LookEnds stripe old new x
    go None is = look_caused stripe old new x is (cause is)
    go (Some e) is =
        let first = subst (λ o. IfStopped {T = ℕ} o (Err x) (new ≡ old)) is early in
        look_stopped x first.1 (is ∙ ap Some (sym (same_err {T = ℕ} x e first.0)))

pub same_unchanged : (old new : Session) → new ≡ old → IsUnchanged old new
same_unchanged old new same = subst (λ s. IsUnchanged old s) (sym same) refl

look_broken : (stripe : ℕ) (x : ChainRefusal) (old new : Session) → LookEnds stripe old new x → (fault : StoreFault) → old.broken ≡ Some fault → IsUnchanged old new × ((y : ChainRefusal) × (◌≡◌ {A = Result (Unit {0}) ChainRefusal} (Err x) (Err y)) × IsQuiet old.broken y)
look_broken stripe _ old new (look_stopped x same is) fault broken = (same_unchanged old new same, (x, refl, fetch_quiet stripe old x is))
look_broken stripe _ old new (look_failed file count fit failed whole) fault broken =
    let first = broken_first old.events fault (no_stripe stripe old.layers) in
    absurd (some_none (sym (ap (λ o. or_else (unfit old.events o) (no_stripe stripe old.layers)) broken ∙ first.1) ∙ fit))

look_kind : (stripe : ℕ) (x : ChainRefusal) (old new : Session) → old.broken ≡ None → LookEnds stripe old new x → Kind old new (Err x)
look_kind stripe _ old new whole (look_stopped x same is) = unchanged_kind old new x (same_unchanged old new same) (fetch_quiet stripe old x is)
look_kind stripe _ old new whole (look_failed file count fit failed still) = reached (Err (ReadFault file count)) whole (failed.0, (old.disk.told, failed.1), still)

look_whole : (stripe : ℕ) (x : ChainRefusal) (old new : Session) → old.broken ≡ None → LookEnds stripe old new x → new.broken ≡ None
look_whole stripe _ old new whole (look_stopped x same is) = ap (λ (s : Session). s.broken) same ∙ whole
look_whole stripe _ old new whole (look_failed file count fit failed still) = still

-- what is refused without a change tells no file's end
quiet_end : (P : ℕ → Type 0) (broken : Option StoreFault) (x : ChainRefusal) → IsQuiet broken x → IsEndTold P (Err x)
quiet_end P broken EmptyRange q = absurd q
quiet_end P broken (OutOfRange a b c) q = absurd q
quiet_end P broken (TooLong a b) q = absurd q
quiet_end P broken ReadOnly q = absurd q
quiet_end P broken (Broken file count) q = tt
quiet_end P broken (Spent t) q = tt
quiet_end P broken (FileFull next) q = absurd q
quiet_end P broken (ReadFault file count) q = absurd q
quiet_end P broken NoMerge q = tt
quiet_end P broken (Stale taken at) q = tt
quiet_end P broken (NotYet stripe) q = tt
quiet_end P broken (Abandoned file count) q = absurd q
quiet_end P broken (NoStripe stripe stripes) q = tt
quiet_end P broken NoPiece q = tt
quiet_end P broken NoRoom q = absurd q

look_end : (P : ℕ → Type 0) (stripe : ℕ) (x : ChainRefusal) (old new : Session) → LookEnds stripe old new x → IsEndTold P (Err x)
look_end P stripe _ old new (look_stopped x same is) = quiet_end P old.broken x (fetch_quiet stripe old x is)
look_end P stripe _ old new (look_failed file count fit failed still) = tt

no_fault : (P : StoreFault → Type 0) (o : Option StoreFault) → o ≡ None → IfSome o P
no_fault P o e = subst (λ b. IfSome b P) (sym e) tt

-- what is served is as it was
look_stays : (v : State) (x : ChainRefusal) (new : Session) (trace now : Trace) → IsRefused v new.layers trace now → new.broken ≡ None → IsEndTold (IsFullAt v.writes now) (Err x) → IsLeft v (Err x) new trace now
look_stays v x new trace now r whole full = record {
  later = v;
  same = later_itself v;
  sector = refl;
  grows = moments_grow _ trace now r.moments;
  serves = λ e. r.serving;
  still = no_fault _ new.broken whole;
  past = no_fault _ new.broken whole;
  last = no_fault _ new.broken whole;
  full = full;
}

look_left : (stripe : ℕ) (x : ChainRefusal) (old new : Session) → LookEnds stripe old new x → new.broken ≡ None → (a b : Option Trace) → WhereBothTold (λ trace now. (v : State) → IsServing old.layers v trace → IsRefused v new.layers trace now) a b
    → WhereBothTold (λ trace now. (v : State) → IsServing old.layers v trace → ⊤ → IsLeft v (Err x) new trace now) a b
look_left stripe x old new ends whole None None h = tt
look_left stripe x old new ends whole None (Some b) h = absurd h
look_left stripe x old new ends whole (Some a) None h = absurd h
look_left stripe x old new ends whole (Some a) (Some b) h = λ v serving any. look_stays v x new a b (h v serving) whole (look_end (IsFullAt v.writes b) stripe x old new ends)

-- a look that is refused
look_step : (stripe : ℕ) (x : ChainRefusal) (old new : Session) → LookEnds stripe old new x → KeepsHistory old new → new.events ≡ old.events → KeepsMerge old.layers new.layers → SkipTold stripe old new (Err x) → StepOf (λ v. ⊤) old new (Err x)
look_step stripe x old new ends keeps events merge tells = record {
  keeps = keeps;
  later = omega (arith, events);
  merge = goes_kept old.layers new.layers merge;
  broken = look_broken stripe x old new ends;
  kind = λ whole. look_kind stripe x old new whole ends;
  left = λ whole. look_left stripe x old new ends (look_whole stripe x old new whole ends) old.disk.told new.disk.told tells;
}

-- and whatever one is answered
pub passing_step : (stripe : ℕ) (answer : Result ℕ ChainRefusal) (old new : Session) → IfOk answer (λ n. AnswersSkip stripe n old new) → IfErr answer (LookEnds stripe old new) → KeepsHistory old new → new.events ≡ old.events → OnErr answer (KeepsMerge old.layers new.layers)
    → SkipTold stripe old new answer → StepOf (λ v. ⊤) old new (unstamped answer)
passing_step stripe (Ok n) old new passed stopped keeps events merge tells = skip_step stripe n old new passed
passing_step stripe (Err x) old new passed stopped keeps events merge tells = look_step stripe x old new stopped keeps events merge tells

-- ---- what is noted

-- what is refused without a change notes its number alone
pub quiet_change : (old new : Disk) (broken after : Option StoreFault) (x : ChainRefusal) → new ≡ old → after ≡ broken → IsQuiet broken x → IsChange (Err x) old new broken after
quiet_change old new broken after x same still q = go x q
  where
    stays : Stays old new broken after
    stays = (ap (λ (d : Disk). d.failed_reads) same, ap (λ (d : Disk). d.files) same, still)

    go : (x : ChainRefusal) → IsQuiet broken x → IsChange (Err x) old new broken after
    go EmptyRange q = absurd q
    go (OutOfRange a b c) q = absurd q
    go (TooLong a b) q = absurd q
    go ReadOnly q = absurd q
    go (Broken file count) q = (stays.0, stays.1, still ∙ q, inr (sym still))
    go (Spent t) q = stays
    go (FileFull next) q = absurd q
    go (ReadFault file count) q = absurd q
    go NoMerge q = stays
    go (Stale taken at) q = stays
    go (NotYet stripe) q = stays
    go (Abandoned file count) q = absurd q
    go (NoStripe stripe stripes) q = stays
    go NoPiece q = stays
    go NoRoom q = absurd q

-- a step that reached the files
reached_change : (d : Disk) (new : Session) (broken : Option StoreFault) (answer : Result ℕ ChainRefusal) → broken ≡ None → HasCounted d new answer → IsChange answer d new.disk broken new.broken
reached_change d new broken (Ok place) b h = (ap (λ (d : Disk). d.failed_reads) h.0, ap (λ (d : Disk). d.files) h.0, h.1 ∙ sym b)
reached_change d new broken (Err EmptyRange) b h = absurd h
reached_change d new broken (Err (OutOfRange first count sectors)) b h = absurd h
reached_change d new broken (Err (TooLong count limit)) b h = absurd h
reached_change d new broken (Err ReadOnly) b h = absurd h
reached_change d new broken (Err (Broken file count)) b h = (ap (λ (d : Disk). d.failed_reads) h.1.stays, ap (λ (d : Disk). d.files) h.1.stays, h.2, inl b)
reached_change d new broken (Err (Spent t)) b h = absurd h
reached_change d new broken (Err (FileFull next)) b h = (ap (λ (d : Disk). d.failed_reads) h.0, ap (λ (d : Disk). d.files) h.0, h.1 ∙ sym b)
reached_change d new broken (Err (ReadFault file count)) b h = (h.0, ap (λ (d : Disk). d.files) h.1.1.stays, h.1.1.count, h.2 ∙ sym b)
reached_change d new broken (Err NoMerge) b h = absurd h
reached_change d new broken (Err (Stale taken now)) b h = absurd h
reached_change d new broken (Err (NotYet stripe)) b h = absurd h
reached_change d new broken (Err (Abandoned file count)) b h = absurd h
reached_change d new broken (Err (NoStripe stripe stripes)) b h = absurd h
reached_change d new broken (Err NoPiece) b h = absurd h
reached_change d new broken (Err NoRoom) b h = (ap (λ (d : Disk). d.failed_reads) h.0, ap (λ (d : Disk). d.files) h.0, h.1 ∙ sym b)

kind_change : (old new : Session) (answer : Result (Unit {0}) ChainRefusal) → Kind old new answer → IsChange (as_answer answer) old.disk new.disk old.broken new.broken
kind_change old new _ (quiet x same still q) = quiet_change old.disk new.disk old.broken new.broken x same still q
kind_change old new answer (reached _ whole c) = reached_change old.disk new old.broken (as_answer answer) whole c

pub step_change : {Apt : State → Type 0} (old new : Session) (answer : Result (Unit {0}) ChainRefusal) → StepOf Apt old new answer → IsChange (as_answer answer) old.disk new.disk old.broken new.broken
step_change old new answer s = go old.broken refl
  where
    go : (o : Option StoreFault) → old.broken ≡ o → IsChange (as_answer answer) old.disk new.disk old.broken new.broken
    go None is = kind_change old new answer (s.kind is)
    go (Some fault) is =
        let b = s.broken fault is in
        subst (λ r. IsChange (as_answer r) old.disk new.disk old.broken new.broken) (sym b.1.1)
        (quiet_change old.disk new.disk old.broken new.broken b.1.0 (ap (λ (s : Session). s.disk) b.0) (ap (λ (s : Session). s.broken) b.0) b.1.2)

-- ---- what broke the session, and the last fault

-- a refusal that changes nothing changes neither
pub quiet_same : (broken : Option StoreFault) (x : ChainRefusal) (full : Option ℕ) (broke : Option Breach) (fault : Option StoreFault) → IsQuiet broken x → is_some broke ≡ is_some broken → ((f : StoreFault) → broken ≡ Some f → fault ≡ Some f)
    → (broke_after broke merge_breach (Err x) ≡ broke) × (fault_after fault (Err x) ≡ fault) × (full_after full (Err x) ≡ full)
quiet_same broken EmptyRange full broke fault q same told = absurd q
quiet_same broken (OutOfRange a b c) full broke fault q same told = absurd q
quiet_same broken (TooLong a b) full broke fault q same told = absurd q
quiet_same broken ReadOnly full broke fault q same told = absurd q
quiet_same broken (Broken file count) full broke fault q same told = (one_broke broke merge_breach (same ∙ ap (λ (o : Option StoreFault). is_some o) q), sym (told (fault_of file count) q), refl)
quiet_same broken (Spent t) full broke fault q same told = (refl, refl, refl)
quiet_same broken (FileFull next) full broke fault q same told = absurd q
quiet_same broken (ReadFault file count) full broke fault q same told = absurd q
quiet_same broken NoMerge full broke fault q same told = (refl, refl, refl)
quiet_same broken (Stale taken at) full broke fault q same told = (refl, refl, refl)
quiet_same broken (NotYet stripe) full broke fault q same told = (refl, refl, refl)
quiet_same broken (Abandoned file count) full broke fault q same told = absurd q
quiet_same broken (NoStripe stripe stripes) full broke fault q same told = (refl, refl, refl)
quiet_same broken NoPiece full broke fault q same told = (refl, refl, refl)
quiet_same broken NoRoom full broke fault q same told = absurd q

reached_broke : (d : Disk) (new : Session) (broke : Option Breach) (answer : Result ℕ ChainRefusal) → broke ≡ None → HasCounted d new answer → is_some (broke_after broke merge_breach answer) ≡ is_some new.broken
reached_broke d new broke answer none = go answer
  where
    whole : new.broken ≡ None → is_some broke ≡ is_some new.broken
    whole e = ap (λ (x : Option Breach). is_some x) none ∙ sym (ap (λ (x : Option StoreFault). is_some x) e)

    go : (answer : Result ℕ ChainRefusal) → HasCounted d new answer → is_some (broke_after broke merge_breach answer) ≡ is_some new.broken
    go (Ok place) h = whole h.1
    go (Err (Broken file count)) h = sym (ap (λ (x : Option StoreFault). is_some x) h.2)
    go (Err NoRoom) h = whole h.1
    go (Err (ReadFault file count)) h = whole h.2
    go (Err (FileFull next)) h = whole h.1
    go (Err EmptyRange) h = absurd h
    go (Err (OutOfRange a' b c)) h = absurd h
    go (Err (TooLong a' b)) h = absurd h
    go (Err ReadOnly) h = absurd h
    go (Err (Spent t)) h = absurd h
    go (Err NoMerge) h = absurd h
    go (Err (Stale taken at)) h = absurd h
    go (Err (NotYet stripe)) h = absurd h
    go (Err (Abandoned file count)) h = absurd h
    go (Err (NoStripe stripe stripes)) h = absurd h
    go (Err NoPiece) h = absurd h

-- ---- where it stands behind a step

module _ (from : State) (h : History) (old new : Session) (full : Option ℕ) (broke broke' : Option Breach) (answer : Result (Unit {0}) ChainRefusal) where
  -- it is told to be full where a file that may be changed is so long
  far_now : (v : State) (trace now : Trace) → IsLater from h v → IsLeft v answer new trace now → (next : ℕ) → as_answer answer ≡ Err (FileFull next) → IsSoLong from.writes now next
  far_now v trace now comes left next is = go answer is left.full
    where
      go : (r : Result (Unit {0}) ChainRefusal) → as_answer r ≡ Err (FileFull next) → IfErr r (λ x. IsEndTold (IsFullAt v.writes now) (Err x)) → IsSoLong from.writes now next
      go (Ok done) is k = absurd (ok_err is)
      go (Err x) is k =
          let f : IsFullAt v.writes now next = subst (λ y. IsEndTold (IsFullAt v.writes now) (Err y)) (same_err {T = ℕ} x (FileFull next) is) k in
          long_later v.writes from.writes now now next (written_before from h v comes) (grows_none now) f.1

  stopped_on : (v : State) (now : Trace) (o : Option StoreFault) → IfSome o (λ fault. LeavesOthers v now) → IfSome o (λ fault. EachOpensToPrefix (sector_of v) v.opening v.history (λ s. false) v.leaf v.began now)
      → IfSome o (λ fault. EachOpens v.leaf (dirty_now v) (disk_now v) now) → IfSome o (λ fault. HasStopped v broke' now)
  stopped_on v now None still past last = tt
  stopped_on v now (Some fault) still past last = record {
    still = still;
    past = past_wider (sector_of v) v.opening v.history (λ s. false) (open_by broke') v.leaf v.began now (λ s apart. refl) past;
    last = wider v.leaf (dirty_now v) (λ s. dirty_now v s || open_by broke' s) (disk_now v) now (λ s apart. (or_parts (dirty_now v s) (open_by broke' s) apart).0) last;
  }

  follows_step : {Apt : State → Type 0} (trace now : Trace) → old.broken ≡ None → Follows from h full broke old trace → ((to : State) → ComesTo from h to → Apt to) → ((v : State) → IsServing old.layers v trace → Apt v → IsLeft v answer new trace now) → Follows from h (full_after full (as_answer answer)) broke' new now
  follows_step trace now whole f apt leaves =
      let l = leaves f.to (f.serves whole) (apt f.to f.comes) in
      record {
        to = l.later;
        comes = record { later = later_through from f.to h h l.later f.comes.later (subst (λ k. IsLater f.to k l.later) f.comes.later.history l.same); sector = l.sector ∙ f.comes.sector };
        serves = l.serves;
        stopped = stopped_on l.later now new.broken l.still l.past l.last;
        long = long_after from.writes full (as_answer answer) now now (long_still from.writes full trace now l.grows f.long) (far_now f.to trace now f.comes.later l) (grows_none now);
      }

-- each state that a session may have come to by this history, from one that it served when it had begun, is apt
abbrev pub IsAptFrom : (State → Type 0) → Session → History → Type 0
IsAptFrom Apt first h = (t : Trace) → first.disk.told ≡ Some t → (from to : State) → IsServing first.layers from t → from.history ≡ [] → ComesTo from h to → Apt to

-- what is so where the first content is told is so where both are
with_first : (F : Trace → Trace → Type 0) (Q : Trace → Type 0) (a b : Option Trace) → ((t : Trace) → a ≡ Some t → Q t) → WhereBothTold F a b → WhereBothTold (λ t u. F t u × Q t) a b
with_first F Q None None q f = tt
with_first F Q None (Some u) q f = absurd f
with_first F Q (Some t) None q f = absurd f
with_first F Q (Some t) (Some u) q f = (f, q t refl)

module _ (first old new : Session) (h : History) (full : Option ℕ) (broke : Option Breach) (fault : Option StoreFault) where
  abbrev Behind : Result (Unit {0}) ChainRefusal → Session → Type 0
  Behind r s = IsHome first s h (full_after full (as_answer r)) (broke_after broke merge_breach (as_answer r)) (fault_after fault (as_answer r))

  breaks_on : (answer : Result (Unit {0}) ChainRefusal) → IsHome first old h full broke fault → old.broken ≡ None → Kind old new answer → is_some (broke_after broke merge_breach (as_answer answer)) ≡ is_some new.broken
  breaks_on _ home whole (quiet x same still q) =
      ap (λ (o : Option Breach). is_some o) (quiet_same old.broken x full broke fault q home.breaks (told_last old.broken fault _ home.counted.broke)).0 ∙ home.breaks ∙ ap (λ (o : Option StoreFault). is_some o) (sym still)
  breaks_on answer home whole (reached _ none c) = reached_broke old.disk new broke (as_answer answer) (none_broke broke old.broken home.breaks whole) c

  counted_step : (answer : Result (Unit {0}) ChainRefusal) → IsHome first old h full broke fault → old.broken ≡ None → Kind old new answer → AreCounted first.disk new.disk new.broken (fault_after fault (as_answer answer))
  counted_step _ home whole (quiet x same still q) =
      subst (λ f. AreCounted first.disk new.disk new.broken f) (sym (quiet_same old.broken x full broke fault q home.breaks (told_last old.broken fault _ home.counted.broke)).1)
      (subst (λ d. AreCounted first.disk d new.broken fault) (sym same) (subst (λ o. AreCounted first.disk old.disk o fault) (sym still) home.counted))
  counted_step answer home whole (reached _ none c) = counted_on first.disk old new fault whole home.counted (as_answer answer) c

  -- only the count of events is another, and the step was refused
  pub home_quiet : IsHome first old h full broke fault → IsSound new → IsUnchanged old new → (x : ChainRefusal) → IsQuiet old.broken x → Behind (Err x) new
  home_quiet home sound is x q =
      let same = quiet_same old.broken x full broke fault q home.breaks (told_last old.broken fault _ home.counted.broke) in
      subst (λ f. IsHome first new h (full_after full (Err x)) (broke_after broke merge_breach (Err x)) f) (sym same.1)
      (subst (λ b. IsHome first new h (full_after full (Err x)) b fault) (sym same.0)
      (subst (λ n. IsHome first new h n broke fault) (sym same.2)
      (subst (λ s. IsHome first s h full broke fault) (sym is) (home_counted first old h full broke fault new.events home (subst IsSound is sound)))))

  pub home_step : {Apt : State → Type 0} (answer : Result (Unit {0}) ChainRefusal) → IsSound new → StepOf Apt old new answer → IsAptFrom Apt first h → IsHome first old h full broke fault → Behind answer new
  home_step {Apt} answer sound s apt home = go old.broken refl
    where
      go : (o : Option StoreFault) → old.broken ≡ o → Behind answer new
      go (Some f) is = let b = s.broken f is in subst (λ r. Behind r new) (sym b.1.1) (home_quiet home sound b.0 b.1.0 b.1.2)
      go None is = record {
        sound = sound;
        geometry = s.keeps.geometry ∙ home.geometry;
        session = s.keeps.session ∙ home.session;
        stamps = stamps_step first.layers old.layers new.layers h s.merge home.stamps;
        breaks = breaks_on answer home is (s.kind is);
        counted = counted_step answer home is (s.kind is);
        follows = both_join _ _ _ first.disk.told old.disk.told new.disk.told
            (λ t u w f leaves from serving empty. follows_step from h old new full broke (broke_after broke merge_breach (as_answer answer)) answer u w is (f.0 from serving empty) (λ to comes. f.1 from to serving empty comes) leaves)
            (with_first _ (λ t. (from to : State) → IsServing first.layers from t → from.history ≡ [] → ComesTo from h to → Apt to) first.disk.told old.disk.told apt home.follows) (s.left is);
      }
