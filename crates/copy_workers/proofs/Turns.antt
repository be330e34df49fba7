-- A worker's turn, from its beginning to its end.
use Rattle.std.proofs.Common.{◌≡◌, ◌≢◌, ◌⊎◌, ◌+◌, ◌-◌, ◌<◌, ◌≤◌, ◌==◌, ◌++◌, ◌∷◌, ℕ, Bool, true, false, List, [], length, inl, inr, ap₂, Some, None, Result, Ok, Err, refl, sym, ap, subst, ◌∙◌, arith, length-append, take_at}
use Rattle.std.specs.Prelude.{◌&&◌, ◌||◌, IfErr, IfSome, OnOk, Option, if◌then◌else◌, nat_le, nat_lt}
use Rattle.std.proofs.lemmas.Bool.{eqb-true, eq-eqb, lt-ltb, ltb-false, ltb-true}
use Rattle.std.proofs.lemmas.List.{append-nil, length-map}
use Rattle.store_model.specs.Disk.{Disk}
use Rattle.ledger.specs.declared.ledger.Ledger.{Ledger}
use Rattle.guest_model.specs.declared.refusal.ChainRefusal.{ChainRefusal}
use Rattle.guest_model.specs.declared.refusal.ChainRefusal.TheVariants.{Abandoned, Broken, EmptyRange, FileFull, NoMerge, NoPiece, NoRoom, NoStripe, NotYet, OutOfRange, ReadFault, ReadOnly, Spent, Stale, TooLong}
use Rattle.chain_core.specs.declared.chain.Chain.{Chain}
use Rattle.seats.specs.Counting.{once_at, times}
use Rattle.seats.proofs.Counting.{times-push}
use Rattle.shared_chain.specs.declared.basis.Basis.{Basis}
use Rattle.shared_chain.specs.declared.basis.Breach.{Breach}
use Rattle.shared_chain.specs.declared.basis.Step.{Step}
use Rattle.shared_chain.specs.declared.basis.Step.TheVariants.{Broke, Done}
use Rattle.chain_model.specs.Merges.{with_mark, with_marks}
use Rattle.merge_core.specs.Copied.{marks_of}
use Rattle.merge_core.specs.declared.marks.Marks.{Marks}
use Rattle.shared_chain.specs.declared.basis.Note.TheVariants as notes
use Rattle.shared_chain.specs.Bases.{Contains, HasStripe, basis_of, marked_below}
use Rattle.shared_chain.specs.Notes.{HasNote}
use Rattle.shared_chain.specs.Laws.{contains_itself, contains_through}
use Rattle.shared_chain.specs.Merging.{IsStepped, MergeStep, StopsFetch, StopsPut, as_answer, copied_behind, copies, ends, fetches, finished_behind, finishes, most_events, passes}
use Rattle.merge_core.specs.declared.piece.Piece.{Piece}
use Rattle.guest_model.specs.History.{History}
use Rattle.shared_chain.specs.Fetched.{IsFetched, WasFetched}
use Rattle.shared_chain.specs.Stamped.{stamp_behind}
use Rattle.shared_chain.proofs.Fetched.{changed_since, done_starts, starts_steps}
use Rattle.shared_chain.proofs.Marked.{marked_has, marked_more}
use Rattle.copy_workers.specs.Sources.{HasFetched, IsHeld}
use Rattle.shared_chain.specs.Seats.{ChangesAt, HasWorked, IsSwept, KeepsSeat, MergeBreaksAt, StopsTurn}
use Rattle.shared_chain.specs.Shared.{Shared}
use Rattle.shared_chain.specs.Steps.{broke_after, done_steps, first_breach, merge_breach, steps_of}
use Rattle.turn_lock.specs.Histories.{StartsWith}
use Rattle.turn_lock.specs.Seats.{HasTurn, Known, MayUnlock, Out, after_turn, with_refusal}
use Rattle.turn_lock.specs.Steps.{places_after}
use Rattle.turn_lock.proofs.Fronts.{starts-itself, starts-length, starts-through}
use Rattle.turn_lock.proofs.Using.{may_unlock-entry, may_unlock-same, turn_ended}

-- no mark is taken back, nor that it was finished
still_marked : (step : MergeStep) (answer : Result (Unit {0}) ChainRefusal) (marks : Marks) (t : ℕ) → marks_of marks t ≡ true → copied_behind step answer marks t ≡ true
still_marked (copies stripe) (Ok done) marks t m = go (nat_lt stripe marks.stripes)
  where
    go : (b : Bool) → (if b then with_mark stripe (marks_of marks) t else marks_of marks t) ≡ true
    go true = either (t == stripe)
      where
        either : (b : Bool) → (b || marks_of marks t) ≡ true
        either true = refl
        either false = m
    go false = m
still_marked (copies stripe) (Err x) marks t m = m
still_marked (passes stripe n) (Ok done) marks t m = go (nat_lt t marks.stripes)
  where
    go : (b : Bool) → (if b then with_marks stripe n (marks_of marks) t else marks_of marks t) ≡ true
    go true = either (nat_le stripe t && nat_lt t (stripe + n))
      where
        either : (b : Bool) → (b || marks_of marks t) ≡ true
        either true = refl
        either false = m
    go false = m
still_marked (passes stripe n) (Err x) marks t m = m
still_marked (fetches stripe) answer marks t m = m
still_marked finishes answer marks t m = m
still_marked ends answer marks t m = m

still_finished : (step : MergeStep) (answer : Result (Unit {0}) ChainRefusal) (finished : Bool) → finished ≡ true → finished_behind step answer finished ≡ true
still_finished finishes (Ok done) finished e = refl
still_finished finishes (Err x) finished e = e
still_finished ends answer finished e = refl
still_finished (fetches stripe) (Ok done) finished e = e
still_finished (fetches stripe) (Err EmptyRange) finished e = e
still_finished (fetches stripe) (Err (OutOfRange a b c)) finished e = e
still_finished (fetches stripe) (Err (TooLong a b)) finished e = e
still_finished (fetches stripe) (Err ReadOnly) finished e = e
still_finished (fetches stripe) (Err (Broken file count)) finished e = e
still_finished (fetches stripe) (Err (Spent t)) finished e = e
still_finished (fetches stripe) (Err (FileFull next)) finished e = e
still_finished (fetches stripe) (Err (ReadFault file count)) finished e = e
still_finished (fetches stripe) (Err NoMerge) finished e = refl
still_finished (fetches stripe) (Err (Stale taken now)) finished e = e
still_finished (fetches stripe) (Err (NotYet s)) finished e = e
still_finished (fetches stripe) (Err (Abandoned file count)) finished e = e
still_finished (fetches stripe) (Err (NoStripe s n)) finished e = e
still_finished (fetches stripe) (Err NoPiece) finished e = e
still_finished (fetches stripe) (Err NoRoom) finished e = e
still_finished (copies stripe) (Ok done) finished e = e
still_finished (copies stripe) (Err EmptyRange) finished e = e
still_finished (copies stripe) (Err (OutOfRange a b c)) finished e = e
still_finished (copies stripe) (Err (TooLong a b)) finished e = e
still_finished (copies stripe) (Err ReadOnly) finished e = e
still_finished (copies stripe) (Err (Broken file count)) finished e = e
still_finished (copies stripe) (Err (Spent t)) finished e = e
still_finished (copies stripe) (Err (FileFull next)) finished e = e
still_finished (copies stripe) (Err (ReadFault file count)) finished e = e
still_finished (copies stripe) (Err NoMerge) finished e = refl
still_finished (copies stripe) (Err (Stale taken now)) finished e = e
still_finished (copies stripe) (Err (NotYet s)) finished e = e
still_finished (copies stripe) (Err (Abandoned file count)) finished e = e
still_finished (copies stripe) (Err (NoStripe s n)) finished e = e
still_finished (copies stripe) (Err NoPiece) finished e = e
still_finished (copies stripe) (Err NoRoom) finished e = e
still_finished (passes stripe m) (Ok done) finished e = e
still_finished (passes stripe m) (Err EmptyRange) finished e = e
still_finished (passes stripe m) (Err (OutOfRange a b c)) finished e = e
still_finished (passes stripe m) (Err (TooLong a b)) finished e = e
still_finished (passes stripe m) (Err ReadOnly) finished e = e
still_finished (passes stripe m) (Err (Broken file count)) finished e = e
still_finished (passes stripe m) (Err (Spent t)) finished e = e
still_finished (passes stripe m) (Err (FileFull next)) finished e = e
still_finished (passes stripe m) (Err (ReadFault file count)) finished e = e
still_finished (passes stripe m) (Err NoMerge) finished e = refl
still_finished (passes stripe m) (Err (Stale taken now)) finished e = e
still_finished (passes stripe m) (Err (NotYet s)) finished e = e
still_finished (passes stripe m) (Err (Abandoned file count)) finished e = e
still_finished (passes stripe m) (Err (NoStripe s n)) finished e = e
still_finished (passes stripe m) (Err NoPiece) finished e = e
still_finished (passes stripe m) (Err NoRoom) finished e = e

-- a stripe that was copied has its mark
marked_now : (stripe : ℕ) (marks : Marks) → stripe < marks.stripes → copied_behind (copies stripe) (Ok tt) marks stripe ≡ true
marked_now stripe marks less =
    ap₂ (λ a b. if a then b || marks_of marks stripe else marks_of marks stripe) (lt-ltb stripe marks.stripes less) (eq-eqb stripe stripe refl)

module _ {S T : Type 0} where
  abbrev pub told_of : Shared (Chain S Ledger T) → List Step
  told_of s = steps_of s.chain.recorder s.broke

  -- how much is done to the chain: its events
  abbrev pub work : Basis S T → ℕ
  work b = b.events

  -- the steps stay, or the merge breaks the session
  data Gained (old new : Shared (Chain S Ledger T)) : Type 0 where
    is_same : told_of new ≡ told_of old → Gained old new
    has_broken : old.broke ≡ None → told_of new ≡ done_steps old.chain.recorder ++ Broke merge_breach ∷ [] → Gained old new

  gained : (disk : S → Disk) (old new : Shared (Chain S Ledger T)) (step : MergeStep) (answer : Result (Unit {0}) ChainRefusal) → IsStepped disk step old new answer → Gained old new
  gained disk old new step answer k = go answer k.broke
    where
      still : new.broke ≡ old.broke → Gained old new
      still e = is_same (ap₂ steps_of k.history e)

      broken : (o : Option Breach) → old.broke ≡ o → new.broke ≡ Some (first_breach o merge_breach) → Gained old new
      broken (Some earlier) is now = still (now ∙ sym is)
      broken None is now = has_broken is (ap₂ steps_of k.history now)

      go : (answer : Result (Unit {0}) ChainRefusal) → new.broke ≡ broke_after old.broke merge_breach (as_answer answer) → Gained old new
      go (Ok done) e = still e
      go (Err EmptyRange) e = still e
      go (Err (OutOfRange a b c)) e = still e
      go (Err (TooLong a b)) e = still e
      go (Err ReadOnly) e = still e
      go (Err (Broken file count)) e = broken old.broke refl e
      go (Err (Spent t)) e = still e
      go (Err (FileFull next)) e = still e
      go (Err (ReadFault file count)) e = still e
      go (Err NoMerge) e = still e
      go (Err (Stale taken now)) e = still e
      go (Err (NotYet stripe)) e = still e
      go (Err (Abandoned file count)) e = still e
      go (Err (NoStripe stripe stripes)) e = still e
      go (Err NoPiece) e = still e
      go (Err NoRoom) e = still e

  module _ (disk : S → Disk) (before after locked : Known Step (Basis S T)) (old new : Shared (Chain S Ledger T)) (step : MergeStep) (two : most_events step ≤ 2) (answer : Result (Unit {0}) ChainRefusal)
      (turn : HasTurn Contains before after locked (told_of old) (basis_of disk old)) (k : IsStepped disk step old new answer) where
    covers : Contains (basis_of disk new) (basis_of disk old)
    covers = record { first = ap Some k.first; notes = λ n h. (k.noted n).1 (inr h); events = k.later; stripes = k.stripes; copied = λ t h. subst (λ n. HasStripe t (marked_below (marks_of new.copied) n)) (sym k.stripes) (marked_more (marks_of old.copied) (marks_of new.copied) old.copied.stripes t (λ u m. k.copied u ∙ still_marked step answer old.copied u m) h); finished = λ e. k.finished ∙ still_finished step answer old.finished e }

    little : new.chain.events ≤ old.chain.events + 2
    little = omega (arith, k.few, two)

    was : old.broke ≡ None → told_of old ≡ done_steps old.chain.recorder
    was none = ap (λ b. steps_of old.chain.recorder b) none ∙ append-nil (done_steps old.chain.recorder)

    one_more : (none : old.broke ≡ None) → told_of new ≡ done_steps old.chain.recorder ++ Broke merge_breach ∷ [] → told_of new ≡ told_of old ++ Broke merge_breach ∷ []
    one_more none is = is ∙ ap (λ xs. xs ++ Broke merge_breach ∷ []) (sym (was none))

    -- what `unlock` asks
    may_end : MayUnlock Contains work after locked (told_of new) (basis_of disk new)
    may_end = go (gained disk old new step answer k)
      where
        go : Gained old new → MayUnlock Contains work after locked (told_of new) (basis_of disk new)
        go (is_same e) = may_unlock-same Contains work before after locked (told_of old) (basis_of disk old) turn (told_of new) (basis_of disk new) e covers little
        go (has_broken none e) = may_unlock-entry Contains work before after locked (told_of old) (basis_of disk old) turn (told_of new) (basis_of disk new) (Broke merge_breach) (one_more none e) covers little

    goes_on : StartsWith (told_of new) (told_of old)
    goes_on = go (gained disk old new step answer k)
      where
        go : Gained old new → StartsWith (told_of new) (told_of old)
        go (is_same e) = subst (λ h. StartsWith h (told_of old)) (sym e) (starts-itself (told_of old))
        go (has_broken none e) = subst (λ h. StartsWith h (told_of old)) (sym (one_more none e)) (take_at (told_of old) (Broke merge_breach ∷ []) (length (told_of old)) refl)

    -- the seat behind the turn
    abbrev ended : Known Step (Basis S T)
    ended = record {
      lock = before.lock;
      seen = told_of new;
      mine = places_after before.mine (length (told_of new) - length (told_of old)) (length (told_of new));
      known = before.known;
      basis = basis_of disk new;
      turn = None;
      refused = before.refused;
      family = before.family;
      first_ticket = before.first_ticket;
      drawn = before.drawn + 1;
      refusals = before.refusals;
    }

    keeps : KeepsSeat before ended
    keeps = record {
      lock = refl;
      free = refl;
      family = refl;
      first_ticket = refl;
      known = refl;
      refusals = omega arith;
      seen = starts-through (told_of new) (told_of old) before.seen goes_on turn.history;
      basis = contains_through (basis_of disk new) (basis_of disk old) before.basis covers turn.covers;
    }

    -- the places of its own
    own : (p : ℕ) → 0 < times p ended.mine → (0 < times p before.mine) ⊎ MergeBreaksAt ended.seen p
    own p some = go (gained disk old new step answer k)
      where
        stays : told_of new ≡ told_of old → ended.mine ≡ before.mine
        stays e =
            let same : length (told_of new) ≡ length (told_of old) = ap length e in
            let none : length (told_of new) - length (told_of old) ≡ 0 = omega (arith, same) in
            ap (λ n. if n == 0 then before.mine else before.mine ++ length (told_of new) ∷ []) none

        by_place : (m : ℕ) → MergeBreaksAt ended.seen m → (b : Bool) → (m == p) ≡ b → 0 < times p (before.mine ++ m ∷ []) → (0 < times p before.mine) ⊎ MergeBreaksAt ended.seen p
        by_place m breaks true same own = inr (subst (MergeBreaksAt ended.seen) (eqb-true m p same) breaks)
        by_place m breaks false other own =
            let none : once_at p m ≡ 0 = ap (λ b. if b then 1 else 0) other in
            inl (omega (arith, own, times-push p before.mine m, none))

        go : Gained old new → (0 < times p before.mine) ⊎ MergeBreaksAt ended.seen p
        go (is_same e) = inl (subst (λ ms. 0 < times p ms) (stays e) some)
        go (has_broken none e) =
            let before_is : length (told_of old) ≡ length old.chain.recorder = ap length (was none) ∙ length-map old.chain.recorder (λ e. Done e) in
            let size : length (told_of new) ≡ length old.chain.recorder + 1 =
            ap length e ∙ length-append (done_steps old.chain.recorder) (Broke merge_breach ∷ []) ∙ ap (λ n. n + 1) (length-map old.chain.recorder (λ e. Done e)) in
            let one : length (told_of new) - length (told_of old) ≡ 1 = omega (arith, size, before_is) in
            let mine : ended.mine ≡ before.mine ++ length (told_of new) ∷ [] = ap (λ n. if n == 0 then before.mine else before.mine ++ length (told_of new) ∷ []) one in
            let breaks : MergeBreaksAt ended.seen (length (told_of new)) = record { before = old.chain.recorder; begins = subst (λ xs. StartsWith (told_of new) xs) e (starts-itself (told_of new)); place_is = size } in
            by_place (length (told_of new)) breaks (length (told_of new) == p) refl (subst (λ ms. 0 < times p ms) mine some)

    worked : (last : Known Step (Basis S T)) → last ≡ after_turn after (told_of new) (basis_of disk new) → HasWorked 1 before last
    worked last is =
        subst (HasWorked 1 before) (sym (turn_ended Contains work before after locked (told_of old) (basis_of disk old) turn last (told_of new) (basis_of disk new) is)) (record { keeps = keeps; drawn = omega arith; own = own })

  -- ---- as a worker's turn has them

  module _ (disk : S → Disk) (before after : Known Step (Basis S T)) (held : Out (Shared (Chain S Ledger T)) Step (Basis S T)) (old new : Shared (Chain S Ledger T)) (step : MergeStep) (two : most_events step ≤ 2) (answer : Result (Unit {0}) ChainRefusal)
      (is : old ≡ held.value) (turn : HasTurn Contains before after held.seat (told_of held.value) (basis_of disk held.value)) (k : IsStepped disk step old new answer) where
    has_turn : HasTurn Contains before after held.seat (told_of old) (basis_of disk old)
    has_turn = subst (λ (v : Shared (Chain S Ledger T)). HasTurn Contains before after held.seat (told_of v) (basis_of disk v)) (sym is) turn

    pub may_turn : MayUnlock Contains work after held.seat (told_of new) (basis_of disk new)
    may_turn = may_end disk before after held.seat old new step two answer has_turn k

    pub has_worked : (last : Known Step (Basis S T)) → last ≡ after_turn after (told_of new) (basis_of disk new) → HasWorked 1 before last
    has_worked last is_last = worked disk before after held.seat old new step two answer has_turn k last is_last

  -- ---- a stripe

  -- what stopped a fetch of it shows, behind the turn
  pub stops_turn : (disk : S → Disk) (stripe : ℕ) (step : MergeStep) (answer : Result (Unit {0}) ChainRefusal) (before last : Known Step (Basis S T)) (old new : Shared (Chain S Ledger T)) → IsStepped disk step old new answer → finished_behind step (Err NoMerge) old.finished ≡ true
      → Contains (basis_of disk old) before.basis → last.basis ≡ basis_of disk new → (x : ChainRefusal) → answer ≡ Err x → StopsFetch disk stripe old new x → StopsTurn stripe before last x
  stops_turn disk stripe step answer before last old new k none knows is = go
    where
      here : (P : Basis S T → Type 0) → P (basis_of disk new) → P last.basis
      here P h = subst P (sym is) h

      go : (x : ChainRefusal) → answer ≡ Err x → StopsFetch disk stripe old new x → StopsTurn stripe before last x
      go NoMerge e h = here (λ b. b.finished ≡ true) (k.finished ∙ ap (λ r. finished_behind step r old.finished) e ∙ none)
      go (NoStripe s n) e h = h.1
      go (Spent t) e h = (h.0, inr (here (λ b. t ≤ b.events) h.1))
      go (FileFull next) e h = absurd h
      go (ReadFault file count) e h = (here (λ b. HasNote b.notes (notes.ReadFailed file count)) h.0, λ was. h.1 (knows.notes (notes.ReadFailed file count) was))
      go (Broken file count) e h = here (λ b. HasNote b.notes (notes.ChangeFailed file count)) h
      go EmptyRange e h = absurd h
      go (OutOfRange a b c) e h = absurd h
      go (TooLong a b) e h = absurd h
      go ReadOnly e h = absurd h
      go (Stale taken now) e h = absurd h
      go (NotYet s) e h = absurd h
      go (Abandoned file count) e h = absurd h
      go NoPiece e h = absurd h
      go NoRoom e h = absurd h

  pub fetch_stops : (disk : S → Disk) (stripe : ℕ) (answer : Result (Unit {0}) ChainRefusal) (before last : Known Step (Basis S T)) (old new : Shared (Chain S Ledger T)) → IsStepped disk (fetches stripe) old new answer → IfErr answer (StopsFetch disk stripe old new)
      → Contains (basis_of disk old) before.basis → last.basis ≡ basis_of disk new → IfErr answer (StopsTurn stripe before last)
  fetch_stops disk stripe answer before last old new k stops knows is = go answer refl
    where
      go : (r : Result (Unit {0}) ChainRefusal) → answer ≡ r → IfErr r (StopsTurn stripe before last)
      go (Ok done) e = tt
      go (Err x) e = stops_turn disk stripe (fetches stripe) answer before last old new k refl knows is x e (subst (λ r. IfErr r (StopsFetch disk stripe old new)) e stops)

  -- what was fetched in a turn is a piece behind all that the seat has seen
  pub has_fetched : (disk : S → Disk) (stripe : ℕ) (answer : Result (Unit {0}) ChainRefusal) (last : Known Step (Basis S T)) (new : Shared (Chain S Ledger T)) (piece : Piece) → OnOk answer (new.broke ≡ None) → OnOk answer (piece.stripe ≡ stripe) → OnOk answer (IsFetched disk new.first new.chain.recorder piece)
      → last.seen ≡ told_of new → last.basis ≡ basis_of disk new → OnOk answer (HasFetched disk last stripe piece)
  has_fetched disk stripe (Err x) last new piece whole is_of fetched seen is = tt
  has_fetched disk stripe (Ok done) last new piece whole is_of fetched seen is = λ filled.
      let seen_is : last.seen ≡ done_steps new.chain.recorder = seen ∙ ap (λ b. steps_of new.chain.recorder b) whole ∙ append-nil (done_steps new.chain.recorder) in (
        is_of,
        subst (λ (b : Basis S T). IfSome b.first (λ first. IsHeld disk last first piece)) (sym is)
            (record {
              before = new.chain.recorder;
              begins = subst (λ xs. StartsWith xs (done_steps new.chain.recorder)) (sym seen_is) (starts-itself (done_steps new.chain.recorder));
              recent = λ some. ap length seen_is ∙ length-map new.chain.recorder (λ e. Done e);
              fetched = fetched;
            }),
      )

  pub has_filled : (disk : S → Disk) (answer : Result (Unit {0}) ChainRefusal) (first : Chain S Ledger T) (h : History) (piece : Piece) → OnOk answer (IsFetched disk first h piece) → OnOk answer (piece.filled ≡ true)
  has_filled disk (Ok done) first h piece fetched = fetched.filled
  has_filled disk (Err x) first h piece fetched = tt

  -- what was held when the turn began was fetched behind steps of the chain
  pub was_fetched : (disk : S → Disk) (before : Known Step (Basis S T)) (old : Shared (Chain S Ledger T)) (piece : Piece) → Contains (basis_of disk old) before.basis → StartsWith (told_of old) before.seen → IfSome before.basis.first (λ first. IsHeld disk before first piece)
      → IsHeld disk before old.first piece × WasFetched disk (told_of old) old.first piece
  was_fetched disk before old piece knows seen held =
      let is = subst (λ o. IfSome o (λ first. IsHeld disk before first piece)) (sym knows.first) held in
      (is, record { before = is.before; begins = starts-through (told_of old) before.seen (done_steps is.before) seen is.begins; fetched = is.fetched })

  -- a stale piece shows that a call changed its stripe
  stale_shows : (disk : S → Disk) (before last : Known Step (Basis S T)) (old new : Shared (Chain S Ledger T)) (piece : Piece) (taken now : ℕ) → new.first ≡ old.first → new.chain.recorder ≡ old.chain.recorder → IsHeld disk before old.first piece → StartsWith (told_of old) before.seen → last.seen ≡ told_of new
      → (taken ≡ piece.stamp) × (now ≡ stamp_behind new.first.layers.retiring new.chain.recorder piece.stripe) × (taken ≢ now) → ChangesAt last.seen piece.stripe now × (length before.seen < now)
  stale_shows disk before last old new piece taken now first history held earlier seen h =
      let begins : StartsWith old.chain.recorder held.before = done_starts old.chain.recorder held.before old.broke (starts-through (told_of old) before.seen (done_steps held.before) earlier held.begins) in
      let now_is : now ≡ stamp_behind old.first.layers.retiring old.chain.recorder piece.stripe = h.1 ∙ ap₂ (λ (f : Chain S Ledger T) (k : History). stamp_behind f.layers.retiring k piece.stripe) first history in
      let since = changed_since disk old.first held.before old.chain.recorder piece now held.fetched begins now_is (λ same. h.2 (h.0 ∙ same)) in
      let changed = since.1 in (
        record {
          before = changed.before;
          call = changed.call;
          begins = subst (λ xs. StartsWith xs (done_steps (changed.before ++ changed.call ∷ []))) (sym seen)
              (starts_steps new.chain.recorder (changed.before ++ changed.call ∷ []) new.broke (subst (λ k. StartsWith k (changed.before ++ changed.call ∷ [])) (sym history) changed.begins));
          place_is = changed.place_is;
          touched = changed.touched;
        },
        (let size = held.recent since.0 in let later = changed.later in omega (arith, size, later)),
      )

  -- the stripe of a put is copied, or what stopped that shows
  pub has_swept : (disk : S → Disk) (piece : Piece) (answer : Result (Unit {0}) ChainRefusal) (before last : Known Step (Basis S T)) (old new : Shared (Chain S Ledger T)) → IsStepped disk (copies piece.stripe) old new answer → IfErr answer (StopsPut disk piece old new)
      → Contains (basis_of disk old) before.basis → IsHeld disk before old.first piece → StartsWith (told_of old) before.seen → last.seen ≡ told_of new → last.basis ≡ basis_of disk new → IsSwept piece.stripe before last
  has_swept disk piece answer before last old new k stops knows held earlier seen is = go answer refl
    where
      here : (P : Basis S T → Type 0) → P (basis_of disk new) → P last.basis
      here P h = subst P (sym is) h

      as_fetch : (x : ChainRefusal) → answer ≡ Err x → StopsFetch disk piece.stripe old new x → StopsTurn piece.stripe before last x
      as_fetch = stops_turn disk piece.stripe (copies piece.stripe) answer before last old new k refl knows is

      stopped : (x : ChainRefusal) → answer ≡ Err x → StopsPut disk piece old new x → StopsTurn piece.stripe before last x
      stopped (FileFull next) e h = here (λ b. HasNote b.notes (notes.Full next)) h
      stopped (Stale taken now) e h = stale_shows disk before last old new piece taken now k.first k.history held earlier seen h
      stopped NoMerge e h = as_fetch NoMerge e h
      stopped (NoStripe s n) e h = as_fetch (NoStripe s n) e h
      stopped (Spent t) e h = as_fetch (Spent t) e h
      stopped (ReadFault file count) e h = as_fetch (ReadFault file count) e h
      stopped (Broken file count) e h = as_fetch (Broken file count) e h
      stopped EmptyRange e h = absurd h
      stopped (OutOfRange a b c) e h = absurd h
      stopped (TooLong a b) e h = absurd h
      stopped ReadOnly e h = absurd h
      stopped (NotYet s) e h = absurd h
      stopped (Abandoned file count) e h = absurd h
      stopped NoPiece e h = absurd h
      stopped NoRoom e h = absurd h

      by_place : (b : Bool) → nat_lt piece.stripe new.copied.stripes ≡ b → answer ≡ Ok tt → IsSwept piece.stripe before last
      by_place true less e =
          let low : piece.stripe < new.copied.stripes = ltb-true piece.stripe new.copied.stripes less in
          let marked : marks_of new.copied piece.stripe ≡ true = k.copied piece.stripe ∙ ap (λ r. copied_behind (copies piece.stripe) r old.copied piece.stripe) e ∙ marked_now piece.stripe old.copied (subst (λ n. piece.stripe < n) k.stripes low) in
          inl (here (λ b. HasStripe piece.stripe b.copied) (marked_has (marks_of new.copied) new.copied.stripes piece.stripe low marked))
      by_place false past e = inr (inl (here (λ b. b.stripes ≤ piece.stripe) (let high = ltb-false piece.stripe new.copied.stripes past in omega (arith, high))))

      go : (r : Result (Unit {0}) ChainRefusal) → answer ≡ r → IsSwept piece.stripe before last
      go (Ok done) e = by_place (nat_lt piece.stripe new.copied.stripes) refl e
      go (Err x) e = inr (inr (x, stopped x e (subst (λ r. IfErr r (StopsPut disk piece old new)) e stops)))

  -- so it stays whatever comes behind it
  pub swept_later : (stripe : ℕ) (a b c d : Known Step (Basis S T)) → Contains b.basis a.basis → length a.seen ≤ length b.seen → IsSwept stripe b c → KeepsSeat c d → IsSwept stripe a d
  swept_later stripe a b c d knows grown (inl h) keeps = inl (keeps.basis.copied stripe h)
  swept_later stripe a b c d knows grown (inr (inl h)) keeps = inr (inl (omega (arith, h, keeps.basis.stripes)))
  swept_later stripe a b c d knows grown (inr (inr h)) keeps = inr (inr (h.0, go h.0 h.1))
    where
      go : (x : ChainRefusal) → StopsTurn stripe b c x → StopsTurn stripe a d x
      go NoMerge h = keeps.basis.finished h
      go (NoStripe s n) h = h
      go (Spent t) h = (h.0, by_count h.1)
        where
          by_count : (0 < c.refusals) ⊎ (t ≤ c.basis.events) → (0 < d.refusals) ⊎ (t ≤ d.basis.events)
          by_count (inl some) = inl (omega (arith, some, keeps.refusals))
          by_count (inr many) = inr (omega (arith, many, keeps.basis.events))
      go (FileFull next) h = keeps.basis.notes (notes.Full next) h
      go (ReadFault file count) h = (keeps.basis.notes (notes.ReadFailed file count) h.0, λ was. h.1 (knows.notes (notes.ReadFailed file count) was))
      go (Broken file count) h = keeps.basis.notes (notes.ChangeFailed file count) h
      go EmptyRange h = absurd h
      go (OutOfRange x y z) h = absurd h
      go (TooLong x y) h = absurd h
      go ReadOnly h = absurd h
      go (Stale taken now) h = (
        record { before = h.0.before; call = h.0.call; begins = starts-through d.seen c.seen (done_steps (h.0.before ++ h.0.call ∷ [])) keeps.seen h.0.begins; place_is = h.0.place_is; touched = h.0.touched },
        (let later = h.1 in omega (arith, grown, later)),
      )
      go (NotYet s) h = absurd h
      go (Abandoned file count) h = absurd h
      go NoPiece h = absurd h
      go NoRoom h = absurd h

  -- ---- turns, one after the other

  -- a seat that was refused a turn
  pub refused_worked : (before : Known Step (Basis S T)) (t : ℕ) → before.turn ≡ None → HasWorked 1 before (with_refusal before t)
  refused_worked before t free = record {
    keeps = record { lock = refl; free = free; family = refl; first_ticket = refl; known = refl; refusals = omega arith; seen = starts-itself before.seen; basis = contains_itself before.basis };
    drawn = omega arith;
    own = λ p some. inl some;
  }

  pub none_worked : (before : Known Step (Basis S T)) (turns : ℕ) → before.turn ≡ None → HasWorked turns before before
  none_worked before turns free = record {
    keeps = record { lock = refl; free = free; family = refl; first_ticket = refl; known = refl; refusals = omega arith; seen = starts-itself before.seen; basis = contains_itself before.basis };
    drawn = omega arith;
    own = λ p some. inl some;
  }

  -- more turns at most
  pub worked_most : (m n : ℕ) (a b : Known Step (Basis S T)) → m ≤ n → HasWorked m a b → HasWorked n a b
  worked_most m n a b less w = record { keeps = w.keeps; drawn = (let few = w.drawn in omega (arith, few, less)); own = w.own }

  -- what stands of a stripe behind turns stands behind turns before them too
  pub swept_through : (stripe : ℕ) (a b c : Known Step (Basis S T)) → KeepsSeat a b → IsSwept stripe b c → c.turn ≡ None → IsSwept stripe a c
  swept_through stripe a b c keeps swept free = swept_later stripe a b c c keeps.basis (starts-length b.seen a.seen keeps.seen) swept (none_worked c 0 free).keeps

  pub worked_twice : (m n : ℕ) (a b c : Known Step (Basis S T)) → HasWorked m a b → HasWorked n b c → HasWorked (m + n) a c
  worked_twice m n a b c one more = record {
    keeps = record {
      lock = more.keeps.lock ∙ one.keeps.lock;
      free = more.keeps.free;
      family = more.keeps.family ∙ one.keeps.family;
      first_ticket = more.keeps.first_ticket ∙ one.keeps.first_ticket;
      known = more.keeps.known ∙ one.keeps.known;
      refusals = omega (arith, one.keeps.refusals, more.keeps.refusals);
      seen = starts-through c.seen b.seen a.seen more.keeps.seen one.keeps.seen;
      basis = contains_through c.basis b.basis a.basis more.keeps.basis one.keeps.basis;
    };
    drawn = omega (arith, one.drawn, more.drawn);
    own = λ p some. go p (more.own p some);
  }
    where
      go : (p : ℕ) → (0 < times p b.mine) ⊎ MergeBreaksAt c.seen p → (0 < times p a.mine) ⊎ MergeBreaksAt c.seen p
      go p (inr breaks) = inr breaks
      go p (inl some) = later (one.own p some)
        where
          later : (0 < times p a.mine) ⊎ MergeBreaksAt b.seen p → (0 < times p a.mine) ⊎ MergeBreaksAt c.seen p
          later (inl own) = inl own
          later (inr k) = inr (record { before = k.before; begins = starts-through c.seen b.seen _ more.keeps.seen k.begins; place_is = k.place_is })
