-- What guests were told, once all seats are joined and the session has ended.
use Rattle.std.proofs.Common.{◌≡◌, ◌⊎◌, ◌+◌, ◌-◌, ◌^◌, ◌<◌, ◌≤◌, ◌++◌, ◌∷◌, ℕ, zero, suc, Bool, true, false, [], List, length, take, Option, None, Some, Result, Ok, Err, inl, inr, refl, sym, ap, ap₂, subst, ◌∙◌, arith, length-append}
use Rattle.std.specs.Prelude.{All, IfErr, IfOk, IfSome, IsErr, OnOk, String, get_or, string_bytes}
use Rattle.std.specs.List.{AllByRecursion, flat_map}
use Rattle.std.proofs.lemmas.List.{append-nil, get_or-take, length-map, map-append}
use Rattle.std.proofs.lemmas.Result.{IfErr-weaker, IfOk-weaker}
use Rattle.std.proofs.Math.Seq.{get_or-append_seam}
use Rattle.store_model.specs.Disk.{Disk, WhereTold}
use Rattle.store_model.specs.Trace.{Trace}
use Rattle.store_model.specs.declared.fault.StoreFault.{StoreFault}
use Rattle.vx_base.specs.declared.NoRoom.{NoRoom as Want}
use Rattle.vx_base.specs.declared.parts.Geometry.{Geometry}
use Rattle.guest_model.specs.declared.call.Call.{Call}
use Rattle.guest_model.specs.declared.call.Entry.{Entry}
use Rattle.ledger.specs.declared.ledger.Ledger.{Ledger}
use Rattle.guest_model.specs.declared.refusal.ChainRefusal.{ChainRefusal}
use Rattle.guest_model.specs.declared.refusal.ChainRefusal.TheVariants.{Abandoned, Broken, EmptyRange, FileFull, NoMerge, NoPiece, NoRoom, NoStripe, NotYet, OutOfRange, ReadFault, ReadOnly, Spent, Stale, TooLong}
use Rattle.guest_model.specs.Calls.{reply}
use Rattle.guest_model.specs.History.{History, replay}
use Rattle.chain_core.specs.declared.chain.Chain.{Chain}
use Rattle.chain_core.specs.Answering.{fault_of}
use Rattle.chain_core.specs.Ending.{IsOfSession, SomeChangeFailed}
use Rattle.chain_core.specs.Sessions.{Session}
use Rattle.chain_core.specs.States.{IsServing, State, sector_of}
use Rattle.layer_session.proofs.Equal.{false_true, some_none, some_same}
use Rattle.seats.specs.Counting.{once_between, times}
use Rattle.script.specs.declared.form.Line.{Line}
use Rattle.script.specs.declared.told.ToldCall.{ToldCall}
use Rattle.script.specs.Transcript.{IsTold, serve_text}
use Rattle.script_session.specs.Faults.{FaultsAreTold, IsFailedChange, IsFaultOf}
use Rattle.script_session.specs.Histories.{Break}
use Rattle.script_session.specs.Told.{Told, failed_by}
use Rattle.turn_lock.specs.Histories.{StartsWith}
use Rattle.turn_lock.specs.Seats.{Known, TableId}
use Rattle.turn_lock.proofs.Fronts.{starts-length}
use Rattle.shared_chain.specs.declared.basis.Basis.{Basis}
use Rattle.shared_chain.specs.declared.basis.Breach.{Breach}
use Rattle.shared_chain.specs.declared.basis.Note.{Note}
use Rattle.shared_chain.specs.declared.basis.Note.TheVariants as notes
use Rattle.shared_chain.specs.declared.basis.Step.{Step}
use Rattle.shared_chain.specs.declared.basis.Step.TheVariants.{Broke, Done}
use Rattle.shared_chain.specs.Bases.{Contains, basis_of, fault_notes, full_notes, notes_in, read_notes}
use Rattle.script_session.specs.Running.{IsEnded, open_by}
use Rattle.shared_chain.specs.Faults.{CountsChange, EndsCounted}
use Rattle.shared_chain.specs.Homes.{session_of}
use Rattle.shared_chain.specs.Laws.{of_both}
use Rattle.shared_chain.specs.Notes.{HasNote}
use Rattle.shared_chain.specs.Shared.{Shared}
use Rattle.shared_chain.specs.Steps.{broke_step, done_steps, merge_breach, open_by as opens_by, steps_of}
use Rattle.shared_chain.specs.Seats.{MergeBreaksAt}
use Rattle.serve_session.specs.Actors.{AreHeard, AreJoined, HasBreach, HasBreacher, IsHeard, IsHeardOf, IsOwned, OwnsAt, first_notes}
use Rattle.serve_session.specs.Served.{AreOutcomes, AreServed, Asking, EachGuest, Has, HasBreaker, HasBroken, IsBreakOf, IsOutcome, IsRefused, IsTranscript, Outcome, SomeGuest, all_told, all_unread, asked_by, entry_of, forms_of, has_no_room, is_broken, is_full, is_misplaced, is_unread, places_in, told_guests, told_of, unread_in}
use Rattle.serve_session.specs.Serving.{drive_from}
use Rattle.serve_session.proofs.Hearing.{nothing}
use Rattle.serve_session.specs.Written.{AreKept}
use Rattle.serve_session.proofs.Guests.{all_told_are, as_many, each_map, some_and, told_count, told_guests_count}

-- ---- histories and their steps

done_same : {x y : Entry} {xs ys : List Step} → ◌≡◌ {A = List Step} (Done x ∷ xs) (Done y ∷ ys) → (x ≡ y) × (xs ≡ ys)
done_same e = (cc, cc)

-- what stands of the steps before a break stands of the history
pub starts_done : (h before : History) (broke : Option Breach) (rest : List Step) → StartsWith (steps_of h broke) (done_steps before ++ rest) → StartsWith h before
starts_done h [] broke rest starts = refl
starts_done [] (x ∷ before) None rest starts = let never : ◌≡◌ {A = List Step} [] (Done x ∷ (done_steps before ++ rest)) = starts in cc
starts_done [] (x ∷ before) (Some b) rest starts = let never : ◌≡◌ {A = List Step} (Broke b ∷ take (length (done_steps before ++ rest)) []) (Done x ∷ (done_steps before ++ rest)) = starts in cc
starts_done (y ∷ h) (x ∷ before) broke rest starts =
    let s = done_same {x = y} {y = x} {xs = take (length (done_steps before ++ rest)) (steps_of h broke)} {ys = done_steps before ++ rest} starts in
    ap₂ (λ a b. a ∷ b) s.0 (starts_done h before broke rest s.1)

-- and one more call
pub starts_more : (h before : History) (broke : Option Breach) (e : Entry) → StartsWith (steps_of h broke) (done_steps before ++ Done e ∷ []) → StartsWith h (before ++ e ∷ [])
starts_more h before broke e starts =
    starts_done h (before ++ e ∷ []) broke [] (subst (λ xs. StartsWith (steps_of h broke) xs) (sym (append-nil (done_steps (before ++ e ∷ [])) ∙ map-append (λ x. Done x) before (e ∷ []))) starts)

-- the break stands behind the whole history
pub broke_last : (h before : History) (broke : Option Breach) (b : Breach) → StartsWith (steps_of h broke) (done_steps before ++ Broke b ∷ []) → (h ≡ before) × (broke ≡ Some b)
broke_last [] [] None b starts = let never : ◌≡◌ {A = List Step} [] (Broke b ∷ []) = starts in cc
broke_last [] [] (Some c) b starts = let e : ◌≡◌ {A = List Step} (Broke c ∷ []) (Broke b ∷ []) = starts in (refl, cc)
broke_last (y ∷ h) [] broke b starts = let never : ◌≡◌ {A = List Step} (Done y ∷ take 0 (steps_of h broke)) (Broke b ∷ []) = starts in cc
broke_last [] (x ∷ before) None b starts = let never : ◌≡◌ {A = List Step} [] (Done x ∷ (done_steps before ++ Broke b ∷ [])) = starts in cc
broke_last [] (x ∷ before) (Some c) b starts = let never : ◌≡◌ {A = List Step} (Broke c ∷ take (length (done_steps before ++ Broke b ∷ [])) []) (Done x ∷ (done_steps before ++ Broke b ∷ [])) = starts in cc
broke_last (y ∷ h) (x ∷ before) broke b starts =
    let s = done_same {x = y} {y = x} {xs = take (length (done_steps before ++ Broke b ∷ [])) (steps_of h broke)} {ys = done_steps before ++ Broke b ∷ []} starts in
    let rest = broke_last h before broke b s.1 in
    (ap₂ (λ a b. a ∷ b) s.0 rest.0, rest.1)

steps_length : (h : History) (broke : Option Breach) → length h ≤ length (steps_of h broke)
steps_length h broke = omega (arith, length-append (done_steps h) (broke_step broke), length-map h (λ e. Done e))

-- the entry at a place
entry_at : (h before : History) (e d : Entry) → StartsWith h (before ++ e ∷ []) → get_or h (length before) d ≡ e
entry_at h before e d starts =
    let size : length (before ++ e ∷ []) ≡ length before + 1 = length-append before (e ∷ []) in
    sym (get_or-take (length (before ++ e ∷ [])) h (length before) d (omega (arith, size))) ∙ ap (λ xs. get_or xs (length before) d) starts ∙ get_or-append_seam before e [] d

-- ---- what is noted of a chain

module _ (f c : ℕ) where
  no_full : (o : Option ℕ) → HasNote (full_notes o) (notes.ChangeFailed f c) → ⊥
  no_full None h = absurd h
  no_full (Some n) (inl h) = absurd h
  no_full (Some n) (inr h) = absurd h

  no_reads : (failed : ℕ → ℕ) (files : ℕ) → HasNote (read_notes failed files) (notes.ChangeFailed f c) → ⊥
  no_reads failed zero h = absurd h
  no_reads failed (suc i) (inl h) = absurd h
  no_reads failed (suc i) (inr h) = no_reads failed i h

  in_fault : (o : Option StoreFault) → HasNote (fault_notes o) (notes.ChangeFailed f c) → o ≡ Some (fault_of f c)
  in_fault None h = absurd h
  in_fault (Some x) (inl h) = ap₂ (λ file count. Some (fault_of file count)) h.0 (sym h.1)
  in_fault (Some x) (inr h) = absurd h

  pub change_noted : (disk : Disk) (broken : Option StoreFault) (full : Option ℕ) → HasNote (notes_in disk broken full) (notes.ChangeFailed f c) → broken ≡ Some (fault_of f c)
  change_noted disk broken full h = one (of_both (full_notes full) (fault_notes broken ++ reads) n h)
    where
      n : Note
      n = notes.ChangeFailed f c

      reads : List Note
      reads = read_notes disk.failed_reads disk.files

      three : HasNote (fault_notes broken) n ⊎ HasNote reads n → broken ≡ Some (fault_of f c)
      three (inl k) = in_fault broken k
      three (inr k) = absurd (no_reads disk.failed_reads disk.files k)

      one : HasNote (full_notes full) n ⊎ HasNote (fault_notes broken ++ reads) n → broken ≡ Some (fault_of f c)
      one (inl k) = absurd (no_full full k)
      one (inr k) = three (of_both (fault_notes broken) reads n k)

  read_full : (o : Option ℕ) → HasNote (full_notes o) (notes.ReadFailed f c) → ⊥
  read_full None h = absurd h
  read_full (Some n) (inl h) = absurd h
  read_full (Some n) (inr h) = absurd h

  read_fault : (o : Option StoreFault) → HasNote (fault_notes o) (notes.ReadFailed f c) → ⊥
  read_fault None h = absurd h
  read_fault (Some x) (inl h) = absurd h
  read_fault (Some x) (inr h) = absurd h

  in_reads : (failed : ℕ → ℕ) (files : ℕ) → HasNote (read_notes failed files) (notes.ReadFailed f c) → (f < files) × (c ≤ failed f)
  in_reads failed zero h = absurd h
  in_reads failed (suc i) (inl h) = (omega (arith, h.0), subst (λ k. c ≤ failed k) h.0 h.1)
  in_reads failed (suc i) (inr h) = let k = in_reads failed i h in (omega (arith, k.0), k.1)

  pub read_noted : (disk : Disk) (broken : Option StoreFault) (full : Option ℕ) → HasNote (notes_in disk broken full) (notes.ReadFailed f c) → (f < disk.files) × (c ≤ disk.failed_reads f)
  read_noted disk broken full h = one (of_both (full_notes full) (fault_notes broken ++ reads) n h)
    where
      n : Note
      n = notes.ReadFailed f c

      reads : List Note
      reads = read_notes disk.failed_reads disk.files

      three : HasNote (fault_notes broken) n ⊎ HasNote reads n → (f < disk.files) × (c ≤ disk.failed_reads f)
      three (inl k) = absurd (read_fault broken k)
      three (inr k) = in_reads disk.failed_reads disk.files k

      one : HasNote (full_notes full) n ⊎ HasNote (fault_notes broken ++ reads) n → (f < disk.files) × (c ≤ disk.failed_reads f)
      one (inl k) = absurd (read_full full k)
      one (inr k) = three (of_both (fault_notes broken) reads n k)

-- each file has had no fewer than no failed reads
none_noted : (failed : ℕ → ℕ) (files f : ℕ) → f < files → HasNote (read_notes failed files) (notes.ReadFailed f 0)
none_noted failed zero f less = absurd (omega (arith, less))
none_noted failed (suc i) f less = go (λ l. none_noted failed i f l) (cases i f)
  where
    cases : (a b : ℕ) → (a ≡ b) ⊎ (b < a) ⊎ (a < b)
    cases zero zero = inl refl
    cases zero (suc b) = inr (inr (omega arith))
    cases (suc a) zero = inr (inl (omega arith))
    cases (suc a) (suc b) = up (cases a b)
      where
        up : (a ≡ b) ⊎ (b < a) ⊎ (a < b) → (suc a ≡ suc b) ⊎ (suc b < suc a) ⊎ (suc a < suc b)
        up (inl e) = inl (omega (arith, e))
        up (inr (inl l)) = inr (inl (omega (arith, l)))
        up (inr (inr l)) = inr (inr (omega (arith, l)))

    go : (f < i → HasNote (read_notes failed i) (notes.ReadFailed f 0)) → (i ≡ f) ⊎ (f < i) ⊎ (i < f) → HasNote (read_notes failed (suc i)) (notes.ReadFailed f 0)
    go below (inl e) = inl (e, omega arith)
    go below (inr (inl l)) = inr (below l)
    go below (inr (inr l)) = absurd (omega (arith, l, less))

pub begins_noted : (disk : Disk) (f : ℕ) → f < disk.files → HasNote (notes_in disk None None) (notes.ReadFailed f 0)
begins_noted disk f less = none_noted disk.failed_reads disk.files f less

-- ---- the end of a session

pub reads_stay : (s : Session) (after : Disk) (closed : Result (Unit {0}) StoreFault) → IsEnded s after closed → after.failed_reads ≡ s.disk.failed_reads
reads_stay s after closed e = go s.broken refl closed refl
  where
    go : (o : Option StoreFault) → s.broken ≡ o → (r : Result (Unit {0}) StoreFault) → closed ≡ r → after.failed_reads ≡ s.disk.failed_reads
    go (Some f) is r same = ap (λ (d : Disk). d.failed_reads) (subst (λ o. IfSome o (λ f. (closed ≡ Err f) × (after ≡ s.disk))) is e.broken).1
    go None is (Ok done) same = ap (λ (d : Disk). d.failed_reads) (subst (λ r. OnOk r (after ≡ record (s.disk) { told = after.told })) same (e.counts is))
    go None is (Err f) same = ap (λ (d : Disk). d.failed_reads) (subst (λ r. IfErr r (SomeChangeFailed (IsOfSession s.layers) s.disk after)) same (e.fails is)).fails.stays

pub files_stay : (s : Session) (after : Disk) (closed : Result (Unit {0}) StoreFault) → IsEnded s after closed → after.files ≡ s.disk.files
files_stay s after closed e = go s.broken refl closed refl
  where
    go : (o : Option StoreFault) → s.broken ≡ o → (r : Result (Unit {0}) StoreFault) → closed ≡ r → after.files ≡ s.disk.files
    go (Some f) is r same = ap (λ (d : Disk). d.files) (subst (λ o. IfSome o (λ f. (closed ≡ Err f) × (after ≡ s.disk))) is e.broken).1
    go None is (Ok done) same = ap (λ (d : Disk). d.files) (subst (λ r. OnOk r (after ≡ record (s.disk) { told = after.told })) same (e.counts is))
    go None is (Err f) same = ap (λ (d : Disk). d.files) (subst (λ r. IfErr r (SomeChangeFailed (IsOfSession s.layers) s.disk after)) same (e.fails is)).fails.stays

pub broken_tells : (s : Session) (after : Disk) (closed : Result (Unit {0}) StoreFault) (f : StoreFault) → IsEnded s after closed → s.broken ≡ Some f → failed_by closed ≡ Some f
broken_tells s after closed f e is = ap failed_by (subst (λ o. IfSome o (λ f. (closed ≡ Err f) × (after ≡ s.disk))) is e.broken).0

-- ---- the call that broke a session

pub to_break : (b : Breach) (guest number : ℕ) (calls : List Call) (outcomes : List Outcome) → HasBreacher b guest number calls outcomes → (k : Break) × HasBreaker k calls outcomes × ((s : ℕ) → open_by (Some k) s ≡ false → opens_by (Some b) s ≡ false)
to_break b guest number calls [] h = absurd h
to_break b guest number [] (o ∷ outcomes) h = absurd h
to_break b guest number (c ∷ calls) (o ∷ outcomes) (inr h) = let k = to_break b guest (number + 1) calls outcomes h in (k.0, inr k.1, k.2)
to_break b guest number (c ∷ calls) (o ∷ outcomes) (inl h) = let k = of_one o h in (k.0, inl k.1, k.2)
  where
    of_one : (o : Outcome) → HasBreach guest number c b o → (k : Break) × HasBroken c k o × ((s : ℕ) → open_by (Some k) s ≡ false → opens_by (Some b) s ≡ false)
    of_one (Ok done) h = absurd h
    of_one (Err (Broken file count)) h = (record { fault = fault_of file count; call = Some c }, (refl, refl), h.2)
    of_one (Err EmptyRange) h = absurd h
    of_one (Err (OutOfRange x y z)) h = absurd h
    of_one (Err (TooLong x y)) h = absurd h
    of_one (Err ReadOnly) h = absurd h
    of_one (Err (Spent t)) h = absurd h
    of_one (Err (FileFull next)) h = absurd h
    of_one (Err (ReadFault file count)) h = absurd h
    of_one (Err NoMerge) h = absurd h
    of_one (Err (Stale taken now)) h = absurd h
    of_one (Err (NotYet stripe)) h = absurd h
    of_one (Err (Abandoned file count)) h = absurd h
    of_one (Err (NoStripe stripe stripes)) h = absurd h
    of_one (Err NoPiece) h = absurd h
    of_one (Err NoRoom) h = absurd h

some_break : (b : Breach) (asking : Asking) (guest : ℕ) (guests : List (List Outcome)) → SomeGuest (λ g os. HasBreacher b g 1 (asking.calls g) os) guest guests
    → (k : Break) × SomeGuest (λ g os. HasBreaker k (asking.calls g) os) guest guests × ((s : ℕ) → open_by (Some k) s ≡ false → opens_by (Some b) s ≡ false)
some_break b asking guest [] h = absurd h
some_break b asking guest (os ∷ guests) (inl h) = let k = to_break b guest 1 (asking.calls guest) os h in (k.0, inl k.1, k.2)
some_break b asking guest (os ∷ guests) (inr h) = let k = some_break b asking (guest + 1) guests h in (k.0, inr k.1, k.2)

-- ---- guests, by their numbers

-- one of them has this list of what it was told
some_told : (Q : ℕ → List Outcome → Type 0) (names : List (List ℕ)) (lines : List Line) (g0 : ℕ) (guests : List (List Outcome)) → SomeGuest Q g0 guests → EachGuest (λ g os. length os ≡ length ((asked_by lines).calls g)) g0 guests
    → (g : ℕ) × (os : List Outcome) × Q g os × (g0 ≤ g) × (g < g0 + length guests) × (length (get_or (told_guests names g0 lines guests) (g - g0) []) ≡ length os)
some_told Q names lines g0 [] h whole = absurd h
some_told Q names lines g0 (os ∷ guests) (inl q) whole =
    (g0, os, q, omega arith, omega arith, ap (λ n. length (get_or (told_guests names g0 lines (os ∷ guests)) n [])) {x = g0 - g0} {y = 0} (omega arith) ∙ told_count names (forms_of g0 lines) os (whole.0 ∙ as_many (forms_of g0 lines)))
some_told Q names lines g0 (os ∷ guests) (inr h) whole =
    let r = some_told Q names lines (g0 + 1) guests h whole.1 in
    (r.0, r.1, r.2, omega (arith, r.3), omega (arith, r.4), ap (λ n. length (get_or (told_guests names g0 lines (os ∷ guests)) n [])) {x = r.0 - g0} {y = suc (r.0 - (g0 + 1))} (omega (arith, r.3)) ∙ r.5)

module _ {S T : Type 0} (disk : S → Disk) (first : Chain S Ledger T) where
  -- the call that stands at a place
  record At (seen : List Step) (guest number : ℕ) (outcomes : List Outcome) (p : ℕ) : Type 0 where
    no : ℕ
    call : Call
    before : History
    low : number ≤ no
    high : no < number + length outcomes
    begins : StartsWith seen (done_steps before ++ Done (entry_of guest no call) ∷ [])
    place_is : p ≡ length before + 1

  heard_at : (tells : Bool) (seat : Known Step (Basis S T)) (guest number p : ℕ) (calls : List Call) (outcomes : List Outcome) → AreHeard disk first tells seat guest number calls outcomes → Has p (places_in outcomes) → At seat.seen guest number outcomes p
  heard_at tells seat guest number p calls [] h has = absurd has
  heard_at tells seat guest number p [] (o ∷ outcomes) h has = absurd h
  heard_at tells seat guest number p (c ∷ calls) (Err x ∷ outcomes) h has =
      let a = heard_at tells seat guest (number + 1) p calls outcomes h.1 has in
      record { no = a.no; call = a.call; before = a.before; low = omega (arith, a.low); high = omega (arith, a.high); begins = a.begins; place_is = a.place_is }
  heard_at tells seat guest number p (c ∷ calls) (Ok done ∷ outcomes) h (inl e) =
      record { no = number; call = c; before = h.0.before; low = omega arith; high = omega arith; begins = h.0.begins; place_is = e ∙ h.0.place_is }
  heard_at tells seat guest number p (c ∷ calls) (Ok done ∷ outcomes) h (inr has) =
      let a = heard_at tells seat guest (number + 1) p calls outcomes h.1 has in
      record { no = a.no; call = a.call; before = a.before; low = omega (arith, a.low); high = omega (arith, a.high); begins = a.begins; place_is = a.place_is }

  module _ (merges : Bool) (lock : TableId) (asking : Asking) (seat : Known Step (Basis S T)) (guests : List (List Outcome)) (j : AreJoined disk first merges lock asking seat guests)
      (v : Shared (Chain S Ledger T)) (broke : Option Breach) (seen_is : steps_of v.chain.recorder broke ≡ seat.seen) (basis : Contains (basis_of disk v) seat.basis) (places : (p : ℕ) → times p seat.mine ≡ once_between p 1 (length seat.seen + 1)) (refusals : seat.refusals ≡ 0) (few : v.chain.events < 2 ^ 63) where
    abbrev h : History
    h = v.chain.recorder

    pub first_is : v.first ≡ first
    first_is = some_same (basis.first ∙ j.knows.began)

    -- what a seat has seen is the history, with what broke the session
    as_history : {xs : List Step} → StartsWith seat.seen xs → StartsWith (steps_of h broke) xs
    as_history {xs = xs} starts = subst (λ s. StartsWith s xs) (sym seen_is) starts

    own : (p : ℕ) → 1 ≤ p → p ≤ length seat.seen → 0 < times p seat.mine
    own p low high = omega (arith, places p, between)
      where
        between : once_between p 1 (length seat.seen + 1) ≡ 1
        between = grind (arith, low, high)

    abbrev Owned : ℕ → ℕ → List Outcome → Type 0
    Owned p guest outcomes = OwnsAt seat.seen p guest (asking.calls guest) outcomes

    abbrev Heard : ℕ → List Outcome → Type 0
    Heard guest outcomes = AreHeard disk first asking.tells_want seat guest 1 (asking.calls guest) outcomes

    owner : (p : ℕ) → 1 ≤ p → p ≤ length seat.seen → IsOwned merges seat.seen p asking guests
    owner p low high = j.owns p (own p low high)

    seen_length : length h ≤ length seat.seen
    seen_length = omega (arith, steps_length h broke, ap length seen_is)

    -- in the history itself no break stands
    not_broken : (p guest : ℕ) (calls : List Call) (outcomes : List Outcome) → p ≤ length h → OwnsAt seat.seen p guest calls outcomes → Has p (places_in outcomes)
    not_broken p guest calls outcomes high (inl has) = has
    not_broken p guest calls outcomes high (inr b) =
        let last = broke_last h b.before broke b.breach (as_history b.begins) in absurd (omega (arith, b.place_is, high, ap length last.0))

    no_merge_break : (p : ℕ) → p ≤ length h → MergeBreaksAt seat.seen p → ⊥
    no_merge_break p high b = let last = broke_last h b.before broke merge_breach (as_history b.begins) in absurd (omega (arith, b.place_is, high, ap length last.0))

    each_unit : (g : ℕ) (gs : List (List Outcome)) → EachGuest (λ g os. Unit {0}) g gs
    each_unit g [] = tt
    each_unit g (os ∷ gs) = (tt, each_unit (g + 1) gs)

    guest_place : (p : ℕ) → p ≤ length h → SomeGuest (Owned p) 1 guests → SomeGuest (λ guest outcomes. Has p (places_in outcomes)) 1 guests
    guest_place p high own = some_and (λ g os. Unit {0}) (Owned p) (λ guest outcomes. Has p (places_in outcomes)) 1 guests (λ g os u o. not_broken p g (asking.calls g) os high o) (each_unit 1 guests) own

    pub all_places : (p : ℕ) → 1 ≤ p → p ≤ length h → SomeGuest (λ guest outcomes. Has p (places_in outcomes)) 1 guests
    all_places p low high = go merges (owner p low (omega (arith, high, seen_length)))
      where
        go : (m : Bool) → IsOwned m seat.seen p asking guests → SomeGuest (λ guest outcomes. Has p (places_in outcomes)) 1 guests
        go false one = guest_place p high one
        go true (inl one) = guest_place p high one
        go true (inr breaks) = absurd (no_merge_break p high breaks)

    -- behind it what broke the session stands: a guest's call, or a step of the merge
    abbrev IsBreacherOf : Bool → Breach → Type 0
    IsBreacherOf false b = SomeGuest (λ guest outcomes. HasBreacher b guest 1 (asking.calls guest) outcomes) 1 guests
    IsBreacherOf true b = SomeGuest (λ guest outcomes. HasBreacher b guest 1 (asking.calls guest) outcomes) 1 guests ⊎ (b ≡ merge_breach)

    module _ (b : Breach) (is : broke ≡ Some b) where
      size : length seat.seen ≡ length h + 1
      size = sym (ap length seen_is) ∙ ap (λ o. length (steps_of h o)) is ∙ length-append (done_steps h) (Broke b ∷ []) ∙ ap (λ n. n + 1) (length-map h (λ e. Done e))

      by_owner : (g : ℕ) (os : List Outcome) → Heard g os → Owned (length h + 1) g os → HasBreacher b g 1 (asking.calls g) os
      by_owner g os heard (inl has) =
          let a = heard_at asking.tells_want seat g 1 (length h + 1) (asking.calls g) os heard has in
          let starts = starts-length h (a.before ++ entry_of g a.no a.call ∷ []) (starts_more h a.before broke (entry_of g a.no a.call) (as_history a.begins)) in
          absurd (omega (arith, a.place_is, starts, length-append a.before (entry_of g a.no a.call ∷ [])))
      by_owner g os heard (inr x) =
          let last = broke_last h x.before broke x.breach (as_history x.begins) in
          subst (λ c. HasBreacher c g 1 (asking.calls g) os) (some_same (sym last.1 ∙ is)) x.breaker

      by_guest : SomeGuest (Owned (length h + 1)) 1 guests → SomeGuest (λ guest outcomes. HasBreacher b guest 1 (asking.calls guest) outcomes) 1 guests
      by_guest own = some_and Heard (Owned (length h + 1)) (λ guest outcomes. HasBreacher b guest 1 (asking.calls guest) outcomes) 1 guests by_owner j.heard own

      breacher_is : IsBreacherOf merges b
      breacher_is = go merges (owner (length h + 1) (omega arith) (omega (arith, size)))
        where
          go : (m : Bool) → IsOwned m seat.seen (length h + 1) asking guests → IsBreacherOf m b
          go false one = by_guest one
          go true (inl one) = inl (by_guest one)
          go true (inr x) = let last = broke_last h x.before broke merge_breach (as_history x.begins) in inr (some_same (sym is ∙ last.1))

    -- and which it was
    pub record Which (closed : Result (Unit {0}) StoreFault) : Type 0 where
      pub broken : Option Break
      pub by : IfSome broken (IsBreakOf merges asking guests (failed_by closed))
      pub opens : (s : ℕ) → open_by broken s ≡ false → opens_by v.broke s ≡ false

    -- the end of the merge may have broken the session behind all calls
    module _ (closed : Result (Unit {0}) StoreFault) (errs : IfSome v.broke (λ b. IsErr closed)) (later : (v.broke ≡ broke) ⊎ ((merges ≡ true) × (broke ≡ None) × (v.broke ≡ Some merge_breach))) where
      abbrev Found : Option Breach → Type 0
      Found o = (broken : Option Break) × IfSome broken (IsBreakOf merges asking guests (failed_by closed)) × ((s : ℕ) → open_by broken s ≡ false → opens_by o s ≡ false)

      by_merge : merges ≡ true → IsErr closed → Found (Some merge_breach)
      by_merge yes_ err = go closed err refl
        where
          go : (r : Result (Unit {0}) StoreFault) → IsErr r → closed ≡ r → Found (Some merge_breach)
          go (Ok done) never is = absurd (false_true never)
          go (Err f) some is = (
            Some (record { fault = f; call = None }),
            subst (λ m. IsBreakOf m asking guests (failed_by closed) (record { fault = f; call = None })) (sym yes_) (inr (refl, ap failed_by is)),
            λ s e. nothing 0 s,
          )

      by_breach : (b : Breach) → IsErr closed → (m : Bool) → merges ≡ m → IsBreacherOf m b → Found (Some b)
      by_breach b err false is k =
          let w = some_break b asking 1 guests k in
          (Some w.0, subst (λ m. IsBreakOf m asking guests (failed_by closed) w.0) (sym is) w.1, w.2)
      by_breach b err true is (inl k) =
          let w = some_break b asking 1 guests k in
          (Some w.0, subst (λ m. IsBreakOf m asking guests (failed_by closed) w.0) (sym is) (inl w.1), w.2)
      by_breach b err true is (inr k) = subst (λ c. Found (Some c)) (sym k) (by_merge is err)

      find : (o : Option Breach) → v.broke ≡ o → Found o
      find None is = (None, tt, λ s e. refl)
      find (Some b) is = by_later later
        where
          err : IsErr closed
          err = subst (λ o. IfSome o (λ b. IsErr closed)) is errs

          by_later : (v.broke ≡ broke) ⊎ ((merges ≡ true) × (broke ≡ None) × (v.broke ≡ Some merge_breach)) → Found (Some b)
          by_later (inl same) = by_breach b err merges refl (breacher_is b (sym same ∙ is))
          by_later (inr k) = subst (λ c. Found (Some c)) (some_same (sym k.2 ∙ is)) (by_merge k.0 err)

      pub which : Which closed
      which = let w = find v.broke refl in record { broken = w.0; by = w.1; opens = w.2 }

    -- ---- reads that failed by a reader

    abbrev IsOfStore : StoreFault → Type 0
    IsOfStore fault = fault.file < (disk first.store).files

    unread_heard : (guest number : ℕ) (calls : List Call) (outcomes : List Outcome) → AreHeard disk first asking.tells_want seat guest number calls outcomes → AllByRecursion IsOfStore (unread_in outcomes)
    unread_heard guest number calls [] k = tt
    unread_heard guest number [] (o ∷ outcomes) k = absurd k
    unread_heard guest number (c ∷ calls) (Ok (place, Ok reply) ∷ outcomes) k = unread_heard guest (number + 1) calls outcomes k.1
    unread_heard guest number (c ∷ calls) (Ok (place, Err fault) ∷ outcomes) k = (k.0.unread.1, unread_heard guest (number + 1) calls outcomes k.1)
    unread_heard guest number (c ∷ calls) (Err x ∷ outcomes) k = unread_heard guest (number + 1) calls outcomes k.1

    pub unread_of_store : AllByRecursion (λ fault. fault.file < (disk first.store).files) (all_unread guests)
    unread_of_store = all_told_are IsOfStore unread_in 1 guests (each_map Heard (λ g os. AllByRecursion IsOfStore (unread_in os)) 1 guests (λ g os. unread_heard g 1 (asking.calls g) os) j.heard)

    -- ---- what each was told

    module _ (after : Disk) (closed : Result (Unit {0}) StoreFault) (ended : IsEnded (session_of disk v.chain) after closed) (w : Which closed) where
      broken_is : (f c : ℕ) → HasNote seat.basis.notes (notes.ChangeFailed f c) → failed_by closed ≡ Some (fault_of f c)
      broken_is f c noted =
          broken_tells (session_of disk v.chain) after closed (fault_of f c) ended (change_noted f c (disk v.chain.store) v.chain.broken v.full (basis.notes (notes.ChangeFailed f c) noted))

      -- there were too few turns and events for that
      never_spent : (t : ℕ) → (2 ^ 63 ≤ t) × ((0 < seat.refusals) ⊎ (t ≤ seat.basis.events)) → ⊥
      never_spent t k = by_count k.1
        where
          by_count : (0 < seat.refusals) ⊎ (t ≤ seat.basis.events) → ⊥
          by_count (inl some) = absurd (omega (arith, some, refusals))
          by_count (inr many) = absurd (omega (arith, many, k.0, basis.events, few))

      module _ (from : State) (size : sector_of from ≡ 512) (trace : Trace) (store_told : (disk first.store).told ≡ Some trace) (serving : IsServing first.layers from trace) (empty : from.history ≡ []) where
        refused_by : (noted_call : Call) (x : ChainRefusal) → IsHeardOf disk first asking.tells_want seat noted_call x → IsRefused (drive_from first from) (failed_by closed) asking.tells_want noted_call x
        refused_by call EmptyRange k = is_misplaced EmptyRange k
        refused_by call (OutOfRange a b c) k = is_misplaced (OutOfRange a b c) k
        refused_by call (TooLong a b) k = is_misplaced (TooLong a b) k
        refused_by call ReadOnly k = is_misplaced ReadOnly k
        refused_by call (Broken file count) k = is_broken (fault_of file count) (broken_is file count k)
        refused_by call (Spent t) k = absurd (never_spent t k)
        refused_by call (FileFull next) k = is_full next k.0 (k.2 trace store_told from serving empty)
        refused_by call (ReadFault file count) k = is_unread file count k.0
        refused_by call NoMerge k = absurd k
        refused_by call (Stale taken now) k = absurd k
        refused_by call (NotYet stripe) k = absurd k
        refused_by call (Abandoned file count) k = absurd k
        refused_by call (NoStripe stripe stripes) k = absurd k
        refused_by call NoPiece k = absurd k
        refused_by call NoRoom k = has_no_room k

        outcome_is : (guest number : ℕ) (call : Call) (o : Outcome) → IsHeard disk first asking.tells_want seat guest number call o → IsOutcome (drive_from first from) h (failed_by closed) asking.tells_want guest number call o
        outcome_is guest number call (Ok done) k = record {
          before = k.before;
          begins = starts_more h k.before broke (entry_of guest number call) (as_history k.begins);
          place_is = k.place_is;
          placed = k.placed;
          reply_is = IfOk-weaker done.1 _ _ (λ r replies. sym (replies trace store_told from serving empty) ∙ ap (λ z. reply (replay z from.opening k.before) call) size) k.replies;
          unread = IfErr-weaker done.1 _ _ (λ fault unread. unread.0) k.unread;
        }
        outcome_is guest number call (Err x) k = refused_by call x k

        outcomes_are : (guest number : ℕ) (calls : List Call) (outcomes : List Outcome) → AreHeard disk first asking.tells_want seat guest number calls outcomes → AreOutcomes (drive_from first from) h (failed_by closed) asking.tells_want guest number calls outcomes
        outcomes_are guest number calls [] k = tt
        outcomes_are guest number [] (o ∷ outcomes) k = absurd k
        outcomes_are guest number (c ∷ calls) (o ∷ outcomes) k = (outcome_is guest number c o k.0, outcomes_are guest (number + 1) calls outcomes k.1)

        pub served : AreServed merges (drive_from first from) asking guests h (failed_by closed) w.broken
        served = record {
          told = each_map Heard (λ guest outcomes. AreOutcomes (drive_from first from) h (failed_by closed) asking.tells_want guest 1 (asking.calls guest) outcomes) 1 guests (λ g os. outcomes_are g 1 (asking.calls g) os) j.heard;
          order = j.order;
          unread = j.unread;
          all = all_places;
          breaker = w.by;
        }

      pub served_all : first.layers.geometry.sector ≡ 512 → WhereTold (disk first.store).told (λ trace. (from : State) → IsServing first.layers from trace → from.history ≡ [] → AreServed merges (drive_from first from) asking guests h (failed_by closed) w.broken)
      served_all sector trace store_told from serving empty = served from (sym (ap (λ (g : Geometry). g.sector) serving.geometry) ∙ sector) trace store_told serving empty

      -- ---- what was told of faults

      module _ (counted : EndsCounted (disk first.store) after v.fault closed) where
        reads_are : after.failed_reads ≡ (disk v.chain.store).failed_reads
        reads_are = reads_stay (session_of disk v.chain) after closed ended

        abbrev IsFault : Told → Type 0
        IsFault t = IfErr t (IsFaultOf (disk first.store).files after.failed_reads (failed_by closed))

        read_told : (call : Call) (file count : ℕ) → (disk v.chain.store).files ≡ (disk first.store).files → IsHeardOf disk first asking.tells_want seat call (ReadFault file count) → IsFault (Err (ReadFault file count))
        read_told call file count files k =
            let n = read_noted file count (disk v.chain.store) v.chain.broken v.full (basis.notes (notes.ReadFailed file count) k.1) in
            let there : file < (disk first.store).files = subst (λ m. file < m) files n.0 in
            (there, some count k.2 there, subst (λ (r : ℕ → ℕ). count ≤ r file) (sym reads_are) n.1)
          where
            some : (count : ℕ) → (HasNote (first_notes disk first) (notes.ReadFailed file count) → 2 ^ 64 - 1 ≤ count) → file < (disk first.store).files → 0 < count
            some zero end there = absurd (omega (arith, end (begins_noted (disk first.store) file there)))
            some (suc n) end there = omega arith

        files : (disk v.chain.store).files ≡ (disk first.store).files
        files = sym (files_stay (session_of disk v.chain) after closed ended) ∙ counted.files

        fault_told : (call : Call) (x : ChainRefusal) → IsHeardOf disk first asking.tells_want seat call x → IsFault (Err x)
        fault_told call EmptyRange k = tt
        fault_told call (OutOfRange a b c) k = tt
        fault_told call (TooLong a b) k = tt
        fault_told call ReadOnly k = tt
        fault_told call (Broken file count) k = broken_is file count k
        fault_told call (Spent t) k = tt
        fault_told call (FileFull next) k = tt
        fault_told call (ReadFault file count) k = read_told call file count files k
        fault_told call NoMerge k = tt
        fault_told call (Stale taken now) k = tt
        fault_told call (NotYet stripe) k = tt
        fault_told call (Abandoned file count) k = tt
        fault_told call (NoStripe stripe stripes) k = tt
        fault_told call NoPiece k = tt
        fault_told call NoRoom k = tt

        faults_heard : (guest number : ℕ) (calls : List Call) (outcomes : List Outcome) → AreHeard disk first asking.tells_want seat guest number calls outcomes → AllByRecursion IsFault (flat_map told_of outcomes)
        faults_heard guest number calls [] k = tt
        faults_heard guest number [] (o ∷ outcomes) k = absurd k
        faults_heard guest number (c ∷ calls) (Ok (place, Ok reply) ∷ outcomes) k = (tt, faults_heard guest (number + 1) calls outcomes k.1)
        faults_heard guest number (c ∷ calls) (Ok (place, Err fault) ∷ outcomes) k = faults_heard guest (number + 1) calls outcomes k.1
        faults_heard guest number (c ∷ calls) (Err x ∷ outcomes) k = (fault_told c x k.0, faults_heard guest (number + 1) calls outcomes k.1)

        pub faults_told : FaultsAreTold (all_told guests) (failed_by closed) (disk first.store).files (disk first.store).failed_changes after.failed_reads after.failed_changes
        faults_told = record {
          each = all_told_are IsFault (flat_map told_of) 1 guests (each_map Heard (λ g os. AllByRecursion IsFault (flat_map told_of os)) 1 guests (λ g os. faults_heard g 1 (asking.calls g) os) j.heard);
          end = end closed counted.end;
          none = none closed counted.none;
        }
          where
            end : (r : Result (Unit {0}) StoreFault) → IfErr r (CountsChange after) → IfSome (failed_by r) (IsFailedChange (disk first.store).files after.failed_changes)
            end (Ok done) k = tt
            end (Err f) k = (subst (λ n. f.file < n) counted.files k.0, k.1, k.2)

            none : (r : Result (Unit {0}) StoreFault) → OnOk r (after.failed_changes ≡ (disk first.store).failed_changes) → failed_by r ≡ None → after.failed_changes ≡ (disk first.store).failed_changes
            none (Ok done) k e = k
            none (Err f) k e = absurd (some_none e)

  -- ---- the transcript

  module _ (merges : Bool) (lock : TableId) (names : List (List ℕ)) (lines : List Line) (seat : Known Step (Basis S T)) (told : List (List ToldCall)) (short : Bool) (guests : List (List Outcome)) (j : AreJoined disk first merges lock (asked_by lines) seat guests) (words : AreKept names lines told short guests)
      (v : Shared (Chain S Ledger T)) (broke : Option Breach) (seen_is : steps_of v.chain.recorder broke ≡ seat.seen) (basis : Contains (basis_of disk v) seat.basis) (places : (p : ℕ) → times p seat.mine ≡ once_between p 1 (length seat.seen + 1)) (refusals : seat.refusals ≡ 0) (few : v.chain.events < 2 ^ 63) where
    abbrev HeardBy : ℕ → List Outcome → Type 0
    HeardBy guest outcomes = AreHeard disk first false seat guest 1 ((asked_by lines).calls guest) outcomes

    pub all_called : short ≡ false → All (IsTold told) v.chain.recorder
    all_called memory i d within =
        let k = words.kept memory in
        let placed = all_places merges lock (asked_by lines) seat guests j v broke seen_is basis places refusals few (i + 1) (omega arith) (omega (arith, within)) in
        let o = some_told (λ g os. Has (i + 1) (places_in os) × HeardBy g os) names lines 1 guests (some_and HeardBy (λ g os. Has (i + 1) (places_in os)) (λ g os. Has (i + 1) (places_in os) × HeardBy g os) 1 guests (λ g os a b. (b, a)) j.heard placed) k.0 in
        let a = heard_at false seat o.0 1 (i + 1) ((asked_by lines).calls o.0) o.1 o.2.1 o.2.0 in
        let starts = starts_more v.chain.recorder a.before broke (entry_of o.0 a.no a.call) (as_history merges lock (asked_by lines) seat guests j v broke seen_is basis places refusals few a.begins) in
        let is : get_or v.chain.recorder i d ≡ entry_of o.0 a.no a.call = ap (λ n. get_or v.chain.recorder n d) {x = i} {y = length a.before} (omega (arith, a.place_is)) ∙ entry_at v.chain.recorder a.before (entry_of o.0 a.no a.call) d starts in
        subst (IsTold told) (sym is) (subst (λ ts. IsTold ts (entry_of o.0 a.no a.call)) (sym k.1) (record {
          lowest_guest = o.3;
          highest_guest = omega (arith, o.4, told_guests_count names 1 lines guests);
          lowest_number = a.low;
          highest_number = omega (arith, a.high, o.5);
        }))

pub transcript_is : {Z : Type 0} (names : List (List ℕ)) (lines : List Line) (told : List (List ToldCall)) (short : Bool) (guests : List (List Outcome)) (h : History) → AreKept names lines told short guests → (r : Result (String Z) Want)
    → IfOk r (λ text. (short ≡ false) × (string_bytes text ≡ serve_text h told)) → IfOk r (λ text. IsTranscript names lines guests h (string_bytes text))
transcript_is names lines told short guests h words (Ok text) t = let k = words.kept t.0 in record { whole = k.0; text_is = t.1 ∙ ap (serve_text h) k.1 }
transcript_is names lines told short guests h words (Err e) t = tt
