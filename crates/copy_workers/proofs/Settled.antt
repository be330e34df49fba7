-- A worker's turn that puts a stripe, or passes over it.
use Rattle.std.proofs.Common.{◌≡◌, ◌⊎◌, ◌+◌, ◌<◌, ◌≤◌, ◌==◌, ℕ, Bool, true, false, [], inl, inr, ap₂, Result, Ok, Err, refl, sym, ap, subst, ◌∙◌, arith, ltb-false, ltb-true}
use Rattle.std.specs.Prelude.{◌&&◌, ◌||◌, IfErr, IfOk, if◌then◌else◌, nat_le, nat_lt}
use Rattle.std.proofs.lemmas.Bool.{le-leb, leb-true, lt-ltb}
use Rattle.store_model.specs.Disk.{Disk}
use Rattle.ledger.specs.declared.ledger.Ledger.{Ledger}
use Rattle.guest_model.specs.declared.refusal.ChainRefusal.{ChainRefusal}
use Rattle.guest_model.specs.declared.refusal.ChainRefusal.TheVariants.{Abandoned, Broken, EmptyRange, FileFull, NoMerge, NoPiece, NoRoom, NoStripe, NotYet, OutOfRange, ReadFault, ReadOnly, Spent, Stale, TooLong}
use Rattle.chain_core.specs.declared.chain.Chain.{Chain}
use Rattle.merge_core.specs.Copied.{marks_of}
use Rattle.merge_core.specs.declared.marks.Marks.{Marks}
use Rattle.merge_core.specs.declared.piece.Piece.{Piece}
use Rattle.script_session.specs.StepsLeft.{unstamped}
use Rattle.shared_chain.specs.declared.basis.Basis.{Basis}
use Rattle.shared_chain.specs.declared.basis.Note.TheVariants as notes
use Rattle.shared_chain.specs.declared.basis.Step.{Step}
use Rattle.shared_chain.specs.Bases.{Contains, HasStripe, basis_of, notes_of}
use Rattle.shared_chain.specs.Faults.{fault_after}
use Rattle.shared_chain.specs.Fetched.{WasFetched}
use Rattle.shared_chain.specs.Merging.{IsStepped, MergeStep, StopsFetch, StopsPut, as_answer, copied_behind, copies, finished_behind, most_events, passed_by, passes}
use Rattle.shared_chain.specs.Notes.{HasNote, NotesBy, full_after, noted_in}
use Rattle.shared_chain.specs.Seats.{HasWorked, IsSwept}
use Rattle.shared_chain.specs.Shared.{Shared}
use Rattle.shared_chain.specs.Steps.{broke_after, merge_breach, steps_of}
use Rattle.shared_chain.proofs.Marked.{marked_has}
use Rattle.turn_lock.specs.Histories.{StartsWith}
use Rattle.turn_lock.specs.Seats.{HasTurn, Known, MayUnlock, Out, after_turn}
use Rattle.copy_workers.specs.Settling.{ArePassed, Settles, found_by, not_looked, not_put, range_of, was_passed, was_put}
use Rattle.copy_workers.specs.Sources.{IsHeld}
use Rattle.copy_workers.specs.declared.passing.Passed.{Passed}
use Rattle.copy_workers.proofs.Turns.{has_swept, has_worked, may_turn, stops_turn, told_of, work}

-- ---- a look that passes over none, and then a put

-- a look that passes over none marks none
none_marked : (marks : Marks) (stripe t : ℕ) → copied_behind (passes stripe 0) (Ok tt) marks t ≡ marks_of marks t
none_marked marks stripe t = by_end (nat_lt t marks.stripes)
  where
    none : (a b : Bool) → nat_le stripe t ≡ a → nat_lt t (stripe + 0) ≡ b → (a && b) ≡ false
    none false b e f = refl
    none true false e f = refl
    none true true e f = absurd (let high = leb-true stripe t e in let low = ltb-true t (stripe + 0) f in omega (arith, high, low))

    by_end : (b : Bool) → (if b then ((nat_le stripe t && nat_lt t (stripe + 0)) || marks_of marks t) else marks_of marks t) ≡ marks_of marks t
    by_end true = ap (λ b. b || marks_of marks t) (none (nat_le stripe t) (nat_lt t (stripe + 0)) refl refl)
    by_end false = refl

-- those that are passed over are marked, of those that are kept
passed_mark : (marks : Marks) (stripe n t : ℕ) → t < marks.stripes → stripe ≤ t → t < stripe + n → copied_behind (passes stripe n) (Ok tt) marks t ≡ true
passed_mark marks stripe n t less from to =
    ap₂ (λ a b. if a then b || marks_of marks t else marks_of marks t) (lt-ltb t marks.stripes less) (ap₂ (λ a b. a && b) (le-leb stripe t from) (lt-ltb t (stripe + n) to))

module _ {S T : Type 0} (disk : S → Disk) (old mid new : Shared (Chain S Ledger T)) (stripe : ℕ) (looked : IsStepped disk (passes stripe 0) old mid (Ok tt)) where
  same_marks : (t : ℕ) → marks_of mid.copied t ≡ marks_of old.copied t
  same_marks t = looked.copied t ∙ none_marked old.copied stripe t

  marks_on : (at : ℕ) (answer : Result (Unit {0}) ChainRefusal) (t : ℕ) → copied_behind (copies at) answer mid.copied t ≡ copied_behind (copies at) answer old.copied t
  marks_on at (Ok done) t = ap₂ (λ n b. if nat_lt at n then (t == at) || b else b) looked.stripes (same_marks t)
  marks_on at (Err x) t = same_marks t

  notes_on : (answer : Result ℕ ChainRefusal) → NotesBy answer (notes_of disk mid) (notes_of disk new) → NotesBy answer (notes_of disk old) (notes_of disk new)
  notes_on answer put n = (λ h. there ((put n).0 h), λ h. (put n).1 (back h))
    where
      earlier : HasNote [] n ⊎ HasNote (notes_of disk old) n → HasNote (notes_of disk old) n
      earlier (inl h) = absurd h
      earlier (inr h) = h

      there : HasNote (noted_in answer) n ⊎ HasNote (notes_of disk mid) n → HasNote (noted_in answer) n ⊎ HasNote (notes_of disk old) n
      there (inl h) = inl h
      there (inr h) = inr (earlier ((looked.noted n).0 h))

      back : HasNote (noted_in answer) n ⊎ HasNote (notes_of disk old) n → HasNote (noted_in answer) n ⊎ HasNote (notes_of disk mid) n
      back (inl h) = inl h
      back (inr h) = inr ((looked.noted n).1 (inr h))

  stepped_on : (at : ℕ) (answer : Result (Unit {0}) ChainRefusal) → IsStepped disk (copies at) mid new answer → IsStepped disk (copies at) old new answer
  stepped_on at answer put = record {
    first = put.first ∙ looked.first;
    history = put.history ∙ looked.history;
    broke = put.broke ∙ ap (λ b. broke_after b merge_breach (as_answer answer)) looked.broke;
    fault = put.fault ∙ ap (λ f. fault_after f (as_answer answer)) looked.fault;
    full = put.full ∙ ap (λ f. full_after f (as_answer answer)) looked.full;
    later = (let a = looked.later in let b = put.later in omega (arith, a, b));
    few = (let a = looked.few in let b = put.few in omega (arith, a, b));
    stripes = put.stripes ∙ looked.stripes;
    copied = λ t. put.copied t ∙ marks_on at answer t;
    finished = put.finished ∙ ap (λ f. finished_behind (copies at) answer f) looked.finished;
    noted = notes_on (as_answer answer) put.noted;
  }

  stops_on : (piece : Piece) (x : ChainRefusal) → StopsPut disk piece mid new x → StopsPut disk piece old new x
  stops_on piece (FileFull next) h = h
  stops_on piece (Stale taken at) h = h
  stops_on piece NoMerge h = h
  stops_on piece (NoStripe s n) h = h
  stops_on piece (Spent t) h = h
  stops_on piece (ReadFault file count) h = (h.0, λ was. h.1 ((looked.noted (notes.ReadFailed file count)).1 (inr was)))
  stops_on piece (Broken file count) h = h
  stops_on piece EmptyRange h = absurd h
  stops_on piece (OutOfRange a b c) h = absurd h
  stops_on piece (TooLong a b) h = absurd h
  stops_on piece ReadOnly h = absurd h
  stops_on piece (NotYet s) h = absurd h
  stops_on piece (Abandoned file count) h = absurd h
  stops_on piece NoPiece h = absurd h
  stops_on piece NoRoom h = absurd h

  fetched_on : (piece : Piece) → WasFetched disk (steps_of old.chain.recorder old.broke) old.first piece → WasFetched disk (steps_of mid.chain.recorder mid.broke) mid.first piece
  fetched_on piece h =
      subst (λ f. WasFetched disk (steps_of mid.chain.recorder mid.broke) f piece) (sym looked.first)
      (subst (λ xs. WasFetched disk xs old.first piece) (sym (ap₂ steps_of looked.history looked.broke)) h)

-- ---- as the code has it: the look's answer, and the put's

module _ {S T : Type 0} (disk : S → Disk) (piece : Piece) (old : Shared (Chain S Ledger T)) (stripe : ℕ) (stripe_is : stripe ≡ piece.stripe) where
  looked_at : (mid : Shared (Chain S Ledger T)) (answer : Result ℕ ChainRefusal) (n : ℕ) → answer ≡ Ok n → IsStepped disk (passes stripe (passed_by answer)) old mid (unstamped answer) → IsStepped disk (passes piece.stripe n) old mid (Ok tt)
  looked_at mid answer n is k =
      subst (λ s. IsStepped disk (passes s n) old mid (Ok tt)) stripe_is (subst (λ r. IsStepped disk (passes stripe (passed_by r)) old mid (unstamped r)) is k)

  none_looked : (mid : Shared (Chain S Ledger T)) (answer : Result ℕ ChainRefusal) (n : ℕ) → answer ≡ Ok n → n ≤ 0 → IsStepped disk (passes stripe (passed_by answer)) old mid (unstamped answer) → IsStepped disk (passes piece.stripe 0) old mid (Ok tt)
  none_looked mid answer n is few k = let zero_is : n ≡ 0 = omega (arith, few) in subst (λ m. IsStepped disk (passes piece.stripe m) old mid (Ok tt)) zero_is (looked_at mid answer n is k)

  pub fetched_still : (mid : Shared (Chain S Ledger T)) (answer : Result ℕ ChainRefusal) (n : ℕ) → answer ≡ Ok n → n ≤ 0 → IsStepped disk (passes stripe (passed_by answer)) old mid (unstamped answer)
      → WasFetched disk (steps_of old.chain.recorder old.broke) old.first piece → WasFetched disk (steps_of mid.chain.recorder mid.broke) mid.first piece
  fetched_still mid answer n is few k fetched = fetched_on disk old mid mid piece.stripe (none_looked mid answer n is few k) piece fetched

  pub settles_refused : (mid : Shared (Chain S Ledger T)) (answer : Result ℕ ChainRefusal) (x : ChainRefusal) → answer ≡ Err x → IsStepped disk (passes stripe (passed_by answer)) old mid (unstamped answer) → IfErr answer (StopsFetch disk stripe old mid) → Settles disk piece old mid (Err x)
  settles_refused mid answer x is k stops =
      not_looked x (subst (λ s. IsStepped disk (passes s 0) old mid (Err x)) stripe_is (subst (λ r. IsStepped disk (passes stripe (passed_by r)) old mid (unstamped r)) is k))
      (subst (λ s. StopsFetch disk s old mid x) stripe_is (subst (λ r. IfErr r (StopsFetch disk stripe old mid)) is stops))

  pub settles_passed : (mid : Shared (Chain S Ledger T)) (answer : Result ℕ ChainRefusal) (n : ℕ) → answer ≡ Ok n → 0 < n → IsStepped disk (passes stripe (passed_by answer)) old mid (unstamped answer) → Settles disk piece old mid (Ok (range_of stripe n))
  settles_passed mid answer n is some k = subst (λ s. Settles disk piece old mid (Ok (range_of s n))) (sym stripe_is) (was_passed n some (looked_at mid answer n is k))

  module _ (mid new : Shared (Chain S Ledger T)) (answer : Result ℕ ChainRefusal) (n : ℕ) (is : answer ≡ Ok n) (few : n ≤ 0) (k : IsStepped disk (passes stripe (passed_by answer)) old mid (unstamped answer)) where
    pub settles_put : (done : Result (Unit {0}) ChainRefusal) → done ≡ Ok tt → IsStepped disk (copies piece.stripe) mid new done → Settles disk piece old new (Ok (record { from = stripe; to = stripe }))
    settles_put done done_is put =
        subst (λ s. Settles disk piece old new (Ok (record { from = s; to = s }))) (sym stripe_is)
        (was_put (stepped_on disk old mid new piece.stripe (none_looked mid answer n is few k) piece.stripe (Ok tt) (subst (IsStepped disk (copies piece.stripe) mid new) done_is put)))

    pub settles_not_put : (done : Result (Unit {0}) ChainRefusal) (x : ChainRefusal) → done ≡ Err x → IsStepped disk (copies piece.stripe) mid new done → IfErr done (StopsPut disk piece mid new) → Settles disk piece old new (Err x)
    settles_not_put done x done_is put stops =
        let looked = none_looked mid answer n is few k in
        not_put x (stepped_on disk old mid new piece.stripe looked piece.stripe (Err x) (subst (IsStepped disk (copies piece.stripe) mid new) done_is put))
        (stops_on disk old mid new piece.stripe looked piece x (subst (λ r. IfErr r (StopsPut disk piece mid new)) done_is stops))

-- ---- the turn

module _ {S T : Type 0} where
  -- it is a step of a merge
  record Stepped (disk : S → Disk) (old new : Shared (Chain S Ledger T)) : Type 0 where
    step : MergeStep
    two : most_events step ≤ 2
    answer : Result (Unit {0}) ChainRefusal
    is : IsStepped disk step old new answer

  stepped_by : (disk : S → Disk) (piece : Piece) (old new : Shared (Chain S Ledger T)) (answer : Result Passed ChainRefusal) → Settles disk piece old new answer → Stepped disk old new
  stepped_by disk piece old new _ (was_put k) = record { step = copies piece.stripe; two = omega arith; answer = Ok tt; is = k }
  stepped_by disk piece old new _ (not_put x k stops) = record { step = copies piece.stripe; two = omega arith; answer = Err x; is = k }
  stepped_by disk piece old new _ (not_looked x k stops) = record { step = passes piece.stripe 0; two = omega arith; answer = Err x; is = k }
  stepped_by disk piece old new _ (was_passed n some k) = record { step = passes piece.stripe n; two = omega arith; answer = Ok tt; is = k }

  module _ (disk : S → Disk) (before after : Known Step (Basis S T)) (held : Out (Shared (Chain S Ledger T)) Step (Basis S T)) (old new : Shared (Chain S Ledger T)) (piece : Piece) (answer : Result Passed ChainRefusal) (is : old ≡ held.value)
      (turn : HasTurn Contains before after held.seat (told_of held.value) (basis_of disk held.value)) (settles : Settles disk piece old new answer) where
    pub may_settle : MayUnlock Contains work after held.seat (told_of new) (basis_of disk new)
    may_settle = let s = stepped_by disk piece old new answer settles in may_turn disk before after held old new s.step s.two s.answer is turn s.is

    pub has_settled : (last : Known Step (Basis S T)) → last ≡ after_turn after (told_of new) (basis_of disk new) → HasWorked 1 before last
    has_settled last is_last = let s = stepped_by disk piece old new answer settles in has_worked disk before after held old new s.step s.two s.answer is turn s.is last is_last

  -- ---- what is passed over

  passed_now : (disk : S → Disk) (stripe n : ℕ) (old new : Shared (Chain S Ledger T)) (basis : Basis S T) → IsStepped disk (passes stripe n) old new (Ok tt) → basis ≡ basis_of disk new → ArePassed basis (range_of stripe n)
  passed_now disk stripe n old new basis k is = record { each = λ t from to. by_end t from to (nat_lt t new.copied.stripes) refl }
    where
      here : (P : Basis S T → Type 0) → P (basis_of disk new) → P basis
      here P h = subst P (sym is) h

      by_end : (t : ℕ) → stripe ≤ t → t < stripe + n → (b : Bool) → nat_lt t new.copied.stripes ≡ b → HasStripe t basis.copied ⊎ (basis.stripes ≤ t)
      by_end t from to true less =
          let low : t < new.copied.stripes = ltb-true t new.copied.stripes less in
          let marked : marks_of new.copied t ≡ true = k.copied t ∙ passed_mark old.copied stripe n t (subst (λ m. t < m) k.stripes low) from to in
          inl (here (λ b. HasStripe t b.copied) (marked_has (marks_of new.copied) new.copied.stripes t low marked))
      by_end t from to false past = inr (here (λ b. b.stripes ≤ t) (let high = ltb-false t new.copied.stripes past in omega (arith, high)))

  none_between : (basis : Basis S T) (stripe : ℕ) → ArePassed basis (record { from = stripe; to = stripe })
  none_between basis stripe = record { each = λ t from to. absurd (omega (arith, from, to)) }

  -- so it stays
  pub passed_later : (old new : Basis S T) (passed : Passed) → Contains new old → ArePassed old passed → ArePassed new passed
  passed_later old new passed more h = record { each = λ t from to. go t (h.each t from to) }
    where
      go : (t : ℕ) → HasStripe t old.copied ⊎ (old.stripes ≤ t) → HasStripe t new.copied ⊎ (new.stripes ≤ t)
      go t (inl has) = inl (more.copied t has)
      go t (inr past) = inr (let same = more.stripes in omega (arith, past, same))

  pub settled_passed : (disk : S → Disk) (piece : Piece) (old new : Shared (Chain S Ledger T)) (answer : Result Passed ChainRefusal) (basis : Basis S T) → Settles disk piece old new answer → basis ≡ basis_of disk new → IfOk answer (ArePassed basis)
  settled_passed disk piece old new _ basis (was_put k) is = none_between basis piece.stripe
  settled_passed disk piece old new _ basis (not_put x k stops) is = tt
  settled_passed disk piece old new _ basis (not_looked x k stops) is = tt
  settled_passed disk piece old new _ basis (was_passed n some k) is = passed_now disk piece.stripe n old new basis k is

  -- nothing is passed over behind a refusal
  pub passed_found : (basis : Basis S T) (answer : Result Passed ChainRefusal) (passed : Passed) → passed ≡ found_by answer → IfOk answer (ArePassed basis) → ArePassed basis passed
  passed_found basis answer passed is h = subst (ArePassed basis) (sym is) (go answer h)
    where
      go : (answer : Result Passed ChainRefusal) → IfOk answer (ArePassed basis) → ArePassed basis (found_by answer)
      go (Ok passed) h = h
      go (Err x) h = none_between basis 0

  -- ---- a stripe

  -- one that is passed over is copied
  pub passed_swept : (stripe : ℕ) (before last : Known Step (Basis S T)) (passed : Passed) → ArePassed last.basis passed → passed.from ≤ stripe → stripe < passed.to → IsSwept stripe before last
  passed_swept stripe before last passed h from to = go (h.each stripe from to)
    where
      go : HasStripe stripe last.basis.copied ⊎ (last.basis.stripes ≤ stripe) → IsSwept stripe before last
      go (inl has) = inl has
      go (inr past) = inr (inl past)

  -- it is copied behind the turn, or what stopped that shows
  pub settled_swept : (disk : S → Disk) (piece : Piece) (answer : Result Passed ChainRefusal) (before last : Known Step (Basis S T)) (old new : Shared (Chain S Ledger T)) → Settles disk piece old new answer
      → Contains (basis_of disk old) before.basis → IsHeld disk before old.first piece → StartsWith (told_of old) before.seen → last.seen ≡ told_of new → last.basis ≡ basis_of disk new → IsSwept piece.stripe before last
  settled_swept disk piece _ before last old new (was_put k) knows held earlier seen is = has_swept disk piece (Ok tt) before last old new k tt knows held earlier seen is
  settled_swept disk piece _ before last old new (not_put x k stops) knows held earlier seen is = has_swept disk piece (Err x) before last old new k stops knows held earlier seen is
  settled_swept disk piece _ before last old new (not_looked x k stops) knows held earlier seen is = inr (inr (x, stops_turn disk piece.stripe (passes piece.stripe 0) (Err x) before last old new k refl knows is x refl stops))
  settled_swept disk piece _ before last old new (was_passed n some k) knows held earlier seen is = passed_swept piece.stripe before last (range_of piece.stripe n) (passed_now disk piece.stripe n old new last.basis k is) (omega arith) (omega (arith, some))
