-- A piece that was true of its source behind some calls of a session is true of it for good.
use Rattle.std.proofs.Common.{◌≡◌, ◌≢◌, ◌+◌, ◌<◌, ◌==◌, ◌++◌, ◌∷◌, ℕ, Bool, false, true, List, [], length, take, drop, Option, Some, None, Result, Ok, Err, refl, sym, ap, ap₂, subst, ◌∙◌, arith, length-append}
use Rattle.std.specs.Prelude.{◌||◌, OnOk, if◌then◌else◌, is_some}
use Rattle.std.proofs.Math.Seq.{take-append_seam}
use Rattle.std.proofs.lemmas.Bool.{eqb-false, eqb-true}
use Rattle.std.proofs.lemmas.List.{append-nil, append_assoc, take-append-drop}
use Rattle.store_model.specs.Disk.{Disk, WhereTold}
use Rattle.store_model.specs.Trace.{Trace}
use Rattle.store_model.specs.declared.fault.StoreFault.{StoreFault}
use Rattle.guest_model.specs.declared.call.Entry.{Entry}
use Rattle.ledger.specs.declared.ledger.Ledger.{Ledger}
use Rattle.guest_model.specs.declared.refusal.ChainRefusal.{ChainRefusal}
use Rattle.guest_model.specs.History.{History}
use Rattle.chain_model.specs.Merges.{IsTrue, Piece}
use Rattle.chain_model.proofs.Merging.{true_pieces}
use Rattle.chain_model.specs.Stripes.{touches}
use Rattle.merge_core.specs.Stamping.{stamps_of}
use Rattle.script_session.specs.Told.{sector_size}
use Rattle.layer_session.proofs.Equal.{false_true, some_none, some_same}
use Rattle.merge_core.specs.Pieces.{piece_of}
use Rattle.merge_core.specs.declared.piece.Piece.{Piece as KeptPiece}
use Rattle.chain_core.specs.Copying.{FetchAnswers, FitsDisk, fetch_refused, no_stripe}
use Rattle.chain_core.specs.Merging.{IsTrueOf, IsTruePiece}
use Rattle.chain_core.specs.Refusing.{unfit}
use Rattle.chain_core.specs.Sessions.{Session, has_merge}
use Rattle.chain_core.specs.States.{IsCourse, IsRetiring, IsServing, Rest, State, merging, plain, retiring, sector_of}
use Rattle.chain_core.specs.declared.chain.Chain.{Chain}
use Rattle.chain_core.specs.declared.layers.Layers.{Layers}
use Rattle.chain_core.specs.declared.layers.Retiring.{Retiring}
use Rattle.chain_core.specs.declared.layers.Underway.{Underway}
use Rattle.script_session.specs.Histories.{MergeSource, source_began}
use Rattle.script_session.specs.MergeSteps.{AnswersFetch}
use Rattle.script_session.specs.StepsLeft.{unstamped}
use Rattle.script_session.proofs.Moving.{ok_reached, parts_none}
use Rattle.script_session.proofs.Telling.{both_told}
use Rattle.shared_chain.specs.declared.basis.Breach.{Breach}
use Rattle.shared_chain.specs.declared.basis.Step.{Step}
use Rattle.shared_chain.specs.declared.basis.Step.TheVariants.{Broke, Done}
use Rattle.shared_chain.specs.Fetched.{IsFetched}
use Rattle.shared_chain.specs.Homes.{Follows, IsHome, session_of}
use Rattle.shared_chain.specs.Stamped.{stamp_behind}
use Rattle.shared_chain.specs.Steps.{done_steps, steps_of}
use Rattle.shared_chain.proofs.Breaking.{none_broke}
use Rattle.shared_chain.proofs.Merged.{stripe_has, whole_by}
use Rattle.shared_chain.proofs.Unmoved.{stamp_at_home}
use Rattle.shared_chain.proofs.Stamped.{stamp_more}
use Rattle.shared_chain.proofs.Stepping.{IsAptFrom}
use Rattle.turn_lock.specs.Histories.{StartsWith}

-- ---- of the same source

-- a piece is one of a merge that has the same source
true_by : (z : ℕ) (h : History) (r q : Rest) (piece : Piece) → (is_some (source_began q) ≡ true → source_began q ≡ source_began r) → IsTrueOf z h r piece → IsTrueOf z h q piece
true_by z h r (plain others) piece same is = tt
true_by z h (plain others) (merging above source target below m) piece same is = absurd (some_none (same refl))
true_by z h (merging above source target below m) (merging a s t b n) piece same is =
    subst (λ f. IsTrue z f [] piece) (ap (λ (x : MergeSource). x.began) (sym (some_same {x = record { of_leaf = false; began = n.first }} {y = record { of_leaf = false; began = m.first }} (same refl)))) is
true_by z h (retiring target below first before) (merging a s t b n) piece same is =
    absurd (false_true (ap (λ (x : MergeSource). x.of_leaf) (some_same {x = record { of_leaf = false; began = n.first }} {y = record { of_leaf = true; began = first }} (same refl))))
true_by z h (plain others) (retiring t b first before) piece same is = absurd (some_none (same refl))
true_by z h (merging above source target below m) (retiring t b first before) piece same is =
    absurd (false_true (ap (λ (x : MergeSource). x.of_leaf) (sym (some_same {x = record { of_leaf = true; began = first }} {y = record { of_leaf = false; began = m.first }} (same refl)))))
true_by z h (retiring target below began was) (retiring t b first before) piece same is =
    subst (λ f. IsTrue z f h piece) (ap (λ (x : MergeSource). x.began) (sym (some_same {x = record { of_leaf = true; began = first }} {y = record { of_leaf = true; began = began }} (same refl)))) is

-- and stays so behind more calls
true_more : (z : ℕ) (h more : History) (r : Rest) (piece : Piece) → IsTrueOf z h r piece → IsTrueOf z (h ++ more) r piece
true_more z h more (plain others) piece is = tt
true_more z h more (merging above source target below m) piece is = is
true_more z h more (retiring target below first before) piece is = true_pieces.stay z first h more piece is

-- a state that a session serves while a merge is under way has it
under_way : (layers : Layers) (v : State) (trace : Trace) → IsServing layers v trace → has_merge layers ≡ true → is_some (source_began v.rest) ≡ true
under_way layers v trace serving has = go layers.merge layers.retiring v.rest serving.course serving.leaving has
  where
    go : (u : Option Underway) (r : Option Retiring) (rest : Rest) → IsCourse (sector_of v) v.writes layers u v.top rest → IsRetiring (sector_of v) v.writes v.history layers r v.top rest → (is_some u || is_some r) ≡ true → is_some (source_began rest) ≡ true
    go u r (merging above source target below m) course leaving some = refl
    go u r (retiring target below first before) course leaving some = refl
    go None None (plain others) course leaving some = absurd (false_true some)
    go None (Some r) (plain others) course leaving some = absurd leaving
    go (Some u) r (plain others) course leaving some = absurd course

-- ---- each state is apt for it

rest_of : (h before : History) → StartsWith h before → h ≡ before ++ drop (length before) h
rest_of h before starts = sym (take-append-drop (length before) h) ∙ ap (λ xs. xs ++ drop (length before) h) starts

pub fetched_apt : {S T : Type 0} (disk : S → Disk) (first : Chain S Ledger T) (before : History) (piece : KeptPiece) → IsFetched disk first before piece → (h : History) → StartsWith h before → IsAptFrom (λ v. IsTruePiece v (piece_of piece)) (session_of disk first) h
fetched_apt disk first before piece is h starts t told from to serving empty comes =
    let begun : IsTrueOf (sector_of from) before from.rest (piece_of piece) = is.is_true t told from serving empty in
    let now : IsTrueOf (sector_of from) h from.rest (piece_of piece) =
    subst (λ k. IsTrueOf (sector_of from) k from.rest (piece_of piece)) (sym (rest_of h before starts)) (true_more (sector_of from) before (drop (length before) h) from.rest (piece_of piece) begun) in
    let there : IsTrueOf (sector_of from) h to.rest (piece_of piece) = true_by (sector_of from) h from.rest to.rest (piece_of piece) comes.later.source now in
    subst (λ z. IsTrueOf z to.history to.rest (piece_of piece)) (sym comes.sector) (subst (λ k. IsTrueOf (sector_of from) k to.rest (piece_of piece)) (sym comes.later.history) there)

-- ---- what was fetched

module _ (first old new : Session) (h : History) (full : Option ℕ) (broke : Option Breach) (fault : Option StoreFault) (home : IsHome first old h full broke fault) (stripe stamp : ℕ) (piece : KeptPiece) (a : AnswersFetch stripe (Ok stamp) old new piece) where
  reached_files : fetch_refused stripe old ≡ None
  reached_files = ok_reached _ (fetch_refused stripe old) stamp a.early

  is_whole : old.broken ≡ None
  is_whole = whole_by old.events old.broken (parts_none (unfit old.events old.broken) (no_stripe stripe old.layers) reached_files).0

  is_there : no_stripe stripe old.layers ≡ None
  is_there = (parts_none (unfit old.events old.broken) (no_stripe stripe old.layers) reached_files).1

  fetch_true : WhereTold first.disk.told (λ trace. (from : State) → IsServing first.layers from trace → from.history ≡ [] → IsTrueOf (sector_of from) h from.rest (piece_of piece))
  fetch_true trace told from serving empty =
      let b = both_told (λ trace after. (from : State) → IsServing first.layers from trace → from.history ≡ [] → Follows from h full broke old after) first.disk.told old.disk.told trace told home.follows in
      let f = b.2 from serving empty in
      let now = f.serves is_whole in
      let l = both_told (λ trace now. (v : State) → IsServing old.layers v trace → FetchAnswers piece v new.layers trace now (Ok stamp)) old.disk.told new.disk.told b.0 b.1 (a.told reached_files) in
      let taken : IsTruePiece f.to (piece_of piece) = (l.2 f.to now).1 in
      let same : source_began f.to.rest ≡ source_began from.rest = f.comes.later.source (under_way old.layers f.to b.0 now (stripe_has stripe old.layers is_there)) in
      true_by (sector_of from) h f.to.rest from.rest (piece_of piece) (λ e. sym same)
      (subst (λ z. IsTrueOf z h f.to.rest (piece_of piece)) f.comes.sector (subst (λ k. IsTrueOf (sector_of f.to) k f.to.rest (piece_of piece)) f.comes.later.history taken))

pub fetched_now : {S T : Type 0} (disk : S → Disk) (first old : Chain S Ledger T) (new : Session) (h : History) (full : Option ℕ) (broke : Option Breach) (fault : Option StoreFault) → IsHome (session_of disk first) (session_of disk old) h full broke fault
    → (stripe : ℕ) (answer : Result ℕ ChainRefusal) (piece : KeptPiece) → AnswersFetch stripe answer (session_of disk old) new piece → OnOk answer (IsFetched disk first h piece)
fetched_now disk first old new h full broke fault home stripe (Err x) piece a = tt
fetched_now disk first old new h full broke fault home stripe (Ok stamp) piece a =
    let s = session_of disk in
    record {
      filled = a.taken.filled;
      fits = subst (λ g. FitsDisk g piece) home.geometry a.taken.fits;
      stamp =
          a.taken.stamp_is ∙ stamp_at_home (s first) (s old) h full broke fault home stripe (is_whole (s first) (s old) new h full broke fault home stripe stamp piece a) (is_there (s first) (s old) new h full broke fault home stripe stamp piece a)
          ∙ ap (stamp_behind first.layers.retiring h) (sym a.taken.stripe_is);
      is_true = fetch_true (s first) (s old) new h full broke fault home stripe stamp piece a;
    }

-- so it is of the answer without the stamp
pub done_too : (P : Type 0) (answer : Result ℕ ChainRefusal) → OnOk answer P → OnOk (unstamped answer) P
done_too P (Ok stamp) h = h
done_too P (Err x) h = tt

-- a session that a fetch found whole isn't broken
pub fetched_whole : (first old new : Session) (h : History) (full : Option ℕ) (broke : Option Breach) (fault : Option StoreFault) → IsHome first old h full broke fault → (stripe : ℕ) (answer : Result ℕ ChainRefusal) (piece : KeptPiece) → AnswersFetch stripe answer old new piece → OnOk answer (broke ≡ None)
fetched_whole first old new h full broke fault home stripe (Err x) piece a = tt
fetched_whole first old new h full broke fault home stripe (Ok stamp) piece a = none_broke broke old.broken home.breaks (is_whole first old new h full broke fault home stripe stamp piece a)

-- ---- the calls among the steps

entry_same : {x y : Entry} {xs ys : History} → ◌≡◌ {A = History} (x ∷ xs) (y ∷ ys) → (x ≡ y) × (xs ≡ ys)
entry_same e = (cc, cc)

done_same : {x y : Entry} {xs ys : List Step} → ◌≡◌ {A = List Step} (Done x ∷ xs) (Done y ∷ ys) → (x ≡ y) × (xs ≡ ys)
done_same e = (cc, cc)

pub done_starts : (h before : History) (broke : Option Breach) → StartsWith (steps_of h broke) (done_steps before) → StartsWith h before
done_starts h [] broke starts = refl
done_starts [] (x ∷ before) None starts = let never : ◌≡◌ {A = List Step} [] (Done x ∷ done_steps before) = starts in cc
done_starts [] (x ∷ before) (Some b) starts = let never : ◌≡◌ {A = List Step} (Broke b ∷ take (length (done_steps before)) []) (Done x ∷ done_steps before) = starts in cc
done_starts (y ∷ h) (x ∷ before) broke starts =
    let s = done_same {x = y} {y = x} {xs = take (length (done_steps before)) (steps_of h broke)} {ys = done_steps before} starts in
    ap₂ (λ (e : Entry) (es : History). e ∷ es) s.0 (done_starts h before broke s.1)

-- what stands of the history stands of its steps
pub starts_steps : (h before : History) (broke : Option Breach) → StartsWith h before → StartsWith (steps_of h broke) (done_steps before)
starts_steps h [] broke starts = refl
starts_steps [] (x ∷ before) broke starts = absurd (let never : ◌≡◌ {A = History} [] (x ∷ before) = starts in cc)
starts_steps (y ∷ h) (x ∷ before) broke starts =
    let s : (y ≡ x) × (take (length before) h ≡ before) = entry_same {x = y} {y = x} {xs = take (length before) h} {ys = before} starts in
    ap₂ (λ (e : Entry) (es : List Step). Done e ∷ es) s.0 (starts_steps h before broke s.1)

-- ---- a piece that is stale

-- A stripe has another stamp than it had behind earlier calls: a call at that place, behind them, changed it.
pub record IsChangedSince (h : History) (stripe place n : ℕ) : Type 0 where
  pub before : History
  pub call : Entry
  pub begins : StartsWith h (before ++ call ∷ [])
  pub place_is : place ≡ length before + 1
  pub touched : touches sector_size call.call stripe ≡ true
  pub later : n < place

changed_by : (began : Retiring) (h more : History) (stripe : ℕ) → stamp_behind (Some began) (h ++ more) stripe ≢ stamp_behind (Some began) h stripe → IsChangedSince (h ++ more) stripe (stamp_behind (Some began) (h ++ more) stripe) (length h)
changed_by began h [] stripe other = absurd (other (ap (λ k. stamp_behind (Some began) k stripe) (append-nil h)))
changed_by began h (e ∷ more) stripe other = go (last == next) refl (changed_by began (h ++ e ∷ []) more stripe)
  where
    whole : (h ++ e ∷ []) ++ more ≡ h ++ e ∷ more
    whole = append_assoc h (e ∷ []) more

    last : ℕ
    last = stamp_behind (Some began) (h ++ e ∷ more) stripe

    next : ℕ
    next = stamp_behind (Some began) (h ++ e ∷ []) stripe

    by_touch : last ≡ next → (b : Bool) → touches sector_size e.call stripe ≡ b → next ≡ (if b then length h + 1 else stamp_behind (Some began) h stripe) → IsChangedSince (h ++ e ∷ more) stripe last (length h)
    by_touch same true touched is = record {
      before = h;
      call = e;
      begins = subst (λ k. take (length (h ++ e ∷ [])) k ≡ h ++ e ∷ []) whole (take-append_seam (h ++ e ∷ []) more);
      place_is = same ∙ is;
      touched = touched;
      later = let place = same ∙ is in omega (arith, place);
    }
    by_touch same false touched is = absurd (other (same ∙ is))

    go : (b : Bool) → (last == next) ≡ b
        → (stamp_behind (Some began) ((h ++ e ∷ []) ++ more) stripe ≢ next → IsChangedSince ((h ++ e ∷ []) ++ more) stripe (stamp_behind (Some began) ((h ++ e ∷ []) ++ more) stripe) (length (h ++ e ∷ []))) → IsChangedSince (h ++ e ∷ more) stripe last (length h)
    go true e_is later = by_touch (eqb-true last next e_is) (touches sector_size e.call stripe) refl (stamp_more (stamps_of began.stamps stripe) h e stripe)
    go false e_is later =
        let changed : IsChangedSince (h ++ e ∷ more) stripe last (length (h ++ e ∷ [])) =
        subst (λ k. IsChangedSince k stripe (stamp_behind (Some began) k stripe) (length (h ++ e ∷ []))) whole (later (λ is. eqb-false last next e_is (ap (λ k. stamp_behind (Some began) k stripe) (sym whole) ∙ is))) in
        let size : length (h ++ e ∷ []) ≡ length h + 1 = length-append h (e ∷ []) in
        record { before = changed.before; call = changed.call; begins = changed.begins; place_is = changed.place_is; touched = changed.touched; later = let there = changed.later in omega (arith, there, size) }

-- So it is of a piece that isn't of its stripe's stamp any more, where the leaf is merged; of another source none is stale.
pub changed_since : {S T : Type 0} (disk : S → Disk) (first : Chain S Ledger T) (before h : History) (piece : KeptPiece) (now : ℕ) → IsFetched disk first before piece → StartsWith h before → now ≡ stamp_behind first.layers.retiring h piece.stripe → piece.stamp ≢ now
    → (is_some first.layers.retiring ≡ true) × IsChangedSince h piece.stripe now (length before)
changed_since disk first before h piece now is starts now_is other = go first.layers.retiring is.stamp now_is
  where
    go : (r : Option Retiring) → piece.stamp ≡ stamp_behind r before piece.stripe → now ≡ stamp_behind r h piece.stripe → (is_some r ≡ true) × IsChangedSince h piece.stripe now (length before)
    go None was at = absurd (other (was ∙ sym at))
    go (Some began) was at = (
      refl,
      subst (λ n. IsChangedSince h piece.stripe n (length before)) (sym at)
          (subst (λ k. IsChangedSince k piece.stripe (stamp_behind (Some began) k piece.stripe) (length before)) (sym (rest_of h before starts))
          (changed_by began before (drop (length before) h) piece.stripe (λ same. other (was ∙ sym same ∙ ap (λ k. stamp_behind (Some began) k piece.stripe) (sym (rest_of h before starts)) ∙ sym at)))),
    )
