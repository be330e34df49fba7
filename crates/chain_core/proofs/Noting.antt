-- What a call that reached the layers leaves of the history, and of a session, by the answer of its layers.
use Rattle.std.proofs.Common.{◌≡◌, ℕ, ◌+◌, ◌-◌, ◌≤◌, ◌^◌, List, [], ◌∷◌, ◌++◌, length, take, refl, sym, ap, subst, ◌∙◌, arith, length-append, Bool, true, false, is_some, ◌||◌, map}
use Rattle.std.proofs.lemmas.List.{take_at}
use Rattle.std.specs.Prelude.{Option, Some, None, option_map, Result, Ok, Err, IfErr, IfSome, IsErrAnd, OnOk, OnErr}
use Rattle.std.specs.List.{AllByRecursion}
use Rattle.store_model.specs.Disk.{Disk}
use Rattle.store_model.specs.Plans.{FailsToChange}
use Rattle.store_model.specs.declared.fault.StoreFault.{StoreFault}
use Rattle.guest_model.specs.declared.call.Call.{Call}
use Rattle.guest_model.specs.declared.call.Entry.{Entry}
use Rattle.guest_model.specs.declared.refusal.ChainRefusal.{ChainRefusal}
use Rattle.layer_session.specs.declared.file.LayerFault.{LayerFault}
use Rattle.layer_session.specs.declared.file.Layer.{Layer}
use Rattle.layer_session.specs.Calls.{Fails}
use Rattle.layer_session.specs.FileLayers.{log_number}
use Rattle.chain_core.specs.declared.layers.Layers.{Layers}
use Rattle.chain_core.specs.Answering.{IsNoted, answer_of, as_change, breaks}
use Rattle.chain_core.specs.Reading.{HasOnlyRead}
use Rattle.chain_core.specs.Refusing.{IfRefused, refused}
use Rattle.chain_core.specs.Sessions.{AreReady, IsLow, IsSound, Session, has_merge, slack}
use Rattle.chain_core.proofs.Copied.{always, has_merge_same, low_on, sound_behind}
use Rattle.layer_session.proofs.Equal.{err_same}

-- an entry that was noted last is taken back
taken_back : (e : Entry) (h : List Entry) → take (length (h ++ e ∷ []) - 1) (h ++ e ∷ []) ≡ h
taken_back e h = take_at h (e ∷ []) (length (h ++ e ∷ []) - 1) (omega (arith, length-append h (e ∷ [])))

pub back : (e : Entry) (before noted after : Option (List Entry)) → noted ≡ option_map (λ h. h ++ e ∷ []) before → after ≡ option_map (λ h. take (length h - 1) h) noted → after ≡ before
back e before noted after one taken = taken ∙ ap (option_map (λ (h : List Entry). take (length h - 1) h)) one ∙ by_told before
  where
    by_told : (o : Option (List Entry)) → option_map (λ (h : List Entry). take (length h - 1) h) (option_map (λ h. h ++ e ∷ []) o) ≡ o
    by_told None = refl
    by_told (Some h) = ap Some (taken_back e h)

pub count_back : (before noted after : ℕ) → noted ≡ before + 1 → after ≡ noted - 1 → after ≡ before
count_back before noted after one back = omega (arith, one, back)

-- From the session before it, once its entry was noted, to the end.
pub notes_so : (e : Entry) (before after : Session) (place : ℕ) (told : Option (List Entry)) (done : Result (Unit {0}) LayerFault) (result : Result ℕ ChainRefusal) → result ≡ answer_of place done → told ≡ option_map (λ h. h ++ e ∷ []) before.told → place ≡ before.noted + 1
    → OnOk done (after.told ≡ told) → OnOk done (after.noted ≡ place) → OnErr done (after.told ≡ option_map (λ h. take (length h - 1) h) told) → OnErr done (after.noted ≡ place - 1) → IsNoted e before after result
notes_so e before after place told done result is one next kept same taken fewer = subst (IsNoted e before after) (sym is) (by_answer done kept same taken fewer)
  where
    by_answer : (done : Result (Unit {0}) LayerFault) → OnOk done (after.told ≡ told) → OnOk done (after.noted ≡ place) → OnErr done (after.told ≡ option_map (λ h. take (length h - 1) h) told) → OnErr done (after.noted ≡ place - 1)
        → IsNoted e before after (answer_of place done)
    by_answer (Ok t) kept same taken fewer = (kept ∙ one, same ∙ next, sym same)
    by_answer (Err f) kept same taken fewer = (back e before.told told after.told one taken, count_back before.noted place after.noted next fewer)

-- A call that is refused before the files are reached answers that, as its first step did.
pub refused_first : (call : Call) (s : Session) (x : ChainRefusal) (result : Result ℕ ChainRefusal) (P : Type 0) → IsErrAnd result (λ e. e ≡ x) → IfRefused {T = Unit {0}} call s (Err x) P → IfRefused call s result P
refused_first call s x (Ok place) P is early = absurd is
refused_first call s x (Err e) P is early = by_cause (refused call s) early
  where
    same : {a b : ChainRefusal} → ◌≡◌ {A = Result (Unit {0}) ChainRefusal} (Err a) (Err b) → a ≡ b
    same h = err_same h

    by_cause : (o : Option ChainRefusal) → IfSome o (λ r. (◌≡◌ {A = Result (Unit {0}) ChainRefusal} (Err x) (Err r)) × P) → IfSome o (λ r. (◌≡◌ {A = Result ℕ ChainRefusal} (Err e) (Err r)) × P)
    by_cause None h = tt
    by_cause (Some r) h = (ap Err (is ∙ same h.0), h.1)

-- behind a read
pub sound_looked : (s t : Session) (old new : Layers) (before after : Disk) (done : Result (Unit {0}) LayerFault) → IsSound s → s.broken ≡ None → t.events ≡ s.events + 1 → t.events ≤ 2 ^ 63 → t.noted ≤ s.noted + 1
    → old ≡ s.layers → t.layers ≡ new → t.disk ≡ after → HasOnlyRead old new before after → IfSome (breaks done) (λ fault. t.broken ≡ Some fault) → IsSound t
sound_looked s t old new before after done sound whole one few noted first then disk reads fault =
    let r : HasOnlyRead s.layers t.layers before t.disk =
    subst (λ (l : Layers). HasOnlyRead l t.layers before t.disk) first (subst (λ (l : Layers). HasOnlyRead old l before t.disk) (sym then) (subst (λ (d : Disk). HasOnlyRead old new before d) (sym disk) reads)) in
    sound_behind s t done sound whole one few noted r.geometry (has_merge_same s.layers t.layers (r.merge, r.retiring)) (always done _ r.ready)
    (always done ((most : ℕ) → IsLow most s.layers → IsLow (most + 1) t.layers)
    (λ most low. low_on most (most + 1) t.layers (omega arith) (subst (AllByRecursion (λ number. IfSome number (λ n. n ≤ most))) (sym r.numbers) low))) fault

-- with no merge, and no event yet
pub sound_fresh : (s : Session) → s.events ≡ 0 → s.noted ≡ 0 → AreReady s.layers s.disk → IsLow 1 s.layers → IsSound s
sound_fresh s none empty ready low = record {
  sector = ready.sector;
  noted = omega (arith, none, empty);
  few = omega (arith, none);
  ready = λ _. ready;
  low = λ _. low_on 1 (s.events + slack (has_merge s.layers)) s.layers (some_slack s.events (has_merge s.layers)) low;
}
  where
    some_slack : (n : ℕ) (merge : Bool) → 1 ≤ n + slack merge
    some_slack n true = omega arith
    some_slack n false = omega arith

-- with a merge of the leaf, and no event yet
pub sound_leaf_started : (s : Session) → s.events ≡ 0 → s.noted ≡ 0 → AreReady s.layers s.disk → s.layers.merge ≡ None → is_some s.layers.retiring ≡ true → IsLow 2 s.layers → IsSound s
sound_leaf_started s none empty ready only leaf low = record {
  sector = ready.sector;
  noted = omega (arith, none, empty);
  few = omega (arith, none);
  ready = λ _. ready;
  low = λ _.
      let merge : has_merge s.layers ≡ true = ap (λ m. is_some m || is_some s.layers.retiring) only ∙ leaf in
      subst (λ (b : Bool). IsLow (s.events + slack b) s.layers) (sym merge) (low_on 2 (s.events + 2) s.layers (omega arith) low);
}

-- the numbers of logs, once the leaf's wrote one entry at the most
pub low_stepped : (old new : Layers) (leaf next : Layer) → old.leaf ≡ Some leaf → new.leaf ≡ Some next → new.below ≡ old.below → next.log.number ≤ leaf.log.number + 1 → (most : ℕ) → IsLow most old → IsLow (most + 1) new
low_stepped old new leaf next was now below step most low =
    let first : leaf.log.number ≤ most = subst (λ o. IfSome (option_map (λ (l : Layer). l.log.number) o) (λ n. n ≤ most)) was low.0 in (
      subst (λ o. IfSome (option_map (λ (l : Layer). l.log.number) o) (λ n. n ≤ most + 1)) (sym now) (omega (arith, first, step)),
      subst (λ b. AllByRecursion (λ number. IfSome number (λ n. n ≤ most + 1)) (map log_number b.items)) (sym below) (low_on most (most + 1) old (omega arith) low).1,
    )

-- a commit's one fault is a failed change
pub change_counts : (done : Result (Unit {0}) StoreFault) (P : Type 0) → OnOk done P → OnOk (as_change done) P
change_counts (Ok t) P p = p
change_counts (Err f) P p = tt

pub change_fails : (file : ℕ) (old new : Disk) (done : Result (Unit {0}) StoreFault) → IfErr done (FailsToChange file old new) → IfErr (as_change done) (Fails file old new)
change_fails file old new (Ok t) failed = tt
change_fails file old new (Err f) failed = failed
