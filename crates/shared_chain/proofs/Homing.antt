-- A call keeps what holds of a chain whenever nobody has it.
use Rattle.std.proofs.Common.{◌≡◌, ◌+◌, ◌++◌, ◌∷◌, ℕ, [], length, Option, Some, None, Result, Ok, Err, refl, sym, ap, subst, ◌∙◌}
use Rattle.std.specs.Prelude.{IfSome, is_some}
use Rattle.store_model.specs.Disk.{WhereBothTold, WhereTold}
use Rattle.store_model.specs.Trace.{Trace}
use Rattle.store_model.specs.declared.fault.StoreFault.{StoreFault}
use Rattle.store_model.proofs.Told.{both_join}
use Rattle.guest_model.specs.declared.call.Call.{Call}
use Rattle.guest_model.specs.declared.call.Caller.{Caller}
use Rattle.guest_model.specs.declared.call.Entry.{Entry}
use Rattle.guest_model.specs.declared.call.Reply.{Reply}
use Rattle.guest_model.specs.declared.refusal.ChainRefusal.{ChainRefusal}
use Rattle.guest_model.specs.declared.refusal.ChainRefusal.TheVariants.{Abandoned, Broken, EmptyRange, FileFull, NoMerge, NoPiece, NoRoom, NoStripe, NotYet, OutOfRange, ReadFault, ReadOnly, Spent, Stale, TooLong}
use Rattle.guest_model.specs.Calls.{Disk as GuestDisk, reply}
use Rattle.guest_model.specs.History.{History, replay}
use Rattle.chain_core.specs.Answering.{HasBroken, IsDone, IsRefused, fault_of}
use Rattle.chain_core.specs.Answering as chain
use Rattle.chain_core.specs.Refusing.{counted, refused}
use Rattle.chain_core.specs.Sessions.{IsSound, Session}
use Rattle.vx_base.specs.declared.parts.Geometry.{Geometry}
use Rattle.chain_core.specs.States.{IsNextPlace, IsServing, NextIn, Rest, State, dirty_now, disk_now, entry, merging, plain, retiring, sector_of, with_entry}
use Rattle.layer_session.proofs.Equal.{none_some, ok_err, some_none, some_same}
use Rattle.script_session.specs.Histories.{Grows, IsLater, IsSoLong}
use Rattle.script_session.proofs.LeftFiles.{later_itself}
use Rattle.script_session.proofs.Lengths.{moments_grow}
use Rattle.shared_chain.specs.Answers.{Answered, IsEntered}
use Rattle.shared_chain.specs.declared.basis.Breach.{Breach}
use Rattle.shared_chain.specs.Faults.{fault_after}
use Rattle.shared_chain.specs.Homes.{ComesTo, Follows, HasStopped, IsHome}
use Rattle.shared_chain.specs.Notes.{full_after}
use Rattle.shared_chain.specs.Steps.{breach_of, broke_after, first_breach}
use Rattle.shared_chain.proofs.Breaking.{early_same, last_broken, none_broke, past_broken}
use Rattle.shared_chain.proofs.Counting.{counted_after, fresh_counted}
use Rattle.shared_chain.proofs.Filling.{far, long_after, second_told}
use Rattle.shared_chain.proofs.Later.{later_entry, later_through}
use Rattle.shared_chain.proofs.Reaching.{IsReached, reached}
use Rattle.shared_chain.proofs.Refusals.{early, not_early}
use Rattle.shared_chain.proofs.Stamped.{stamps_begin, stamps_call}

-- ---- small steps

-- the place of the next call
next_place : (v : State) (noted : ℕ) → noted ≡ length v.history → IsNextPlace (noted + 1) v
next_place v noted same = by_rest v.rest
  where
    by_rest : (rest : Rest) → NextIn rest (noted + 1 ≡ length v.history + 1)
    by_rest (plain others) = tt
    by_rest (merging above source target below m) = tt
    by_rest (retiring target below first before) = ap (λ n. n + 1) same

-- a session that isn't broken has not stopped
pub whole_not_stopped : (o : Option StoreFault) (P : StoreFault → Type 0) → o ≡ None → IfSome o P
whole_not_stopped o P e = subst (λ b. IfSome b P) (sym e) tt

pub broken_not_whole : (o : Option StoreFault) (fault : StoreFault) (P : Type 0) → o ≡ Some fault → o ≡ None → P
broken_not_whole o fault P e n = absurd (some_none (sym e ∙ n))

pub stopped_by : (o : Option StoreFault) (fault : StoreFault) (P : StoreFault → Type 0) → o ≡ Some fault → P fault → IfSome o P
stopped_by o fault P e h = subst (λ b. IfSome b P) (sym e) h

-- a session begins at home
pub begins : (s : Session) → IsSound s → s.broken ≡ None → IsHome s s [] None None None
begins s sound whole = record {
  sound = sound;
  geometry = refl;
  session = refl;
  stamps = stamps_begin s.layers;
  breaks = sym (ap (λ (o : Option StoreFault). is_some o) whole);
  counted = fresh_counted s None whole tt;
  follows = go s.disk.told;
}
  where
    by_trace : (trace : Trace) (from : State) → IsServing s.layers from trace → from.history ≡ [] → Follows from [] None None s trace
    by_trace trace from serving empty = record {
      to = from;
      comes = record { later = subst (λ k. IsLater from k from) empty (later_itself from); sector = refl };
      serves = λ is. serving;
      stopped = whole_not_stopped s.broken (λ fault. HasStopped from None trace) whole;
      long = tt;
    }

    go : (o : Option Trace) → WhereBothTold (λ trace after. (from : State) → IsServing s.layers from trace → from.history ≡ [] → Follows from [] None None s after) o o
    go None = tt
    go (Some trace) = by_trace trace

-- ---- a call

-- one more call
more : (from v : State) (h h' : History) (e : Entry) → ComesTo from h v → h' ≡ h ++ e ∷ [] → ComesTo from h' (with_entry e v)
more from v h h' e c is = record {
  later = subst (λ k. IsLater from k (with_entry e v)) (ap (λ k. k ++ e ∷ []) c.later.history ∙ sym is) (later_through from v h (v.history ++ e ∷ []) (with_entry e v) c.later (later_entry e v));
  sector = c.sector;
}

same_come : (from v : State) (h h' : History) → ComesTo from h v → h' ≡ h → ComesTo from h' v
same_come from v h h' c is = subst (λ k. ComesTo from k v) (sym is) c

module _ (from : State) (h h' : History) (old new : Session) (full full' : Option ℕ) (broke : Option Breach) (who : Caller) (call : Call) (now : Trace) (sector : old.layers.geometry.sector ≡ 512) (none : broke ≡ None) where
  refused_follows : (f : Follows from h full broke old now) (after : Trace) → (Grows now after → IfSome full' (IsSoLong from.writes after)) → new.broken ≡ None → IsRefused f.to new.layers now after → h' ≡ h → (broke' : Option Breach) → Follows from h' full' broke' new after
  refused_follows f after long whole r is broke' = record {
    to = f.to;
    comes = same_come from f.to h h' f.comes is;
    serves = λ n. r.serving;
    stopped = whole_not_stopped new.broken (λ fault. HasStopped f.to broke' after) whole;
    long = long (moments_grow _ now after r.moments);
  }

  has_stopped : (f : Follows from h full broke old now) (after : Trace) → IsServing old.layers f.to now → HasBroken (entry who call) f.to now after → HasStopped f.to (Some (first_breach broke (breach_of who call))) after
  has_stopped f after serving a =
      let size : sector_of f.to ≡ 512 = sym (ap (λ (g : Geometry). g.sector) serving.geometry) ∙ sector in
      subst (λ (b : Option Breach). HasStopped f.to (Some (first_breach b (breach_of who call))) after) (sym none)
      (record {
        still = a.still;
        past = past_broken who call (sector_of f.to) f.to.opening f.to.history f.to.leaf f.to.began after size a.past;
        last = last_broken who call (sector_of f.to) (dirty_now f.to) f.to.leaf (disk_now f.to) now after size a.moments;
      })

  by_answer : (answer : Result ℕ ChainRefusal) (f : Follows from h full broke old now) (after : Trace) → (Grows now after → IfSome full' (IsSoLong from.writes after)) → IsServing old.layers f.to now → IsReached old new answer → chain.Answers (entry who call) f.to new.layers now after answer
      → IsEntered (entry who call) h h' answer → Follows from h' full' (broke_after broke (breach_of who call) answer) new after
  by_answer (Ok place) f after long serving is a entered = record {
    to = with_entry (entry who call) f.to;
    comes = more from f.to h h' (entry who call) f.comes entered.0;
    serves = λ n. a.serving;
    stopped = whole_not_stopped new.broken (λ fault. HasStopped (with_entry (entry who call) f.to) broke after) is.1;
    long = long (moments_grow _ now after a.moments);
  }
  by_answer (Err (Broken file count)) f after long serving is a entered = record {
    to = f.to;
    comes = same_come from f.to h h' f.comes entered;
    serves = broken_not_whole new.broken (fault_of file count) (IsServing new.layers f.to after) is.1;
    stopped = stopped_by new.broken (fault_of file count) (λ fault. HasStopped f.to (Some (first_breach broke (breach_of who call))) after) is.1 (has_stopped f after serving a);
    long = long (moments_grow _ now after a.moments);
  }
  by_answer (Err NoRoom) f after long serving is a entered = refused_follows f after long is.1 a entered broke
  by_answer (Err (ReadFault file count)) f after long serving is a entered = refused_follows f after long is.1 a entered broke
  by_answer (Err (FileFull next)) f after long serving is a entered = refused_follows f after long is.1 a entered broke
  by_answer (Err EmptyRange) f after long serving is a entered = absurd is
  by_answer (Err (OutOfRange a' b c)) f after long serving is a entered = absurd is
  by_answer (Err (TooLong a' b)) f after long serving is a entered = absurd is
  by_answer (Err ReadOnly) f after long serving is a entered = absurd is
  by_answer (Err (Spent t)) f after long serving is a entered = absurd is
  by_answer (Err NoMerge) f after long serving is a entered = absurd is
  by_answer (Err (Stale taken at)) f after long serving is a entered = absurd is
  by_answer (Err (NotYet stripe)) f after long serving is a entered = absurd is
  by_answer (Err (Abandoned file count)) f after long serving is a entered = absurd is
  by_answer (Err (NoStripe stripe stripes)) f after long serving is a entered = absurd is
  by_answer (Err NoPiece) f after long serving is a entered = absurd is

-- only the count of events is another
follows_counted : (from : State) (h : History) (full : Option ℕ) (broke : Option Breach) (s : Session) (now : Trace) (n : ℕ) → Follows from h full broke s now → Follows from h full broke (record s { events = n }) now
follows_counted from h full broke s now n f = record { to = f.to; comes = f.comes; serves = f.serves; stopped = f.stopped; long = f.long }

pub home_counted : (first s : Session) (h : History) (full : Option ℕ) (broke : Option Breach) (fault : Option StoreFault) (n : ℕ) → IsHome first s h full broke fault → IsSound (record s { events = n }) → IsHome first (record s { events = n }) h full broke fault
home_counted first s h full broke fault n home sound = record {
  sound = sound;
  geometry = home.geometry;
  session = home.session;
  stamps = home.stamps;
  breaks = home.breaks;
  counted = home.counted;
  follows = go first.disk.told s.disk.told home.follows;
}
  where
    go : (a b : Option Trace) → WhereBothTold (λ trace after. (from : State) → IsServing first.layers from trace → from.history ≡ [] → Follows from h full broke s after) a b
        → WhereBothTold (λ trace after. (from : State) → IsServing first.layers from trace → from.history ≡ [] → Follows from h full broke (record s { events = n }) after) a b
    go None None f = tt
    go None (Some b) f = absurd f
    go (Some a) None f = absurd f
    go (Some a) (Some b) f = λ from serving empty. follows_counted from h full broke s b n (f from serving empty)

pub stays_entered : (e : Entry) (h h' : History) (answer : Result ℕ ChainRefusal) (x : ChainRefusal) → answer ≡ Err x → IsEntered e h h' answer → h' ≡ h
stays_entered e h h' (Ok place) x is entered = absurd (ok_err is)
stays_entered e h h' (Err y) x is entered = entered

-- what broke the session goes with whether it is broken
broke_with : (old new : Session) (broke : Option Breach) (b : Breach) (answer : Result ℕ ChainRefusal) → broke ≡ None → IsReached old new answer → is_some (broke_after broke b answer) ≡ is_some new.broken
broke_with old new broke b answer none = go answer
  where
    whole : (o : Option StoreFault) → o ≡ None → is_some broke ≡ is_some o
    whole o e = ap (λ (x : Option Breach). is_some x) none ∙ sym (ap (λ (x : Option StoreFault). is_some x) e)

    go : (answer : Result ℕ ChainRefusal) → IsReached old new answer → is_some (broke_after broke b answer) ≡ is_some new.broken
    go (Ok place) is = whole new.broken is.1
    go (Err (Broken file count)) is = sym (ap (λ (x : Option StoreFault). is_some x) is.1)
    go (Err NoRoom) is = whole new.broken is.1
    go (Err (ReadFault file count)) is = whole new.broken is.1
    go (Err (FileFull next)) is = whole new.broken is.1
    go (Err EmptyRange) is = absurd is
    go (Err (OutOfRange a' b c)) is = absurd is
    go (Err (TooLong a' b)) is = absurd is
    go (Err ReadOnly) is = absurd is
    go (Err (Spent t)) is = absurd is
    go (Err NoMerge) is = absurd is
    go (Err (Stale taken at)) is = absurd is
    go (Err (NotYet stripe)) is = absurd is
    go (Err (Abandoned file count)) is = absurd is
    go (Err (NoStripe stripe stripes)) is = absurd is
    go (Err NoPiece) is = absurd is

-- the fault that broke it was told last
pub told_last : (broken fault : Option StoreFault) (P : StoreFault → Type 0) → IfSome broken (λ f. (fault ≡ Some f) × P f) → (f : StoreFault) → broken ≡ Some f → fault ≡ Some f
told_last broken fault P h f is = (subst (λ o. IfSome o (λ f. (fault ≡ Some f) × P f)) is h).0

module _ (first old new : Session) (h h' : History) (full : Option ℕ) (broke : Option Breach) (fault : Option StoreFault) (who : Caller) (call : Call) (answer : Result ℕ ChainRefusal) (home : IsHome first old h full broke fault) (a : Answered who call old new answer)
    (many : old.noted ≡ length h) (entered : IsEntered (entry who call) h h' answer) where
  abbrev After : Result ℕ ChainRefusal → Session → History → Type 0
  After r s k = IsHome first s k (full_after full r) (broke_after broke (breach_of who call) r) (fault_after fault r)

  abbrev Went : Trace → Trace → Type 0
  Went trace after = (from : State) → IsServing first.layers from trace → from.history ≡ [] → Follows from h full broke old after

  pub still_home : After answer new h'
  still_home = go (refused call old) refl
    where
      go : (o : Option ChainRefusal) → refused call old ≡ o → After answer new h'
      go (Some e) is =
          let early_answer = subst (λ o. IfSome o (λ e. (answer ≡ Err e) × (new ≡ record old { events = counted old.events }))) is a.early in
          let sound : IsSound (record old { events = counted old.events }) = subst IsSound early_answer.1 a.sound in
          let same = early_same call old e full broke fault (breach_of who call) (early call old e is) home.breaks (told_last old.broken fault _ home.counted.broke) in
          subst (λ r. After r new h') (sym early_answer.0)
          (subst (λ f. IsHome first new h' (full_after full (Err e)) (broke_after broke (breach_of who call) (Err e)) f) (sym same.1)
          (subst (λ b. IsHome first new h' (full_after full (Err e)) b fault) (sym same.0)
          (subst (λ n. IsHome first new h' n broke fault) (sym same.2)
          (subst (λ k. IsHome first new k full broke fault) (sym (stays_entered (entry who call) h h' answer e early_answer.0 entered))
          (subst (λ s. IsHome first s h full broke fault) (sym early_answer.1) (home_counted first old h full broke fault (counted old.events) home sound))))))
      go None is =
          let fit = not_early call old is in
          let none : broke ≡ None = none_broke broke old.broken home.breaks fit.0 in
          let is_reached : IsReached old new answer = reached call old new answer home.sound is a.cause in
          record {
            sound = a.sound;
            geometry = a.geometry ∙ home.geometry;
            session = a.session ∙ home.session;
            stamps = stamps_call first.layers old.layers new.layers h h' (entry who call) home.sound.sector answer entered a.merge home.stamps;
            breaks = broke_with old new broke (breach_of who call) answer none is_reached;
            counted = counted_after call first.disk old new fault answer home.sound is a.cause home.counted;
            follows = both_join _ _ _ first.disk.told old.disk.told new.disk.told
                (λ t u w f ans from serving empty.
                let before = f.1 from serving empty in
                let long = long_after from.writes full answer u w before.long (λ next e. (far first old new h full broke fault home who call answer a is next e from u f.0 before).1.1) in
                by_answer from h h' old new full (full_after full answer) broke who call u home.sound.sector none answer before w long (before.serves fit.0) is_reached
                (ans before.to (before.serves fit.0) (next_place before.to old.noted (many ∙ ap length (sym before.comes.later.history)))) entered)
                (second_told Went first.disk.told old.disk.told home.follows) a.told;
          }

-- ---- what a read found

-- A reply that each state gives which the session has come to is that of the history, on the disk on which the session began.
pub replied_at : (first old : Session) (h : History) (full : Option ℕ) (broke : Option Breach) (fault : Option StoreFault) (call : Call) (r : Reply) → IsHome first old h full broke fault → old.broken ≡ None
    → ((t u : Trace) → first.disk.told ≡ Some t → old.disk.told ≡ Some u → (from to : State) → IsServing first.layers from t → from.history ≡ [] → IsLater from h to → IsServing old.layers to u → reply (disk_now to) call ≡ r)
    → WhereTold first.disk.told (λ trace. (from : State) → IsServing first.layers from trace → from.history ≡ [] → reply (replay (sector_of from) from.opening h) call ≡ r)
replied_at first old h full broke fault call r home whole finds = go first.disk.told refl old.disk.told refl home.follows
  where
    by_state : (t u : Trace) → first.disk.told ≡ Some t → old.disk.told ≡ Some u → (from : State) → IsServing first.layers from t → from.history ≡ [] → Follows from h full broke old u
        → reply (replay (sector_of from) from.opening h) call ≡ r
    by_state t u is_t is_u from serving empty f =
        let disk : replay (sector_of from) from.opening h ≡ disk_now f.to =
        ap (λ z. replay z from.opening h) (sym f.comes.sector) ∙ ap (λ (d : GuestDisk). replay (sector_of f.to) d h) (sym f.comes.later.opening) ∙ ap (λ k. replay (sector_of f.to) f.to.opening k) (sym f.comes.later.history) in
        ap (λ d. reply d call) disk ∙ finds t u is_t is_u from f.to serving empty f.comes.later (f.serves whole)

    go : (a : Option Trace) → first.disk.told ≡ a → (b : Option Trace) → old.disk.told ≡ b → WhereBothTold (λ trace after. (from : State) → IsServing first.layers from trace → from.history ≡ [] → Follows from h full broke old after) a b
        → WhereTold a (λ trace. (from : State) → IsServing first.layers from trace → from.history ≡ [] → reply (replay (sector_of from) from.opening h) call ≡ r)
    go None is_a b is_b f = λ t is. absurd (none_some is)
    go (Some t) is_a None is_b f = absurd f
    go (Some t) is_a (Some u) is_b f = λ k is. subst (λ (w : Trace). (from : State) → IsServing first.layers from w → from.history ≡ [] → reply (replay (sector_of from) from.opening h) call ≡ r) (some_same {x = t} {y = k} is)
        (λ from serving empty. by_state t u is_a is_b from serving empty (f from serving empty))
