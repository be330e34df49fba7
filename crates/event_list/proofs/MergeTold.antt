-- Answered steps of a merge are told how it stands.
use Rattle.std.proofs.Common.{◌≡◌, ◌<◌, ◌^◌, ◌||◌, ◌==◌, ℕ, Bool, true, false, List, length, Option, Some, None, Result, Ok, Err, refl, sym, ap, ap₂, subst, ◌∙◌}
use Rattle.std.specs.Prelude.{IfSome, OnErr, if◌then◌else◌, is_some}
use Rattle.std.proofs.lemmas.Bool.{eqb-true, lt-ltb}
use Rattle.vx_base.specs.declared.parts.Geometry.{Geometry}
use Rattle.store_model.specs.declared.fault.StoreFault.{StoreFault}
use Rattle.store_model.specs.Trace.{Trace}
use Rattle.guest_model.specs.declared.refusal.ChainRefusal.{ChainRefusal}
use Rattle.guest_model.specs.declared.refusal.ChainRefusal.TheVariants.{Abandoned, Broken, EmptyRange, FileFull, NoMerge, NoPiece, NoRoom, NoStripe, NotYet, OutOfRange, ReadFault, ReadOnly, Spent, Stale, TooLong}
use Rattle.chain_model.specs.Merges.{with_mark}
use Rattle.chain_model.specs.Stripes.{stripe_count}
use Rattle.merge_core.specs.Pieces.{piece_of}
use Rattle.merge_core.specs.declared.piece.Piece.{Piece}
use Rattle.chain_core.specs.Answering.{fault_of}
use Rattle.chain_core.specs.Copying.{IfStopped, fetch_refused, merge_refused, no_merge as no_merge_in, no_stripe, past_stripes, put_refused, stale, stamp_of, unfilled}
use Rattle.chain_core.specs.Finished.{FinishAnswers, FinishCause, HasFinished}
use Rattle.chain_core.specs.Merging.{with_put}
use Rattle.chain_core.specs.Refusing.{broken_by, or_else, unfit}
use Rattle.chain_core.specs.Sessions.{Session, has_merge}
use Rattle.chain_core.specs.States.{IsServing, State}
use Rattle.chain_core.specs.declared.layers.Retiring.{Retiring}
use Rattle.chain_core.specs.declared.layers.Underway.{Underway}
use Rattle.script_session.specs.Histories.{Break, Drive, HoldsWaiting, IsEndTold, IsMarkedSo, IsOver, IsSoLong, IsWaiting, Waiting, fault_in, not_waiting, stamp_behind, stripes_of}
use Rattle.script_session.specs.MergeSteps.{AnswersFinish, IsUnchanged}
use Rattle.script_session.proofs.Copying.{FetchEnds, IsCopying, PutEnds, Unfetched, fetch_err, fetch_ok, has_failed, is_fit, is_past, lowest_is, marked_is, merge_cause, never_stale, over_kept, put_cause, put_err, put_fails, put_ok, put_stops, unchanged}
use Rattle.script_session.proofs.LeftFiles.{later_put}
use Rattle.script_session.proofs.Lengths.{grows_none, moments_grow, past_free}
use Rattle.script_session.proofs.Moving.{unfilled_refused}
use Rattle.script_session.proofs.Steps.{broken_refused, copy_none, fetch_none, finish_left, put_none}
use Rattle.script_session.proofs.Telling.{both_told}
use Rattle.event_list.specs.Answered.{FetchesInto, PutsFrom, as_copied, as_finished, as_stamp}
use Rattle.event_list.specs.Histories.{IsAt, IsEventTold, Stage, emptied, event_cause, fetch_stopped, finish_breaks, is_fetched, is_finished, is_put, is_refused, no_merge, not_yet, put_breaks, put_stopped, under_way, with_slot}
use Rattle.event_list.specs.declared.event.Event.{Event}
use Rattle.event_list.specs.declared.event.Event.TheVariants.{Fetch, Put, Finish}
use Rattle.event_list.specs.declared.event.EventAnswer.{EventAnswer}
use Rattle.event_list.specs.declared.event.EventAnswer.TheVariants.{Copied, Finished, Refused, Stamp}
use Rattle.event_list.proofs.Exchanged.{HoldsAll, HoldsEach, holds_emptied, holds_exchanged, true_put, waits_still}
use Rattle.event_list.proofs.OneTold.{EventTold, StandsWith, barred, breaks, broken_with, goes_on, serves_with}

-- ---- one step

module _ (drive : Drive) (v : State) (old new : Session) (pieces left : List Piece) (over : IsOver drive v old) (trace : Trace) (seen : old.disk.told ≡ Some trace) (few : old.events < 2 ^ 63) where
  abbrev Line : Event → EventAnswer → Stage → Option Break → Type 0
  Line event answer stage broken = EventTold drive event answer v stage broken old.events trace new left

  copying_of : (l : Bool) (copied : ℕ → Bool) → old.broken ≡ None → IsServing old.layers v trace → IsMarkedSo old.layers copied l → IsCopying drive v old trace l copied
  copying_of l copied whole serving marks = record { whole = whole; serving = serving; marks = marks; over = over; seen = seen }

  place_emptied : (slot : ℕ) (stage : Stage) → IsAt old.layers stage → IsAt old.layers (emptied slot stage)
  place_emptied slot no_merge at = at
  place_emptied slot (under_way l copied waits) at = at

  -- ---- a fetch

  fetch_barred : (slot stripe : ℕ) (stage : Stage) (broken : Option Break) (answer : Result ℕ ChainRefusal) (x : ChainRefusal) → fetch_refused stripe old ≡ Some x → event_cause drive v.history (fault_in broken) stage (Fetch slot stripe) ≡ Some x
      → StandsWith v old pieces trace stage broken → FetchesInto slot stripe answer old pieces new left → Line (Fetch slot stripe) (as_stamp answer) stage broken
  fetch_barred slot stripe stage broken answer x refused cause stands h =
      let early = subst (λ o. IfStopped {T = ℕ} o answer (IsUnchanged old new)) refused h.fetched.early in
      let empty : h.now.filled ≡ false = subst (λ (a : Result ℕ ChainRefusal). OnErr a (h.now.filled ≡ false)) early.0 h.fetched.emptied in
      subst (λ a. Line (Fetch slot stripe) (as_stamp a) stage broken) (sym early.0)
      (barred drive v old new pieces left over trace seen (Fetch slot stripe) stage broken x cause refl early.1 h.fetched.events stands (place_emptied slot stage)
      (holds_emptied v old.layers.geometry slot h.was h.now pieces left stage h.only empty))

  fetch_ended : (slot stripe : ℕ) (l : Bool) (copied : ℕ → Bool) (waits : ℕ → Option Waiting) (x : ChainRefusal) → FetchesInto slot stripe (Err x) old pieces new left → HoldsAll v old.layers.geometry pieces waits → Unfetched drive v trace new l copied stripe x
      → Line (Fetch slot stripe) (Refused x) (under_way l copied waits) None
  fetch_ended slot stripe l copied waits x h holds u = go x u.ends
    where
      still : (piece : Piece) (o : Option Waiting) → HoldsWaiting v old.layers.geometry piece o → HoldsWaiting v new.layers.geometry piece o
      still = waits_still v v old.layers.geometry new.layers.geometry h.fetched.keeps.geometry (λ p is. is)

      on : (x : ChainRefusal) → IsEventTold drive v.history (under_way l copied waits) None (Fetch slot stripe) (Refused x) (under_way l copied (with_slot slot None waits)) None → IsEndTold (IsSoLong v.writes u.now) (Err x)
          → Line (Fetch slot stripe) (Refused x) (under_way l copied waits) None
      on x told_so full =
          goes_on drive v old new pieces left over trace seen (Fetch slot stripe) (Refused x) (under_way l copied waits) v u.now l copied (with_slot slot None waits) told_so refl (λ k later is. is) u.copying
          (holds_exchanged v v old.layers.geometry new.layers.geometry slot h.was h.now pieces left None waits h.only h.fetched.emptied still holds) h.fetched.events full u.grows

      go : (x : ChainRefusal) → FetchEnds drive stripe x → Line (Fetch slot stripe) (Refused x) (under_way l copied waits) None
      go x (is_past _ past) = on x (is_refused (under_way l copied waits) None (Fetch slot stripe) x past) (past_free (IsSoLong v.writes u.now) stripe (stripes_of drive) x past)
      go _ (has_failed file count there) = on (ReadFault file count) (fetch_stopped l copied waits slot stripe file count there) tt

  pub fetch_told : (slot stripe : ℕ) (stage : Stage) (broken : Option Break) (answer : Result ℕ ChainRefusal) → StandsWith v old pieces trace stage broken → FetchesInto slot stripe answer old pieces new left
      → Line (Fetch slot stripe) (as_stamp answer) stage broken
  fetch_told slot stripe stage (Some b) answer (broken_with _ e others past last) h =
      fetch_barred slot stripe stage (Some b) answer (Broken b.fault.file b.fault.count) (broken_refused old (no_stripe stripe old.layers) b.fault few e) refl (broken_with b e others past last) h
  fetch_told slot stripe no_merge None answer (serves_with whole serving at holds) h =
      fetch_barred slot stripe no_merge None answer NoMerge (fetch_none old few whole at.0 at.1 stripe) refl (serves_with whole serving at holds) h
  fetch_told slot stripe (under_way l copied waits) None (Ok stamp) (serves_with whole serving at holds) h =
      let f = fetch_ok drive v old trace l copied (copying_of l copied whole serving at) few stripe stamp new h.now h.fetched in
      let w : Waiting = record { stripe = stripe; stamp = stamp_behind l v.history stripe } in
      let still : (piece : Piece) (o : Option Waiting) → HoldsWaiting v old.layers.geometry piece o → HoldsWaiting v new.layers.geometry piece o = waits_still v v old.layers.geometry new.layers.geometry h.fetched.keeps.geometry (λ p is. is) in
      goes_on drive v old new pieces left over trace seen (Fetch slot stripe) (Stamp stamp) (under_way l copied waits) v f.now l copied (with_slot slot (Some w) waits)
      (subst (λ n. IsEventTold drive v.history (under_way l copied waits) None (Fetch slot stripe) (Stamp n) (under_way l copied (with_slot slot (Some w) waits)) None) (sym f.stamp_is) (is_fetched l copied waits slot stripe f.inside))
      refl (λ k later is. is) f.copying (holds_exchanged v v old.layers.geometry new.layers.geometry slot h.was h.now pieces left (Some w) waits h.only f.waiting still holds) h.fetched.events tt f.grows
  fetch_told slot stripe (under_way l copied waits) None (Err x) (serves_with whole serving at holds) h =
      fetch_ended slot stripe l copied waits x h holds (fetch_err drive v old trace l copied (copying_of l copied whole serving at) few stripe x new h.now h.fetched)

  -- ---- a put

  put_barred : (slot : ℕ) (stage : Stage) (broken : Option Break) (answer : Result (Unit {0}) ChainRefusal) (x : ChainRefusal) (h : PutsFrom slot answer old pieces new left) → put_refused h.was old ≡ Some x
      → event_cause drive v.history (fault_in broken) stage (Put slot) ≡ Some x → StandsWith v old pieces trace stage broken → Line (Put slot) (as_copied answer) stage broken
  put_barred slot stage broken answer x h refused cause stands =
      let early = subst (λ o. IfStopped {T = Unit {0}} o answer (IsUnchanged old new)) refused h.put.early in
      subst (λ a. Line (Put slot) (as_copied a) stage broken) (sym early.0)
      (barred drive v old new pieces left over trace seen (Put slot) stage broken x cause refl early.1 h.put.events stands (place_emptied slot stage)
      (holds_emptied v old.layers.geometry slot h.was h.now pieces left stage h.only h.empty))

  module _ (slot : ℕ) (l : Bool) (copied : ℕ → Bool) (waits : ℕ → Option Waiting) (w : Waiting) (here : waits slot ≡ Some w) (c : IsCopying drive v old trace l copied) (holds : HoldsAll v old.layers.geometry pieces waits) where
    abbrev stage : Stage
    stage = under_way l copied waits

    -- what stood in the slot is what waits there
    held_by : (answer : Result (Unit {0}) ChainRefusal) (h : PutsFrom slot answer old pieces new left) → IsWaiting v old.layers.geometry w h.was
    held_by answer h = subst (λ o. HoldsWaiting v old.layers.geometry h.was o) here (holds slot h.was h.only.there)

    left_with : (answer : Result (Unit {0}) ChainRefusal) (h : PutsFrom slot answer old pieces new left) → HoldsAll v new.layers.geometry left (with_slot slot None waits)
    left_with answer h = holds_exchanged v v old.layers.geometry new.layers.geometry slot h.was h.now pieces left None waits h.only h.empty (waits_still v v old.layers.geometry new.layers.geometry h.put.keeps.geometry (λ p is. is)) holds

    put_ended : (now : Trace) (x : ChainRefusal) → w.stamp ≡ stamp_behind l v.history w.stripe → PutsFrom slot (Err x) old pieces new left → new.disk.told ≡ Some now → PutEnds drive v new l copied trace now x → Line (Put slot) (Refused x) stage None
    put_ended now x fresh h told (put_stops _ stops full grows k) =
        goes_on drive v old new pieces left over trace seen (Put slot) (Refused x) stage v now l copied (with_slot slot None waits) (put_stopped l copied waits slot w x here fresh stops) refl (λ k later is. is) k (left_with (Err x) h) h.put.events full grows
    put_ended now _ fresh h told (put_fails file count broken ended) =
        breaks drive v old new pieces left over trace seen (Put slot) (Refused (Broken file count)) stage (under_way l copied (with_slot slot None waits)) now (fault_of file count) (put_breaks l copied waits slot w (fault_of file count) here fresh) refl
        (over_kept drive v old new over h.put.keeps) told broken ended h.put.events tt (moments_grow _ trace now ended.moments)

    -- what waits is what its stripe has
    put_fresh : (answer : Result (Unit {0}) ChainRefusal) → w.stamp ≡ stamp_behind l v.history w.stripe → PutsFrom slot answer old pieces new left → Line (Put slot) (as_copied answer) stage None
    put_fresh (Ok done) fresh h =
        let p = put_ok drive v old trace l copied c w h.was (held_by (Ok done) h) new h.put in
        goes_on drive v old new pieces left over trace seen (Put slot) Copied stage (with_put (piece_of h.was) v) p.now l (with_mark w.stripe copied) (with_slot slot None waits) (is_put l copied waits slot w here fresh) refl
        (later_put v (piece_of h.was)) p.copying
        (holds_exchanged v (with_put (piece_of h.was) v) old.layers.geometry new.layers.geometry slot h.was h.now pieces left None waits h.only h.empty
        (waits_still v (with_put (piece_of h.was) v) old.layers.geometry new.layers.geometry h.put.keeps.geometry (true_put (piece_of h.was) v)) holds)
        h.put.events tt p.grows
    put_fresh (Err x) fresh h =
        let held = held_by (Err x) h in
        let none : put_refused h.was old ≡ None = put_cause drive v old trace l copied c w h.was few held ∙ ap (stale w.stamp) (sym fresh) ∙ never_stale w.stamp in
        let p = put_err drive v old trace l copied c w h.was held x new none h.put in
        put_ended p.0 x fresh h p.1 p.2

    put_waiting : (answer : Result (Unit {0}) ChainRefusal) → StandsWith v old pieces trace stage None → PutsFrom slot answer old pieces new left → Line (Put slot) (as_copied answer) stage None
    put_waiting answer stands h = by_test (w.stamp == stamp_behind l v.history w.stripe) refl
      where
        by_test : (b : Bool) → (w.stamp == stamp_behind l v.history w.stripe) ≡ b → Line (Put slot) (as_copied answer) stage None
        by_test true same = put_fresh answer (eqb-true w.stamp (stamp_behind l v.history w.stripe) same) h
        by_test false other =
            let is : stale w.stamp (stamp_behind l v.history w.stripe) ≡ Some (Stale w.stamp (stamp_behind l v.history w.stripe)) = ap (λ b. if b then None else Some (Stale w.stamp (stamp_behind l v.history w.stripe))) other in
            put_barred slot stage None answer (Stale w.stamp (stamp_behind l v.history w.stripe)) h (put_cause drive v old trace l copied c w h.was few (held_by answer h) ∙ is)
            (ap (not_waiting l v.history) here ∙ is) stands

  pub put_told : (slot : ℕ) (stage : Stage) (broken : Option Break) (answer : Result (Unit {0}) ChainRefusal) → StandsWith v old pieces trace stage broken → PutsFrom slot answer old pieces new left → Line (Put slot) (as_copied answer) stage broken
  put_told slot stage (Some b) answer (broken_with _ e others past last) h =
      put_barred slot stage (Some b) answer (Broken b.fault.file b.fault.count) h (broken_refused old _ b.fault few e) refl (broken_with b e others past last)
  put_told slot no_merge None answer (serves_with whole serving at holds) h =
      put_barred slot no_merge None answer NoMerge h (put_none old few whole at.0 at.1 h.was) refl (serves_with whole serving at holds)
  put_told slot (under_way l copied waits) None answer (serves_with whole serving at holds) h = by_slot (waits slot) refl
    where
      c : IsCopying drive v old trace l copied
      c = copying_of l copied whole serving at

      by_slot : (o : Option Waiting) → waits slot ≡ o → Line (Put slot) (as_copied answer) (under_way l copied waits) None
      by_slot None none =
          let empty : h.was.filled ≡ false = subst (λ o. HoldsWaiting v old.layers.geometry h.was o) none (holds slot h.was h.only.there) in
          put_barred slot (under_way l copied waits) None answer NoPiece h (unfilled_refused old h.was (merge_cause drive v old trace l copied c few) empty)
          (ap (not_waiting l v.history) none) (serves_with whole serving at holds)
      by_slot (Some w) here = put_waiting slot l copied waits w here c holds answer (serves_with whole serving at holds) h

  -- ---- a finish

  finish_barred : (stage : Stage) (broken : Option Break) (answer : Result (Unit {0}) ChainRefusal) (x : ChainRefusal) → merge_refused old ≡ Some x → event_cause drive v.history (fault_in broken) stage Finish ≡ Some x → StandsWith v old pieces trace stage broken
      → AnswersFinish answer old new → left ≡ pieces → Line Finish (as_finished answer) stage broken
  finish_barred stage broken answer x refused cause stands h same =
      let early = subst (λ o. IfStopped {T = Unit {0}} o answer (IsUnchanged old new)) refused h.early in
      subst (λ a. Line Finish (as_finished a) stage broken) (sym early.0)
      (barred drive v old new pieces left over trace seen Finish stage broken x cause refl early.1 h.events stands (λ at. at) (λ holds. subst (λ ps. HoldsEach v old.layers.geometry ps stage) (sym same) holds))

  module _ (l : Bool) (copied : ℕ → Bool) (waits : ℕ → Option Waiting) (under : IsCopying drive v old trace l copied) (holds : HoldsAll v old.layers.geometry pieces waits) (same : left ≡ pieces) where
    finished_is : AnswersFinish (Ok tt) old new → merge_refused old ≡ None → Line Finish Finished (under_way l copied waits) None
    finished_is h none =
        let cause : HasFinished old new = h.cause none in
        let after = both_told _ old.disk.told new.disk.told trace seen (h.told none) in
        let left_so = finish_left old.layers new.layers v after.0 old.layers.retiring under.serving.leaving (after.2 v under.serving).1 in
        let now_over = over_kept drive v old new over h.keeps in
        record {
          state = left_so.state;
          now = after.0;
          on = no_merge;
          after = None;
          told_so = is_finished l copied waits (marked_is drive v old trace l copied under h.sound cause.copied);
          history = sym left_so.history;
          same = left_so.same;
          over = record {
            geometry = now_over.geometry;
            change = now_over.change;
            opening = left_so.opening ∙ now_over.opening;
            sector = ap (λ (g : Geometry). g.sector) (sym left_so.serving.geometry) ∙ ap (λ (g : Geometry). g.sector) h.keeps.geometry ∙ ap (λ (g : Geometry). g.sector) under.serving.geometry ∙ now_over.sector;
            noted = now_over.noted ∙ ap length (sym left_so.history);
            kept = subst (λ hs. IfSome new.told (λ t. t ≡ hs)) (sym left_so.history) now_over.kept;
          };
          seen = after.1;
          stands = serves_with cause.whole left_so.serving cause.merge tt;
          few = h.events;
          full = tt;
          grows = moments_grow _ trace after.0 (after.2 v under.serving).0;
        }

    finish_ended : (x : ChainRefusal) (now : Trace) → FinishCause old new (Err x) (IsUnchanged old new) → AnswersFinish (Err x) old new → new.disk.told ≡ Some now → FinishAnswers old.layers.retiring v new.layers trace now (Err x)
        → Line Finish (Refused x) (under_way l copied waits) None
    finish_ended EmptyRange now c h told a = absurd c
    finish_ended (OutOfRange first count sectors) now c h told a = absurd c
    finish_ended (TooLong count limit) now c h told a = absurd c
    finish_ended ReadOnly now c h told a = absurd c
    finish_ended (Broken file count) now c h told a =
        breaks drive v old new pieces left over trace seen Finish (Refused (Broken file count)) (under_way l copied waits) (under_way l copied waits) now (fault_of file count)
        (finish_breaks l copied waits (fault_of file count) (marked_is drive v old trace l copied under h.sound c.copied)) refl
        (over_kept drive v old new over h.keeps) told c.broken a h.events tt (moments_grow _ trace now a.moments)
    finish_ended (Spent t) now c h told a = absurd c
    finish_ended (FileFull next) now c h told a = absurd c
    finish_ended (ReadFault file count) now c h told a = absurd c
    finish_ended NoMerge now c h told a = absurd c
    finish_ended (Stale taken at) now c h told a = absurd c
    finish_ended (NotYet stripe) now c h told a =
        let only : IsUnchanged old new = c.1 in
        goes_on drive v old new pieces left over trace seen Finish (Refused (NotYet stripe)) (under_way l copied waits) v trace l copied waits (not_yet l copied waits stripe (lowest_is drive v old trace l copied under stripe h.sound c.0)) refl (λ hs later is. is)
        (unchanged drive v old trace l copied under new only)
        (subst (λ (s : Session). HoldsAll v s.layers.geometry left waits) (sym only) (subst (λ ps. HoldsAll v old.layers.geometry ps waits) (sym same) holds)) h.events tt (grows_none trace)
    finish_ended (Abandoned file count) now c h told a = absurd c
    finish_ended (NoStripe stripe stripes) now c h told a = absurd c
    finish_ended NoPiece now c h told a = absurd c
    finish_ended NoRoom now c h told a = absurd c

    finish_under : (answer : Result (Unit {0}) ChainRefusal) → AnswersFinish answer old new → merge_refused old ≡ None → Line Finish (as_finished answer) (under_way l copied waits) None
    finish_under (Ok done) h none = finished_is h none
    finish_under (Err x) h none =
        let after = both_told _ old.disk.told new.disk.told trace seen (h.told none) in
        finish_ended x after.0 (h.cause none) h after.1 (after.2 v under.serving)

  pub finish_told : (stage : Stage) (broken : Option Break) (answer : Result (Unit {0}) ChainRefusal) → StandsWith v old pieces trace stage broken → AnswersFinish answer old new → left ≡ pieces → Line Finish (as_finished answer) stage broken
  finish_told stage (Some b) answer (broken_with _ e others past last) h same =
      finish_barred stage (Some b) answer (Broken b.fault.file b.fault.count) (broken_refused old _ b.fault few e) refl (broken_with b e others past last) h same
  finish_told no_merge None answer (serves_with whole serving at holds) h same =
      finish_barred no_merge None answer NoMerge (copy_none old few whole at.0 at.1) refl (serves_with whole serving at holds) h same
  finish_told (under_way l copied waits) None answer (serves_with whole serving at holds) h same =
      let c = copying_of l copied whole serving at in
      finish_under l copied waits c holds same answer h (merge_cause drive v old trace l copied c few)
