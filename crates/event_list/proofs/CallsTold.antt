-- Answered calls are told the history.
use Rattle.std.proofs.Common.{inl, ◌≡◌, ◌<◌, ◌+◌, ◌^◌, ℕ, Bool, true, false, List, [], ◌∷◌, ◌++◌, length, Option, Some, None, Result, Ok, Err, refl, sym, ap, ap₂, subst, ◌∙◌, arith}
use Rattle.std.specs.Prelude.{IfSome, if◌then◌else◌, option_map}
use Rattle.std.proofs.lemmas.Bool.{lt-ltb}
use Rattle.std.proofs.lemmas.List.{length-append, take-append-le}
use Rattle.vx_base.specs.declared.parts.Geometry.{Geometry}
use Rattle.store_model.specs.Trace.{Trace}
use Rattle.guest_model.specs.declared.call.Call.{Call}
use Rattle.guest_model.specs.declared.call.Call.TheVariants as calls
use Rattle.guest_model.specs.declared.call.Caller.{Caller}
use Rattle.guest_model.specs.declared.call.Entry.{Entry}
use Rattle.guest_model.specs.declared.call.Reply.{Reply}
use Rattle.guest_model.specs.declared.refusal.ChainRefusal.{ChainRefusal}
use Rattle.guest_model.specs.declared.refusal.ChainRefusal.TheVariants.{Abandoned, Broken, EmptyRange, FileFull, NoMerge, NoPiece, NoRoom, NoStripe, NotYet, OutOfRange, ReadFault, ReadOnly, Spent, Stale, TooLong}
use Rattle.guest_model.specs.Calls.{Disk, reply}
use Rattle.guest_model.specs.History.{History, replay}
use Rattle.chain_model.specs.Layers.{with_history}
use Rattle.chain_model.specs.Merges as merges
use Rattle.merge_core.specs.declared.piece.Piece.{Piece}
use Rattle.chain_core.specs.Answering.{HasBroken, HasRoom, IsCausedBy, IsCausedByRead, IsDone, IsRefused, fault_of}
use Rattle.chain_core.specs.Answering as chain
use Rattle.chain_core.specs.Copying.{MergeFollows}
use Rattle.chain_core.specs.Events.{IsCaused, placed}
use Rattle.chain_core.specs.Merging.{IsTrueOf, IsTruePiece}
use Rattle.chain_core.specs.Refusing.{barred as barred_call, broken_by, is_read, misplaced, or_else, out_of, range_of, refused}
use Rattle.chain_core.specs.Sessions.{KeepsMerge, Session}
use Rattle.chain_core.specs.States.{IsNextPlace, IsServing, NextIn, Rest, State, disk_now, entry, merging, plain, retiring, sector_of, with_entry}
use Rattle.chain_core.specs.declared.answer.Answer.{Answer}
use Rattle.chain_core.specs.declared.answer.Answer.TheVariants as answers
use Rattle.chain_core.specs.declared.layers.Layers.{Layers}
use Rattle.script_session.specs.Histories.{Break, Drive, Grows, IsEndTold, IsOver, IsSoLong, Stops, asks_room, cause_of, disk_after, fault_in}
use Rattle.script_session.specs.MergeSteps.{IsUnchanged}
use Rattle.script_session.specs.Told.{sector_size}
use Rattle.script_session.proofs.LeftFiles.{later_same}
use Rattle.script_session.proofs.Lengths.{end_later, long_later, moments_grow}
use Rattle.script_session.proofs.Marked.{marked_called, marked_kept, none_called_on, none_kept}
use Rattle.script_session.proofs.Moving.{counted_low}
use Rattle.script_session.proofs.Room.{IsFull, call_is_far}
use Rattle.script_session.specs.Answers.{HasCauseOf}
use Rattle.script_session.proofs.Telling.{IsCallFar, Outcome, both_told, cause_same, done_whole, ends, kept_more, kept_same, last_moment, names_entry, next_place, no_cause_none, numbers_entry, outcome, same_err, stays, still_true}
use Rattle.event_list.specs.Answered.{AnswersCall, as_reply}
use Rattle.event_list.specs.Histories.{IsAt, IsEventTold, Stage, behind_call, call_breaks, is_done, is_stopped, no_merge, under_way}
use Rattle.event_list.specs.declared.event.Event.TheVariants.{Guest}
use Rattle.event_list.specs.declared.event.EventAnswer.{EventAnswer}
use Rattle.event_list.specs.declared.event.EventAnswer.TheVariants as told
use Rattle.event_list.specs.declared.event.EventAnswer.TheVariants.{Refused}
use Rattle.event_list.proofs.Exchanged.{HoldsEach, waits_still}
use Rattle.event_list.proofs.OneTold.{EventTold, StandsWith, barred, broken_by_it, broken_with, serves_with}

-- ---- what a call makes of the merge and of what waits

place_called : (layers new : Layers) (stage : Stage) (call : Call) (place : ℕ) → layers.geometry.sector ≡ sector_size → MergeFollows call layers new (Ok place) → IsAt layers stage → IsAt new (behind_call call stage)
place_called layers new no_merge call place sector follows at = none_called_on call place layers new follows at
place_called layers new (under_way l copied waits) call place sector follows at = marked_called l call place layers new copied sector follows at

place_kept : (layers new : Layers) (stage : Stage) → KeepsMerge layers new → IsAt layers stage → IsAt new stage
place_kept layers new no_merge keeps at = none_kept layers new keeps at
place_kept layers new (under_way l copied waits) keeps at = marked_kept l layers new copied keeps at

holds_called : (v : State) (e : Entry) (g h : Geometry) (pieces : List Piece) (stage : Stage) → h ≡ g → HoldsEach v g pieces stage → HoldsEach (with_entry e v) h pieces (behind_call e.call stage)
holds_called v e g h pieces no_merge same holds = tt
holds_called v e g h pieces (under_way l copied waits) same holds = λ slot piece is. waits_still v (with_entry e v) g h same (still_true v e) piece (waits slot) (holds slot piece is)

holds_still : (v : State) (g h : Geometry) (pieces : List Piece) (stage : Stage) → h ≡ g → HoldsEach v g pieces stage → HoldsEach v h pieces stage
holds_still v g h pieces stage same holds = subst (λ k. HoldsEach v k pieces stage) (sym same) holds

-- ---- its cause

-- an answer with a reply has the cause of its place
cause_placed : (call : Call) (answer : Answer) (old new : Session) → IsCaused call old new answer → HasCauseOf call old new (placed answer)
cause_placed (calls.Read first count) answer old new c = c
cause_placed (calls.Write first bytes) answer old new c = c
cause_placed (calls.Trim first count) answer old new c = c
cause_placed calls.Flush answer old new c = c

-- ---- one call

module _ (drive : Drive) (who : Caller) (call : Call) (v : State) (stage : Stage) (old new : Session) (pieces : List Piece) (over : IsOver drive v old) (trace : Trace) (seen : old.disk.told ≡ Some trace) where
  abbrev Line : EventAnswer → Option Break → Type 0
  Line answer broken = EventTold drive (Guest who call) answer v stage broken old.events trace new pieces

  -- what was told then is so at the end
  end_now : (x : ChainRefusal) (now : Trace) → Grows trace now → IsEndTold (IsSoLong v.writes trace) (Err x) → IsEndTold (IsSoLong v.writes now) (Err x)
  end_now x now grows h = end_later (IsSoLong v.writes trace) (IsSoLong v.writes now) (λ next. long_later v.writes v.writes trace now next (λ n e. e) grows) (Err x) h

  abbrev by_event : Entry
  by_event = entry who call

  over_refused : (x : ChainRefusal) → AnswersCall who call (answers.Refused x) old new → refused call old ≡ None → IsOver drive v new
  over_refused x h fit = record {
    geometry = h.geometry ∙ over.geometry;
    change = h.session ∙ over.change;
    opening = over.opening;
    sector = over.sector;
    noted = (h.notes fit).1 ∙ over.noted;
    kept = kept_same old.told new.told v.history over.kept (h.notes fit).0;
  }

  -- it stops, or breaks the session
  stopped : (x : ChainRefusal) (now : Trace) → new.disk.told ≡ Some now → cause_of drive None call ≡ None → AnswersCall who call (answers.Refused x) old new → refused call old ≡ None
      → IsAt old.layers stage → HoldsEach v old.layers.geometry pieces stage → Outcome call by_event v new trace now x → Line (Refused x) None
  stopped x now told_now cause h fit at holds (stays _ stops full b is) = let more = moments_grow _ trace now is.moments in record {
    state = v;
    now = now;
    on = stage;
    after = None;
    told_so = is_stopped stage who call x cause stops;
    history = refl;
    same = λ k later is. is;
    over = over_refused x h fit;
    seen = told_now;
    stands = serves_with b is.serving (place_kept old.layers new.layers stage h.merge at) (holds_still v old.layers.geometry new.layers.geometry pieces stage h.geometry holds);
    few = omega (arith, h.events, counted_low old.events);
    full = end_now x now more full;
    grows = more;
  }
  stopped _ now told_now cause h fit at holds (ends file count reads b is) = record {
    state = v;
    now = now;
    on = stage;
    after = Some (record { fault = fault_of file count; call = Some call });
    told_so = call_breaks stage who call (fault_of file count) cause reads;
    history = refl;
    same = λ k later is. is;
    over = over_refused (Broken file count) h fit;
    seen = told_now;
    stands = broken_with (record { fault = fault_of file count; call = Some call }) b is.still is.past (last_moment _ trace now is.moments);
    few = omega (arith, h.events, counted_low old.events);
    full = tt;
    grows = moments_grow _ trace now is.moments;
  }

  -- it is done
  done : (place : ℕ) (r : Reply) (now : Trace) → new.disk.told ≡ Some now → cause_of drive None call ≡ None → IsServing old.layers v trace → IsAt old.layers stage → HoldsEach v old.layers.geometry pieces stage
      → AnswersCall who call (answers.Reply place r) old new → refused call old ≡ None → IsDone by_event v new.layers trace now → Line (told.Reply place r) None
  done place r now told_now cause serving at holds h fit is =
      let notes = h.notes fit in
      let b : new.broken ≡ None = done_whole call place old new (cause_placed call (answers.Reply place r) old new h.cause) fit in
      let place_is : length v.history + 1 ≡ place = ap (λ n. n + 1) (sym over.noted) ∙ sym notes.1 ∙ sym notes.2 in
      let disk : disk_after drive v.history ≡ disk_now v = ap₂ (λ (z : ℕ) (o : Disk). replay z o v.history) (sym over.sector) (sym over.opening) in
      let replied : reply (disk_after drive v.history) call ≡ r = ap (λ k. reply k call) disk ∙ h.replies trace seen v serving in
      record {
        state = with_entry by_event v;
        now = now;
        on = behind_call call stage;
        after = None;
        told_so = subst (λ t. IsEventTold drive v.history stage None (Guest who call) t (behind_call call stage) None) (ap₂ (λ (p : ℕ) (q : Reply). told.Reply p q) place_is replied) (is_done stage who call cause);
        history = refl;
        same = λ k later is. later_same v (with_entry by_event v) k later refl refl refl (numbers_entry by_event v) (names_entry by_event v) (inl (record { number = refl; name = refl; retired = refl; writes = refl; since = refl; merges = refl })) (λ e. (e, refl)) (λ e. refl) is;
        over = record {
          geometry = h.geometry ∙ over.geometry;
          change = h.session ∙ over.change;
          opening = over.opening;
          sector = over.sector;
          noted = notes.1 ∙ ap (λ n. n + 1) over.noted ∙ sym (length-append v.history (by_event ∷ []));
          kept = kept_more old.told new.told v.history by_event over.kept notes.0;
        };
        seen = told_now;
        stands = serves_with b is.serving (place_called old.layers new.layers stage call place h.sound.sector h.merge at) (holds_called v by_event old.layers.geometry new.layers.geometry pieces stage h.geometry holds);
        few = omega (arith, h.events, counted_low old.events);
        full = tt;
        grows = moments_grow _ trace now is.moments;
      }

  module _ (broken : Option Break) (stands : StandsWith v old pieces trace stage broken) (few : old.events < 2 ^ 63) where
    cause_is : (o : Option ChainRefusal) → refused call old ≡ o → cause_of drive (fault_in broken) call ≡ o
    cause_is o is = ap (λ b. cause_of drive b call) (sym (broken_by_it v old pieces trace stage broken stands)) ∙ sym (cause_same drive v old call over few) ∙ is

    -- nothing has broken the session where the call reached the files
    none_of : refused call old ≡ None → broken ≡ None
    none_of is = no_cause_none drive broken call (cause_is None is)

    cause_none : refused call old ≡ None → cause_of drive None call ≡ None
    cause_none is = subst (λ o. cause_of drive (fault_in o) call ≡ None) (none_of is) (cause_is None is)

    refused_told : (x : ChainRefusal) → AnswersCall who call (answers.Refused x) old new → Line (Refused x) broken
    refused_told x h = go (refused call old) refl
      where
        go : (o : Option ChainRefusal) → refused call old ≡ o → Line (Refused x) broken
        go (Some e) is =
            let early = subst (λ o. IfSome o (λ e. (◌≡◌ {A = Result ℕ ChainRefusal} (Err x) (Err e)) × IsUnchanged old new)) is h.early in
            barred drive v old new pieces pieces over trace seen (Guest who call) stage broken x (cause_is (Some e) is ∙ ap Some (sym (same_err x e early.0))) refl early.1 (omega (arith, h.events, counted_low old.events)) stands (λ at. at) (λ holds. holds)
        go None is = by_none broken (none_of is) stands
          where
            after : (now : Trace) × (new.disk.told ≡ Some now) × ((w : State) → IsServing old.layers w trace → IsNextPlace (old.noted + 1) w → chain.Answers by_event w new.layers trace now (Err x))
            after = both_told _ old.disk.told new.disk.told trace seen h.told

            far : IsServing old.layers v trace → is_read call ≡ false → IsCallFar call v.writes trace x
            far serving changes next e = call_is_far call next v old trace serving over.sector seen changes is (subst (λ y. HasRoom call old (Err y)) e h.room)

            by_none : (broken : Option Break) → broken ≡ None → StandsWith v old pieces trace stage broken → Line (Refused x) broken
            by_none None none (serves_with whole serving at holds) =
                stopped x after.0 after.1 (cause_none is) h is at holds
                (outcome by_event v old new trace after.0 call x (far serving) (cause_placed call (answers.Refused x) old new h.cause) is (after.2 v serving (next_place v old.noted over.noted)))
            by_none (Some b) none stands = let bad : ◌≡◌ {A = Option Break} (Some b) None = none in absurd (cc)

    done_told : (place : ℕ) (r : Reply) → AnswersCall who call (answers.Reply place r) old new → Line (told.Reply place r) broken
    done_told place r h = go (refused call old) refl
      where
        go : (o : Option ChainRefusal) → refused call old ≡ o → Line (told.Reply place r) broken
        go (Some e) is =
            let early = subst (λ o. IfSome o (λ e. (◌≡◌ {A = Result ℕ ChainRefusal} (Ok place) (Err e)) × IsUnchanged old new)) is h.early in
            let bad : ◌≡◌ {A = Result ℕ ChainRefusal} (Ok place) (Err e) = early.0 in
            absurd (cc)
        go None is = by_none broken (none_of is) stands
          where
            after : (now : Trace) × (new.disk.told ≡ Some now) × ((w : State) → IsServing old.layers w trace → IsNextPlace (old.noted + 1) w → chain.Answers by_event w new.layers trace now (Ok place))
            after = both_told _ old.disk.told new.disk.told trace seen h.told

            by_none : (broken : Option Break) → broken ≡ None → StandsWith v old pieces trace stage broken → Line (told.Reply place r) broken
            by_none None none (serves_with whole serving at holds) =
                done place r after.0 after.1 (cause_none is) serving at holds h is (after.2 v serving (next_place v old.noted over.noted))
            by_none (Some b) none stands = let bad : ◌≡◌ {A = Option Break} (Some b) None = none in absurd (cc)

    pub call_told : (given : Answer) → AnswersCall who call given old new → Line (as_reply given) broken
    call_told (answers.Reply place r) h = done_told place r h
    call_told (answers.Refused x) h = refused_told x h
