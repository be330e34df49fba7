-- What faults of lines say of the store's counts.
use Rattle.std.proofs.Common.{◌≡◌, ◌≢◌, ◌<◌, ◌≤◌, ◌+◌, ◌/◌, ◌^◌, ◌==◌, ◌||◌, ◌⊎◌, ℕ, Bool, true, false, List, [], ◌∷◌, length, Option, Some, None, Result, Ok, Err, refl, sym, ap, ap₂, subst, ◌∙◌, arith, inl, inr}
use Rattle.std.specs.Prelude.{IfErr, IfSome, if◌then◌else◌, is_some, nat_lt}
use Rattle.std.specs.List.{AllByRecursion}
use Rattle.std.proofs.lemmas.Bool.{cases_eq}
use Rattle.std.proofs.lemmas.Option.{same_Some}
use Rattle.store_model.proofs.Told.{counts_join}
use Rattle.store_model.specs.Cause.{Rose, RoseAt}
use Rattle.store_model.specs.Disk.{Disk, ReadFailed}
use Rattle.store_model.specs.Plans.{FailsToChange}
use Rattle.store_model.specs.Trace.{Trace}
use Rattle.store_model.specs.declared.fault.StoreFault.{StoreFault}
use Rattle.guest_model.specs.declared.call.Call.{Call}
use Rattle.guest_model.specs.declared.call.Call.TheVariants as calls
use Rattle.guest_model.specs.declared.call.Reply.{Reply}
use Rattle.guest_model.specs.declared.refusal.ChainRefusal.{ChainRefusal}
use Rattle.guest_model.specs.declared.refusal.ChainRefusal.TheVariants.{Abandoned, Broken, EmptyRange, FileFull, NoMerge, NoPiece, NoRoom, NoStripe, NotYet, OutOfRange, ReadFault, ReadOnly, Spent, Stale, TooLong}
use Rattle.guest_model.specs.Ranges.{range_refusal}
use Rattle.chain_core.specs.Answering.{IsCausedBy, IsCausedByRead}
use Rattle.chain_core.specs.Answering as chain
use Rattle.chain_core.specs.Refusing.{broken_by, counted, misplaced, or_else, out_of, refused, unfit}
use Rattle.chain_core.specs.Sessions.{IsReadyLeaf, IsSound, Session, has_merge, leaf_number, number_of_leaf}
use Rattle.chain_core.specs.declared.layers.Layers.{Layers}
use Rattle.layer_session.specs.declared.file.Layer.{Layer}
use Rattle.chain_core.specs.Copying.{FetchCause, IfStopped, PutCause, fetch_refused, merge_refused, no_merge, no_piece, no_stripe, past_stripes, put_refused, stale, stamp_of, target_number, unfilled}
use Rattle.chain_core.specs.Finished.{FinishCause, HasFinished}
use Rattle.merge_core.specs.declared.piece.Piece.{Piece}
use Rattle.script.specs.Transcript.{of_call}
use Rattle.script.specs.declared.form.Line.{Line}
use Rattle.script_session.specs.Answers.{Answers, AnswersCall, AnswersLine, AnswersLines, HasCauseOf, as_copied, as_done, with_reply, with_stamp}
use Rattle.script_session.specs.MergeSteps.{AnswersCopy, AnswersFetch, AnswersFinish, AnswersPut, AnswersTurn, AnswersTurns, EndsCopy, IsUnchanged, all_moved, fetched_and, no_turn, not_fetched, one_more, one_refused, passed_over}
use Rattle.script_session.specs.Faults.{Counts, CountsFaults, IsFailedChange, IsFaultOf, LinesCountFaults}
use Rattle.script_session.specs.Told.{Asked, Told, asked, asks_call, asks_copy, asks_fetch, asks_finish, asks_put, caller, fault_of, last_fault, later_of, next_number}
use Rattle.script_session.proofs.Moving.{ok_reached}
use Rattle.script_session.proofs.Running.{later_than_none}
use Rattle.script_session.proofs.Telling.{same_err}

-- ---- counts

pub same_told : (old new : Disk) → new ≡ old → new ≡ record old { told = new.told }
same_told old new e = subst (λ d. d ≡ record old { told = d.told }) (sym e) refl

risen : (before now : ℕ) → Rose before now → 0 < now
risen before now r = omega (arith, r.risen)

-- a read of the file failed
counts_read : (file : ℕ) (old new : Disk) (fault : StoreFault) (told : Option Trace) → file < old.files → ReadFailed file (record old { told = told }) new fault → Counts new fault
counts_read file old new fault told there c =
    let files : new.files ≡ old.files = ap (λ (d : Disk). d.files) c.stays in
    record {
      within = subst (λ n. n < new.files) (sym c.of_file) (subst (λ n. file < n) (sym files) there);
      some = subst (λ n. 0 < n) (sym c.count.told) (risen (old.failed_reads file) (new.failed_reads file) c.count.rose);
      counted = inl (c.count.told ∙ ap new.failed_reads (sym c.of_file));
    }

-- a change of it failed
pub counts_change : (file : ℕ) (old new : Disk) (fault : StoreFault) → file < old.files → FailsToChange file old new fault → Counts new fault
counts_change file old new fault there c =
    let files : new.files ≡ old.files = ap (λ (d : Disk). d.files) c.stays in
    record {
      within = subst (λ n. n < new.files) (sym c.of_file) (subst (λ n. file < n) (sym files) there);
      some = subst (λ n. 0 < n) (sym c.count.told) (risen (old.failed_changes file) (new.failed_changes file) c.count.rose);
      counted = inr (c.count.told ∙ ap new.failed_changes (sym c.of_file));
    }

-- a fault is counted while the counts stay
pub counts_still : (old new : Disk) (fault : StoreFault) → new ≡ record old { told = new.told } → Counts old fault → Counts new fault
counts_still old new fault e c =
    let same : Counts (record old { told = new.told }) fault = record { within = c.within; some = c.some; counted = c.counted } in
    subst (λ d. Counts d fault) (sym e) same

-- ---- one line

-- where one file's count rose no file's fell
rises : (file count : ℕ) (before now : ℕ → ℕ) → RoseAt file count before now → (n : ℕ) → before n ≤ now n
rises file count before now r n = by_file (cases_eq n file)
  where
    by_file : (n ≡ file) ⊎ (n ≢ file) → before n ≤ now n
    by_file (inl e) = subst (λ k. before k ≤ now k) (sym e) r.rose.later
    by_file (inr ne) = omega (arith, r.others n ne)

-- A read of a file failed, which doesn't break the session; or a change of one did, which does.
data HowFailed (old new : Session) (fault : StoreFault) : ChainRefusal → Type 0 where
  by_read : new.broken ≡ None → fault.count ≡ new.disk.failed_reads fault.file → ((n : ℕ) → old.disk.failed_reads n ≤ new.disk.failed_reads n) → new.disk.failed_changes ≡ old.disk.failed_changes
      → HowFailed old new fault (ReadFault fault.file fault.count)
  by_change : new.broken ≡ Some fault → fault.count ≡ new.disk.failed_changes fault.file → ((n : ℕ) → old.disk.failed_reads n ≤ new.disk.failed_reads n) → HowFailed old new fault (Broken fault.file fault.count)

read_failed : (file : ℕ) (old new : Session) (fault : StoreFault) (told : Option Trace) → new.broken ≡ None → ReadFailed file (record (old.disk) { told = told }) new.disk fault → HowFailed old new fault (ReadFault fault.file fault.count)
read_failed file old new fault told whole c =
    by_read whole (c.count.told ∙ ap new.disk.failed_reads (sym c.of_file)) (rises file fault.count old.disk.failed_reads new.disk.failed_reads c.count) (ap (λ (d : Disk). d.failed_changes) c.stays)

change_failed : (file : ℕ) (old new : Session) (fault : StoreFault) → new.broken ≡ Some fault → FailsToChange file old.disk new.disk fault → HowFailed old new fault (Broken fault.file fault.count)
change_failed file old new fault broke c =
    by_change broke (c.count.told ∙ ap new.disk.failed_changes (sym c.of_file)) (λ n. let same : new.disk.failed_reads n ≡ old.disk.failed_reads n = ap (λ (d : Disk). d.failed_reads n) c.stays in omega (arith, same))

-- the leaf's file is one of the store's
leaf_within : (s : Session) → IsSound s → s.broken ≡ None → 0 < s.disk.files → leaf_number s.layers < s.disk.files
leaf_within s sound whole some = by_leaf s.layers.leaf (sound.ready whole).leaf
  where
    by_leaf : (o : Option Layer) → IfSome o (IsReadyLeaf s.layers.geometry s.layers.below.items s.disk) → number_of_leaf o < s.disk.files
    by_leaf None ready = some
    by_leaf (Some leaf) ready = ready.ready.readable.there

-- a refusal of a call that reached the files: the counts stay, or the fault that it tells is counted
data Fault (old new : Session) : ChainRefusal → Type 0 where
  rests : (x : ChainRefusal) → fault_of (Err x) ≡ None → new.broken ≡ None → new.disk ≡ record (old.disk) { told = new.disk.told } → Fault old new x
  faults : (x : ChainRefusal) (fault : StoreFault) → fault_of (Err x) ≡ Some fault → Counts new.disk fault → new.disk.files ≡ old.disk.files → HowFailed old new fault x → Fault old new x

module _ (old new : Session) (some : leaf_number old.layers < old.disk.files) where
  read_fault : (x : ChainRefusal) → IsCausedByRead old new (Err x) → Fault old new x
  read_fault EmptyRange c = absurd c
  read_fault (OutOfRange first count sectors) c = absurd c
  read_fault (TooLong count limit) c = absurd c
  read_fault ReadOnly c = absurd c
  read_fault (Broken file count) c = absurd c
  read_fault (Spent t) c = absurd c
  read_fault (FileFull next) c = absurd c
  read_fault (ReadFault file count) c =
      let fault = chain.fault_of file count in
      faults (ReadFault file count) fault refl (counts_read file old.disk new.disk fault old.disk.told c.0.0 c.0.1) (ap (λ (d : Disk). d.files) c.0.1.stays) (read_failed file old new fault old.disk.told c.1 c.0.1)
  read_fault NoMerge c = absurd c
  read_fault (Stale taken at) c = absurd c
  read_fault (NotYet stripe) c = absurd c
  read_fault (Abandoned file count) c = absurd c
  read_fault (NoStripe stripe stripes) c = absurd c
  read_fault NoPiece c = absurd c
  read_fault NoRoom c = rests NoRoom refl c.1 (same_told old.disk new.disk c.0)

  change_fault : (x : ChainRefusal) → IsCausedBy old new (Err x) → Fault old new x
  change_fault EmptyRange c = absurd c
  change_fault (OutOfRange first count sectors) c = absurd c
  change_fault (TooLong count limit) c = absurd c
  change_fault ReadOnly c = absurd c
  change_fault (Broken file count) c =
      let fault = chain.fault_of file count in
      faults (Broken file count) fault refl (counts_change (leaf_number old.layers) old.disk new.disk fault some c.0) (ap (λ (d : Disk). d.files) c.0.stays) (change_failed (leaf_number old.layers) old new fault c.1 c.0)
  change_fault (Spent t) c = absurd c
  change_fault (FileFull next) c = rests (FileFull next) refl c.1 c.0
  change_fault (ReadFault file count) c =
      let fault = chain.fault_of file count in
      faults (ReadFault file count) fault refl (counts_read (leaf_number old.layers) old.disk new.disk fault new.disk.told some c.0) (ap (λ (d : Disk). d.files) c.0.stays)
      (read_failed (leaf_number old.layers) old new fault new.disk.told c.1 c.0)
  change_fault NoMerge c = absurd c
  change_fault (Stale taken at) c = absurd c
  change_fault (NotYet stripe) c = absurd c
  change_fault (Abandoned file count) c = absurd c
  change_fault (NoStripe stripe stripes) c = absurd c
  change_fault NoPiece c = absurd c
  change_fault NoRoom c = rests NoRoom refl c.1 (same_told old.disk new.disk c.0)

  call_fault : (call : Call) (x : ChainRefusal) → HasCauseOf call old new (Err x) → refused call old ≡ None → Fault old new x
  call_fault (calls.Read first count) x c fit = read_fault x (c fit)
  call_fault (calls.Write first bytes) x c fit = change_fault x (c fit)
  call_fault (calls.Trim first count) x c fit = change_fault x (c fit)
  call_fault calls.Flush x c fit = change_fault x (c fit)

  done_rests : (call : Call) (place : ℕ) → HasCauseOf call old new (Ok place) → refused call old ≡ None → (new.broken ≡ None) × (new.disk ≡ record (old.disk) { told = new.disk.told })
  done_rests (calls.Read first count) place c fit = ((c fit).1, same_told old.disk new.disk (c fit).0)
  done_rests (calls.Write first bytes) place c fit = ((c fit).1, (c fit).0)
  done_rests (calls.Trim first count) place c fit = ((c fit).1, (c fit).0)
  done_rests calls.Flush place c fit = ((c fit).1, (c fit).0)

-- what is refused before the files are reached, in a session that isn't broken, is no fault
abbrev Quiet : ChainRefusal → Type 0
Quiet x = fault_of (Err x) ≡ None

quiet_by : (e x : ChainRefusal) → Some e ≡ Some x → Quiet e → Quiet x
quiet_by e x h q = subst Quiet (same_Some e x h) q

range_quiet : (first count limit sectors : ℕ) (later : Option ChainRefusal) (x : ChainRefusal) → (later ≡ Some x → Quiet x) → out_of (range_refusal first count limit sectors) later ≡ Some x → Quiet x
range_quiet first count limit sectors later x q = go (count == 0) (nat_lt limit count) (nat_lt sectors (first + count))
  where
    go : (a b c : Bool) → out_of (if a then Err EmptyRange else if b then Err (TooLong count limit) else if c then Err (OutOfRange first count sectors) else Ok tt) later ≡ Some x → Quiet x
    go true b c h = quiet_by EmptyRange x h refl
    go false true c h = quiet_by (TooLong count limit) x h refl
    go false false true h = quiet_by (OutOfRange first count sectors) x h refl
    go false false false h = q h

barred_quiet : (reads change : Bool) (x : ChainRefusal) → (if reads || change then None else Some ReadOnly) ≡ Some x → Quiet x
barred_quiet reads change x = go (reads || change)
  where
    go : (b : Bool) → (if b then None else Some ReadOnly) ≡ Some x → Quiet x
    go true h = cc
    go false h = quiet_by ReadOnly x h refl

misplaced_quiet : (call : Call) (layers : Layers) (x : ChainRefusal) → misplaced call layers ≡ Some x → Quiet x
misplaced_quiet (calls.Read first count) layers x h = range_quiet first count 2048 layers.geometry.sectors _ x (barred_quiet true (is_some layers.leaf) x) h
misplaced_quiet (calls.Write first bytes) layers x h = range_quiet first (length bytes / layers.geometry.sector) 2048 layers.geometry.sectors _ x (barred_quiet false (is_some layers.leaf) x) h
misplaced_quiet (calls.Trim first count) layers x h = range_quiet first count 524288 layers.geometry.sectors _ x (barred_quiet false (is_some layers.leaf) x) h
misplaced_quiet calls.Flush layers x h = barred_quiet false (is_some layers.leaf) x h

early_quiet : (call : Call) (s : Session) (x : ChainRefusal) → s.broken ≡ None → refused call s ≡ Some x → Quiet x
early_quiet call s x whole h = go (nat_lt s.events (2 ^ 63)) (subst (λ b. or_else (unfit s.events b) (misplaced call s.layers) ≡ Some x) whole h)
  where
    go : (b : Bool) → or_else (if b then None else Some (Spent s.events)) (misplaced call s.layers) ≡ Some x → Quiet x
    go true h = misplaced_quiet call s.layers x h
    go false h = quiet_by (Spent s.events) x h refl

-- a line, in a session that isn't broken
data LineCounts (t : Told) (old new : Session) : Type 0 where
  line_rests : fault_of t ≡ None → new.broken ≡ None → new.disk ≡ record (old.disk) { told = new.disk.told } → LineCounts t old new
  line_faults : (x : ChainRefusal) (fault : StoreFault) → t ≡ Err x → fault_of t ≡ Some fault → Counts new.disk fault → new.disk.files ≡ old.disk.files → HowFailed old new fault x → LineCounts t old new

-- a fault that a line tells, if it tells one
abbrev TellsAtMost : Option StoreFault → StoreFault → Type 0
TellsAtMost o fault = (o ≡ None) ⊎ (o ≡ Some fault)

-- what a line of a session that a fault broke is told is that fault, if it is one
abbrev IsThat : StoreFault → ChainRefusal → Type 0
IsThat fault (ReadFault file count) = ⊥
IsThat fault (Broken file count) = fault ≡ record { file = file; count = count }
IsThat fault other = Unit {0}

-- a line, in a session that a fault broke
record StaysBroken (fault : StoreFault) (t : Told) (old new : Session) : Type 0 where
  same : new.disk ≡ old.disk
  broken : new.broken ≡ Some fault
  told : TellsAtMost (fault_of t) fault
  that : IfErr t (IsThat fault)

-- what a call is refused by then
broken_cause : (events : ℕ) (fault : StoreFault) (later : Option ChainRefusal) → (e : ChainRefusal) × (or_else (unfit events (Some fault)) later ≡ Some e) × TellsAtMost (fault_of (Err e)) fault × IsThat fault e
broken_cause events fault later = go (nat_lt events (2 ^ 63))
  where
    go : (b : Bool) → (e : ChainRefusal) × (or_else (if b then broken_by (Some fault) else Some (Spent events)) later ≡ Some e) × TellsAtMost (fault_of (Err e)) fault × IsThat fault e
    go true = (Broken fault.file fault.count, refl, inr refl, refl)
    go false = (Spent events, refl, inl refl, tt)

module _ (number : ℕ) (call : Call) (old new : Session) where
  -- refused before the files are reached
  refused_early : (answer : Result ℕ ChainRefusal) (r : Reply) (e : ChainRefusal) → refused call old ≡ Some e → Answers (caller number) call answer r old new → (answer ≡ Err e) × (new ≡ record old { events = counted old.events })
  refused_early answer r e is h = subst (λ o. IfSome o (λ e. (answer ≡ Err e) × (new ≡ record old { events = counted old.events }))) is h.early

  module _ (whole : old.broken ≡ None) (some : 0 < old.disk.files) where
    refused_counts : (x : ChainRefusal) (r : Reply) → Answers (caller number) call (Err x) r old new → LineCounts (Err x) old new
    refused_counts x r h = go (refused call old) refl
      where
        by_fault : Fault old new x → LineCounts (Err x) old new
        by_fault (rests _ q b e) = line_rests q b e
        by_fault (faults _ fault f counts files b) = line_faults x fault refl f counts files b

        go : (o : Option ChainRefusal) → refused call old ≡ o → LineCounts (Err x) old new
        go None is = by_fault (call_fault old new (leaf_within old h.sound whole some) call x h.cause is)
        go (Some e) is =
            let early = refused_early (Err x) r e is h in
            line_rests (early_quiet call old x whole (is ∙ ap Some (sym (same_err x e early.0)))) (ap (λ (s : Session). s.broken) early.1 ∙ whole) (same_told old.disk new.disk (ap (λ (s : Session). s.disk) early.1))

    done_counts : (d : ℕ × Reply) → Answers (caller number) call (Ok d.0) d.1 old new → LineCounts (Ok (Some d.0, of_call d.1)) old new
    done_counts d h = go (refused call old) refl
      where
        go : (o : Option ChainRefusal) → refused call old ≡ o → LineCounts (Ok (Some d.0, of_call d.1)) old new
        go None is = let both = done_rests old new (leaf_within old h.sound whole some) call d.0 h.cause is in line_rests refl both.0 both.1
        go (Some e) is = let bad : ◌≡◌ {A = Result ℕ ChainRefusal} (Ok d.0) (Err e) = (refused_early (Ok d.0) d.1 e is h).0 in absurd (cc)

    call_counts : (t : Told) → AnswersCall number call t old new → LineCounts t old new
    call_counts t h = subst (λ t. LineCounts t old new) (sym h.is) (go h.answer h.answers)
      where
        go : (answer : Result ℕ ChainRefusal) → Answers (caller number) call answer h.reply old new → LineCounts (with_reply h.reply answer) old new
        go (Ok place) a = done_counts (place, h.reply) a
        go (Err x) a = refused_counts x h.reply a

  module _ (fault : StoreFault) (broken : old.broken ≡ Some fault) where
    broken_early : (answer : Result ℕ ChainRefusal) (r : Reply) → Answers (caller number) call answer r old new
        → (e : ChainRefusal) × (answer ≡ Err e) × (new ≡ record old { events = counted old.events }) × TellsAtMost (fault_of (Err e)) fault × IsThat fault e
    broken_early answer r h =
        let cause = broken_cause old.events fault (misplaced call old.layers) in
        let early = refused_early answer r cause.0 (ap (λ b. or_else (unfit old.events b) (misplaced call old.layers)) broken ∙ cause.1) h in
        (cause.0, early.0, early.1, cause.2, cause.3)

    call_stays_broken : (t : Told) → AnswersCall number call t old new → StaysBroken fault t old new
    call_stays_broken t h =
        let b = broken_early h.answer h.reply h.answers in
        record {
          same = ap (λ (s : Session). s.disk) b.2;
          broken = ap (λ (s : Session). s.broken) b.2 ∙ broken;
          told = subst (λ t. TellsAtMost (fault_of t) fault) (sym (h.is ∙ ap (with_reply h.reply) b.1)) b.3;
          that = subst (λ t. IfErr t (IsThat fault)) (sym (h.is ∙ ap (with_reply h.reply) b.1)) b.4;
        }

-- ---- one step of a merge

-- in a session that isn't broken
step_quiet : (events : ℕ) (broken : Option StoreFault) (later : Option ChainRefusal) (x : ChainRefusal) → broken ≡ None → (later ≡ Some x → Quiet x) → or_else (unfit events broken) later ≡ Some x → Quiet x
step_quiet events broken later x whole q h = go (nat_lt events (2 ^ 63)) (subst (λ b. or_else (unfit events b) later ≡ Some x) whole h)
  where
    go : (b : Bool) → or_else (if b then None else Some (Spent events)) later ≡ Some x → Quiet x
    go true h = q h
    go false h = quiet_by (Spent events) x h refl

none_quiet : (x : ChainRefusal) → None ≡ Some x → Quiet x
none_quiet x h = let bad : ◌≡◌ {A = Option ChainRefusal} None (Some x) = h in absurd (cc)

merge_quiet : (b : Bool) (x : ChainRefusal) → (if b then None else Some NoMerge) ≡ Some x → Quiet x
merge_quiet true x h = none_quiet x h
merge_quiet false x h = quiet_by NoMerge x h refl

past_quiet : (stripe stripes : ℕ) (x : ChainRefusal) → past_stripes stripe stripes ≡ Some x → Quiet x
past_quiet stripe stripes x = go (nat_lt stripe stripes)
  where
    go : (b : Bool) → (if b then None else Some (NoStripe stripe stripes)) ≡ Some x → Quiet x
    go true h = none_quiet x h
    go false h = quiet_by (NoStripe stripe stripes) x h refl

stripe_quiet : (stripe : ℕ) (layers : Layers) (x : ChainRefusal) → no_stripe stripe layers ≡ Some x → Quiet x
stripe_quiet stripe layers x = go (has_merge layers) _ (past_quiet stripe _ x)
  where
    go : (b : Bool) (o : Option ChainRefusal) → (o ≡ Some x → Quiet x) → (if b then o else Some NoMerge) ≡ Some x → Quiet x
    go true o q h = q h
    go false o q h = quiet_by NoMerge x h refl

or_quiet : (a b : Option ChainRefusal) (x : ChainRefusal) → (a ≡ Some x → Quiet x) → (b ≡ Some x → Quiet x) → or_else a b ≡ Some x → Quiet x
or_quiet None b x p q h = q h
or_quiet (Some y) b x p q h = p h

unfilled_quiet : (b : Bool) (x : ChainRefusal) → (if b then None else Some NoPiece) ≡ Some x → Quiet x
unfilled_quiet true x h = none_quiet x h
unfilled_quiet false x h = quiet_by NoPiece x h refl

stale_quiet : (taken now : ℕ) (x : ChainRefusal) → stale taken now ≡ Some x → Quiet x
stale_quiet taken now x = go (taken == now)
  where
    go : (b : Bool) → (if b then None else Some (Stale taken now)) ≡ Some x → Quiet x
    go true h = none_quiet x h
    go false h = quiet_by (Stale taken now) x h refl

piece_quiet : (piece : Piece) (layers : Layers) (x : ChainRefusal) → no_piece piece layers ≡ Some x → Quiet x
piece_quiet piece layers x =
    or_quiet (no_merge layers) _ x (merge_quiet (has_merge layers) x)
    (or_quiet (unfilled piece) _ x (unfilled_quiet piece.filled x) (or_quiet (no_stripe piece.stripe layers) (stale piece.stamp (stamp_of layers piece.stripe)) x (stripe_quiet piece.stripe layers x) (stale_quiet piece.stamp (stamp_of layers piece.stripe) x)))

module _ (old new : Session) (left : Piece) where
  fetch_fault : (x : ChainRefusal) → FetchCause old new left (Err x) → Fault old new x
  fetch_fault EmptyRange c = absurd c
  fetch_fault (OutOfRange first count sectors) c = absurd c
  fetch_fault (TooLong count limit) c = absurd c
  fetch_fault ReadOnly c = absurd c
  fetch_fault (Broken file count) c = absurd c
  fetch_fault (Spent t) c = absurd c
  fetch_fault (FileFull next) c = absurd c
  fetch_fault (ReadFault file count) c =
      let fault = chain.fault_of file count in
      faults (ReadFault file count) fault refl (counts_read file old.disk new.disk fault old.disk.told c.2.0 c.2.1) (ap (λ (d : Disk). d.files) c.2.1.stays) (read_failed file old new fault old.disk.told c.3 c.2.1)
  fetch_fault NoMerge c = absurd c
  fetch_fault (Stale taken at) c = absurd c
  fetch_fault (NotYet stripe) c = absurd c
  fetch_fault (Abandoned file count) c = absurd c
  fetch_fault (NoStripe stripe stripes) c = absurd c
  fetch_fault NoPiece c = absurd c
  fetch_fault NoRoom c = absurd c

module _ (piece : Piece) (old new : Session) where
  put_fault : (x : ChainRefusal) → PutCause piece old new (Err x) → Fault old new x
  put_fault EmptyRange c = absurd c
  put_fault (OutOfRange first count sectors) c = absurd c
  put_fault (TooLong count limit) c = absurd c
  put_fault ReadOnly c = absurd c
  put_fault (Broken file count) c =
      let fault = chain.fault_of file count in
      faults (Broken file count) fault refl (counts_change (target_number old.layers) old.disk new.disk fault c.1 c.2) (ap (λ (d : Disk). d.files) c.2.stays) (change_failed (target_number old.layers) old new fault c.3 c.2)
  put_fault (Spent t) c = absurd c
  put_fault (FileFull next) c = rests (FileFull next) refl c.2 c.1
  put_fault (ReadFault file count) c =
      let fault = chain.fault_of file count in
      faults (ReadFault file count) fault refl (counts_read (target_number old.layers) old.disk new.disk fault new.disk.told c.1 c.2) (ap (λ (d : Disk). d.files) c.2.stays)
      (read_failed (target_number old.layers) old new fault new.disk.told c.3 c.2)
  put_fault NoMerge c = absurd c
  put_fault (Stale taken at) c = absurd c
  put_fault (NotYet stripe) c = absurd c
  put_fault (Abandoned file count) c = absurd c
  put_fault (NoStripe stripe stripes) c = absurd c
  put_fault NoPiece c = absurd c
  put_fault NoRoom c = absurd c

-- what is refused before the files are reached
early_fault : {T : Type 0} (old new : Session) (x e : ChainRefusal) → old.broken ≡ None → Quiet e → ◌≡◌ {A = Result T ChainRefusal} (Err x) (Err e) → IsUnchanged old new → Fault old new x
early_fault {T} old new x e whole quiet is only =
    let same : x ≡ e = cc in
    rests x (subst Quiet (sym same) quiet) (ap (λ (s : Session). s.broken) only ∙ whole) (same_told old.disk new.disk (ap (λ (s : Session). s.disk) only))

fetch_ends : (stripe : ℕ) (x : ChainRefusal) (old new : Session) (left : Piece) → old.broken ≡ None → AnswersFetch stripe (Err x) old new left → Fault old new x
fetch_ends stripe x old new left whole h = go (fetch_refused stripe old) refl
  where
    go : (o : Option ChainRefusal) → fetch_refused stripe old ≡ o → Fault old new x
    go None is = fetch_fault old new left x (h.cause is)
    go (Some e) is =
        let early = subst (λ o. IfStopped {T = ℕ} o (Err x) (IsUnchanged old new)) is h.early in
        early_fault {T = ℕ} old new x e whole (step_quiet old.events old.broken (no_stripe stripe old.layers) e whole (stripe_quiet stripe old.layers e) is) early.0 early.1

put_ends : (piece : Piece) (x : ChainRefusal) (old new : Session) → old.broken ≡ None → AnswersPut piece (Err x) old new → Fault old new x
put_ends piece x old new whole h = go (put_refused piece old) refl
  where
    go : (o : Option ChainRefusal) → put_refused piece old ≡ o → Fault old new x
    go None is = put_fault piece old new x (h.cause is)
    go (Some e) is =
        let early = subst (λ o. IfStopped {T = Unit {0}} o (Err x) (IsUnchanged old new)) is h.early in
        early_fault {T = Unit {0}} old new x e whole (step_quiet old.events old.broken (no_piece piece old.layers) e whole (piece_quiet piece old.layers e) is) early.0 early.1

-- a step that was done
record Rests (old new : Session) : Type 0 where
  whole : new.broken ≡ None
  same : new.disk ≡ record (old.disk) { told = new.disk.told }

fetch_rests : (stripe stamp : ℕ) (old new : Session) (left : Piece) → AnswersFetch stripe (Ok stamp) old new left → Rests old new
fetch_rests stripe stamp old new left h =
    let cause = h.cause (ok_reached _ (fetch_refused stripe old) stamp h.early) in
    record { whole = cause.2; same = same_told old.disk new.disk cause.1 }

put_rests : (piece : Piece) (old new : Session) → AnswersPut piece (Ok tt) old new → Rests old new
put_rests piece old new h =
    let cause = h.cause (ok_reached _ (put_refused piece old) tt h.early) in
    record { whole = cause.2; same = cause.1 }

both_rest : (old mid new : Session) → Rests old mid → Rests mid new → Rests old new
both_rest old mid new a b = record { whole = b.whole; same = counts_join old.disk mid.disk new.disk a.same b.same }

fault_behind : (old mid new : Session) (x : ChainRefusal) → Rests old mid → Fault mid new x → Fault old new x
fault_behind old mid new x a (rests _ q b e) = rests x q b (counts_join old.disk mid.disk new.disk a.same e)
fault_behind old mid new x a (faults _ fault f counts files b) = faults x fault f counts (files ∙ ap (λ (d : Disk). d.files) a.same) (failed_behind x b)
  where
    reads : ((n : ℕ) → mid.disk.failed_reads n ≤ new.disk.failed_reads n) → (n : ℕ) → old.disk.failed_reads n ≤ new.disk.failed_reads n
    reads later n = let same : mid.disk.failed_reads n ≡ old.disk.failed_reads n = ap (λ (d : Disk). d.failed_reads n) a.same in omega (arith, later n, same)

    failed_behind : (x : ChainRefusal) → HowFailed mid new fault x → HowFailed old new fault x
    failed_behind _ (by_read whole count later none) = by_read whole count (reads later) (none ∙ ap (λ (d : Disk). d.failed_changes) a.same)
    failed_behind _ (by_change broke count later) = by_change broke count (reads later)

turn_rests : (stripe : ℕ) (old new : Session) → AnswersTurn stripe (Ok tt) old new → Rests old new
turn_rests stripe old new (fetched_and _ stamp _ mid _ piece fetched put) = both_rest old mid new (fetch_rests stripe stamp old mid piece fetched) (put_rests piece mid new put)

turn_fault : (stripe : ℕ) (x : ChainRefusal) (old new : Session) → old.broken ≡ None → AnswersTurn stripe (Err x) old new → Fault old new x
turn_fault stripe x old new whole (not_fetched _ _ _ left fetched) = fetch_ends stripe x old new left whole fetched
turn_fault stripe x old new whole (fetched_and _ stamp _ mid _ piece fetched put) =
    let a = fetch_rests stripe stamp old mid piece fetched in
    fault_behind old mid new x a (put_ends piece x mid new a.whole put)

turns_rest : (old : Session) (slot : Piece) (new : Session) (left : Piece) → old.broken ≡ None → AnswersTurns old slot new left → Rests old new
turns_rest old slot _ _ whole no_turn = record { whole = whole; same = refl }
turns_rest old slot new left whole (passed_over stripe n mid _ held _ turns next skip empty) =
    both_rest old mid new (turns_rest old slot mid held whole turns) (record { whole = skip.whole; same = same_told mid.disk new.disk skip.disk })
turns_rest old slot new left whole (one_more stripe mid _ held _ turns next turn empty) = both_rest old mid new (turns_rest old slot mid held whole turns) (turn_rests stripe mid new turn)

by_fault : (x : ChainRefusal) (old new : Session) → Fault old new x → LineCounts (Err x) old new
by_fault x old new (rests _ q b e) = line_rests q b e
by_fault x old new (faults _ fault f counts files b) = line_faults x fault refl f counts files b

module _ (old new : Session) (slot left : Piece) (whole : old.broken ≡ None) where
  fetch_counts : (stripe : ℕ) (answer : Result ℕ ChainRefusal) → AnswersFetch stripe answer old new left → LineCounts (with_stamp answer) old new
  fetch_counts stripe (Ok stamp) h = let r = fetch_rests stripe stamp old new left h in line_rests refl r.whole r.same
  fetch_counts stripe (Err x) h = by_fault x old new (fetch_ends stripe x old new left whole h)

  put_counts : (answer : Result (Unit {0}) ChainRefusal) → AnswersPut slot answer old new → LineCounts (as_copied answer) old new
  put_counts (Ok done) h = let r = put_rests slot old new h in line_rests refl r.whole r.same
  put_counts (Err x) h = by_fault x old new (put_ends slot x old new whole h)

  copy_ends : (answer : Result (Unit {0}) ChainRefusal) → EndsCopy old slot answer new left → LineCounts (as_done answer) old new
  copy_ends _ (all_moved _ _ turns sound missing) = let r = turns_rest old slot new left whole turns in line_rests refl r.whole r.same
  copy_ends _ (one_refused x stripe mid _ held _ turns next turn empty) =
      let r = turns_rest old slot mid held whole turns in
      by_fault x old new (fault_behind old mid new x r (turn_fault stripe x mid new r.whole turn))

  copy_counts : (answer : Result (Unit {0}) ChainRefusal) → AnswersCopy answer old slot new left → LineCounts (as_done answer) old new
  copy_counts answer h = go (merge_refused old) refl
    where
      go : (o : Option ChainRefusal) → merge_refused old ≡ o → LineCounts (as_done answer) old new
      go None is = copy_ends answer (h.turns is)
      go (Some e) is =
          let early = subst (λ o. IfStopped {T = Unit {0}} o answer ((new ≡ old) × (left ≡ slot))) is h.early in
          let quiet : Quiet e = step_quiet old.events old.broken (no_merge old.layers) e whole (merge_quiet (has_merge old.layers) e) is in
          subst (λ a. LineCounts (as_done a) old new) (sym early.0)
          (line_rests quiet (ap (λ (s : Session). s.broken) early.1.0 ∙ whole) (same_told old.disk new.disk (ap (λ (s : Session). s.disk) early.1.0)))

  finish_ends : (x : ChainRefusal) → FinishCause old new (Err x) (IsUnchanged old new) → Fault old new x
  finish_ends EmptyRange c = absurd c
  finish_ends (OutOfRange first count sectors) c = absurd c
  finish_ends (TooLong count limit) c = absurd c
  finish_ends ReadOnly c = absurd c
  finish_ends (Broken file count) c =
      let fault = chain.fault_of file count in
      faults (Broken file count) fault refl (counts_change fault.file old.disk new.disk fault c.fails.within c.fails.fails) (ap (λ (d : Disk). d.files) c.fails.fails.stays) (change_failed fault.file old new fault c.broken c.fails.fails)
  finish_ends (Spent t) c = absurd c
  finish_ends (FileFull next) c = absurd c
  finish_ends (ReadFault file count) c = absurd c
  finish_ends NoMerge c = absurd c
  finish_ends (Stale taken at) c = absurd c
  finish_ends (NotYet stripe) c =
      let only : IsUnchanged old new = c.1 in
      rests (NotYet stripe) refl (ap (λ (s : Session). s.broken) only ∙ whole) (same_told old.disk new.disk (ap (λ (s : Session). s.disk) only))
  finish_ends (Abandoned file count) c = absurd c
  finish_ends (NoStripe stripe stripes) c = absurd c
  finish_ends NoPiece c = absurd c
  finish_ends NoRoom c = absurd c

  finish_counts : (answer : Result (Unit {0}) ChainRefusal) → AnswersFinish answer old new → LineCounts (as_done answer) old new
  finish_counts answer h = go (merge_refused old) refl answer h.cause h.early
    where
      go : (o : Option ChainRefusal) → merge_refused old ≡ o → (answer : Result (Unit {0}) ChainRefusal) → (merge_refused old ≡ None → FinishCause old new answer (IsUnchanged old new)) → IfStopped (merge_refused old) answer (IsUnchanged old new)
          → LineCounts (as_done answer) old new
      go None is (Ok done) cause early = let c : HasFinished old new = cause is in line_rests refl c.whole c.counts
      go None is (Err x) cause early = by_fault x old new (finish_ends x (cause is))
      go (Some e) is answer cause early =
          let first = subst (λ o. IfStopped {T = Unit {0}} o answer (IsUnchanged old new)) is early in
          let quiet : Quiet e = step_quiet old.events old.broken (no_merge old.layers) e whole (merge_quiet (has_merge old.layers) e) is in
          subst (λ a. LineCounts (as_done a) old new) (sym first.0)
          (line_rests quiet (ap (λ (s : Session). s.broken) first.1 ∙ whole) (same_told old.disk new.disk (ap (λ (s : Session). s.disk) first.1)))

  line_counts : (number : ℕ) (step : Asked) (t : Told) → 0 < old.disk.files → AnswersLine number step t old slot new left → LineCounts t old new
  line_counts number (asks_call call) t some h = call_counts number call old new whole some t h.0
  line_counts number (asks_fetch stripe) t some h = subst (λ t. LineCounts t old new) (sym h.1) (fetch_counts stripe h.0 h.2)
  line_counts number asks_put t some h = subst (λ t. LineCounts t old new) (sym h.1) (put_counts h.0 h.2)
  line_counts number asks_copy t some h = subst (λ t. LineCounts t old new) (sym h.1) (copy_counts h.0 h.2)
  line_counts number asks_finish t some h = subst (λ t. LineCounts t old new) (sym h.1) (finish_counts h.0 h.2)

-- in a session that a fault broke
module _ (old new : Session) (slot left : Piece) (fault : StoreFault) (broken : old.broken ≡ Some fault) where
  -- what a step is refused by then
  step_cause : (later : Option ChainRefusal) → (e : ChainRefusal) × (or_else (unfit old.events old.broken) later ≡ Some e) × TellsAtMost (fault_of (Err e)) fault × IsThat fault e
  step_cause later =
      let cause = broken_cause old.events fault later in
      (cause.0, ap (λ b. or_else (unfit old.events b) later) broken ∙ cause.1, cause.2, cause.3)

  step_stays : (t : Told) (e : ChainRefusal) → t ≡ Err e → new.disk ≡ old.disk → new.broken ≡ old.broken → TellsAtMost (fault_of (Err e)) fault × IsThat fault e → StaysBroken fault t old new
  step_stays t e is same stays tells = record { same = same; broken = stays ∙ broken; told = subst (λ t. TellsAtMost (fault_of t) fault) (sym is) tells.0; that = subst (λ t. IfErr t (IsThat fault)) (sym is) tells.1 }

  line_stays_broken : (number : ℕ) (step : Asked) (t : Told) → AnswersLine number step t old slot new left → StaysBroken fault t old new
  line_stays_broken number (asks_call call) t h = call_stays_broken number call old new fault broken t h.0
  line_stays_broken number (asks_fetch stripe) t h =
      let cause = step_cause (no_stripe stripe old.layers) in
      let early = subst (λ o. IfStopped {T = ℕ} o h.0 (IsUnchanged old new)) cause.1 h.2.early in
      step_stays t cause.0 (h.1 ∙ ap with_stamp early.0) (ap (λ (s : Session). s.disk) early.1) (ap (λ (s : Session). s.broken) early.1) (cause.2, cause.3)
  line_stays_broken number asks_put t h =
      let cause = step_cause (no_piece slot old.layers) in
      let early = subst (λ o. IfStopped {T = Unit {0}} o h.0 (IsUnchanged old new)) cause.1 h.2.early in
      step_stays t cause.0 (h.1 ∙ ap as_copied early.0) (ap (λ (s : Session). s.disk) early.1) (ap (λ (s : Session). s.broken) early.1) (cause.2, cause.3)
  line_stays_broken number asks_copy t h =
      let cause = step_cause (no_merge old.layers) in
      let early = subst (λ o. IfStopped {T = Unit {0}} o h.0 ((new ≡ old) × (left ≡ slot))) cause.1 h.2.early in
      step_stays t cause.0 (h.1 ∙ ap as_done early.0) (ap (λ (s : Session). s.disk) early.1.0) (ap (λ (s : Session). s.broken) early.1.0) (cause.2, cause.3)
  line_stays_broken number asks_finish t h =
      let cause = step_cause (no_merge old.layers) in
      let early = subst (λ o. IfStopped {T = Unit {0}} o h.0 (IsUnchanged old new)) cause.1 h.2.early in
      step_stays t cause.0 (h.1 ∙ ap as_done early.0) (ap (λ (s : Session). s.disk) early.1) (ap (λ (s : Session). s.broken) early.1) (cause.2, cause.3)

-- ---- all lines of a session that a fault broke

record StayBroken (fault : StoreFault) (told : List Told) (old new : Session) : Type 0 where
  same : new.disk ≡ old.disk
  broken : new.broken ≡ Some fault
  tells : TellsAtMost (last_fault told) fault
  those : AllByRecursion (λ t. IfErr t (IsThat fault)) told

later_at_most : (a b : Option StoreFault) (fault : StoreFault) → TellsAtMost a fault → TellsAtMost b fault → TellsAtMost (later_of a b) fault
later_at_most a b fault first (inr f) = inr (ap (later_of a) f)
later_at_most a b fault (inl f) (inl g) = inl (ap (later_of a) g ∙ f)
later_at_most a b fault (inr f) (inl g) = inr (ap (later_of a) g ∙ f)

lines_stay_broken : (number : ℕ) (lines : List Line) (told : List Told) (old new : Session) (slot left : Piece) (fault : StoreFault) → old.broken ≡ Some fault → AnswersLines number lines told old slot new left
    → StayBroken fault told old new
lines_stay_broken number [] [] old new slot left fault broken is = record { same = ap (λ (s : Session). s.disk) is.0; broken = ap (λ (s : Session). s.broken) is.0 ∙ broken; tells = inl refl; those = tt }
lines_stay_broken number [] (t ∷ told) old new slot left fault broken is = absurd is
lines_stay_broken number (line ∷ lines) [] old new slot left fault broken is = absurd is
lines_stay_broken number (line ∷ lines) (t ∷ told) old new slot left fault broken is =
    let one = line_stays_broken old is.0 slot is.1 fault broken number (asked line.form) t is.2 in
    let rest = lines_stay_broken (next_number number line.form) lines told is.0 new is.1 left fault one.broken is.3 in
    record { same = rest.same ∙ one.same; broken = rest.broken; tells = later_at_most (fault_of t) (last_fault told) fault one.told rest.tells; those = (one.that, rest.those) }

-- ---- all lines

pub never : (fault : StoreFault) (o : Option StoreFault) → o ≡ Some fault → o ≡ None → ⊥
never fault o e f = let bad : ◌≡◌ {A = Option StoreFault} None (Some fault) = sym f ∙ e in cc

pub if_some : (o : Option StoreFault) (P Q : StoreFault → Type 0) → ((fault : StoreFault) → P fault → Q fault) → IfSome o P → IfSome o Q
if_some None P Q f h = tt
if_some (Some fault) P Q f h = f fault h

-- what no fault refused tells none
quiet_told : (files : ℕ) (reads : ℕ → ℕ) (broke : Option StoreFault) (t : Told) → fault_of t ≡ None → IfErr t (IsFaultOf files reads broke)
quiet_told files reads broke (Ok done) none = tt
quiet_told files reads broke (Err (Broken file count)) none = cc
quiet_told files reads broke (Err (ReadFault file count)) none = cc
quiet_told files reads broke (Err EmptyRange) none = tt
quiet_told files reads broke (Err (OutOfRange first count sectors)) none = tt
quiet_told files reads broke (Err (TooLong count limit)) none = tt
quiet_told files reads broke (Err ReadOnly) none = tt
quiet_told files reads broke (Err (Spent t)) none = tt
quiet_told files reads broke (Err (FileFull next)) none = tt
quiet_told files reads broke (Err NoMerge) none = tt
quiet_told files reads broke (Err (Stale taken at)) none = tt
quiet_told files reads broke (Err (NotYet stripe)) none = tt
quiet_told files reads broke (Err (Abandoned file count)) none = tt
quiet_told files reads broke (Err (NoStripe stripe stripes)) none = tt
quiet_told files reads broke (Err NoPiece) none = tt
quiet_told files reads broke (Err NoRoom) none = tt

-- and what is told of a session that a fault broke is that one
that_told : (files : ℕ) (reads : ℕ → ℕ) (broke : Option StoreFault) (fault : StoreFault) → broke ≡ Some fault → (t : Told) → IfErr t (IsThat fault) → IfErr t (IsFaultOf files reads broke)
that_told files reads broke fault is (Ok done) that = tt
that_told files reads broke fault is (Err (Broken file count)) that = is ∙ ap Some that
that_told files reads broke fault is (Err (ReadFault file count)) that = absurd that
that_told files reads broke fault is (Err EmptyRange) that = tt
that_told files reads broke fault is (Err (OutOfRange first count sectors)) that = tt
that_told files reads broke fault is (Err (TooLong count limit)) that = tt
that_told files reads broke fault is (Err ReadOnly) that = tt
that_told files reads broke fault is (Err (Spent t)) that = tt
that_told files reads broke fault is (Err (FileFull next)) that = tt
that_told files reads broke fault is (Err NoMerge) that = tt
that_told files reads broke fault is (Err (Stale taken at)) that = tt
that_told files reads broke fault is (Err (NotYet stripe)) that = tt
that_told files reads broke fault is (Err (Abandoned file count)) that = tt
that_told files reads broke fault is (Err (NoStripe stripe stripes)) that = tt
that_told files reads broke fault is (Err NoPiece) that = tt
that_told files reads broke fault is (Err NoRoom) that = tt

those_told : (files : ℕ) (reads : ℕ → ℕ) (broke : Option StoreFault) (fault : StoreFault) → broke ≡ Some fault → (told : List Told) → AllByRecursion (λ t. IfErr t (IsThat fault)) told → AllByRecursion (λ t. IfErr t (IsFaultOf files reads broke)) told
those_told files reads broke fault is [] those = tt
those_told files reads broke fault is (t ∷ told) those = (that_told files reads broke fault is t those.0, those_told files reads broke fault is told those.1)

module _ (t : Told) (told : List Told) (old mid new : Session) (files : mid.disk.files ≡ old.disk.files) (more : (n : ℕ) → old.disk.failed_reads n ≤ mid.disk.failed_reads n) where
  reads_more : ((n : ℕ) → mid.disk.failed_reads n ≤ new.disk.failed_reads n) → (n : ℕ) → old.disk.failed_reads n ≤ new.disk.failed_reads n
  reads_more later n = omega (arith, more n, later n)

  -- behind the line a fault refused one, or neither this one
  of_later : last_fault (t ∷ told) ≡ last_fault told → (last_fault told ≡ None → mid.disk ≡ record (old.disk) { told = mid.disk.told }) → IfErr t (IsFaultOf new.disk.files new.disk.failed_reads new.broken) → mid.disk.failed_changes ≡ old.disk.failed_changes → CountsFaults told mid new
      → CountsFaults (t ∷ told) old new
  of_later same quiet this none h = record {
    files = h.files ∙ files;
    last = subst (λ o. IfSome o (Counts new.disk)) (sym same) h.last;
    broken = if_some new.broken (λ fault. last_fault told ≡ Some fault) (λ fault. last_fault (t ∷ told) ≡ Some fault) (λ fault e. same ∙ e) h.broken;
    unbroken = λ whole. subst (λ o. IfSome o (λ fault. fault.count ≡ new.disk.failed_reads fault.file)) (sym same) (h.unbroken whole);
    quiet = λ none. let later = sym same ∙ none in counts_join old.disk mid.disk new.disk (quiet later) (h.quiet later);
    each = (this, h.each);
    change = h.change;
    none = λ whole. h.none whole ∙ none;
    reads = reads_more h.reads;
  }

  -- this one is the last that a fault refused
  of_this : (fault : StoreFault) → last_fault (t ∷ told) ≡ Some fault → Counts new.disk fault → new.disk.files ≡ mid.disk.files → IfSome new.broken (λ x. last_fault (t ∷ told) ≡ Some x)
      → (new.broken ≡ None → fault.count ≡ new.disk.failed_reads fault.file) → AllByRecursion (λ t. IfErr t (IsFaultOf new.disk.files new.disk.failed_reads new.broken)) (t ∷ told) → IfSome new.broken (IsFailedChange new.disk.files new.disk.failed_changes)
      → (new.broken ≡ None → new.disk.failed_changes ≡ old.disk.failed_changes) → ((n : ℕ) → mid.disk.failed_reads n ≤ new.disk.failed_reads n) → CountsFaults (t ∷ told) old new
  of_this fault last counts same broken read each change none reads = record {
    files = same ∙ files;
    last = subst (λ o. IfSome o (Counts new.disk)) (sym last) counts;
    broken = broken;
    unbroken = λ whole. subst (λ o. IfSome o (λ fault. fault.count ≡ new.disk.failed_reads fault.file)) (sym last) (read whole);
    quiet = λ none. absurd (never fault _ last none);
    each = each;
    change = change;
    none = none;
    reads = reads_more reads;
  }

  -- the session goes on behind a fault
  goes_on : (fault : StoreFault) → fault_of t ≡ Some fault → Counts mid.disk fault → fault.count ≡ mid.disk.failed_reads fault.file → t ≡ Err (ReadFault fault.file fault.count) → mid.disk.failed_changes ≡ old.disk.failed_changes → CountsFaults told mid new
      → CountsFaults (t ∷ told) old new
  goes_on fault f counts read is none h = by_last (last_fault told) refl
    where
      this : IfErr t (IsFaultOf new.disk.files new.disk.failed_reads new.broken)
      this = subst (λ t. IfErr t (IsFaultOf new.disk.files new.disk.failed_reads new.broken)) (sym is) (subst (λ n. fault.file < n) (sym h.files) counts.within, counts.some, omega (arith, read, h.reads fault.file))

      by_last : (o : Option StoreFault) → last_fault told ≡ o → CountsFaults (t ∷ told) old new
      by_last (Some x) e = of_later (ap (later_of (fault_of t)) e ∙ sym e) (λ none. absurd (never x _ e none)) this none h
      by_last None e =
          of_this fault (ap₂ later_of f e) (counts_still mid.disk new.disk fault (h.quiet e) counts) h.files
          (if_some new.broken (λ x. last_fault told ≡ Some x) (λ x. last_fault (t ∷ told) ≡ Some x) (λ x some. absurd (never x _ some e)) h.broken)
          (λ whole. read ∙ sym (ap (λ (d : Disk). d.failed_reads fault.file) (h.quiet e))) (this, h.each) h.change (λ whole. h.none whole ∙ none) h.reads

  -- it is broken from then on
  ends_here : (fault : StoreFault) → fault_of t ≡ Some fault → Counts mid.disk fault → fault.count ≡ mid.disk.failed_changes fault.file → t ≡ Err (Broken fault.file fault.count) → StayBroken fault told mid new → CountsFaults (t ∷ told) old new
  ends_here fault f counts count is h =
      let last : last_fault (t ∷ told) ≡ Some fault = by_told (last_fault told) h.tells in
      let failed : IsFailedChange mid.disk.files mid.disk.failed_changes fault = (counts.within, counts.some, count) in
      of_this fault last (subst (λ d. Counts d fault) (sym h.same) counts) (ap (λ (d : Disk). d.files) h.same) (subst (λ o. IfSome o (λ x. last_fault (t ∷ told) ≡ Some x)) (sym h.broken) last)
      (λ whole. absurd (never fault _ h.broken whole)) (subst (λ t. IfErr t (IsFaultOf new.disk.files new.disk.failed_reads new.broken)) (sym is) h.broken, those_told new.disk.files new.disk.failed_reads new.broken fault h.broken told h.those)
      (subst (λ o. IfSome o (IsFailedChange new.disk.files new.disk.failed_changes)) (sym h.broken) (subst (λ (d : Disk). IsFailedChange d.files d.failed_changes fault) (sym h.same) failed)) (λ whole. absurd (never fault _ h.broken whole))
      (λ n. let same : new.disk.failed_reads n ≡ mid.disk.failed_reads n = ap (λ (d : Disk). d.failed_reads n) h.same in omega (arith, same))
    where
      by_told : (o : Option StoreFault) → TellsAtMost o fault → later_of (fault_of t) o ≡ Some fault
      by_told o (inl none) = ap (later_of (fault_of t)) none ∙ f
      by_told o (inr some) = ap (later_of (fault_of t)) some

pub lines_counted : LinesCountFaults
lines_counted number [] [] old new slot left some whole is = record {
  files = ap (λ (s : Session). s.disk.files) is.0;
  last = tt;
  broken = subst (λ o. IfSome o (λ fault. ◌≡◌ {A = Option StoreFault} None (Some fault))) (sym (ap (λ (s : Session). s.broken) is.0 ∙ whole)) tt;
  unbroken = λ whole. tt;
  quiet = λ none. same_told old.disk new.disk (ap (λ (s : Session). s.disk) is.0);
  each = tt;
  change = subst (λ o. IfSome o (IsFailedChange new.disk.files new.disk.failed_changes)) (sym (ap (λ (s : Session). s.broken) is.0 ∙ whole)) tt;
  none = λ whole. ap (λ (s : Session). s.disk.failed_changes) is.0;
  reads = λ n. let same : new.disk.failed_reads n ≡ old.disk.failed_reads n = ap (λ (s : Session). s.disk.failed_reads n) is.0 in omega (arith, same);
}
lines_counted number [] (t ∷ told) old new slot left some whole is = absurd is
lines_counted number (line ∷ lines) [] old new slot left some whole is = absurd is
lines_counted number (line ∷ lines) (t ∷ told) old new slot left some whole is =
    go (line_counts old is.0 slot is.1 whole number (asked line.form) t some is.2)
    (λ files b. lines_counted (next_number number line.form) lines told is.0 new is.1 left (subst (λ n. 0 < n) (sym files) some) b is.3)
    (λ fault b. lines_stay_broken (next_number number line.form) lines told is.0 new is.1 left fault b is.3)
  where
    failed : (x : ChainRefusal) (fault : StoreFault) → t ≡ Err x → fault_of t ≡ Some fault → Counts is.0.disk fault → is.0.disk.files ≡ old.disk.files → (is.0.disk.files ≡ old.disk.files → is.0.broken ≡ None → CountsFaults told is.0 new)
        → ((fault : StoreFault) → is.0.broken ≡ Some fault → StayBroken fault told is.0 new) → HowFailed old is.0 fault x → CountsFaults (t ∷ told) old new
    failed _ fault same f counts files later broken (by_read whole count reads none) = goes_on t told old is.0 new files reads fault f counts count same none (later files whole)
    failed _ fault same f counts files later broken (by_change broke count reads) = ends_here t told old is.0 new files reads fault f counts count same (broken fault broke)

    go : LineCounts t old is.0 → (is.0.disk.files ≡ old.disk.files → is.0.broken ≡ None → CountsFaults told is.0 new) → ((fault : StoreFault) → is.0.broken ≡ Some fault → StayBroken fault told is.0 new) → CountsFaults (t ∷ told) old new
    go (line_rests f b e) later broken =
        let files = ap (λ (d : Disk). d.files) e in
        of_later t told old is.0 new files (λ n. let same : is.0.disk.failed_reads n ≡ old.disk.failed_reads n = ap (λ (d : Disk). d.failed_reads n) e in omega (arith, same)) (ap (λ o. later_of o (last_fault told)) f ∙ later_than_none (last_fault told)) (λ none. e)
        (quiet_told new.disk.files new.disk.failed_reads new.broken t f) (ap (λ (d : Disk). d.failed_changes) e) (later files b)
    go (line_faults x fault same f counts files how) later broken = failed x fault same f counts files later broken how
