-- What lines leave of the store's content where it isn't told, or is only read.
use Rattle.std.proofs.Common.{◌≡◌, ◌^◌, ℕ, Bool, true, false, List, [], ◌∷◌, Option, Some, None, Result, Ok, Err, refl, sym, ap, ap₂, subst, ◌∙◌, ◌||◌}
use Rattle.std.specs.Prelude.{IfSome, if◌then◌else◌, is_some, nat_lt}
use Rattle.store_model.specs.Disk.{Disk, WhereBothTold}
use Rattle.store_model.specs.Trace.{Trace}
use Rattle.store_model.specs.declared.fault.StoreFault.{StoreFault}
use Rattle.guest_model.specs.declared.call.Call.{Call}
use Rattle.guest_model.specs.declared.call.Call.TheVariants as calls
use Rattle.guest_model.specs.declared.call.Reply.{Reply}
use Rattle.guest_model.specs.declared.refusal.ChainRefusal.{ChainRefusal}
use Rattle.guest_model.specs.declared.refusal.ChainRefusal.TheVariants.{NoMerge, NoRoom, ReadFault, Spent}
use Rattle.chain_core.specs.Answering.{IsCausedByRead}
use Rattle.chain_core.specs.Refusing.{broken_by, counted, misplaced, or_else, refused, unfit}
use Rattle.chain_core.specs.Sessions.{Session}
use Rattle.merge_core.specs.declared.piece.Piece.{Piece}
use Rattle.chain_core.specs.Copying.{IfStopped, fetch_refused, merge_refused, no_merge, put_refused}
use Rattle.chain_core.specs.Sessions.{IsMergeOf, IsRetiringOf, IsSound, has_merge}
use Rattle.chain_core.specs.declared.layers.Retiring.{Retiring}
use Rattle.chain_core.specs.declared.layers.Underway.{Underway}
use Rattle.script.specs.declared.form.Line.{Line}
use Rattle.script_session.specs.Answers.{Answers, AnswersLine, AnswersLines, HasCauseOf}
use Rattle.script_session.specs.MergeSteps.{AnswersCopy, AnswersFetch, AnswersFinish, AnswersPut, AnswersTurn, AnswersTurns, EndsCopy, IsUnchanged, all_moved, fetched_and, no_turn, not_fetched, one_more, one_refused, passed_over}
use Rattle.script_session.specs.Told.{Asked, Told, asked, asks_call, asks_copy, asks_fetch, asks_finish, asks_put, caller, next_number}
use Rattle.script_session.proofs.Moving.{first_of}
use Rattle.script_session.proofs.Room.{changes_none}

pub both_untold : (R : Trace → Trace → Type 0) (before after : Option Trace) → before ≡ None → WhereBothTold R before after → after ≡ None
both_untold R before None e h = refl
both_untold R before (Some now) e h = absurd (subst (λ o. WhereBothTold R o (Some now)) e h)

-- a call that isn't refused before it reaches the files is one of a session that isn't broken
unbroken : (events : ℕ) (broken : Option StoreFault) (later : Option ChainRefusal) → or_else (unfit events broken) later ≡ None → broken ≡ None
unbroken events None later h = refl
unbroken events (Some fault) later h = go (nat_lt events (2 ^ 63)) h
  where
    go : (b : Bool) → or_else (if b then broken_by (Some fault) else Some (Spent events)) later ≡ None → Some fault ≡ None
    go true h = cc
    go false h = cc

-- what a read leaves
read_stays : (old new : Session) (answer : Result ℕ ChainRefusal) → IsCausedByRead old new answer → new.disk.told ≡ old.disk.told
read_stays old new (Ok place) c = ap (λ (d : Disk). d.told) c.0
read_stays old new (Err NoRoom) c = ap (λ (d : Disk). d.told) c.0
read_stays old new (Err (ReadFault file count)) c = ap (λ (d : Disk). d.told) c.0.1.stays
read_stays old new (Err other) c = absurd c

module _ (old new : Session) (read_only : is_some old.layers.leaf ≡ false) where
  call_stays : (call : Call) (answer : Result ℕ ChainRefusal) → HasCauseOf call old new answer → refused call old ≡ None → new.disk.told ≡ old.disk.told
  call_stays (calls.Read first count) answer c fit = read_stays old new answer (c fit)
  call_stays (calls.Write first bytes) answer c fit = absurd (changes_none old (calls.Write first bytes) read_only refl fit)
  call_stays (calls.Trim first count) answer c fit = absurd (changes_none old (calls.Trim first count) read_only refl fit)
  call_stays calls.Flush answer c fit = absurd (changes_none old calls.Flush read_only refl fit)

module _ (number : ℕ) (call : Call) (old new : Session) where
  -- refused before the files are reached, or not
  by_cause : (P : Option Trace → Type 0) (answer : Result ℕ ChainRefusal) (r : Reply) → P old.disk.told → (refused call old ≡ None → P new.disk.told) → Answers (caller number) call answer r old new → P new.disk.told
  by_cause P answer r early reached h = go (refused call old) refl
    where
      go : (o : Option ChainRefusal) → refused call old ≡ o → P new.disk.told
      go None is = reached is
      go (Some e) is =
          let only = subst (λ o. IfSome o (λ e. (answer ≡ Err e) × (new ≡ record old { events = counted old.events }))) is h.early in
          subst P (sym (ap (λ (s : Session). s.disk.told) only.1)) early

  answer_untold : (answer : Result ℕ ChainRefusal) (r : Reply) → old.disk.told ≡ None → Answers (caller number) call answer r old new → new.disk.told ≡ None
  answer_untold answer r none h =
      by_cause (λ o. o ≡ None) answer r none (λ fit. both_untold _ old.disk.told new.disk.told none (h.told (unbroken old.events old.broken (misplaced call old.layers) fit))) h

  answer_stays : (answer : Result ℕ ChainRefusal) (r : Reply) → is_some old.layers.leaf ≡ false → Answers (caller number) call answer r old new → new.disk.told ≡ old.disk.told
  answer_stays answer r read_only h = by_cause (λ o. o ≡ old.disk.told) answer r refl (call_stays old new read_only call answer h.cause) h

-- ---- steps of a merge

-- where content isn't told
pub fetch_untold : (stripe : ℕ) (answer : Result ℕ ChainRefusal) (old new : Session) (left : Piece) → old.disk.told ≡ None → AnswersFetch stripe answer old new left → new.disk.told ≡ None
fetch_untold stripe answer old new left none h = go (fetch_refused stripe old) refl
  where
    go : (o : Option ChainRefusal) → fetch_refused stripe old ≡ o → new.disk.told ≡ None
    go None is = both_untold _ old.disk.told new.disk.told none (h.told is)
    go (Some e) is = ap (λ (s : Session). s.disk.told) (subst (λ o. IfStopped {T = ℕ} o answer (IsUnchanged old new)) is h.early).1 ∙ none

pub put_untold : (piece : Piece) (answer : Result (Unit {0}) ChainRefusal) (old new : Session) → old.disk.told ≡ None → AnswersPut piece answer old new → new.disk.told ≡ None
put_untold piece answer old new none h = go (put_refused piece old) refl
  where
    go : (o : Option ChainRefusal) → put_refused piece old ≡ o → new.disk.told ≡ None
    go None is = both_untold _ old.disk.told new.disk.told none (h.told is)
    go (Some e) is = ap (λ (s : Session). s.disk.told) (subst (λ o. IfStopped {T = Unit {0}} o answer (IsUnchanged old new)) is h.early).1 ∙ none

pub turn_untold : (stripe : ℕ) (answer : Result (Unit {0}) ChainRefusal) (old new : Session) → old.disk.told ≡ None → AnswersTurn stripe answer old new → new.disk.told ≡ None
turn_untold stripe answer old new none (not_fetched x _ _ left fetched) = fetch_untold stripe (Err x) old new left none fetched
turn_untold stripe answer old new none (fetched_and _ stamp _ mid _ piece fetched put) = put_untold piece answer mid new (fetch_untold stripe (Ok stamp) old mid piece none fetched) put

turns_untold : (old : Session) (slot : Piece) (new : Session) (left : Piece) → old.disk.told ≡ None → AnswersTurns old slot new left → new.disk.told ≡ None
turns_untold old slot _ _ none no_turn = none
turns_untold old slot new left none (passed_over stripe n mid _ held _ turns next skip empty) = ap (λ (d : Disk). d.told) skip.disk ∙ turns_untold old slot mid held none turns
turns_untold old slot new left none (one_more stripe mid _ held _ turns next turn empty) = turn_untold stripe (Ok tt) mid new (turns_untold old slot mid held none turns) turn

copy_untold : (answer : Result (Unit {0}) ChainRefusal) (old new : Session) (slot left : Piece) → old.disk.told ≡ None → AnswersCopy answer old slot new left → new.disk.told ≡ None
copy_untold answer old new slot left none h = go (merge_refused old) refl
  where
    ends : (answer : Result (Unit {0}) ChainRefusal) → EndsCopy old slot answer new left → new.disk.told ≡ None
    ends _ (all_moved _ _ turns sound missing) = turns_untold old slot new left none turns
    ends _ (one_refused x stripe mid _ held _ turns next turn empty) = turn_untold stripe (Err x) mid new (turns_untold old slot mid held none turns) turn

    go : (o : Option ChainRefusal) → merge_refused old ≡ o → new.disk.told ≡ None
    go None is = ends answer (h.turns is)
    go (Some e) is = ap (λ (s : Session). s.disk.told) (subst (λ o. IfStopped {T = Unit {0}} o answer ((new ≡ old) × (left ≡ slot))) is h.early).1.0 ∙ none

pub finish_untold : (answer : Result (Unit {0}) ChainRefusal) (old new : Session) → old.disk.told ≡ None → AnswersFinish answer old new → new.disk.told ≡ None
finish_untold answer old new none h = go (merge_refused old) refl
  where
    go : (o : Option ChainRefusal) → merge_refused old ≡ o → new.disk.told ≡ None
    go None is = both_untold _ old.disk.told new.disk.told none (h.told is)
    go (Some e) is = ap (λ (s : Session). s.disk.told) (subst (λ o. IfStopped {T = Unit {0}} o answer (IsUnchanged old new)) is h.early).1 ∙ none

line_untold : (number : ℕ) (step : Asked) (t : Told) (old new : Session) (slot left : Piece) → old.disk.told ≡ None → AnswersLine number step t old slot new left → new.disk.told ≡ None
line_untold number (asks_call call) t old new slot left none h = answer_untold number call old new h.0.answer h.0.reply none h.0.answers
line_untold number (asks_fetch stripe) t old new slot left none h = fetch_untold stripe h.0 old new left none h.2
line_untold number asks_put t old new slot left none h = put_untold slot h.0 old new none h.2
line_untold number asks_copy t old new slot left none h = copy_untold h.0 old new slot left none h.2
line_untold number asks_finish t old new slot left none h = finish_untold h.0 old new none h.2

-- where the files are only read no merge is under way
no_merge_read : (s : Session) → IsSound s → is_some s.layers.leaf ≡ false → (e : ChainRefusal) × (merge_refused s ≡ Some e)
no_merge_read s sound read_only = by_unfit (unfit s.events s.broken) refl
  where
    by_both : (o : Option Underway) (t : Option Retiring) → s.layers.merge ≡ o → s.layers.retiring ≡ t → s.broken ≡ None → no_merge s.layers ≡ Some NoMerge
    by_both None None is only whole = ap₂ (λ (o : Option Underway) (t : Option Retiring). if is_some o || is_some t then None else Some NoMerge) is only
    by_both o (Some r) is only whole =
        let retiring : IsRetiringOf s.layers.geometry s.layers.leaf s.layers.below.items r = subst (λ o. IfSome o (IsRetiringOf s.layers.geometry s.layers.leaf s.layers.below.items)) only (sound.ready whole).retiring in
        absurd (let bad : false ≡ true = sym read_only ∙ retiring.session in cc)
    by_both (Some u) None is only whole =
        let merge : IsMergeOf s.layers.geometry s.layers.leaf s.layers.below.items u = subst (λ o. IfSome o (IsMergeOf s.layers.geometry s.layers.leaf s.layers.below.items)) is (sound.ready whole).merge in
        absurd (let bad : false ≡ true = sym read_only ∙ merge.session in cc)

    by_unfit : (o : Option ChainRefusal) → unfit s.events s.broken ≡ o → (e : ChainRefusal) × (merge_refused s ≡ Some e)
    by_unfit (Some e) is = (e, ap (λ o. or_else o (no_merge s.layers)) is)
    by_unfit None is = (NoMerge, ap (λ o. or_else o (no_merge s.layers)) is ∙ by_both s.layers.merge s.layers.retiring refl refl (unbroken s.events s.broken None (ap (λ o. or_else o None) is)))

fetch_first : (u : Option ChainRefusal) (b : Bool) (x : Option ChainRefusal) (e : ChainRefusal) → or_else u (if b then None else Some NoMerge) ≡ Some e → or_else u (if b then x else Some NoMerge) ≡ Some e
fetch_first (Some y) b x e h = h
fetch_first None false x e h = h
fetch_first None true x e h = let bad : ◌≡◌ {A = Option ChainRefusal} None (Some e) = h in absurd (cc)

-- a line leaves the files, which are only read
line_stays : (number : ℕ) (step : Asked) (t : Told) (old new : Session) (slot left : Piece) → is_some old.layers.leaf ≡ false → AnswersLine number step t old slot new left → (new.disk.told ≡ old.disk.told) × (is_some new.layers.leaf ≡ false)
line_stays number (asks_call call) t old new slot left read_only h =
    (answer_stays number call old new h.0.answer h.0.reply read_only h.0.answers, h.0.answers.session ∙ read_only)
line_stays number (asks_fetch stripe) t old new slot left read_only h =
    let cause = no_merge_read old h.2.sound read_only in
    let is : fetch_refused stripe old ≡ Some cause.0 = fetch_first (unfit old.events old.broken) (has_merge old.layers) _ cause.0 cause.1 in
    let only = (subst (λ o. IfStopped {T = ℕ} o h.0 (IsUnchanged old new)) is h.2.early).1 in
    (ap (λ (s : Session). s.disk.told) only, h.2.keeps.session ∙ read_only)
line_stays number asks_put t old new slot left read_only h =
    let cause = no_merge_read old h.2.sound read_only in
    let is : put_refused slot old ≡ Some cause.0 = first_of (unfit old.events old.broken) (no_merge old.layers) _ cause.0 cause.1 in
    let only = (subst (λ o. IfStopped {T = Unit {0}} o h.0 (IsUnchanged old new)) is h.2.early).1 in
    (ap (λ (s : Session). s.disk.told) only, h.2.keeps.session ∙ read_only)
line_stays number asks_copy t old new slot left read_only h =
    let cause = no_merge_read old h.2.sound read_only in
    let same = (subst (λ o. IfStopped {T = Unit {0}} o h.0 ((new ≡ old) × (left ≡ slot))) cause.1 h.2.early).1.0 in
    (ap (λ (s : Session). s.disk.told) same, ap (λ (s : Session). is_some s.layers.leaf) same ∙ read_only)
line_stays number asks_finish t old new slot left read_only h =
    let cause = no_merge_read old h.2.sound read_only in
    let only = (subst (λ o. IfStopped {T = Unit {0}} o h.0 (IsUnchanged old new)) cause.1 h.2.early).1 in
    (ap (λ (s : Session). s.disk.told) only, h.2.keeps.session ∙ read_only)

-- ---- all lines

-- content that isn't told before lines isn't told behind them
pub lines_untold : (number : ℕ) (lines : List Line) (told : List Told) (old new : Session) (slot left : Piece) → old.disk.told ≡ None → AnswersLines number lines told old slot new left → new.disk.told ≡ None
lines_untold number [] [] old new slot left none is = ap (λ (s : Session). s.disk.told) is.0 ∙ none
lines_untold number [] (t ∷ told) old new slot left none is = absurd is
lines_untold number (line ∷ lines) [] old new slot left none is = absurd is
lines_untold number (line ∷ lines) (t ∷ told) old new slot left none is =
    lines_untold (next_number number line.form) lines told is.0 new is.1 left (line_untold number (asked line.form) t old is.0 slot is.1 none is.2) is.3

-- lines change no file where the files are only read
pub lines_stay : (number : ℕ) (lines : List Line) (told : List Told) (old new : Session) (slot left : Piece) → is_some old.layers.leaf ≡ false → AnswersLines number lines told old slot new left → new.disk.told ≡ old.disk.told
lines_stay number [] [] old new slot left read_only is = ap (λ (s : Session). s.disk.told) is.0
lines_stay number [] (t ∷ told) old new slot left read_only is = absurd is
lines_stay number (line ∷ lines) [] old new slot left read_only is = absurd is
lines_stay number (line ∷ lines) (t ∷ told) old new slot left read_only is =
    let one = line_stays number (asked line.form) t old is.0 slot is.1 read_only is.2 in
    lines_stay (next_number number line.form) lines told is.0 new is.1 left one.1 is.3 ∙ one.0
