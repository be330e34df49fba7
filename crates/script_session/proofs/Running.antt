-- One more line of a script.
use Rattle.std.proofs.Common.{◌≡◌, ◌<◌, ◌≤◌, ◌+◌, ◌^◌, ℕ, Bool, true, false, List, [], ◌∷◌, ◌++◌, get_or, length, take, Option, Some, None, Result, Ok, Err, refl, sym, ap, subst, ◌∙◌, arith, append_assoc, append-nil}
use Rattle.std.specs.Prelude.{IfOk, string_bytes, if◌then◌else◌}
use Rattle.std.specs.List.{AllByRecursion}
use Rattle.std.proofs.lemmas.List.{length-take-le, take_more}
use Rattle.std.proofs.lemmas.Result.{IfOk-weaker}
use Rattle.store_model.specs.declared.fault.StoreFault.{StoreFault}
use Rattle.guest_model.specs.declared.call.Call.{Call}
use Rattle.guest_model.specs.declared.refusal.ChainRefusal.{ChainRefusal}
use Rattle.merge_core.specs.declared.piece.Piece.{Piece}
use Rattle.script.specs.declared.form.Form.{Form}
use Rattle.script.specs.declared.form.Line.{Line}
use Rattle.script.specs.Grammar.{is_call}
use Rattle.chain_core.specs.Sessions.{Session}
use Rattle.script_session.specs.Answers.{Answers, AnswersLine, AnswersLines, HasRun, called, done_as, fetched, reply_in, told_by, as_copied, as_done, with_reply, with_stamp}
use Rattle.script_session.specs.MergeSteps.{AnswersCopy, AnswersFetch, AnswersFinish, AnswersPut}
use Rattle.script_session.specs.declared.answer.Done.{Done}
use Rattle.script_session.specs.declared.answer.Done.TheVariants as done
use Rattle.script_session.specs.declared.lines.LinesRun.{LinesRun}
use Rattle.script_session.specs.Told.{HasMemory, Told, asked, asks_call, asks_copy, asks_fetch, asks_finish, asks_put, caller, fault_of, last_fault, later_of, line_text, next_number, number_behind, transcript}

-- ---- one line

call_told : (room : List ℕ) (call : Call) (answer : Result ℕ ChainRefusal) → told_by room (asks_call call) (called answer) ≡ with_reply (reply_in room call) answer
call_told room call (Ok place) = refl
call_told room call (Err refusal) = refl

pub call_answered : (number : ℕ) (call : Call) (room : List ℕ) (answer : Result ℕ ChainRefusal) (result : Result Done ChainRefusal) (old new : Session) (slot : Piece) → result ≡ called answer
    → Answers (caller number) call answer (reply_in room call) old new → AnswersLine number (asks_call call) (told_by room (asks_call call) result) old slot new slot
call_answered number call room answer result old new slot is h =
    (record { answer = answer; reply = reply_in room call; is = ap (told_by room (asks_call call)) is ∙ call_told room call answer; answers = h }, refl)

fetch_told : (room : List ℕ) (stripe : ℕ) (answer : Result ℕ ChainRefusal) → told_by room (asks_fetch stripe) (fetched answer) ≡ with_stamp answer
fetch_told room stripe (Ok stamp) = refl
fetch_told room stripe (Err refusal) = refl

pub fetch_answered : (number stripe : ℕ) (room : List ℕ) (answer : Result ℕ ChainRefusal) (result : Result Done ChainRefusal) (old new : Session) (slot left : Piece) → result ≡ fetched answer
    → AnswersFetch stripe answer old new left → AnswersLine number (asks_fetch stripe) (told_by room (asks_fetch stripe) result) old slot new left
fetch_answered number stripe room answer result old new slot left is h = (answer, ap (told_by room (asks_fetch stripe)) is ∙ fetch_told room stripe answer, h)

put_told : (room : List ℕ) (answer : Result (Unit {0}) ChainRefusal) → told_by room asks_put (done_as done.Copied answer) ≡ as_copied answer
put_told room (Ok t) = refl
put_told room (Err refusal) = refl

pub put_answered : (number : ℕ) (room : List ℕ) (answer : Result (Unit {0}) ChainRefusal) (result : Result Done ChainRefusal) (old new : Session) (slot left : Piece) → result ≡ done_as done.Copied answer
    → AnswersPut slot answer old new → left.filled ≡ false → AnswersLine number asks_put (told_by room asks_put result) old slot new left
put_answered number room answer result old new slot left is h empty = (answer, ap (told_by room asks_put) is ∙ put_told room answer, h, empty)

copy_told : (room : List ℕ) (answer : Result (Unit {0}) ChainRefusal) → told_by room asks_copy (done_as done.Whole answer) ≡ as_done answer
copy_told room (Ok t) = refl
copy_told room (Err refusal) = refl

pub copy_answered : (number : ℕ) (room : List ℕ) (answer : Result (Unit {0}) ChainRefusal) (result : Result Done ChainRefusal) (old new : Session) (slot left : Piece) → result ≡ done_as done.Whole answer
    → AnswersCopy answer old slot new left → AnswersLine number asks_copy (told_by room asks_copy result) old slot new left
copy_answered number room answer result old new slot left is h = (answer, ap (told_by room asks_copy) is ∙ copy_told room answer, h)

finish_told : (room : List ℕ) (answer : Result (Unit {0}) ChainRefusal) → told_by room asks_finish (done_as done.Whole answer) ≡ as_done answer
finish_told room (Ok t) = refl
finish_told room (Err refusal) = refl

pub finish_answered : (number : ℕ) (room : List ℕ) (answer : Result (Unit {0}) ChainRefusal) (result : Result Done ChainRefusal) (old new : Session) (slot : Piece) → result ≡ done_as done.Whole answer
    → AnswersFinish answer old new → AnswersLine number asks_finish (told_by room asks_finish result) old slot new slot
finish_answered number room answer result old new slot is h = (answer, ap (told_by room asks_finish) is ∙ finish_told room answer, h, refl)

-- ---- numbers of calls

number_more : (number : ℕ) (lines : List Line) (line : Line) → number_behind number (lines ++ line ∷ []) ≡ next_number (number_behind number lines) line.form
number_more number [] line = refl
number_more number (l ∷ lines) line = number_more (next_number number l.form) lines line

next_low : (number : ℕ) (form : Form) → next_number number form ≤ number + 1
next_low number form = go (is_call form)
  where
    go : (b : Bool) → (if b then number + 1 else number) ≤ number + 1
    go true = omega arith
    go false = omega arith

pub number_low : (number : ℕ) (lines : List Line) → number_behind number lines ≤ number + length lines
number_low number [] = omega arith
number_low number (l ∷ lines) = omega (arith, number_low (next_number number l.form) lines, next_low number l.form)

pub number_few : (lines : List Line) (i number : ℕ) → i < length lines → number ≡ number_behind 1 (take i lines) → length lines ≤ 2 ^ 20 → number < 2 ^ 63
number_few lines i number inside numbered few = omega (arith, numbered, number_low 1 (take i lines), length-take-le i lines (omega (arith, inside)), inside, few)

-- ---- lines

-- All of some lines were answered: this text is their transcript, and this the last fault that refused one.
pub record HasRunAll (names : List (List ℕ)) (lines : List Line) (old : Session) (slot : Piece) (new : Session) (left : Piece) (text : List ℕ) (fault : Option StoreFault) : Type 0 where
  pub told : List Told
  pub answers : AnswersLines 1 lines told old slot new left
  pub text_is : text ≡ transcript names lines told
  pub fault_is : fault ≡ last_fault told

-- and none of them by want of memory
pub record HasRunWhole (names : List (List ℕ)) (lines : List Line) (old : Session) (slot : Piece) (new : Session) (left : Piece) (text : List ℕ) (fault : Option StoreFault) : Type 0 where
  pub told : List Told
  pub answers : AnswersLines 1 lines told old slot new left
  pub text_is : text ≡ transcript names lines told
  pub fault_is : fault ≡ last_fault told
  pub memory : AllByRecursion HasMemory told

pub all_of : (names : List (List ℕ)) (lines : List Line) (old : Session) (slot : Piece) (new : Session) (left : Piece) (text : List ℕ) (fault : Option StoreFault) → HasRunWhole names lines old slot new left text fault → HasRunAll names lines old slot new left text fault
all_of names lines old slot new left text fault h = record { told = h.told; answers = h.answers; text_is = h.text_is; fault_is = h.fault_is }

answers_more : (number : ℕ) (lines : List Line) (told : List Told) (line : Line) (t : Told) (old mid new : Session) (slot held left : Piece) → AnswersLines number lines told old slot mid held
    → AnswersLine (number_behind number lines) (asked line.form) t mid held new left → AnswersLines number (lines ++ line ∷ []) (told ++ t ∷ []) old slot new left
answers_more number [] [] line t old mid new slot held left is next =
    (new, left, subst (λ s. AnswersLine number (asked line.form) t s slot new left) is.0 (subst (λ p. AnswersLine number (asked line.form) t mid p new left) is.1 next), (refl, refl))
answers_more number [] (x ∷ told) line t old mid new slot held left is next = absurd is
answers_more number (l ∷ lines) [] line t old mid new slot held left is next = absurd is
answers_more number (l ∷ lines) (x ∷ told) line t old mid new slot held left is next =
    (is.0, is.1, is.2, answers_more (next_number number l.form) lines told line t is.0 mid new is.1 held left is.3 next)

transcript_more : (names : List (List ℕ)) (number : ℕ) (lines : List Line) (told : List Told) (line : Line) (t : Told) (old mid : Session) (slot held : Piece) → AnswersLines number lines told old slot mid held
    → transcript names (lines ++ line ∷ []) (told ++ t ∷ []) ≡ transcript names lines told ++ line_text names line.form t
transcript_more names number [] [] line t old mid slot held is = append-nil (line_text names line.form t)
transcript_more names number [] (x ∷ told) line t old mid slot held is = absurd is
transcript_more names number (l ∷ lines) [] line t old mid slot held is = absurd is
transcript_more names number (l ∷ lines) (x ∷ told) line t old mid slot held is =
    ap (λ rest. line_text names l.form x ++ rest) (transcript_more names (next_number number l.form) lines told line t is.0 mid is.1 held is.3)
    ∙ sym (append_assoc (line_text names l.form x) (transcript names lines told) (line_text names line.form t))

-- ---- the last fault

pub later_than_none : (o : Option StoreFault) → later_of None o ≡ o
later_than_none None = refl
later_than_none (Some fault) = refl

later_twice : (a b c : Option StoreFault) → later_of a (later_of b c) ≡ later_of (later_of a b) c
later_twice a b None = refl
later_twice a b (Some fault) = refl

last_more : (told : List Told) (t : Told) → last_fault (told ++ t ∷ []) ≡ later_of (last_fault told) (fault_of t)
last_more [] t = sym (later_than_none (fault_of t))
last_more (x ∷ told) t = ap (later_of (fault_of x)) (last_more told t) ∙ later_twice (fault_of x) (last_fault told) (fault_of t)

-- ---- one more

pub run_more : (names : List (List ℕ)) (lines : List Line) (line : Line) (t : Told) (old mid new : Session) (slot held left : Piece) (text after : List ℕ) (was now : Option StoreFault) → HasRunAll names lines old slot mid held text was
    → AnswersLine (number_behind 1 lines) (asked line.form) t mid held new left → after ≡ text ++ line_text names line.form t → now ≡ later_of was (fault_of t) → HasRunAll names (lines ++ line ∷ []) old slot new left after now
run_more names lines line t old mid new slot held left text after was now h next e f = record {
  told = h.told ++ t ∷ [];
  answers = answers_more 1 lines h.told line t old mid new slot held left h.answers next;
  text_is = e ∙ ap (λ x. x ++ line_text names line.form t) h.text_is ∙ sym (transcript_more names 1 lines h.told line t old mid slot held h.answers);
  fault_is = f ∙ ap (λ o. later_of o (fault_of t)) h.fault_is ∙ sym (last_more h.told t);
}

one_with_memory : (told : List Told) (t : Told) → AllByRecursion HasMemory told → HasMemory t → AllByRecursion HasMemory (told ++ t ∷ [])
one_with_memory [] t all one = (one, tt)
one_with_memory (x ∷ told) t all one = (all.0, one_with_memory told t all.1 one)

-- ---- in the script

module _ (lines : List Line) (i number : ℕ) (d : Line) (inside : i < length lines) (numbered : number ≡ number_behind 1 (take i lines)) where
  abbrev form : Form
  form = (get_or lines i d).form

  pub run_next : (names : List (List ℕ)) (t : Told) (old mid new : Session) (slot held left : Piece) (text after : List ℕ) (was now : Option StoreFault) → HasRunAll names (take i lines) old slot mid held text was
      → AnswersLine number (asked form) t mid held new left → after ≡ text ++ line_text names form t → now ≡ later_of was (fault_of t) → HasRunAll names (take (i + 1) lines) old slot new left after now
  run_next names t old mid new slot held left text after was now h next e f =
      subst (λ ls. HasRunAll names ls old slot new left after now) (sym (take_more lines i d inside))
      (run_more names (take i lines) (get_or lines i d) t old mid new slot held left text after was now h (subst (λ n. AnswersLine n (asked form) t mid held new left) numbered next) e f)

  pub whole_next : (names : List (List ℕ)) (t : Told) (old mid new : Session) (slot held left : Piece) (text after : List ℕ) (was now : Option StoreFault) → HasRunWhole names (take i lines) old slot mid held text was
      → AnswersLine number (asked form) t mid held new left → after ≡ text ++ line_text names form t → HasMemory t → now ≡ later_of was (fault_of t) → HasRunWhole names (take (i + 1) lines) old slot new left after now
  unfolding run_more all_of
  whole_next names t old mid new slot held left text after was now h next e memory f =
      subst (λ ls. HasRunWhole names ls old slot new left after now) (sym (take_more lines i d inside))
      (record { told = h.told ++ t ∷ []; answers = k.answers; text_is = k.text_is; fault_is = k.fault_is; memory = one_with_memory h.told t h.memory memory })
    where
      k : HasRunAll names (take i lines ++ get_or lines i d ∷ []) old slot new left after now
      k = run_more names (take i lines) (get_or lines i d) t old mid new slot held left text after was now (all_of _ _ _ _ _ _ _ _ h) (subst (λ n. AnswersLine n (asked form) t mid held new left) numbered next) e f

  pub number_next : (next : ℕ) → next ≡ next_number number form → next ≡ number_behind 1 (take (i + 1) lines)
  number_next next is =
      is ∙ ap (λ n. next_number n form) numbered ∙ sym (number_more 1 (take i lines) (get_or lines i d)) ∙ ap (number_behind 1) (sym (take_more lines i d inside))

-- ---- the outcome

-- the first n lines have run, and there is no transcript
pub run_of : (names : List (List ℕ)) (lines : List Line) (n : ℕ) (old new : Session) (slot left : Piece) (text : List ℕ) (fault : Option StoreFault) (run : LinesRun) → HasRunAll names (take n lines) old slot new left text fault
    → IfOk run.transcript (λ s. ⊥) → run.fault ≡ fault → HasRun names lines old slot new left run
run_of names lines n old new slot left text fault run h none same = record {
  many = n;
  told = h.told;
  answers = h.answers;
  whole = IfOk-weaker run.transcript (λ s. ⊥) (λ s. (take n lines ≡ lines) × (string_bytes s ≡ transcript names lines h.told) × AllByRecursion HasMemory h.told) (λ s never. absurd never) none;
  fault_is = same ∙ h.fault_is;
}

-- all have run, and this is their transcript
pub whole_of : (names : List (List ℕ)) (lines : List Line) (n : ℕ) (old new : Session) (slot left : Piece) (text : List ℕ) (fault : Option StoreFault) (run : LinesRun) → HasRunWhole names (take n lines) old slot new left text fault
    → IfOk run.transcript (λ s. (take n lines ≡ lines) × (string_bytes s ≡ text)) → run.fault ≡ fault → HasRun names lines old slot new left run
whole_of names lines n old new slot left text fault run h whole same = record {
  many = n;
  told = h.told;
  answers = h.answers;
  whole = IfOk-weaker run.transcript (λ s. (take n lines ≡ lines) × (string_bytes s ≡ text)) (λ s. (take n lines ≡ lines) × (string_bytes s ≡ transcript names lines h.told) × AllByRecursion HasMemory h.told)
      (λ s w. (w.0, w.1 ∙ h.text_is ∙ ap (λ ls. transcript names ls h.told) w.0, h.memory)) whole;
  fault_is = same ∙ h.fault_is;
}
