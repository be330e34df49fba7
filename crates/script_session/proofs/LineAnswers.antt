-- What a line is told, by the answer of the function that does what it asks for.
use Rattle.std.proofs.Common.{◌≡◌, ◌≤◌, ℕ, List, false, Result, Ok, Err, refl, sym, subst}
use Rattle.std.specs.Prelude.{OnOk}
use Rattle.vx_base.proofs.Handed.{on_ok_any}
use Rattle.guest_model.specs.declared.call.Call.{Call}
use Rattle.guest_model.specs.declared.call.Call.TheVariants as calls
use Rattle.guest_model.specs.declared.refusal.ChainRefusal.{ChainRefusal}
use Rattle.script.specs.declared.form.Form.{Form}
use Rattle.chain_core.specs.Sessions.{Session}
use Rattle.merge_core.specs.declared.piece.Piece.{Piece}
use Rattle.script_session.specs.Answers.{Answers, AnswersCall, AnswersLine, HasRoomFor, as_copied, as_done, called, done_as, fetched, reply_in, told_by, with_stamp}
use Rattle.script_session.specs.MergeSteps.{AnswersCopy, AnswersFetch, AnswersFinish, AnswersPut}
use Rattle.script_session.specs.Told.{Asked, asked, asks_call, asks_copy, asks_fetch, asks_finish, asks_put, caller}
use Rattle.script_session.specs.declared.answer.Done.{Done}
use Rattle.script_session.specs.declared.answer.Done.TheVariants as done

-- ---- what each answer tells

told_call : (number : ℕ) (call : Call) (room : List ℕ) (answer : Result ℕ ChainRefusal) (old new : Session) → Answers (caller number) call answer (reply_in room call) old new → AnswersCall number call (told_by room (asks_call call) (called answer)) old new
told_call number call room (Ok place) old new a = record { answer = Ok place; reply = reply_in room call; is = refl; answers = a }
told_call number call room (Err e) old new a = record { answer = Err e; reply = reply_in room call; is = refl; answers = a }

told_stamp : (room : List ℕ) (step : Asked) (answer : Result ℕ ChainRefusal) → told_by room step (fetched answer) ≡ with_stamp answer
told_stamp room step (Ok stamp) = refl
told_stamp room step (Err e) = refl

told_copied : (room : List ℕ) (step : Asked) (answer : Result (Unit {0}) ChainRefusal) → told_by room step (done_as done.Copied answer) ≡ as_copied answer
told_copied room step (Ok x) = refl
told_copied room step (Err e) = refl

told_whole : (room : List ℕ) (step : Asked) (answer : Result (Unit {0}) ChainRefusal) → told_by room step (done_as done.Whole answer) ≡ as_done answer
told_whole room step (Ok x) = refl
told_whole room step (Err e) = refl

-- ---- so a line was answered

module _ (number : ℕ) (form : Form) (room : List ℕ) (result : Result Done ChainRefusal) (old new : Session) (slot left : Piece) where
  by_step : (step : Asked) (r : Result Done ChainRefusal) → asked form ≡ step → result ≡ r → AnswersLine number step (told_by room step r) old slot new left → AnswersLine number (asked form) (told_by room (asked form) result) old slot new left
  by_step step r is same a =
      subst (λ (s : Asked). AnswersLine number s (told_by room s result) old slot new left) (sym is)
      (subst (λ (x : Result Done ChainRefusal). AnswersLine number step (told_by room step x) old slot new left) (sym same) a)

  pub call_line : (call : Call) (answer : Result ℕ ChainRefusal) → asked form ≡ asks_call call → result ≡ called answer → Answers (caller number) call answer (reply_in room call) old new → left ≡ slot → AnswersLine number (asked form) (told_by room (asked form) result) old slot new left
  call_line call answer is same a kept = by_step (asks_call call) (called answer) is same (told_call number call room answer old new a, kept)

  pub fetch_line : (stripe : ℕ) (answer : Result ℕ ChainRefusal) → asked form ≡ asks_fetch stripe → result ≡ fetched answer → AnswersFetch stripe answer old new left → AnswersLine number (asked form) (told_by room (asked form) result) old slot new left
  fetch_line stripe answer is same a = by_step (asks_fetch stripe) (fetched answer) is same (answer, told_stamp room (asks_fetch stripe) answer, a)

  pub put_line : (answer : Result (Unit {0}) ChainRefusal) → asked form ≡ asks_put → result ≡ done_as done.Copied answer → AnswersPut slot answer old new → left.filled ≡ false → AnswersLine number (asked form) (told_by room (asked form) result) old slot new left
  put_line answer is same a empty = by_step asks_put (done_as done.Copied answer) is same (answer, told_copied room asks_put answer, a, empty)

  pub copy_line : (answer : Result (Unit {0}) ChainRefusal) → asked form ≡ asks_copy → result ≡ done_as done.Whole answer → AnswersCopy answer old slot new left → AnswersLine number (asked form) (told_by room (asked form) result) old slot new left
  copy_line answer is same a = by_step asks_copy (done_as done.Whole answer) is same (answer, told_whole room asks_copy answer, a)

  pub finish_line : (answer : Result (Unit {0}) ChainRefusal) → asked form ≡ asks_finish → result ≡ done_as done.Whole answer → AnswersFinish answer old new → left ≡ slot → AnswersLine number (asked form) (told_by room (asked form) result) old slot new left
  finish_line answer is same a kept = by_step asks_finish (done_as done.Whole answer) is same (answer, told_whole room asks_finish answer, a, kept)

-- ---- and what it finds has room

read_called : (P : Type 0) (answer : Result ℕ ChainRefusal) → OnOk answer P → OnOk (called answer) P
read_called P (Ok place) h = h
read_called P (Err e) h = tt

pub read_room : (form : Form) (first count : ℕ) (answer : Result ℕ ChainRefusal) (result : Result Done ChainRefusal) → asked form ≡ asks_call (calls.Read first count) → result ≡ called answer → OnOk answer (count ≤ 2048) → OnOk result (HasRoomFor (asked form))
read_room form first count answer result is same few =
    subst (λ (s : Asked). OnOk result (HasRoomFor s)) (sym is)
    (subst (λ (r : Result Done ChainRefusal). OnOk r (count ≤ 2048)) (sym same) (read_called (count ≤ 2048) answer few))

pub any_room : (form : Form) (step : Asked) (result : Result Done ChainRefusal) → asked form ≡ step → HasRoomFor step → OnOk result (HasRoomFor (asked form))
any_room form step result is h = on_ok_any result (HasRoomFor (asked form)) (subst HasRoomFor (sym is) h)
