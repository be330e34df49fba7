-- Answered lines are told the history and how a merge stands.
use Rattle.std.proofs.Common.{◌≡◌, ◌≤◌, ◌+◌, ◌^◌, ℕ, [], ◌∷◌, Option, Some, sym, subst, arith}
use Rattle.store_model.specs.Trace.{Trace}
use Rattle.merge_core.specs.declared.piece.Piece.{Piece}
use Rattle.chain_core.specs.Sessions.{Session}
use Rattle.chain_core.specs.States.{State}
use Rattle.script_session.specs.Answers.{AnswersLine}
use Rattle.script_session.specs.Histories.{AreTold, Break, Course, Drive, IsOver, IsSoLong, LinesTellHistory, Stands, TellsHistory, line_told, none_left}
use Rattle.script_session.specs.Told.{Asked, Told, asked, asks_call, asks_copy, asks_fetch, asks_finish, asks_put, next_number}
use Rattle.script_session.proofs.Steps.{copy_line, fetch_line, finish_line, put_line}
use Rattle.script_session.proofs.LeftFiles.{later_itself}
use Rattle.script_session.proofs.Lengths.{end_later, ends_later, grows_none, grows_on, long_later, writes_before}
use Rattle.script_session.proofs.Telling.{LineTold, call_line}

module _ (drive : Drive) (number : ℕ) (v : State) (course : Course) (broken : Option Break) (old new : Session) (slot left : Piece) (over : IsOver drive v old) (trace : Trace) (seen : old.disk.told ≡ Some trace)
    (stands : Stands v old slot trace course broken) (few : old.events + 2 ^ 34 ≤ 2 ^ 63) where
  abbrev Line : Asked → Told → Piece → Type 0
  Line step t p = LineTold drive number step t v course broken old.events trace new p

  pub line_is : (step : Asked) (t : Told) → AnswersLine number step t old slot new left → Line step t left
  line_is (asks_call call) t h = subst (Line (asks_call call) t) (sym h.1) (call_line drive number call v course old new slot over trace broken seen stands (omega (arith, few)) t h.0)
  line_is (asks_fetch stripe) t h =
      subst (λ t. Line (asks_fetch stripe) t left) (sym h.1) (fetch_line drive number v old new slot left over trace seen few stripe course broken h.0 stands h.2)
  line_is asks_put t h = subst (λ t. Line asks_put t left) (sym h.1) (put_line drive number v old new slot left over trace seen few course broken h.0 stands h.2 h.3)
  line_is asks_copy t h = subst (λ t. Line asks_copy t left) (sym h.1) (copy_line drive number v old new slot left over trace seen few course broken h.0 stands h.2)
  line_is asks_finish t h = subst (λ t. Line asks_finish t left) (sym h.1) (finish_line drive number v old new slot left over trace seen few course broken h.0 stands h.2 h.3)

pub lines_told : LinesTellHistory
lines_told drive number [] [] v course broken old new slot left trace seen stands over few is =
    subst (λ s. TellsHistory drive number [] [] v course broken trace s left) (sym is.0) (subst (λ p. TellsHistory drive number [] [] v course broken trace old p) (sym is.1) (record {
      later = v;
      now = trace;
      end = course;
      broken = broken;
      same = later_itself v;
      told_so = none_left number v.history course broken;
      full = tt;
      grows = grows_none trace;
      over = over;
      seen = seen;
      stands = stands;
    }))
lines_told drive number [] (t ∷ told) v course broken old new slot left trace seen stands over few is = absurd is
lines_told drive number (line ∷ lines) [] v course broken old new slot left trace seen stands over few is = absurd is
lines_told drive number (line ∷ lines) (t ∷ told) v course broken old new slot left trace seen stands over few is =
    let mid = is.0 in
    let one = line_is drive number v course broken old mid slot is.1 over trace seen stands (omega (arith, few)) (asked line.form) t is.2 in
    let next = next_number number line.form in
    let rest = lines_told drive next lines told one.state one.on one.after mid new is.1 left one.now one.seen one.stands one.over (omega (arith, few, one.few)) is.3 in
    record {
      later = rest.later;
      now = rest.now;
      end = rest.end;
      broken = rest.broken;
      same = one.same rest.later.history rest.later rest.same;
      told_so = line_told number v.history rest.later.history course one.on rest.end broken one.after rest.broken line lines t told one.told_so
          (subst (λ h. AreTold drive next h one.on one.after lines told rest.later.history rest.end rest.broken) (sym one.history) rest.told_so);
      full = (
        end_later (IsSoLong v.writes one.now) (IsSoLong v.writes rest.now) (λ n. long_later v.writes v.writes one.now rest.now n (λ k e. e) rest.grows) t one.full,
        ends_later (IsSoLong one.state.writes rest.now) (IsSoLong v.writes rest.now) (λ n. long_later one.state.writes v.writes rest.now rest.now n (writes_before v one.state one.same) (grows_none rest.now)) told rest.full,
      );
      grows = grows_on trace one.now rest.now one.grows rest.grows;
      over = rest.over;
      seen = rest.seen;
      stands = rest.stands;
    }
