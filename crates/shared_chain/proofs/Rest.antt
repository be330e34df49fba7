-- How a copy and a finish end a merge.
use Rattle.std.proofs.Common.{◌≡◌, true, false, Result, Ok, Err, refl, sym, subst, ◌∙◌, ap}
use Rattle.guest_model.specs.declared.refusal.ChainRefusal.{ChainRefusal}
use Rattle.guest_model.specs.declared.refusal.ChainRefusal.TheVariants.{Abandoned, Broken, EmptyRange, FileFull, NoMerge, NoPiece, NoRoom, NoStripe, NotYet, OutOfRange, ReadFault, ReadOnly, Spent, Stale, TooLong}
use Rattle.merge_core.specs.declared.piece.Piece.{Piece}
use Rattle.chain_core.specs.Sessions.{IsSound, Session}
use Rattle.layer_session.proofs.Equal.{false_true, true_false}
use Rattle.script_session.specs.MergeSteps.{AnswersCopy, AnswersFinish}
use Rattle.shared_chain.specs.Ends.{EndsMerge, copy_stopped, finish_done, finish_stopped, is_no_merge, none_found, none_left}

-- the copy was stopped, or it was done and the finish answered so
pub data Rest (old : Session) (slot : Piece) (new : Session) : Result (Unit {0}) ChainRefusal → Type 0 where
  stopped : (left : Piece) (x : ChainRefusal) → AnswersCopy (Err x) old slot new left → Rest old slot new (Err x)
  finished : (mid : Session) (left : Piece) (answer : Result (Unit {0}) ChainRefusal) → IsSound mid → AnswersCopy (Ok tt) old slot mid left → AnswersFinish answer mid new → Rest old slot new answer

is_none : (x : ChainRefusal) → is_no_merge (Err x) ≡ true → x ≡ NoMerge
is_none EmptyRange e = absurd (false_true e)
is_none (OutOfRange a b c) e = absurd (false_true e)
is_none (TooLong a b) e = absurd (false_true e)
is_none ReadOnly e = absurd (false_true e)
is_none (Broken file count) e = absurd (false_true e)
is_none (Spent t) e = absurd (false_true e)
is_none (FileFull next) e = absurd (false_true e)
is_none (ReadFault file count) e = absurd (false_true e)
is_none NoMerge e = refl
is_none (Stale taken now) e = absurd (false_true e)
is_none (NotYet stripe) e = absurd (false_true e)
is_none (Abandoned file count) e = absurd (false_true e)
is_none (NoStripe stripe stripes) e = absurd (false_true e)
is_none NoPiece e = absurd (false_true e)
is_none NoRoom e = absurd (false_true e)

pub ends_none : (old : Session) (slot : Piece) (new : Session) (answer : Result (Unit {0}) ChainRefusal) → Rest old slot new answer → is_no_merge answer ≡ true → EndsMerge old slot new (Ok tt)
ends_none old slot new _ (stopped left x h) e = none_found left (subst (λ y. AnswersCopy (Err y) old slot new left) (is_none x e) h)
ends_none old slot new _ (finished mid left (Ok done) s h f) e = absurd (false_true e)
ends_none old slot new _ (finished mid left (Err x) s h f) e = none_left mid left s h (subst (λ y. AnswersFinish (Err y) mid new) (is_none x e) f)

pub ends_other : (old : Session) (slot : Piece) (new : Session) (answer : Result (Unit {0}) ChainRefusal) → Rest old slot new answer → is_no_merge answer ≡ false → EndsMerge old slot new answer
ends_other old slot new _ (stopped left x h) e = copy_stopped left x (λ is. true_false (sym (ap (λ y. is_no_merge (Err y)) is) ∙ e)) h
ends_other old slot new _ (finished mid left (Ok done) s h f) e = finish_done mid left s h f
ends_other old slot new _ (finished mid left (Err x) s h f) e = finish_stopped mid left x (λ is. true_false (sym (ap (λ y. is_no_merge (Err y)) is) ∙ e)) s h f
