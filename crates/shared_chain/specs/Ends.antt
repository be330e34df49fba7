-- How what is missing of a merge is copied and finished, in a session.
use Rattle.std.specs.Prelude.{◌≢◌, Bool, false, true, Result, Ok, Err}
use Rattle.guest_model.specs.declared.refusal.ChainRefusal.{ChainRefusal}
use Rattle.guest_model.specs.declared.refusal.ChainRefusal.TheVariants.{NoMerge}
use Rattle.merge_core.specs.declared.piece.Piece.{Piece}
use Rattle.chain_core.specs.Sessions.{IsSound, Session}
use Rattle.script_session.specs.MergeSteps.{AnswersCopy, AnswersFinish}

-- No merge was under way, before the copy or behind it; or the copy was stopped; or it was done, and the finish answered so.
pub data EndsMerge (old : Session) (slot : Piece) (new : Session) : Result (Unit {0}) ChainRefusal → Type 0 where
  none_found : (left : Piece) → AnswersCopy (Err NoMerge) old slot new left → EndsMerge old slot new (Ok tt)
  none_left : (mid : Session) (left : Piece) → IsSound mid → AnswersCopy (Ok tt) old slot mid left → AnswersFinish (Err NoMerge) mid new → EndsMerge old slot new (Ok tt)
  copy_stopped : (left : Piece) (x : ChainRefusal) → x ≢ NoMerge → AnswersCopy (Err x) old slot new left → EndsMerge old slot new (Err x)
  finish_done : (mid : Session) (left : Piece) → IsSound mid → AnswersCopy (Ok tt) old slot mid left → AnswersFinish (Ok tt) mid new → EndsMerge old slot new (Ok tt)
  finish_stopped : (mid : Session) (left : Piece) (x : ChainRefusal) → x ≢ NoMerge → IsSound mid → AnswersCopy (Ok tt) old slot mid left → AnswersFinish (Err x) mid new → EndsMerge old slot new (Err x)

-- no merge was found
abbrev pub is_no_merge : Result (Unit {0}) ChainRefusal → Bool
is_no_merge (Err NoMerge) = true
is_no_merge other = false
