use Rattle.std.proofs.Common.{Err, subst, sym, ◌∙◌}
use Rattle.script_session.specs.MergeSteps.{AnswersCopy}
use Rattle.shared_chain.specs.Homes.{session_of}
use Rattle.shared_chain.proofs.Rest.{Rest, ends_none, ends_other, finished, stopped}
use Rattle.shared_chain.proofs.shared.merge_rest.Goals as goal
use Rattle.shared_chain.proofs.shared.merge_rest.Goals.{in-Err, in-Ok}

pub returns-then-is_no_merge-clause-ends : goal.returns-then-is_no_merge-clause-ends
returns-then-is_no_merge-clause-ends g c =
    let s = session_of g.S.Store.disk in
    let old = s c.args.chain.now in
    let slot = c.args.piece.now in
    let rest : Rest old slot (s c.match-copy.chain) c.match-copy.answer = elim c.match-copy.branch [
      | in-Ok w ↦ subst (λ r. Rest old slot (s c.match-copy.chain) r) (sym w.answer-is) (subst (λ k. Rest old slot (s k) w.finish-answer.result) (sym w.chain-is)
          (finished (s c.copy.new.chain) c.copy.new.piece w.finish-answer.result c.copy.ensures.sound (subst (λ r. AnswersCopy r old slot (s c.copy.new.chain) c.copy.new.piece) w.in-Ok.is c.copy.ensures.answers) w.finish-answer.ensures.answers))
      | in-Err w ↦ subst (λ r. Rest old slot (s c.match-copy.chain) r) (sym w.answer-is) (subst (λ k. Rest old slot (s k) (Err w.in-Err.refusal)) (sym w.chain-is)
          (stopped c.copy.new.piece w.in-Err.refusal (subst (λ r. AnswersCopy r old slot (s c.copy.new.chain) c.copy.new.piece) w.in-Err.is c.copy.ensures.answers)))
    ] in
    ends_none old slot (s c.match-copy.chain) c.match-copy.answer rest (sym c.is_no_merge.ensures ∙ c.if-is_no_merge.true)

pub returns-else-is_no_merge-clause-ends : goal.returns-else-is_no_merge-clause-ends
returns-else-is_no_merge-clause-ends g c =
    let s = session_of g.S.Store.disk in
    let old = s c.args.chain.now in
    let slot = c.args.piece.now in
    let rest : Rest old slot (s c.match-copy.chain) c.match-copy.answer = elim c.match-copy.branch [
      | in-Ok w ↦ subst (λ r. Rest old slot (s c.match-copy.chain) r) (sym w.answer-is) (subst (λ k. Rest old slot (s k) w.finish-answer.result) (sym w.chain-is)
          (finished (s c.copy.new.chain) c.copy.new.piece w.finish-answer.result c.copy.ensures.sound (subst (λ r. AnswersCopy r old slot (s c.copy.new.chain) c.copy.new.piece) w.in-Ok.is c.copy.ensures.answers) w.finish-answer.ensures.answers))
      | in-Err w ↦ subst (λ r. Rest old slot (s c.match-copy.chain) r) (sym w.answer-is) (subst (λ k. Rest old slot (s k) (Err w.in-Err.refusal)) (sym w.chain-is)
          (stopped c.copy.new.piece w.in-Err.refusal (subst (λ r. AnswersCopy r old slot (s c.copy.new.chain) c.copy.new.piece) w.in-Err.is c.copy.ensures.answers)))
    ] in
    ends_other old slot (s c.match-copy.chain) c.match-copy.answer rest (sym c.is_no_merge.ensures ∙ c.if-is_no_merge.false)
