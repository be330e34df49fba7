use Rattle.std.proofs.Common.{ap, refl, subst, ◌∙◌}
use Rattle.script_session.specs.MergeSteps.{AnswersFinish}
use Rattle.shared_chain.specs.Homes.{session_of}
use Rattle.shared_chain.specs.Merging.{finishes}
use Rattle.shared_chain.specs.Notes.{full_after}
use Rattle.shared_chain.specs.Faults.{fault_after}
use Rattle.shared_chain.specs.Steps.{broke_after, merge_breach}
use Rattle.shared_chain.proofs.Merged.{carries_step, finish_none, home_as, stepped_as}
use Rattle.shared_chain.proofs.Stepping.{finish_step}
use Rattle.shared_chain.proofs.shared.SharedChain.finish.Goals as goal

pub returns-clause-stepped : goal.returns-clause-stepped
returns-clause-stepped g c =
    let disk = g.S.Store.disk in
    let old = c.self.inside.chain.value in
    let new = c.finish-done.new.chain in
    let turn = subst (λ o. AnswersFinish c.finish-done.result (session_of disk o) (session_of disk new)) c.deref_mut.ensures.value c.finish-done.ensures.answers in
    let carries = carries_step old.recorder (session_of disk c.self.inside.first.value) (session_of disk old) (session_of disk new) c.finish-done.result c.finish-done.ensures.sound (finish_step c.finish-done.result (session_of disk old) (session_of disk new) turn) in
    let answer = c.as_answer-answer.ensures in
    stepped_as disk old new c.self.inside.first.value c.finish-done.result c.self.inside.full c.full_behind-self-inside.result c.self.inside.broke c.broke_by_merge-self-inside.result c.self.inside.fault c.fault_behind-self-inside.result c.self.inside.copied c.self.inside.copied c.self.inside.finished c.finished_by-self-inside.result
    (c.full_behind-self-inside.ensures ∙ ap (full_after c.self.inside.full) answer) (c.broke_by_merge-self-inside.ensures ∙ ap (broke_after c.self.inside.broke merge_breach) answer)
    (c.fault_behind-self-inside.ensures ∙ ap (fault_after c.self.inside.fault) answer) carries finishes turn.events refl (λ t. refl) c.finished_by-self-inside.ensures c.args.self.now c.self.view_is

pub invariant_of-self : goal.invariant_of-self
invariant_of-self g c =
    let disk = g.S.Store.disk in
    let old = c.self.inside.chain.value in
    let new = c.finish-done.new.chain in
    let turn = subst (λ o. AnswersFinish c.finish-done.result (session_of disk o) (session_of disk new)) c.deref_mut.ensures.value c.finish-done.ensures.answers in
    let carries = carries_step old.recorder (session_of disk c.self.inside.first.value) (session_of disk old) (session_of disk new) c.finish-done.result c.finish-done.ensures.sound (finish_step c.finish-done.result (session_of disk old) (session_of disk new) turn) in
    let answer = c.as_answer-answer.ensures in
    home_as disk old new c.self.inside.first.value c.finish-done.result c.self.inside.full c.full_behind-self-inside.result c.self.inside.broke c.broke_by_merge-self-inside.result c.self.inside.fault c.fault_behind-self-inside.result c.self.inside.copied c.self.inside.copied c.self.inside.finished c.finished_by-self-inside.result
    (c.full_behind-self-inside.ensures ∙ ap (full_after c.self.inside.full) answer) (c.broke_by_merge-self-inside.ensures ∙ ap (broke_after c.self.inside.broke merge_breach) answer)
    (c.fault_behind-self-inside.ensures ∙ ap (fault_after c.self.inside.fault) answer) carries c.self.invariant

pub returns-clause-done : goal.returns-clause-done
returns-clause-done g c =
    let disk = g.S.Store.disk in
    let old = c.self.inside.chain.value in
    let new = c.finish-done.new.chain in
    let done = subst (λ o. AnswersFinish c.finish-done.result (session_of disk o) (session_of disk new)) c.deref_mut.ensures.value c.finish-done.ensures.answers in
    finish_none c.finish-done.result (session_of disk old) (session_of disk new) done
