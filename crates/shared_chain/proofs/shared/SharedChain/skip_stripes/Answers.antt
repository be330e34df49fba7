use Rattle.std.proofs.Common.{ap, arith, subst, ◌∙◌}
use Rattle.std.specs.Prelude.{IfOk}
use Rattle.script_session.specs.StepsLeft.{unstamped}
use Rattle.shared_chain.specs.Homes.{session_of}
use Rattle.shared_chain.specs.Merging.{PassesOver, as_answer, finished_behind, passed_by, passes}
use Rattle.shared_chain.specs.Notes.{full_after}
use Rattle.shared_chain.specs.Faults.{fault_after}
use Rattle.shared_chain.specs.Steps.{broke_after, merge_breach}
use Rattle.shared_chain.proofs.Merged.{carries_step, home_as, stepped_as}
use Rattle.shared_chain.proofs.Passing.{err_too, looks_lent, passes_over}
use Rattle.shared_chain.proofs.Unmoved.{fetch_stopped_as, look_refuses}
use Rattle.shared_chain.proofs.shared.SharedChain.skip_stripes.Goals as goal

pub returns-clause-stepped : goal.returns-clause-stepped
returns-clause-stepped g c =
    let disk = g.S.Store.disk in
    let e = c.skip-passed.ensures in
    let first = c.self.inside.first.value in
    let old = c.self.inside.chain.value in
    let new = c.skip-passed.new.self in
    let passed = c.skip-passed.result in
    let step = passes c.args.stripe (passed_by passed) in
    let look = looks_lent disk old c.deref_mut.result.now new c.args.stripe passed c.deref_mut.ensures.value c.self.invariant.sound e.early e.cause e.few e.marks e.told e.events e.geometry e.session e.history in
    let carries = carries_step old.recorder (session_of disk first) (session_of disk old) (session_of disk new) (unstamped passed) e.sound look.step in
    let answer = c.as_answer-answer.ensures ∙ ap as_answer c.unnumbered-done.ensures in
    stepped_as disk old new first (unstamped passed) c.self.inside.full c.full_behind-self-inside.result c.self.inside.broke c.broke_by_merge-self-inside.result c.self.inside.fault c.fault_behind-self-inside.result c.self.inside.copied c.mark_passed.new.copied c.self.inside.finished c.finished_by_stripe-self-inside.result
    (c.full_behind-self-inside.ensures ∙ ap (full_after c.self.inside.full) answer) (c.broke_by_merge-self-inside.ensures ∙ ap (broke_after c.self.inside.broke merge_breach) answer)
    (c.fault_behind-self-inside.ensures ∙ ap (fault_after c.self.inside.fault) answer) carries step (let same = look.events in omega (arith, same)) c.mark_passed.ensures.stripes c.mark_passed.ensures.marks
    (c.finished_by_stripe-self-inside.ensures.pass (passed_by passed) ∙ ap (λ r. finished_behind step r c.self.inside.finished) c.unnumbered-done.ensures) c.args.self.now c.self.view_is

pub returns-clause-stopped : goal.returns-clause-stopped
returns-clause-stopped g c =
    let disk = g.S.Store.disk in
    let e = c.skip-passed.ensures in
    let first = c.self.inside.first.value in
    let old = c.self.inside.chain.value in
    let new = c.skip-passed.new.self in
    let passed = c.skip-passed.result in
    let look = looks_lent disk old c.deref_mut.result.now new c.args.stripe passed c.deref_mut.ensures.value c.self.invariant.sound e.early e.cause e.few e.marks e.told e.events e.geometry e.session e.history in
    let carries = carries_step old.recorder (session_of disk first) (session_of disk old) (session_of disk new) (unstamped passed) e.sound look.step in
    let answer = c.as_answer-answer.ensures ∙ ap as_answer c.unnumbered-done.ensures in
    err_too _ passed
    (fetch_stopped_as disk old new first (unstamped passed) c.self.inside.full c.full_behind-self-inside.result c.self.inside.broke c.broke_by_merge-self-inside.result c.self.inside.fault c.fault_behind-self-inside.result c.self.inside.copied c.mark_passed.new.copied c.self.inside.finished c.finished_by_stripe-self-inside.result
    (c.full_behind-self-inside.ensures ∙ ap (full_after c.self.inside.full) answer) (c.broke_by_merge-self-inside.ensures ∙ ap (broke_after c.self.inside.broke merge_breach) answer)
    (c.fault_behind-self-inside.ensures ∙ ap (fault_after c.self.inside.fault) answer) carries c.args.stripe
    (λ x is. look_refuses c.args.stripe passed x (session_of disk old) (session_of disk new) is look.events look.stopped) c.args.self.now c.self.view_is)

pub returns-clause-passed : goal.returns-clause-passed
returns-clause-passed g c =
    let disk = g.S.Store.disk in
    let e = c.skip-passed.ensures in
    let old = c.self.inside.chain.value in
    let new = c.skip-passed.new.self in
    let passed = c.skip-passed.result in
    let look = looks_lent disk old c.deref_mut.result.now new c.args.stripe passed c.deref_mut.ensures.value c.self.invariant.sound e.early e.cause e.few e.marks e.told e.events e.geometry e.session e.history in
    subst (λ s. IfOk passed (λ n. PassesOver disk c.args.stripe n s.chain new)) c.self.view_is (passes_over disk old new c.args.stripe passed look)

pub invariant_of-self : goal.invariant_of-self
invariant_of-self g c =
    let disk = g.S.Store.disk in
    let e = c.skip-passed.ensures in
    let first = c.self.inside.first.value in
    let old = c.self.inside.chain.value in
    let new = c.skip-passed.new.self in
    let passed = c.skip-passed.result in
    let look = looks_lent disk old c.deref_mut.result.now new c.args.stripe passed c.deref_mut.ensures.value c.self.invariant.sound e.early e.cause e.few e.marks e.told e.events e.geometry e.session e.history in
    let carries = carries_step old.recorder (session_of disk first) (session_of disk old) (session_of disk new) (unstamped passed) e.sound look.step in
    let answer = c.as_answer-answer.ensures ∙ ap as_answer c.unnumbered-done.ensures in
    home_as disk old new first (unstamped passed) c.self.inside.full c.full_behind-self-inside.result c.self.inside.broke c.broke_by_merge-self-inside.result c.self.inside.fault c.fault_behind-self-inside.result c.self.inside.copied c.mark_passed.new.copied c.self.inside.finished c.finished_by_stripe-self-inside.result
    (c.full_behind-self-inside.ensures ∙ ap (full_after c.self.inside.full) answer) (c.broke_by_merge-self-inside.ensures ∙ ap (broke_after c.self.inside.broke merge_breach) answer)
    (c.fault_behind-self-inside.ensures ∙ ap (fault_after c.self.inside.fault) answer) carries c.self.invariant
