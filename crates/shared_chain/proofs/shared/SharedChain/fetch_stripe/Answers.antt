use Rattle.std.proofs.Common.{ap, arith, refl, subst, sym, ◌∙◌}
use Rattle.script_session.specs.MergeSteps.{AnswersFetch}
use Rattle.script_session.specs.StepsLeft.{unstamped}
use Rattle.shared_chain.specs.Homes.{session_of}
use Rattle.shared_chain.specs.Merging.{fetches}
use Rattle.shared_chain.specs.Notes.{full_after}
use Rattle.shared_chain.specs.Faults.{fault_after}
use Rattle.shared_chain.specs.Steps.{broke_after, merge_breach}
use Rattle.std.specs.Prelude.{OnOk}
use Rattle.layer_session.proofs.Equal.{some_same}
use Rattle.shared_chain.specs.Fetched.{IsFetched}
use Rattle.shared_chain.proofs.Fetched.{done_too, fetched_now}
use Rattle.shared_chain.proofs.Merged.{Carries, carries_step, home_as, stepped_as}
use Rattle.shared_chain.proofs.Unmoved.{fetch_refuses, fetch_stopped_as}
use Rattle.shared_chain.proofs.Stepping.{fetch_step}
use Rattle.shared_chain.proofs.shared.SharedChain.fetch_stripe.Goals as goal

pub returns-clause-stepped : goal.returns-clause-stepped
returns-clause-stepped g c =
    let disk = g.S.Store.disk in
    let first = c.self.inside.first.value in
    let old = c.self.inside.chain.value in
    let new = c.fetch-fetched.new.chain in
    let done = c.unstamped-done.result in
    let turn = subst (λ o. AnswersFetch c.args.stripe c.fetch-fetched.result (session_of disk o) (session_of disk new) c.fetch-fetched.new.piece) c.deref_mut.ensures.value c.fetch-fetched.ensures.answers in
    let carries = subst (Carries old.recorder (session_of disk first) (session_of disk old) (session_of disk new)) (sym c.unstamped-done.ensures)
    (carries_step old.recorder (session_of disk first) (session_of disk old) (session_of disk new) (unstamped c.fetch-fetched.result) c.fetch-fetched.ensures.sound (fetch_step c.args.stripe c.fetch-fetched.result (session_of disk old) (session_of disk new) c.fetch-fetched.new.piece turn)) in
    let answer = c.as_answer-answer.ensures in
    stepped_as disk old new first done c.self.inside.full c.full_behind-self-inside.result c.self.inside.broke c.broke_by_merge-self-inside.result c.self.inside.fault c.fault_behind-self-inside.result c.self.inside.copied c.self.inside.copied c.self.inside.finished c.finished_by_stripe-self-inside.result
    (c.full_behind-self-inside.ensures ∙ ap (full_after c.self.inside.full) answer) (c.broke_by_merge-self-inside.ensures ∙ ap (broke_after c.self.inside.broke merge_breach) answer)
    (c.fault_behind-self-inside.ensures ∙ ap (fault_after c.self.inside.fault) answer) carries (fetches c.args.stripe) (let few = turn.events in omega (arith, few)) refl (λ t. refl) c.finished_by_stripe-self-inside.ensures.fetch c.args.self.now c.self.view_is

pub returns-clause-stopped : goal.returns-clause-stopped
returns-clause-stopped g c =
    let disk = g.S.Store.disk in
    let first = c.self.inside.first.value in
    let old = c.self.inside.chain.value in
    let new = c.fetch-fetched.new.chain in
    let done = c.unstamped-done.result in
    let turn = subst (λ o. AnswersFetch c.args.stripe c.fetch-fetched.result (session_of disk o) (session_of disk new) c.fetch-fetched.new.piece) c.deref_mut.ensures.value c.fetch-fetched.ensures.answers in
    let carries = subst (Carries old.recorder (session_of disk first) (session_of disk old) (session_of disk new)) (sym c.unstamped-done.ensures)
    (carries_step old.recorder (session_of disk first) (session_of disk old) (session_of disk new) (unstamped c.fetch-fetched.result) c.fetch-fetched.ensures.sound (fetch_step c.args.stripe c.fetch-fetched.result (session_of disk old) (session_of disk new) c.fetch-fetched.new.piece turn)) in
    let answer = c.as_answer-answer.ensures in
    fetch_stopped_as disk old new first done c.self.inside.full c.full_behind-self-inside.result c.self.inside.broke c.broke_by_merge-self-inside.result c.self.inside.fault c.fault_behind-self-inside.result c.self.inside.copied c.self.inside.copied c.self.inside.finished c.finished_by_stripe-self-inside.result
    (c.full_behind-self-inside.ensures ∙ ap (full_after c.self.inside.full) answer) (c.broke_by_merge-self-inside.ensures ∙ ap (broke_after c.self.inside.broke merge_breach) answer)
    (c.fault_behind-self-inside.ensures ∙ ap (fault_after c.self.inside.fault) answer) carries c.args.stripe
    (λ x is. fetch_refuses c.args.stripe c.fetch-fetched.result x (session_of disk old) (session_of disk new) c.fetch-fetched.new.piece (sym c.unstamped-done.ensures ∙ is) turn) c.args.self.now c.self.view_is

pub invariant_of-self : goal.invariant_of-self
invariant_of-self g c =
    let disk = g.S.Store.disk in
    let first = c.self.inside.first.value in
    let old = c.self.inside.chain.value in
    let new = c.fetch-fetched.new.chain in
    let done = c.unstamped-done.result in
    let turn = subst (λ o. AnswersFetch c.args.stripe c.fetch-fetched.result (session_of disk o) (session_of disk new) c.fetch-fetched.new.piece) c.deref_mut.ensures.value c.fetch-fetched.ensures.answers in
    let carries = subst (Carries old.recorder (session_of disk first) (session_of disk old) (session_of disk new)) (sym c.unstamped-done.ensures)
    (carries_step old.recorder (session_of disk first) (session_of disk old) (session_of disk new) (unstamped c.fetch-fetched.result) c.fetch-fetched.ensures.sound (fetch_step c.args.stripe c.fetch-fetched.result (session_of disk old) (session_of disk new) c.fetch-fetched.new.piece turn)) in
    let answer = c.as_answer-answer.ensures in
    home_as disk old new first done c.self.inside.full c.full_behind-self-inside.result c.self.inside.broke c.broke_by_merge-self-inside.result c.self.inside.fault c.fault_behind-self-inside.result c.self.inside.copied c.self.inside.copied c.self.inside.finished c.finished_by_stripe-self-inside.result
    (c.full_behind-self-inside.ensures ∙ ap (full_after c.self.inside.full) answer) (c.broke_by_merge-self-inside.ensures ∙ ap (broke_after c.self.inside.broke merge_breach) answer)
    (c.fault_behind-self-inside.ensures ∙ ap (fault_after c.self.inside.fault) answer) carries c.self.invariant

pub returns-clause-fetched : goal.returns-clause-fetched
returns-clause-fetched g c =
    let disk = g.S.Store.disk in
    let first = c.self.inside.first.value in
    let old = c.self.inside.chain.value in
    let new = c.fetch-fetched.new.chain in
    let turn = subst (λ o. AnswersFetch c.args.stripe c.fetch-fetched.result (session_of disk o) (session_of disk new) c.fetch-fetched.new.piece) c.deref_mut.ensures.value c.fetch-fetched.ensures.answers in
    subst (λ h. OnOk c.unstamped-done.result (IsFetched disk first h c.fetch-fetched.new.piece)) (sym (some_same {x = new.recorder} {y = old.recorder} turn.keeps.told))
    (subst (λ r. OnOk r (IsFetched disk first old.recorder c.fetch-fetched.new.piece)) (sym c.unstamped-done.ensures)
    (done_too _ c.fetch-fetched.result (fetched_now disk first old (session_of disk new) old.recorder c.self.inside.full c.self.inside.broke c.self.inside.fault c.self.invariant c.args.stripe c.fetch-fetched.result c.fetch-fetched.new.piece turn)))
