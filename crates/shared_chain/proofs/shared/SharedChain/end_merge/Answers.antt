use Rattle.std.proofs.Common.{ap, refl, true, subst, ◌∙◌}
use Rattle.shared_chain.specs.Ends.{EndsMerge}
use Rattle.shared_chain.specs.Homes.{session_of}
use Rattle.shared_chain.specs.Notes.{full_after}
use Rattle.shared_chain.specs.Faults.{fault_after}
use Rattle.shared_chain.specs.Steps.{broke_after, merge_breach}
use Rattle.shared_chain.proofs.Merged.{end_carries, home_as, merged_as}
use Rattle.shared_chain.proofs.shared.SharedChain.end_merge.Goals as goal

pub returns : goal.returns
returns g c =
    let disk = g.S.Store.disk in
    let old = c.self.inside.chain.value in
    let new = c.merge_rest-done.new.chain in
    let ends = subst (λ o. EndsMerge (session_of disk o) c.clear.new.self (session_of disk new) c.merge_rest-done.result) c.deref_mut.ensures.value c.merge_rest-done.ensures.ends in
    let carries = end_carries old.recorder (session_of disk c.self.inside.first.value) (session_of disk old) c.clear.new.self (session_of disk new) c.merge_rest-done.result ends c.merge_rest-done.ensures.sound in
    let answer = c.as_answer-answer.ensures in
    merged_as disk old new c.self.inside.first.value c.clear.new.self c.merge_rest-done.result c.self.inside.full c.full_behind-self-inside.result c.self.inside.broke c.broke_by_merge-self-inside.result c.self.inside.fault c.fault_behind-self-inside.result c.self.inside.copied c.self.inside.copied c.self.inside.finished true
    (c.full_behind-self-inside.ensures ∙ ap (full_after c.self.inside.full) answer) (c.broke_by_merge-self-inside.ensures ∙ ap (broke_after c.self.inside.broke merge_breach) answer)
    (c.fault_behind-self-inside.ensures ∙ ap (fault_after c.self.inside.fault) answer) ends carries c.self.invariant refl refl c.args.self.now c.self.view_is

pub invariant_of-self : goal.invariant_of-self
invariant_of-self g c =
    let disk = g.S.Store.disk in
    let old = c.self.inside.chain.value in
    let new = c.merge_rest-done.new.chain in
    let ends = subst (λ o. EndsMerge (session_of disk o) c.clear.new.self (session_of disk new) c.merge_rest-done.result) c.deref_mut.ensures.value c.merge_rest-done.ensures.ends in
    let carries = end_carries old.recorder (session_of disk c.self.inside.first.value) (session_of disk old) c.clear.new.self (session_of disk new) c.merge_rest-done.result ends c.merge_rest-done.ensures.sound in
    let answer = c.as_answer-answer.ensures in
    home_as disk old new c.self.inside.first.value c.merge_rest-done.result c.self.inside.full c.full_behind-self-inside.result c.self.inside.broke c.broke_by_merge-self-inside.result c.self.inside.fault c.fault_behind-self-inside.result c.self.inside.copied c.self.inside.copied c.self.inside.finished true
    (c.full_behind-self-inside.ensures ∙ ap (full_after c.self.inside.full) answer) (c.broke_by_merge-self-inside.ensures ∙ ap (broke_after c.self.inside.broke merge_breach) answer)
    (c.fault_behind-self-inside.ensures ∙ ap (fault_after c.self.inside.fault) answer) carries c.self.invariant
