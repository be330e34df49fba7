use Rattle.std.proofs.Common.{ap, arith, subst, sym, ◌∙◌}
use Rattle.merge_core.specs.Pieces.{piece_of}
use Rattle.ledger.specs.declared.ledger.Ledger.{Ledger}
use Rattle.chain_core.specs.declared.chain.Chain.{Chain}
use Rattle.chain_core.specs.Merging.{IsTruePiece}
use Rattle.script_session.specs.MergeSteps.{AnswersPut}
use Rattle.chain_core.specs.Copying.{FitsDisk}
use Rattle.shared_chain.specs.Fetched.{WasFetched}
use Rattle.shared_chain.specs.Homes.{session_of}
use Rattle.shared_chain.specs.Merging.{copied_behind, copies, finished_behind}
use Rattle.shared_chain.specs.Notes.{full_after}
use Rattle.shared_chain.specs.Faults.{fault_after}
use Rattle.shared_chain.specs.Shared.{Shared}
use Rattle.shared_chain.specs.Steps.{broke_after, merge_breach, steps_of}
use Rattle.shared_chain.proofs.Merged.{carries_apt, home_as, stepped_as}
use Rattle.shared_chain.proofs.Unmoved.{put_refuses, put_stopped_as}
use Rattle.shared_chain.proofs.Copied.{put_marks_if}
use Rattle.shared_chain.proofs.Fetched.{done_starts, fetched_apt}
use Rattle.shared_chain.proofs.Stepping.{put_step}
use Rattle.shared_chain.proofs.shared.SharedChain.put_stripe.Goals as goal

pub returns-clause-stepped : goal.returns-clause-stepped
returns-clause-stepped g c =
    let disk = g.S.Store.disk in
    let was = subst (λ (s : Shared (Chain g.row.S.Denot Ledger g.row.S-R.Denot)). WasFetched disk (steps_of s.chain.recorder s.broke) s.first c.args.piece.now) (sym c.self.view_is) c.requires in
    let old = c.self.inside.chain.value in
    let new = c.put-done.new.chain in
    let turn = subst (λ o. AnswersPut c.args.piece.now c.put-done.result (session_of disk o) (session_of disk new)) c.deref_mut.ensures.value c.put-done.ensures.answers in
    let carries = carries_apt old.recorder (λ v. IsTruePiece v (piece_of c.args.piece.now)) (session_of disk c.self.inside.first.value) (session_of disk old) (session_of disk new) c.put-done.result c.put-done.ensures.sound (put_step c.args.piece.now c.put-done.result (session_of disk old) (session_of disk new) turn) (fetched_apt disk c.self.inside.first.value was.before c.args.piece.now was.fetched old.recorder (done_starts old.recorder was.before c.self.inside.broke was.begins)) in
    let answer = c.as_answer-answer.ensures in
    stepped_as disk old new c.self.inside.first.value c.put-done.result c.self.inside.full c.full_behind-self-inside.result c.self.inside.broke c.broke_by_merge-self-inside.result c.self.inside.fault c.fault_behind-self-inside.result c.self.inside.copied c.mark_copied.new.copied c.self.inside.finished c.finished_by_stripe-self-inside.result
    (c.full_behind-self-inside.ensures ∙ ap (full_after c.self.inside.full) answer) (c.broke_by_merge-self-inside.ensures ∙ ap (broke_after c.self.inside.broke merge_breach) answer)
    (c.fault_behind-self-inside.ensures ∙ ap (fault_after c.self.inside.fault) answer) carries (copies c.args.piece.now.stripe) (let few = turn.events in omega (arith, few))
    c.mark_copied.ensures.stripes (λ t. c.mark_copied.ensures.marks t ∙ ap (λ s. copied_behind (copies s) c.put-done.result c.self.inside.copied t) c.stripe-stripe.ensures)
    (c.finished_by_stripe-self-inside.ensures.put ∙ ap (λ s. finished_behind (copies s) c.put-done.result c.self.inside.finished) c.stripe-stripe.ensures) c.args.self.now c.self.view_is

pub returns-clause-stopped : goal.returns-clause-stopped
returns-clause-stopped g c =
    let disk = g.S.Store.disk in
    let was = subst (λ (s : Shared (Chain g.row.S.Denot Ledger g.row.S-R.Denot)). WasFetched disk (steps_of s.chain.recorder s.broke) s.first c.args.piece.now) (sym c.self.view_is) c.requires in
    let old = c.self.inside.chain.value in
    let new = c.put-done.new.chain in
    let turn = subst (λ o. AnswersPut c.args.piece.now c.put-done.result (session_of disk o) (session_of disk new)) c.deref_mut.ensures.value c.put-done.ensures.answers in
    let carries = carries_apt old.recorder (λ v. IsTruePiece v (piece_of c.args.piece.now)) (session_of disk c.self.inside.first.value) (session_of disk old) (session_of disk new) c.put-done.result c.put-done.ensures.sound (put_step c.args.piece.now c.put-done.result (session_of disk old) (session_of disk new) turn) (fetched_apt disk c.self.inside.first.value was.before c.args.piece.now was.fetched old.recorder (done_starts old.recorder was.before c.self.inside.broke was.begins)) in
    let answer = c.as_answer-answer.ensures in
    put_stopped_as disk old new c.self.inside.first.value c.put-done.result c.self.inside.full c.full_behind-self-inside.result c.self.inside.broke c.broke_by_merge-self-inside.result c.self.inside.fault c.fault_behind-self-inside.result c.self.inside.copied c.mark_copied.new.copied c.self.inside.finished c.finished_by_stripe-self-inside.result
    (c.full_behind-self-inside.ensures ∙ ap (full_after c.self.inside.full) answer) (c.broke_by_merge-self-inside.ensures ∙ ap (broke_after c.self.inside.broke merge_breach) answer)
    (c.fault_behind-self-inside.ensures ∙ ap (fault_after c.self.inside.fault) answer) carries c.self.invariant c.args.piece.now (λ x is. put_refuses c.args.piece.now c.put-done.result x (session_of disk old) (session_of disk new) was.fetched.filled is turn) c.args.self.now c.self.view_is

pub returns-clause-copied : goal.returns-clause-copied
returns-clause-copied g c =
    let disk = g.S.Store.disk in
    put_marks_if c.put-done.result (subst (λ o. AnswersPut c.args.piece.now c.put-done.result (session_of disk o) (session_of disk c.put-done.new.chain)) c.deref_mut.ensures.value c.put-done.ensures.answers)

pub invariant_of-self : goal.invariant_of-self
invariant_of-self g c =
    let disk = g.S.Store.disk in
    let was = subst (λ (s : Shared (Chain g.row.S.Denot Ledger g.row.S-R.Denot)). WasFetched disk (steps_of s.chain.recorder s.broke) s.first c.args.piece.now) (sym c.self.view_is) c.requires in
    let old = c.self.inside.chain.value in
    let new = c.put-done.new.chain in
    let turn = subst (λ o. AnswersPut c.args.piece.now c.put-done.result (session_of disk o) (session_of disk new)) c.deref_mut.ensures.value c.put-done.ensures.answers in
    let carries = carries_apt old.recorder (λ v. IsTruePiece v (piece_of c.args.piece.now)) (session_of disk c.self.inside.first.value) (session_of disk old) (session_of disk new) c.put-done.result c.put-done.ensures.sound (put_step c.args.piece.now c.put-done.result (session_of disk old) (session_of disk new) turn) (fetched_apt disk c.self.inside.first.value was.before c.args.piece.now was.fetched old.recorder (done_starts old.recorder was.before c.self.inside.broke was.begins)) in
    let answer = c.as_answer-answer.ensures in
    home_as disk old new c.self.inside.first.value c.put-done.result c.self.inside.full c.full_behind-self-inside.result c.self.inside.broke c.broke_by_merge-self-inside.result c.self.inside.fault c.fault_behind-self-inside.result c.self.inside.copied c.mark_copied.new.copied c.self.inside.finished c.finished_by_stripe-self-inside.result
    (c.full_behind-self-inside.ensures ∙ ap (full_after c.self.inside.full) answer) (c.broke_by_merge-self-inside.ensures ∙ ap (broke_after c.self.inside.broke merge_breach) answer)
    (c.fault_behind-self-inside.ensures ∙ ap (fault_after c.self.inside.fault) answer) carries c.self.invariant

pub put-done-requires-clause-slot : goal.put-done-requires-clause-slot
put-done-requires-clause-slot g c filled =
    let disk = g.S.Store.disk in
    let was = subst (λ (s : Shared (Chain g.row.S.Denot Ledger g.row.S-R.Denot)). WasFetched disk (steps_of s.chain.recorder s.broke) s.first c.args.piece.now) (sym c.self.view_is) c.requires in
    subst (λ k. FitsDisk k.layers.geometry c.args.piece.now) (sym c.deref_mut.ensures.value) (subst (λ k. FitsDisk k c.args.piece.now) (sym c.self.invariant.geometry) was.fetched.fits)
