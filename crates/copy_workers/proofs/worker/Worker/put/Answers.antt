use Rattle.std.proofs.Common.{ap, inl, inr, subst, sym}
use Rattle.guest_model.specs.declared.refusal.ChainRefusal.TheVariants.{Spent}
use Rattle.ledger.specs.declared.ledger.Ledger.{Ledger}
use Rattle.chain_core.specs.declared.chain.Chain.{Chain}
use Rattle.shared_chain.specs.Bases.{Contains, basis_of}
use Rattle.shared_chain.specs.Shared.{Shared}
use Rattle.shared_chain.specs.Steps.{steps_of}
use Rattle.turn_lock.specs.Histories.{StartsWith}
use Rattle.copy_workers.proofs.Settled.{has_settled, may_settle, settled_passed, settled_swept}
use Rattle.copy_workers.proofs.Turns.{was_fetched}
use Rattle.copy_workers.proofs.worker.Worker.put.Goals as goal

pub put_or_pass-answer-requires : goal.put_or_pass-answer-requires
put_or_pass-answer-requires g c =
    let disk = g.S.Store.disk in
    let knows = subst (λ (v : Shared (Chain g.row.S.Denot Ledger g.row.S-R.Denot)). Contains (basis_of disk v) c.args.self.now.seat.basis) (sym c.value.ensures.value) c.in-Ok.ensures.ok.covers in
    let seen = subst (λ (v : Shared (Chain g.row.S.Denot Ledger g.row.S-R.Denot)). StartsWith (steps_of v.chain.recorder v.broke) c.args.self.now.seat.seen) (sym c.value.ensures.value) c.in-Ok.ensures.ok.history in
    (was_fetched disk c.args.self.now.seat c.value.result.now c.args.self.now.piece knows seen (c.requires.fetched c.requires.filled).1).1

pub unlock-requires-clause-turn : goal.unlock-requires-clause-turn
unlock-requires-clause-turn g c =
    may_settle g.S.Store.disk c.args.self.now.seat c.lock.new.seat c.in-Ok.held c.value.result.now c.put_or_pass-answer.new.chain c.args.self.now.piece c.put_or_pass-answer.result c.value.ensures.value c.in-Ok.ensures.ok c.put_or_pass-answer.ensures

pub returns-clause-worked : goal.returns-clause-worked
returns-clause-worked g c =
    has_settled g.S.Store.disk c.args.self.now.seat c.lock.new.seat c.in-Ok.held c.value.result.now c.put_or_pass-answer.new.chain c.args.self.now.piece c.put_or_pass-answer.result c.value.ensures.value c.in-Ok.ensures.ok c.put_or_pass-answer.ensures
    c.unlock.new.seat c.unlock.ensures

pub returns-clause-swept : goal.returns-clause-swept
returns-clause-swept g c =
    let disk = g.S.Store.disk in
    let knows = subst (λ (v : Shared (Chain g.row.S.Denot Ledger g.row.S-R.Denot)). Contains (basis_of disk v) c.args.self.now.seat.basis) (sym c.value.ensures.value) c.in-Ok.ensures.ok.covers in
    let seen = subst (λ (v : Shared (Chain g.row.S.Denot Ledger g.row.S-R.Denot)). StartsWith (steps_of v.chain.recorder v.broke) c.args.self.now.seat.seen) (sym c.value.ensures.value) c.in-Ok.ensures.ok.history in
    settled_swept disk c.args.self.now.piece c.put_or_pass-answer.result c.args.self.now.seat c.unlock.new.seat c.value.result.now c.put_or_pass-answer.new.chain c.put_or_pass-answer.ensures knows
    (was_fetched disk c.args.self.now.seat c.value.result.now c.args.self.now.piece knows seen (c.requires.fetched c.requires.filled).1).0 seen (ap (λ s. s.seen) c.unlock.ensures) (ap (λ s. s.basis) c.unlock.ensures)

pub returns-clause-passed : goal.returns-clause-passed
returns-clause-passed g c =
    settled_passed g.S.Store.disk c.args.self.now.piece c.value.result.now c.put_or_pass-answer.new.chain c.put_or_pass-answer.result c.unlock.new.seat.basis c.put_or_pass-answer.ensures (ap (λ s. s.basis) c.unlock.ensures)

pub returns-in-Err-clause-swept : goal.returns-in-Err-clause-swept
returns-in-Err-clause-swept g c = inr (inr (Spent c.in-Err.spent.ticket, (c.in-Err.ensures.err.0, inl c.in-Err.ensures.err.1)))
