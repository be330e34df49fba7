use Rattle.std.proofs.Common.{ap, arith, inl, subst, sym}
use Rattle.ledger.specs.declared.ledger.Ledger.{Ledger}
use Rattle.chain_core.specs.declared.chain.Chain.{Chain}
use Rattle.shared_chain.specs.Bases.{Contains, basis_of}
use Rattle.shared_chain.specs.Merging.{fetches}
use Rattle.shared_chain.specs.Shared.{Shared}
use Rattle.copy_workers.proofs.Turns.{fetch_stops, has_fetched, has_filled, has_worked, may_turn}
use Rattle.copy_workers.proofs.worker.Worker.fetch_live.Goals as goal

pub unlock-requires-clause-turn : goal.unlock-requires-clause-turn
unlock-requires-clause-turn g c =
    may_turn g.S.Store.disk c.args.self.now.seat c.lock.new.seat c.in-Ok.held c.value.result.now c.fetch_stripe-answer.new.self (fetches c.args.stripe) (omega arith) c.fetch_stripe-answer.result c.value.ensures.value c.in-Ok.ensures.ok c.fetch_stripe-answer.ensures.stepped

pub returns-clause-worked : goal.returns-clause-worked
returns-clause-worked g c =
    has_worked g.S.Store.disk c.args.self.now.seat c.lock.new.seat c.in-Ok.held c.value.result.now c.fetch_stripe-answer.new.self (fetches c.args.stripe) (omega arith) c.fetch_stripe-answer.result c.value.ensures.value c.in-Ok.ensures.ok c.fetch_stripe-answer.ensures.stepped
    c.unlock.new.seat c.unlock.ensures

pub returns-clause-stopped : goal.returns-clause-stopped
returns-clause-stopped g c =
    let disk = g.S.Store.disk in
    let knows = subst (λ (v : Shared (Chain g.row.S.Denot Ledger g.row.S-R.Denot)). Contains (basis_of disk v) c.args.self.now.seat.basis) (sym c.value.ensures.value) c.in-Ok.ensures.ok.covers in
    fetch_stops disk c.args.stripe c.fetch_stripe-answer.result c.args.self.now.seat c.unlock.new.seat c.value.result.now c.fetch_stripe-answer.new.self c.fetch_stripe-answer.ensures.stepped c.fetch_stripe-answer.ensures.stopped knows (ap (λ s. s.basis) c.unlock.ensures)

pub returns-clause-filled : goal.returns-clause-filled
returns-clause-filled g c =
    has_filled g.S.Store.disk c.fetch_stripe-answer.result c.fetch_stripe-answer.new.self.first c.fetch_stripe-answer.new.self.chain.recorder c.fetch_stripe-answer.new.piece c.fetch_stripe-answer.ensures.fetched

pub returns-clause-fetched : goal.returns-clause-fetched
returns-clause-fetched g c =
    has_fetched g.S.Store.disk c.args.stripe c.fetch_stripe-answer.result c.unlock.new.seat c.fetch_stripe-answer.new.self c.fetch_stripe-answer.new.piece c.fetch_stripe-answer.ensures.whole c.fetch_stripe-answer.ensures.stripe c.fetch_stripe-answer.ensures.fetched
    (ap (λ s. s.seen) c.unlock.ensures) (ap (λ s. s.basis) c.unlock.ensures)

pub returns-in-Err-clause-stopped : goal.returns-in-Err-clause-stopped
returns-in-Err-clause-stopped g c = (c.in-Err.ensures.err.0, inl c.in-Err.ensures.err.1)
