use Rattle.std.proofs.Common.{subst}
use Rattle.std.specs.Prelude.{IfSome, IsErr}
use Rattle.ledger.specs.declared.ledger.Ledger.{Ledger}
use Rattle.chain_core.specs.declared.chain.Chain.{Chain}
use Rattle.chain_core.specs.Sessions.{has_merge}
use Rattle.script_session.specs.Running.{IsEnded}
use Rattle.shared_chain.specs.Closing.{LeavesHistory}
use Rattle.shared_chain.specs.Faults.{EndsCounted}
use Rattle.shared_chain.specs.Homes.{session_of}
use Rattle.shared_chain.specs.Shared.{Shared}
use Rattle.shared_chain.proofs.Counting.{ends_counted}
use Rattle.shared_chain.proofs.Ended.{broke_errs, ended, leaves}
use Rattle.shared_chain.proofs.shared.SharedChain.close.Goals as goal

pub returns-clause-counted : goal.returns-clause-counted
returns-clause-counted g c =
    let disk = g.S.Store.disk in
    let chain = c.self.inside.chain.value in
    let first = c.self.inside.first.value in
    let e = c.close-store.ensures in
    let inner = c.into_inner.result in
    let end = subst (λ o. IsEnded (session_of disk o) (disk c.close-store.result.0) c.close-store.result.2) c.into_inner.ensures
    (ended disk inner c.close-store.result.0 c.close-store.result.2 e.broken e.read e.counts e.err e.told) in
    subst (λ (s : Shared (Chain g.row.S.Denot Ledger g.row.S-R.Denot)). EndsCounted (disk s.first.store) (disk c.close-store.result.0) s.fault c.close-store.result.2) c.self.view_is
    (ends_counted (disk first.store) (session_of disk chain) (disk c.close-store.result.0) c.self.inside.fault c.close-store.result.2 c.self.invariant.counted end)

pub returns-clause-leaves : goal.returns-clause-leaves
returns-clause-leaves g c =
    let disk = g.S.Store.disk in
    let chain = c.self.inside.chain.value in
    let first = c.self.inside.first.value in
    let e = c.close-store.ensures in
    let inner = c.into_inner.result in
    let end = subst (λ o. IsEnded (session_of disk o) (disk c.close-store.result.0) c.close-store.result.2) c.into_inner.ensures
    (ended disk inner c.close-store.result.0 c.close-store.result.2 e.broken e.read e.counts e.err e.told) in
    subst (λ (s : Shared (Chain g.row.S.Denot Ledger g.row.S-R.Denot)). LeavesHistory (session_of disk s.first) s.chain.recorder s.full s.broke (has_merge s.chain.layers) c.close-store.result.2 (disk c.close-store.result.0)) c.self.view_is
    (leaves (session_of disk first) (session_of disk chain) chain.recorder (disk c.close-store.result.0) c.close-store.result.2 c.self.inside.full c.self.inside.broke c.self.inside.fault c.self.invariant end.broken end.told)

pub returns-clause-breaks : goal.returns-clause-breaks
returns-clause-breaks g c =
    let disk = g.S.Store.disk in
    let chain = c.self.inside.chain.value in
    let e = c.close-store.ensures in
    let inner = c.into_inner.result in
    let end = subst (λ o. IsEnded (session_of disk o) (disk c.close-store.result.0) c.close-store.result.2) c.into_inner.ensures
    (ended disk inner c.close-store.result.0 c.close-store.result.2 e.broken e.read e.counts e.err e.told) in
    subst (λ (s : Shared (Chain g.row.S.Denot Ledger g.row.S-R.Denot)). IfSome s.broke (λ b. IsErr c.close-store.result.2)) c.self.view_is
    (broke_errs _ c.self.inside.broke chain.broken c.close-store.result.2 c.self.invariant.breaks end.broken)
