use Rattle.std.proofs.Common.{[], None, subst, sym}
use Rattle.chain_core.specs.Sessions.{has_merge}
use Rattle.shared_chain.specs.Closing.{LeavesHistory}
use Rattle.shared_chain.specs.Faults.{EndsCounted}
use Rattle.shared_chain.specs.Homes.{IsHome, session_of}
use Rattle.shared_chain.proofs.Homing.{begins}
use Rattle.shared_chain.proofs.shared.SharedChain.new.Goals as goal

pub returns-in-Err-clause-counted : goal.returns-in-Err-clause-counted
returns-in-Err-clause-counted g c =
    let disk = g.S.Store.disk in
    subst (λ o. EndsCounted (disk o.store) (disk c.end_fresh.result.0) None c.end_fresh.result.1) c.in-Err.ensures.back (c.end_fresh.ensures.counted None tt)

pub returns-in-Err-clause-leaves : goal.returns-in-Err-clause-leaves
returns-in-Err-clause-leaves g c =
    let disk = g.S.Store.disk in
    subst (λ o. LeavesHistory (session_of disk o) [] None None (has_merge o.layers) c.end_fresh.result.1 (disk c.end_fresh.result.0)) c.in-Err.ensures.back c.end_fresh.ensures.leaves

pub invariant_of-result : goal.invariant_of-result
invariant_of-result g c =
    let s = session_of g.S.Store.disk in
    subst (λ f. IsHome (s f) (s c.in-Ok.made.0.value) c.in-Ok.made.0.value.recorder None None None) (sym c.of-first.ensures)
    (subst (λ v. IsHome (s c.args.chain) (s v) v.recorder None None None) (sym c.in-Ok.ensures.chain)
    (subst (λ h. IsHome (s c.args.chain) (s c.args.chain) h None None None) (sym c.requires.fresh.2) (begins (s c.args.chain) c.requires.sound c.requires.fresh.1)))
