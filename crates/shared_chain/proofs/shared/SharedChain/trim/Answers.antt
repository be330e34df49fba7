use Rattle.std.proofs.Common.{subst}
use Rattle.guest_model.specs.declared.call.Call.TheVariants as calls
use Rattle.shared_chain.specs.Answers.{Answered}
use Rattle.shared_chain.specs.Homes.{session_of}
use Rattle.shared_chain.proofs.Calling.{answered, called_as, home_as}
use Rattle.shared_chain.proofs.shared.SharedChain.trim.Goals as goal

pub returns : goal.returns
returns g c =
    let e = c.trim-answer.ensures in
    let disk = g.S.Store.disk in
    let old = c.self.inside.chain.value in
    let lent = c.deref_mut.result.now in
    let new = c.trim-answer.new.self in
    let a = subst (λ o. Answered c.args.who (calls.Trim c.args.first c.args.count) (session_of disk o) (session_of disk new) c.trim-answer.result) c.deref_mut.ensures.value
    (answered disk lent new c.args.who (calls.Trim c.args.first c.args.count) c.trim-answer.result e.sound e.events e.geometry e.session e.leaf e.early e.notes e.cause e.room e.merge e.told) in
    called_as disk old new c.args.who (calls.Trim c.args.first c.args.count) c.trim-answer.result a c.self.inside.first.value c.self.inside.full c.self.inside.broke c.self.inside.fault c.self.invariant c.full_behind-self-inside.result c.self.inside.copied c.self.inside.finished
    c.full_behind-self-inside.ensures c.broke_behind-self-inside.result c.fault_behind-self-inside.result c.broke_behind-self-inside.ensures c.fault_behind-self-inside.ensures c.args.self.now c.self.view_is

pub invariant_of-self : goal.invariant_of-self
invariant_of-self g c =
    let e = c.trim-answer.ensures in
    let disk = g.S.Store.disk in
    let old = c.self.inside.chain.value in
    let lent = c.deref_mut.result.now in
    let new = c.trim-answer.new.self in
    let a = subst (λ o. Answered c.args.who (calls.Trim c.args.first c.args.count) (session_of disk o) (session_of disk new) c.trim-answer.result) c.deref_mut.ensures.value
    (answered disk lent new c.args.who (calls.Trim c.args.first c.args.count) c.trim-answer.result e.sound e.events e.geometry e.session e.leaf e.early e.notes e.cause e.room e.merge e.told) in
    home_as disk old new c.args.who (calls.Trim c.args.first c.args.count) c.trim-answer.result a c.self.inside.first.value c.self.inside.full c.self.inside.broke c.self.inside.fault c.self.invariant c.full_behind-self-inside.result c.broke_behind-self-inside.result c.fault_behind-self-inside.result
    c.full_behind-self-inside.ensures c.broke_behind-self-inside.ensures c.fault_behind-self-inside.ensures
