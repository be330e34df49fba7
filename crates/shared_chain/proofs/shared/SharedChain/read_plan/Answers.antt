use Rattle.std.proofs.Common.{rules, ◌≡◌, ◌%◌, ◌/◌, ◌∙◌, ap, length, subst, sym}
use Rattle.std.specs.Prelude.{OnOk}
use Rattle.std.specs.List.{AllByRecursion}
use Rattle.sealed_layer.specs.Planned.{EndsBy, LieInStore}
use Rattle.guest_model.specs.declared.call.Call.TheVariants as calls
use Rattle.chain_core.specs.Planned.{FindsPlanned}
use Rattle.shared_chain.specs.Answers.{Answered}
use Rattle.shared_chain.specs.Homes.{session_of}
use Rattle.shared_chain.specs.Planned.{IsPlanned}
use Rattle.shared_chain.proofs.Calling.{answered, called_as, home_as, where_done}
use Rattle.shared_chain.proofs.Planning.{planned}
use Rattle.shared_chain.proofs.shared.SharedChain.read_plan.Goals as goal

pub returns-clause-called : goal.returns-clause-called
returns-clause-called g c =
    let e = c.read_plan-answer.ensures in
    let disk = g.S.Store.disk in
    let old = c.self.inside.chain.value in
    let lent = c.deref_mut.result.now in
    let is = c.deref_mut.ensures.value in
    let sector = ap (λ o. o.layers.geometry.sector) is ∙ c.self.invariant.sound.sector in
    let new = c.read_plan-answer.new.self in
    let n = length c.args.out.now in
    let a = subst (λ o. Answered c.args.who (calls.Read c.args.first (n / 512)) (session_of disk o) (session_of disk new) c.read_plan-answer.result) is
    (subst (λ z. Answered c.args.who (calls.Read c.args.first (n / z)) (session_of disk lent) (session_of disk new) c.read_plan-answer.result) sector
    (answered disk lent new c.args.who (calls.Read c.args.first (n / lent.layers.geometry.sector)) c.read_plan-answer.result e.sound e.events e.geometry e.session e.leaf e.early e.notes e.cause tt e.merge e.told)) in
    called_as disk old new c.args.who (calls.Read c.args.first (n / 512)) c.read_plan-answer.result a c.self.inside.first.value c.self.inside.full c.self.inside.broke c.self.inside.fault c.self.invariant c.full_behind-self-inside.result c.self.inside.copied c.self.inside.finished
    c.full_behind-self-inside.ensures c.broke_behind-self-inside.result c.fault_behind-self-inside.result c.broke_behind-self-inside.ensures c.fault_behind-self-inside.ensures c.args.self.now c.self.view_is

pub returns-clause-planned : goal.returns-clause-planned
returns-clause-planned g c =
    let e = c.read_plan-answer.ensures in
    let disk = g.S.Store.disk in
    let s = c.self.inside in
    let old = s.chain.value in
    let lent = c.deref_mut.result.now in
    let is = c.deref_mut.ensures.value in
    let sector = ap (λ o. o.layers.geometry.sector) is ∙ c.self.invariant.sound.sector in
    let new = c.read_plan-answer.new.self in
    let n = length c.args.out.now in
    let answer = c.read_plan-answer.result in
    let plan = c.read_plan-answer.new.plan in
    let out = c.read_plan-answer.new.out in
    let readers = c.args.readers.now in
    let size : length out ≡ n = (search rules) in
    let a = subst (λ o. Answered c.args.who (calls.Read c.args.first (n / 512)) (session_of disk o) (session_of disk new) answer) is
    (subst (λ z. Answered c.args.who (calls.Read c.args.first (n / z)) (session_of disk lent) (session_of disk new) answer) sector
    (answered disk lent new c.args.who (calls.Read c.args.first (n / lent.layers.geometry.sector)) answer e.sound e.events e.geometry e.session e.leaf e.early e.notes e.cause tt e.merge e.told)) in
    subst (λ seen. OnOk answer (IsPlanned disk seen (calls.Read c.args.first (n / 512)) readers plan out)) c.self.view_is
    (where_done disk old new c.args.who (calls.Read c.args.first (n / 512)) answer a s.first.value s.full s.broke s.fault c.self.invariant
    (λ whole finds. planned disk _ c.args.first (n / 512) readers plan out c.self.invariant whole c.self.invariant.sound.sector
    (subst (λ m. AllByRecursion (EndsBy (m / 512)) plan) (sym size) (subst (λ z. AllByRecursion (EndsBy (n / z)) plan) sector e.fit)) e.there (subst (λ o. LieInStore o.layers.geometry.sector (disk o.store) plan) is e.lie) finds)
    (subst (λ o. OnOk answer (FindsPlanned c.args.first (n / 512) plan out o.layers (disk o.store))) is
    (subst (λ z. OnOk answer (FindsPlanned c.args.first (n / z) plan out lent.layers (disk lent.store))) sector e.finds)))

pub invariant_of-self : goal.invariant_of-self
invariant_of-self g c =
    let e = c.read_plan-answer.ensures in
    let disk = g.S.Store.disk in
    let old = c.self.inside.chain.value in
    let lent = c.deref_mut.result.now in
    let is = c.deref_mut.ensures.value in
    let sector = ap (λ o. o.layers.geometry.sector) is ∙ c.self.invariant.sound.sector in
    let new = c.read_plan-answer.new.self in
    let n = length c.args.out.now in
    let a = subst (λ o. Answered c.args.who (calls.Read c.args.first (n / 512)) (session_of disk o) (session_of disk new) c.read_plan-answer.result) is
    (subst (λ z. Answered c.args.who (calls.Read c.args.first (n / z)) (session_of disk lent) (session_of disk new) c.read_plan-answer.result) sector
    (answered disk lent new c.args.who (calls.Read c.args.first (n / lent.layers.geometry.sector)) c.read_plan-answer.result e.sound e.events e.geometry e.session e.leaf e.early e.notes e.cause tt e.merge e.told)) in
    home_as disk old new c.args.who (calls.Read c.args.first (n / 512)) c.read_plan-answer.result a c.self.inside.first.value c.self.inside.full c.self.inside.broke c.self.inside.fault c.self.invariant c.full_behind-self-inside.result c.broke_behind-self-inside.result c.fault_behind-self-inside.result
    c.full_behind-self-inside.ensures c.broke_behind-self-inside.ensures c.fault_behind-self-inside.ensures

pub read_plan-answer-requires-clause-whole : goal.read_plan-answer-requires-clause-whole
read_plan-answer-requires-clause-whole g c = subst (λ z. length c.args.out.now % z ≡ 0) (sym (ap (λ o. o.layers.geometry.sector) c.deref_mut.ensures.value ∙ c.self.invariant.sound.sector)) c.requires
