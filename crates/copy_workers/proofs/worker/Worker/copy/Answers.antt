use Rattle.std.proofs.Common.{ap, inl, subst, sym}
use Rattle.copy_workers.specs.Settling.{ArePassed}
use Rattle.copy_workers.specs.Sources.{HasSource}
use Rattle.copy_workers.proofs.Fetching.{failed_on, source_later}
use Rattle.copy_workers.proofs.Settled.{passed_found, passed_swept}
use Rattle.copy_workers.proofs.Turns.{none_worked}
use Rattle.copy_workers.proofs.worker.Worker.copy.Goals as goal

pub returns-then-has-clause-worked : goal.returns-then-has-clause-worked
returns-then-has-clause-worked g c = none_worked c.args.self.now.seat 4 c.requires.own.1

pub returns-then-has-clause-left : goal.returns-then-has-clause-left
returns-then-has-clause-left g c =
    let within = c.has.ensures.0 c.if-has.true in
    inl (passed_swept c.args.stripe c.args.self.now.seat c.args.self.now.seat c.args.passed.now c.requires.passed within.0 within.1)

pub returns-in-Ok-clause-source : goal.returns-in-Ok-clause-source
returns-in-Ok-clause-source g c =
    subst (HasSource g.S.Store.disk c.deliver-answer.new.self.seat.basis) (sym (ap (λ s. s.reads) c.deliver-answer.ensures.only))
    (source_later g.S.Store.disk c.fetch.new.self.seat.basis c.deliver-answer.new.self.seat.basis c.fetch.new.self.reads c.deliver-answer.ensures.worked.keeps.basis.first c.in-Ok.ensures.source)

pub returns-in-Ok-clause-passed : goal.returns-in-Ok-clause-passed
returns-in-Ok-clause-passed g c = passed_found c.deliver-answer.new.self.seat.basis c.deliver-answer.result c.found_by.result c.found_by.ensures c.deliver-answer.ensures.passed

pub returns-in-Err-clause-failed : goal.returns-in-Err-clause-failed
returns-in-Err-clause-failed g c = (failed_on c.args.self.now.reads.readers c.fetch.new.self.reads.readers c.in-Err.field-0 c.fetch.new.self.unfetched c.saturating_add-self.result c.in-Err.ensures.err c.saturating_add-self.ensures).0

pub returns-in-Err-clause-passed : goal.returns-in-Err-clause-passed
returns-in-Err-clause-passed g c = subst (λ s. ArePassed s.basis c.args.passed.now) (sym (ap (λ s. s.seat) c.in-Err.ensures.only)) c.requires.passed
