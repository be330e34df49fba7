use Rattle.file_open.specs.Causes.{of_fault}
use Rattle.file_open.proofs.Numbered.{passed_on}
use Rattle.file_open.proofs.Unread.{says_nothing, unread_left}
use Rattle.file_open.proofs.open.header_of.Goals as goal

pub returns-in_err-zone-clause-answer : goal.returns-in_err-zone-clause-answer
returns-in_err-zone-clause-answer g c t told = passed_on c.from_residual.result (of_fault c.in_err-zone.field-0.0) _ c.from_residual.ensures.1 (says_nothing _ c.in_err-zone.field-0.0)

pub returns-in_err-zone-clause-store : goal.returns-in_err-zone-clause-store
returns-in_err-zone-clause-store g c = unread_left c.args.file _ _ c.from_residual.result c.in_err-zone.field-0.0 c.from_residual.ensures.1 c.in_err-zone.ensures.store
