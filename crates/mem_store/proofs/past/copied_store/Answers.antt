use Rattle.mem_store.proofs.Copies.{none_made}
use Rattle.mem_store.proofs.past.copied_store.Goals as goal

pub returns-in_err-copied_files : goal.returns-in_err-copied_files
returns-in_err-copied_files c = none_made c.from_residual.result c.from_residual.ensures.0 _

pub returns-in_err-copied_order : goal.returns-in_err-copied_order
returns-in_err-copied_order c = none_made c.from_residual-in_err-copied_order.result c.from_residual-in_err-copied_order.ensures.0 _
