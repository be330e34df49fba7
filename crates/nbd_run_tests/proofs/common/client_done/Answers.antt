use Rattle.std.proofs.Common.{◌≡◌, ◌≢◌, sym, ◌∙◌}
use Rattle.printing.specs.declared.status.Status.{Status}
use Rattle.printing.specs.declared.status.Status.TheVariants.{Done, Fault, NoMemory}
use Rattle.nbd_run_tests.proofs.common.client_done.Goals as goal

no_fault : (status : Status) → status ≡ Done → status ≢ Fault
no_fault status is fault = let never : Done ≡ Fault = sym is ∙ fault in cc

has_memory : (status : Status) → status ≡ Done → status ≢ NoMemory
has_memory status is none = let never : Done ≡ NoMemory = sym is ∙ none in cc

pub returns : goal.returns
returns g c = c.run_line-status.ensures (no_fault _ c.in-Done.is) (has_memory _ c.in-Done.is)
