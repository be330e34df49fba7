use Rattle.std.proofs.Common.{◌≡◌, ◌≢◌, sym, ◌∙◌}
use Rattle.printing.specs.declared.status.Status.{Status}
use Rattle.printing.specs.declared.status.Status.TheVariants.{Refused, Fault, NoMemory}
use Rattle.nbd_run_tests.proofs.common.client_refused.Goals as goal

no_fault : (status : Status) → status ≡ Refused → status ≢ Fault
no_fault status is fault = let never : Refused ≡ Fault = sym is ∙ fault in cc

has_memory : (status : Status) → status ≡ Refused → status ≢ NoMemory
has_memory status is none = let never : Refused ≡ NoMemory = sym is ∙ none in cc

pub returns : goal.returns
returns g c = c.run_line-status.ensures (no_fault _ c.in-Refused.is) (has_memory _ c.in-Refused.is)
