use Rattle.std.proofs.Common.{ap}
use Rattle.mem_store.proofs.Idle.{none_idle}
use Rattle.nbd_run_tests.proofs.common.empty_host.Goals as goal

pub returns : goal.returns
returns c = none_idle _ (ap (λ h. h.folder) c.new.ensures)
