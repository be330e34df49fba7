use Rattle.std.proofs.Common.{ap}
use Rattle.mem_store.proofs.Idle.{one_idle}
use Rattle.serve_tests.proofs.common.host_with.Goals as goal

pub returns : goal.returns
returns g c = one_idle _ _ _ _ (ap (λ h. h.folder) c.new-host.ensures) (ap (λ h. h.folder) (rw c.expect.ensures at c.put.ensures.ok))
