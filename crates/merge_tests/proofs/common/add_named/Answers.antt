use Rattle.std.proofs.Common.{refl, ap}
use Rattle.mem_store.proofs.Idle.{more_idle}
use Rattle.merge_tests.proofs.common.add_named.Goals as goal

pub returns : goal.returns
returns g c = more_idle _ _ _ _ _ refl c.requires (ap (λ h. h.folder) (rw c.expect.ensures at c.put.ensures.ok))
