use Rattle.mem_store.specs.HostTold.{hosted_by}
use Rattle.store_model.specs.Disk.{WhereTold}
use Rattle.link_rules.specs.Folders.{AllIdle}
use Rattle.nbd_run_tests.proofs.common.prepare.Given as goal

abbrev pub invariant-loop-line : goal.invariant-loop-line
invariant-loop-line g l = WhereTold (hosted_by l.host).folder AllIdle
