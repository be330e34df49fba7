use Rattle.mem_store.specs.HostTold.{hosted_by}
use Rattle.store_model.specs.Disk.{WhereTold}
use Rattle.link_rules.specs.Folders.{AllIdle}
use Rattle.nbd_run_tests.proofs.merges.ask_disk.Given as goal

abbrev pub invariant-loop-first : goal.invariant-loop-first
invariant-loop-first g l = WhereTold (hosted_by l.host).folder AllIdle
